-- A shelf of files in memory.
use Rattle.std.specs.Prelude.{ℕ, List, [], ◌∷◌, Option, Some, None, Result, Ok, Err, if◌then◌else◌}
use Rattle.std.specs.Str.{bytes_eq}
use Rattle.reg_session.specs.Faults.{one_more}
use Rattle.reg_session.specs.declared.shelf.PutFault.{PutFault}
use Rattle.reg_session.specs.declared.shelf.PutFault.TheVariants as puts

-- files with their names, the calls at which it fails, how many calls were made, and how many of its fetches and of its puts failed
pub record FileList : Type 0 where
  pub files : List (List ℕ × List ℕ)
  pub fail : List ℕ
  pub calls : ℕ
  pub faults : ℕ
  pub put_faults : ℕ

-- the bytes of the file with this name
abbrev pub file_at : List (List ℕ × List ℕ) → List ℕ → Option (List ℕ)
file_at [] name = None
file_at (file ∷ files) name = if bytes_eq file.0 name then Some file.1 else file_at files name

-- the files where the bytes stand in place of those of the first file with this name, or as a file at the end
abbrev pub put_file : List (List ℕ × List ℕ) → List ℕ → List ℕ → List (List ℕ × List ℕ)
put_file [] name bytes = (name, bytes) ∷ []
put_file (file ∷ files) name bytes = if bytes_eq file.0 name then (file.0, bytes) ∷ files else file ∷ put_file files name bytes

-- after a fetch that failed, and after a call that didn't fail and left the files
abbrev pub after_failure : FileList → FileList
after_failure shelf = record shelf { calls = one_more shelf.calls; faults = one_more shelf.faults }

abbrev pub after_call : FileList → FileList
after_call shelf = record shelf { calls = one_more shelf.calls }

-- after a put that failed, and after one with this answer
abbrev pub after_failed_put : FileList → FileList
after_failed_put shelf = record shelf { calls = one_more shelf.calls; put_faults = one_more shelf.put_faults }

abbrev pub after_put : FileList → List ℕ → List ℕ → Result (Unit {0}) PutFault → FileList
after_put shelf name bytes (Ok _) = record shelf { files = put_file shelf.files name bytes; calls = one_more shelf.calls }
after_put shelf name bytes (Err puts.Failed) = after_failed_put shelf
after_put shelf name bytes (Err puts.NoMemory) = after_call shelf
