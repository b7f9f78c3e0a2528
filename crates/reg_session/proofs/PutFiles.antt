-- A put into files in memory: what the name has then, what the other names have, and where the bytes go.
use Rattle.std.proofs.Common.{◌≡◌, ◌≢◌, refl, sym, ◌∙◌, ap, subst, arith, ℕ, ◌+◌, suc, Bool, true, false, cond, Option, Some, None, Result, Ok, Err, List, [], ◌∷◌, ◌++◌, map, set, get_or}
use Rattle.std.specs.List.{position_from}
use Rattle.std.specs.Str.{bytes_eq}
use Rattle.std.proofs.lemmas.List.{map-append}
use Rattle.std.proofs.lemmas.Slice.Eq.{bytes_eq-Decides}
use Rattle.reg_session.specs.Files.{PutTells}
use Rattle.reg_session.specs.Shelves.{file_at, put_file}
use Rattle.reg_session.specs.declared.shelf.PutFault.{PutFault}
use Rattle.reg_session.specs.declared.shelf.PutFault.TheVariants as puts

-- one more than the number, or 0
abbrev mark : Option ℕ → ℕ
mark None = 0
mark (Some n) = n + 1

-- the name has the bytes
there : (b : Bool) (file : List ℕ × List ℕ) (files : List (List ℕ × List ℕ)) (name bytes : List ℕ) → bytes_eq file.0 name ≡ b → file_at (put_file files name bytes) name ≡ Some bytes
    → file_at (cond b ((file.0, bytes) ∷ files) (file ∷ put_file files name bytes)) name ≡ Some bytes
there true file files name bytes is rest = ap (λ b. cond b (Some bytes) (file_at files name)) is
there false file files name bytes is rest = ap (λ b. cond b (Some file.1) (file_at (put_file files name bytes) name)) is ∙ rest

pub put_there : (files : List (List ℕ × List ℕ)) (name bytes : List ℕ) → file_at (put_file files name bytes) name ≡ Some bytes
put_there [] name bytes = ap (λ b. cond b (Some bytes) None) ((bytes_eq-Decides name name).1 refl)
put_there (file ∷ files) name bytes = there (bytes_eq file.0 name) file files name bytes refl (put_there files name bytes)

-- the other names have what they had
no_name : (b : Bool) (own other : List ℕ) → other ≢ own → bytes_eq own other ≡ b → b ≡ false
no_name true own other apart is = absurd (apart (sym ((bytes_eq-Decides own other).0 is)))
no_name false own other apart is = refl

differs : (own other : List ℕ) → other ≢ own → bytes_eq own other ≡ false
differs own other apart = no_name (bytes_eq own other) own other apart refl

elsewhere : (b : Bool) (file : List ℕ × List ℕ) (files : List (List ℕ × List ℕ)) (name bytes other : List ℕ) → other ≢ name → bytes_eq file.0 name ≡ b
    → file_at (put_file files name bytes) other ≡ file_at files other
    → file_at (cond b ((file.0, bytes) ∷ files) (file ∷ put_file files name bytes)) other ≡ file_at (file ∷ files) other
elsewhere true file files name bytes other apart is rest =
    let off = differs file.0 other (subst (λ (own : List ℕ). other ≢ own) (sym ((bytes_eq-Decides file.0 name).0 is)) apart) in
    ap (λ b. cond b (Some bytes) (file_at files other)) off ∙ sym (ap (λ b. cond b (Some file.1) (file_at files other)) off)
elsewhere false file files name bytes other apart is rest = ap (λ (found : Option (List ℕ)). cond (bytes_eq file.0 other) (Some file.1) found) rest

pub put_elsewhere : (files : List (List ℕ × List ℕ)) (name bytes other : List ℕ) → other ≢ name → file_at (put_file files name bytes) other ≡ file_at files other
put_elsewhere [] name bytes other apart = ap (λ b. cond b (Some bytes) None) (differs name other apart)
put_elsewhere (file ∷ files) name bytes other apart = elsewhere (bytes_eq file.0 name) file files name bytes other apart refl (put_elsewhere files name bytes other apart)

-- the files after a put with this answer
abbrev pub Puts : List (List ℕ × List ℕ) → List (List ℕ × List ℕ) → List ℕ → List ℕ → Result (Unit {0}) PutFault → Type 0
Puts files after name bytes (Ok _) = after ≡ put_file files name bytes
Puts files after name bytes (Err _) = after ≡ files

pub put_tells : (files after : List (List ℕ × List ℕ)) (name bytes : List ℕ) (result : Result (Unit {0}) PutFault) → Puts files after name bytes result
    → PutTells (Some (file_at files)) (Some (file_at after)) name bytes result
put_tells files after name bytes (Ok _) is = (
  ap (λ (l : List (List ℕ × List ℕ)). file_at l name) is ∙ put_there files name bytes,
  λ other apart. ap (λ (l : List (List ℕ × List ℕ)). file_at l other) is ∙ put_elsewhere files name bytes other apart,
)
put_tells files after name bytes (Err puts.Failed) is = λ other apart. ap (λ (l : List (List ℕ × List ℕ)). file_at l other) is
put_tells files after name bytes (Err puts.NoMemory) is = ap (λ (l : List (List ℕ × List ℕ)). Some (file_at l)) is

module _ {X Y : Type 0} (text : X → List ℕ) (items : Y → List ℕ) where
  abbrev seen : List (X × Y) → List (List ℕ × List ℕ)
  seen files = map (λ (file : X × Y). (text file.0, items file.1)) files

  abbrev place_from : List (X × Y) → List ℕ → ℕ → Option ℕ
  place_from files name from = position_from (λ (file : X × Y). bytes_eq (text file.0) name) from files

  -- the file that gets the bytes, counted from the first one
  abbrev PutsAt : List (X × Y) → List ℕ → Y → X × Y → ℕ → ℕ → Type 0
  PutsAt files name copy held from place =
      (i : ℕ) × (place ≡ from + i) × (seen (set files i ((get_or files i held).0, copy)) ≡ put_file (seen files) name (items copy))

  at_place : (b : Bool) (file : X × Y) (files : List (X × Y)) (name : List ℕ) (copy : Y) (held : X × Y) (from place : ℕ) → bytes_eq (text file.0) name ≡ b
      → cond b (Some from) (place_from files name (from + 1)) ≡ Some place
      → (place_from files name (from + 1) ≡ Some place → PutsAt files name copy held (from + 1) place) → PutsAt (file ∷ files) name copy held from place
  at_place true file files name copy held from place is h rest =
      (0, omega (arith, ap mark h), sym (ap (λ b. cond b ((text file.0, items copy) ∷ seen files) ((text file.0, items file.1) ∷ put_file (seen files) name (items copy))) is))
  at_place false file files name copy held from place is h rest =
      let r = rest h in (
        suc r.0,
        omega (arith, r.1),
        ap (λ (l : List (List ℕ × List ℕ)). (text file.0, items file.1) ∷ l) r.2
            ∙ sym (ap (λ b. cond b ((text file.0, items copy) ∷ seen files) ((text file.0, items file.1) ∷ put_file (seen files) name (items copy))) is),
      )

  puts_from : (files : List (X × Y)) (name : List ℕ) (copy : Y) (held : X × Y) (from place : ℕ) → place_from files name from ≡ Some place → PutsAt files name copy held from place
  puts_from [] name copy held from place h = absurd (omega (arith, ap mark h))
  puts_from (file ∷ files) name copy held from place h =
      at_place (bytes_eq (text file.0) name) file files name copy held from place refl h (puts_from files name copy held (from + 1) place)

  -- the first file with the name gets the bytes
  pub put_at : (searched files : List (X × Y)) (name bytes : List ℕ) (copy : Y) (held : X × Y) (place : ℕ) → searched ≡ files → place_from searched name 0 ≡ Some place
      → held ≡ get_or files place held → items copy ≡ bytes → seen (set files place (held.0, copy)) ≡ put_file (seen files) name bytes
  put_at searched files name bytes copy held place same found is copied =
      let r = puts_from files name copy held 0 place (subst (λ (l : List (X × Y)). place_from l name 0 ≡ Some place) same found) in
      let at : place ≡ r.0 = omega (arith, r.1) in
      ap (λ (file : X × Y). seen (set files place (file.0, copy))) is
      ∙ ap (λ i. seen (set files i ((get_or files i held).0, copy))) at
      ∙ r.2
      ∙ ap (put_file (seen files) name) copied

  -- where there is no such file, it comes last
  at_end : (b : Bool) (file : X × Y) (files : List (X × Y)) (name bytes : List ℕ) (from : ℕ) → bytes_eq (text file.0) name ≡ b
      → cond b (Some from) (place_from files name (from + 1)) ≡ None
      → (place_from files name (from + 1) ≡ None → put_file (seen files) name bytes ≡ seen files ++ (name, bytes) ∷ []) → put_file (seen (file ∷ files)) name bytes ≡ seen (file ∷ files) ++ (name, bytes) ∷ []
  at_end true file files name bytes from is h rest = absurd (omega (arith, ap mark h))
  at_end false file files name bytes from is h rest =
      ap (λ b. cond b ((text file.0, bytes) ∷ seen files) ((text file.0, items file.1) ∷ put_file (seen files) name bytes)) is
      ∙ ap (λ (l : List (List ℕ × List ℕ)). (text file.0, items file.1) ∷ l) (rest h)

  last : (files : List (X × Y)) (name bytes : List ℕ) (from : ℕ) → place_from files name from ≡ None → put_file (seen files) name bytes ≡ seen files ++ (name, bytes) ∷ []
  last [] name bytes from h = refl
  last (file ∷ files) name bytes from h = at_end (bytes_eq (text file.0) name) file files name bytes from refl h (last files name bytes (from + 1))

  pub put_last : (searched files after : List (X × Y)) (name bytes : List ℕ) (named : X) (copy : Y) → searched ≡ files → place_from searched name 0 ≡ None
      → text named ≡ name → items copy ≡ bytes → after ≡ files ++ (named, copy) ∷ [] → seen after ≡ put_file (seen files) name bytes
  put_last searched files after name bytes named copy same found called copied is =
      ap seen is
      ∙ map-append (λ (file : X × Y). (text file.0, items file.1)) files ((named, copy) ∷ [])
      ∙ ap (λ (file : List ℕ × List ℕ). seen files ++ file ∷ []) (λ i. (called i, copied i))
      ∙ sym (last files name bytes 0 (subst (λ (l : List (X × Y)). place_from l name 0 ≡ None) same found))
