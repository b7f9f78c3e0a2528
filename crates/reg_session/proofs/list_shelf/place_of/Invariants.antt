use Rattle.std.proofs.Common.{◌≡◌, drop, string_bytes}
use Rattle.std.specs.List.{position_from}
use Rattle.std.specs.Str.{bytes_eq}
use Rattle.reg_session.proofs.list_shelf.place_of.Given as goal

-- none of the files that the loop has passed has the name
abbrev pub invariant-loop-place : goal.invariant-loop-place
invariant-loop-place l =
    position_from (λ file. bytes_eq (string_bytes file.0) l.name) l.place (drop l.place l.files)
    ≡ position_from (λ file. bytes_eq (string_bytes file.0) l.name) 0 l.files
