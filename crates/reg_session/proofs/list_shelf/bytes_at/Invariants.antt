use Rattle.std.proofs.Common.{◌≡◌, map, drop, string_bytes}
use Rattle.reg_session.specs.Shelves.{file_at}
use Rattle.reg_session.proofs.list_shelf.bytes_at.Given as goal

-- none of the files that the loop has passed has the name
abbrev pub invariant-loop-file : goal.invariant-loop-file
invariant-loop-file l =
    file_at (map (λ file. (string_bytes file.0, file.1.items)) (drop l.file-index l.files)) l.name
    ≡ file_at (map (λ file. (string_bytes file.0, file.1.items)) l.files) l.name
