use Rattle.std.proofs.Common.{◌≡◌, take, map}
use Rattle.std.specs.List.{AllZip}
use Rattle.reg_top.specs.inner.RunFiles.{IsRead}
use Rattle.reg_top.proofs.run_files.read_files.Given as goal

-- the files so far were read
abbrev pub invariant-loop-at : goal.invariant-loop-at
invariant-loop-at g l =
    let shelf = g.F.Shelf in
    record {
      read : AllZip (IsRead (shelf.files l.fn.shelf)) (take l.at (map (λ name. name.now) l.names)) l.lists;
      quiet : shelf.fetch_faults l.shelf ≡ shelf.fetch_faults l.fn.shelf;
      same : shelf.files l.shelf ≡ shelf.files l.fn.shelf;
      puts : shelf.put_faults l.shelf ≡ shelf.put_faults l.fn.shelf;
    }
