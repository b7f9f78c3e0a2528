use Rattle.std.proofs.Common.{length}
use Rattle.reg_history.specs.inner.LiveSets.{live_bodies}
use Rattle.reg_history.proofs.ledger.LiveEntries.{IsPacked}
use Rattle.reg_history.proofs.ledger.kind_list.pack_live.Given as goal

-- the live bodies so far have come to the front
abbrev pub invariant-loop-place : goal.invariant-loop-place
invariant-loop-place l = IsPacked l.marks (live_bodies l.marks l.initial.bodies) (length l.initial.bodies) l.place l.kept l.bodies
