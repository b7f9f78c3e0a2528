use Rattle.std.proofs.Common.{◌≡◌, ℕ, ◌+◌, ◌-◌, length}
use Rattle.reg_rule.specs.Rounds.{IsWordsPass}
use Rattle.reg_query.specs.inner.Walks.{IsWalkingAlong, left_of}
use Rattle.reg_query.proofs.looks.walk_bucket.Given as goal

abbrev pub invariant-loop-at : goal.invariant-loop-at
invariant-loop-at l = record {
  own : IsWordsPass l.words l.pass;
  looks : ℕ;
  looked : l.listing.looked ≡ l.fn.listing.looked + looks;
  walking : IsWalkingAlong l.query l.probe l.fn.told l.fn.pass.1 l.fn.listing.hits.items l.at l.listing.hits.items looks l.pass.1;
}

abbrev pub decreases-loop-at : goal.decreases-loop-at
decreases-loop-at l = left_of l.at (l.words.1.entries - length l.pass.1.visited)
