use Rattle.std.proofs.Common.{◌≡◌, ◌≤◌, List, length, take, vec_capacity}
use Rattle.std.specs.Slots.{slots_items}
use Rattle.reg_rule.specs.declared.view.Key.{Key}
use Rattle.reg_rule.specs.declared.view.Place.{Place}
use Rattle.reg_rule.specs.Log.{updates}
use Rattle.reg_rule.specs.ReadersLog.{IsLogOf}
use Rattle.reg_rule.specs.inner.LastWords.{cells_in}
use Rattle.reg_rule.proofs.last_words.last_updates.Given as goal

-- the updates that were read are those at the places passed
abbrev pub invariant-loop-place : goal.invariant-loop-place
invariant-loop-place l = record {
  capacity : l.sizes.log ≤ vec_capacity l.log;
  count : length l.log.items ≡ l.place;
  within : (key : Key) (log : List Place) → IsLogOf key (cells_in l.sizes (slots_items l.words.words)) log → l.place ≤ length log;
  read : (key : Key) (log : List Place) → IsLogOf key (cells_in l.sizes (slots_items l.words.words)) log → l.log.items ≡ updates (take l.place log);
}
