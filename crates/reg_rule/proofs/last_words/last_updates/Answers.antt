use Rattle.std.proofs.Common.{◌≡◌, [], ◌∷◌, ◌++◌, ap, ◌∙◌, arith}
use Rattle.std.specs.Slots.{slots_items}
use Rattle.std.proofs.lemmas.Grind.{common_steps}
use Rattle.reg_model.specs.Limits.{Limits}
use Rattle.reg_rule.proofs.Shows.{at_inside}
use Rattle.reg_rule.proofs.WordsRead.{read_more, read_all}
use Rattle.reg_rule.proofs.last_words.last_updates.Goals as goal
use Rattle.reg_rule.proofs.last_words.last_updates.Goals.{else-loop-place-test, then-loop-place-test+in_default}

pub loop-place-preserved : goal.loop-place-preserved
loop-place-preserved c = record {
  capacity = grind (arith, common_steps);
  count = grind (arith, common_steps);
  within = λ key log is. let found = c.in-Some.ensures.found key log is in let inside = at_inside log c.loop-place.place found.0 found.1 in omega arith;
  read = λ key log is. let pushed : c.push.new.self.items ≡ c.loop-place.log.items ++ c.in-Some.update ∷ [] = grind (arith, common_steps) in read_more log c.loop-place.place _ _ _ (c.in-Some.ensures.found key log is) (c.loop-place.invariant.read key log is) pushed;
}

pub returns : goal.returns
returns c = λ key log sizes_are entries_are is.
    elim c.loop-place-test.branch [
      | else-loop-place-test w ↦
          c.from_vec.ensures ∙ read_all c.args.sizes.now (slots_items c.args.words.now.words) key log c.loop-place.place _ sizes_are entries_are
          (λ held. (c.loop-place.invariant.within key log held, c.loop-place.invariant.read key log held, omega (arith, held.room, ap (λ (s : Limits). s.log) sizes_are, w.loop-place-test.false, c.log-place-end.ensures))) is
      | then-loop-place-test+in_default w ↦
          c.from_vec.ensures ∙ read_all c.args.sizes.now (slots_items c.args.words.now.words) key log c.loop-place.place _ sizes_are entries_are
          (λ held. (c.loop-place.invariant.within key log held, c.loop-place.invariant.read key log held, w.in_default.ensures.none key log held)) is
    ]
