use Rattle.std.proofs.Common.{◌<◌, ◌++◌, map, length, ap, ◌∙◌, sym, subst, arith}
use Rattle.std.proofs.lemmas.Bool.Decides.{nat_tests}
use Rattle.atomic_table.specs.Seated.{TableId}
use Rattle.reg_rule.specs.declared.view.Key.{Key}
use Rattle.reg_rule.specs.declared.view.View.{View}
use Rattle.reg_rule.specs.Rounds.{IsWordsPass, IsAtRest}
use Rattle.reg_rule.specs.Passes.{pass_view}
use Rattle.reg_rule.specs.inner.Ending.{account_in}
use Rattle.reg_rule.specs.inner.Plays.{Sat}
use Rattle.reg_rule.proofs.Gathering.{all_gathered, taken_first, first_of, others_of, gathered_more}
use Rattle.reg_rule.proofs.SeatsJoined.{joins}
use Rattle.reg_rule.proofs.finish.gather.Goals as goal

pub join_seat-requires : goal.join_seat-requires
join_seat-requires c =
    let i = c.loop-words.invariant in
    let more : 0 < length c.loop-words.passes.items = grind (arith, nat_tests) in
    let split = taken_first _ _ _ more c.remove-in-loop-words.ensures.value c.remove-in-loop-words.ensures.items in
    let own = first_of (IsWordsPass c.args.words.now) _ _ _ split i.own in
    let still = first_of (λ (p : TableId × View). IsAtRest p.1) _ _ _ split i.still in
    let table = sym (ap (λ (z : TableId × Key). z.0) c.words.view_is) in (
      i.table ∙ table,
      ap (λ (z : TableId × View). z.0) c.other.view_is ∙ (own.0 ∙ table),
      c.other.invariant.slots,
      omega (arith, c.words.invariant.0),
      joins _ _ _ _ _ i.live i.rest (subst (λ (z : TableId × View). IsAtRest z.1) (sym c.other.view_is) still),
    )

pub loop-words-preserved : goal.loop-words-preserved
loop-words-preserved c =
    let i = c.loop-words.invariant in
    let more : 0 < length c.loop-words.passes.items = grind (arith, nat_tests) in
    let split = taken_first _ _ _ more c.remove-in-loop-words.ensures.value c.remove-in-loop-words.ensures.items in
    let joined = c.join_seat.ensures.2 in record {
      table = c.join_seat.ensures.0 ∙ i.table;
      empty = ap (λ (z : Sat). z.1) joined ∙ i.empty;
      knows = ap (λ (z : Sat). z.0.key) joined ∙ i.knows;
      live = ap (λ (z : Sat). z.0.live) joined ∙ i.live;
      rest = subst (λ (z : Sat). IsAtRest z.0) (sym joined) i.rest;
      own = others_of (IsWordsPass c.args.words.now) _ _ _ split i.own;
      still = others_of (λ (p : TableId × View). IsAtRest p.1) _ _ _ split i.still;
      accounts = ap (λ (z : Sat). z.0.accounts ++ map (λ (p : TableId × View). account_in (pass_view p.1)) c.remove-in-loop-words.new.self.items) joined ∙ gathered_more c.loop-words.seat.me.0 c.other.inside.seat.me.0 _ _ _ _ split (ap (λ (z : TableId × View). z.1) c.other.view_is) c.other.invariant.one i.accounts;
    }

pub returns-clause-gathered : goal.returns-clause-gathered
returns-clause-gathered c =
    let i = c.loop-words.invariant in
    record {
      knows = i.knows;
      empty = i.empty;
      accounts = all_gathered _ _ _ (grind (arith, nat_tests)) i.accounts;
    }
