use Rattle.std.proofs.Common.{◌≡◌, [], ◌∷◌, ◌++◌, ◌-◌, length, ap, ◌∙◌, sym, arith}
use Rattle.atomic_table.specs.Seated.{TableId}
use Rattle.reg_rule.specs.declared.view.Key.{Key}
use Rattle.reg_rule.specs.declared.view.View.{View}
use Rattle.reg_rule.specs.Fresh.{fresh}
use Rattle.reg_rule.specs.inner.Plays.{Sat}
use Rattle.reg_rule.specs.Seatings.{head_part, tail_part}
use Rattle.reg_rule.proofs.Deals.{splits_fresh}
use Rattle.reg_rule.proofs.Deals.{dealt, head_fresh, tail_fresh}
use Rattle.reg_rule.proofs.start.deal.Goals as goal

pub split_seat-rest-requires : goal.split_seat-rest-requires
split_seat-rest-requires c = (c.loop-left.invariant.table ∙ sym (ap (λ (z : TableId × Key). z.0) c.words.view_is), (let w = c.words.invariant.0 in omega arith), splits_fresh _ _ (length c.loop-left.passes.items) c.loop-left.left _ (ap (λ (z : Sat). z.0) c.loop-left.invariant.me ∙ ap (λ (z : TableId × Key). fresh z.1 (length c.loop-left.passes.items) c.loop-left.left) (sym c.words.view_is)))

pub loop-left-preserved : goal.loop-left-preserved
loop-left-preserved c =
    let i = c.loop-left.invariant in let s = c.split_seat-rest.ensures in let many = c.loop-left-test.true in let count = i.count in
    let before : c.loop-left.seat.me.0 ≡ fresh c.args.words.now.1 (length c.loop-left.passes.items) c.loop-left.left = ap (λ (z : Sat). z.0) i.me in
    let d = dealt c.args.words.now c.loop-left.passes.items c.push.new.self.items c.split_seat-rest.new.seat.table_id c.split_seat-rest.new.seat.me.0 i.all (c.in_ok-push.ensures.items ∙ ap (λ (p : TableId × View). c.loop-left.passes.items ++ p ∷ []) c.new.ensures) (s.0 ∙ i.table)
    (ap (λ (z : Sat). z.0) s.2 ∙ (ap head_part before ∙ head_fresh c.args.words.now.1 (length c.loop-left.passes.items) c.loop-left.left (omega arith))) in
    let longer = d.1 in
    let rest : tail_part c.loop-left.seat.me.0 ≡ fresh c.args.words.now.1 (length c.push.new.self.items) (c.loop-left.left - 1) = ap tail_part before ∙ tail_fresh c.args.words.now.1 (length c.loop-left.passes.items) c.loop-left.left (length c.push.new.self.items) (omega arith) d.1 in
    record {
      table = s.3 ∙ i.table;
      me = s.4 ∙ ap (λ (z : View). let x : Sat = (z, []) in x) rest;
      count = omega arith;
      some = omega arith;
      all = d.0;
    }

pub returns : goal.returns
returns c =
    let i = c.loop-left.invariant in let few = c.loop-left-test.false in let some = i.some in let count = i.count in let one : c.loop-left.left ≡ 1 = omega arith in
    let d = dealt c.args.words.now c.loop-left.passes.items c.push-2.new.self.items c.loop-left.seat.table_id c.loop-left.seat.me.0 i.all (c.in_ok-push-2.ensures.items ∙ ap (λ (p : TableId × View). c.loop-left.passes.items ++ p ∷ []) c.new-2.ensures) i.table
    (ap (λ (z : Sat). z.0) i.me ∙ ap (fresh c.args.words.now.1 (length c.loop-left.passes.items)) one) in
    let longer = d.1 in (omega arith, d.0)
