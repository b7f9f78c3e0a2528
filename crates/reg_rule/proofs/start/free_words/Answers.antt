use Rattle.std.proofs.Common.{◌+◌, length, ap, refl, arith}
use Rattle.reg_words.specs.declared.layout.Areas.{Areas}
use Rattle.reg_rule.specs.declared.view.Key.{Key}
use Rattle.reg_rule.proofs.Filling.{filled_none, filled_more, filled_all}
use Rattle.reg_rule.proofs.start.free_words.Goals as goal

pub loop-i-init : goal.loop-i-init
loop-i-init c =
    let key : Key = c.args.key.now in let list = ap length c.list-carried.ensures.list in let entries = c.entries-entries.ensures.value in let same = c.requires.room.entries in let room = c.requires.room.room in
    record { filled = filled_none key _ _ _ _ _ (ap (λ (z : Areas). z.total) c.requires.areas) (omega arith) (ap (λ (z : Areas). z.put) c.requires.areas) (c.in_ok-words.ensures.items_if_clones_equal (λ y e. e)) refl }

pub loop-i-preserved : goal.loop-i-preserved
loop-i-preserved c =
    let key : Key = c.args.key.now in let list = ap length c.list-carried.ensures.list in let entries = c.entries-entries.ensures.value in let same = c.requires.room.entries in let more = c.loop-i-test.true in
    record { filled = filled_more key c.loop-i.i _ _ c.loop-i.words.items _ c.loop-i.invariant.filled (omega arith) (omega arith) (ap (λ (z : Areas). z.give + c.loop-i.i) c.requires.areas) refl }

pub returns : goal.returns
returns c =
    let key : Key = c.args.key.now in let list = ap length c.list-carried.ensures.list in let entries = c.entries-entries.ensures.value in let same = c.requires.room.entries in let room = c.requires.room.room in
    let done = c.loop-i-test.false in let most = c.loop-i.auto.i-end in filled_all key c.loop-i.words.items c.loop-i.i (omega arith) c.loop-i.invariant.filled
