use Rattle.std.proofs.Common.{◌*◌, ◌^◌, ◌∙◌, sym, ap, refl, arith}
use Rattle.mih_plan.specs.Buckets.{bucket_of}
use Rattle.reg_words.specs.declared.layout.Areas.{Areas}
use Rattle.reg_rule.specs.declared.view.Key.{Key}
use Rattle.reg_rule.specs.Log.{At}
use Rattle.reg_rule.proofs.Carrying.{entry_pushed, at_read, placed}
use Rattle.reg_rule.proofs.start.push.Goals as goal

pub returns : goal.returns
returns c =
    let key : Key = c.args.key.now in let low = c.requires.at.1 in let room = c.requires.room.room in let same = c.requires.room.entries in
    let here : At key.carried.list c.args.entry c.index-list-entry.result = at_read _ _ _ _ _ c.list.ensures.list low c.index-list-entry.is in
    entry_pushed key c.args.words.now _ c.args.table c.args.entry _ _ _ c.index-list-entry.result c.requires.filling here low (omega arith) c.requires.at.0
    (sym (c.bucket_of-bucket.ensures.value ∙ (λ j. bucket_of (sym c.index-list-entry.is j).unit.body c.args.table (c.bits-bits.ensures j))))
    (placed _ _ _ _ _ (ap (λ (z : Areas). z.next) c.requires.areas) (ap (λ n. c.args.table * n) (c.entries-entries.ensures.value ∙ sym same)))
    (placed _ _ _ _ _ (ap (λ (z : Areas). z.head) c.requires.areas) (ap (λ n. c.args.table * n) (c.pow.ensures ∙ ap (λ n. 2 ^ n) c.bits-bits.ensures))) refl
