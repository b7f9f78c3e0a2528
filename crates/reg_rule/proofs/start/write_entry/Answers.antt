use Rattle.std.proofs.Common.{◌+◌, set, ap, arith}
use Rattle.reg_words.specs.declared.layout.Areas.{Areas}
use Rattle.reg_rule.specs.declared.view.Key.{Key}
use Rattle.reg_rule.specs.Log.{At}
use Rattle.reg_rule.proofs.Carrying.{entry_written, at_read}
use Rattle.reg_rule.proofs.start.write_entry.Goals as goal

pub returns : goal.returns
returns c =
    let key : Key = c.args.key.now in let low = c.requires.entry in let room = c.requires.room.room in let same = c.requires.room.entries in
    let here : At key.carried.list c.args.entry c.index-list-entry.result = at_read _ _ _ _ _ c.list.ensures.list low c.index-list-entry.is in
    entry_written key c.args.words.now _ c.args.entry _ _ c.index-list-entry.result c.requires.filling here (omega arith) c.stamp_of.ensures.kind
    (ap (λ (z : Areas). z.code + c.args.entry) c.requires.areas) (ap (λ (z : Areas). z.stamp + c.args.entry) c.requires.areas)
    (ap (set _ _) c.stamp_of.ensures.stamp)
