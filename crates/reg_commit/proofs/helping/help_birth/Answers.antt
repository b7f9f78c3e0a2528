use Rattle.std.proofs.Common.{sym, ap, ◌∙◌, subst, arith}
use Rattle.reg_model.specs.Opening.{IsOpening}
use Rattle.reg_rule.specs.declared.view.Key.{Key}
use Rattle.reg_commit.proofs.Helped.{may_note, may_birth}
use Rattle.reg_commit.proofs.helping.help_birth.Goals as goal

pub store_note-requires-clause-may : goal.store_note-requires-clause-may
store_note-requires-clause-may c =
    let same = c.carried.ensures.carried ∙ sym (ap (λ (k : Key). k.carried) c.requires.own.1) in let d = c.requires.declares in
    may_note c.args.pass.now.1 _ c.args.place c.args.entry c.load_code-body.result _ d.0 (subst IsOpening same c.list-carried.ensures.opening) c.requires.seen c.requires.helps d.1 c.load_code-body.ensures.told (omega arith)

pub swap_birth-requires-clause-may : goal.swap_birth-requires-clause-may
swap_birth-requires-clause-may c =
    let d = c.requires.declares in let id = d.3 in
    may_birth c.args.pass.now.1 _ _ c.args.place c.args.entry c.pack.result c.args.kind _ d.0 c.requires.seen c.requires.helps d.1 c.load_code-body.ensures.told.view.2 c.store_note.ensures.told d.2 (omega arith) c.pack.ensures
