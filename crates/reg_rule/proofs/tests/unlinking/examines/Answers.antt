use Rattle.std.proofs.Common.{ap, ◌∙◌}
use Rattle.reg_words.specs.declared.word.StampWord.TheVariants.{Dead}
use Rattle.reg_words.specs.Packing.{stamp_word}
use Rattle.reg_rule.proofs.TrialsSwept.{may_examine, examined}
use Rattle.reg_rule.proofs.tests.unlinking.examines.Goals as goal

pub load_stamp-requires-clause-may : goal.load_stamp-requires-clause-may
load_stamp-requires-clause-may c = may_examine c.args.pass.now.1 c.requires.key c.requires.log c.requires.holding

pub returns : goal.returns
returns c =
    let called = c.load_stamp.ensures in
    let view = examined c.args.pass.now.1 _ _ called.told (c.if-load_stamp-dead.false ∙ (c.pack-dead.ensures ∙ ap (λ k. stamp_word (Dead k 0 1)) c.in_ok-meta.ensures)) in
    λ x. (called.own.0 x, view x)
