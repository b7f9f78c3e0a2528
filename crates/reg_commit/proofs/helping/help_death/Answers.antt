use Rattle.std.proofs.Common.{◌≡◌, ℕ, sym, ap, ◌∙◌, subst, rules, arith}
use Rattle.reg_model.specs.Limits.{Limits}
use Rattle.reg_rule.specs.declared.view.Key.{Key}
use Rattle.reg_rule.specs.Conditions.{MaySwapDeath}
use Rattle.reg_words.specs.declared.word.StampWord.TheVariants.{Live}
use Rattle.reg_words.specs.Packing.{stamp_word}
use Rattle.reg_commit.specs.inner.Kinds.{kind_sought}
use Rattle.reg_commit.proofs.Logs.{wd_declares}
use Rattle.reg_commit.proofs.Helped.{dead_word, may_bury}
use Rattle.reg_commit.proofs.helping.help_death.Goals as goal

pub kind_of-requires-clause-declared : goal.kind_of-requires-clause-declared
kind_of-requires-clause-declared c = wd_declares c.args.pass.now.1.key c.args.pass.now.1.log c.args.place c.args.id c.args.entry c.requires.seen c.requires.withdraws

pub returns-in_default : goal.returns-in_default
returns-in_default c =
    let d = wd_declares c.args.pass.now.1.key c.args.pass.now.1.log c.args.place c.args.id c.args.entry c.requires.seen c.requires.withdraws in
    let some = c.in_default.ensures.kind d.0 d.1 in
    absurd (cc)

pub pack-requires-2 : goal.pack-requires-2
pack-requires-2 c =
    let fits = c.in-Some.ensures.fits in let last = c.requires.helps.0 in let room = c.requires.seen.room in let range = c.callers-range.ensures.range.log.1 in
    let most : c.sizes.result.now.log ≡ c.args.pass.now.1.key.sizes.log = ap (λ (z : Limits). z.log) (c.sizes.ensures.sizes ∙ sym (ap (λ (k : Key). k.sizes) c.requires.own.1)) in
    (fits.0, fits.1, omega arith)

pub swap_death-requires-clause-may : goal.swap_death-requires-clause-may
swap_death-requires-clause-may c =
    let d = wd_declares c.args.pass.now.1.key c.args.pass.now.1.log c.args.place c.args.id c.args.entry c.requires.seen c.requires.withdraws in
    let some = c.in-Some.ensures.kind d.0 d.1 in
    let kind : c.in-Some.kind ≡ d.0.kind = cc in
    let may = may_bury c.args.pass.now.1 c.args.place c.args.id c.args.entry c.pack.result c.pack-2.result d.0 c.requires.seen c.requires.helps c.requires.withdraws d.1
    (c.pack.ensures ∙ ap (λ (k : ℕ). stamp_word (Live k c.args.id)) kind) (dead_word d.0.kind c.in-Some.kind c.args.id _ c.args.place c.pack-2.result c.pack-2.ensures kind (omega arith)) in
    let view : c.kind_of.new.pass.1 ≡ kind_sought c.args.id c.args.pass.now.1 = search rules in
    subst (MaySwapDeath c.args.entry c.pack.result c.pack-2.result) (sym view) may
