use Rattle.std.proofs.Common.{◌≡◌, ℕ, sym, ap, ◌∙◌, subst}
use Rattle.reg_model.specs.Limits.{Limits}
use Rattle.reg_rule.specs.declared.view.Key.{Key}
use Rattle.mih_chain.specs.Linking.{MayUnlink}
use Rattle.reg_sweep.proofs.Unlinks.{may_first, may_second, may_third, may_fourth, all_cut}
use Rattle.reg_sweep.proofs.reclaiming.unlink_all.Goals as goal

pub unlink-requires-clause-may : goal.unlink-requires-clause-may
unlink-requires-clause-may c =
    let bits : c.bits-bits.result ≡ c.args.pass.now.1.key.sizes.bits = c.bits-bits.ensures ∙ (ap (λ (l : Limits). l.bits) c.sizes-2.ensures.sizes ∙ ap (λ (k : Key). k.sizes.bits) (sym c.requires.own.1)) in
    subst (λ (n : ℕ). MayUnlink 0 n c.args.entry c.load_code-code.new.pass.1) (sym c.bucket_of.ensures.value) (may_first c.args.place c.requires.may.0 c.args.entry c.args.pass.now.1 c.requires.may.1 c.requires.seen c.load_code-code.result c.load_code-code.new.pass.1 c.load_code-code.ensures.told c.bits-bits.result bits)

pub unlink-requires-2-clause-may : goal.unlink-requires-2-clause-may
unlink-requires-2-clause-may c =
    let bits : c.bits-bits.result ≡ c.args.pass.now.1.key.sizes.bits = c.bits-bits.ensures ∙ (ap (λ (l : Limits). l.bits) c.sizes-2.ensures.sizes ∙ ap (λ (k : Key). k.sizes.bits) (sym c.requires.own.1)) in
    subst (λ (n : ℕ). MayUnlink 1 n c.args.entry c.unlink.new.pass.1) (sym c.bucket_of-2.ensures.value) (may_second c.args.place c.requires.may.0 c.args.entry c.args.pass.now.1 c.requires.may.1 c.requires.seen c.load_code-code.result c.load_code-code.new.pass.1 c.load_code-code.ensures.told c.bits-bits.result bits c.unlink.new.pass.1 c.unlink.ensures.unlinked)

pub unlink-requires-3-clause-may : goal.unlink-requires-3-clause-may
unlink-requires-3-clause-may c =
    let bits : c.bits-bits.result ≡ c.args.pass.now.1.key.sizes.bits = c.bits-bits.ensures ∙ (ap (λ (l : Limits). l.bits) c.sizes-2.ensures.sizes ∙ ap (λ (k : Key). k.sizes.bits) (sym c.requires.own.1)) in
    subst (λ (n : ℕ). MayUnlink 2 n c.args.entry c.unlink-2.new.pass.1) (sym c.bucket_of-3.ensures.value) (may_third c.args.place c.requires.may.0 c.args.entry c.args.pass.now.1 c.requires.may.1 c.requires.seen c.load_code-code.result c.load_code-code.new.pass.1 c.load_code-code.ensures.told c.bits-bits.result bits c.unlink.new.pass.1 c.unlink.ensures.unlinked c.unlink-2.new.pass.1 c.unlink-2.ensures.unlinked)

pub unlink-requires-4-clause-may : goal.unlink-requires-4-clause-may
unlink-requires-4-clause-may c =
    let bits : c.bits-bits.result ≡ c.args.pass.now.1.key.sizes.bits = c.bits-bits.ensures ∙ (ap (λ (l : Limits). l.bits) c.sizes-2.ensures.sizes ∙ ap (λ (k : Key). k.sizes.bits) (sym c.requires.own.1)) in
    subst (λ (n : ℕ). MayUnlink 3 n c.args.entry c.unlink-3.new.pass.1) (sym c.bucket_of-4.ensures.value) (may_fourth c.args.place c.requires.may.0 c.args.entry c.args.pass.now.1 c.requires.may.1 c.requires.seen c.load_code-code.result c.load_code-code.new.pass.1 c.load_code-code.ensures.told c.bits-bits.result bits c.unlink.new.pass.1 c.unlink.ensures.unlinked c.unlink-2.new.pass.1 c.unlink-2.ensures.unlinked c.unlink-3.new.pass.1 c.unlink-3.ensures.unlinked)

pub returns-clause-unlinked : goal.returns-clause-unlinked
returns-clause-unlinked c =
    let bits : c.bits-bits.result ≡ c.args.pass.now.1.key.sizes.bits = c.bits-bits.ensures ∙ (ap (λ (l : Limits). l.bits) c.sizes-2.ensures.sizes ∙ ap (λ (k : Key). k.sizes.bits) (sym c.requires.own.1)) in
    all_cut c.args.place c.requires.may.0 c.args.entry c.args.pass.now.1 c.requires.may.1 c.requires.seen c.load_code-code.result c.load_code-code.new.pass.1 c.load_code-code.ensures.told c.bits-bits.result bits c.unlink.new.pass.1 c.unlink.ensures.unlinked c.unlink-2.new.pass.1 c.unlink-2.ensures.unlinked c.unlink-3.new.pass.1 c.unlink-3.ensures.unlinked c.unlink-4.new.pass.1 c.unlink-4.ensures.unlinked
