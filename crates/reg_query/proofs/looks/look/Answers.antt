use Rattle.reg_query.proofs.Looking.{looked_none, looked_some}
use Rattle.std.proofs.Common.{refl, sym, subst, Option, arith}
use Rattle.reg_model.specs.declared.reply.Hit.{Hit as AHit}
use Rattle.reg_query.specs.inner.Walks.{Looked}
use Rattle.reg_query.proofs.looks.look.Goals as goal

pub returns-in_err-id-clause-looked : goal.returns-in_err-id-clause-looked
returns-in_err-id-clause-looked c =
    let st = c.load_stamp.ensures.told in
    (1, refl, subst (λ (h : Option AHit). Looked c.args.query.now c.args.probe.now c.args.entry c.args.pass.now.1 h 1 c.load_stamp.new.pass.1) (sym c.from_residual.ensures) (looked_none c.args.query.now c.args.probe.now c.args.entry c.load_stamp.result c.args.pass.now.1 c.load_stamp.new.pass.1 c.requires.asked c.requires.cursor st (c.in_err-id.ensures st.stamp st.bits st.word)))

pub returns-clause-looked : goal.returns-clause-looked
returns-clause-looked c =
    let st = c.load_stamp.ensures.told in (
      2,
      omega arith,
      looked_some c.args.query.now c.args.probe.now c.args.entry c.load_stamp.result c.args.pass.now.1 c.load_stamp.new.pass.1 c.requires.asked c.requires.cursor st
          c.in_ok-id.id c.load_code-body.result c.load_code-body.new.pass.1 (c.in_ok-id.ensures st.stamp st.bits st.word) c.load_code-body.ensures.told c.hit.result c.hit.ensures.some c.hit.ensures.none,
    )
