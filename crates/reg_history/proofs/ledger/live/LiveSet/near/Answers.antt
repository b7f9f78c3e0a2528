use Rattle.std.proofs.Common.{List, Result, Ok, Err, sym, subst}
use Rattle.std.specs.Prelude.{IfOk}
use Rattle.reg_model.specs.declared.reply.Hit.{Hit}
use Rattle.reg_history.specs.inner.LiveSets.{AreByKind}
use Rattle.reg_history.proofs.ledger.ByKind.{near_kind}
use Rattle.reg_history.proofs.ledger.live.LiveSet.near.Goals as goal

joined : {E : Type 0} (r : Result (List Hit) E) (P Q R : List Hit → Type 0) → ((hits : List Hit) → P hits → Q hits → R hits) → IfOk r P → IfOk r Q → IfOk r R
joined (Ok hits) P Q R both p q = both hits p q
joined (Err why) P Q R both p q = tt

pub returns : goal.returns
returns c =
    joined c.near.result _ _ _ (λ hits exactly order live by.
    near_kind c.self.inside.kinds.items live (subst (λ kinds. AreByKind kinds live) (sym c.self.view_is) by) c.args.unit c.args.radius c.index.result.now c.number-kind.ensures.range
    (rw c.number-kind.ensures.value at c.index.ensures) hits exactly order) c.near.ensures.exactly c.near.ensures.order
