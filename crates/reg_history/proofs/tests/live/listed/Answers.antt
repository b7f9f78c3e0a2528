use Rattle.std.proofs.Common.{◌≡◌, ℕ, ◌+◌, ◌<◌, List, [], ◌∷◌, ◌++◌, arith, refl}
use Rattle.std.specs.Prelude.{All}
use Rattle.std.proofs.lemmas.List.Quantifiers.{all_pairs_push}
use Rattle.std.proofs.lemmas.List.Elements.{All-append, All-cons, All-nil}
use Rattle.reg_model.specs.declared.update.Declared.{Declared}
use Rattle.reg_model.specs.Opening.{IsRising}
use Rattle.reg_history.proofs.tests.live.listed.Goals as goal

pushed : (list new : List Declared) (d : Declared) (id : ℕ) → new ≡ list ++ d ∷ [] → d.id ≡ id → IsRising list × All (λ (e : Declared). e.id < id) list → IsRising new × All (λ (e : Declared). e.id < id + 1) new
pushed list new d id is same h = rw is (
  all_pairs_push (λ (a b : Declared). a.id < b.id) list d h.0 (λ k e lt. omega (arith, h.1 k e lt, same)),
  All-append (λ (e : Declared). e.id < id + 1) list (d ∷ []) (λ k e lt. omega (arith, h.1 k e lt)) (All-cons (λ (e : Declared). e.id < id + 1) d [] (omega (arith, same)) (All-nil (λ (e : Declared). e.id < id + 1))),
)

pub loop-id-preserved : goal.loop-id-preserved
loop-id-preserved c = pushed _ _ _ _ c.in_ok-push.ensures.items refl c.loop-id.invariant
