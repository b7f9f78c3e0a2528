-- A new pass is fit.
use Rattle.std.proofs.Common.{◌≡◌, ℕ, zero, suc, ◌<◌, inl, List, [], ◌∷◌, length, map, get_or, All, None, Some, refl, sym, subst, arith}
use Rattle.atomic_table.specs.Seated.{TableId}
use Rattle.reg_rule.specs.declared.view.Key.{Key}
use Rattle.reg_rule.specs.declared.view.View.{View}
use Rattle.reg_rule.specs.Fresh.{fresh}
use Rattle.std.specs.List.{range_with_len}
use Rattle.std.proofs.lemmas.List.Elements.{All-map}
use Rattle.reg_model.specs.Desks.{HasNoSnapshot, new_pass, new_passes}
use Rattle.reg_rule.specs.Passes.{pass_view}
use Rattle.reg_free.specs.Fit.{IsFit}

no_some : (k : ℕ) → None ≡ Some k → ⊥
no_some k e = absurd cc

pub fresh_fit : (words : TableId × Key) (k : ℕ) (p : TableId × View) → p ≡ (words.0, fresh words.1 k 1) → IsFit words p
fresh_fit words k p is = subst (IsFit words) (sym is) (record {
  own = (refl, refl);
  one = omega arith;
  unheld = refl;
  unpinned = λ _. refl;
  opens = λ n e. absurd (no_some n e);
  helped = λ n e. absurd (no_some n e);
  alone = λ _. inl refl;
  hand = inl refl;
})

-- what all elements of a mapped list have
pub of_map : {A B : Type 0} (f : A → B) (P : B → Type 0) (xs : List A) → All P (map f xs) → (k : ℕ) (d : A) → k < length xs → P (f (get_or xs k d))
of_map f P [] h k d low = absurd (omega (arith, low))
of_map f P (x ∷ xs) h zero d low = h 0 (f d) (omega arith)
of_map f P (x ∷ xs) h (suc k) d low = of_map f P xs (λ j e l. h (suc j) e (omega (arith, l))) k d (omega (arith, low))

-- the passes of a round that begins show no snapshot
pub none_open : (base callers : ℕ) (passes : List (TableId × View)) → map (λ (p : TableId × View). pass_view p.1) passes ≡ new_passes base callers → All (λ (p : TableId × View). HasNoSnapshot (pass_view p.1)) passes
none_open base callers passes is = of_map (λ (p : TableId × View). pass_view p.1) HasNoSnapshot passes
    (subst (All HasNoSnapshot) (sym is) (All-map HasNoSnapshot (new_pass base) (range_with_len 0 callers) (λ k d low. refl)))
