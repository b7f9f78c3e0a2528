-- What the tests owe of the passes of a new round.
use Rattle.std.proofs.Common.{◌≡◌, ℕ, ◌+◌, ◌<◌, inr, List, [], ◌∷◌, ◌++◌, length, get_or, slice_get, sym, ap, ◌∙◌, refl, subst, arith, length-append}
use Rattle.std.specs.Prelude.{All}
use Rattle.std.proofs.lemmas.Option.{slice_get-get_or}
use Rattle.atomic_table.specs.Seated.{TableId}
use Rattle.reg_words.specs.Packing.{sweep_word}
use Rattle.reg_rule.specs.declared.view.Key.{Key}
use Rattle.reg_rule.specs.declared.view.View.{View}
use Rattle.reg_rule.specs.Fresh.{unswept, fresh}
use Rattle.reg_rule.specs.Moves.{holding_of, seized}
use Rattle.reg_rule.specs.Conditions.{MayStoreSweep}
use Rattle.reg_rule.specs.Rounds.{AllFresh, IsAtRest}

-- the first pass
pub dealt_first : (words : TableId × Key) (all : List (TableId × View)) (p : TableId × View) → AllFresh words all → 0 < length all → p ≡ get_or all 0 p → p ≡ (words.0, fresh words.1 0 1)
dealt_first words [] p new some is = absurd (omega arith)
dealt_first words (q ∷ all) p new some is = is ∙ new 0 q refl

-- the passes of two sessions, taken from the end
pub dealt_two : (words : TableId × Key) (all some none_left : List (TableId × View)) (first second : TableId × View) → AllFresh words all → length all ≡ 2 → all ≡ some ++ second ∷ [] → some ≡ none_left ++ first ∷ []
    → (first ≡ (words.0, fresh words.1 0 1)) × (second ≡ (words.0, fresh words.1 1 1))
dealt_two words all some [] first second new two last before =
    let both : all ≡ first ∷ second ∷ [] = last ∙ ap (λ (l : List (TableId × View)). l ++ second ∷ []) before in
    (new 0 first (ap (λ (l : List (TableId × View)). slice_get l 0) both), new 1 second (ap (λ (l : List (TableId × View)). slice_get l 1) both))
dealt_two words all some (p ∷ more) first second new two last before =
    let a : length all ≡ length some + 1 = ap length last ∙ length-append some (second ∷ []) in let b : length some ≡ length (p ∷ more) + 1 = ap length before ∙ length-append (p ∷ more) (first ∷ []) in absurd (omega arith)

-- a pass that has done nothing but take the sweep may give it back as it was
pub may_give_back : (key : Key) (n new : ℕ) (w : View) → w ≡ seized (fresh key n 1) → new ≡ sweep_word unswept → MayStoreSweep new unswept w
may_give_back key n new w is word = subst (MayStoreSweep new unswept) (sym is) record {
  holding = (holding_of unswept, refl, inr (refl, refl, refl, omega arith, omega arith, λ d id entry low high. absurd (omega arith)));
  word_is = word;
}

-- a new pass may be handed in
pub new_rest : (words : TableId × Key) (passes : List (TableId × View)) → AllFresh words passes → All (λ (p : TableId × View). IsAtRest p.1) passes
new_rest words passes new k d low = subst (λ (p : TableId × View). IsAtRest p.1) (sym (new k (get_or passes k d) (slice_get-get_or passes k d low))) (refl, refl)
