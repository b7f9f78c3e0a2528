-- What the tests owe their steps and calls.
use Rattle.std.proofs.Common.{◌≡◌, ◌≢◌, ℕ, zero, suc, ◌+◌, ◌<◌, false, List, [], ◌∷◌, ◌++◌, None, refl, sym, ap, ◌∙◌, subst, arith}
use Rattle.std.proofs.Math.Nat.{mod-eq_of_lt}
use Rattle.reg_rule.specs.declared.told.Told.TheVariants.{Nothing, Sweeps}
use Rattle.reg_rule.specs.declared.view.Key.{Key}
use Rattle.reg_rule.specs.declared.view.View.{View}
use Rattle.reg_rule.specs.Tables.{is_in}
use Rattle.reg_rule.specs.Moves.{new_hand, stored_held, take_loaded, on_hand, written}
use Rattle.reg_rule.specs.Conditions.{MayStoreHeld, MayLoadGive}
use Rattle.reg_rule.specs.Steps.{PutLoaded}
use Rattle.reg_rule.specs.inner.Trials.{tables_below, written_hand}
use Rattle.mih_chain.specs.Linking.{IsUnlinkedHand, Linked, linked_in}

not_sweeps : Nothing ≢ Sweeps
not_sweeps e = absurd (cc)

-- the count is that of an entry, and a ring place
pub may_load_give : (v u w : View) (count found : ℕ) → w.key ≡ v.key → count < v.key.entries → u ≡ take_loaded v count → PutLoaded Nothing u found w → found ≢ count → MayLoadGive count w
may_load_give v u w count found same inside took put other =
    let room = put.room count not_sweeps (ap (λ (z : View). z.taking) took) other in
    let below : count < w.key.entries = subst (λ (k : Key). count < k.entries) (sym same) inside in
    (count, found, ap (λ (z : View). z.taking) room.1, sym (mod-eq_of_lt below))

-- the stamp of the entry in hand was stored
pub may_store_code : (v w : View) (entry : ℕ) → v.hands ≡ new_hand entry ∷ [] → entry < v.key.entries → w ≡ stored_held v None → MayStoreHeld w
may_store_code v w entry hand inside stored = (
  written None (new_hand entry),
  ap (λ (z : View). z.hands) stored ∙ ap (on_hand (written None)) hand,
  subst (λ (z : View). entry < z.key.entries) (sym stored) inside,
  refl,
)

not_below : (table : ℕ) → table < 4 → is_in table (tables_below table) ≡ false
not_below zero low = refl
not_below (suc zero) low = refl
not_below (suc (suc zero)) low = refl
not_below (suc (suc (suc zero))) low = refl
not_below (suc (suc (suc (suc n)))) low = absurd (omega arith)

module _ (v : View) (entry code table : ℕ) (hand : v.hands ≡ written_hand entry code table ∷ []) where
  pub may_link : entry < v.key.entries → table < 4 → IsUnlinkedHand v entry code table
  may_link inside low = (written_hand entry code table, hand, refl, inside, refl, refl, not_below table low)

  -- and then it is linked in one table more
  pub linked_more : (w : View) → Linked v table w → (made : List ℕ) × (w ≡ record v { hands = written_hand entry code (table + 1) ∷ []; made = made })
  linked_more w told = (v.made ++ told.steps, told.view ∙ (λ j. record v { hands = hands j; made = v.made ++ told.steps })) where
    one : table + 1 ≡ suc table
    one = omega arith

    hands : on_hand (linked_in table) v.hands ≡ written_hand entry code (table + 1) ∷ []
    hands = ap (on_hand (linked_in table)) hand ∙ ap (λ (n : ℕ). written_hand entry code n ∷ []) (sym one)
