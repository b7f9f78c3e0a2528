-- What the tests owe their calls.
use Rattle.std.proofs.Common.{◌≡◌, ◌≢◌, ℕ, zero, suc, ◌-◌, ◌*◌, ◌/◌, ◌%◌, ◌^◌, ◌<◌, false, List, [], ◌∷◌, ◌++◌, length, replicate, None, Some, refl, sym, ap, ◌∙◌, subst, arith}
use Rattle.std.proofs.Math.Nat.{mod-eq_of_lt}
use Rattle.std.proofs.lemmas.List.{append-nil}
use Rattle.reg_model.specs.declared.update.Update.{Update}
use Rattle.reg_model.specs.declared.update.Update.TheVariants.{Decl, Wd}
use Rattle.reg_words.specs.Packing.{log_word}
use Rattle.reg_rule.specs.declared.view.Key.{Key}
use Rattle.reg_rule.specs.Log.{place_of, place_word}
use Rattle.reg_rule.specs.declared.told.Told.TheVariants.{Nothing, Sweeps}
use Rattle.reg_rule.specs.declared.view.Hand.{Hand}
use Rattle.reg_rule.specs.declared.view.Place.{Place}
use Rattle.reg_rule.specs.declared.view.View.{View}
use Rattle.reg_rule.specs.Links.{link_word}
use Rattle.reg_rule.specs.Tables.{is_in}
use Rattle.reg_rule.specs.Moves.{with_step, passed, at_front, took, new_hand, stored_held, take_loaded, made_ready, on_hand, written}
use Rattle.reg_rule.specs.Conditions.{MayCommit, MayStoreHeld, MayLoadGive, MayStoreNext, MaySwapHead}
use Rattle.reg_rule.specs.Steps.{PutLoaded}
use Rattle.reg_rule.specs.inner.Trials.{tables_below, written_hand, meta_place}
use Rattle.reg_commit.specs.Fronts.{FrontFound}
use Rattle.reg_commit.specs.Takes.{Took}
use Rattle.reg_commit.specs.inner.Trials.{Knows, prepared, overtaken}

-- ---- the front

empty_list : (l : List Place) → length l ≡ 0 → l ≡ []
empty_list [] e = refl
empty_list (p ∷ l) e = absurd (omega arith)

-- nothing was newly seen
pub front_behind : (v w : View) (front place : ℕ) → FrontFound Nothing v front w → front ≡ place → place ≡ length v.log → (made : List ℕ) × (w ≡ record (at_front Nothing v place) { made = made })
front_behind v w front place found is behind =
    let none : found.places ≡ [] = (let a = found.front_is in empty_list found.places (omega arith)) in
    let log : v.log ++ found.places ≡ v.log = ap (λ (l : List Place). v.log ++ l) none ∙ append-nil v.log in
    let made : List ℕ = v.made ++ replicate found.loads 1 in
    (made, found.view ∙ (λ j. record (at_front Nothing v (is j)) { log = log j; made = made }))

-- ---- entries

-- whatever the steps were, this entry was taken
pub taken_is : (v w : View) (taken entry : ℕ) → Took v taken w → taken ≡ entry → (made : List ℕ) × (w ≡ record (took v entry) { made = made })
taken_is v w taken entry told is = (v.made ++ told.steps, told.view ∙ (λ j. record (took v (is j)) { made = v.made ++ told.steps }))

not_sweeps : Nothing ≢ Sweeps
not_sweeps e = absurd (cc)

-- the count 0 is a ring place
pub may_load_first : (v u w : View) (found : ℕ) → w.key ≡ v.key → 0 < v.key.entries → u ≡ take_loaded v 0 → PutLoaded Nothing u found w → found ≢ 0 → MayLoadGive 0 w
may_load_first v u w found same some took put other =
    let room = put.room 0 not_sweeps (ap (λ (z : View). z.taking) took) other in
    let below : 0 < w.key.entries = subst (λ (k : Key). 0 < k.entries) (sym same) some in
    (0, found, ap (λ (z : View). z.taking) room.1, sym (mod-eq_of_lt below))

-- the stamp of the entry in hand was stored
pub may_store_code : (v w : View) (entry : ℕ) → v.hands ≡ new_hand entry ∷ [] → entry < v.key.entries → w ≡ stored_held v None → MayStoreHeld w
may_store_code v w entry hand inside stored = (
  written None (new_hand entry),
  ap (λ (z : View). z.hands) stored ∙ ap (on_hand (written None)) hand,
  subst (λ (z : View). entry < z.key.entries) (sym stored) inside,
  refl,
)

not_below : (table : ℕ) → table < 4 → is_in table (tables_below table) ≡ false
not_below zero low = refl
not_below (suc zero) low = refl
not_below (suc (suc zero)) low = refl
not_below (suc (suc (suc zero))) low = refl
not_below (suc (suc (suc (suc n)))) low = absurd (omega arith)

pub may_store_next : (v w : View) (entry table : ℕ) → v.hands ≡ written_hand entry 0 table ∷ [] → entry < v.key.entries → table < 4 → w ≡ with_step v 13 → MayStoreNext table w
may_store_next v w entry table hand inside low loaded = record {
  table_is = low;
  hand = (written_hand entry 0 table, ap (λ (z : View). z.hands) loaded ∙ hand, subst (λ (z : View). entry < z.key.entries) (sym loaded) inside, refl, refl, not_below table low);
}

no_bucket : (table bits : ℕ) → table < 4 → bits ≡ 4 → 0 ≡ 0 / 2 ^ (48 - 16 * table) % 2 ^ bits
no_bucket zero bits low is = ap (λ (b : ℕ). 0 / 2 ^ 48 % 2 ^ b) (sym is)
no_bucket (suc zero) bits low is = ap (λ (b : ℕ). 0 / 2 ^ 32 % 2 ^ b) (sym is)
no_bucket (suc (suc zero)) bits low is = ap (λ (b : ℕ). 0 / 2 ^ 16 % 2 ^ b) (sym is)
no_bucket (suc (suc (suc zero))) bits low is = ap (λ (b : ℕ). 0 / 2 ^ 0 % 2 ^ b) (sym is)
no_bucket (suc (suc (suc (suc n)))) bits low is = absurd (omega arith)

-- the code 0 is of the bucket 0
pub may_swap_head : (v u w : View) (entry table old : ℕ) → v.hands ≡ written_hand entry 0 table ∷ [] → v.key.sizes.bits ≡ 4 → table < 4 → u ≡ with_step v 13 → w ≡ made_ready u table old
    → MaySwapHead table 0 old (link_word entry) w
may_swap_head v u w entry table old hand bits low loaded stored =
    let here = stored ∙ ap (λ (z : View). made_ready z table old) loaded in
    record {
      table_is = low;
      hand = (
        record (written_hand entry 0 table) { ready = Some (record { table = table; word = old }) },
        0,
        ap (λ (z : View). z.hands) here ∙ ap (on_hand (λ (h : Hand). record h { ready = Some (record { table = table; word = old }) })) hand,
        refl,
        refl,
        not_below table low,
        refl,
        no_bucket table _ low (ap (λ (z : View). z.key.sizes.bits) here ∙ bits),
        refl,
      );
    }

-- ---- a place that another filled

-- the word tells a declaration of the kind META in entry 0, but not its body
meta_first : (update : Update) (entry : ℕ) → place_word 0 0 (place_of update entry) ≡ 1 → (body : ℕ) × (place_of update entry ≡ meta_place body 0)
unfolding log_word
meta_first (Decl unit) entry e =
    let kind : unit.kind ≡ 0 = omega arith in let first : entry ≡ 0 = omega arith in
    (unit.body, λ x. place_of (Decl (record { kind = kind x; body = unit.body })) (first x))
meta_first (Wd id) entry e = absurd (omega arith)

module _ {T : Type 0} (words : T × Key) (pass : T × View) (knows : Knows words pass (prepared 2 1)) where
  pub may_be_late : (kind : ℕ) → kind ≡ 0 → MayCommit pass.1 (Decl (record { kind = kind; body = 0 })) 1
  may_be_late kind meta = (written_hand 1 0 4, ap (λ (z : T × View). z.1.hands) knows.1, refl, refl, refl, refl, omega arith)

  pub is_late : (new : T × View) (q : Place) (found : ℕ) → found ≡ 1 → found ≡ place_word pass.1.key.carried.base 0 q → new ≡ (words.0, passed pass.1 2 q) → (body : ℕ) × Knows words new (overtaken body)
  is_late new q found one word told =
      let base : pass.1.key.carried.base ≡ 0 = ap (λ (z : T × View). z.1.key.carried.base) knows.1 in
      let meta = meta_first q.update q.entry (ap (λ (b : ℕ). place_word b 0 q) (sym base) ∙ (sym word ∙ one)) in
      (meta.0, (knows.0 ++ 2 ∷ [], told ∙ (λ j. (words.0, passed (knows.1 j).1 2 (meta.1 j)))))
