-- What the tests show of words and views.
use Rattle.std.proofs.Common.{◌≡◌, ◌≢◌, ℕ, zero, suc, ◌+◌, ◌*◌, ◌<◌, Bool, true, false, List, [], ◌∷◌, length, None, Some, refl, sym, ap, ◌∙◌, subst, arith}
use Rattle.std.proofs.Math.Nat.{mod-eq_of_lt}
use Rattle.mih_plan.specs.Buckets.{bucket_of}
use Rattle.reg_words.specs.declared.word.SweepWord.{SweepWord}
use Rattle.reg_words.specs.Packing.{bit, sweep_word}
use Rattle.reg_rule.specs.declared.told.Told.TheVariants.{Nothing, Sweeps}
use Rattle.reg_rule.specs.declared.view.Account.{Account}
use Rattle.reg_rule.specs.declared.view.Hand.{Hand}
use Rattle.reg_rule.specs.declared.view.Key.{Key}
use Rattle.reg_rule.specs.declared.view.View.{View}
use Rattle.reg_rule.specs.Links.{link_word}
use Rattle.reg_rule.specs.Seats.{IsFirst}
use Rattle.reg_rule.specs.Tables.{is_in}
use Rattle.reg_rule.specs.Moves.{head_number, with_step, new_hand, stored_held, take_loaded, made_ready, on_hand, written}
use Rattle.reg_rule.specs.Conditions.{MayStoreHeld, MayLoadGive, MayStoreNext, MaySwapHead}
use Rattle.reg_rule.specs.Steps.{PutLoaded}
use Rattle.reg_rule.specs.inner.Trials.{tables_below, written_hand}

-- ---- words

odd_is_held : (b : Bool) (l p m : ℕ) → bit b + 2 * l + 4 * p + 134217728 * m ≡ 1 → b ≡ true
odd_is_held true l p m e = refl
odd_is_held false l p m e = absurd (omega arith)

pub held_word : (s : SweepWord) → sweep_word s ≡ 1 → s.held ≡ true
unfolding sweep_word
held_word s e = odd_is_held s.held (bit s.limbo) s.place s.mark e

-- ---- seats

pub is_first : (accounts : List Account) (seat : ℕ) → 0 < length accounts → head_number accounts ≡ seat → IsFirst accounts seat
is_first [] seat some is = absurd (omega arith)
is_first (a ∷ others) seat some is = (a, refl, sym is)

-- ---- entries

not_sweeps : Nothing ≢ Sweeps
not_sweeps e = absurd (cc)

-- the count is that of an entry, and a ring place
pub may_load_give : (v u w : View) (count found : ℕ) → w.key ≡ v.key → count < v.key.entries → u ≡ take_loaded v count → PutLoaded Nothing u found w → found ≢ count → MayLoadGive count w
may_load_give v u w count found same inside took put other =
    let room = put.room count not_sweeps (ap (λ (z : View). z.taking) took) other in
    let below : count < w.key.entries = subst (λ (k : Key). count < k.entries) (sym same) inside in
    (count, found, ap (λ (z : View). z.taking) room.1, sym (mod-eq_of_lt below))

-- the stamp of the entry in hand was stored
pub may_store_code : (v w : View) (entry : ℕ) → v.hands ≡ new_hand entry ∷ [] → entry < v.key.entries → w ≡ stored_held v None → MayStoreHeld w
may_store_code v w entry hand inside stored = (
  written None (new_hand entry),
  ap (λ (z : View). z.hands) stored ∙ ap (on_hand (written None)) hand,
  subst (λ (z : View). entry < z.key.entries) (sym stored) inside,
  refl,
)

pub not_below : (table : ℕ) → table < 4 → is_in table (tables_below table) ≡ false
not_below zero low = refl
not_below (suc zero) low = refl
not_below (suc (suc zero)) low = refl
not_below (suc (suc (suc zero))) low = refl
not_below (suc (suc (suc (suc n)))) low = absurd (omega arith)

pub may_store_next : (v w : View) (entry code table : ℕ) → v.hands ≡ written_hand entry code table ∷ [] → entry < v.key.entries → table < 4 → w ≡ with_step v 13 → MayStoreNext table w
may_store_next v w entry code table hand inside low loaded = record {
  table_is = low;
  hand = (written_hand entry code table, ap (λ (z : View). z.hands) loaded ∙ hand, subst (λ (z : View). entry < z.key.entries) (sym loaded) inside, refl, refl, not_below table low);
}

pub may_swap_head : (v u w : View) (entry code table bucket old : ℕ) → v.hands ≡ written_hand entry code table ∷ [] → v.key.sizes.bits ≡ 4 → table < 4 → bucket ≡ bucket_of code table 4 → u ≡ with_step v 13 → w ≡ made_ready u table old
    → MaySwapHead table bucket old (link_word entry) w
may_swap_head v u w entry code table bucket old hand bits low bucket_is loaded stored = record {
  table_is = low;
  hand = (
    record (written_hand entry code table) { ready = Some (record { table = table; word = old }) },
    code,
    ap (λ (z : View). z.hands) (stored ∙ ap (λ (z : View). made_ready z table old) loaded) ∙ ap (on_hand (λ (h : Hand). record h { ready = Some (record { table = table; word = old }) })) hand,
    refl,
    refl,
    not_below table low,
    refl,
    bucket_is ∙ ap (bucket_of code table) (sym (ap (λ (z : View). z.key.sizes.bits) (stored ∙ ap (λ (z : View). made_ready z table old) loaded) ∙ bits)),
    refl,
  );
}
