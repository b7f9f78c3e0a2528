-- The opening state: what is carried is in the first entries, stamped and linked, and the ring has the others.
use Rattle.std.proofs.Common.{◌≡◌, ℕ, zero, suc, ◌+◌, ◌-◌, ◌<◌, ◌≤◌, true, inl, ⊎_elim, All, List, [], ◌∷◌, length, None, sym, ap, ◌∙◌, refl, subst, arith, lt-ltb, le-ltb}
use Rattle.std.proofs.Math.Nat.{mod-eq_of_lt}
use mathlib.Core.Option.{Option, none, some, some-injective, some-ne-none}
use lib.ListN.{get_elem?}
use Rattle.iscc_header.specs.declared.unit.Unit64.{Unit64}
use Rattle.reg_model.specs.declared.update.Declared.{Declared}
use Rattle.reg_model.specs.Opening.{Opening}
use Rattle.reg_words.specs.Packing.{sweep_word}
use Rattle.reg_words.specs.Memory.{PUT, GIVE}
use Rattle.reg_rule.specs.declared.view.Key.{Key}
use Rattle.reg_rule.specs.declared.view.Account.{Account}
use Rattle.reg_rule.specs.Log.{At, IsDecl, Declares}
use Rattle.reg_rule.specs.inner.World.{free, in_hand, holds, World}
use Rattle.reg_rule.specs.inner.SeatParts.{Each}
use Rattle.reg_rule.specs.inner.Entries.{StampFits, HasKind}
use Rattle.reg_rule.specs.inner.Rule.{KeyPart, Inv, first}
use Rattle.reg_rule.specs.Fresh.{newcomers, unswept}
use Rattle.reg_rule.specs.inner.Opening.{Opened, use_of, stamp_of, opening_use, opening_stamp, is_carried}
use Rattle.reg_rule.proofs.Fits.{Fits, inv_of}
use Rattle.reg_rule.proofs.Shows.{at_inside}
use Rattle.reg_rule.proofs.SeatSteps.{unseated_fits}
use Rattle.reg_rule.proofs.Held.{all_at}

abbrev pub opening_world : Key → (ℕ → ℕ → ℕ) → (ℕ → ℕ → List ℕ) → World
opening_world key m chains = record {
  log = [];
  accounts = λ n. [];
  owner = λ n. (0, n);
  uses = opening_use key.carried.list;
  stamps = opening_stamp key.carried.list;
  taken = 0;
  put = m PUT 0;
  ring = λ j. length key.carried.list + j;
  chains = chains;
  linked = is_carried key.carried.list;
  word = unswept;
  holder = None;
  begun = 0;
  returned = 0;
  mark = None;
  floor = λ n. 0;
  freed = λ n. 0;
}

-- ---- what is carried, by entry

declares_carried : (o : Opening) (id entry : ℕ) (unit : Unit64) → Declares o [] id unit entry → At o.list entry (record { id = id; unit = unit })
declares_carried o id entry unit h = ⊎_elim (λ (c : At o.list entry (record { id = id; unit = unit })). c) (λ (t : (n : ℕ) × (id ≡ o.base + n) × IsDecl [] n unit entry). absurd (some-ne-none _ (sym t.2))) h

held_by : (x : Option Declared) (j id : ℕ) → use_of x j ≡ holds id → (d : Declared) × (x ≡ some d) × (d.id ≡ id)
held_by none j id e = absurd (cc)
held_by (some d) j id e = (d, refl, (cc))

free_by : (x : Option Declared) (j i : ℕ) → use_of x j ≡ free i → (x ≡ none) × (j ≡ i)
free_by none j i e = (refl, (cc))
free_by (some d) j i e = absurd (cc)

no_hand : (x : Option Declared) (j s i : ℕ) → use_of x j ≡ in_hand s i → ⊥
no_hand none j s i e = absurd (cc)
no_hand (some d) j s i e = absurd (cc)

pub none_past : {A : Type 0} (l : List A) (n : ℕ) → length l ≤ n → get_elem? l n ≡ none
none_past [] n h = refl
none_past (x ∷ xs) zero h = absurd (omega arith)
none_past (x ∷ xs) (suc n) h = none_past xs n (omega arith)

past_none : {A : Type 0} (l : List A) (n : ℕ) → get_elem? l n ≡ none → length l ≤ n
past_none [] n e = omega arith
past_none (x ∷ xs) zero e = absurd (some-ne-none x e)
past_none (x ∷ xs) (suc n) e = let h = past_none xs n e in omega arith

carried_stamp : (o : Opening) (entry j : ℕ) (x : Option Declared) → get_elem? o.list entry ≡ x → StampFits o [] 0 entry (use_of x j) (stamp_of x)
carried_stamp o entry j none e = tt
carried_stamp o entry j (some d) e = (
  refl,
  (λ unit declares. let same : d ≡ record { id = d.id; unit = unit } = some-injective _ _ (sym e ∙ declares_carried o d.id entry unit declares) in ap (λ (z : Declared). z.unit.kind) same),
  (λ k other wd. absurd (some-ne-none _ (sym wd))),
)

carried_kind : (list : List Declared) (x : Option Declared) (entry : ℕ) → get_elem? list entry ≡ x → All (λ (d : Declared). d.unit.kind < 13) list → HasKind (stamp_of x)
carried_kind list none entry e all = tt
carried_kind list (some d) entry e all = all_at (λ (c : Declared). c.unit.kind < 13) list entry d all e

newcomer : (from n i : ℕ) (a : Account) → At (newcomers from n) i a → (a.number ≡ from + i) × (i < n) × (a.rows ≡ [])
newcomer from zero i a e = absurd (some-ne-none a (sym e))
newcomer from (suc n) zero a e = let is = some-injective _ _ e in (ap (λ (x : Account). x.number) (sym is) ∙ (let z : from ≡ from + 0 = omega arith in z), omega arith, ap (λ (x : Account). x.rows) (sym is))
newcomer from (suc n) (suc i) a e = let h = newcomer (suc from) n i a e in let x = h.0 in let y = h.1 in (omega arith, omega arith, h.2)

newcomers_length : (from n : ℕ) → length (newcomers from n) ≡ n
newcomers_length from zero = refl
newcomers_length from (suc n) = ap suc (newcomers_length (suc from) n)

pub only_view : {V : Type 0} (F : ℕ → V → Type 0) (v : V) → F 0 v → Each (v ∷ []) F
only_view {V} F v f zero d e = subst (F 0) (some-injective _ _ e) f
only_view {V} F v f (suc j) d e = absurd (some-ne-none d (sym e))

sweep_word-unswept : sweep_word unswept ≡ 0
unfolding sweep_word
sweep_word-unswept = refl

back : (n j : ℕ) → n + j - n ≡ j
back n j = omega arith

none_wd : {A : Type 0} {X : Type 0} (n : ℕ) (a : A) → At [] n a → X
none_wd n a e = absurd (some-ne-none a (sym e))

pub opens : (key : Key) (m : ℕ → ℕ → ℕ) (chains : ℕ → ℕ → List ℕ) → KeyPart key → Opened key m chains → Inv key m (opening_world key m chains) (first key ∷ [])
opens key m chains part o =
    let list = key.carried.list in let w : World = opening_world key m chains in let put = o.put_is in
    inv_of key m w (first key ∷ [])
    record {
      key_part = part;
      log = record { short = omega arith; filled = λ n p e. none_wd n p e; empty = λ n h. o.places n; entries = λ n p e. none_wd n p e; kinds = λ n unit entry e. none_wd n _ e; lawful = λ d id entry e. none_wd d _ e };
      notes = record { noted = λ n unit entry low e. none_wd n _ e };
      accounts = record { fits = λ n i row low e. none_wd i row e; rising = λ n low i j d h inside. absurd (omega arith); claimed = λ p low. absurd (omega arith) };
      uses = record {
        held = λ id entry unit declares kept. ap (λ (x : Option Declared). use_of x (entry - length list)) (declares_carried key.carried id entry unit declares);
        holding = λ id entry low is. let h = held_by (get_elem? list entry) (entry - length list) id is in
            ((h.0.unit, inl (h.1 ∙ ap (λ (z : ℕ). some (record { id = z; unit = h.0.unit })) h.2)), λ d e wd. none_wd d _ wd);
      };
      stamps = record { words = o.stamps; kinds = λ entry low. carried_kind list (get_elem? list entry) entry refl part.kinds; fits = λ entry low. carried_stamp key.carried entry (entry - length list) (get_elem? list entry) refl };
      codes = record { bodies = λ id entry unit is declares. o.codes entry (record { id = id; unit = unit }) (declares_carried key.carried id entry unit declares) };
      counts = record { take_word = o.take_is; put_word = refl; took = omega arith; gave = omega arith; room = omega arith };
      ring = record {
        named = λ j from below. ap (m GIVE) (let low : j < key.entries = omega arith in mod-eq_of_lt low) ∙ o.gives j (omega arith);
        rests = λ j from below. (omega arith, ap (λ (x : Option Declared). use_of x (length list + j - length list)) (none_past list (length list + j) (omega arith)) ∙ ap free (back (length list) j));
        none_else = λ entry j low is. let h = free_by (get_elem? list entry) (entry - length list) j is in let high = past_none list entry h.0 in let same = h.1 in (omega arith, omega arith, omega arith);
      };
      chains = o.linked;
      links = record {
        held = λ table id entry low inside is kept. let h = held_by (get_elem? list entry) (entry - length list) id is in lt-ltb entry (length list) (at_inside list entry h.0 h.1);
        ring = λ table entry j small low is. let h = free_by (get_elem? list entry) (entry - length list) j is in le-ltb entry (length list) (past_none list entry h.0);
      };
      sweep = record {
        word_is = o.sweep_is ∙ sym sweep_word-unswept;
        held = refl;
        order = omega arith;
        seen = omega arith;
        at_work = λ h. absurd (omega arith);
        within = omega arith;
        passed = λ d id entry from low. absurd (omega arith);
        ahead = λ d id entry from low. absurd (omega arith);
        limbo = λ h. absurd (cc);
        unmarked = λ h. refl;
        rests = λ h l. refl;
        waits = λ h l. absurd (cc);
      };
      reclaimed = record {
        dead = λ d id entry h. let last = h.last in absurd (omega arith);
        apart = λ d id entry mark h. let last = h.last in absurd (omega arith);
        marked = λ h. absurd (cc);
      };
      floors = record { scanned = λ n low. omega arith; ahead = λ n low. omega arith; searched = λ n low. omega arith; unscanned = λ n low l h. absurd (omega arith) };
      sessions = let n = newcomers_length 0 key.sizes.callers in omega arith;
      in_hands = λ entry id i is. absurd (no_hand (get_elem? list entry) (entry - length list) id i is);
      sweeper = λ id is. absurd (cc);
    }
    (only_view (Fits key m w) (first key)
    (unseated_fits key m w 0 key true (newcomers 0 key.sizes.callers) [] (λ _. refl) (λ off. absurd (cc))
    (λ i a e. let h = newcomer 0 key.sizes.callers i a e in let x = h.0 in let y = h.1 in let number : a.number ≡ i = omega arith in
    record { below = omega arith; owner_is = ap (λ (z : ℕ). let p : ℕ × ℕ = (0, z) in p) number; rows_are = sym h.2 })
    (λ i j a row e there. let h = newcomer 0 key.sizes.callers i a e in absurd (some-ne-none row (sym there ∙ ap (λ l. get_elem? l j) h.2)))
    (λ i a e. o.pins a.number)
    (λ h. absurd (cc)) (λ h. refl)))
