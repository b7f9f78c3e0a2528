-- For readers: each entry is in exactly one place, by the rule.
use Rattle.std.proofs.Common.{◌≡◌, ℕ, ◌+◌, ◌<◌, ◌≤◌, List, [], ◌∷◌, length, sum_by, sym, refl, ap, ◌∙◌, subst, arith}
use Rattle.reg_model.specs.Live.{declarations}
use Rattle.reg_rule.specs.declared.view.Key.{Key}
use Rattle.reg_rule.specs.declared.view.View.{View}
use Rattle.reg_rule.specs.Log.{updates}
use Rattle.reg_rule.specs.ReadersLog.{given_back}
use Rattle.reg_rule.specs.ReadersEntries.{EntriesStand, Whereabouts, in_ring, with_seat, with_id, IsThere, IsInRing, IsHeldBy}
use Rattle.reg_rule.specs.inner.World.{World, Use, free, in_hand, holds}
use Rattle.reg_rule.specs.inner.SeatParts.{total}
use Rattle.reg_rule.specs.inner.Rule.{Inv}
use Rattle.reg_rule.proofs.Costs.{sum_cons}
use Rattle.reg_rule.proofs.ReadersGiven.{has_held, held_has, put_counts}

abbrev where_is : Use → Whereabouts
where_is (free j) = in_ring j
where_is (in_hand seat i) = with_seat seat i
where_is (holds id) = with_id id

pub total_sum : (f : View → ℕ) (views : List View) → total f views ≡ sum_by f views
total_sum f [] = refl
total_sum f (v ∷ views) = ap (λ (n : ℕ). f v + n) (total_sum f views) ∙ sym (sum_cons f v views)

module _ (key : Key) (m : ℕ → ℕ → ℕ) (w : World) (views : List View) (i : Inv key m w views) where
  pub ring_use : (entry j : ℕ) → IsInRing key m entry j → (w.uses entry ≡ free j) × (entry < key.entries)
  ring_use entry j r = let a : w.taken ≤ j = subst (λ (n : ℕ). n ≤ j) i.counts.take_word r.from in let b : j < w.put = subst (λ (n : ℕ). j < n) i.counts.put_word r.below in
      let same : w.ring j ≡ entry = sym (i.ring.named j a b) ∙ r.named in let h = i.ring.rests j a b in
      (subst (λ (e : ℕ). w.uses e ≡ free j) same h.1, subst (λ (e : ℕ). e < key.entries) same h.0)

  pub hand_use : (entry seat k : ℕ) → IsHeldBy views entry seat k → w.uses entry ≡ in_hand seat k
  hand_use entry seat k h = subst (λ (e : ℕ). w.uses e ≡ in_hand seat k) h.4 (i.hands seat h.0 h.2 k h.1 h.3).use_is

  is_at : (entry : ℕ) → entry < key.entries → (u : Use) → w.uses entry ≡ u → IsThere key m views w.log (given_back w.word views) entry (where_is u)
  is_at entry low (free j) is = let h = i.ring.none_else entry j low is in record {
    from = subst (λ (n : ℕ). n ≤ j) (sym i.counts.take_word) h.0;
    below = subst (λ (n : ℕ). j < n) (sym i.counts.put_word) h.1;
    named = i.ring.named j h.0 h.1 ∙ h.2;
  }
  is_at entry low (in_hand seat k) is = let h = i.in_hands entry seat k is in (h.0, h.1, h.2, h.3, h.4)
  is_at entry low (holds id) is = held_has key m w views i entry id low is

  where_of : (entry : ℕ) (y : Whereabouts) → IsThere key m views w.log (given_back w.word views) entry y → y ≡ where_is (w.uses entry)
  where_of entry (in_ring j) at = sym (ap where_is (ring_use entry j at).0)
  where_of entry (with_seat seat k) at = sym (ap where_is (hand_use entry seat k at))
  where_of entry (with_id id) at = sym (ap where_is (has_held key m w views i entry id at.0 at.1))

  -- the sentence on entries
  pub entries_stand : EntriesStand key m views w.log (given_back w.word views)
  entries_stand = record {
    one_place = λ entry low. (where_is (w.uses entry), is_at entry low (w.uses entry) refl, where_of entry);
    taken = i.counts.take_word ∙ (i.counts.took ∙ ap (λ (n : ℕ). declarations (updates w.log) + n) (total_sum (λ v. length v.hands) views));
    put = let a = i.counts.put_word in let b = i.counts.gave in let c = put_counts key m w views i in omega arith;
    hands = λ seat v at. (i.has_sessions seat v at).hands_most;
  }
