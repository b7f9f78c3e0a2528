-- The counts of entries taken and put, after an exchange of the log (kind 2) and after an entry is taken (kind 12).
use Rattle.std.proofs.Common.{◌≡◌, ℕ, ◌+◌, ◌≤◌, List, [], ◌∷◌, ◌++◌, set, length, drop, count_by, cond, Bool, sym, ap, ◌∙◌, subst, arith}
use Rattle.std.proofs.lemmas.List.Sums.{sum_by-append}
use Rattle.std.proofs.lemmas.List.{take-append-le, map-append}
use mathlib.Core.Option.{some}
use lib.ListN.{get_elem?}
use Rattle.iscc_header.specs.declared.unit.Unit64.{Unit64}
use Rattle.reg_model.specs.declared.update.Update.{Update}
use Rattle.reg_model.specs.declared.update.Update.TheVariants.{Decl, Wd}
use Rattle.reg_model.specs.Live.{declarations, withdrawals, is_declaration}
use Rattle.reg_words.specs.Memory.{set_at}
use Rattle.reg_rule.specs.declared.view.Key.{Key}
use Rattle.reg_rule.specs.declared.view.Place.{Place}
use Rattle.reg_rule.specs.declared.view.Hand.{Hand}
use Rattle.reg_rule.specs.declared.view.View.{View}
use Rattle.reg_rule.specs.Log.{updates, place_of}
use Rattle.reg_rule.specs.inner.SeatParts.{total}
use Rattle.reg_rule.specs.inner.Entries.{CountsPart}
use Rattle.reg_rule.specs.inner.Takers.{TakingFits}
use Rattle.reg_rule.specs.declared.view.Taking.TheVariants.{Named}
use Rattle.reg_rule.specs.Moves.{committed, took}
use Rattle.reg_rule.proofs.StampsKept.{set_here}
use Rattle.reg_rule.proofs.Views.{total_moves}

pub count_snoc : (p : Update → Bool) (log : List Place) (q : Place) → count_by p (updates (log ++ q ∷ [])) ≡ count_by p (updates log) + cond (p q.update) 1 0
count_snoc p log q = let e : updates (log ++ q ∷ []) ≡ updates log ++ updates (q ∷ []) = map-append (λ (x : Place). x.update) log (q ∷ []) in
    let h : count_by p (updates log ++ updates (q ∷ [])) ≡ count_by p (updates log) + (0 + cond {A = ℕ} (p q.update) 1 0) = sum_by-append (λ (x : Update). cond {A = ℕ} (p x) 1 0) (updates log) (updates (q ∷ [])) in
    let g : count_by p (updates (log ++ q ∷ [])) ≡ count_by p (updates log ++ updates (q ∷ [])) = ap (count_by p) e in omega arith

pub counts_declared : (key : Key) (takes puts : ℕ → ℕ) (log : List Place) (returned taken put : ℕ) (views : List View) (id : ℕ) (v : View) (unit : Unit64) (e : ℕ) (h : Hand)
    → get_elem? views id ≡ some v → v.hands ≡ h ∷ [] → returned ≤ length log
    → CountsPart key takes puts log returned taken put (total (λ u. length u.hands) views)
    → CountsPart key takes puts (log ++ place_of (Decl unit) e ∷ []) returned taken put (total (λ u. length u.hands) (set views id (committed v (place_of (Decl unit) e))))
counts_declared key takes puts log returned taken put views id v unit e h at hand low part = record {
  take_word = part.take_word;
  put_word = part.put_word;
  took = let t = total_moves (λ u. length u.hands) views id v (committed v (place_of (Decl unit) e)) at in
      let one : length v.hands ≡ 1 = ap length hand in let none : length (drop 1 v.hands) ≡ 0 = ap (λ (l : List Hand). length (drop 1 l)) hand in
      let more : declarations (updates (log ++ place_of (Decl unit) e ∷ [])) ≡ declarations (updates log) + 1 = count_snoc is_declaration log (place_of (Decl unit) e) in
      let old = part.took in omega arith;
  gave = part.gave ∙ ap (λ (l : List Place). key.entries + withdrawals (updates l)) (sym (take-append-le returned log (place_of (Decl unit) e ∷ []) low));
  room = part.room;
}

pub counts_withdrawn : (key : Key) (takes puts : ℕ → ℕ) (log : List Place) (returned taken put : ℕ) (views : List View) (id : ℕ) (v : View) (withdrawn : ℕ) (e : ℕ)
    → get_elem? views id ≡ some v → returned ≤ length log
    → CountsPart key takes puts log returned taken put (total (λ u. length u.hands) views)
    → CountsPart key takes puts (log ++ place_of (Wd withdrawn) e ∷ []) returned taken put (total (λ u. length u.hands) (set views id (committed v (place_of (Wd withdrawn) e))))
counts_withdrawn key takes puts log returned taken put views id v withdrawn e at low part = record {
  take_word = part.take_word;
  put_word = part.put_word;
  took = let t = total_moves (λ u. length u.hands) views id v (committed v (place_of (Wd withdrawn) e)) at in
      let same : declarations (updates (log ++ place_of (Wd withdrawn) e ∷ [])) ≡ declarations (updates log) + 0 = count_snoc is_declaration log (place_of (Wd withdrawn) e) in
      let old = part.took in omega arith;
  gave = part.gave ∙ ap (λ (l : List Place). key.entries + withdrawals (updates l)) (sym (take-append-le returned log (place_of (Wd withdrawn) e ∷ []) low));
  room = part.room;
}

pub counts_taken : (key : Key) (takes puts ring : ℕ → ℕ) (log : List Place) (returned taken put : ℕ) (views : List View) (id : ℕ) (v : View) (p entry : ℕ)
    → get_elem? views id ≡ some v → v.hands ≡ [] → v.taking ≡ Named taken p entry → TakingFits taken put ring v.taking
    → CountsPart key takes puts log returned taken put (total (λ u. length u.hands) views)
    → CountsPart key (set_at takes 0 (taken + 1)) puts log returned (taken + 1) put (total (λ u. length u.hands) (set views id (took v entry)))
counts_taken key takes puts ring log returned taken put views id v p entry at hand named fits part = record {
  take_word = set_here takes 0 (taken + 1);
  put_word = part.put_word;
  took = let t = total_moves (λ u. length u.hands) views id v (took v entry) at in let none : length v.hands ≡ 0 = ap length hand in let old = part.took in omega arith;
  gave = part.gave;
  room = let f : TakingFits taken put ring (Named taken p entry) = subst (TakingFits taken put ring) named fits in let a = f.1 in let b = f.2 in omega arith;
}
