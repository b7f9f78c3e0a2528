-- Entries hold the declarations that were not given back, after each step that changes an entry or the log.
use Rattle.std.proofs.Common.{◌≡◌, ℕ, ◌+◌, ◌<◌, ◌≤◌, inr, ⊎_elim, List, [], ◌∷◌, ◌++◌, length, true, false, true≢false, sym, refl, ap, ◌∙◌, subst, lt_of_not-le, arith}
use mathlib.Core.Logic.{dite}
use native.Mathlib.Decide.{ℕ_discrete, dec_le}
use Rattle.iscc_header.specs.declared.unit.Unit64.{Unit64}
use Rattle.reg_model.specs.Opening.{IsOpening}
use Rattle.reg_model.specs.declared.update.Update.TheVariants.{Decl, Wd}
use Rattle.reg_words.specs.Memory.{set_at}
use Rattle.reg_rule.specs.declared.view.Key.{Key}
use Rattle.reg_rule.specs.declared.view.Place.{Place}
use Rattle.reg_rule.specs.inner.World.{Use, free, in_hand, holds}
use Rattle.reg_rule.specs.Log.{place_of, IsDecl, IsWd, IsKeptUpTo, NoneWithdrawn, Declares}
use Rattle.reg_rule.specs.inner.Entries.{UsesPart}
use Rattle.atomic_table.proofs.Lists.{at_longer, at_last}
use Rattle.reg_rule.proofs.Shows.{at_inside}
use Rattle.reg_rule.proofs.Once.{IsLawfulLog, is_decl, wd_same, declares_longer, wd_entry, wd_later, at_one_more, declares_one_more}
use Rattle.reg_rule.proofs.StampsKept.{set_here, set_away}
use Rattle.reg_rule.proofs.Variants.{holds_same, not_in_hand, not_free}

-- an entry where the one changed holds nothing
away : (uses : ℕ → Use) (e entry id : ℕ) (use_of x : Use) → uses e ≡ use_of → (use_of ≡ holds id → ⊥) → uses entry ≡ holds id → set_at uses e x entry ≡ holds id
away uses e entry id use_of x was none is = set_away uses e entry x (λ same. none (sym was ∙ (ap uses (sym same) ∙ is))) ∙ is

kept_in_longer : (log : List Place) (p : Place) (n id : ℕ) → IsKeptUpTo (log ++ p ∷ []) n id → IsKeptUpTo log n id
kept_in_longer log p n id h d e wd = h d e (at_longer log (p ∷ []) d _ wd)

module _ (key : Key) (log : List Place) (returned : ℕ) (uses : ℕ → Use) (ok : IsOpening key.carried) (law : IsLawfulLog key.carried log) (part : UsesPart key log returned uses) where
  -- kind 2, of a declaration of the entry in hand
  pub uses_declared : (unit : Unit64) (e seat i : ℕ) → e < key.entries → uses e ≡ in_hand seat i
      → UsesPart key (log ++ place_of (Decl unit) e ∷ []) returned (set_at uses e (holds (key.carried.base + length log)))
  uses_declared unit e seat i inside hand =
      let id' : ℕ = key.carried.base + length log in let p : Place = place_of (Decl unit) e in record {
        held = λ id entry u dec kept. ⊎_elim
            (λ (old : Declares key.carried log id u entry). away uses e entry id (in_hand seat i) (holds id') hand (not_in_hand seat i id) (part.held id entry u old (kept_in_longer log p returned id kept)))
            (λ t. let same : e ≡ entry = ap (λ (q : Place). q.entry) t.1 in subst (λ (z : ℕ). set_at uses e (holds id') z ≡ holds id) same (set_here uses e (holds id') ∙ ap holds (sym t.0)))
            (declares_one_more key.carried log p id entry u dec);
        holding = λ id entry room is. dite (ℕ_discrete entry e)
            (λ same. let new : id' ≡ id = holds_same id' id (sym (set_here uses e (holds id')) ∙ (ap (set_at uses e (holds id')) (sym same) ∙ is)) in (
              (unit, inr (length log, sym new, subst (λ (z : ℕ). IsDecl (log ++ p ∷ []) (length log) unit z) (sym same) (at_last log p (length log) refl))),
              λ d f wd. ⊎_elim
                  (λ (old : IsWd log d id f). let h = wd_later key.carried log (length log) d f ok law (subst (λ (z : ℕ). IsWd log d z f) (sym new) old) in let g = at_inside log d _ old in absurd (omega arith))
                  (λ t. let h : true ≡ false = ap (λ (q : Place). is_decl q.update) t.1 in absurd (true≢false h))
                  (at_one_more log p _ d wd),
            ))
            (λ apart. let old = part.holding id entry room (sym (set_away uses e entry (holds id') apart) ∙ is) in (
              (old.0.0, declares_longer key.carried log (p ∷ []) id entry old.0.0 old.0.1),
              λ d f wd. ⊎_elim
                  (λ (h : IsWd log d id f). old.1 d f h)
                  (λ t. let h : true ≡ false = ap (λ (q : Place). is_decl q.update) t.1 in absurd (true≢false h))
                  (at_one_more log p _ d wd),
            ));
      }

  -- kind 2, of a withdrawal
  pub uses_withdrawn : (id' e : ℕ) → returned ≤ length log → UsesPart key (log ++ place_of (Wd id') e ∷ []) returned uses
  uses_withdrawn id' e low = let p : Place = place_of (Wd id') e in record {
    held = λ id entry u dec kept. ⊎_elim
        (λ (old : Declares key.carried log id u entry). part.held id entry u old (kept_in_longer log p returned id kept))
        (λ t. let h : false ≡ true = ap (λ (q : Place). is_decl q.update) t.1 in absurd (true≢false (sym h)))
        (declares_one_more key.carried log p id entry u dec);
    holding = λ id entry room is. let old = part.holding id entry room is in (
      (old.0.0, declares_longer key.carried log (p ∷ []) id entry old.0.0 old.0.1),
      λ d f wd. ⊎_elim (λ (h : IsWd log d id f). old.1 d f h) (λ t. let g = t.0 in omega arith) (at_one_more log p _ d wd),
    );
  }

  -- kind 12
  pub uses_taken : (e j seat i : ℕ) → uses e ≡ free j → UsesPart key log returned (set_at uses e (in_hand seat i))
  uses_taken e j seat i was = record {
    held = λ id entry u dec kept. away uses e entry id (free j) (in_hand seat i) was (not_free j id) (part.held id entry u dec kept);
    holding = λ id entry room is. dite (ℕ_discrete entry e)
        (λ same. absurd (not_in_hand seat i id (sym (set_here uses e (in_hand seat i)) ∙ (ap (set_at uses e (in_hand seat i)) (sym same) ∙ is))))
        (λ apart. part.holding id entry room (sym (set_away uses e entry (in_hand seat i) apart) ∙ is));
  }

  -- kind 22, of the count put: the entry withdrawn at the place is given back
  pub uses_returned : (place withdrawn e j : ℕ) → IsWd log place withdrawn e → returned ≤ place → NoneWithdrawn log returned place → uses e ≡ holds withdrawn → UsesPart key log (place + 1) (set_at uses e (free j))
  uses_returned place withdrawn e j wd low none is_held = record {
    held = λ id entry u dec kept.
        let old = part.held id entry u dec (λ d f h. let k = kept d f h in omega arith) in
        set_away uses e entry (free j) (λ same.
        let both : withdrawn ≡ id = holds_same withdrawn id (sym is_held ∙ (ap uses (sym same) ∙ old)) in
        let k = kept place e (subst (λ (z : ℕ). IsWd log place z e) both wd) in absurd (omega arith)) ∙ old;
    holding = λ id entry room is. dite (ℕ_discrete entry e)
        (λ same. absurd (not_free j id (sym (set_here uses e (free j)) ∙ (ap (set_at uses e (free j)) (sym same) ∙ is))))
        (λ apart. let old = part.holding id entry room (sym (set_away uses e entry (free j) apart) ∙ is) in (
          old.0,
          λ d f h. let k = old.1 d f h in dite (dec_le (place + 1) d) (λ le. le) (λ small. let less : d < place + 1 = lt_of_not-le small in
              dite (ℕ_discrete d place)
              (λ at. let both = wd_same log place id withdrawn f e (subst (λ (z : ℕ). IsWd log z id f) at h) wd in
              let there : e ≡ entry = wd_entry key.carried log place id e entry old.0.0 ok law (subst (λ (z : ℕ). IsWd log place z e) (sym both.0) wd) old.0.1 in
              absurd (apart (sym there)))
              (λ below. let lower : d < place = omega arith in absurd (none d id f k lower h))),
        ));
  }
