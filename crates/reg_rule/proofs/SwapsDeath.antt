-- Kind 6: an exchange of a stamp from a living declaration to a dead one. Whoever helps the place makes the same.
use Rattle.std.proofs.Common.{◌≡◌, ◌≢◌, ℕ, ◌+◌, ◌<◌, ◌==◌, cond, true, List, set, sym, refl, ap, ◌∙◌, subst, arith}
use mathlib.Core.Logic.{dite}
use native.Mathlib.Decide.{ℕ_discrete}
use mathlib.Core.Option.{none, some}
use lib.ListN.{get_elem?}
use Rattle.atomic_table.specs.Table.{step, Allows}
use Rattle.atomic_table.proofs.Lists.{at_longer}
use Rattle.reg_words.specs.declared.word.StampWord.{StampWord}
use Rattle.reg_words.specs.declared.word.StampWord.TheVariants.{Unborn, Live, Dead}
use Rattle.reg_words.specs.Packing.{stamp_word}
use Rattle.reg_words.specs.Memory.{STAMP, LOG, NOTE, start, mem, set_at, write}
use Rattle.reg_rule.specs.declared.view.Key.{Key}
use Rattle.reg_rule.specs.declared.view.Place.{Place}
use Rattle.reg_rule.specs.declared.view.View.{View}
use Rattle.reg_rule.specs.Log.{IsWd, Declares}
use Rattle.reg_rule.specs.inner.World.{holds, in_hand, World}
use Rattle.reg_rule.specs.inner.HelpParts.{IsComplete}
use Rattle.reg_rule.specs.Moves.{helped}
use Rattle.reg_rule.specs.inner.Plays.{Sat, seated}
use Rattle.reg_rule.specs.inner.Rule.{Inv, Kept, sizes}
use Rattle.reg_rule.proofs.StampsKept.{set_here, set_away}
use Rattle.reg_rule.proofs.StampsMoved.{stamp_fits, stamp_inv}
use Rattle.reg_rule.proofs.Fits.{fits_of}
use Rattle.reg_rule.proofs.Sets.{fits_set}
use Rattle.reg_rule.proofs.Doors.{swap_keeps}
use Rattle.reg_rule.specs.Conditions.{MaySwapDeath}
use Rattle.reg_rule.specs.Steps.{DeathSwapped}
use Rattle.reg_rule.proofs.Stamped.{died, was_live}
use Rattle.reg_rule.proofs.StampsKept.{live_holds}
use Rattle.reg_rule.proofs.Once.{wd_same, decl_not_wd, declares_longer}
use Rattle.reg_rule.proofs.Helped.{helped_fits}
use Rattle.reg_rule.proofs.Variants.{not_in_hand}
use Rattle.reg_rule.proofs.Counted.{set_in_hands}

dead_live : {k n d l j : ℕ} → Dead k n d ≡ Live l j → ⊥
dead_live e = cc

dead_unborn : {k n d : ℕ} → Dead k n d ≡ Unborn → ⊥
dead_unborn e = cc

module _ (key : Key) (m : ℕ → ℕ → ℕ) (w : World) (views : List View) (id : ℕ) (v : View) (i : Inv key m w views) (at : get_elem? views id ≡ some v) (knows : v.key ≡ key)
    (entry old new : ℕ) (may : MaySwapDeath entry old new v) where
  here : IsWd w.log may.death.0 may.death.1 entry
  here = let saw = i.saw id v at in subst (λ (l : List Place). IsWd l may.death.0 may.death.1 entry) (sym saw.1) (at_longer v.log saw.0 may.death.0 _ may.death.4)

  declared : Declares key.carried w.log may.death.1 may.death.2 entry
  declared = let saw = i.saw id v at in subst (λ (l : List Place). Declares key.carried l may.death.1 may.death.2 entry) (sym saw.1)
      (declares_longer key.carried v.log saw.0 may.death.1 entry may.death.2 (subst (λ (k : Key). Declares k.carried v.log may.death.1 may.death.2 entry) knows may.death.5))

  pub room : entry < key.entries
  room = subst (λ (k : Key). entry < k.entries) knows may.inside

  -- a living stamp says that the entry holds the declaration, which is of one kind
  living : (kind : ℕ) → w.stamps entry ≡ Live kind may.death.1 → (w.uses entry ≡ holds may.death.1) × (kind ≡ may.death.2.kind)
  living kind is = let l = live_holds key w.log w.returned w.uses w.stamps i.key_part.opening i.log.lawful i.stamps.fits entry kind may.death.1 room is in (l.0, l.1 may.death.2 declared)

  -- the place is complete once its entry is not live
  place_complete : (stamps : ℕ → StampWord) → ((kind : ℕ) → stamps entry ≡ Live kind may.death.1 → ⊥) → IsComplete key.carried.base (m NOTE) w.uses stamps w.log may.death.0
  place_complete stamps gone = record {
    noted = λ un e d. absurd (decl_not_wd w.log may.death.0 may.death.1 e entry un d here);
    born = λ un e d is unborn. decl_not_wd w.log may.death.0 may.death.1 e entry un d here;
    dead = λ x e kind d is live. let same = wd_same w.log may.death.0 x may.death.1 e entry d here in gone kind (ap stamps (sym same.1) ∙ (live ∙ ap (Live kind) same.0));
  }

  pub lost : m STAMP entry ≢ old → Inv key m w (set views id (helped v 6))
  lost other = fits_set key m w views id v (helped v 6) i at refl refl
      (helped_fits key m w id v 6 may.death.0 refl may.death.3.0 (place_complete w.stamps (λ kind is. let l = living kind is in
      other (i.stamps.words entry room ∙ (ap stamp_word (is ∙ ap (λ (n : ℕ). Live n may.death.1) l.1) ∙ sym may.death.6)))) (fits_of key m w views i id v at))

  module _ (found : m STAMP entry ≡ old) where
    abbrev s : StampWord
    s = Dead may.death.2.kind may.death.1 may.death.0

    was : w.stamps entry ≡ Live may.death.2.kind may.death.1
    was = was_live key (m STAMP) (m LOG) w.log w.begun w.returned w.uses w.stamps w.word w.floor w.freed w.accounts w.owner id v i.key_part i.log i.uses i.stamps i.sweep.order i.floors (i.owns id v at) (i.fits_pin id v at) (i.above_floor id v at) (i.saw id v at) knows entry old new may found

    complete : (n : ℕ) → IsComplete key.carried.base (m NOTE) w.uses w.stamps w.log n → IsComplete key.carried.base (m NOTE) w.uses (set_at w.stamps entry s) w.log n
    complete n c = record {
      noted = c.noted;
      born = λ un e d is unborn. dite (ℕ_discrete e entry)
          (λ same. dead_unborn (sym (set_here w.stamps entry s) ∙ (ap (set_at w.stamps entry s) (sym same) ∙ unborn)))
          (λ apart. c.born un e d is (sym (set_away w.stamps entry e s apart) ∙ unborn));
      dead = λ x e kind d is live. dite (ℕ_discrete e entry)
          (λ same. dead_live (sym (set_here w.stamps entry s) ∙ (ap (set_at w.stamps entry s) (sym same) ∙ live)))
          (λ apart. c.dead x e kind d is (sym (set_away w.stamps entry e s apart) ∙ live));
    }

    hands : (e seat j : ℕ) → w.uses e ≡ in_hand seat j → w.stamps e ≡ Unborn → set_at w.stamps entry s e ≡ Unborn
    hands e seat j hand is = set_away w.stamps entry e s (λ same. not_in_hand seat j may.death.1 (sym hand ∙ (ap w.uses same ∙ (living may.death.2.kind was).0))) ∙ is

    dead : (e kind x d : ℕ) → w.uses e ≡ holds x → w.stamps e ≡ Dead kind x d → set_at w.stamps entry s e ≡ Dead kind x d
    dead e kind x d _ is = set_away w.stamps entry e s (λ same. dead_live (sym is ∙ (ap w.stamps same ∙ was))) ∙ is

    pub won : Inv key (write m STAMP entry new) (record w { stamps = set_at w.stamps entry s }) (set views id (helped v 6))
    won = stamp_inv key m w views i entry new s complete hands dead id v (helped v 6) at refl refl (set_in_hands w.uses views id v (helped v 6) refl at i.in_hands)
        (died key (m STAMP) (m LOG) w.log w.begun w.returned w.uses w.stamps w.word w.floor w.freed w.accounts w.owner id v i.key_part i.log i.uses i.stamps i.sweep.order i.floors (i.owns id v at) (i.fits_pin id v at) (i.above_floor id v at) (i.saw id v at) knows entry old new may found)
        (helped_fits key (write m STAMP entry new) (record w { stamps = set_at w.stamps entry s }) id v 6 may.death.0 refl may.death.3.0
        (place_complete (set_at w.stamps entry s) (λ kind is. dead_live (sym (set_here w.stamps entry s) ∙ is)))
        (stamp_fits key m w views i entry new s complete hands dead id v (fits_of key m w views i id v at)))

pub swaps_death : (key : Key) (slots id : ℕ) (me : Sat) (entry old new : ℕ) → MaySwapDeath entry old new me.0 → me.0.live ≡ true
    → Allows (Kept key) slots id me (start (sizes key) STAMP + entry) (λ n. cond (n == old) new n) (seated (λ v r w. DeathSwapped v w) (step slots (start (sizes key) STAMP + entry) old new none) me)
swaps_death key slots id me entry old new may live s k wide at small =
    let v : View = me.0 in let m : ℕ → ℕ → ℕ = mem (sizes key) s.words in let knows : v.key ≡ key = k.inv.knows id v at live in
    swap_keeps key s k STAMP entry old new id me (seated (λ v r w. DeathSwapped v w) (step slots (start (sizes key) STAMP + entry) old new none) me) (room key m k.world s.views id v k.inv at knows entry old new may)
    (λ same. (helped v 6, _, won key m k.world s.views id v k.inv at knows entry old new may same, (refl, record { live = refl; key = refl; sessions = refl; hand = refl; seen = omega arith; remembered = refl }, refl)))
    (λ other. (helped v 6, k.world, lost key m k.world s.views id v k.inv at knows entry old new may other, (refl, record { live = refl; key = refl; sessions = refl; hand = refl; seen = omega arith; remembered = refl }, refl)))

pub swaps_death_at : (key : Key) (slots id : ℕ) (me : Sat) (entry old new a : ℕ) → a ≡ start (sizes key) STAMP + entry → MaySwapDeath entry old new me.0 → me.0.live ≡ true
    → Allows (Kept key) slots id me a (λ n. cond (n == old) new n) (seated (λ v r w. DeathSwapped v w) (step slots a old new none) me)
swaps_death_at key slots id me entry old new a is may live = subst (λ (z : ℕ). Allows (Kept key) slots id me z (λ n. cond (n == old) new n) (seated (λ v r w. DeathSwapped v w) (step slots z old new none) me)) (sym is) (swaps_death key slots id me entry old new may live)
