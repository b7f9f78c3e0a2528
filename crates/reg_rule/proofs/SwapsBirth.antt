-- Kind 5: an exchange of a stamp to a birth. Whoever helps the place makes the same.
use Rattle.std.proofs.Common.{◌≡◌, ◌≢◌, ℕ, ◌+◌, ◌<◌, ◌==◌, cond, true, List, set, sym, refl, ap, ◌∙◌, subst, arith}
use mathlib.Core.Logic.{dite}
use native.Mathlib.Decide.{ℕ_discrete}
use mathlib.Core.Option.{none, some}
use lib.ListN.{get_elem?}
use Rattle.atomic_table.specs.Table.{step, Allows}
use Rattle.atomic_table.proofs.Lists.{at_longer}
use Rattle.reg_words.specs.declared.word.StampWord.{StampWord}
use Rattle.reg_words.specs.declared.word.StampWord.TheVariants.{Unborn, Live, Dead}
use Rattle.reg_words.specs.Packing.{stamp_word}
use Rattle.reg_words.specs.Memory.{STAMP, LOG, NOTE, start, mem, set_at, write}
use Rattle.reg_rule.specs.declared.view.Key.{Key}
use Rattle.reg_rule.specs.declared.view.Place.{Place}
use Rattle.reg_rule.specs.declared.view.View.{View}
use Rattle.reg_rule.specs.Log.{IsDecl, IsWd}
use Rattle.reg_rule.specs.inner.World.{Use, holds, in_hand, World}
use Rattle.reg_rule.specs.inner.Entries.{StampFits}
use Rattle.reg_rule.specs.inner.HelpParts.{IsComplete}
use Rattle.reg_rule.specs.Moves.{helped}
use Rattle.reg_rule.specs.inner.Plays.{Sat, seated}
use Rattle.reg_rule.specs.inner.Rule.{Inv, Kept, sizes}
use Rattle.reg_rule.proofs.StampsKept.{set_here, set_away}
use Rattle.reg_rule.proofs.StampsMoved.{stamp_fits, stamp_inv}
use Rattle.reg_rule.proofs.Fits.{fits_of}
use Rattle.reg_rule.proofs.Sets.{fits_set}
use Rattle.reg_rule.proofs.Doors.{swap_keeps}
use Rattle.reg_rule.specs.Conditions.{MaySwapBirth}
use Rattle.reg_rule.specs.Steps.{BirthSwapped}
use Rattle.reg_rule.proofs.Held.{helped_is_held}
use Rattle.reg_rule.proofs.Floors.{helper_above}
use Rattle.reg_rule.proofs.Stamped.{born, unborn_of}
use Rattle.reg_rule.proofs.Once.{wd_later, decl_same, decl_not_wd}
use Rattle.reg_rule.proofs.Shows.{at_inside}
use Rattle.reg_rule.proofs.Helped.{helped_fits}
use Rattle.reg_rule.proofs.Variants.{not_in_hand, holds_same}
use Rattle.reg_rule.proofs.Counted.{set_in_hands}

live_unborn : {k n : ℕ} → Live k n ≡ Unborn → ⊥
live_unborn e = cc

dead_unborn : {k n d : ℕ} → Dead k n d ≡ Unborn → ⊥
dead_unborn e = cc

stamp_word-unborn : stamp_word Unborn ≡ 0
unfolding stamp_word
stamp_word-unborn = refl

module _ (key : Key) (m : ℕ → ℕ → ℕ) (w : World) (views : List View) (id : ℕ) (v : View) (i : Inv key m w views) (at : get_elem? views id ≡ some v) (knows : v.key ≡ key)
    (entry old new : ℕ) (may : MaySwapBirth entry old new v) where
  here : IsDecl w.log may.birth.0 may.birth.1 entry
  here = let saw = i.saw id v at in subst (λ (l : List Place). IsDecl l may.birth.0 may.birth.1 entry) (sym saw.1) (at_longer v.log saw.0 may.birth.0 _ may.birth.4)

  held : w.uses entry ≡ holds (key.carried.base + may.birth.0)
  held = helped_is_held key (m LOG) w.log w.begun w.returned w.uses may.birth.0 entry may.birth.1 i.key_part.opening.below i.log i.uses i.sweep.order
      (helper_above key.sizes.callers w.accounts w.owner w.log w.word w.begun w.returned w.floor w.freed id may.birth.0 v (i.owns id v at) (i.fits_pin id v at) (i.above_floor id v at) i.floors may.birth.2) here

  pub room : entry < key.entries
  room = subst (λ (k : Key). entry < k.entries) knows may.inside

  -- the place is complete once its entry is not unborn
  place_complete : (stamps : ℕ → StampWord) → (stamps entry ≡ Unborn → ⊥) → IsComplete key.carried.base (m NOTE) w.uses stamps w.log may.birth.0
  place_complete stamps born = record {
    noted = λ un e d. (i.helps id v at).noted may.birth.0 un e may.birth.3 d;
    born = λ un e d is unborn. let same : e ≡ entry = (decl_same w.log may.birth.0 e entry un may.birth.1 d here).1 in born (ap stamps (sym same) ∙ unborn);
    dead = λ x e kind d is live. decl_not_wd w.log may.birth.0 x entry e may.birth.1 here d;
  }

  pub lost : m STAMP entry ≢ old → Inv key m w (set views id (helped v 5))
  lost other = fits_set key m w views id v (helped v 5) i at refl refl
      (helped_fits key m w id v 5 may.birth.0 refl may.birth.2.0 (place_complete w.stamps (λ is. other (i.stamps.words entry room ∙ (ap stamp_word is ∙ (stamp_word-unborn ∙ sym may.unborn))))) (fits_of key m w views i id v at))

  module _ (found : m STAMP entry ≡ old) where
    abbrev s : StampWord
    s = Live may.birth.1.kind (key.carried.base + may.birth.0)

    was : w.stamps entry ≡ Unborn
    was = unborn_of (w.stamps entry) (sym (i.stamps.words entry room) ∙ (found ∙ may.unborn))

    -- what was complete stays so, since the new stamp is live and of this declaration
    complete : (n : ℕ) → IsComplete key.carried.base (m NOTE) w.uses w.stamps w.log n → IsComplete key.carried.base (m NOTE) w.uses (set_at w.stamps entry s) w.log n
    complete n c = record {
      noted = c.noted;
      born = λ un e d is unborn. dite (ℕ_discrete e entry)
          (λ same. live_unborn (sym (set_here w.stamps entry s) ∙ (ap (set_at w.stamps entry s) (sym same) ∙ unborn)))
          (λ apart. c.born un e d is (sym (set_away w.stamps entry e s apart) ∙ unborn));
      dead = λ x e kind d is live. dite (ℕ_discrete e entry)
          (λ same. let own : key.carried.base + may.birth.0 ≡ x = holds_same (key.carried.base + may.birth.0) x (sym held ∙ (ap w.uses (sym same) ∙ is)) in
          let wd : IsWd w.log n (key.carried.base + may.birth.0) e = subst (λ (z : ℕ). IsWd w.log n z e) (sym own) d in
          let later = wd_later key.carried w.log may.birth.0 n e i.key_part.opening i.log.lawful wd in
          let inside = at_inside w.log n _ wd in
          let f : StampFits key.carried w.log w.returned entry (holds (key.carried.base + may.birth.0)) Unborn = subst (λ (z : Use). StampFits key.carried w.log w.returned entry z Unborn) held (subst (λ (s : StampWord). StampFits key.carried w.log w.returned entry (w.uses entry) s) was (i.stamps.fits entry room)) in
          let a = f.1 in let b = f.2 in omega arith)
          (λ apart. c.dead x e kind d is (sym (set_away w.stamps entry e s apart) ∙ live));
    }

    hands : (e seat j : ℕ) → w.uses e ≡ in_hand seat j → w.stamps e ≡ Unborn → set_at w.stamps entry s e ≡ Unborn
    hands e seat j hand is = set_away w.stamps entry e s (λ same. not_in_hand seat j (key.carried.base + may.birth.0) (sym hand ∙ (ap w.uses same ∙ held))) ∙ is

    dead : (e kind x d : ℕ) → w.uses e ≡ holds x → w.stamps e ≡ Dead kind x d → set_at w.stamps entry s e ≡ Dead kind x d
    dead e kind x d _ is = set_away w.stamps entry e s (λ same. dead_unborn (sym is ∙ (ap w.stamps same ∙ was))) ∙ is

    pub won : Inv key (write m STAMP entry new) (record w { stamps = set_at w.stamps entry s }) (set views id (helped v 5))
    won = stamp_inv key m w views i entry new s complete hands dead id v (helped v 5) at refl refl (set_in_hands w.uses views id v (helped v 5) refl at i.in_hands)
        (born key (m STAMP) (m LOG) w.log w.begun w.returned w.uses w.stamps w.word w.floor w.freed w.accounts w.owner id v i.key_part i.log i.uses i.stamps i.sweep.order i.floors (i.owns id v at) (i.fits_pin id v at) (i.above_floor id v at) (i.saw id v at) knows entry old new may found)
        (helped_fits key (write m STAMP entry new) (record w { stamps = set_at w.stamps entry s }) id v 5 may.birth.0 refl may.birth.2.0
        (place_complete (set_at w.stamps entry s) (λ is. live_unborn (sym (set_here w.stamps entry s) ∙ is)))
        (stamp_fits key m w views i entry new s complete hands dead id v (fits_of key m w views i id v at)))

pub swaps_birth : (key : Key) (slots id : ℕ) (me : Sat) (entry old new : ℕ) → MaySwapBirth entry old new me.0 → me.0.live ≡ true
    → Allows (Kept key) slots id me (start (sizes key) STAMP + entry) (λ n. cond (n == old) new n) (seated (λ v r w. BirthSwapped v w) (step slots (start (sizes key) STAMP + entry) old new none) me)
swaps_birth key slots id me entry old new may live s k wide at small =
    let v : View = me.0 in let m : ℕ → ℕ → ℕ = mem (sizes key) s.words in let knows : v.key ≡ key = k.inv.knows id v at live in
    swap_keeps key s k STAMP entry old new id me (seated (λ v r w. BirthSwapped v w) (step slots (start (sizes key) STAMP + entry) old new none) me) (room key m k.world s.views id v k.inv at knows entry old new may)
    (λ same. (helped v 5, _, won key m k.world s.views id v k.inv at knows entry old new may same, (refl, record { live = refl; key = refl; sessions = refl; hand = refl; seen = omega arith; remembered = refl }, refl)))
    (λ other. (helped v 5, k.world, lost key m k.world s.views id v k.inv at knows entry old new may other, (refl, record { live = refl; key = refl; sessions = refl; hand = refl; seen = omega arith; remembered = refl }, refl)))

pub swaps_birth_at : (key : Key) (slots id : ℕ) (me : Sat) (entry old new a : ℕ) → a ≡ start (sizes key) STAMP + entry → MaySwapBirth entry old new me.0 → me.0.live ≡ true
    → Allows (Kept key) slots id me a (λ n. cond (n == old) new n) (seated (λ v r w. BirthSwapped v w) (step slots a old new none) me)
swaps_birth_at key slots id me entry old new a is may live = subst (λ (z : ℕ). Allows (Kept key) slots id me z (λ n. cond (n == old) new n) (seated (λ v r w. BirthSwapped v w) (step slots z old new none) me)) (sym is) (swaps_birth key slots id me entry old new may live)
