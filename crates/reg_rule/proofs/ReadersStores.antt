-- For readers: what a seat may write to an entry, by the rule.
use Rattle.std.proofs.Common.{◌≡◌, ℕ, ◌+◌, ◌<◌, inr, true, List, sym, refl, ap, ◌∙◌, subst, arith}
use lib.ListN.{get_elem?}
use Rattle.iscc_header.specs.declared.unit.Unit64.{Unit64}
use Rattle.atomic_table.proofs.Lists.{at_longer}
use Rattle.reg_words.specs.declared.word.StampWord.TheVariants.{Live}
use Rattle.reg_words.specs.Packing.{stamp_word}
use Rattle.reg_words.specs.Memory.{STAMP, LOG}
use Rattle.reg_rule.specs.declared.view.Key.{Key}
use Rattle.reg_rule.specs.declared.view.Place.{Place}
use Rattle.reg_rule.specs.declared.view.Hand.{Hand}
use Rattle.reg_rule.specs.declared.view.View.{View}
use Rattle.reg_rule.specs.Log.{At, IsWd, IsDecl, Declares}
use Rattle.reg_rule.specs.Tables.{is_in}
use Rattle.reg_rule.specs.Conditions.{MaySwapBirth, MaySwapDeath}
use Rattle.reg_rule.specs.ReadersLog.{IsSeatOf, given_back}
use Rattle.reg_rule.specs.ReadersReach.{IsBirthOf, IsDeathOf, StoresStand}
use Rattle.reg_rule.specs.inner.World.{World}
use Rattle.reg_rule.specs.inner.Rule.{Inv}
use Rattle.reg_rule.proofs.Once.{wd_later, declares_longer}
use Rattle.reg_rule.proofs.Floors.{helper_above}
use Rattle.reg_rule.proofs.Stamped.{was_live}
use Rattle.reg_rule.proofs.StampsKept.{live_holds}
use Rattle.reg_rule.proofs.ReadersGiven.{above}
use Rattle.reg_rule.proofs.ReadersReach.{reclamation_stands}

module _ (key : Key) (m : ℕ → ℕ → ℕ) (w : World) (views : List View) (i : Inv key m w views) where
  whole_wd : (seat : ℕ) (v : View) (d id entry : ℕ) → IsSeatOf views seat v → IsWd v.log d id entry → IsWd w.log d id entry
  whole_wd seat v d id entry at wd = let s = i.saw seat v at in subst (λ (l : List Place). IsWd l d id entry) (sym s.1) (at_longer v.log s.0 d _ wd)

  whole_decl : (seat : ℕ) (v : View) (n entry : ℕ) (unit : Unit64) → IsSeatOf views seat v → IsDecl v.log n unit entry → IsDecl w.log n unit entry
  whole_decl seat v n entry unit at decl = let s = i.saw seat v at in subst (λ (l : List Place). IsDecl l n unit entry) (sym s.1) (at_longer v.log s.0 n _ decl)

  whole_declares : (seat : ℕ) (v : View) (id entry : ℕ) (unit : Unit64) → IsSeatOf views seat v → v.key ≡ key → Declares v.key.carried v.log id unit entry → Declares key.carried w.log id unit entry
  whole_declares seat v id entry unit at knows dec = let s = i.saw seat v at in subst (λ (l : List Place). Declares key.carried l id unit entry) (sym s.1)
      (declares_longer key.carried v.log s.0 id entry unit (subst (λ (k : Key). Declares k.carried v.log id unit entry) knows dec))

  born : (seat entry old new : ℕ) (v : View) → IsSeatOf views seat v → v.live ≡ true → MaySwapBirth entry old new v → IsBirthOf key w.log (given_back w.word views) v entry new
  born seat entry old new v at live may = let b = may.birth in let place = b.0 in let unit = b.1 in let decl = whole_decl seat v place entry unit at b.4 in
      let knows : v.key ≡ key = i.knows seat v at live in
      let low = helper_above key.sizes.callers w.accounts w.owner w.log w.word w.begun w.returned w.floor w.freed seat place v (i.owns seat v at) (i.fits_pin seat v at) (i.above_floor seat v at) i.floors b.2 in (
        place,
        unit,
        b.2,
        decl,
        record {
          declared = inr (place, refl, decl);
          kept = λ d e wd. let later = wd_later key.carried w.log place d e i.key_part.opening i.log.lawful wd in let order = i.sweep.order in above key m w views i d (key.carried.base + place) e wd (omega arith);
        },
        b.5 ∙ ap (λ (k : Key). stamp_word (Live unit.kind (k.carried.base + place))) knows,
      )

  died : (seat entry old new : ℕ) (v : View) → IsSeatOf views seat v → v.live ≡ true → MaySwapDeath entry old new v → m STAMP entry ≡ old → IsDeathOf key w.log (given_back w.word views) v entry new
  died seat entry old new v at live may found = let b = may.death in let place = b.0 in let id = b.1 in let unit = b.2 in
      let knows : v.key ≡ key = i.knows seat v at live in let room : entry < key.entries = subst (λ (k : Key). entry < k.entries) knows may.inside in
      let was = was_live key (m STAMP) (m LOG) w.log w.begun w.returned w.uses w.stamps w.word w.floor w.freed w.accounts w.owner seat v i.key_part i.log i.uses i.stamps i.sweep.order i.floors (i.owns seat v at) (i.fits_pin seat v at) (i.above_floor seat v at) (i.saw seat v at) knows entry old new may found in
      let held = (live_holds key w.log w.returned w.uses w.stamps i.key_part.opening i.log.lawful i.stamps.fits entry unit.kind id room was).0 in (
        place,
        id,
        unit,
        b.3,
        whole_wd seat v place id entry at b.4,
        record {
          declared = whole_declares seat v id entry unit at knows b.5;
          kept = λ d e wd. above key m w views i d id e wd ((i.uses.holding id entry room held).1 d e wd);
        },
        b.7,
      )

  -- the sentence on stores
  pub stores_stand : StoresStand key m views w.log (given_back w.word views)
  stores_stand = record {
    stored = λ seat v at may. let r = reclamation_stands key m w views i in let h = may.0 in let there : At v.hands 0 h = ap (λ (l : List Hand). get_elem? l 0) may.1 in
        (h, may.1, (λ table tl. r.unlinked seat 0 table v h at there tl (ap (is_in table) may.3)), r.unused seat 0 v h at there);
    birth = born;
    death = died;
  }
