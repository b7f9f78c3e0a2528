-- What the rule says of a seat that holds the sweep, over its notes alone; so a seat fits once the holder has noted something else.
use Rattle.std.proofs.Common.{◌≡◌, ℕ, ◌≤◌, is_some, false, List, [], length, Option, None, Some, sym, ap, ◌∙◌, refl, subst}
use Rattle.iscc_header.specs.declared.unit.Unit64.{Unit64}
use Rattle.reg_words.specs.Memory.{NEXT, GIVE}
use Rattle.reg_rule.specs.declared.view.Key.{Key}
use Rattle.reg_rule.specs.declared.view.Place.{Place}
use Rattle.reg_rule.specs.declared.view.Holding.{Holding}
use Rattle.reg_rule.specs.declared.view.View.{View}
use Rattle.reg_rule.specs.Log.{IsWd, Declares}
use Rattle.reg_rule.specs.inner.World.{World}
use Rattle.reg_rule.specs.inner.HolderParts.{AtWord, WordFits, Idles, Scans, ScansFit, Cuts, CutsFit, Gives, GivesFit, Victims, VictimFits}
use Rattle.reg_rule.proofs.Fits.{Fits}
use Rattle.reg_rule.proofs.Variants.{some_same, none_some}

-- the parts of the rule that speak of a seat as the holder
pub record HolderFits (key : Key) (m : ℕ → ℕ → ℕ) (w : World) (id : ℕ) (v : View) : Type 0 where
  pub at_word : AtWord w.log w.word id v
  pub idles : Idles id v
  pub scans : Scans w.floor w.freed id v
  pub cuts : Cuts w.begun w.returned w.mark id v
  pub gives : Gives key (m GIVE) w.returned w.put id v
  pub victims : Victims key (m NEXT) w.stamps w.chains w.linked w.returned id v

-- the same of its notes, with the places that it has seen
pub record NotesFit (key : Key) (m : ℕ → ℕ → ℕ) (w : World) (seen : List Place) (h : Holding) : Type 0 where
  pub at_word : WordFits w.log w.word h.word h.place
  pub idles : length seen ≤ h.place → (h.stamped ≡ false) × (h.cut ≡ []) × (h.way ≡ None) × (h.behind ≡ None) × (h.gave ≡ false)
  pub scans : ScansFit w.floor w.freed h.place h.clear h.freed
  pub cuts : CutsFit w.begun w.returned (length seen) w.mark h.word.limbo h.stamped h.place h.cut h.marked
  pub gives : GivesFit key (m GIVE) seen w.returned w.put h.word.limbo h.place h.put h.gave h.paid
  pub victims : (withdrawn entry : ℕ) (unit : Unit64) → IsWd seen h.place withdrawn entry → Declares key.carried seen withdrawn unit entry
      → VictimFits key (m NEXT) w.stamps w.chains w.linked w.returned h.word.limbo h.stamped h.place h.cut h.behind h.way withdrawn entry unit

pub notes_of : (key : Key) (m : ℕ → ℕ → ℕ) (w : World) (id : ℕ) (v : View) (h : Holding) → v.holding ≡ Some h → Fits key m w id v → NotesFit key m w v.log h
notes_of key m w id v h holds f = record {
  at_word = f.at_word h holds;
  idles = f.idles h holds;
  scans = f.scans h holds;
  cuts = f.cuts h holds;
  gives = f.gives h holds;
  victims = λ withdrawn entry unit. f.victims h withdrawn entry unit holds;
}

pub holder_fits : (key : Key) (m : ℕ → ℕ → ℕ) (w : World) (id : ℕ) (v : View) (h : Holding) → v.holding ≡ Some h → NotesFit key m w v.log h → HolderFits key m w id v
holder_fits key m w id v h holds n = record {
  at_word = λ x e. (of x e).at_word;
  idles = λ x e. (of x e).idles;
  scans = λ x e. (of x e).scans;
  cuts = λ x e. (of x e).cuts;
  gives = λ x e. (of x e).gives;
  victims = λ x withdrawn entry unit e. (of x e).victims withdrawn entry unit;
} where
  of : (x : Holding) → v.holding ≡ Some x → NotesFit key m w v.log x
  of x e = subst (NotesFit key m w v.log) (some_same h x (sym holds ∙ e)) n

-- a seat that is not the holder
pub none_begins : (key : Key) (m : ℕ → ℕ → ℕ) (w : World) (id : ℕ) (v : View) → v.holding ≡ None → HolderFits key m w id v
none_begins key m w id v nothing = record {
  at_word = λ h e. absurd (none_some h (sym nothing ∙ e));
  idles = λ h e. absurd (none_some h (sym nothing ∙ e));
  scans = λ h e. absurd (none_some h (sym nothing ∙ e));
  cuts = λ h e. absurd (none_some h (sym nothing ∙ e));
  gives = λ h e. absurd (none_some h (sym nothing ∙ e));
  victims = λ h x entry unit e. absurd (none_some h (sym nothing ∙ e));
}

pub others_free : (key : Key) (m : ℕ → ℕ → ℕ) (w : World) (id j : ℕ) (d : View) → w.holder ≡ Some id → (j ≡ id → ⊥) → Fits key m w j d → d.holding ≡ None
others_free key m w id j d held apart f = by_holding d.holding refl where
  by_holding : (o : Option Holding) → d.holding ≡ o → o ≡ None
  by_holding None e = refl
  by_holding (Some h) e = absurd (apart (some_same j id (sym (f.is_holder.0 (ap is_some e)) ∙ held)))

-- the holder has noted something else
pub noted_fits : (key : Key) (m : ℕ → ℕ → ℕ) (w : World) (id : ℕ) (v : View) (h now : Holding) → v.holding ≡ Some h → NotesFit key m w v.log now → Fits key m w id v → Fits key m w id (record v { holding = Some now })
noted_fits key m w id v h now holds n f = let u : View = record v { holding = Some now } in let own = holder_fits key m w id u now refl n in record {
  knows = f.knows;
  owns = f.owns;
  saw = f.saw;
  has_sessions = record { hands_most = f.has_sessions.hands_most; holding = λ _. f.has_sessions.holding (ap is_some holds); spent = f.has_sessions.spent };
  rows = f.rows;
  found = f.found;
  exchanges = f.exchanges;
  fits_pin = f.fits_pin;
  pinned = f.pinned;
  above_floor = f.above_floor;
  helps = f.helps;
  hands = f.hands;
  cursors = f.cursors;
  covers = f.covers;
  takes = f.takes;
  found_empty = f.found_empty;
  stopped = f.stopped;
  last_word = f.last_word;
  is_holder = ((λ _. f.is_holder.0 (ap is_some holds)), (λ _. refl));
  at_word = own.at_word;
  idles = own.idles;
  scans = own.scans;
  cuts = own.cuts;
  gives = own.gives;
  victims = own.victims;
  meets = f.meets;
  costs = f.costs;
}
