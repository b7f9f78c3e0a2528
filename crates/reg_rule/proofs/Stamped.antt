-- Whole parts of the rule after the exchanges of a stamp (kinds 5 and 6).
use Rattle.std.proofs.Common.{◌≡◌, ℕ, ◌+◌, ◌^◌, ◌<◌, ◌≤◌, ⊎_elim, List, sym, refl, ap, ◌∙◌, subst, arith}
use mathlib.Core.Logic.{dite}
use native.Mathlib.Decide.{ℕ_discrete}
use Rattle.iscc_header.specs.declared.unit.Unit64.{Unit64}
use Rattle.reg_model.specs.declared.update.Declared.{Declared}
use Rattle.reg_model.specs.declared.reply.Row.{Row}
use Rattle.reg_words.specs.declared.word.StampWord.{StampWord}
use Rattle.reg_words.specs.declared.word.StampWord.TheVariants.{Unborn, Live, Dead}
use Rattle.reg_words.specs.declared.word.SweepWord.{SweepWord}
use Rattle.reg_words.specs.Packing.{stamp_word}
use Rattle.reg_words.specs.Memory.{set_at}
use Rattle.reg_rule.specs.declared.view.Key.{Key}
use Rattle.reg_rule.specs.declared.view.Place.{Place}
use Rattle.reg_rule.specs.declared.view.View.{View}
use Rattle.reg_rule.specs.Log.{At, IsDecl, IsWd, Declares}
use Rattle.reg_rule.specs.inner.World.{Use, free, in_hand, holds}
use Rattle.reg_rule.specs.inner.LogParts.{LogPart}
use Rattle.reg_rule.specs.inner.SeatParts.{Owns, Saw}
use Rattle.reg_rule.specs.inner.Entries.{UsesPart, StampsPart, StampFits, HasKind}
use Rattle.reg_rule.specs.inner.Sweeping.{FloorsPart}
use Rattle.reg_rule.specs.inner.PinParts.{FitsPin, AboveFloor}
use Rattle.reg_rule.specs.Conditions.{MaySwapBirth, MaySwapDeath}
use Rattle.reg_rule.specs.inner.Rule.{KeyPart}
use Rattle.atomic_table.proofs.Lists.{at_longer}
use Rattle.reg_rule.proofs.Held.{all_at, helped_is_held}
use Rattle.reg_rule.proofs.Shows.{at_inside}
use Rattle.reg_rule.proofs.Once.{declares_longer}
use Rattle.reg_rule.proofs.StampsKept.{at_set, set_here, set_away, fits_born, fits_died}
use Rattle.reg_rule.proofs.Floors.{helper_above}

pub unborn_of : (s : StampWord) → stamp_word s ≡ 0 → s ≡ Unborn
unfolding stamp_word
unborn_of Unborn e = refl
unborn_of (Live kind id) e = absurd (omega arith)
unborn_of (Dead kind id d) e = absurd (omega arith)

-- the stamp's numbers fit their bits where it is live or dead
abbrev pub IsBounded : StampWord → Type 0
IsBounded Unborn = Unit {0}
IsBounded (Live kind id) = kind < 13
IsBounded (Dead kind id d) = d < 2 ^ 22

pub live_of : (s : StampWord) (kind id : ℕ) → kind < 13 → IsBounded s → stamp_word s ≡ stamp_word (Live kind id) → s ≡ Live kind id
unfolding stamp_word
live_of Unborn kind id k b e = absurd (omega arith)
live_of (Live other i) kind id k b e = let h : other ≡ kind = omega arith in let g : i ≡ id = omega arith in ap (λ (n : ℕ). Live n i) h ∙ ap (Live kind) g
live_of (Dead other i d) kind id k b e = absurd (omega arith)

pub kind_below : (key : Key) (cells : ℕ → ℕ) (log : List Place) (id entry : ℕ) (unit : Unit64) → KeyPart key → LogPart key cells log → Declares key.carried log id unit entry → unit.kind < 13
kind_below key cells log id entry unit ok part dec =
    ⊎_elim (λ (c : At key.carried.list entry (record { id = id; unit = unit })). all_at (λ (d : Declared). d.unit.kind < 13) key.carried.list entry (record { id = id; unit = unit }) ok.kinds c)
    (λ (t : (n : ℕ) × (id ≡ key.carried.base + n) × IsDecl log n unit entry). part.kinds t.0 unit entry t.2) dec

pub bounded : (key : Key) (cells : ℕ → ℕ) (log : List Place) (returned entry : ℕ) (uses : ℕ → Use) (s : StampWord) → KeyPart key → LogPart key cells log → UsesPart key log returned uses → entry < key.entries
    → StampFits key.carried log returned entry (uses entry) s → IsBounded s
bounded key cells log returned entry uses s ok part use_part inside fits = by_use (uses entry) s refl fits where
  by_use : (u : Use) (z : StampWord) → uses entry ≡ u → StampFits key.carried log returned entry u z → IsBounded z
  by_use u Unborn is h = tt
  by_use (holds id) (Live kind other) is h = let mine = use_part.holding id entry inside is in let k = h.1 mine.0.0 mine.0.1 in let g = kind_below key cells log id entry mine.0.0 ok part mine.0.1 in omega arith
  by_use (free j) (Live kind other) is h = absurd h
  by_use (in_hand seat i) (Live kind other) is h = absurd h
  by_use (holds id) (Dead kind other d) is h = let g = at_inside log d _ h.2 in let short = part.short in let range = ok.sizes.log.1 in omega arith
  by_use (free j) (Dead kind other d) is h = let g = at_inside log d _ h.0 in let short = part.short in let range = ok.sizes.log.1 in omega arith
  by_use (in_hand seat i) (Dead kind other d) is h = let g = at_inside log d _ h.0 in let short = part.short in let range = ok.sizes.log.1 in omega arith

module _ (key : Key) (cells logs : ℕ → ℕ) (log : List Place) (begun returned : ℕ) (uses : ℕ → Use) (stamps : ℕ → StampWord) (word : SweepWord) (floor freed : ℕ → ℕ)
    (accounts : ℕ → List Row) (owner : ℕ → ℕ × ℕ) (id : ℕ) (v : View)
    (ok : KeyPart key) (log_part : LogPart key logs log) (use_part : UsesPart key log returned uses) (part : StampsPart key cells log returned uses stamps)
    (order : returned ≤ begun) (floors : FloorsPart key.sizes.callers log word begun returned floor freed)
    (owns : Owns key.sizes.callers accounts owner id v) (pin : FitsPin id v) (above : AboveFloor floor id v) (saw : Saw log id v) (knows : v.key ≡ key) where
  seen_is : (n : ℕ) (p : Place) → At v.log n p → At log n p
  seen_is n p at = subst (λ (l : List Place). At l n p) (sym saw.1) (at_longer v.log saw.0 n p at)

  -- kind 5, won
  pub born : (entry old new : ℕ) (may : MaySwapBirth entry old new v) → cells entry ≡ old
      → StampsPart key (set_at cells entry new) log returned uses (set_at stamps entry (Live may.birth.1.kind (key.carried.base + may.birth.0)))
  born entry old new may found =
      let b = may.birth in let n = b.0 in let unit = b.1 in
      let here : IsDecl log n unit entry = seen_is n _ b.4 in
      let room : entry < key.entries = subst (λ (k : Key). entry < k.entries) knows may.inside in
      let low : begun ≤ n + 1 = helper_above key.sizes.callers accounts owner log word begun returned floor freed id n v owns pin above floors b.2 in
      let held : uses entry ≡ holds (key.carried.base + n) = helped_is_held key logs log begun returned uses n entry unit ok.opening.below log_part use_part order low here in
      let was : stamps entry ≡ Unborn = unborn_of (stamps entry) (sym (part.words entry room) ∙ (found ∙ may.unborn)) in
      let is_new : new ≡ stamp_word (Live unit.kind (key.carried.base + n)) = b.5 ∙ ap (λ (k : Key). stamp_word (Live unit.kind (k.carried.base + n))) knows in
      record {
        words = λ e inside. dite (ℕ_discrete e entry)
            (λ same. subst (λ (z : ℕ). set_at cells entry new z ≡ stamp_word (set_at stamps entry (Live unit.kind (key.carried.base + n)) z)) (sym same) (set_here cells entry new ∙ (is_new ∙ sym (ap stamp_word (set_here stamps entry (Live unit.kind (key.carried.base + n)))))))
            (λ apart. set_away cells entry e new apart ∙ (part.words e inside ∙ sym (ap stamp_word (set_away stamps entry e (Live unit.kind (key.carried.base + n)) apart))));
        kinds = at_set stamps entry (Live unit.kind (key.carried.base + n)) (λ e s. e < key.entries → HasKind s) (λ inside. log_part.kinds n unit entry here) (λ e apart inside. part.kinds e inside);
        fits = fits_born key log returned uses stamps ok.opening log_part.lawful part.fits unit n entry here room held was;
      }

  -- kind 6: the stamp is that of the living declaration just where the word is
  pub was_live : (entry old new : ℕ) (may : MaySwapDeath entry old new v) → cells entry ≡ old → stamps entry ≡ Live may.death.2.kind may.death.1
  was_live entry old new may found =
      let i = may.death.1 in let unit = may.death.2 in let room : entry < key.entries = subst (λ (k : Key). entry < k.entries) knows may.inside in
      let dec = declared_there entry old new may in
      live_of (stamps entry) unit.kind i (kind_below key logs log i entry unit ok log_part dec)
      (bounded key logs log returned entry uses (stamps entry) ok log_part use_part room (part.fits entry room)) (sym (part.words entry room) ∙ (found ∙ may.death.6)) where
        declared_there : (entry old new : ℕ) (may : MaySwapDeath entry old new v) → Declares key.carried log may.death.1 may.death.2 entry
        declared_there entry old new may = subst (λ (l : List Place). Declares key.carried l may.death.1 may.death.2 entry) (sym saw.1)
            (declares_longer key.carried v.log saw.0 may.death.1 entry may.death.2 (subst (λ (k : Key). Declares k.carried v.log may.death.1 may.death.2 entry) knows may.death.5))

  -- kind 6, won
  pub died : (entry old new : ℕ) (may : MaySwapDeath entry old new v) → cells entry ≡ old
      → StampsPart key (set_at cells entry new) log returned uses (set_at stamps entry (Dead may.death.2.kind may.death.1 may.death.0))
  died entry old new may found =
      let b = may.death in let n = b.0 in let i = b.1 in let unit = b.2 in
      let here : IsWd log n i entry = seen_is n _ b.4 in
      let room : entry < key.entries = subst (λ (k : Key). entry < k.entries) knows may.inside in
      let dec : Declares key.carried log i unit entry = subst (λ (l : List Place). Declares key.carried l i unit entry) (sym saw.1) (declares_longer key.carried v.log saw.0 i entry unit (subst (λ (k : Key). Declares k.carried v.log i unit entry) knows b.5)) in
      record {
        words = λ e inside. dite (ℕ_discrete e entry)
            (λ same. subst (λ (z : ℕ). set_at cells entry new z ≡ stamp_word (set_at stamps entry (Dead unit.kind i n) z)) (sym same) (set_here cells entry new ∙ (b.7 ∙ sym (ap stamp_word (set_here stamps entry (Dead unit.kind i n))))))
            (λ apart. set_away cells entry e new apart ∙ (part.words e inside ∙ sym (ap stamp_word (set_away stamps entry e (Dead unit.kind i n) apart))));
        kinds = at_set stamps entry (Dead unit.kind i n) (λ e s. e < key.entries → HasKind s) (λ inside. kind_below key logs log i entry unit ok log_part dec) (λ e apart inside. part.kinds e inside);
        fits = fits_died key log returned uses stamps ok.opening log_part.lawful part.fits unit.kind i n entry here room (was_live entry old new may found);
      }
