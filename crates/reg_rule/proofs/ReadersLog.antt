-- For readers: the log of the words follows from the rule.
use Rattle.std.proofs.Common.{◌≡◌, ℕ, zero, suc, ◌+◌, ◌<◌, ◌≤◌, inl, inr, List, length, sym, refl, ◌∙◌, subst, arith}
use Rattle.iscc_header.specs.declared.unit.Unit64.{Unit64}
use Rattle.reg_words.specs.declared.word.StampWord.{StampWord}
use Rattle.reg_words.specs.declared.word.StampWord.TheVariants.{Unborn, Live, Dead}
use Rattle.reg_words.specs.Packing.{FitsLog, stamp_word}
use Rattle.reg_words.specs.Memory.{STAMP, LOG}
use Rattle.reg_words.proofs.LogWords.{no_record}
use Rattle.reg_rule.specs.declared.view.Key.{Key}
use Rattle.reg_rule.specs.declared.view.Place.{Place}
use Rattle.reg_rule.specs.declared.view.View.{View}
use Rattle.reg_rule.specs.Log.{At, record_at, IsWd, IsDecl, Declares}
use Rattle.reg_rule.specs.ReadersLog.{IsLogOf, LogStands, IsCompleteIn, ShowsBirth, front_from, log_front, given_back}
use Rattle.reg_rule.specs.inner.World.{World, Use, holds}
use Rattle.reg_rule.specs.inner.Entries.{StampFits}
use Rattle.reg_rule.specs.inner.Rule.{Inv}
use Rattle.reg_rule.proofs.Shows.{at_inside}
use Rattle.reg_rule.proofs.Once.{wd_later, wd_once}
use Rattle.reg_rule.proofs.Held.{there}
use Rattle.reg_rule.proofs.Chained.{test_same, test_apart}
use Rattle.reg_rule.proofs.ReadersGiven.{has_held}
use Rattle.reg_rule.proofs.Tells.{record_fits}

-- ---- the front of the words is the length of their log

front_more : (cells : ℕ → ℕ) (room n k : ℕ) → k ≤ room → ((j : ℕ) → n ≤ j → j < n + k → cells j ≡ 0 → ⊥) → (k < room → cells (n + k) ≡ 0) → front_from cells n room ≡ n + k
front_more cells zero n k low full end = omega arith
front_more cells (suc room) n zero low full end = let z : cells n ≡ 0 = subst (λ (j : ℕ). cells j ≡ 0) (same n) (end (omega arith)) in test_same (cells n) 0 n (front_from cells (n + 1) room) z ∙ sym (same n) where
  same : (n : ℕ) → n + 0 ≡ n
  same n = omega arith
front_more cells (suc room) n (suc k) low full end =
    test_apart (cells n) 0 n (front_from cells (n + 1) room) (full n (omega arith) (omega arith)) ∙ (front_more cells room (n + 1) k (omega arith) (λ j a b. full j (omega arith) (omega arith)) (λ h. subst (λ (j : ℕ). cells j ≡ 0) (next n k) (end (omega arith))) ∙ sym (next n k)) where
      next : (n k : ℕ) → n + suc k ≡ n + 1 + k
      next n k = omega arith

pub front_is : (key : Key) (m : ℕ → ℕ → ℕ) (log : List Place) → IsLogOf key m log → log_front key m ≡ length log
front_is key m log l = front_more (m LOG) key.sizes.log 0 (length log) l.room
    (λ j a b e. let p = there log j (omega arith) in no_record (record_at key.carried.base j p.0.update p.0.entry) (sym (l.filled j p.0 p.1).0 ∙ e))
    (λ h. l.empty (0 + length log) (omega arith)) ∙ (let h : 0 + length log ≡ length log = omega arith in h)

module _ (key : Key) (m : ℕ → ℕ → ℕ) (w : World) (views : List View) (i : Inv key m w views) where
  fits : (n : ℕ) (p : Place) → At w.log n p → FitsLog (record_at key.carried.base n p.update p.entry)
  fits = record_fits key (m LOG) w.log i.key_part i.log

  pub is_log : IsLogOf key m w.log
  is_log = record {
    room = i.log.short;
    filled = λ n p at. (i.log.filled n p at, fits n p at);
    empty = i.log.empty;
    noted = i.notes.noted;
    coded = λ n unit entry last decl. i.codes.bodies (key.carried.base + n) entry unit (held n unit entry last decl) (inr (n, refl, decl));
  } where
    held : (n : ℕ) (unit : Unit64) (entry : ℕ) → n + 1 ≡ length w.log → IsDecl w.log n unit entry → w.uses entry ≡ holds (key.carried.base + n)
    held n unit entry last decl = i.uses.held (key.carried.base + n) entry unit (inr (n, refl, decl))
        (λ d e wd. let a = wd_later key.carried w.log n d e i.key_part.opening i.log.lawful wd in let b = at_inside w.log d _ wd in absurd (omega arith))

  abbrev shown : ℕ → Use → StampWord → Type 0
  shown entry u s = StampFits key.carried w.log w.returned entry u s

  complete : (n : ℕ) → n + 1 < length w.log → IsCompleteIn key m w.log (given_back w.word views) n
  complete n more = record {
    born = λ unit entry decl has. let low = i.log.entries n _ decl in let held = has_held key m w views i entry (key.carried.base + n) unit has in
        birth unit entry (w.stamps entry) (i.stamps.words entry low) has.declared (subst (λ (u : Use). shown entry u (w.stamps entry)) held (i.stamps.fits entry low));
    died = λ id entry unit wd has. let low = i.log.entries n _ wd in let held = has_held key m w views i entry id unit has in
        death id entry unit wd (w.stamps entry) (i.stamps.words entry low) has.declared (subst (λ (u : Use). shown entry u (w.stamps entry)) held (i.stamps.fits entry low));
  } where
    birth : (unit : Unit64) (entry : ℕ) (s : StampWord) → m STAMP entry ≡ stamp_word s → Declares key.carried w.log (key.carried.base + n) unit entry → shown entry (holds (key.carried.base + n)) s → ShowsBirth m w.log entry (key.carried.base + n) unit
    birth unit entry Unborn is dec f = let a = f.1 in let b = f.2 in absurd (omega arith)
    birth unit entry (Live kind other) is dec f = inl (is ∙ (λ j. stamp_word (Live (f.1 unit dec j) (f.0 j))))
    birth unit entry (Dead kind other d) is dec f = inr (d, f.2, is ∙ (λ j. stamp_word (Dead (f.1 unit dec j) (f.0 j) d)))

    death : (id entry : ℕ) (unit : Unit64) → IsWd w.log n id entry → (s : StampWord) → m STAMP entry ≡ stamp_word s → Declares key.carried w.log id unit entry → shown entry (holds id) s → m STAMP entry ≡ stamp_word (Dead unit.kind id n)
    death id entry unit wd Unborn is dec f = let e : f.0 < n = wd_later key.carried w.log f.0 n entry i.key_part.opening i.log.lawful (subst (λ (x : ℕ). IsWd w.log n x entry) f.1 wd) in let a = f.2 in absurd (omega arith)
    death id entry unit wd (Live kind other) is dec f = let a = f.2 n entry wd in absurd (omega arith)
    death id entry unit wd (Dead kind other d) is dec f = let e : d ≡ n = wd_once key.carried w.log d n id entry entry i.log.lawful f.2 wd in is ∙ (λ j. stamp_word (Dead (f.1 unit dec j) (f.0 j) (e j)))

  -- the sentence on the log
  pub log_stands : LogStands key m views w.log (given_back w.word views)
  log_stands = record { held = is_log; lawful = i.log.lawful; complete = complete; seen = i.saw; exchanges = i.exchanges }
