-- For readers: all sentences follow from the rule, so they hold between any two steps.
use Rattle.std.proofs.Common.{◌≡◌, ℕ, false, is_some, List, [], ◌∷◌, length, Option, Some, None, ap, sym, refl, ◌∙◌, arith}
use mathlib.Core.Logic.{dite}
use native.Mathlib.Decide.{ℕ_discrete}
use Rattle.reg_words.proofs.SweepWords.{one_state}
use Rattle.reg_rule.specs.declared.view.Key.{Key}
use Rattle.reg_rule.specs.declared.view.View.{View}
use Rattle.reg_rule.specs.declared.view.Holding.{Holding}
use Rattle.reg_rule.specs.Seats.{IsSpent}
use Rattle.reg_rule.specs.ReadersLog.{IsSeatOf, cells_of}
use Rattle.reg_rule.specs.Readers.{Always, WordsStand}
use Rattle.reg_rule.specs.inner.World.{World}
use Rattle.reg_rule.specs.inner.Rule.{Inv, Kept}
use Rattle.reg_rule.proofs.ReadersLog.{log_stands}
use Rattle.reg_rule.proofs.ReadersEntries.{entries_stand}
use Rattle.reg_rule.proofs.ReadersChains.{chains_stand}
use Rattle.reg_rule.proofs.ReadersPins.{pins_stand, cursors_stand, needed_stand}
use Rattle.reg_rule.proofs.ReadersHistory.{accounts_stand}
use Rattle.reg_rule.proofs.ReadersReach.{reclamation_stands}
use Rattle.reg_rule.proofs.ReadersStores.{stores_stand}
use Rattle.reg_rule.proofs.SweepBits.{mark_inside, word_fits}

empty : {A : Type 0} (l : List A) → length l ≡ 0 → l ≡ []
empty [] e = refl
empty (x ∷ l) e = absurd (omega arith)

pub is_spent : (key : Key) (m : ℕ → ℕ → ℕ) (w : World) (views : List View) → Inv key m w views → (seat : ℕ) (v : View) → IsSeatOf views seat v → v.live ≡ false → IsSpent v
is_spent key m w views i seat v at off = let f = i.has_sessions seat v at in let p = i.fits_pin seat v at in let none = (f.spent off).0 in record {
  accounts = empty v.accounts none;
  hands = empty v.hands (let most = f.hands_most in omega arith);
  pin = dite (ℕ_discrete v.pin 0) (λ is. is) (λ apart. let some_account = p.session (omega arith) in absurd (omega arith));
  holding = by_holding v.holding refl;
  log = empty v.log (f.spent off).1;
} where
  by_holding : (o : Option Holding) → v.holding ≡ o → v.holding ≡ None
  by_holding None is = is
  by_holding (Some h) is = let f = i.has_sessions seat v at in let none = (f.spent off).0 in let some_account = f.holding (ap is_some is) in absurd (omega arith)

abbrev pub stands : (key : Key) (m : ℕ → ℕ → ℕ) (w : World) (views : List View) → Inv key m w views → WordsStand key m views
stands key m w views i = record {
  log = w.log;
  word = w.word;
  word_is = i.sweep.word_is;
  word_fits = word_fits key m w views i;
  within = i.sweep.within;
  marked = mark_inside key m w views i;
  log_stands = log_stands key m w views i;
  entries_stand = entries_stand key m w views i;
  chains_stand = chains_stand key m w views i;
  pins_stand = pins_stand key m w views i;
  cursors_stand = cursors_stand key m w views i;
  needed_stand = needed_stand key m w views i;
  accounts_stand = accounts_stand key m w views i;
  reclamation_stands = reclamation_stands key m w views i;
  stores_stand = stores_stand key m w views i;
  costs_stand = λ seat n v c is at. i.costs seat v is n c at;
  spent = is_spent key m w views i;
}

pub words_stand : Always Kept WordsStand
words_stand key s kept = stands key (cells_of key s.words) kept.world s.views kept.inv

pub one_sweep : (key : Key) (m : ℕ → ℕ → ℕ) (views others : List View) (a : WordsStand key m views) (b : WordsStand key m others) → a.word ≡ b.word
one_sweep key m views others a b = one_state a.word b.word a.word_fits b.word_fits (sym a.word_is ∙ b.word_is)
