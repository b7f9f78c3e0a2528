-- Finding the declaration with an id, step by step.
use Rattle.std.specs.Prelude.{◌≡◌, ℕ, ◌≤◌, ◌==◌, ◌&&◌, nat_le, cond, List, [], ◌∷◌, ◌++◌, length, take, Option, None, Some}
use Rattle.iscc_header.specs.declared.unit.Unit64.{Unit64}
use Rattle.reg_words.specs.declared.word.StampWord.{StampWord}
use Rattle.reg_words.specs.declared.word.StampWord.TheVariants.{Unborn, Live, Dead}
use Rattle.reg_rule.specs.declared.told.Told.{Told}
use Rattle.reg_rule.specs.declared.view.Place.{Place}
use Rattle.reg_rule.specs.declared.view.View.{View}
use Rattle.reg_rule.specs.Log.{IsLiveIn, Declares}
use Rattle.reg_rule.specs.Moves.{replied_accounts, front_reply, stamp_reply}

-- the id is declared below the front, in this entry; or it is not
abbrev pub IsDeclaredIn : View → ℕ → ℕ → Option ℕ → Type 0
IsDeclaredIn v k id None = (unit : Unit64) (entry : ℕ) → Declares v.key.carried (take k v.log) id unit entry → ⊥
IsDeclaredIn v k id (Some entry) = (unit : Unit64) × Declares v.key.carried (take k v.log) id unit entry

-- the id is live at the front in this entry, and of this kind; or it is not
abbrev pub IsLiveKind : View → ℕ → ℕ → ℕ → Option ℕ → Type 0
IsLiveKind v k id entry None = (unit : Unit64) → IsLiveIn v.key.carried (take k v.log) id unit entry → ⊥
IsLiveKind v k id entry (Some kind) = (unit : Unit64) × IsLiveIn v.key.carried (take k v.log) id unit entry × (kind ≡ unit.kind)

abbrev pub kind_shown : ℕ → ℕ → StampWord → Option ℕ
kind_shown place id Unborn = None
kind_shown place id (Live kind found) = cond (found == id) (Some kind) None
kind_shown place id (Dead kind found death) = cond ((found == id) && nat_le place death) (Some kind) None

-- The log was loaded once, and decided what isn't declared below the snapshot.
pub record Sought (told : Told) (v : View) (k id : ℕ) (w : View) : Type 0 where
  pub places : List Place
  pub few : length places ≤ 1
  pub room : length (v.log ++ places) ≤ v.key.sizes.log
  pub alone : v.key.sizes.callers ≡ 1 → places ≡ []
  pub view : w ≡ record v {
    log = v.log ++ places;
    front = w.front;
    holding = w.holding;
    accounts = replied_accounts front_reply told v k;
    made = v.made ++ 1 ∷ [];
  }
  pub holding : v.holding ≡ None → w.holding ≡ None

-- The stamp of an entry was loaded, and decided what isn't live at the snapshot.
pub record LookedFor (told : Told) (v : View) (k id : ℕ) (w : View) : Type 0 where
  pub view : w ≡ record v {
    found = w.found;
    met = w.met;
    accounts = replied_accounts stamp_reply told v k;
    made = v.made ++ 7 ∷ [];
  }
