-- Snapshots: how one is opened, what keeps it open, and what is shown at it.
use Rattle.std.specs.Prelude.{◌≡◌, ℕ, ◌+◌, ◌<◌, ◌≤◌, ◌==◌, ◌||◌, Bool, List, [], ◌++◌, length, count_by, Option, None, Some, option_map}
use Rattle.iscc_header.specs.declared.unit.Unit64.{Unit64}
use Rattle.reg_model.specs.declared.update.Declared.{Declared}
use Rattle.reg_model.specs.declared.call.Call.TheVariants as calls
use Rattle.reg_model.specs.Live.{live_at}
use Rattle.reg_model.specs.Replies.{shown}
use Rattle.reg_words.specs.declared.word.LogWord.{LogWord}
use Rattle.reg_words.specs.declared.word.LogWord.TheVariants as records
use Rattle.reg_rule.specs.declared.told.Told.{Told}
use Rattle.reg_rule.specs.declared.told.Told.TheVariants.{Row as RowOf, Opens}
use Rattle.reg_rule.specs.declared.view.Account.{Account}
use Rattle.reg_rule.specs.declared.view.Place.{Place}
use Rattle.reg_rule.specs.declared.view.View.{View}
use Rattle.reg_rule.specs.Log.{At}
use Rattle.reg_rule.specs.Helping.{HasHelped}
use Rattle.reg_rule.specs.Moves.{pinned, grown, next_row, log_at}
use Rattle.reg_commit.specs.Fronts.{FrontFound}
use Rattle.reg_commit.specs.Helps.{completed}

-- A snapshot is open at this many places: under a pin, and each of these places is complete.
pub record IsOpenAt (v : View) (k : ℕ) : Type 0 where
  pub snapshot : v.snapshot ≡ Some k
  pub pinned : 0 < v.pin
  pub helped : HasHelped v k
  pub inside : k ≤ length v.log
  pub within : k ≤ v.key.sizes.log

abbrev pub IsOpen : View → Type 0
IsOpen v = (k : ℕ) × IsOpenAt v k

-- a load of the code or the stamp of an entry
abbrev pub is_look : ℕ → Bool
is_look kind = (kind == 3) || (kind == 7)

abbrev pub is_log_load : ℕ → Bool
is_log_load kind = kind == 1

-- ---- opening

-- the place before the front, if there is one, was completed
abbrev pub IsCompleted : ℕ → View → View → Type 0
IsCompleted k u w = (k ≡ 0 → w ≡ u) × ((n : ℕ) → k ≡ n + 1 → (p : Place) × At u.log n p × (w ≡ completed u n p))

-- A snapshot was opened at the front: the pass was pinned, the front was found, and the place before it completed.
pub record Begun (v : View) (k : ℕ) (w : View) : Type 0 where
  pub found : (u : View) × FrontFound Opens (pinned v) k u × IsCompleted k u w
  -- so it is open there, no earlier than what the pass had seen, and no row was made
  pub opens : IsOpenAt w k
  pub later : length v.log ≤ k
  -- at the end of what the pass has seen then; one caller has seen all that there is
  pub seen : length w.log ≡ k
  pub alone : v.key.sizes.callers ≡ 1 → k ≡ length v.log
  -- what the pass had helped, it has helped
  pub kept : (n : ℕ) → n ≤ length v.log → HasHelped v n → HasHelped w n
  pub accounts : w.accounts ≡ v.accounts
  pub costs : w.costs ≡ v.costs
  -- what stands in the words for the seat, and what it holds, is as it was
  pub pin : w.pin ≡ length v.log + 1
  pub hands : w.hands ≡ v.hands
  pub committed : w.committed ≡ v.committed
  pub taking : (w.taking ≡ v.taking) × (w.empty ≡ v.empty)
  pub sweeps : (w.sweeps ≡ v.sweeps) × (w.stopped ≡ v.stopped) × (w.last_word ≡ v.last_word)
  pub holding : v.holding ≡ None → w.holding ≡ None
  -- the loads of the log are three more at most than the places newly seen, and there are two looks at most
  pub steps : List ℕ
  pub made : w.made ≡ v.made ++ steps
  pub loads : length v.log + count_by is_log_load steps ≤ length w.log + 3
  pub looks : count_by is_look steps ≤ 2

-- ---- showing

-- the entry of what a record declares
abbrev pub declared_entry : LogWord → Option ℕ
declared_entry (records.Decl kind entry id) = Some entry
declared_entry (records.Wd entry id) = None

-- the row, if one is told
abbrev pub shown_accounts : Told → View → ℕ → ℕ → List Account
shown_accounts (RowOf call) v k id = grown v.accounts (Some (next_row v (calls.Show id) k (shown id (live_at v.key.carried (log_at v k) id))))
shown_accounts told v k id = v.accounts

-- The declaration with the id that is live at the snapshot was found, or that none is. One place more may have been seen.
pub record ShownAt (told : Told) (v : View) (k id : ℕ) (unit : Option Unit64) (w : View) : Type 0 where
  pub unit_is : unit ≡ option_map (λ (d : Declared). d.unit) (live_at v.key.carried (log_at v k) id)
  pub opens : IsOpenAt w k
  pub places : List Place
  pub few : length places ≤ 1
  pub room : length (v.log ++ places) ≤ v.key.sizes.log
  -- one caller has seen all that there is
  pub alone : v.key.sizes.callers ≡ 1 → places ≡ []
  pub steps : List ℕ
  -- the rest of the view is as it was
  pub view : w ≡ record v {
    log = v.log ++ places;
    front = w.front;
    holding = w.holding;
    found = w.found;
    met = w.met;
    accounts = shown_accounts told v k id;
    made = v.made ++ steps;
  }
  -- a pass that doesn't hold the sweep doesn't hold it then
  pub holding : v.holding ≡ None → w.holding ≡ None
  -- one load of the log, and two looks at most
  pub loads : count_by is_log_load steps ≡ 1
  pub only : length steps ≡ count_by is_log_load steps + count_by is_look steps
  pub looks : count_by is_look steps ≤ 2
