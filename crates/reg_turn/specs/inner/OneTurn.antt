-- The rule of the table: word 0 is not 0 while a seat has the turn, and slot 0 has the registry while nobody has it.
use Rattle.std.specs.Prelude.{◌≡◌, ◌≢◌, ℕ, zero, suc, ◌+◌, ◌<◌, ◌≤◌, ◌==◌, if◌then◌else◌, List, [], ◌∷◌, length, map, slice_index, slice_get, All, true, false, Some, Option as StdOption}
use Rattle.std.specs.List.{range_with_len}
use mathlib.Core.Option.{Option, none, some}
use lib.ListN.{get_elem?}
use Rattle.atomic_table.specs.Table.{State}
use Rattle.reg_model.specs.declared.update.Update.{Update}
use Rattle.reg_model.specs.declared.reply.Row.{Row}
use Rattle.reg_model.specs.Rows.{all_rows}
use Rattle.reg_model.specs.Accounts.{ShareLog}
use Rattle.reg_model.specs.Registry.{Registry, registry_at}
use Rattle.reg_turn.specs.declared.view.Account.{Account}
use Rattle.reg_turn.specs.declared.view.Key.{Key}
use Rattle.reg_turn.specs.declared.view.View.{View}
use Rattle.reg_turn.specs.PlainRows.{IsPlainRow}

abbrev pub Slot : Type 0
Slot = StdOption Registry

-- the registry of the round after these updates
abbrev pub at_log : Key → List Update → Registry
at_log key log = registry_at key.sizes key.carried log

-- the account at place i of the view of seat id is that of its session
pub record Owned (accounts : List (List Row)) (owner : ℕ → ℕ × ℕ) (id i : ℕ) (a : Account) : Type 0 where
  pub owner_is : owner a.number ≡ (id, i)
  pub rows_are : slice_get accounts a.number ≡ Some a.rows

-- what one seat's view says of the log, of the accounts, and of whose they are
pub record Fits (key : Key) (log : List Update) (accounts : List (List Row)) (owner : ℕ → ℕ × ℕ) (holder turn id : ℕ) (v : View) : Type 0 where
  pub knows : v.live ≡ true → v.key ≡ key
  pub owns : (i : ℕ) (a : Account) → get_elem? v.accounts i ≡ some a → Owned accounts owner id i a
  pub seen : v.seen ≤ key.carried.base + length log
  pub holding : v.holds ≡ true → (turn ≢ 0) × (holder ≡ id) × (v.log ≡ log)

-- the registry is at home with this log, or is out
pub record Rests (key : Key) (words : List ℕ) (homes : List (Option Slot)) (log : List Update) : Type 0 where
  pub home : slice_index words 0 ≡ 0 → get_elem? homes 0 ≡ some (some (Some (at_log key log)))
  pub out : slice_index words 0 ≢ 0 → get_elem? homes 0 ≡ some none

-- the seat that has the turn has an account
pub record Holds (views : List View) (holder : ℕ) : Type 0 where
  pub view : View
  pub at : get_elem? views holder ≡ some view
  pub holds : view.holds ≡ true
  pub account : 0 < length view.accounts

-- What holds between any two steps: the accounts of all sessions stand in the registry's log, each with the plain registry's replies,
-- and each is in the view of one seat.
pub record Kept (key : Key) (s : State Slot View) : Type 0 where
  pub log : List Update
  pub accounts : List (List Row)
  pub owner : ℕ → ℕ × ℕ
  pub holder : ℕ
  pub wide : length s.words ≡ 1
  pub rests : Rests key s.words s.homes log
  pub turn : slice_index s.words 0 ≢ 0 → Holds s.views holder
  pub shared : ShareLog key.sizes key.carried log accounts
  pub plain : All (IsPlainRow key.sizes key.carried log) (all_rows accounts)
  pub callers : length accounts ≡ key.sizes.callers
  pub fits : (id : ℕ) (v : View) → get_elem? s.views id ≡ some v → Fits key log accounts owner holder (slice_index s.words 0) id v

-- ---- the accounts of a view

-- empty accounts of so many sessions, from this number on
abbrev pub newcomers : ℕ → ℕ → List Account
newcomers from zero = []
newcomers from (suc n) = record { number = from; rows = [] } ∷ newcomers (suc from) n

-- the view of a seat with those accounts
abbrev pub fresh : Key → ℕ → ℕ → View
fresh key from n = record { live = true; key = key; holds = false; log = []; seen = key.carried.base; accounts = newcomers from n; sealed = [] }

-- the first seat has all
abbrev pub first_view : Key → View
first_view key = fresh key 0 key.sizes.callers

abbrev pub head_number : List Account → ℕ
head_number [] = 0
head_number (a ∷ _) = a.number

abbrev pub head_rows : List Account → List Row
head_rows [] = []
head_rows (a ∷ _) = a.rows

-- the rows of the session with this number
abbrev pub rows_of : List Account → ℕ → List Row
rows_of [] number = []
rows_of (a ∷ others) number = if a.number == number then a.rows else rows_of others number

-- the accounts of the sessions 0, 1, 2, ..
abbrev pub by_number : ℕ → List Account → List (List Row)
by_number callers accounts = map (rows_of accounts) (range_with_len 0 callers)
