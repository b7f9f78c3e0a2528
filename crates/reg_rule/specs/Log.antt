-- The log: what its places declare and withdraw.
use Rattle.std.specs.Prelude.{◌≡◌, ℕ, List, Bool, ◌+◌, ◌<◌, ◌≤◌, ◌⊎◌, ◌==◌, length, map}
use mathlib.Core.Option.{some}
use lib.ListN.{get_elem?}
use Rattle.reg_rule.specs.declared.view.Place.{Place}
use Rattle.std.specs.List.{list_any}
use Rattle.iscc_header.specs.declared.unit.Unit64.{Unit64}
use Rattle.reg_model.specs.declared.update.Update.{Update}
use Rattle.reg_model.specs.declared.update.Update.TheVariants.{Decl, Wd}
use Rattle.reg_model.specs.Opening.{Opening}
use Rattle.reg_model.specs.Live.{declared}
use Rattle.reg_words.specs.declared.word.LogWord.{LogWord}
use Rattle.reg_words.specs.declared.word.LogWord.TheVariants as records
use Rattle.reg_words.specs.Packing.{log_word}

-- the list has this element there
abbrev pub At : {A : Type 0} → List A → ℕ → A → Type 0
At list i x = get_elem? list i ≡ some x

abbrev pub updates : List Place → List Update
updates log = map (λ p. p.update) log

abbrev pub place_of : Update → ℕ → Place
place_of update entry = record { update = update; entry = entry }

-- the place declares the unit, in this entry
abbrev pub IsDecl : List Place → ℕ → Unit64 → ℕ → Type 0
IsDecl log n unit entry = At log n (place_of (Decl unit) entry)

-- the place withdraws the id, whose declaration is in this entry
abbrev pub IsWd : List Place → ℕ → ℕ → ℕ → Type 0
IsWd log n id entry = At log n (place_of (Wd id) entry)

-- each withdrawal of the id stands at this place or later
abbrev pub IsKeptUpTo : List Place → ℕ → ℕ → Type 0
IsKeptUpTo log n id = (d entry : ℕ) → IsWd log d id entry → n ≤ d

-- no place from one on and below another is a withdrawal
abbrev pub NoneWithdrawn : List Place → ℕ → ℕ → Type 0
NoneWithdrawn log from to = (d id entry : ℕ) → from ≤ d → d < to → IsWd log d id entry → ⊥

-- the id is declared, with this unit and in this entry: it is carried, or a place declares it
abbrev pub Declares : Opening → List Place → ℕ → Unit64 → ℕ → Type 0
Declares opening log id unit entry = At opening.list entry (record { id = id; unit = unit }) ⊎ ((n : ℕ) × (id ≡ opening.base + n) × IsDecl log n unit entry)

-- the id is live after the places, with this unit and in this entry
pub record IsLiveIn (opening : Opening) (log : List Place) (id : ℕ) (unit : Unit64) (entry : ℕ) : Type 0 where
  pub declares : Declares opening log id unit entry
  pub kept : IsKeptUpTo log (length log) id

-- the id is declared before the place, live or not
abbrev pub is_declared : Opening → List Place → ℕ → Bool
is_declared opening log id = list_any (λ d. d.id == id) (declared opening (updates log))

-- what the word of a place says
abbrev pub record_at : ℕ → ℕ → Update → ℕ → LogWord
record_at base n (Decl unit) entry = records.Decl unit.kind entry (base + n)
record_at base n (Wd id) entry = records.Wd entry id

abbrev pub place_word : ℕ → ℕ → Place → ℕ
place_word base n p = log_word (record_at base n p.update p.entry)
