-- The words at the start of a round: what is carried is in the first entries, stamped and linked, and the ring has the others.
use Rattle.std.specs.Prelude.{◌≡◌, ◌⊎◌, ℕ, ◌+◌, ◌-◌, ◌^◌, ◌<◌, ◌≤◌, ltb, Bool, true, List, length}
use mathlib.Core.Option.{Option, none, some}
use lib.ListN.{get_elem?}
use Rattle.reg_model.specs.declared.update.Declared.{Declared}
use Rattle.reg_words.specs.declared.word.StampWord.{StampWord}
use Rattle.reg_words.specs.declared.word.StampWord.TheVariants.{Unborn, Live}
use Rattle.reg_words.specs.Packing.{stamp_word}
use Rattle.reg_words.specs.Memory.{TAKE, PUT, SWEEP, PIN, HEAD, CODE, STAMP, NEXT, GIVE, LOG, mem, whole}
use Rattle.reg_rule.specs.declared.view.Key.{Key}
use Rattle.reg_rule.specs.Log.{At}
use Rattle.reg_rule.specs.inner.World.{Use, free, holds}
use Rattle.reg_rule.specs.inner.ChainParts.{ChainsPart}
use Rattle.reg_rule.specs.inner.Rule.{sizes}

abbrev pub use_of : Option Declared → ℕ → Use
use_of none j = free j
use_of (some d) j = holds d.id

abbrev pub stamp_of : Option Declared → StampWord
stamp_of none = Unborn
stamp_of (some d) = Live d.unit.kind d.id

abbrev pub opening_stamp : List Declared → ℕ → StampWord
opening_stamp list e = stamp_of (get_elem? list e)

abbrev pub opening_use : List Declared → ℕ → Use
opening_use list e = use_of (get_elem? list e) (e - length list)

abbrev pub is_carried : List Declared → ℕ → ℕ → Bool
is_carried list table e = ltb e (length list)

-- what the words of the table are at the start, for these chains
pub record Opened (key : Key) (m : ℕ → ℕ → ℕ) (chains : ℕ → ℕ → List ℕ) : Type 0 where
  pub take_is : m TAKE 0 ≡ 0
  pub put_is : m PUT 0 + length key.carried.list ≡ key.entries
  pub sweep_is : m SWEEP 0 ≡ 0
  pub pins : (n : ℕ) → m PIN n ≡ 0
  pub places : (n : ℕ) → m LOG n ≡ 0
  pub gives : (j : ℕ) → length key.carried.list + j < key.entries → m GIVE j ≡ length key.carried.list + j
  pub codes : (e : ℕ) (d : Declared) → At key.carried.list e d → m CODE e ≡ d.unit.body
  pub stamps : (e : ℕ) → e < key.entries → m STAMP e ≡ stamp_word (opening_stamp key.carried.list e)
  pub linked : ChainsPart key (m HEAD) (m NEXT) (m CODE) chains (is_carried key.carried.list)

-- there is room for what is carried, and for the ids of the round
pub record CanBegin (key : Key) : Type 0 where
  pub entries : key.entries ≡ key.sizes.entries
  pub room : length key.carried.list ≤ key.sizes.entries
  pub ids : key.carried.base + key.sizes.log ≤ 2 ^ 34

-- Not all is filled yet: the first declarations have their codes and stamps, and the entries are linked so.
pub record CarriedTo (key : Key) (m : ℕ → ℕ → ℕ) (chains : ℕ → ℕ → List ℕ) (full : ℕ) (linked : ℕ → ℕ → Bool) : Type 0 where
  pub take_is : m TAKE 0 ≡ 0
  pub put_is : m PUT 0 + length key.carried.list ≡ key.entries
  pub sweep_is : m SWEEP 0 ≡ 0
  pub pins : (n : ℕ) → m PIN n ≡ 0
  pub places : (n : ℕ) → m LOG n ≡ 0
  pub gives : (j : ℕ) → length key.carried.list + j < key.entries → m GIVE j ≡ length key.carried.list + j
  pub codes : (e : ℕ) (d : Declared) → e < full → At key.carried.list e d → m CODE e ≡ d.unit.body
  pub stamps_in : (e : ℕ) (d : Declared) → e < full → At key.carried.list e d → m STAMP e ≡ stamp_word (Live d.unit.kind d.id)
  pub stamps_out : (e : ℕ) → full ≤ e → m STAMP e ≡ 0
  pub chained : ChainsPart key (m HEAD) (m NEXT) (m CODE) chains linked

-- an entry below another in the same table, or any in a table before
abbrev pub IsBelow : ℕ → ℕ → ℕ → ℕ → Type 0
IsBelow table entry t e = (t < table) ⊎ ((t ≡ table) × (e < entry))

-- The words while they are filled: so many declarations have their codes and stamps, and what is carried is linked in the
-- tables before this one, and in this one up to an entry.
pub record Filling (key : Key) (words : List ℕ) (full table entry : ℕ) : Type 0 where
  pub wide : length words ≡ 1 + whole (sizes key)
  pub chains : ℕ → ℕ → List ℕ
  pub linked : ℕ → ℕ → Bool
  pub kinds : (e : ℕ) (d : Declared) → e < full → At key.carried.list e d → d.unit.kind < 13
  pub carried : CarriedTo key (mem (sizes key) words) chains full linked
  pub most : (t e : ℕ) → linked t e ≡ true → (e < length key.carried.list) × IsBelow table entry t e
  pub all : (t e : ℕ) → e < length key.carried.list → IsBelow table entry t e → linked t e ≡ true
