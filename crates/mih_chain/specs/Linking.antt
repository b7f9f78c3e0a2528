-- What linking and unlinking do.
use Rattle.std.specs.Prelude.{◌≡◌, ℕ, ◌<◌, ◌⊎◌, true, false, List, [], ◌∷◌, ◌++◌, All, None, Some}
use Rattle.iscc_header.specs.declared.unit.Unit64.{Unit64}
use Rattle.mih_plan.specs.Buckets.{bucket_of}
use Rattle.reg_rule.specs.declared.view.Hand.{Hand}
use Rattle.reg_rule.specs.declared.view.Holding.{Holding}
use Rattle.reg_rule.specs.declared.view.View.{View}
use Rattle.reg_rule.specs.Tables.{is_in}
use Rattle.reg_rule.specs.Conditions.{MayCut}
use Rattle.reg_rule.specs.Moves.{on_hand, on_holding, cut_from}

-- the entry is in hand, is written with this code, and isn't linked in the table
abbrev pub IsUnlinkedHand : View → ℕ → ℕ → ℕ → Type 0
IsUnlinkedHand v entry code table = (h : Hand) × (v.hands ≡ h ∷ []) × (h.entry ≡ entry) × (entry < v.key.entries) × (h.unborn ≡ true) × (h.code ≡ Some code) × (is_in table h.linked ≡ false)

-- it is linked in this table too
abbrev pub linked_in : ℕ → Hand → Hand
linked_in table h = record h { linked = h.linked ++ table ∷ []; ready = None }

-- a load of a head, a store of a next word, an exchange of a head
abbrev pub IsPushing : ℕ → Type 0
IsPushing kind = (kind ≡ 13) ⊎ (kind ≡ 14) ⊎ (kind ≡ 15)

-- The entry in hand was linked in the table.
pub record Linked (v : View) (table : ℕ) (w : View) : Type 0 where
  pub steps : List ℕ
  pub kinds : All IsPushing steps
  pub view : w ≡ record v { hands = on_hand (linked_in table) v.hands; made = v.made ++ steps }

-- the holder may unlink the entry, which is of this bucket, in the table: it is stamped dead, and each session was found free of its place
abbrev pub MayUnlink : ℕ → ℕ → ℕ → View → Type 0
MayUnlink table bucket entry v = (h : Holding) × (id : ℕ) × (unit : Unit64) × MayCut table v h id entry unit × (bucket ≡ bucket_of unit.body table v.key.sizes.bits)

-- loads of a head and of next words, and exchanges of these
abbrev pub IsUnlinking : ℕ → Type 0
IsUnlinking kind = (kind ≡ 13) ⊎ (kind ≡ 16) ⊎ (kind ≡ 20) ⊎ (kind ≡ 21)

-- The entry was unlinked in the table.
pub record Unlinked (table : ℕ) (v w : View) : Type 0 where
  pub steps : List ℕ
  pub kinds : All IsUnlinking steps
  pub view : w ≡ record v { holding = on_holding (cut_from table) v.holding; made = v.made ++ steps }
