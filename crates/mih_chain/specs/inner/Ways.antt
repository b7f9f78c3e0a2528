-- The way of the holder of the sweep along a chain.
use Rattle.std.specs.Prelude.{◌≡◌, ◌≢◌, ℕ, ◌<◌, List, [], ◌∷◌, ◌++◌, length, All, Option, None, Some}
use Rattle.iscc_header.specs.declared.unit.Unit64.{Unit64}
use Rattle.reg_rule.specs.declared.view.Holding.{Holding}
use Rattle.reg_rule.specs.declared.view.Link.{Link}
use Rattle.reg_rule.specs.declared.view.View.{View}
use Rattle.reg_rule.specs.declared.view.Way.{Way}
use Rattle.reg_rule.specs.Chains.{Avoids}
use Rattle.reg_rule.specs.Conditions.{MayCut}
use Rattle.reg_rule.specs.Moves.{holder_did, on_way}
use Rattle.mih_chain.specs.Linking.{IsUnlinking}

-- at an entry, with these ahead before the one that is sought
abbrev pub way : ℕ → ℕ → List ℕ → Way
way table entry ahead = record { table = table; entry = entry; ahead = ahead }

-- the next word of the one that is sought
abbrev pub behind_link : ℕ → ℕ → Link
behind_link table word = record { table = table; word = word }

-- The holder may cut the entry in the table, and is at another one before it.
pub record IsOnWay (v : View) (table entry at behind : ℕ) (ahead : List ℕ) : Type 0 where
  pub holding : Holding
  pub id : ℕ
  pub unit : Unit64
  pub may : MayCut table v holding id entry unit
  pub way_is : holding.way ≡ Some (way table at ahead)
  pub behind_is : holding.behind ≡ Some (behind_link table behind)
  pub apart : at ≢ entry
  pub avoids : Avoids entry ahead
  pub inside : at < v.key.entries

-- the next word leads to the entry that is sought, or to the next one before it
abbrev pub GoesOn : Option ℕ → ℕ → ℕ → List ℕ → View → View → Type 0
GoesOn None table at ahead v w = (ahead ≡ []) × (w ≡ holder_did (on_way table at []) v 16)
GoesOn (Some e) table at ahead v w = (rest : List ℕ) × (ahead ≡ e ∷ rest) × (e < v.key.entries) × (w ≡ holder_did (on_way table e rest) v 16)

-- These steps have left the holder with such notes.
pub record HasDone (v w : View) (h : Holding) : Type 0 where
  pub steps : List ℕ
  pub kinds : All IsUnlinking steps
  pub view : w ≡ record v { holding = Some h; made = v.made ++ steps }

-- The way was followed so far.
pub record IsFollowing (v w : View) (table entry at behind : ℕ) : Type 0 where
  pub ahead : List ℕ
  pub on : IsOnWay w table entry at behind ahead
  -- at first it was somewhere on the same way
  pub holding : Holding
  pub has : v.holding ≡ Some holding
  pub done : HasDone v w (record holding { way = Some (way table at ahead) })

abbrev pub way_length : Option Way → ℕ
way_length None = 0
way_length (Some w) = length w.ahead

abbrev pub left_of : Option Holding → ℕ
left_of None = 0
left_of (Some h) = way_length h.way

-- how many entries are ahead
abbrev pub ahead_of : View → ℕ
ahead_of v = left_of v.holding
