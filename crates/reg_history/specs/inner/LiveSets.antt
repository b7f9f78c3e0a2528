-- The live declarations of a round, kept by kind.
use Rattle.std.specs.Prelude.{◌≡◌, ℕ, ◌+◌, ◌<◌, ◌≤◌, Bool, ◌==◌, ◌&&◌, nat_le, List, [], ◌∷◌, ◌++◌, length, filter, count_by, cond, All, Some, slice_get, IsSomeAnd, true}
use Rattle.iscc_header.specs.declared.unit.Unit64.{Unit64}
use Rattle.iscc_header.specs.Bits.{distance}
use Rattle.reg_model.specs.declared.update.Declared.{Declared}
use Rattle.reg_model.specs.declared.reply.Hit.{Hit}
use Rattle.reg_model.specs.Replies.{hit_of}
use Rattle.reg_history.specs.declared.ledger.kind_list.Mark.{Mark}

-- ---- the lists of all kinds

-- the lists hold the live declarations, each kind in a list of its own
pub record AreByKind (kinds : List (List Declared)) (live : List Declared) : Type 0 where
  pub all : length kinds ≡ 13
  pub known : All (λ (d : Declared). d.unit.kind < 13) live
  pub each : (kind : ℕ) → kind < 13 → slice_get kinds kind ≡ Some (filter (λ d. d.unit.kind == kind) live)

-- ---- the list of one kind: marks, and a body for each

abbrev pub is_live : Mark → Bool
is_live mark = mark.live

-- the declaration with a mark's id and a body
abbrev pub declaration : ℕ → Mark → ℕ → Declared
declaration kind mark body = record { id = mark.id; unit = record { kind = kind; body = body } }

-- the live declarations of a list
abbrev pub live_in : ℕ → List Mark → List ℕ → List Declared
live_in kind [] bodies = []
live_in kind (m ∷ ms) [] = []
live_in kind (m ∷ ms) (b ∷ bs) = cond m.live (declaration kind m b ∷ live_in kind ms bs) (live_in kind ms bs)

-- their bodies
abbrev pub live_bodies : List Mark → List ℕ → List ℕ
live_bodies [] bodies = []
live_bodies (m ∷ ms) [] = []
live_bodies (m ∷ ms) (b ∷ bs) = cond m.live (b ∷ live_bodies ms bs) (live_bodies ms bs)

-- the ids of all entries rise from `low` on
abbrev pub Rises : ℕ → List Mark → Type 0
Rises low [] = Unit {0}
Rises low (m ∷ ms) = (low ≤ m.id) × Rises (m.id + 1) ms

-- the ids of all entries are below this one
abbrev pub AllBelow : ℕ → List Mark → Type 0
AllBelow id [] = Unit {0}
AllBelow id (m ∷ ms) = (m.id < id) × AllBelow id ms

-- a live entry with the id stands there
abbrev pub IsLiveAt : ℕ → ℕ → List Mark → Type 0
IsLiveAt id place marks = IsSomeAnd (slice_get marks place) (λ (m : Mark). (m.id ≡ id) × (m.live ≡ true))

-- no live entry has the id
abbrev pub IsNowhere : ℕ → List Mark → Type 0
IsNowhere id [] = Unit {0}
IsNowhere id (m ∷ ms) = (m.live ≡ true → m.id ≡ id → ⊥) × IsNowhere id ms

-- what holds of the marks, the bodies and the number of entries that are dead
pub record AreEntries (marks : List Mark) (bodies : List ℕ) (dead : ℕ) : Type 0 where
  pub rises : Rises 0 marks
  pub counted : dead + count_by is_live marks ≡ length marks
  pub long : length marks ≡ length bodies

-- ---- a query

-- at most `radius` bits away
abbrev pub is_within : Unit64 → ℕ → Declared → Bool
is_within unit radius d = nat_le (distance unit.body d.unit.body) radius

-- the hit of an entry, if it is live and near
abbrev pub near_hit : Unit64 → ℕ → Mark → ℕ → List Hit
near_hit unit radius mark body = cond (nat_le (distance unit.body body) radius && mark.live) (hit_of unit (declaration 0 mark body) ∷ []) []

-- the hits of all entries
abbrev pub near_hits : Unit64 → ℕ → List Mark → List ℕ → List Hit
near_hits unit radius [] bodies = []
near_hits unit radius (m ∷ ms) [] = []
near_hits unit radius (m ∷ ms) (b ∷ bs) = near_hit unit radius m b ++ near_hits unit radius ms bs
