-- Queries at a snapshot.
use Rattle.std.specs.Prelude.{◌≡◌, ℕ, ◌≤◌, ◌⊎◌, ◌==◌, List, [], ◌∷◌, ◌++◌, length, count_by, All, Option, None, Some}
use Rattle.iscc_header.specs.declared.unit.Unit64.{Unit64}
use Rattle.mih_plan.specs.Buckets.{plan}
use Rattle.reg_model.specs.declared.call.Call.TheVariants as calls
use Rattle.reg_model.specs.declared.reply.Hit.{Hit}
use Rattle.reg_model.specs.declared.reply.Reply.TheVariants as replies
use Rattle.reg_model.specs.Replies.{AreHits}
use Rattle.reg_rule.specs.declared.view.Cost.{Cost}
use Rattle.reg_rule.specs.declared.view.Cursor.{Cursor}
use Rattle.reg_rule.specs.declared.view.Found.{Found}
use Rattle.reg_rule.specs.declared.view.Met.{Met}
use Rattle.reg_rule.specs.declared.view.View.{View}
use Rattle.reg_rule.specs.Moves.{grown, next_row, live_list_at}
use Rattle.reg_query.specs.Snapshots.{IsOpenAt, is_look}

-- Where the walks of a query have brought a view, and their steps.
pub record Walk : Type 0 where
  pub cursor : Option Cursor
  pub visited : List ℕ
  pub met : List Met
  pub found : Option Found
  pub steps : List ℕ

-- the view then: the rest is as it was
abbrev pub walked_by : View → Walk → View
walked_by v m = record v {
  cursor = m.cursor;
  visited = m.visited;
  met = m.met;
  found = m.found;
  made = v.made ++ m.steps;
}

-- a look, or a load of a head or of a next word
abbrev pub IsWalking : ℕ → Type 0
IsWalking kind = (kind ≡ 3) ⊎ (kind ≡ 7) ⊎ (kind ≡ 13) ⊎ (kind ≡ 16)

-- The steps of a query's walks: so many looks, and no more heads than its plan has probes.
pub record AreWalks (unit : Unit64) (radius bits looked : ℕ) (steps : List ℕ) : Type 0 where
  pub kinds : All IsWalking steps
  pub looks : count_by is_look steps ≡ looked
  pub heads : count_by (λ kind. kind == 13) steps ≤ length (plan unit.body radius bits)

abbrev pub cost_of : Unit64 → ℕ → ℕ → Cost
cost_of unit radius looked = record { unit = unit; radius = radius; looked = looked }

-- The query was answered at the snapshot, which stays open: with the hits there, a row of these, and its looks.
pub record Answered (v : View) (k : ℕ) (unit : Unit64) (radius : ℕ) (hits : List Hit) (looked : ℕ) (w : View) : Type 0 where
  pub exactly : AreHits (live_list_at v k) unit radius hits
  pub walk : Walk
  pub steps : AreWalks unit radius v.key.sizes.bits looked walk.steps
  pub ends : walk.cursor ≡ None
  -- and one store of the pin
  pub view : w ≡ record (walked_by v walk) {
    accounts = grown v.accounts (Some (next_row v (calls.Near unit radius) k (replies.Hits hits)));
    costs = v.costs ++ cost_of unit radius looked ∷ [];
    made = (v.made ++ walk.steps) ++ 17 ∷ [];
  }
  pub opens : IsOpenAt w k

-- Memory was wanting: no row was made, and the snapshot stays open.
pub record Interrupted (v : View) (unit : Unit64) (radius : ℕ) (w : View) : Type 0 where
  pub walk : Walk
  pub looked : ℕ
  pub steps : AreWalks unit radius v.key.sizes.bits looked walk.steps
  pub view : w ≡ walked_by v walk
  pub opens : (k : ℕ) → IsOpenAt v k → IsOpenAt w k
