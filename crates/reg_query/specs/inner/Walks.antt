-- The walks of a query, step by step.
use Rattle.std.specs.Prelude.{◌≡◌, ℕ, ◌+◌, ◌*◌, ◌^◌, ◌<◌, ◌≤◌, ◌⊎◌, ◌==◌, ◌&&◌, nat_lt, nat_le, cond, List, [], ◌∷◌, ◌++◌, length, take, count_by, sum_by, All, AllPairs, Contains, Option, None, Some}
use Rattle.mih_plan.specs.declared.probe.Probe.{Probe}
use Rattle.mih_plan.specs.Buckets.{plan}
use Rattle.reg_model.specs.Opening.{IsOpening}
use Rattle.reg_model.specs.declared.update.Declared.{Declared}
use Rattle.reg_model.specs.declared.reply.Hit.{Hit}
use Rattle.reg_words.specs.declared.word.StampWord.{StampWord}
use Rattle.reg_words.specs.declared.word.StampWord.TheVariants.{Unborn, Live, Dead}
use Rattle.reg_rule.specs.declared.told.Told.{Told}
use Rattle.reg_rule.specs.declared.told.Told.TheVariants.{Nothing, Begins}
use Rattle.reg_rule.specs.declared.view.Cursor.{Cursor}
use Rattle.reg_rule.specs.declared.view.Found.{Found}
use Rattle.reg_rule.specs.declared.view.Met.{Met}
use Rattle.reg_rule.specs.declared.view.View.{View}
use Rattle.reg_rule.specs.Log.{IsLiveIn}
use Rattle.reg_rule.specs.Chains.{Member, Once}
use Rattle.reg_rule.specs.Conditions.{MetApart, looks_of, IsPaidFor}
use Rattle.reg_rule.specs.Moves.{kept_met}
use Rattle.reg_rule.specs.Steps.{HasWalked}
use Rattle.reg_query.specs.declared.query.Query.{Query}
use Rattle.reg_query.specs.Snapshots.{IsOpenAt, is_look}
use Rattle.reg_query.specs.Queries.{Walk, walked_by, IsWalking}
use Rattle.reg_query.specs.inner.Listing.{IsListing, ListedBy, ListedUpTo, HoldsOnce, IsNextProbe}

-- the declarations that are live at a front, and their entries
abbrev pub Lives : View → ℕ → Declared → ℕ → Type 0
Lives v k d entry = IsLiveIn v.key.carried (take k v.log) d.id d.unit entry

-- The query is asked at the open snapshot.
pub record IsAskedAt (q : Query) (v : View) : Type 0 where
  pub opens : IsOpenAt v q.places
  pub ids : q.ids ≡ v.key.carried.base + q.places
  pub bits : q.bits ≡ v.key.sizes.bits
  pub radius : q.radius ≤ 15
  pub least : 4 ≤ q.bits
  pub most : q.bits ≤ 16
  pub opening : IsOpening v.key.carried
  pub entries : v.key.entries ≤ 2 ^ 20

-- the id that a stamp shows live, of the asked kind
abbrev pub shown_id : Query → StampWord → Option ℕ
shown_id q Unborn = None
shown_id q (Live kind id) = cond ((kind == q.unit.kind) && nat_lt id q.ids) (Some id) None
shown_id q (Dead kind id death) = cond ((kind == q.unit.kind) && nat_lt id q.ids && nat_le q.places death) (Some id) None

abbrev pub cursor_at : Probe → ℕ → Cursor
cursor_at p entry = record { table = p.table; bucket = p.bucket; entry = entry }

abbrev pub met_by : Probe → ℕ → Option ℕ → Met
met_by p entry id = record { table = p.table; bucket = p.bucket; entry = entry; id = id }

-- Part of a walk: so many looks, and so many loads of a head.
pub record Walked (v : View) (looks heads : ℕ) (w : View) : Type 0 where
  pub walk : Walk
  pub kinds : All IsWalking walk.steps
  pub looks_are : count_by is_look walk.steps ≡ looks
  pub heads_are : count_by (λ kind. kind == 13) walk.steps ≡ heads
  pub view : w ≡ walked_by v walk

-- An entry was looked at.
pub record Looked (q : Query) (p : Probe) (entry : ℕ) (v : View) (hit : Option Hit) (looks : ℕ) (w : View) : Type 0 where
  pub id : Option ℕ
  pub few : looks ≤ looks_of id
  pub found : Option Found
  pub steps : List ℕ
  pub kinds : All IsWalking steps
  pub looks_are : count_by is_look steps ≡ looks
  pub heads_are : count_by (λ kind. kind == 13) steps ≡ 0
  pub view : w ≡ record v { met = v.met ++ met_by p entry id ∷ []; found = found; made = v.made ++ steps }
  pub listing : IsListing q (Lives v q.places) p entry hit

abbrev pub IsMetBy : Probe → List ℕ → Met → Type 0
IsMetBy p entries m = (m.table ≡ p.table) × (m.bucket ≡ p.bucket) × Member m.entry entries

-- What the walk of a bucket met, in these entries.
pub record MetIn (p : Probe) (entries : List ℕ) (before : List Met) (looks : ℕ) (after : List Met) : Type 0 where
  pub mets : List Met
  pub met : after ≡ before ++ mets
  pub by : All (IsMetBy p entries) mets
  pub apart : AllPairs MetApart mets
  pub paid : looks ≤ sum_by (λ (m : Met). looks_of m.id) mets
  pub most : looks ≤ 2 * length entries

-- where the walk stands: at the next entry, or at the end, where all that is live in the bucket was visited
abbrev pub StandsAt : Probe → Option ℕ → List ℕ → View → Type 0
StandsAt p None entries w = (w.cursor ≡ None) × (w.visited ≡ entries) × HasWalked p.table p.bucket w
StandsAt p (Some entry) entries w = (w.cursor ≡ Some (cursor_at p entry)) × (w.visited ≡ entries ++ entry ∷ []) × (entry < w.key.entries)

-- from what was listed before to what is listed now
abbrev pub ListsOn : Query → View → Probe → List ℕ → List Hit → List Hit → Type 0
ListsOn q v p entries before after = (done : List Probe) → HoldsOnce (Lives v q.places) → IsNextProbe q done p → ListedBy q (Lives v q.places) done before
    → ListedUpTo q (Lives v q.places) done p entries after

-- The walk of a bucket, which has looked at these entries.
pub record IsWalkingAlong (q : Query) (p : Probe) (told : Told) (v : View) (before : List Hit) (at : Option ℕ) (after : List Hit) (looks : ℕ) (w : View) : Type 0 where
  pub entries : List ℕ
  pub walked : Walked v looks 1 w
  pub stands : StandsAt p at entries w
  pub once : Once w.visited
  pub inside : (e : ℕ) → Member e w.visited → e < w.key.entries
  pub met : MetIn p entries (kept_met told v.met) looks w.met
  pub lists : ListsOn q v p entries before after

-- A bucket was walked.
pub record BucketListed (q : Query) (p : Probe) (told : Told) (v : View) (before after : List Hit) (looks : ℕ) (w : View) : Type 0 where
  pub ends : w.cursor ≡ None
  pub entries : List ℕ
  pub few : length entries ≤ w.key.entries
  pub met : MetIn p entries (kept_met told v.met) looks w.met
  pub lists : (done : List Probe) → HoldsOnce (Lives v q.places) → IsNextProbe q done p → ListedBy q (Lives v q.places) done before → ListedBy q (Lives v q.places) (done ++ p ∷ []) after

-- What the walks of these probes met.
pub record MetBy (done : List Probe) (mets : List Met) (looks : ℕ) : Type 0 where
  pub paid : looks ≤ sum_by (λ (m : Met). looks_of m.id) mets
  pub apart : AllPairs MetApart mets
  pub by : All (λ (m : Met). (r : Probe) × Contains done r × (r.table ≡ m.table) × (r.bucket ≡ m.bucket)) mets

-- The buckets of the first probes of the plan were walked.
pub record IsWalkingPlan (q : Query) (v : View) (rest : List Probe) (told : Told) (hits : List Hit) (looks : ℕ) (w : View) : Type 0 where
  pub done : List Probe
  pub whole : plan q.unit.body q.radius q.bits ≡ done ++ rest
  pub walked : Walked v looks (length done) w
  pub lists : ListedBy q (Lives v q.places) done hits
  pub met : MetBy done (kept_met told w.met) looks
  pub most : looks ≤ 2097152 * length done
  pub tells : ((told ≡ Begins) × (done ≡ [])) ⊎ ((told ≡ Nothing) × (w.cursor ≡ None))

-- All buckets of the plan were walked.
pub record PlanListed (q : Query) (v : View) (hits : List Hit) (looks : ℕ) (w : View) : Type 0 where
  pub ends : w.cursor ≡ None
  pub paid : IsPaidFor w q.unit q.radius looks
  pub lists : ListedBy q (Lives v q.places) (plan q.unit.body q.radius q.bits) hits

-- how much is left of a walk
abbrev pub left_of : Option ℕ → ℕ → ℕ
left_of None left = 0
left_of (Some entry) left = left + 1
