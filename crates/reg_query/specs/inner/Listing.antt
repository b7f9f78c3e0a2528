-- What a query lists of what is live, bucket by bucket.
use Rattle.std.specs.Prelude.{◌≡◌, ◌≢◌, ℕ, ◌<◌, ◌⊎◌, true, false, List, [], ◌∷◌, ◌++◌, All, AllPairs, Contains, Option, None, Some}
use Rattle.mih_plan.specs.declared.probe.Probe.{Probe}
use Rattle.mih_plan.specs.Buckets.{bucket_of, is_probe}
use Rattle.reg_model.specs.declared.update.Declared.{Declared}
use Rattle.reg_model.specs.declared.reply.Hit.{Hit}
use Rattle.reg_model.specs.Replies.{is_near, hit_of}
use Rattle.reg_rule.specs.Chains.{Member}
use Rattle.reg_query.specs.declared.query.Query.{Query}

-- the plan of the query has this bucket of the table
abbrev pub probes : Query → ℕ → ℕ → Type 0
probes q table bucket = is_probe q.unit.body q.radius q.bits table bucket ≡ true

-- The probe has the body's bucket, and no probe of a lower table has it.
pub record ListsBody (q : Query) (p : Probe) (body : ℕ) : Type 0 where
  pub here : bucket_of body p.table q.bits ≡ p.bucket
  pub first : (t : ℕ) → t < p.table → is_probe q.unit.body q.radius q.bits t (bucket_of body t q.bits) ≡ false

-- The declaration is near, and the probe lists it.
pub record Lists (q : Query) (p : Probe) (d : Declared) : Type 0 where
  pub near : is_near q.unit q.radius d ≡ true
  pub body : ListsBody q p d.unit.body

-- the hit, or none, is what the probe lists of the entry, where these declarations are in these entries
abbrev pub IsListing : Query → (Declared → ℕ → Type 0) → Probe → ℕ → Option Hit → Type 0
IsListing q In p entry None = (d : Declared) → In d entry → Lists q p d → ⊥
IsListing q In p entry (Some hit) = (d : Declared) × In d entry × Lists q p d × (hit ≡ hit_of q.unit d) × ((other : Declared) → In other entry → other ≡ d)

abbrev pub with_hit : Option Hit → List Hit → List Hit
with_hit None hits = hits
with_hit (Some hit) hits = hits ++ hit ∷ []

-- an id is that of one declaration, in one entry
abbrev pub HoldsOnce : (Declared → ℕ → Type 0) → Type 0
HoldsOnce In = (a b : Declared) (e f : ℕ) → In a e → In b f → a.id ≡ b.id → (a ≡ b) × (e ≡ f)

abbrev pub Apart : Hit → Hit → Type 0
Apart a b = a.id ≢ b.id

-- where a hit comes from: a declaration that is listed by one of the probes
pub record IsListedBy (q : Query) (In : Declared → ℕ → Type 0) (done : List Probe) (hit : Hit) : Type 0 where
  pub declared : Declared
  pub entry : ℕ
  pub holds : In declared entry
  pub hit_is : hit ≡ hit_of q.unit declared
  pub probe : Probe
  pub walked : Contains done probe
  pub lists : Lists q probe declared

-- or in one of the entries that were visited
pub record IsVisited (q : Query) (In : Declared → ℕ → Type 0) (p : Probe) (visited : List ℕ) (hit : Hit) : Type 0 where
  pub declared : Declared
  pub entry : ℕ
  pub holds : In declared entry
  pub hit_is : hit ≡ hit_of q.unit declared
  pub member : Member entry visited
  pub lists : Lists q p declared

-- The hits are what the probes list.
pub record ListedBy (q : Query) (In : Declared → ℕ → Type 0) (done : List Probe) (hits : List Hit) : Type 0 where
  pub sound : All (IsListedBy q In done) hits
  pub whole : (p : Probe) (d : Declared) (entry : ℕ) → Contains done p → In d entry → Lists q p d → Contains hits (hit_of q.unit d)
  pub once : AllPairs Apart hits

-- And what the next one lists in the entries that were visited.
pub record ListedUpTo (q : Query) (In : Declared → ℕ → Type 0) (done : List Probe) (p : Probe) (visited : List ℕ) (hits : List Hit) : Type 0 where
  pub sound : All (λ (hit : Hit). IsListedBy q In done hit ⊎ IsVisited q In p visited hit) hits
  pub past : (r : Probe) (d : Declared) (entry : ℕ) → Contains done r → In d entry → Lists q r d → Contains hits (hit_of q.unit d)
  pub here : (d : Declared) (entry : ℕ) → Member entry visited → In d entry → Lists q p d → Contains hits (hit_of q.unit d)
  pub once : AllPairs Apart hits

-- Probes of the plan, and one more that is none of them.
pub record IsNextProbe (q : Query) (done : List Probe) (p : Probe) : Type 0 where
  pub planned : (r : Probe) → Contains done r → probes q r.table r.bucket
  pub is : probes q p.table p.bucket
  pub other : Contains done p → ⊥
