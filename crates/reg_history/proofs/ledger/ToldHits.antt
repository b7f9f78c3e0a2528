-- Hits that a line tells, and those of a query.
use Rattle.std.proofs.Common.{◌≡◌, ℕ, zero, suc, ◌<◌, ◌≤◌, List, [], ◌∷◌, length, map, get_or, refl, sym, ◌∙◌, ap, ap₂, subst, arith}
use Rattle.std.specs.Prelude.{All}
use Rattle.std.proofs.lemmas.List.Elements.{All-cons}
use Rattle.reg_model.specs.declared.reply.Hit.{Hit}
use Rattle.reg_history.specs.declared.lines.told.ToldHit.{ToldHit}
use Rattle.reg_history.specs.lines.HistoryLines.{hit_in}
use Rattle.std.specs.Prelude.{IsTrue, ◌↔◌, Bool}
use Rattle.iscc_header.specs.declared.unit.Unit64.{Unit64}
use Rattle.reg_model.specs.declared.call.Call.{Call}
use Rattle.reg_model.specs.declared.call.Call.TheVariants as calls
use Rattle.reg_model.specs.declared.reply.Reply.TheVariants as replies
use Rattle.reg_model.specs.declared.TheConstants.{RADIUS_MOST}
use Rattle.reg_model.specs.Live.{live}
use Rattle.reg_model.specs.Registry.{Registry}
use Rattle.reg_model.specs.Replies.{AreHits, Replies}
use Rattle.reg_model.proofs.SortedHits.{one_list}
use Rattle.reg_history.specs.declared.lines.told.ToldReply.TheVariants.{Hits}
use Rattle.reg_history.specs.check.Checking.{HasKind}

-- the hit is told, with a unit of this kind
abbrev pub IsTold : ℕ → Hit → ToldHit → Type 0
IsTold kind hit told = (hit_in told ≡ hit) × (told.unit.kind ≡ kind)

abbrev pub AreTold : ℕ → List Hit → List ToldHit → Type 0
AreTold kind hits told = (map hit_in told ≡ hits) × All (λ (t : ToldHit). t.unit.kind ≡ kind) told

-- so many of the first are told
abbrev pub ToldBefore : ℕ → List Hit → List ToldHit → ℕ → Type 0
ToldBefore kind hits told n = (k : ℕ) (h : Hit) (t : ToldHit) → k < n → IsTold kind (get_or hits k h) (get_or told k t)

pub told_all : (kind : ℕ) (hits : List Hit) (told : List ToldHit) → length hits ≡ length told → ToldBefore kind hits told (length told) → AreTold kind hits told
told_all kind [] [] long each = (refl, λ k t lt. absurd (omega (arith, lt)))
told_all kind [] (t ∷ told) long each = absurd (omega (arith, long))
told_all kind (h ∷ hits) [] long each = absurd (omega (arith, long))
told_all kind (h ∷ hits) (t ∷ told) long each =
    let first = each 0 h t (omega arith) in
    let rest = told_all kind hits told (omega (arith, long)) (λ k x y lt. each (suc k) x y (omega (arith, lt))) in
    (ap₂ (λ x xs. x ∷ xs) first.0 rest.0, All-cons (λ (t : ToldHit). t.unit.kind ≡ kind) t told first.1 rest.1)

pub told_at : (kind : ℕ) (hits : List Hit) (told : List ToldHit) → AreTold kind hits told → (k : ℕ) (h : Hit) (t : ToldHit) → k < length told → IsTold kind (get_or hits k h) (get_or told k t)
told_at kind hits told are k h t lt = (sym (at told k lt) ∙ ap (λ xs. get_or xs k h) are.0, are.1 k t lt)
  where
    at : (ts : List ToldHit) (k : ℕ) → k < length ts → get_or (map hit_in ts) k h ≡ hit_in (get_or ts k t)
    at [] k lt = absurd (omega (arith, lt))
    at (t ∷ ts) zero lt = refl
    at (t ∷ ts) (suc k) lt = at ts k (omega (arith, lt))

-- the told hits are those of a query where they are the same, of its kind
pub hits_told : (r : Registry) (call : Call) (unit : Unit64) (radius : ℕ) (found : List Hit) (told : List ToldHit) (stands : Bool) → call ≡ calls.Near unit radius → radius ≤ RADIUS_MOST
    → AreHits (live r.opening r.log) unit radius found → IsTrue stands ↔ AreTold unit.kind found told
    → IsTrue stands ↔ (Replies r.limits r.opening r.log call (replies.Hits (map hit_in told)) × HasKind call (Hits told))
hits_told r call unit radius found told stands near within hits iff =
    rw near (
      λ yes. let are = iff.0 yes in ((within, subst (AreHits (live r.opening r.log) unit radius) (sym are.0) hits), are.1),
      λ h. let given = h.0 in iff.1 (one_list (live r.opening r.log) unit radius (map hit_in told) found given.1 hits, h.1),
    )
