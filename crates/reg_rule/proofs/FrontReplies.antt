-- The replies that are decided where the front is found.
use Rattle.std.proofs.Common.{◌≡◌, ℕ, ◌+◌, ◌<◌, ◌≤◌, ◌==◌, ◌||◌, not, cond, leb, Bool, true, false, ◌⊎◌, inr, ⊎_elim, List, [], ◌∷◌, ◌++◌, length, take, filter, set, Option, None, Some, is_some, option_map, sym, ap, ◌∙◌, refl, subst, arith, eqb-true, if◌then◌else◌, length-append}
use Rattle.std.specs.List.{list_any, find}
use Rattle.std.proofs.lemmas.List.{take-append-le, take-map, length-map}
use mathlib.Core.Option.{some}
use lib.ListN.{get_elem?}
use Rattle.atomic_table.proofs.Lists.{set_again}
use Rattle.reg_model.specs.declared.call.Call.{Call}
use Rattle.reg_model.specs.declared.call.Call.TheVariants.{Declare, Withdraw, Near, Show, Count, After}
use Rattle.reg_model.specs.declared.reply.Reply.{Reply}
use Rattle.reg_model.specs.declared.reply.Reply.TheVariants as replies
use Rattle.reg_model.specs.declared.reply.FullCause.TheVariants as causes
use Rattle.reg_model.specs.declared.reply.Row.{Row}
use Rattle.reg_model.specs.declared.update.Declared.{Declared}
use Rattle.reg_model.specs.declared.update.Update.{Update}
use Rattle.reg_model.specs.Live.{declared, live, live_at, is_withdrawn}
use Rattle.reg_model.specs.Replies.{Replies, shown}
use Rattle.reg_rule.specs.inner.AccountParts.{IsAnswered}
use Rattle.reg_model.specs.Rows.{is_accepted, update_of}
use Rattle.reg_rule.specs.declared.told.Told.{Told}
use Rattle.reg_rule.specs.declared.told.Told.TheVariants.{Row as RowOf}
use Rattle.reg_rule.specs.declared.view.Key.{Key}
use Rattle.reg_rule.specs.declared.view.Place.{Place}
use Rattle.reg_rule.specs.declared.view.View.{View}
use Rattle.reg_rule.specs.Log.{At, updates, is_declared}
use Rattle.reg_rule.specs.inner.World.{World}
use Rattle.reg_rule.specs.inner.Rule.{Inv}
use Rattle.reg_rule.specs.Moves.{head_rows, next_row, front_reply, log_at, replied, grown}
use Rattle.reg_rule.proofs.RowsEnter.{Enters, has_head, row_inv}
use Rattle.reg_rule.proofs.Variants.{some_same}
use Rattle.reg_rule.proofs.Replied.{some_if, log_length}

-- ---- what a reply says

find_kept : (q : Declared → Bool) (id : ℕ) (d : Declared) (l : List Declared) → (d.id == id) ≡ false → find (λ c. c.id == id) (filter q l) ≡ None → find (λ c. c.id == id) (filter q (d ∷ l)) ≡ None
find_kept q id d l apart none = by_test (q d)
  where
    by_test : (b : Bool) → find (λ (c : Declared). c.id == id) (cond b (d ∷ filter q l) (filter q l)) ≡ None
    by_test true = ap (λ (t : Bool). cond t (Some d) (find (λ (c : Declared). c.id == id) (filter q l))) apart ∙ none
    by_test false = none

or_false : (a b : Bool) → (a || b) ≡ false → (a ≡ false) × (b ≡ false)
or_false false b e = (refl, e)
or_false true b e = absurd (cc)

find_none : (q : Declared → Bool) (id : ℕ) (l : List Declared) → list_any (λ (c : Declared). c.id == id) l ≡ false → find (λ (c : Declared). c.id == id) (filter q l) ≡ None
find_none q id [] e = refl
find_none q id (d ∷ l) e = let both = or_false (d.id == id) (list_any (λ (c : Declared). c.id == id) l) e in find_kept q id d l both.0 (find_none q id l both.1)

-- what is not declared is not live
pub not_live : (v : View) (k id : ℕ) → is_declared v.key.carried (take k v.log) id ≡ false → live_at v.key.carried (log_at v k) id ≡ None
not_live v k id e = find_none (λ d. not (is_withdrawn (log_at v k) d.id)) id (declared v.key.carried (log_at v k)) e

none_if : (b : Bool) (x r : Reply) → cond b None (Some x) ≡ Some r → (b ≡ false) × (x ≡ r)
none_if true x r e = absurd (cc)
none_if false x r e = (refl, (cc))

-- a reply that takes no place, and is the registry's at the front
abbrev pub Decided : View → ℕ → Call → Reply → Type 0
Decided v k call reply = Replies v.key.sizes v.key.carried (log_at v k) call reply × (update_of call reply ≡ None)

pub decided : (v : View) (k : ℕ) (call : Call) (reply : Reply) → k ≤ length v.log → front_reply v k call ≡ Some reply → Decided v k call reply
decided v k (Declare unit) reply low e = let h = some_if (k == v.key.sizes.log) (replies.Full causes.Log) reply e in
    subst (Decided v k (Declare unit)) h.1 (log_length v k low ∙ eqb-true k v.key.sizes.log h.0, refl)
decided v k (Withdraw id) reply low e = let h = none_if (is_declared v.key.carried (take k v.log) id) (replies.Absent id) reply e in
    subst (Decided v k (Withdraw id)) h.1 ((refl, ap is_some (not_live v k id h.0)), refl)
decided v k (Near unit radius) reply low e = absurd (cc)
decided v k (Show id) reply low e = let h = none_if (is_declared v.key.carried (take k v.log) id) (replies.Absent id) reply e in
    subst (Decided v k (Show id)) h.1 (ap (shown id) (sym (not_live v k id h.0)), refl)
decided v k Count reply low e = subst (Decided v k Count) (some_same _ reply e) (refl, refl)
decided v k (After point) reply low e = subst (Decided v k (After point)) (some_same _ reply e) (ap (λ (n : ℕ). cond (leb point (v.key.carried.base + n)) replies.Reached replies.Ahead) (sym (log_length v k low)), refl)

-- ---- the row of a told call

-- where the row stands: at the front, or at the open snapshot
abbrev pub StandsAt : View → ℕ → Type 0
StandsAt v k = ((v.snapshot ≡ None) × (k ≡ length v.log)) ⊎ (v.snapshot ≡ Some k)

seen_updates : (log more : List Place) (v : View) (k : ℕ) → log ≡ v.log ++ more → k ≤ length v.log → take k (updates log) ≡ log_at v k
seen_updates log more v k is low = take-map (λ (p : Place). p.update) k log ∙ ap updates (ap (take k) is ∙ take-append-le k v.log more low)

-- a reply that was decided at a number of places that the seat has seen
pub answered_at : (log more : List Place) (v : View) (k : ℕ) (call : Call) (reply : Reply) → log ≡ v.log ++ more → k ≤ length v.log → Decided v k call reply → IsAnswered v.key.sizes v.key.carried (updates log) (next_row v call k reply)
answered_at log more v k call reply is low d = record {
  place = k;
  within = (let a : length (updates log) ≡ length log = length-map log (λ (p : Place). p.update) in let b : length log ≡ length v.log + length more = ap length is ∙ length-append v.log more in omega arith);
  point = (let quiet : if◌then◌else◌ {A = ℕ} (is_accepted (next_row v call k reply)) 1 0 ≡ 0 = ap (λ (x : Option Update). if◌then◌else◌ {A = ℕ} (is_some x) 1 0) d.1 in omega arith);
  reply = subst (λ (l : List Update). Replies v.key.sizes v.key.carried l call reply) (sym (seen_updates log more v k is low)) d.0;
}

-- the row of a reply that was decided may enter, where it is no earlier than the rows before it, and no later than an open snapshot
pub reply_enters_by : (key : Key) (m : ℕ → ℕ → ℕ) (w : World) (views : List View) (id : ℕ) (v : View) (k : ℕ) (call : Call) (reply : Reply) → Inv key m w views → get_elem? views id ≡ some v → v.live ≡ true
    → k ≤ length v.log → ((j : ℕ) (r : Row) → At (head_rows v.accounts) j r → r.point ≤ key.carried.base + k) → ((s : ℕ) → v.snapshot ≡ Some s → k ≤ s) → Decided v k call reply → Enters key w.log v (next_row v call k reply)
reply_enters_by key m w views id v k call reply i at live low below early d =
    let knows : v.key ≡ key = i.knows id v at live in let saw = i.saw id v at in let base : v.key.carried.base ≡ key.carried.base = ap (λ (z : Key). z.carried.base) knows in record {
      session = refl;
      number = refl;
      quiet = ap is_some d.1;
      answered = subst (λ (z : Key). IsAnswered z.sizes z.carried (updates w.log) (next_row v call k reply)) knows (answered_at w.log saw.0 v k call reply saw.1 low d);
      below = omega arith;
      rising = λ j r there. let b = below j r there in omega arith;
      opened = λ s e. let b = early s e in omega arith;
    }

pub stands_low : (key : Key) (m : ℕ → ℕ → ℕ) (w : World) (views : List View) (id : ℕ) (v : View) (k : ℕ) → Inv key m w views → get_elem? views id ≡ some v → StandsAt v k → k ≤ length v.log
stands_low key m w views id v k i at stands = ⊎_elim (λ (t : (v.snapshot ≡ None) × (k ≡ length v.log)). let e = t.1 in omega arith) (λ (e : v.snapshot ≡ Some k). ((i.fits_pin id v at).fronts k (inr e)).2) stands

pub reply_enters : (key : Key) (m : ℕ → ℕ → ℕ) (w : World) (views : List View) (id : ℕ) (v : View) (k : ℕ) (call : Call) (reply : Reply) → Inv key m w views → get_elem? views id ≡ some v → v.live ≡ true → 0 < length v.accounts
    → StandsAt v k → Decided v k call reply → Enters key w.log v (next_row v call k reply)
reply_enters key m w views id v k call reply i at live one stands d =
    let rows = i.rows id v at in let head = has_head v.accounts one in
    reply_enters_by key m w views id v k call reply i at live (stands_low key m w views id v k i at stands)
    (λ j r there. let in_first : At (head.0).rows j r = subst (λ (l : List Row). At l j r) head.3 there in
    ⊎_elim (λ (t : (v.snapshot ≡ None) × (k ≡ length v.log)). let b = rows.below 0 j head.0 r head.1 in_first in let e = t.1 in omega arith)
    (λ (e : v.snapshot ≡ Some k). rows.opened 0 j k head.0 r e head.1 in_first) stands)
    (λ s e. ⊎_elim (λ (t : (v.snapshot ≡ None) × (k ≡ length v.log)). let none = t.0 in absurd (cc)) (λ (is : v.snapshot ≡ Some k). let same : k ≡ s = cc in omega arith) stands)
    d

abbrev pub Rowed : Key → (ℕ → ℕ → ℕ) → World → List View → ℕ → View → Type 0
Rowed key m w views id u = (accounts : ℕ → List Row) × Inv key m (record w { accounts = accounts }) (set views id u)

pub no_row : (key : Key) (m : ℕ → ℕ → ℕ) (w : World) (views : List View) (id : ℕ) (v : View) → Inv key m w views → get_elem? views id ≡ some v → Rowed key m w views id v
no_row key m w views id v i at = (w.accounts, subst (Inv key m w) (sym (set_again views id v at)) i)

row_by : (key : Key) (m : ℕ → ℕ → ℕ) (w : World) (views : List View) (id : ℕ) (v : View) (k : ℕ) (call : Call) (x : Option Reply) → front_reply v k call ≡ x → Inv key m w views → get_elem? views id ≡ some v → v.live ≡ true → 0 < length v.accounts → StandsAt v k
    → Rowed key m w views id (record v { accounts = grown v.accounts (option_map (next_row v call k) x) })
row_by key m w views id v k call None is i at live one stands = no_row key m w views id v i at
row_by key m w views id v k call (Some reply) is i at live one stands =
    let low = stands_low key m w views id v k i at stands in
    (_, row_inv key m w views id v (next_row v call k reply) i at one (reply_enters key m w views id v k call reply i at live one stands (decided v k call reply low is)))

pub replied_inv : (key : Key) (m : ℕ → ℕ → ℕ) (w : World) (views : List View) (id : ℕ) (v : View) (k : ℕ) (told : Told) → Inv key m w views → get_elem? views id ≡ some v → v.live ≡ true → 0 < length v.accounts → StandsAt v k → Rowed key m w views id (replied front_reply told v k)
replied_inv key m w views id v k (RowOf call) i at live one stands = row_by key m w views id v k call (front_reply v k call) refl i at live one stands
replied_inv key m w views id v k told i at live one stands = no_row key m w views id v i at
