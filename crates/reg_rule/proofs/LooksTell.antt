-- What a look is told: a row whose reply it decides, or the hits of a query of which it is the last step (kinds 3 and 7).
use Rattle.std.specs.Prelude.{IsSome}
use Rattle.std.proofs.Common.{◌≡◌, ℕ, ◌+◌, ◌*◌, ◌==◌, cond, Bool, true, false, All, ◌<◌, ◌≤◌, inl, inr, ⊎_elim, List, [], ◌∷◌, ◌++◌, length, set, Option, None, Some, option_map, sym, refl, ap, ◌∙◌, subst, arith}
use mathlib.Core.Option.{some}
use lib.ListN.{get_elem?}
use Rattle.atomic_table.proofs.Lists.{set_again}
use Rattle.iscc_header.specs.declared.unit.Unit64.{Unit64}
use Rattle.reg_model.specs.declared.call.Call.{Call}
use Rattle.reg_model.specs.declared.call.Call.TheVariants as calls
use Rattle.reg_model.specs.declared.reply.Hit.{Hit}
use Rattle.reg_model.specs.declared.reply.Reply.{Reply}
use Rattle.reg_model.specs.declared.reply.Row.{Row}
use Rattle.reg_model.specs.declared.reply.Reply.TheVariants as replies
use Rattle.reg_model.specs.declared.reply.FullCause.TheVariants as causes
use Rattle.reg_model.specs.declared.update.Declared.{Declared}
use Rattle.reg_model.specs.Live.{live_at}
use Rattle.mih_plan.specs.declared.probe.Probe.{Probe}
use Rattle.mih_plan.specs.Buckets.{plan}
use Rattle.reg_model.specs.Rows.{update_of}
use Rattle.reg_words.specs.Memory.{CODE}
use Rattle.reg_rule.specs.declared.told.Told.{Told}
use Rattle.reg_rule.specs.declared.told.Told.TheVariants.{Row as RowOf, Hits}
use Rattle.reg_rule.specs.declared.view.Key.{Key}
use Rattle.reg_rule.specs.declared.view.Cost.{Cost}
use Rattle.reg_rule.specs.declared.view.Met.{Met}
use Rattle.reg_rule.specs.declared.view.View.{View}
use Rattle.reg_rule.specs.Log.{updates}
use Rattle.reg_rule.specs.Conditions.{MayAnswer, MayTellLook, IsPaidFor, IsAmong}
use Rattle.reg_rule.specs.Moves.{with_step, next_row, grown, replied, standing, log_at, live_list_at, with_hits, AreHitsOf, point_or, stamp_reply, code_reply, full_at}
use Rattle.reg_rule.specs.inner.World.{World}
use Rattle.reg_rule.specs.Candidates.{candidates}
use Rattle.reg_rule.specs.inner.Rule.{Inv}
use Rattle.reg_rule.proofs.Fits.{Fits, fits_of}
use Rattle.reg_rule.proofs.Sets.{fits_set}
use Rattle.reg_rule.proofs.Counted.{set_at_own}
use Rattle.reg_rule.proofs.Fronted.{set_twice}
use Rattle.reg_rule.proofs.RowsEnter.{row_inv}
use Rattle.reg_rule.proofs.FrontReplies.{Decided, StandsAt, Rowed, no_row, reply_enters, stands_low}
use Rattle.reg_rule.proofs.Replied.{stamp_answers, code_answers}
use Rattle.reg_rule.proofs.Held.{all_at}
use Rattle.reg_rule.proofs.Once.{at_one_more}
use Rattle.reg_rule.proofs.Costs.{bound}
use Rattle.reg_rule.proofs.LoadsTake.{hands_below}
use Rattle.reg_rule.proofs.SomeHits.{some_hits}
use Rattle.reg_rule.proofs.Variants.{some_same}

-- ---- where a row stands that a look decides

found_in : (x : Option ℕ) (k : ℕ) → IsSome x → x ≡ Some (point_or x k)
found_in None k some_x = absurd (cc)
found_in (Some s) k some_x = refl

stands_shown : (v : View) → IsSome v.snapshot → StandsAt v (standing v)
stands_shown v open_one = inr (found_in v.snapshot (point_or v.front (length v.log)) open_one)

stands_front : (v : View) → v.snapshot ≡ None → v.front ≡ Some (length v.log) → StandsAt v (standing v)
stands_front v none front = inl (none, ap (λ (x : Option ℕ). point_or x (point_or v.front (length v.log))) none ∙ ap (λ (x : Option ℕ). point_or x (length v.log)) front)

-- the reply to a call is decided, where it may be answered
abbrev pub Decides : (View → ℕ → Call → Option Reply) → Type 0
Decides decides = (v : View) (k : ℕ) (call : Call) (reply : Reply) → MayAnswer v call → decides v k call ≡ Some reply → ((k ≡ standing v → StandsAt v k) × (k ≤ length v.log → Decided v k call reply))

full_quiet : (v : View) (k id : ℕ) (o : Option Declared) (reply : Reply) → full_at v k o id ≡ Some reply → update_of (calls.Withdraw id) reply ≡ None
full_quiet v k id None reply e = ap (update_of (calls.Withdraw id)) (sym (some_same (replies.Absent id) reply e))
full_quiet v k id (Some d) reply e = by_test (k == v.key.sizes.log) e where
  by_test : (b : Bool) → cond b (Some (replies.Full causes.Log)) None ≡ Some reply → update_of (calls.Withdraw id) reply ≡ None
  by_test true z = ap (update_of (calls.Withdraw id)) (sym (some_same (replies.Full causes.Log) reply z))
  by_test false z = absurd (cc)

pub stamp_decides : Decides stamp_reply
stamp_decides v k (calls.Withdraw id) reply may e = ((λ is. subst (StandsAt v) (sym is) (stands_front v may.0 may.1)), (λ low. (stamp_answers v k (calls.Withdraw id) reply low e, full_quiet v k id (live_at v.key.carried (log_at v k) id) reply e)))
stamp_decides v k (calls.Show id) reply may e = ((λ is. subst (StandsAt v) (sym is) (stands_shown v may)), (λ low. (stamp_answers v k (calls.Show id) reply low e, refl)))
stamp_decides v k (calls.Declare unit) reply may e = absurd (cc)
stamp_decides v k (calls.Near unit radius) reply may e = absurd (cc)
stamp_decides v k calls.Count reply may e = absurd (cc)
stamp_decides v k (calls.After point) reply may e = absurd (cc)

pub code_decides : Decides code_reply
code_decides v k (calls.Show id) reply may e = ((λ is. subst (StandsAt v) (sym is) (stands_shown v may)), (λ low. (code_answers v k (calls.Show id) reply e, refl)))
code_decides v k (calls.Withdraw id) reply may e = absurd (cc)
code_decides v k (calls.Declare unit) reply may e = absurd (cc)
code_decides v k (calls.Near unit radius) reply may e = absurd (cc)
code_decides v k calls.Count reply may e = absurd (cc)
code_decides v k (calls.After point) reply may e = absurd (cc)

-- ---- the costs of a query

abbrev pub with_cost : View → Cost → View
with_cost v c = record v { costs = v.costs ++ c ∷ [] }

cost_fits : (key : Key) (m : ℕ → ℕ → ℕ) (w : World) (id : ℕ) (v : View) (c0 : Cost) → c0.looked ≤ 2 * candidates key.carried (updates w.log) key.sizes.bits c0.unit c0.radius + 4 * key.sizes.callers → Fits key m w id v → Fits key m w id (with_cost v c0)
cost_fits key m w id v c0 paid f = record {
  knows = f.knows;
  owns = f.owns;
  saw = f.saw;
  has_sessions = f.has_sessions;
  rows = f.rows;
  found = f.found;
  exchanges = f.exchanges;
  fits_pin = f.fits_pin;
  pinned = f.pinned;
  above_floor = f.above_floor;
  helps = f.helps;
  hands = f.hands;
  cursors = f.cursors;
  covers = f.covers;
  takes = f.takes;
  found_empty = f.found_empty;
  stopped = f.stopped;
  last_word = f.last_word;
  is_holder = f.is_holder;
  at_word = f.at_word;
  idles = f.idles;
  scans = f.scans;
  cuts = f.cuts;
  gives = f.gives;
  victims = f.victims;
  meets = f.meets;
  costs = λ j c there. ⊎_elim (λ old. f.costs j c old) (λ new. subst (λ (z : Cost). z.looked ≤ 2 * candidates key.carried (updates w.log) key.sizes.bits z.unit z.radius + 4 * key.sizes.callers) new.1 paid) (at_one_more v.costs c0 c j there);
}

paid_for : (key : Key) (m : ℕ → ℕ → ℕ) (w : World) (views : List View) (id : ℕ) (v : View) (unit : Unit64) (radius looked k : ℕ) → Inv key m w views → get_elem? views id ≡ some v → v.key ≡ key → v.snapshot ≡ Some k → IsPaidFor v unit radius looked
    → looked ≤ 2 * candidates key.carried (updates w.log) key.sizes.bits unit radius + 4 * key.sizes.callers
paid_for key m w views id v unit radius looked k i at knows opened paid =
    let b = bound key (m CODE) w.log w.returned w.uses w.linked views v.met (plan unit.body radius key.sizes.bits) k i.key_part.opening i.uses i.codes i.in_hands (λ l x there. i.meets id v at l k x opened there) paid.once
    (λ l x there. all_at (λ (y : Met). (p : Probe) × IsAmong p (plan unit.body radius key.sizes.bits) × (p.table ≡ y.table) × (p.bucket ≡ y.bucket)) v.met l x
    (subst (λ (z : Key). All (λ (y : Met). (p : Probe) × IsAmong p (plan unit.body radius z.sizes.bits) × (p.table ≡ y.table) × (p.bucket ≡ y.bucket)) v.met) knows paid.probes) there) in
    let l = paid.looks in let h = hands_below views i.has_sessions in let s = i.sessions in omega arith

-- ---- what is told

abbrev pub Looked : Key → (ℕ → ℕ → ℕ) → World → List View → ℕ → Told → View → Type 0
Looked key m w views id told u = (hits : List Hit) × AreHitsOf told u hits × ((accounts : ℕ → List Row) × Inv key m (record w { accounts = accounts }) (set views id (with_hits told hits u)))

row_by : (key : Key) (m : ℕ → ℕ → ℕ) (w : World) (views : List View) (id : ℕ) (v : View) (k : ℕ) (call : Call) (x : Option Reply) → ((reply : Reply) → x ≡ Some reply → StandsAt v k × Decided v k call reply) → Inv key m w views → get_elem? views id ≡ some v → v.live ≡ true → 0 < length v.accounts
    → Rowed key m w views id (record v { accounts = grown v.accounts (option_map (next_row v call k) x) })
row_by key m w views id v k call None d i at live one = no_row key m w views id v i at
row_by key m w views id v k call (Some reply) d i at live one = let r = d reply refl in (_, row_inv key m w views id v (next_row v call k reply) i at one (reply_enters key m w views id v k call reply i at live one r.0 r.1))

pub look_told : (decides : View → ℕ → Call → Option Reply) → Decides decides → (key : Key) (m : ℕ → ℕ → ℕ) (w : World) (views : List View) (id : ℕ) (v : View) (told : Told) → Inv key m w views → get_elem? views id ≡ some v → v.live ≡ true → 0 < length v.accounts → MayTellLook told v
    → Looked key m w views id told (replied decides told v (standing v))
look_told decides decided key m w views id v (RowOf call) i at live one may =
    let r = row_by key m w views id v (standing v) call (decides v (standing v) call)
    (λ reply e. let d = decided v (standing v) call reply may e in let s = d.0 refl in (s, d.1 (stands_low key m w views id v (standing v) i at s))) i at live one in
    ([], tt, (r.0, r.1))
look_told decides decided key m w views id v (Hits unit radius looked) i at live one may =
    let s = stands_shown v may.0 in let k : ℕ = standing v in let opened : v.snapshot ≡ Some k = found_in v.snapshot (point_or v.front (length v.log)) may.0 in
    let hits = some_hits (live_list_at v k) unit radius in let knows : v.key ≡ key = i.knows id v at live in
    let c : Cost = record { unit = unit; radius = radius; looked = looked } in let v1 : View = with_cost v c in
    let j = fits_set key m w views id v v1 i at refl refl (cost_fits key m w id v c (paid_for key m w views id v unit radius looked k i at knows opened may.2) (fits_of key m w views i id v at)) in
    let at' = set_at_own views id v v1 at in
    let r = row_inv key m w (set views id v1) id v1 (next_row v1 (calls.Near unit radius) k (replies.Hits hits.0)) j at' one
    (reply_enters key m w (set views id v1) id v1 k (calls.Near unit radius) (replies.Hits hits.0) j at' live one s ((may.1, hits.1), refl)) in
    (hits.0, hits.1, (_, subst (Inv key m _) (set_twice views id v1 (with_hits (Hits unit radius looked) hits.0 v)) r))
look_told decides decided key m w views id v told i at live one may = ([], tt, (w.accounts, subst (Inv key m w) (sym (set_again views id v at)) i))

-- a step more changes nothing of what may be told
answer_counted : (v : View) (kind : ℕ) (call : Call) → MayAnswer v call → MayAnswer (with_step v kind) call
answer_counted v kind (calls.Show id) may = may
answer_counted v kind (calls.Withdraw id) may = may
answer_counted v kind (calls.Declare unit) may = tt
answer_counted v kind (calls.Near unit radius) may = tt
answer_counted v kind calls.Count may = tt
answer_counted v kind (calls.After point) may = tt

pub tell_counted : (told : Told) (v : View) (kind : ℕ) → MayTellLook told v → MayTellLook told (with_step v kind)
tell_counted (RowOf call) v kind may = answer_counted v kind call may
tell_counted (Hits unit radius looked) v kind may = (may.0, may.1, record { looks = may.2.looks; once = may.2.once; probes = may.2.probes })
tell_counted told v kind may = tt
