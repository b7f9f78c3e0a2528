-- Kind 1: a load of a place of the log.
use Rattle.std.proofs.Common.{◌≡◌, ◌≢◌, ℕ, zero, suc, ◌+◌, ◌-◌, ◌<◌, ◌≤◌, ◌==◌, ◌&&◌, not, cond, Bool, true, false, ◌⊎◌, inl, inr, List, [], ◌∷◌, ◌++◌, length, take, set, get_or, Option, None, Some, sym, ap, ◌∙◌, refl, subst, arith, eqb-true, eq-eqb, ne_eqb, append-nil, append_assoc, length-append, ltb, ltb-true, ltb-false}
use Rattle.std.specs.Prelude.{IsSome}
use Rattle.std.proofs.lemmas.List.{take-append-le}
use Rattle.std.proofs.Math.Seq.{take-length}
use Rattle.std.proofs.Math.Decide.{dec_lt}
use mathlib.Core.Logic.{dite}
use native.Mathlib.Decide.{ℕ_discrete}
use mathlib.Core.Option.{none, some}
use lib.ListN.{get_elem?}
use Rattle.atomic_table.specs.Table.{step, keeps, stepped, Allows}
use Rattle.atomic_table.proofs.Lists.{at_longer}
use Rattle.iscc_header.specs.declared.unit.Unit64.{Unit64}
use Rattle.reg_model.specs.declared.call.Call.TheVariants.{Declare}
use Rattle.reg_model.specs.declared.reply.Reply.TheVariants as replies
use Rattle.reg_model.specs.declared.reply.FullCause.TheVariants as causes
use Rattle.reg_model.specs.declared.reply.Row.{Row}
use Rattle.reg_model.specs.Live.{is_declaration, declarations}
use Rattle.reg_model.specs.Replies.{AllEntriesHeld}
use Rattle.reg_rule.specs.declared.view.Empty.{Empty}
use Rattle.reg_words.specs.Memory.{LOG, start, mem}
use Rattle.reg_words.proofs.Memory.{mem-read}
use Rattle.reg_rule.specs.declared.told.Told.{Told}
use Rattle.reg_rule.specs.declared.told.Told.TheVariants.{Row as RowOf, Opens, Refuses}
use Rattle.reg_rule.specs.declared.view.Key.{Key}
use Rattle.reg_rule.specs.declared.view.Place.{Place}
use Rattle.reg_rule.specs.declared.view.View.{View}
use Rattle.reg_rule.specs.Log.{At, updates, place_word, record_at}
use Rattle.reg_rule.specs.inner.World.{World}
use Rattle.reg_words.specs.declared.word.LogWord.{LogWord}
use Rattle.reg_words.specs.declared.word.LogWord.TheVariants as records
use Rattle.reg_words.specs.Packing.{log_word}
use Rattle.reg_rule.specs.inner.Rule.{Inv, Kept, sizes}
use Rattle.reg_rule.specs.Moves.{did, taken_at_empty, next_row, given_of, front_reply, replied, point_or, fronted, at_front, at_seen, with_step, passed, is_stop, refused, either, filled, again}
use Rattle.reg_rule.specs.Conditions.{MayTellFront, MayLoadLog}
use Rattle.reg_rule.specs.Steps.{SeenFits, LogLoaded}
use Rattle.reg_rule.specs.inner.Plays.{Sat, Keeps, Stays, seated_more, one_more, rest_loaded}
use Rattle.reg_rule.specs.declared.remembered.Remembered.{Remembered}
use Rattle.reg_rule.specs.Seats.{hand_of}
use Rattle.reg_rule.specs.inner.Remembering.{remembered_of, opened_at, counting, log_loaded}
use Rattle.reg_rule.proofs.Counted.{set_at_own}
use Rattle.reg_rule.proofs.Passed.{passed_inv}
use Rattle.reg_rule.proofs.Fronted.{set_twice, fronted_inv}
use Rattle.reg_rule.proofs.OpenedAt.{snapshot_inv}
use Rattle.reg_rule.proofs.RowsEnter.{has_head, length_grown, row_inv}
use Rattle.reg_rule.proofs.FrontReplies.{Decided, reply_enters, reply_enters_by, no_row, replied_inv}
use Rattle.reg_rule.proofs.Doors.{St, load_keeps}
use Rattle.reg_rule.proofs.Remembering.{and_off, grown_rest, fronted_rest, stops_rest, passed_rest, tells_declaration, counts_none, loaded_filled, loaded_empty}
use Rattle.reg_rule.proofs.Tells.{rows_served, seen_fits}
use Rattle.reg_rule.proofs.Alone.{alone}
use Rattle.reg_rule.proofs.Refused.{count_take, all_held}
use Rattle.reg_rule.proofs.CountsKept.{count_snoc}
use Rattle.reg_rule.proofs.Variants.{some_of}
use Rattle.reg_rule.proofs.Sets.{counted_inv}
use Rattle.reg_rule.proofs.Reached.{reached, place_most, limbo_inside, limbo_seen}

-- what is left of a step, once its seat has a view of which the rule is known
abbrev pub HasWorld : Key → (ℕ → ℕ → ℕ) → List View → ℕ → View → Type 0
HasWorld key m views id u = (w' : World) × Inv key m w' (set views id u)

no_more : {A : Type 0} (l more : List A) → length (l ++ more) ≤ length l → more ≡ []
no_more l [] h = refl
no_more l (x ∷ more) h = let n = length-append l (x ∷ more) in absurd (omega arith)

stands_by : (x : Option ℕ) (k n : ℕ) → k ≡ n → ((x ≡ None) × (point_or x k ≡ n)) ⊎ (x ≡ Some (point_or x k))
stands_by None k n e = inl (refl, e)
stands_by (Some s) k n e = inr refl

-- the refusal that is told, if it is one, is the registry's
abbrev pub MayRefuse : Told → View → ℕ → Type 0
MayRefuse told v k = (unit : Unit64) → told ≡ Refuses unit → (v.snapshot ≡ None) × Decided v k (Declare unit) (replies.Full (causes.Entries (given_of v)))

abbrev pub MayOpen : Told → View → Type 0
MayOpen told v = told ≡ Opens → 0 < v.pin

-- ---- the front is found

at_front_inv : (key : Key) (m : ℕ → ℕ → ℕ) (w : World) (views : List View) (id : ℕ) (v : View) (k : ℕ) (told : Told) → Inv key m w views → get_elem? views id ≡ some v → v.live ≡ true → 0 < length v.accounts
    → w.log ≡ v.log → k ≡ length v.log → MayOpen told v → MayRefuse told v k → HasWorld key m views id (at_front told v k)
at_front_inv key m w views id v k (RowOf call) i at live one all here opens refuses =
    let u : View = fronted v k in let f = fronted_inv key m w views id v k i at all here in let w1 : World = record w { mark = f.0 } in
    let r = replied_inv key m w1 (set views id u) id u (point_or v.snapshot k) (RowOf call) f.1 (set_at_own views id v u at) live one (stands_by v.snapshot k (length v.log) here) in
    (record w1 { accounts = r.0 }, subst (Inv key m (record w1 { accounts = r.0 })) (set_twice views id u (replied front_reply (RowOf call) u (point_or v.snapshot k))) r.1)
at_front_inv key m w views id v k Opens i at live one all here opens refuses =
    let u : View = fronted v k in let f = fronted_inv key m w views id v k i at all here in let w1 : World = record w { mark = f.0 } in
    (w1, subst (Inv key m w1) (set_twice views id u (at_front Opens v k)) (snapshot_inv key m w1 (set views id u) id u k f.1 (set_at_own views id v u at) all here (opens refl)))
at_front_inv key m w views id v k (Refuses unit) i at live one all here opens refuses =
    let u : View = fronted v k in let f = fronted_inv key m w views id v k i at all here in let w1 : World = record w { mark = f.0 } in let may = refuses unit refl in
    let at' = set_at_own views id v u at in
    let enters = reply_enters key m w1 (set views id u) id u k (Declare unit) (replies.Full (causes.Entries (given_of v))) f.1 at' live one (inl (may.0, here)) may.1 in
    let r = row_inv key m w1 (set views id u) id u (next_row u (Declare unit) k (replies.Full (causes.Entries (given_of v)))) f.1 at' one enters in
    (_, subst (Inv key m _) (set_twice views id u (at_front (Refuses unit) v k)) r)
at_front_inv key m w views id v k told i at live one all here opens refuses = let f = fronted_inv key m w views id v k i at all here in (record w { mark = f.0 }, f.1)

at_seen_inv : (key : Key) (m : ℕ → ℕ → ℕ) (w : World) (views : List View) (id : ℕ) (v : View) (told : Told) (x : Option ℕ) → x ≡ v.snapshot → Inv key m w views → get_elem? views id ≡ some v → v.live ≡ true → 0 < length v.accounts → HasWorld key m views id (at_seen told v x)
at_seen_inv key m w views id v told None is i at live one = let r = no_row key m w views id v i at in (record w { accounts = r.0 }, r.1)
at_seen_inv key m w views id v told (Some k) is i at live one = let r = replied_inv key m w views id v k told i at live one (inr (sym is)) in (record w { accounts = r.0 }, r.1)

-- at the log's end, or within it
front_or_seen : (key : Key) (m : ℕ → ℕ → ℕ) (w : World) (views : List View) (id : ℕ) (u : View) (told : Told) (b : Bool) → (length u.log == u.key.sizes.log) ≡ b → Inv key m w views → get_elem? views id ≡ some u → u.live ≡ true → 0 < length u.accounts
    → MayOpen told u → (length u.log ≡ u.key.sizes.log → w.log ≡ u.log → MayRefuse told u u.key.sizes.log) → HasWorld key m views id (cond b (at_front told u u.key.sizes.log) (at_seen told u u.snapshot))
front_or_seen key m w views id u told true is i at live one opens refuses =
    let end : length u.log ≡ u.key.sizes.log = eqb-true (length u.log) u.key.sizes.log is in let saw = i.saw id u at in
    let limit : u.key.sizes.log ≡ key.sizes.log = ap (λ (z : Key). z.sizes.log) (i.knows id u at live) in let short = i.log.short in
    let none : saw.0 ≡ [] = no_more u.log saw.0 (let l : length w.log ≡ length (u.log ++ saw.0) = ap length saw.1 in omega arith) in
    let all : w.log ≡ u.log = saw.1 ∙ (ap (λ (l : List Place). u.log ++ l) none ∙ append-nil u.log) in
    at_front_inv key m w views id u u.key.sizes.log told i at live one all (sym end) opens (refuses end all)
front_or_seen key m w views id u told false is i at live one opens refuses = at_seen_inv key m w views id u told u.snapshot refl i at live one

-- ---- a place that was seen, and the next one

either_is : (b : Bool) (x y : View) → either true x y ≡ x → either b x y ≡ cond b x y
either_is true x y e = e
either_is false x y e = refl

pub again_is : (told : Told) (v : View) → again told v ≡ cond (length v.log == v.key.sizes.log) (at_front told (with_step v 1) v.key.sizes.log) (at_seen told (with_step v 1) v.snapshot)
again_is told v = either_is (length v.log == v.key.sizes.log) (at_front told (with_step v 1) v.key.sizes.log) (at_seen told (with_step v 1) v.snapshot) refl

pub filled_is : (told : Told) (v : View) (p : Place) → filled told v p ≡ cond (is_stop told v p) (refused told (passed v 1 p) (length v.log))
    (cond (length (v.log ++ p ∷ []) == v.key.sizes.log) (at_front told (passed v 1 p) v.key.sizes.log) (at_seen told (passed v 1 p) v.snapshot))
filled_is told v p = let u : View = passed v 1 p in let stop : View = refused told u (length v.log) in let front : View = at_front told u v.key.sizes.log in let seen : View = at_seen told u v.snapshot in
    let end : Bool = length u.log == v.key.sizes.log in
    either_is (is_stop told v p) stop (either end front seen) refl ∙ ap (cond (is_stop told v p) stop) (either_is end front seen refl)

again_inv : (key : Key) (m : ℕ → ℕ → ℕ) (w : World) (views : List View) (id : ℕ) (v : View) (told : Told) → Inv key m w views → get_elem? views id ≡ some v → v.live ≡ true → 0 < length v.accounts
    → MayOpen told v → (length v.log ≡ v.key.sizes.log → w.log ≡ v.log → MayRefuse told v v.key.sizes.log) → HasWorld key m views id (again told v)
again_inv key m w views id v told i at live one opens refuses =
    let u : View = with_step v 1 in
    let r = front_or_seen key m w (set views id u) id u told (length v.log == v.key.sizes.log) refl (counted_inv key m w views id v 1 refl at i) (set_at_own views id v u at) live one opens refuses in
    (r.0, subst (Inv key m r.0) (set_twice views id u (cond (length v.log == v.key.sizes.log) (at_front told u v.key.sizes.log) (at_seen told u v.snapshot)) ∙ ap (set views id) (sym (again_is told v))) r.1)

abbrev MayStop : Told → View → Place → Type 0
MayStop told v p = (unit : Unit64) → told ≡ Refuses unit → is_stop told v p ≡ true → (v.snapshot ≡ None) × Decided (passed v 1 p) (length v.log) (Declare unit) (replies.Full (causes.Entries (given_of v)))

stop_inv : (key : Key) (m : ℕ → ℕ → ℕ) (w : World) (views : List View) (id : ℕ) (v : View) (p : Place) (told : Told) → is_stop told v p ≡ true → Inv key m w views → get_elem? views id ≡ some v → Inv key m w (set views id (passed v 1 p)) → v.live ≡ true → 0 < length v.accounts
    → MayStop told v p → HasWorld key m views id (refused told (passed v 1 p) (length v.log))
stop_inv key m w views id v p (Refuses unit) stop i at j live one may =
    let u : View = passed v 1 p in let at' = set_at_own views id v u at in let d = may unit refl stop in let rows = i.rows id v at in let head = has_head v.accounts one in
    let base : v.key.carried.base ≡ key.carried.base = ap (λ (z : Key). z.carried.base) (i.knows id v at live) in
    let long : length (v.log ++ p ∷ []) ≡ length v.log + 1 = length-append v.log (p ∷ []) in
    let enters = reply_enters_by key m w (set views id u) id u (length v.log) (Declare unit) (replies.Full (causes.Entries (given_of v))) j at' live (omega arith)
    (λ n r there. rows.below 0 n head.0 r head.1 (subst (λ (l : List Row). At l n r) head.3 there)) (λ s e. let none = d.0 in absurd (cc)) d.1 in
    (_, subst (Inv key m _) (set_twice views id u (refused (Refuses unit) u (length v.log))) (row_inv key m w (set views id u) id u (next_row u (Declare unit) (length v.log) (replies.Full (causes.Entries (given_of v)))) j at' one enters))
stop_inv key m w views id v p told stop i at j live one may = absurd (cc)

filled_by : (key : Key) (m : ℕ → ℕ → ℕ) (w : World) (views : List View) (id : ℕ) (v : View) (p : Place) (told : Told) (b : Bool) → is_stop told v p ≡ b → Inv key m w views → get_elem? views id ≡ some v → Inv key m w (set views id (passed v 1 p)) → v.live ≡ true → 0 < length v.accounts
    → MayOpen told v → MayStop told v p → (is_stop told v p ≡ false → length (v.log ++ p ∷ []) ≡ v.key.sizes.log → w.log ≡ v.log ++ p ∷ [] → MayRefuse told (passed v 1 p) v.key.sizes.log)
    → HasWorld key m views id (cond b (refused told (passed v 1 p) (length v.log)) (cond (length (v.log ++ p ∷ []) == v.key.sizes.log) (at_front told (passed v 1 p) v.key.sizes.log) (at_seen told (passed v 1 p) v.snapshot)))
filled_by key m w views id v p told true is i at j live one opens stops refuses = stop_inv key m w views id v p told is i at j live one stops
filled_by key m w views id v p told false is i at j live one opens stops refuses =
    let u : View = passed v 1 p in
    let r = front_or_seen key m w (set views id u) id u told (length u.log == u.key.sizes.log) refl j (set_at_own views id v u at) live one opens (refuses is) in
    (r.0, subst (Inv key m r.0) (set_twice views id u (cond (length u.log == u.key.sizes.log) (at_front told u u.key.sizes.log) (at_seen told u u.snapshot))) r.1)

filled_inv : (key : Key) (m : ℕ → ℕ → ℕ) (w : World) (views : List View) (id : ℕ) (v : View) (p : Place) (more : List Place) (told : Told) → Inv key m w views → get_elem? views id ≡ some v → w.log ≡ v.log ++ p ∷ more → v.live ≡ true → 0 < length v.accounts
    → MayOpen told v → MayStop told v p → (is_stop told v p ≡ false → length (v.log ++ p ∷ []) ≡ v.key.sizes.log → w.log ≡ v.log ++ p ∷ [] → MayRefuse told (passed v 1 p) v.key.sizes.log) → HasWorld key m views id (filled told v p)
filled_inv key m w views id v p more told i at is live one opens stops refuses = subst (HasWorld key m views id) (sym (filled_is told v p)) (filled_by key m w views id v p told (is_stop told v p) refl i at (passed_inv key m w views id v 1 p more one i at is) live one opens stops refuses)

-- ---- what stays of the view

replied_stays : (told : Told) (v : View) (k : ℕ) → Stays v (replied front_reply told v k)
replied_stays (RowOf call) v k = record { live = refl; key = refl; hand = refl; sessions = length_grown v.accounts _; seen = omega arith; remembered = grown_rest v _ }
replied_stays told v k = record { live = refl; key = refl; sessions = refl; hand = refl; seen = omega arith; remembered = refl }

refused_stays : (told : Told) (v : View) (k : ℕ) → Stays v (refused told v k)
refused_stays (Refuses unit) v k = record { live = refl; key = refl; hand = refl; sessions = length_grown v.accounts (Some (next_row v (Declare unit) k (replies.Full (causes.Entries (given_of v))))); seen = omega arith; remembered = grown_rest v (Some (next_row v (Declare unit) k (replies.Full (causes.Entries (given_of v))))) }
refused_stays told v k = record { live = refl; key = refl; sessions = refl; hand = refl; seen = omega arith; remembered = refl }

-- a front was found, where the snapshot may be opened
abbrev Fronts : Told → ℕ → View → View → Type 0
Fronts told k v w = Keeps 0 (hand_of v) (opened_at told true k (remembered_of v)) v w

front_stays : (told : Told) (v : View) (k : ℕ) → Fronts told k v (at_front told v k)
front_stays (RowOf call) v k = let s = replied_stays (RowOf call) (fronted v k) (point_or v.snapshot k) in record { live = s.live; key = s.key; sessions = s.sessions; hand = s.hand; seen = s.seen; remembered = s.remembered }
front_stays (Refuses unit) v k = let s = refused_stays (Refuses unit) (fronted v k) k in record { live = s.live; key = s.key; sessions = s.sessions; hand = s.hand; seen = s.seen; remembered = s.remembered }
front_stays told v k = record { live = refl; key = refl; sessions = refl; hand = refl; seen = omega arith; remembered = refl }

seen_stays : (told : Told) (v : View) (x : Option ℕ) → Stays v (at_seen told v x)
seen_stays told v None = record { live = refl; key = refl; sessions = refl; hand = refl; seen = omega arith; remembered = refl }
seen_stays told v (Some k) = replied_stays told v k

either_keeps : (entry : Option ℕ) (p q : Remembered) (v : View) (b : Bool) (x y : View) → Keeps 0 entry p v x → Keeps 0 entry q v y → Keeps 0 entry (cond b p q) v (cond b x y)
either_keeps entry p q v true x y h g = h
either_keeps entry p q v false x y h g = g

again_stays : (told : Told) (v : View) → Keeps 0 (hand_of v) (fronted_rest told v.key.sizes.log (length v.log == v.key.sizes.log) (remembered_of v)) v (again told v)
again_stays told v =
    let u : View = with_step v 1 in
    let s = either_keeps (hand_of v) _ _ u (length v.log == v.key.sizes.log) (at_front told u v.key.sizes.log) (at_seen told u v.snapshot) (front_stays told u v.key.sizes.log) (seen_stays told u v.snapshot) in
    subst (λ (z : View). Keeps 0 (hand_of v) (fronted_rest told v.key.sizes.log (length v.log == v.key.sizes.log) (remembered_of v)) v z) (sym (again_is told v))
    record { live = s.live; key = s.key; sessions = s.sessions; hand = s.hand; seen = s.seen; remembered = s.remembered }

filled_stays : (told : Told) (v : View) (p : Place) → Keeps 1 (hand_of v) (fronted_rest told v.key.sizes.log (length (v.log ++ p ∷ []) == v.key.sizes.log) (remembered_of (passed v 1 p))) v (filled told v p)
filled_stays told v p =
    let u : View = passed v 1 p in let rest : Remembered = fronted_rest told v.key.sizes.log (length u.log == v.key.sizes.log) (remembered_of u) in
    let s = either_keeps (hand_of v) _ _ u (is_stop told v p) (refused told u (length v.log)) (cond (length u.log == v.key.sizes.log) (at_front told u v.key.sizes.log) (at_seen told u v.snapshot)) (refused_stays told u (length v.log))
    (either_keeps (hand_of v) _ _ u (length u.log == v.key.sizes.log) (at_front told u v.key.sizes.log) (at_seen told u v.snapshot) (front_stays told u v.key.sizes.log) (seen_stays told u v.snapshot)) in
    let long : length (v.log ++ p ∷ []) ≡ length v.log + 1 = length-append v.log (p ∷ []) in let seen = s.seen in
    subst (λ (z : View). Keeps 1 (hand_of v) rest v z) (sym (filled_is told v p))
    record { live = s.live; key = s.key; sessions = s.sessions; hand = s.hand; seen = omega arith; remembered = s.remembered ∙ stops_rest told v p (is_stop told v p) (length u.log == v.key.sizes.log) refl v.key.sizes.log (remembered_of u) }

-- ---- one caller has seen all that there is

alone_seen : (key : Key) (m : ℕ → ℕ → ℕ) (w : World) (views : List View) (id : ℕ) (v : View) (p : Place) (more : List Place) → Inv key m w views → get_elem? views id ≡ some v → 0 < length v.accounts → key.sizes.callers ≡ 1 → w.log ≡ v.log ++ p ∷ more → ⊥
alone_seen key m w views id v p more i at one single is = let seen = alone key m w views id v i at one single in
    let long : length w.log ≡ length v.log + length (p ∷ more) = ap length is ∙ length-append v.log (p ∷ more) in omega arith

-- ---- refusals for want of entries

refusal : (key : Key) (m : ℕ → ℕ → ℕ) (w : World) (views : List View) (id : ℕ) (v : View) (e : Empty) (seen more : List Place) (made : List ℕ) (k : ℕ) (unit : Unit64) → Inv key m w views → get_elem? views id ≡ some v → v.live ≡ true → v.empty ≡ Some e
    → w.log ≡ seen ++ more → k ≤ length seen → declarations (updates (take k seen)) ≤ e.taken → e.front ≤ k → (key.sizes.callers ≡ 1 → k ≤ e.stopped)
    → Decided (record v { log = seen; made = made }) k (Declare unit) (replies.Full (causes.Entries (given_of v)))
refusal key m w views id v e seen more made k unit i at live is split low most later single =
    let knows : v.key ≡ key = i.knows id v at live in
    let same : take k w.log ≡ take k seen = ap (take k) split ∙ take-append-le k seen more low in
    let count : declarations (updates (take k w.log)) ≡ declarations (updates (take k seen)) = ap (λ (l : List Place). declarations (updates l)) same in
    let all = all_held key w.log e k i.key_part (i.found_empty id v at e is) later (omega arith) single in
    let here : AllEntriesHeld key.sizes key.carried (updates (take k seen)) ((e.taken + length key.carried.list) - key.sizes.entries) = subst (λ (l : List Place). AllEntriesHeld key.sizes key.carried (updates l) ((e.taken + length key.carried.list) - key.sizes.entries)) same all in
    (subst (λ (z : Key × Option Empty). AllEntriesHeld z.0.sizes z.0.carried (updates (take k seen)) ((taken_at_empty z.1 + length z.0.carried.list) - z.0.sizes.entries)) (λ j. (sym knows j, sym is j)) here, refl)

abbrev RefusalOf : View → Type 0
RefusalOf v = (v.snapshot ≡ None) × IsSome v.empty × (declarations (updates v.log) ≤ taken_at_empty v.empty) × (v.key.sizes.callers ≡ 1 → (e : Empty) → v.empty ≡ Some e → length v.log ≤ e.stopped)

-- at the front, or at the log's end
refuse_front : (key : Key) (m : ℕ → ℕ → ℕ) (w : World) (views : List View) (id : ℕ) (v : View) (seen : List Place) (made : List ℕ) (unit : Unit64) (k : ℕ) → Inv key m w views → get_elem? views id ≡ some v → v.live ≡ true → w.log ≡ seen → k ≡ length seen
    → IsSome v.empty → declarations (updates seen) ≤ taken_at_empty v.empty → (key.sizes.callers ≡ 1 → (e : Empty) → v.empty ≡ Some e → k ≤ e.stopped)
    → Decided (record v { log = seen; made = made }) k (Declare unit) (replies.Full (causes.Entries (given_of v)))
refuse_front key m w views id v seen made unit k i at live all here there most single =
    let e = some_of v.empty there in let f = i.found_empty id v at e.0 e.1 in let front = f.front in let long : length w.log ≡ length seen = ap length all in
    let taken : taken_at_empty v.empty ≡ (e.0).taken = ap taken_at_empty e.1 in
    let count : declarations (updates (take k seen)) ≡ declarations (updates seen) = ap (λ (l : List Place). declarations (updates l)) (ap (λ (n : ℕ). take n seen) here ∙ take-length seen) in
    refusal key m w views id v e.0 seen [] made k unit i at live e.1 (all ∙ sym (append-nil seen)) (omega arith) (omega arith) (omega arith) (λ one. single one e.0 e.1)

not_stopped : (b : Bool) (taken n : ℕ) → (b && ltb taken (n + 1)) ≡ false → n ≤ taken → n + cond {A = ℕ} b 1 0 ≤ taken
not_stopped true taken n e low = let h = ltb-false taken (n + 1) e in omega arith
not_stopped false taken n e low = omega arith

stopped_by : (b : Bool) (taken n : ℕ) → (b && ltb taken (n + 1)) ≡ true → (b ≡ true) × (taken < n + 1)
stopped_by true taken n e = (refl, ltb-true taken (n + 1) e)
stopped_by false taken n e = absurd (cc)

refuse_stop : (key : Key) (m : ℕ → ℕ → ℕ) (w : World) (views : List View) (id : ℕ) (v : View) (p : Place) (more : List Place) (unit : Unit64) → Inv key m w views → get_elem? views id ≡ some v → v.live ≡ true → 0 < length v.accounts → w.log ≡ v.log ++ p ∷ more
    → RefusalOf v → is_stop (Refuses unit) v p ≡ true → Decided (passed v 1 p) (length v.log) (Declare unit) (replies.Full (causes.Entries (given_of v)))
refuse_stop key m w views id v p more unit i at live one is may stop =
    let e = some_of v.empty may.1 in let f = i.found_empty id v at e.0 e.1 in let front = f.front in let below = f.declared in let most = may.2 in
    let taken : taken_at_empty v.empty ≡ (e.0).taken = ap taken_at_empty e.1 in let n : ℕ = length v.log in
    let long : length (v.log ++ p ∷ []) ≡ n + 1 = length-append v.log (p ∷ []) in
    let split : w.log ≡ (v.log ++ p ∷ []) ++ more = is ∙ sym (append_assoc v.log (p ∷ []) more) in
    let stops = stopped_by (is_declaration p.update) (taken_at_empty v.empty) (declarations (updates v.log)) stop in let high = stops.1 in
    let own : take n (v.log ++ p ∷ []) ≡ v.log = take-append-le n v.log (p ∷ []) (omega arith) ∙ take-length v.log in
    let count : declarations (updates (take n (v.log ++ p ∷ []))) ≡ declarations (updates v.log) = ap (λ (l : List Place). declarations (updates l)) own in
    let next : take (n + 1) w.log ≡ v.log ++ p ∷ [] = ap (λ (z : ℕ). take z w.log) (sym long) ∙ (ap (take (length (v.log ++ p ∷ []))) split ∙ (take-append-le (length (v.log ++ p ∷ [])) (v.log ++ p ∷ []) more (omega arith) ∙ take-length (v.log ++ p ∷ []))) in
    let after : declarations (updates (take (n + 1) w.log)) ≡ declarations (updates v.log) + cond {A = ℕ} (is_declaration p.update) 1 0 = ap (λ (l : List Place). declarations (updates l)) next ∙ count_snoc is_declaration v.log p in
    let first : cond {A = ℕ} (is_declaration p.update) 1 0 ≡ 1 = ap (λ (b : Bool). cond {A = ℕ} b 1 0) stops.0 in
    let later : (e.0).front ≤ n = dite (dec_lt n (e.0).front) (λ l. let c = count_take is_declaration w.log (n + 1) (e.0).front (omega arith) in omega arith) (λ g. omega arith) in
    refusal key m w views id v e.0 (v.log ++ p ∷ []) more (did v 1) n unit i at live e.1 split (omega arith) (omega arith) later (λ single. absurd (alone_seen key m w views id v p more i at one single is))

-- ---- the step

opens_at : (told : Told) (v : View) → MayTellFront told v → MayOpen told v
opens_at told v may is = (subst (λ (t : Told). MayTellFront t v) is may).1

refusal_of : (told : Told) (v : View) (unit : Unit64) → MayTellFront told v → told ≡ Refuses unit → RefusalOf v
refusal_of told v unit may is = subst (λ (t : Told). MayTellFront t v) is may

single_of : (key : Key) (v : View) (k : ℕ) → v.key ≡ key → k ≡ length v.log → RefusalOf v → key.sizes.callers ≡ 1 → (e : Empty) → v.empty ≡ Some e → k ≤ e.stopped
single_of key v k knows here may one e is = let h = may.3 (ap (λ (z : Key). z.sizes.callers) knows ∙ one) e is in omega arith

-- what a load of a place finds, and the rule after it
abbrev Goes : Key → St → ℕ → Sat → ℕ → (ℕ → Sat → Type 0) → Type 0
Goes key s id me at then = (w : View) × Kept key (stepped s at (get_or s.words at 0) id me.1 w keeps) × then (get_or s.words at 0) (w, me.1)

there_is : {A : Type 0} (l : List A) (n : ℕ) → n < length l → (a : A) × At l n a
there_is [] n h = absurd (omega arith)
there_is (x ∷ l) zero h = (x, refl)
there_is (x ∷ l) (suc n) h = there_is l n (omega arith)

pub at_place : (l more : List Place) (p : Place) → At (l ++ p ∷ more) (length l) p
at_place [] more p = refl
at_place (x ∷ xs) more p = at_place xs more p

grew_not : (place found : ℕ) (v : View) → place ≢ length v.log → one_more place v found ≡ 0
grew_not place found v ne = ap (λ (b : Bool). cond {A = ℕ} (b && not (found == 0)) 1 0) (ne_eqb place (length v.log) ne)

grew_none : (place found : ℕ) (v : View) → found ≡ 0 → one_more place v found ≡ 0
grew_none place found v empty = ap (λ (b : Bool). cond {A = ℕ} ((place == length v.log) && not b) 1 0) (eq-eqb found 0 empty) ∙ ap (λ (b : Bool). cond {A = ℕ} b 1 0) (and_off (place == length v.log))

grew_one : (place found : ℕ) (v : View) → place ≡ length v.log → found ≢ 0 → one_more place v found ≡ 1
grew_one place found v here full = ap (λ (b : Bool). cond {A = ℕ} (b && not (found == 0)) 1 0) (eq-eqb place (length v.log) here) ∙ ap (λ (b : Bool). cond {A = ℕ} (not b) 1 0) (ne_eqb found 0 full)

below_by : {a b : ℕ} → a ≤ b → a ≢ b → a < b
below_by {a} {b} le ne = dite (dec_lt a b) (λ l. l) (λ g. absurd (ne (omega arith)))

-- the word of a record is not that of an empty place
log_word-not0 : (r : LogWord) → log_word r ≢ 0
unfolding log_word
log_word-not0 (records.Decl kind entry id) e = omega arith
log_word-not0 (records.Wd entry id) e = omega arith

pub log_word-some : (base n : ℕ) (p : Place) → place_word base n p ≢ 0
log_word-some base n p = log_word-not0 (record_at base n p.update p.entry)

old_rest : (told : Told) (place found : ℕ) (v : View) → place ≢ length v.log → fronted_rest told v.key.sizes.log (length v.log == v.key.sizes.log) (remembered_of v) ≡ rest_loaded told place v found
old_rest told place found v ne =
    let n : ℕ = length v.log in let r : Remembered = remembered_of v in let places : ℕ = v.key.sizes.log in let same : n ≡ n + one_more place v found = let none = grew_not place found v ne in omega arith in
    ap (λ (z : Remembered). fronted_rest told places (n == places) z) (counts_none r)
    ∙ (loaded_filled told false found n places r refl ∙ (λ i. log_loaded told (sym (ne_eqb place n ne) i) found (same i) places r))

empty_rest : (told : Told) (place found : ℕ) (v : View) → place ≡ length v.log → found ≡ 0 → opened_at told true place (remembered_of v) ≡ rest_loaded told place v found
empty_rest told place found v here empty =
    let n : ℕ = length v.log in let r : Remembered = remembered_of v in let places : ℕ = v.key.sizes.log in let same : place ≡ n + one_more place v found = let none = grew_none place found v empty in omega arith in
    loaded_empty told found place places r empty ∙ (λ i. log_loaded told (sym (eq-eqb place n here) i) found (same i) places r)

filled_rest : (told : Told) (place found : ℕ) (v : View) (p : Place) → place ≡ length v.log → found ≡ place_word v.key.carried.base place p → found ≢ 0
    → fronted_rest told v.key.sizes.log (length (v.log ++ p ∷ []) == v.key.sizes.log) (remembered_of (passed v 1 p)) ≡ rest_loaded told place v found
filled_rest told place found v p here word full =
    let n : ℕ = length (v.log ++ p ∷ []) in let r : Remembered = remembered_of v in let places : ℕ = v.key.sizes.log in
    let long : n ≡ length v.log + 1 = length-append v.log (p ∷ []) in let same : n ≡ length v.log + one_more place v found = let one = grew_one place found v here full in omega arith in
    ap (fronted_rest told places (n == places)) (passed_rest v 1 p ∙ ap (λ (b : Bool). counting b r) (sym (tells_declaration v.key.carried.base place found p word)))
    ∙ (loaded_filled told true found n places r (ne_eqb found 0 full) ∙ (λ i. log_loaded told (sym (eq-eqb place (length v.log) here) i) found (same i) places r))

many : {a b : ℕ} → a ≡ b → 0 < b → 0 < a
many {a} {b} e h = omega arith

loads_old : (key : Key) (slots id : ℕ) (me : Sat) (told : Told) (place : ℕ) → MayLoadLog told place me.0 → place < length me.0.log → me.0.live ≡ true → 0 < length me.0.accounts → (s : St) (k : Kept key s) → get_elem? s.views id ≡ some me.0
    → Goes key s id me (start (sizes key) LOG + place) (seated_more told place (LogLoaded told place) (step slots (start (sizes key) LOG + place) 0 0 none) me)
loads_old key slots id me told place may low live one s k at =
    let v : View = me.0 in let a : ℕ = start (sizes key) LOG + place in let m : ℕ → ℕ → ℕ = mem (sizes key) s.words in let i = k.inv in let w : World = k.world in
    let knows : v.key ≡ key = i.knows id v at live in let saw = i.saw id v at in let long : length w.log ≡ length v.log + length saw.0 = ap length saw.1 ∙ length-append v.log saw.0 in let short = i.log.short in
    let p = there_is v.log place low in
    let in_log : At w.log place p.0 = subst (λ (l : List Place). At l place p.0) (sym saw.1) (at_longer v.log saw.0 place p.0 p.1) in
    let inside : place < key.sizes.log = omega arith in
    let word : get_or s.words a 0 ≡ place_word v.key.carried.base place p.0 = sym (mem-read (sizes key) s.words LOG place inside) ∙ (i.log.filled place p.0 in_log ∙ ap (λ (z : Key). place_word z.carried.base place p.0) (sym knows)) in
    let r = again_inv key m w s.views id v told i at live one (opens_at told v may.telling)
    (λ end all unit is. let h = refusal_of told v unit may.telling is in (h.0, refuse_front key m w s.views id v v.log v.made unit v.key.sizes.log i at live all (sym end) h.1 h.2 (single_of key v v.key.sizes.log knows (sym end) h))) in
    let stays = again_stays told v in let none = grew_not place (get_or s.words a 0) v (λ e. omega arith) in let seen = stays.seen in (
      again told v,
      load_keeps key s k a id me (again told v) r.0 r.1,
      (
        record {
          empty = λ e. absurd (omega arith);
          next = λ e. absurd (omega arith);
          old = λ _. (p.0, p.1, word, refl);
          alone = λ c e. absurd (omega arith);
          seen = subst (λ (z : Key). SeenFits z v.log) (sym knows) (seen_fits key (m LOG) w.log id v i.key_part i.log saw);
          rows = rows_served key m r.0 (set s.views id (again told v)) id (again told v) r.1 (set_at_own s.views id v (again told v) at) (stays.key ∙ knows) (many stays.sessions one);
          reached = λ h has e. absurd (omega arith);
          most = λ h has. subst (λ (z : Key). (h.place ≤ z.sizes.log) × (h.word.limbo ≡ true → h.paid ≡ false → h.place < z.sizes.log)) (sym knows) (place_most key m w s.views id v i at h has);
          limbo = λ h has on unpaid low. limbo_seen key m w s.views id v i at h has on unpaid v.log saw.0 saw.1 low;
        },
        record { live = stays.live; key = stays.key; sessions = stays.sessions; hand = stays.hand; seen = omega arith; remembered = stays.remembered ∙ old_rest told place (get_or s.words a 0) v (λ e. omega arith) },
        refl,
      ),
    )

loads_next : (key : Key) (slots id : ℕ) (me : Sat) (told : Told) (place : ℕ) → MayLoadLog told place me.0 → place ≡ length me.0.log → me.0.live ≡ true → 0 < length me.0.accounts → (s : St) (k : Kept key s) → get_elem? s.views id ≡ some me.0
    → (more : List Place) → k.world.log ≡ me.0.log ++ more
    → Goes key s id me (start (sizes key) LOG + place) (seated_more told place (LogLoaded told place) (step slots (start (sizes key) LOG + place) 0 0 none) me)
loads_next key slots id me told place may here live one s k at [] is =
    let v : View = me.0 in let a : ℕ = start (sizes key) LOG + place in let m : ℕ → ℕ → ℕ = mem (sizes key) s.words in let i = k.inv in let w : World = k.world in
    let knows : v.key ≡ key = i.knows id v at live in let all : w.log ≡ v.log = is ∙ append-nil v.log in let long : length w.log ≡ length v.log = ap length all in
    let inside : place < key.sizes.log = subst (λ (z : Key). place < z.sizes.log) knows may.inside in
    let word : get_or s.words a 0 ≡ 0 = sym (mem-read (sizes key) s.words LOG place inside) ∙ i.log.empty place (omega arith) in
    let u : View = with_step v 1 in let after : View = at_front told u place in
    let r = at_front_inv key m w (set s.views id u) id u place told (counted_inv key m w s.views id v 1 refl at i) (set_at_own s.views id v u at) live one all here (opens_at told v may.telling)
    (λ unit told_is. let h = refusal_of told v unit may.telling told_is in (h.0, refuse_front key m w s.views id v v.log (did v 1) unit place i at live all here h.1 h.2 (single_of key v place knows here h))) in
    let stays = front_stays told u place in let none_grew = grew_none place (get_or s.words a 0) v word in let seen = stays.seen in (
      after,
      load_keeps key s k a id me after r.0 (subst (Inv key m r.0) (set_twice s.views id u after) r.1),
      (
        record {
          empty = λ _ _. refl;
          next = λ e some. absurd (some word);
          old = λ e. absurd (omega arith);
          alone = λ c e. word;
          seen = subst (λ (z : Key). SeenFits z v.log) (sym knows) (seen_fits key (m LOG) w.log id v i.key_part i.log (i.saw id v at));
          rows = rows_served key m r.0 (set s.views id after) id after (subst (Inv key m r.0) (set_twice s.views id u after) r.1) (set_at_own s.views id v after at) (stays.key ∙ knows) (many stays.sessions one);
          reached = λ h has e z. ((let r = reached key m w s.views id v i at h has in omega arith), (λ on unpaid. let r = limbo_inside key m w s.views id v i at h has on unpaid in omega arith));
          most = λ h has. subst (λ (z : Key). (h.place ≤ z.sizes.log) × (h.word.limbo ≡ true → h.paid ≡ false → h.place < z.sizes.log)) (sym knows) (place_most key m w s.views id v i at h has);
          limbo = λ h has on unpaid low. limbo_seen key m w s.views id v i at h has on unpaid v.log [] is low;
        },
        record { live = stays.live; key = stays.key; sessions = stays.sessions; hand = stays.hand; seen = omega arith; remembered = stays.remembered ∙ empty_rest told place (get_or s.words a 0) v here word },
        refl,
      ),
    )
loads_next key slots id me told place may here live one s k at (p ∷ more) is =
    let v : View = me.0 in let a : ℕ = start (sizes key) LOG + place in let m : ℕ → ℕ → ℕ = mem (sizes key) s.words in let i = k.inv in let w : World = k.world in
    let knows : v.key ≡ key = i.knows id v at live in let callers : v.key.sizes.callers ≡ key.sizes.callers = ap (λ (z : Key). z.sizes.callers) knows in
    let inside : place < key.sizes.log = subst (λ (z : Key). place < z.sizes.log) knows may.inside in
    let in_log : At w.log place p = subst (λ (z : List Place × ℕ). At z.0 z.1 p) (λ j. (sym is j, sym here j)) (at_place v.log more p) in
    let word : get_or s.words a 0 ≡ place_word v.key.carried.base place p = sym (mem-read (sizes key) s.words LOG place inside) ∙ (i.log.filled place p in_log ∙ ap (λ (z : Key). place_word z.carried.base place p) (sym knows)) in
    let filled_word : get_or s.words a 0 ≢ 0 = λ z. log_word-some v.key.carried.base place p (sym word ∙ z) in
    let long : length (v.log ++ p ∷ []) ≡ length v.log + 1 = length-append v.log (p ∷ []) in
    let r = filled_inv key m w s.views id v p more told i at is live one (opens_at told v may.telling)
    (λ unit told_is stop. let h = refusal_of told v unit may.telling told_is in (h.0, refuse_stop key m w s.views id v p more unit i at live one is h (subst (λ (t : Told). is_stop t v p ≡ true) told_is stop)))
    (λ goes end all unit told_is. let h = refusal_of told v unit may.telling told_is in
    let off : is_stop (Refuses unit) v p ≡ false = subst (λ (t : Told). is_stop t v p ≡ false) told_is goes in
    let most = not_stopped (is_declaration p.update) (taken_at_empty v.empty) (declarations (updates v.log)) off h.2 in let count = count_snoc is_declaration v.log p in
    (h.0, refuse_front key m w s.views id v (v.log ++ p ∷ []) (did v 1) unit v.key.sizes.log i at live all (sym end) h.1 (omega arith) (λ single. absurd (alone_seen key m w s.views id v p more i at one single is)))) in
    let stays = filled_stays told v p in let one_grew = grew_one place (get_or s.words a 0) v here filled_word in let seen = stays.seen in (
      filled told v p,
      load_keeps key s k a id me (filled told v p) r.0 r.1,
      (
        record {
          empty = λ e z. absurd (filled_word z);
          next = λ _ _. (p, word, refl);
          old = λ e. absurd (omega arith);
          alone = λ c e. absurd (alone_seen key m w s.views id v p more i at one (sym callers ∙ c) is);
          seen = subst (λ (z : Key). SeenFits z (v.log ++ p ∷ [])) (sym knows) (seen_fits key (m LOG) w.log id (passed v 1 p) i.key_part i.log (more, is ∙ sym (append_assoc v.log (p ∷ []) more)));
          rows = rows_served key m r.0 (set s.views id (filled told v p)) id (filled told v p) r.1 (set_at_own s.views id v (filled told v p) at) (stays.key ∙ knows) (many stays.sessions one);
          reached = λ h has e z. absurd (filled_word z);
          most = λ h has. subst (λ (z : Key). (h.place ≤ z.sizes.log) × (h.word.limbo ≡ true → h.paid ≡ false → h.place < z.sizes.log)) (sym knows) (place_most key m w s.views id v i at h has);
          limbo = λ h has on unpaid low. limbo_seen key m w s.views id v i at h has on unpaid (v.log ++ p ∷ []) more (is ∙ sym (append_assoc v.log (p ∷ []) more)) low;
        },
        record { live = stays.live; key = stays.key; sessions = stays.sessions; hand = stays.hand; seen = omega arith; remembered = stays.remembered ∙ filled_rest told place (get_or s.words a 0) v p here word filled_word },
        refl,
      ),
    )

pub loads_log : (key : Key) (slots id : ℕ) (me : Sat) (told : Told) (place : ℕ) → MayLoadLog told place me.0 → me.0.live ≡ true → 0 < length me.0.accounts
    → Allows (Kept key) slots id me (start (sizes key) LOG + place) (λ x. x) (seated_more told place (LogLoaded told place) (step slots (start (sizes key) LOG + place) 0 0 none) me)
loads_log key slots id me told place may live one s k wide at small =
    let saw = k.inv.saw id me.0 at in let seen = may.seen in
    let f = dite (ℕ_discrete place (length me.0.log)) (λ here. loads_next key slots id me told place may here live one s k at saw.0 saw.1) (λ ne. loads_old key slots id me told place may (below_by seen ne) live one s k at) in
    (f.0, keeps, tt, f.1, f.2)

-- the same at an address that the code has computed
pub loads_log_at : (key : Key) (slots id : ℕ) (me : Sat) (told : Told) (place a : ℕ) → a ≡ start (sizes key) LOG + place → MayLoadLog told place me.0 → me.0.live ≡ true → 0 < length me.0.accounts
    → Allows (Kept key) slots id me a (λ x. x) (seated_more told place (LogLoaded told place) (step slots a 0 0 none) me)
loads_log_at key slots id me told place a is may live one = subst (λ (z : ℕ). Allows (Kept key) slots id me z (λ x. x) (seated_more told place (LogLoaded told place) (step slots z 0 0 none) me)) (sym is) (loads_log key slots id me told place may live one)
