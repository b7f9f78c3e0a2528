-- The walk along the log, load by load.
use Rattle.std.proofs.Common.{◌≡◌, ◌≢◌, ℕ, ◌+◌, ◌-◌, ◌<◌, ◌≤◌, inl, inr, ⊎_elim, Bool, true, false, ◌==◌, List, [], ◌∷◌, ◌++◌, length, length-append, append_assoc, replicate, Option, None, Some, refl, sym, ap, ◌∙◌, subst, arith}
use Rattle.std.proofs.lemmas.Bool.{eqb-true, eq-eqb}
use Rattle.std.proofs.lemmas.Bool.Decides.{eqb_tells}
use Rattle.std.proofs.lemmas.List.{append-nil, replicate-append-replicate}
use Rattle.reg_model.specs.declared.call.Call.{Call}
use Rattle.reg_model.specs.declared.call.Call.TheVariants.{Declare, Withdraw, Near, Show, Count, After}
use Rattle.reg_rule.specs.declared.told.Told.{Told}
use Rattle.reg_rule.specs.declared.told.Told.TheVariants.{Nothing, Row, Opens, Closes, Begins, Links, Refuses, Hits, Examines, Sweeps, Ends}
use Rattle.reg_rule.specs.declared.view.Holding.{Holding}
use Rattle.reg_rule.specs.declared.view.Place.{Place}
use Rattle.reg_rule.specs.declared.view.View.{View}
use Rattle.reg_rule.specs.Conditions.{MayTellFront}
use Rattle.reg_rule.specs.Moves.{with_step, either, at_front, at_seen, at_seen_accounts, is_stop, refused, passed, filled, again}
use Rattle.reg_rule.specs.Log.{place_word, IsWd}
use Rattle.reg_rule.specs.declared.view.Key.{Key}
use Rattle.reg_rule.specs.Steps.{LogLoaded, SeenFits}
use Rattle.reg_commit.specs.Fronts.{MayWalk, walked_to, FrontFound}
use Rattle.reg_commit.specs.inner.Walking.{IsWalking, HasWalked}

-- ---- what may be told

pub may_tell : (told : Told) (v : View) → MayWalk told v → MayTellFront told v
may_tell Nothing v may = tt
may_tell Opens v may = may
may_tell (Row (Declare unit)) v may = may
may_tell (Row (Withdraw id)) v may = may
may_tell (Row (Near unit radius)) v may = may
may_tell (Row (Show id)) v may = absurd may
may_tell (Row Count) v may = may
may_tell (Row (After point)) v may = may
may_tell Closes v may = absurd may
may_tell Begins v may = absurd may
may_tell Links v may = absurd may
may_tell (Refuses unit) v may = absurd may
may_tell (Hits unit radius looked) v may = absurd may
may_tell (Examines place) v may = absurd may
may_tell Sweeps v may = absurd may
may_tell (Ends swept) v may = absurd may

may_still : (told : Told) (v : View) (places : List Place) (loads : ℕ) → MayWalk told v → MayWalk told (walked_to v places loads)
may_still Nothing v places loads may = tt
may_still Opens v places loads may = may
may_still (Row (Declare unit)) v places loads may = may
may_still (Row (Withdraw id)) v places loads may = may
may_still (Row (Near unit radius)) v places loads may = may
may_still (Row (Show id)) v places loads may = absurd may
may_still (Row Count) v places loads may = may
may_still (Row (After point)) v places loads may = may
may_still Closes v places loads may = absurd may
may_still Begins v places loads may = absurd may
may_still Links v places loads may = absurd may
may_still (Refuses unit) v places loads may = absurd may
may_still (Hits unit radius looked) v places loads may = absurd may
may_still (Examines place) v places loads may = absurd may
may_still Sweeps v places loads may = absurd may
may_still (Ends swept) v places loads may = absurd may

-- a row of a snapshot is not told, and no other is made while one is open
row_unopened : (call : Call) (v : View) → MayWalk (Row call) v → v.snapshot ≡ None
row_unopened (Declare unit) v may = may
row_unopened (Withdraw id) v may = may
row_unopened (Near unit radius) v may = may
row_unopened (Show id) v may = absurd may
row_unopened Count v may = may
row_unopened (After point) v may = may

seen_nothing : (v : View) (s : Option ℕ) → at_seen_accounts Nothing v s ≡ v.accounts
seen_nothing v None = refl
seen_nothing v (Some k) = refl

seen_opens : (v : View) (s : Option ℕ) → at_seen_accounts Opens v s ≡ v.accounts
seen_opens v None = refl
seen_opens v (Some k) = refl

-- before the front no row is made
seen_quiet : (told : Told) (v u : View) → MayWalk told v → at_seen_accounts told u v.snapshot ≡ u.accounts
seen_quiet Nothing v u may = seen_nothing u v.snapshot
seen_quiet Opens v u may = seen_opens u v.snapshot
seen_quiet (Row call) v u may = ap (at_seen_accounts (Row call) u) (row_unopened call v may)
seen_quiet Closes v u may = absurd may
seen_quiet Begins v u may = absurd may
seen_quiet Links v u may = absurd may
seen_quiet (Refuses unit) v u may = absurd may
seen_quiet (Hits unit radius looked) v u may = absurd may
seen_quiet (Examines place) v u may = absurd may
seen_quiet Sweeps v u may = absurd may
seen_quiet (Ends swept) v u may = absurd may

no_stop : (told : Told) (v : View) (p : Place) → MayWalk told v → is_stop told v p ≡ false
no_stop Nothing v p may = refl
no_stop Opens v p may = refl
no_stop (Row call) v p may = refl
no_stop Closes v p may = absurd may
no_stop Begins v p may = absurd may
no_stop Links v p may = absurd may
no_stop (Refuses unit) v p may = absurd may
no_stop (Hits unit radius looked) v p may = absurd may
no_stop (Examines place) v p may = absurd may
no_stop Sweeps v p may = absurd may
no_stop (Ends swept) v p may = absurd may

-- ---- one load

-- the last place is filled, or another one
filled_last : (told : Told) (v : View) (p : Place) → MayWalk told v → length (v.log ++ p ∷ []) ≡ v.key.sizes.log → filled told v p ≡ at_front told (passed v 1 p) v.key.sizes.log
filled_last told v p may last = by (is_stop told v p) (length (v.log ++ p ∷ []) == v.key.sizes.log) (no_stop told v p may) (eq-eqb _ _ last) where
  by : (a b : Bool) → a ≡ false → b ≡ true → either a (refused told (passed v 1 p) (length v.log)) (either b (at_front told (passed v 1 p) v.key.sizes.log) (at_seen told (passed v 1 p) v.snapshot)) ≡ at_front told (passed v 1 p) v.key.sizes.log
  by false true e f = refl
  by true b e f = absurd (cc)
  by false false e f = absurd (cc)

filled_more : (told : Told) (v : View) (p : Place) → MayWalk told v → length (v.log ++ p ∷ []) ≢ v.key.sizes.log → filled told v p ≡ passed v 1 p
filled_more told v p may more = by (is_stop told v p) (length (v.log ++ p ∷ []) == v.key.sizes.log) (no_stop told v p may) refl where
  by : (a b : Bool) → a ≡ false → (length (v.log ++ p ∷ []) == v.key.sizes.log) ≡ b → either a (refused told (passed v 1 p) (length v.log)) (either b (at_front told (passed v 1 p) v.key.sizes.log) (at_seen told (passed v 1 p) v.snapshot)) ≡ passed v 1 p
  by false false e f = let accounts = seen_quiet told v (passed v 1 p) may in λ j. record (passed v 1 p) { accounts = accounts j }
  by true b e f = absurd (cc)
  by false true e f = absurd (more (eqb-true _ _ f))

again_all : (told : Told) (v : View) → length v.log ≡ v.key.sizes.log → again told v ≡ at_front told (with_step v 1) v.key.sizes.log
again_all told v all = by (length v.log == v.key.sizes.log) (eq-eqb _ _ all) where
  by : (b : Bool) → b ≡ true → either b (at_front told (with_step v 1) v.key.sizes.log) (at_seen told (with_step v 1) v.snapshot) ≡ at_front told (with_step v 1) v.key.sizes.log
  by true e = refl
  by false e = absurd (cc)

-- ---- the walk

pub not_moved : (v : View) → v ≡ walked_to v [] 0
not_moved v = let log = sym (append-nil v.log) in let made = sym (append-nil v.made) in λ j. record v { log = log j; made = made j }

loaded_more : (n : ℕ) (made : List ℕ) → (made ++ replicate n 1) ++ 1 ∷ [] ≡ made ++ replicate (n + 1) 1
loaded_more n made = append_assoc made (replicate n 1) (1 ∷ []) ∙ ap (λ (l : List ℕ). made ++ l) (replicate-append-replicate n 1 1)

-- a load more, at which the next place was empty
one_load : (v : View) (places : List Place) (n : ℕ) → with_step (walked_to v places n) 1 ≡ walked_to v places (n + 1)
one_load v places n = let made = loaded_more n v.made in λ j. record v { log = v.log ++ places; made = made j }

-- or filled
one_place : (v : View) (places : List Place) (n : ℕ) (p : Place) → passed (walked_to v places n) 1 p ≡ walked_to v (places ++ p ∷ []) (n + 1)
one_place v places n p = let log = append_assoc v.log places (p ∷ []) in let made = loaded_more n v.made in λ j. record v { log = log j; made = made j }

-- all places are seen, so the holder of the sweep is no further than the log
reached_all : (told : Told) (x w : View) (place found front : ℕ) → front ≡ x.key.sizes.log → length w.log ≡ front → LogLoaded told place x found w
    → (h : Holding) → x.holding ≡ Some h → (h.place ≤ front) × (h.word.limbo ≡ true → h.paid ≡ false → (h.place < front) × ((id : ℕ) × (entry : ℕ) × IsWd w.log h.place id entry))
reached_all told x w place found front is end loaded h has =
    let most = loaded.most h has in let far = most.0 in
    (omega arith, λ limbo unpaid. (let far = most.1 limbo unpaid in let inside : h.place < front = omega arith in (inside, loaded.limbo h has limbo unpaid (omega arith))))

pub reloaded : (told : Told) (v w : View) (places found : ℕ) → places ≡ v.key.sizes.log → 1 ≤ places → v.key.sizes.log ≤ length v.log → LogLoaded told (places - 1) v found w → FrontFound told v places w
reloaded told v w places found is one all loaded =
    let old = loaded.old (omega arith) in let room = loaded.seen.room in
    let same : length w.log ≡ length v.log = ap (λ (z : View). length z.log) old.3 in
    let full : length v.log ≡ v.key.sizes.log = omega arith in
    let start : with_step v 1 ≡ walked_to v [] 1 = ap (λ (z : View). with_step z 1) (not_moved v) ∙ one_load v [] 0 in
    record {
      places = [];
      loads = 1;
      some = omega arith;
      few = omega arith;
      front_is = omega arith;
      view = old.3 ∙ (again_all told v full ∙ (ap (λ (z : View). at_front told z v.key.sizes.log) start ∙ ap (at_front told (walked_to v [] 1)) (sym is)));
      seen = loaded.seen;
      alone = λ lone. refl;
      reached = reached_all told v w (places - 1) found places is (omega arith) loaded;
    }

-- the next place was found empty
pub front_here : (told : Told) (v x w : View) (place found : ℕ) → HasWalked told v x → place ≡ length x.log → length x.log < v.key.sizes.log → LogLoaded told place x found w → found ≡ 0 → FrontFound told v place w
front_here told v x w place found (inl s) at low loaded none =
    let len : length x.log ≡ length v.log + length s.places = ap (λ (z : View). length z.log) s.view ∙ length-append v.log s.places in
    let key : x.key ≡ v.key = ap (λ (z : View). z.key) s.view in
    record {
      places = s.places;
      loads = length s.places + 1;
      some = omega arith;
      few = omega arith;
      front_is = at ∙ len;
      view = loaded.empty at none ∙ ap (λ (z : View). at_front told z place) (ap (λ (z : View). with_step z 1) s.view ∙ one_load v s.places (length s.places));
      seen = subst (λ (k : Key). SeenFits k w.log) key loaded.seen;
      alone = s.alone;
      reached = λ h has. (let here = ap (λ (z : View). z.holding) s.view ∙ has in let r = loaded.reached h here at none in (
        r.0,
        λ limbo unpaid. (
            let inside = r.1 limbo unpaid in let end : length w.log ≡ length x.log = ap (λ (z : View). length z.log) (loaded.empty at none) in (inside, loaded.limbo h here limbo unpaid (omega arith))),
      ));
    }
front_here told v x w place found (inr s) at low loaded none = let all = s.0 in absurd (omega arith)

-- it was found filled
pub walks_on : (told : Told) (v x w : View) (place found : ℕ) → MayWalk told v → HasWalked told v x → place ≡ length x.log → length x.log < v.key.sizes.log → LogLoaded told place x found w → found ≢ 0 → HasWalked told v w
walks_on told v x w place found may (inr s) at low loaded some = let all = s.0 in absurd (omega arith)
walks_on told v x w place found may (inl s) at low loaded some =
    ⊎_elim (λ (t : ((length (x.log ++ p ∷ []) == x.key.sizes.log) ≡ true) × (length (x.log ++ p ∷ []) ≡ x.key.sizes.log)). inr (last t.1))
    (λ (t : ((length (x.log ++ p ∷ []) == x.key.sizes.log) ≡ false) × (length (x.log ++ p ∷ []) ≢ x.key.sizes.log)). inl (more t.1))
    (eqb_tells (length (x.log ++ p ∷ [])) x.key.sizes.log) where
      next : (p : Place) × (found ≡ place_word x.key.carried.base place p) × (w ≡ filled told x p)
      next = loaded.next at some

      p : Place
      p = next.0

      key : x.key ≡ v.key
      key = ap (λ (z : View). z.key) s.view

      len : length x.log ≡ length v.log + length s.places
      len = ap (λ (z : View). length z.log) s.view ∙ length-append v.log s.places

      still : MayWalk told x
      still = subst (MayWalk told) (sym s.view) (may_still told v s.places (length s.places) may)

      lone : v.key.sizes.callers ≡ 1 → s.places ++ p ∷ [] ≡ []
      lone one = absurd (some (loaded.alone (ap (λ (k : Key). k.sizes.callers) key ∙ one) at))

      grown : passed x 1 p ≡ walked_to v (s.places ++ p ∷ []) (length s.places + 1)
      grown = ap (λ (z : View). passed z 1 p) s.view ∙ one_place v s.places (length s.places) p

      longer : length (s.places ++ p ∷ []) ≡ length s.places + 1
      longer = length-append s.places (p ∷ []) ∙ refl

      one_longer : length (x.log ++ p ∷ []) ≡ length x.log + 1
      one_longer = length-append x.log (p ∷ []) ∙ refl

      size : x.key.sizes.log ≡ v.key.sizes.log
      size = ap (λ (k : Key). k.sizes.log) key

      more : length (x.log ++ p ∷ []) ≢ x.key.sizes.log → IsWalking v w
      more other = record {
        places = s.places ++ p ∷ [];
        short = (let a : length x.log + 1 ≢ x.key.sizes.log = λ e. other (one_longer ∙ e) in let b = longer in let c = len in let d = size in omega arith);
        view = next.2 ∙ (filled_more told x p still other ∙ (grown ∙ ap (walked_to v (s.places ++ p ∷ [])) (sym longer)));
        alone = lone;
      }

      last : length (x.log ++ p ∷ []) ≡ x.key.sizes.log → (length w.log ≡ v.key.sizes.log) × FrontFound told v v.key.sizes.log w
      last full = (
        ap (λ (z : View). length z.log) next.2 ∙ (full ∙ size),
        record {
          places = s.places ++ p ∷ [];
          loads = length s.places + 1;
          some = omega arith;
          few = (let b = longer in omega arith);
          front_is = (let a = one_longer in let b = longer in let c = len in let d = size in omega arith);
          view = next.2 ∙ (filled_last told x p still full ∙ (ap (λ (z : View). at_front told z x.key.sizes.log) grown ∙ ap (at_front told (walked_to v (s.places ++ p ∷ []) (length s.places + 1))) size));
          seen = subst (λ (k : Key). SeenFits k w.log) key loaded.seen;
          alone = lone;
          reached = λ h has. reached_all told x w place found v.key.sizes.log (sym size) (ap (λ (z : View). length z.log) next.2 ∙ (full ∙ size)) loaded h (ap (λ (z : View). z.holding) s.view ∙ has);
        },
      )

-- no place is left
pub walked_out : (told : Told) (v x : View) → HasWalked told v x → v.key.sizes.log ≤ length x.log → FrontFound told v v.key.sizes.log x
walked_out told v x (inl s) all = let len : length x.log ≡ length v.log + length s.places = ap (λ (z : View). length z.log) s.view ∙ length-append v.log s.places in let short = s.short in absurd (omega arith)
walked_out told v x (inr s) all = s.1

pub walk_begins : (told : Told) (v : View) → length v.log < v.key.sizes.log → HasWalked told v v
walk_begins told v low = inl (record { places = []; short = omega arith; view = not_moved v; alone = λ one. refl })
