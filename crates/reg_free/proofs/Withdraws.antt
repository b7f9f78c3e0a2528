-- What a withdrawal answers: its row, and the registry that it is served from.
use Rattle.std.proofs.Common.{◌≡◌, ℕ, ◌+◌, ◌<◌, ◌≤◌, ◌⊎◌, inl, ⊎_elim, ◌==◌, Bool, true, false, cond, List, [], ◌∷◌, ◌++◌, length, take, Option, None, Some, IsSome, IsNone, option_map, refl, sym, ap, ◌∙◌, subst, arith, eq-eqb, append-nil}
use Rattle.std.specs.Option.{option_to_list}
use Rattle.std.proofs.lemmas.List.{length-map, length_push}
use Rattle.std.proofs.lemmas.Bool.Decides.{eqb_tells}
use Rattle.atomic_table.specs.Seated.{TableId}
use Rattle.reg_model.specs.Limits.{Limits}
use Rattle.reg_model.specs.Opening.{Opening, IsOpening}
use Rattle.reg_model.specs.Live.{live_at, IsLive}
use Rattle.reg_model.specs.Replies.{Replies}
use Rattle.reg_model.specs.Rows.{update_of, is_accepted}
use Rattle.reg_model.specs.Registry.{registry_at}
use Rattle.reg_model.specs.Desks.{PassView, HasNoSnapshot, row_of, IsAnswer, Answered}
use Rattle.reg_model.specs.declared.call.Call.{Call}
use Rattle.reg_model.specs.declared.call.Call.TheVariants.{Withdraw}
use Rattle.reg_model.specs.declared.reply.Answer.{Answer}
use Rattle.reg_model.specs.declared.reply.FullCause.TheVariants.{Log}
use Rattle.reg_model.specs.declared.reply.Reply.{Reply}
use Rattle.reg_model.specs.declared.reply.Reply.TheVariants.{Absent, Full, Withdrawn}
use Rattle.reg_model.specs.declared.reply.Row.{Row}
use Rattle.reg_model.specs.declared.update.Declared.{Declared}
use Rattle.reg_model.specs.declared.update.Update.{Update}
use Rattle.reg_model.specs.declared.update.Update.TheVariants.{Wd}
use Rattle.reg_rule.specs.declared.view.Account.{Account}
use Rattle.reg_rule.specs.declared.view.Key.{Key}
use Rattle.reg_rule.specs.declared.view.Place.{Place}
use Rattle.reg_rule.specs.declared.view.View.{View}
use Rattle.reg_rule.specs.Log.{place_of}
use Rattle.reg_rule.specs.Helping.{helped_up_to, HasHelped}
use Rattle.reg_rule.specs.Moves.{head_number, head_rows, grown, log_at, full_at, passed, committed, again, pinned, unpinned}
use Rattle.reg_rule.specs.Passes.{pass_view}
use Rattle.reg_rule.specs.declared.told.Told.TheVariants.{Nothing}
use Rattle.reg_commit.specs.Helps.{completed}
use Rattle.reg_query.specs.Snapshots.{IsOpenAt}
use Rattle.reg_free.specs.Fit.{IsFit}
use Rattle.reg_free.specs.declared.withdrawing.Turn.{Turn}
use Rattle.reg_free.specs.declared.withdrawing.Turn.TheVariants as turns
use Rattle.reg_free.specs.inner.Withdrawals.{IsEnding, IsAtFront, FoundFront, HasLooked, IsDeclaredIn, HasTurned, row_more}
use Rattle.reg_free.proofs.Finding.{length_take, declared_so, undeclared_so, none_live}
use Rattle.reg_free.proofs.Ending.{helped_on, again_is, still_at}

-- ---- the row and what serves it

grown_number : (l : List Account) (row : Row) → head_number (grown l (Some row)) ≡ head_number l
grown_number [] row = refl
grown_number (a ∷ others) row = refl

grown_rows : (l : List Account) (row : Row) → 0 < length l → head_rows (grown l (Some row)) ≡ head_rows l ++ row ∷ []
grown_rows [] row one = absurd (omega arith)
grown_rows (a ∷ others) row one = refl

-- the row stands at so many places
module _ (v w : View) (key : Key) (id places : ℕ) (answer : Answer) where
  pub answered_by : v.key ≡ key → 0 < length v.accounts → w.key ≡ v.key → w.snapshot ≡ None → w.accounts ≡ row_more v id places (Some answer.reply) → answer.point ≡ v.key.carried.base + places
      → length v.log ≤ places → places ≤ length w.log → (is_accepted (row_of (pass_view v) (Withdraw id) answer) ≡ true → length v.log < places) → IsAnswer v.key.sizes v.key.carried (Withdraw id) answer
      → Answered key.sizes key.carried (pass_view v) (pass_view w) (Withdraw id) answer
  answered_by own one same closed rows point floor seen accepted served = record {
    adds = record {
      number = ap head_number rows ∙ grown_number v.accounts _;
      row = ap head_rows rows ∙ (grown_rows v.accounts _ one ∙ (λ j. head_rows v.accounts ++ record { session = head_number v.accounts; number = length (head_rows v.accounts); call = Withdraw id; point = sym point j; reply = answer.reply } ∷ []));
      served = subst (λ (k : Key). IsAnswer k.sizes k.carried (Withdraw id) answer) own served;
    };
    floor = omega arith;
    accepted = λ e. (let h = accepted e in let a : v.key.carried.base + length v.log < answer.point = omega arith in a);
    seen = (let base = ap (λ (k : Key). k.carried.base) same in let a : answer.point ≤ w.key.carried.base + length w.log = omega arith in a);
    ended = ap (option_map (λ (n : ℕ). w.key.carried.base + n)) closed;
  }

-- the updates of the first places
length_at : (v : View) (k : ℕ) → k ≤ length v.log → length (log_at v k) ≡ k
length_at v k inside = length-map (take k v.log) (λ (p : Place). p.update) ∙ length_take v.log k inside

module _ (v : View) (k id : ℕ) (inside : k ≤ length v.log) (room : k ≤ v.key.sizes.log) where
  -- a call that makes no update
  served_at : (call : Call) (answer : Answer) → update_of call answer.reply ≡ None → answer.point ≡ v.key.carried.base + k → Replies v.key.sizes v.key.carried (log_at v k) call answer.reply → IsAnswer v.key.sizes v.key.carried call answer
  served_at call answer none point reply = let len = length_at v k inside in record {
    log = log_at v k;
    after = registry_at v.key.sizes v.key.carried (log_at v k);
    serves = record {
      reply = reply;
      update = (let same = sym (append-nil (log_at v k)) ∙ ap (λ (o : Option Update). log_at v k ++ option_to_list o) (sym none) in ap (registry_at v.key.sizes v.key.carried) same);
      point = point ∙ ap (λ (n : ℕ). v.key.carried.base + n) (sym len);
      within = omega arith;
    };
  }

  pub absent_served : (point : ℕ) → point ≡ v.key.carried.base + k → live_at v.key.carried (log_at v k) id ≡ None → IsAnswer v.key.sizes v.key.carried (Withdraw id) (record { point = point; reply = Absent id })
  absent_served point is none = served_at (Withdraw id) _ refl is (refl, subst IsNone (sym none) refl)

  pub full_served : (point : ℕ) (d : Declared) → point ≡ v.key.carried.base + k → k ≡ v.key.sizes.log → live_at v.key.carried (log_at v k) id ≡ Some d → IsAnswer v.key.sizes v.key.carried (Withdraw id) (record { point = point; reply = Full Log })
  full_served point d is full live = served_at (Withdraw id) _ refl is (length_at v k inside ∙ full, subst IsSome (sym live) refl)

  pub withdrawn_served : (point : ℕ) → point ≡ v.key.carried.base + k + 1 → k < v.key.sizes.log → IsLive v.key.carried (log_at v k) id → IsAnswer v.key.sizes v.key.carried (Withdraw id) (record { point = point; reply = Withdrawn id })
  withdrawn_served point is low live = let len = length_at v k inside in let more = length_push (log_at v k) (Wd id) in record {
    log = log_at v k;
    after = registry_at v.key.sizes v.key.carried (log_at v k ++ Wd id ∷ []);
    serves = record { reply = (refl, live); update = refl; point = omega arith; within = omega arith };
  }

-- ---- rows that a later step makes

pub rows_as : (v u : View) (id k : ℕ) (r : Option Reply) → u.accounts ≡ v.accounts → u.key ≡ v.key → row_more u id k r ≡ row_more v id k r
rows_as v u id k r a q = λ j. grown (a j) (option_map (λ reply. record { session = head_number (a j); number = length (head_rows (a j)); call = Withdraw id; point = (q j).carried.base + k; reply = reply }) r)

-- what isn't declared is decided at the front, and what is isn't
module _ (id k : ℕ) (v u : View) (ok : IsOpening u.key.carried) (f : FoundFront id v k u) where
  pub decided_none : IsDeclaredIn u k id None → u.accounts ≡ row_more v id k (Some (Absent id))
  decided_none none = f.accounts ∙ ap (λ (b : Bool). row_more v id k (cond {A = Option Reply} b None (Some (Absent id)))) (undeclared_so u k id ok none)

  pub undecided : (entry : ℕ) → IsDeclaredIn u k id (Some entry) → u.accounts ≡ v.accounts
  undecided entry d = f.accounts ∙ ap (λ (b : Bool). row_more v id k (cond {A = Option Reply} b None (Some (Absent id)))) (declared_so u k id ok d.1.0 entry d.1.1)

-- so by the stamp
module _ (id k : ℕ) (v u x : View) (l : HasLooked id k u x) (accounts : u.accounts ≡ v.accounts) (key : u.key ≡ v.key) where
  pub looked_dead : live_at u.key.carried (log_at u k) id ≡ None → x.accounts ≡ row_more v id k (Some (Absent id))
  looked_dead none = l.accounts ∙ (ap (λ (d : Option Declared). row_more u id k (full_at u k d id)) none ∙ rows_as v u id k (Some (Absent id)) accounts key)

  pub looked_full : (d : Declared) → live_at u.key.carried (log_at u k) id ≡ Some d → k ≡ u.key.sizes.log → x.accounts ≡ row_more v id k (Some (Full Log))
  looked_full d live full = l.accounts ∙ (ap (λ (o : Option Declared). row_more u id k (full_at u k o id)) live
      ∙ (ap (λ (b : Bool). row_more u id k (cond {A = Option Reply} b (Some (Full Log)) None)) (eq-eqb k u.key.sizes.log full) ∙ rows_as v u id k (Some (Full Log)) accounts key))

  pub looked_on : (d : Declared) → live_at u.key.carried (log_at u k) id ≡ Some d → (k == u.key.sizes.log) ≡ false → x.accounts ≡ v.accounts
  looked_on d live room = l.accounts ∙ (ap (λ (o : Option Declared). row_more u id k (full_at u k o id)) live
      ∙ (ap (λ (b : Bool). row_more u id k (cond {A = Option Reply} b (Some (Full Log)) None)) room ∙ accounts))

-- ---- from a later view to an earlier one, where no row was made between

pub answered_from : (limits : Limits) (opening : Opening) (a b c : PassView) (call : Call) (answer : Answer) → b.number ≡ a.number → b.account ≡ a.account → a.seen ≤ b.seen
    → Answered limits opening b c call answer → Answered limits opening a c call answer
answered_from limits opening a b c call answer number account seen is = record {
  adds = record {
    number = is.adds.number ∙ number;
    row = is.adds.row ∙ (λ j. account j ++ record { session = number j; number = length (account j); call = call; point = answer.point; reply = answer.reply } ∷ []);
    served = is.adds.served;
  };
  floor = (let h = is.floor in omega arith);
  accepted = λ e. (let h = is.accepted e in let n : a.seen < answer.point = omega arith in n);
  seen = is.seen;
  ended = is.ended;
}

pub turned_from : (key : Key) (id : ℕ) (v x w : View) (turn : Turn) → x.accounts ≡ v.accounts → x.key ≡ v.key → length v.log ≤ length x.log → HasTurned key id x w turn → HasTurned key id v w turn
turned_from key id v x w (turns.Answered answer) accounts same later t = (
  t.0,
  (let base = ap (λ (k : Key). k.carried.base) same in
      answered_from key.sizes key.carried (pass_view v) (pass_view x) (pass_view w) (Withdraw id) answer (ap head_number accounts) (ap head_rows accounts) (omega arith) t.1),
)
turned_from key id v x w turns.Lost accounts same later t = record {
  key = t.key ∙ same;
  accounts = t.accounts ∙ accounts;
  later = (let l = t.later in omega arith);
  room = subst (λ (k : Key). length w.log ≤ k.sizes.log) same t.room;
}

-- ---- the exchange

module _ (words : TableId × Key) (id k entry : ℕ) (p q : TableId × View) (at : IsAtFront words k p) (low : k < p.1.key.sizes.log) where
  no_hand : p.1.hands ≡ []
  no_hand = ⊎_elim (λ (e : p.1.hands ≡ []). e) (λ (e : length p.1.log ≡ p.1.key.sizes.log). let last = at.last in absurd (omega arith)) at.ready.hand

  pub lost_ready : (r : Place) → q ≡ (words.0, passed p.1 2 r) → IsEnding words q
  lost_ready r is = let view : q.1 ≡ passed p.1 2 r = ap (λ (z : TableId × View). z.1) is in let len : length (p.1.log ++ r ∷ []) ≡ length p.1.log + 1 = length_push p.1.log r in record {
    own = (ap (λ (z : TableId × View). z.0) is, ap (λ (z : View). z.key) view ∙ at.ready.own.1);
    one = subst (λ (z : View). 0 < length z.accounts) (sym view) at.ready.one;
    unheld = ap (λ (z : View). z.holding) view ∙ at.ready.unheld;
    unopened = ap (λ (z : View). z.snapshot) view ∙ at.ready.unopened;
    pinned = subst (λ (z : View). 0 < z.pin) (sym view) at.ready.pinned;
    helped = subst (λ (z : View). (n : ℕ) → z.committed ≡ Some n → (n < length z.log) × HasHelped z (n + 1)) (sym view) (λ n e. (let h = at.ready.helped n e in let l = h.0 in (let a : n < length (p.1.log ++ r ∷ []) = omega arith in a, h.1)));
    hand = inl (ap (λ (z : View). z.hands) view ∙ no_hand);
  }

  module _ (won : q ≡ (words.0, committed p.1 (place_of (Wd id) entry))) (x : TableId × View) (r : Place) (is : x ≡ (words.0, completed q.1 k r)) where
    abbrev entered : View
    entered = committed p.1 (place_of (Wd id) entry)

    q_is : q.1 ≡ entered
    q_is = ap (λ (z : TableId × View). z.1) won

    unheld : q.1.holding ≡ None
    unheld = ap (λ (z : View). z.holding) q_is ∙ at.ready.unheld

    abbrev after : Option ℕ → Option ℕ → List ℕ → View
    after front noted made = record q.1 { front = front; noted = noted; helped = Some k; made = made }

    x_is : x.1 ≡ after (again Nothing q.1).front (completed q.1 k r).noted (completed q.1 k r).made
    x_is = let view : x.1 ≡ completed q.1 k r = ap (λ (z : TableId × View). z.1) is in let same = again_is q.1 unheld in
        view ∙ (λ j. record (same j) { noted = (completed q.1 k r).noted; helped = Some k; made = (completed q.1 k r).made })

    pub entered_turn : (point : ℕ) → point ≡ p.1.key.carried.base + k + 1 → IsLive p.1.key.carried (log_at p.1 k) id → HasTurned words.1 id p.1 x.1 (turns.Answered (record { point = point; reply = Withdrawn id }))
    entered_turn point at_point live =
        let last = at.last in let log : length x.1.log ≡ length p.1.log + 1 = ap (λ (z : View). length z.log) x_is ∙ (ap (λ (z : View). length z.log) q_is ∙ length_push p.1.log (place_of (Wd id) entry)) in (
          subst (λ (o : Option ℕ). helped_up_to o (length x.1.log) ≡ true) (sym (ap (λ (z : View). z.helped) x_is)) (helped_on k (length x.1.log) (omega arith)),
          answered_by p.1 x.1 words.1 id (length p.1.log + 1) (record { point = point; reply = Withdrawn id }) at.ready.own.1 at.ready.one
              (ap (λ (z : View). z.key) x_is ∙ ap (λ (z : View). z.key) q_is)
              (ap (λ (z : View). z.snapshot) x_is ∙ (ap (λ (z : View). z.snapshot) q_is ∙ at.ready.unopened))
              (ap (λ (z : View). z.accounts) x_is ∙ ap (λ (z : View). z.accounts) q_is)
              (omega arith) (omega arith) (omega arith) (λ e. (let a : length p.1.log < length p.1.log + 1 = omega arith in a))
              (withdrawn_served p.1 k id (omega arith) (omega arith) point at_point low live),
        )

-- ---- one turn

not_full : (a b : ℕ) → (a ≡ b → ⊥) → (a == b) ≡ false
not_full a b other = ⊎_elim (λ (t : ((a == b) ≡ true) × (a ≡ b)). absurd (other t.1)) (λ (t : ((a == b) ≡ false) × (a ≡ b → ⊥)). t.0) (eqb_tells a b)

-- the record of the declaration was loaded
module _ (words : TableId × Key) (id k : ℕ) (p u x : TableId × View) (ready : IsEnding words p) (at : IsAtFront words k u) (f : FoundFront id p.1 k u.1) (made : List ℕ) (is : x ≡ (words.0, record u.1 { made = made })) where
  view : x.1 ≡ record u.1 { made = made }
  view = ap (λ (z : TableId × View). z.1) is

  pub still_front : IsAtFront words k x
  still_front = still_at words k u x u.1.accounts u.1.found u.1.met made at (ap (λ (z : TableId × View). z.0) is, ap (λ (z : View). z.key) view ∙ at.ready.own.1) at.ready.one view

  pub declared_still : (o : Option ℕ) → IsDeclaredIn u.1 k id o → IsDeclaredIn x.1 k id o
  declared_still o d = subst (λ (z : View). IsDeclaredIn z k id o) (sym view) (as_it_was o d) where
    as_it_was : (o : Option ℕ) → IsDeclaredIn u.1 k id o → IsDeclaredIn (record u.1 { made = made }) k id o
    as_it_was None d = d
    as_it_was (Some entry) d = d

  key_is : x.1.key ≡ p.1.key
  key_is = ap (λ (z : View). z.key) view ∙ f.key

  complete_here : HasHelped x.1 (length x.1.log)
  complete_here = subst (HasHelped x.1) (sym still_front.last) still_front.complete

  -- what this view has served is served to the one before
  module _ (w : View) (reply : Reply) (point : ℕ) (here : point ≡ p.1.key.carried.base + k) (refuses : is_accepted (row_of (pass_view p.1) (Withdraw id) (record { point = point; reply = reply })) ≡ false)
      (rows : w.accounts ≡ row_more p.1 id k (Some reply)) (same : w.key ≡ p.1.key) (closed : w.snapshot ≡ None) (last : length w.log ≡ k)
      (served : IsAnswer x.1.key.sizes x.1.key.carried (Withdraw id) (record { point = point; reply = reply })) where
    pub answered_there : Answered words.1.sizes words.1.carried (pass_view p.1) (pass_view w) (Withdraw id) (record { point = point; reply = reply })
    answered_there = answered_by p.1 w words.1 id k (record { point = point; reply = reply }) ready.own.1 ready.one same closed rows here f.later (omega arith) (λ e. absurd (cc))
        (subst (λ (z : Key). IsAnswer z.sizes z.carried (Withdraw id) (record { point = point; reply = reply })) key_is served)

  pub inside : k ≤ length x.1.log
  inside = let l = still_front.last in omega arith

  pub within : k ≤ x.1.key.sizes.log
  within = let l = still_front.last in let r = still_front.seen.room in omega arith

  pub point_same : (point : ℕ) → point ≡ p.1.key.carried.base + k → point ≡ x.1.key.carried.base + k
  point_same point here = let b = ap (λ (z : Key). z.carried.base) key_is in omega arith

  -- the id isn't declared
  pub undeclared_turn : (point : ℕ) → point ≡ p.1.key.carried.base + k → IsDeclaredIn u.1 k id None → HasTurned words.1 id p.1 x.1 (turns.Answered (record { point = point; reply = Absent id }))
  undeclared_turn point here none = (
    complete_here,
    answered_there x.1 (Absent id) point here refl (ap (λ (z : View). z.accounts) view ∙ decided_none id k p.1 u.1 at.opening f none) key_is still_front.ready.unopened still_front.last
        (absent_served x.1 k id inside within point (point_same point here) (none_live x.1 k id still_front.opening (declared_still None none))),
  )

  module _ (entry : ℕ) (d : IsDeclaredIn u.1 k id (Some entry)) (w : TableId × View) (there : IsAtFront words k w) (l : HasLooked id k x.1 w.1) where
    accounts_on : x.1.accounts ≡ p.1.accounts
    accounts_on = ap (λ (z : View). z.accounts) view ∙ undecided id k p.1 u.1 at.opening f entry d

    complete_there : HasHelped w.1 (length w.1.log)
    complete_there = subst (HasHelped w.1) (sym there.last) there.complete

    -- it isn't live
    pub dead_turn : (point : ℕ) → point ≡ p.1.key.carried.base + k → live_at x.1.key.carried (log_at x.1 k) id ≡ None → HasTurned words.1 id p.1 w.1 (turns.Answered (record { point = point; reply = Absent id }))
    dead_turn point here none = (
      complete_there,
      answered_there w.1 (Absent id) point here refl (looked_dead id k p.1 x.1 w.1 l accounts_on key_is none) (l.key ∙ key_is) there.ready.unopened there.last
          (absent_served x.1 k id inside within point (point_same point here) none),
    )

    -- the log is full
    pub full_turn : (point : ℕ) (b : Declared) → point ≡ p.1.key.carried.base + k → live_at x.1.key.carried (log_at x.1 k) id ≡ Some b → k ≡ x.1.key.sizes.log → HasTurned words.1 id p.1 w.1 (turns.Answered (record { point = point; reply = Full Log }))
    full_turn point b here live full = (
      complete_there,
      answered_there w.1 (Full Log) point here refl (looked_full id k p.1 x.1 w.1 l accounts_on key_is b live full) (l.key ∙ key_is) there.ready.unopened there.last
          (full_served x.1 k id inside within point b (point_same point here) full live),
    )

    -- the exchange was tried
    pub tried_turn : (b : Declared) (y : View) (turn : Turn) → live_at x.1.key.carried (log_at x.1 k) id ≡ Some b → (k ≡ x.1.key.sizes.log → ⊥) → HasTurned words.1 id w.1 y turn → HasTurned words.1 id p.1 y turn
    tried_turn b y turn live room t = turned_from words.1 id p.1 w.1 y turn (looked_on id k p.1 x.1 w.1 l accounts_on key_is b live (not_full k x.1.key.sizes.log room)) (l.key ∙ key_is) (let e = there.last in let g = f.later in omega arith) t

-- ---- the whole call

pub unopened : (v : View) → HasNoSnapshot (pass_view v) → v.snapshot ≡ None
unopened v e = by v.snapshot e where
  by : (o : Option ℕ) → option_map (λ (n : ℕ). v.key.carried.base + n) o ≡ None → o ≡ None
  by None e = refl
  by (Some n) e = absurd cc

pub begins : (words : TableId × Key) (p q : TableId × View) → IsFit words p → HasNoSnapshot (pass_view p.1) → q ≡ (words.0, pinned p.1) → IsEnding words q
begins words p q fit free is = let view : q.1 ≡ pinned p.1 = ap (λ (z : TableId × View). z.1) is in record {
  own = (ap (λ (z : TableId × View). z.0) is, ap (λ (z : View). z.key) view ∙ fit.own.1);
  one = subst (λ (z : View). 0 < length z.accounts) (sym view) fit.one;
  unheld = ap (λ (z : View). z.holding) view ∙ fit.unheld;
  unopened = ap (λ (z : View). z.snapshot) view ∙ unopened p.1 free;
  pinned = (let e = ap (λ (z : View). z.pin) view in omega arith);
  helped = subst (λ (z : View). (n : ℕ) → z.committed ≡ Some n → (n < length z.log) × HasHelped z (n + 1)) (sym view) fit.helped;
  hand = subst (λ (z : View). (z.hands ≡ []) ⊎ (length z.log ≡ z.key.sizes.log)) (sym view) fit.hand;
}

pub ends : (words : TableId × Key) (q x : TableId × View) → IsEnding words q → HasHelped q.1 (length q.1.log) → x ≡ (words.0, unpinned Nothing q.1) → IsFit words x
ends words q x r complete is = let view : x.1 ≡ unpinned Nothing q.1 = ap (λ (z : TableId × View). z.1) is in let closed = ap (λ (z : View). z.snapshot) view ∙ r.unopened in record {
  own = (ap (λ (z : TableId × View). z.0) is, ap (λ (z : View). z.key) view ∙ r.own.1);
  one = subst (λ (z : View). 0 < length z.accounts) (sym view) r.one;
  unheld = ap (λ (z : View). z.holding) view ∙ r.unheld;
  unpinned = λ e. ap (λ (z : View). z.pin) view;
  opens = λ k e. none_open k (sym closed ∙ e);
  helped = subst (λ (z : View). (n : ℕ) → z.committed ≡ Some n → (n < length z.log) × HasHelped z (n + 1)) (sym view) r.helped;
  alone = λ lone. inl (subst (λ (z : View). HasHelped z (length z.log)) (sym view) complete);
  hand = subst (λ (z : View). (z.hands ≡ []) ⊎ (length z.log ≡ z.key.sizes.log)) (sym view) r.hand;
} where
  none_open : (k : ℕ) → None ≡ Some k → IsOpenAt x.1 k
  none_open k e = absurd cc
