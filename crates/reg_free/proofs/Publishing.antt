-- A declaration goes into the log, exchange by exchange.
use Rattle.std.proofs.Common.{inl, drop, is_err, Ok, Err, lt-ltb, Result, IfOk, IfErr, replicate, ◌≡◌, ◌≢◌, ℕ, ◌+◌, ◌<◌, ◌≤◌, inr, Bool, true, false, ◌==◌, nat_lt, cond, if◌then◌else◌, is_some, List, [], ◌∷◌, ◌++◌, length, length-append, Option, None, Some, refl, sym, ap, ◌∙◌, subst, arith}
use Rattle.std.specs.Option.{option_to_list, option_map}
use Rattle.std.proofs.lemmas.Bool.{leb-true, eqb-true, le-leb, ne_eqb, eq-eqb}
use Rattle.std.proofs.lemmas.List.{length-map}
use Rattle.atomic_table.specs.Seated.{TableId}
use Rattle.iscc_header.specs.declared.unit.Unit64.{Unit64}
use Rattle.reg_model.specs.declared.update.Update.TheVariants.{Decl}
use Rattle.reg_model.specs.Replies.{Replies}
use Rattle.reg_model.specs.Desks.{row_of, IsAnswer, Answered}
use Rattle.reg_model.specs.Rows.{is_accepted, update_of}
use Rattle.reg_model.specs.declared.call.Call.{Call}
use Rattle.reg_model.specs.declared.call.Call.TheVariants.{Declare}
use Rattle.reg_model.specs.declared.reply.Answer.{Answer}
use Rattle.reg_model.specs.declared.reply.Reply.{Reply}
use Rattle.reg_model.specs.declared.reply.Reply.TheVariants.{Id, Full}
use Rattle.reg_model.specs.declared.reply.FullCause.TheVariants.{Entries, Log}
use Rattle.reg_model.specs.declared.reply.Row.{Row}
use Rattle.reg_model.specs.declared.update.Update.{Update}
use Rattle.reg_rule.specs.declared.view.Holding.{Holding}
use Rattle.reg_rule.specs.declared.told.Told.TheVariants.{Nothing, Row as RowOf}
use Rattle.reg_rule.specs.declared.view.Account.{Account}
use Rattle.reg_rule.specs.declared.view.Key.{Key}
use Rattle.reg_rule.specs.declared.view.Place.{Place}
use Rattle.reg_rule.specs.declared.view.View.{View}
use Rattle.reg_rule.specs.Log.{place_of, At, updates}
use Rattle.reg_rule.specs.Helping.{helped_up_to}
use Rattle.reg_rule.specs.Moves.{committed, passed, again, at_front, at_seen, at_seen_accounts, either, with_step, did, grown, head_number, head_rows, marked_at, next_row, point_or, unpinned}
use Rattle.reg_rule.specs.Passes.{pass_view, point_of}
use Rattle.reg_rule.specs.Steps.{SeenFits, IsServed, RowsServed}
use Rattle.reg_commit.specs.Helps.{completed, noted_by, help_steps}
use Rattle.reg_commit.specs.Fronts.{FrontFound}
use Rattle.reg_free.specs.inner.Between.{IsLinked}
use Rattle.reg_free.specs.inner.Publications.{HasLost, HasHelpedBelow, IsPublished}

-- ---- rows

at_last : {A : Type 0} (l : List A) (x : A) → At (l ++ x ∷ []) (length l) x
at_last [] x = refl
at_last (y ∷ l) x = at_last l x

rows_grown : (accounts : List Account) (row : Row) → 0 < length accounts → head_rows (grown accounts (Some row)) ≡ head_rows accounts ++ row ∷ []
rows_grown [] row one = absurd (omega (arith, one))
rows_grown (a ∷ others) row one = refl

number_grown : (accounts : List Account) (row : Row) → head_number (grown accounts (Some row)) ≡ head_number accounts
number_grown [] row = refl
number_grown (a ∷ others) row = refl

pub length_grown : (accounts : List Account) (row : Row) → length (grown accounts (Some row)) ≡ length accounts
length_grown [] row = refl
length_grown (a ∷ others) row = refl

last_served : (v : View) (accounts : List Account) (row : Row) → 0 < length accounts → v.accounts ≡ grown accounts (Some row) → RowsServed v → IsServed v.key row
last_served v accounts row one is served = served (length (head_rows accounts)) row (subst (λ (l : List Row). At l (length (head_rows accounts)) row) (sym (ap head_rows is ∙ rows_grown accounts row one)) (at_last (head_rows accounts) row))

with_update : (log : List Update) (o : Option Update) → length (log ++ option_to_list o) ≡ length log + (if is_some o then 1 else 0)
with_update log None = length-append log [] ∙ refl
with_update log (Some u) = length-append log (u ∷ []) ∙ refl

answer_served : (key : Key) (row : Row) (answer : Answer) → row.point ≡ answer.point → row.reply ≡ answer.reply → IsServed key row → IsAnswer key.sizes key.carried row.call answer
answer_served key row answer point reply s = record {
  log = s.log;
  after = record { limits = key.sizes; opening = key.carried; log = s.log ++ option_to_list (update_of row.call answer.reply) };
  serves = (let longer = with_update s.log (update_of row.call answer.reply) in let at = s.point in let within = s.within in
      let same : (if◌then◌else◌ {A = ℕ} (is_accepted row) 1 0) ≡ (if◌then◌else◌ {A = ℕ} (is_some (update_of row.call answer.reply)) 1 0) = ap (λ (r : Reply). if◌then◌else◌ {A = ℕ} (is_some (update_of row.call r)) 1 0) reply in
      record {
        reply = subst (λ (r : Reply). Replies key.sizes key.carried s.log row.call r) reply s.reply;
        update = refl;
        point = omega arith;
        within = omega arith;
      });
}

-- the row of an answer entered the account
pub adds_answer : (v w : View) (call : Call) (answer : Answer) (places : ℕ) → 0 < length v.accounts → w.key ≡ v.key → w.snapshot ≡ None → w.accounts ≡ grown v.accounts (Some (row_of (pass_view v) call answer))
    → answer.point ≡ v.key.carried.base + places → length v.log + (if is_accepted (row_of (pass_view v) call answer) then 1 else 0) ≤ places → places ≤ length w.log
    → IsServed v.key (row_of (pass_view v) call answer) → Answered v.key.sizes v.key.carried (pass_view v) (pass_view w) call answer
adds_answer v w call answer places one key unopened is point above seen served =
    let base = ap (λ (k : Key). k.carried.base) key in
    record {
      adds = record {
        number = ap head_number is ∙ number_grown v.accounts (row_of (pass_view v) call answer);
        row = ap head_rows is ∙ rows_grown v.accounts (row_of (pass_view v) call answer) one;
        served = answer_served v.key (row_of (pass_view v) call answer) answer refl refl served;
      };
      floor = omega arith;
      accepted = λ yes_so. (let more : length v.log + 1 ≤ places = subst (λ (b : Bool). length v.log + (if b then 1 else 0) ≤ places) yes_so above in omega arith);
      seen = omega arith;
      ended = ap (option_map (point_of w)) unopened;
    }

-- ---- helping below the front

none_to_help : (o : Option ℕ) → helped_up_to o 0 ≡ true
none_to_help None = refl
none_to_help (Some n) = le-leb 0 (n + 1) (omega arith)

-- there is no place below the front
pub nothing_below : (v : View) (place : ℕ) → place ≡ 0 → HasHelpedBelow v place v
nothing_below v place none = record {
  noted = v.noted;
  helped = v.helped;
  made = v.made;
  view = refl;
  has = ap (helped_up_to v.helped) none ∙ none_to_help v.helped;
}

-- ---- one exchange

same_cond : {A : Type 0} (b : Bool) (x : A) → cond b x x ≡ x
same_cond true x = refl
same_cond false x = refl

pub unmarked : (h : Option Holding) (k : ℕ) → h ≡ None → marked_at h k ≡ h
unmarked None k e = refl
unmarked (Some h) k e = absurd (cc)

quiet : (u : View) (s : Option ℕ) → at_seen_accounts Nothing u s ≡ u.accounts
quiet u None = refl
quiet u (Some k) = refl

-- a place that was seen is loaded again: nothing is told, and the front is found or not
again_is : (v : View) → v.holding ≡ None → again Nothing v ≡ record v { front = (again Nothing v).front; made = did v 1 }
again_is v unheld = by (length v.log == v.key.sizes.log) where
  u : View
  u = with_step v 1

  by : (b : Bool) → either b (at_front Nothing u v.key.sizes.log) (at_seen Nothing u u.snapshot) ≡ record v { front = (either b (at_front Nothing u v.key.sizes.log) (at_seen Nothing u u.snapshot)).front; made = did v 1 }
  by true = let held = unmarked v.holding v.key.sizes.log unheld in λ j. record v { front = cond (nat_lt 0 v.pin) (Some v.key.sizes.log) v.front; holding = held j; made = did v 1 }
  by false = let accounts = quiet u v.snapshot in λ j. record v { accounts = accounts j; made = did v 1 }

grown_if : (accounts : List Account) (row_for : Reply → Row) (b : Bool) (r : Reply) → b ≡ false → grown accounts (option_map row_for (cond b (Some r) None)) ≡ accounts
grown_if accounts row_for false r e = refl
grown_if accounts row_for true r e = absurd (cc)

grown_then : (accounts : List Account) (row_for : Reply → Row) (b : Bool) (r : Reply) → b ≡ true → grown accounts (option_map row_for (cond b (Some r) None)) ≡ grown accounts (Some (row_for r))
grown_then accounts row_for true r e = refl
grown_then accounts row_for false r e = absurd (cc)

-- what the front leaves
module _ (v w : View) (unit : Unit64) (place : ℕ) (f : FrontFound (RowOf (Declare unit)) v place w) (unopened : v.snapshot ≡ None) where
  seen_log : w.log ≡ v.log ++ f.places
  seen_log = ap (λ (z : View). z.log) f.view

  pub seen_length : length w.log ≡ place
  seen_length = ap length seen_log ∙ (length-append v.log f.places ∙ sym f.front_is)

  at_place : w.accounts ≡ grown v.accounts (option_map (next_row v (Declare unit) place) (cond (place == v.key.sizes.log) (Some (Full Log)) None))
  at_place = ap (λ (z : View). z.accounts) f.view ∙ ap (λ (s : Option ℕ). grown v.accounts (option_map (next_row v (Declare unit) (point_or s place)) (cond (point_or s place == v.key.sizes.log) (Some (Full Log)) None))) unopened

  -- no place is left: the row is made
  pub full_row : place ≡ v.key.sizes.log → w.accounts ≡ grown v.accounts (Some (next_row v (Declare unit) place (Full Log)))
  full_row all = at_place ∙ grown_then v.accounts (next_row v (Declare unit) place) (place == v.key.sizes.log) (Full Log) (eq-eqb _ _ all)

  pub no_row : place ≢ v.key.sizes.log → w.accounts ≡ v.accounts
  no_row some = at_place ∙ grown_if v.accounts (next_row v (Declare unit) place) (place == v.key.sizes.log) (Full Log) (ne_eqb _ _ some)

  full_served : place ≡ v.key.sizes.log → IsServed v.key (next_row v (Declare unit) place (Full Log))
  full_served all = let long = length-map w.log (λ (p : Place). p.update) in let len = seen_length in record {
    log = updates w.log;
    within = omega arith;
    point = omega arith;
    reply = long ∙ (len ∙ all);
  }

  -- the answer of a full log
  pub full_answered : place ≡ v.key.sizes.log → 0 < length v.accounts → (x : View) → x.key ≡ v.key → x.snapshot ≡ None → x.accounts ≡ w.accounts → x.log ≡ w.log
      → Answered v.key.sizes v.key.carried (pass_view v) (pass_view x) (Declare unit) (record { point = v.key.carried.base + place; reply = Full Log })
  full_answered all one x key free accounts log =
      adds_answer v x (Declare unit) (record { point = v.key.carried.base + place; reply = Full Log }) place one key free (accounts ∙ full_row all) refl (let a = f.front_is in omega arith) (let a = ap length log in let b = seen_length in omega arith) (full_served all)

-- what is said of an error, and of a value
pub of_error : {A E : Type 0} (r : Result A E) (P : E → Type 0) → is_err r ≡ true → IfErr r P → (e : E) × P e
of_error (Ok a) P is h = absurd (cc)
of_error (Err e) P is h = (e, h)

pub of_value : {A E : Type 0} (r : Result A E) (P : A → Type 0) → is_err r ≡ false → IfOk r P → (a : A) × P a
of_value (Ok a) P is h = (a, h)
of_value (Err e) P is h = absurd (cc)

pub none_some : {A : Type 0} (o : Option A) (x : A) → o ≡ None → o ≡ Some x → ⊥
none_some o x a b = cc

-- all places are filled
pub full_published : (words : TableId × Key) (unit : Unit64) (entry place : ℕ) (old new : TableId × View) (w : View) (answer : Answer) → IsLinked words unit entry old → FrontFound (RowOf (Declare unit)) old.1 place w → place ≡ words.1.sizes.log → new ≡ (words.0, unpinned Nothing w)
    → answer ≡ record { point = words.1.carried.base + words.1.sizes.log; reply = Full Log } → IsPublished words unit old new answer
full_published words unit entry place old new w answer linked f filled unpins is = record {
  answered = subst (λ (k : Key). Answered k.sizes k.carried (pass_view v) (pass_view new.1) (Declare unit) answer) own
      (subst (λ (a : Answer). Answered v.key.sizes v.key.carried (pass_view v) (pass_view new.1) (Declare unit) a) (sym is_here)
      (full_answered v w unit place f linked.unopened all linked.one new.1 key unopened (ap (λ (z : View). z.accounts) at) (ap (λ (z : View). z.log) at)));
  fit = record {
    own = (ap (λ (p : TableId × View). p.0) unpins, key ∙ own);
    one = (let a = linked.one in let b = ap length (ap (λ (z : View). z.accounts) at ∙ full_row v w unit place f linked.unopened all) in let c = length_grown v.accounts (next_row v (Declare unit) place (Full Log)) in omega arith);
    unheld = ap (λ (z : View). z.holding) at ∙ (ap (λ (z : View). z.holding) f.view ∙ (unmarked v.holding place linked.unheld ∙ linked.unheld));
    unpinned = λ free. ap (λ (z : View). z.pin) at;
    opens = λ k open_at. absurd (none_some new.1.snapshot k unopened open_at);
    helped = λ n last. (let h = linked.helped n (sym (ap (λ (z : View). z.committed) at ∙ ap (λ (z : View). z.committed) f.view) ∙ last) in
        ((let a = h.0 in let b = longer in let c = f.front_is in omega arith), ap (λ (o : Option ℕ). helped_up_to o (n + 1)) (ap (λ (z : View). z.helped) at ∙ ap (λ (z : View). z.helped) f.view) ∙ h.1));
    alone = λ one. inr (longer ∙ (all ∙ ap (λ (k : Key). k.sizes.log) (sym key)));
    hand = inr (longer ∙ (all ∙ ap (λ (k : Key). k.sizes.log) (sym key)));
  };
  other = λ given bad. entries_apart given (sym (ap (λ (a : Answer). a.reply) is) ∙ bad);
} where
  v : View
  v = old.1

  own : v.key ≡ words.1
  own = linked.own.1

  at : new.1 ≡ unpinned Nothing w
  at = ap (λ (p : TableId × View). p.1) unpins

  key : new.1.key ≡ v.key
  key = ap (λ (z : View). z.key) at ∙ ap (λ (z : View). z.key) f.view

  unopened : new.1.snapshot ≡ None
  unopened = ap (λ (z : View). z.snapshot) at ∙ (ap (λ (z : View). z.snapshot) f.view ∙ linked.unopened)

  all : place ≡ v.key.sizes.log
  all = filled ∙ ap (λ (k : Key). k.sizes.log) (sym own)

  longer : length new.1.log ≡ place
  longer = ap (λ (z : View). length z.log) at ∙ seen_length v w unit place f linked.unopened

  point : words.1.carried.base + words.1.sizes.log ≡ v.key.carried.base + place
  point = let a = ap (λ (k : Key). k.carried.base) own in let b = filled in omega arith

  is_here : answer ≡ record { point = v.key.carried.base + place; reply = Full Log }
  is_here = is ∙ (λ j. record { point = point j; reply = Full Log })

  entries_apart : (given : ℕ) → Full Log ≡ Full (Entries given) → ⊥
  entries_apart given e = cc

-- ---- the exchange

helped_less : (o : Option ℕ) (j k : ℕ) → j ≤ k → helped_up_to o k ≡ true → helped_up_to o j ≡ true
helped_less None j k low is = eq-eqb j 0 (let e = eqb-true k 0 is in omega arith)
helped_less (Some n) j k low is = le-leb j (n + 1) (let e = leb-true k (n + 1) is in omega arith)

-- before the exchange: the front is known, all below it is complete, and nothing else has changed
pub record IsReady (v w : View) (place : ℕ) : Type 0 where
  pub places : List Place
  pub noted : Option ℕ
  pub helped : Option ℕ
  pub made : List ℕ
  pub view : w ≡ record v { log = v.log ++ places; front = Some place; noted = noted; helped = helped; made = made }
  pub at : length (v.log ++ places) ≡ place
  pub has : helped_up_to helped place ≡ true

pub ready : (v w x : View) (unit : Unit64) (place : ℕ) → FrontFound (RowOf (Declare unit)) v place w → v.snapshot ≡ None → v.holding ≡ None → 0 < v.pin → place ≢ v.key.sizes.log → HasHelpedBelow w place x → IsReady v x place
ready v w x unit place f unopened unheld pinned some h = record {
  places = f.places;
  noted = h.noted;
  helped = h.helped;
  made = h.made;
  view = h.view ∙ ap (λ (z : View). record z { noted = h.noted; helped = h.helped; made = h.made }) whole;
  at = length-append v.log f.places ∙ sym f.front_is;
  has = ap (λ (z : View). helped_up_to z.helped place) (sym h.view) ∙ h.has;
} where
  whole : w ≡ record v { log = v.log ++ f.places; front = Some place; made = v.made ++ replicate f.loads 1 }
  whole =
      let accounts = sym (ap (λ (z : View). z.accounts) f.view) ∙ no_row v w unit place f unopened some in
      let front = ap (λ (b : Bool). cond b (Some place) v.front) (lt-ltb 0 v.pin pinned) in
      let holding = unmarked v.holding place unheld in
      f.view ∙ (λ j. record v { log = v.log ++ f.places; accounts = accounts j; front = front j; holding = holding j; made = v.made ++ replicate f.loads 1 })

-- another record took the place
pub lost_place : (words : TableId × Key) (unit : Unit64) (entry place : ℕ) (old new : TableId × View) (x : View) (q : Place) → IsLinked words unit entry old → IsReady old.1 x place → SeenFits x.key new.1.log → new ≡ (words.0, passed x 2 q) → HasLost words unit entry old new
lost_place words unit entry place old new x q linked r seen_fits told = record {
  linked = record {
    own = (ap (λ (p : TableId × View). p.0) told, key ∙ linked.own.1);
    one = (let a = linked.one in let b = ap length accounts in omega arith);
    unheld = ap (λ (z : View). z.holding) at ∙ linked.unheld;
    unopened = ap (λ (z : View). z.snapshot) at ∙ linked.unopened;
    pinned = (let a = linked.pinned in let b = ap (λ (z : View). z.pin) at in omega arith);
    helped = λ n last. (let h = linked.helped n (sym (ap (λ (z : View). z.committed) at) ∙ last) in
        ((let a = h.0 in let b = longer in omega arith), ap (λ (o : Option ℕ). helped_up_to o (n + 1)) (ap (λ (z : View). z.helped) at) ∙ helped_less r.helped (n + 1) place (let a = h.0 in let b = r.at in let c = length-append v.log r.places in omega arith) r.has));
    inside = (let a = linked.inside in let b = ap (λ (k : Key). k.entries) key in omega arith);
    hand = (let h = linked.hand in (h.0, ap (λ (z : View). z.hands) at ∙ h.1, h.2, h.3, h.4, h.5));
    seen = subst (λ (k : Key). SeenFits k new.1.log) (ap (λ (z : View). z.key) r.view ∙ sym key) seen_fits;
  };
  key = key;
  accounts = accounts;
  seen = longer;
} where
  v : View
  v = old.1

  at : new.1 ≡ passed (record v { log = v.log ++ r.places; front = Some place; noted = r.noted; helped = r.helped; made = r.made }) 2 q
  at = ap (λ (p : TableId × View). p.1) told ∙ ap (λ (z : View). passed z 2 q) r.view

  key : new.1.key ≡ v.key
  key = ap (λ (z : View). z.key) at

  accounts : new.1.accounts ≡ v.accounts
  accounts = ap (λ (z : View). z.accounts) at

  longer : length v.log < length new.1.log
  longer = let a = ap (λ (z : View). length z.log) at in let b = length-append (v.log ++ r.places) (q ∷ []) in let c = length-append v.log r.places in omega arith

-- the record took the place, and was completed
pub record_placed : (words : TableId × Key) (unit : Unit64) (entry place base : ℕ) (old won done new : TableId × View) (x : View) (q : Place) → IsLinked words unit entry old → IsReady old.1 x place → RowsServed won.1 → base ≡ words.1.carried.base
    → won ≡ (words.0, committed x (place_of (Decl unit) entry)) → done ≡ (words.0, completed won.1 place q) → new ≡ (words.0, unpinned Nothing done.1) → IsPublished words unit old new (record { point = base + place + 1; reply = Id (base + place) })
record_placed words unit entry place base old won done new x q linked r rows base_is won_is done_is unpins = record {
  answered = subst (λ (k : Key). Answered k.sizes k.carried (pass_view v) (pass_view new.1) (Declare unit) answer) own
      (adds_answer v new.1 (Declare unit) answer (place + 1) linked.one key unopened accounts
      (let a = here in omega arith) (let a = r.at in let b = length-append v.log r.places in omega arith) (omega (arith, longer))
      (subst (λ (k : Key). IsServed k (row_of (pass_view v) (Declare unit) answer)) won_key (last_served won.1 v.accounts (row_of (pass_view v) (Declare unit) answer) linked.one won_accounts rows)));
  fit = record {
    own = (ap (λ (p : TableId × View). p.0) unpins, key ∙ own);
    one = (let a = linked.one in let b = ap length accounts in let c = length_grown v.accounts (row_of (pass_view v) (Declare unit) answer) in omega arith);
    unheld = ap (λ (z : View). z.holding) new_is ∙ held;
    unpinned = λ free. ap (λ (z : View). z.pin) new_is;
    opens = λ k open_at. absurd (none_some new.1.snapshot k unopened open_at);
    helped = λ n last. (let same : Some place ≡ Some n = sym last_is ∙ last in let at : place ≡ n = some_is place n same in
        ((omega (arith, longer)), ap (λ (o : Option ℕ). helped_up_to o (n + 1)) (ap (λ (z : View). z.helped) new_is) ∙ le-leb (n + 1) (place + 1) (omega arith)));
    alone = λ one. inl (ap (λ (o : Option ℕ). helped_up_to o (length new.1.log)) (ap (λ (z : View). z.helped) new_is) ∙ le-leb (length new.1.log) (place + 1) (omega (arith, longer)));
    hand = inl (ap (λ (z : View). z.hands) new_is ∙ (ap (λ (z : View). z.hands) won_view ∙ ap (drop 1) linked.hand.1));
  };
  other = λ given bad. id_apart given bad;
} where
  v : View
  v = old.1

  answer : Answer
  answer = record { point = base + place + 1; reply = Id (base + place) }

  own : v.key ≡ words.1
  own = linked.own.1

  here : base ≡ v.key.carried.base
  here = base_is ∙ ap (λ (k : Key). k.carried.base) (sym own)

  won_view : won.1 ≡ committed (record v { log = v.log ++ r.places; front = Some place; noted = r.noted; helped = r.helped; made = r.made }) (place_of (Decl unit) entry)
  won_view = ap (λ (p : TableId × View). p.1) won_is ∙ ap (λ (z : View). committed z (place_of (Decl unit) entry)) r.view

  held : won.1.holding ≡ None
  held = ap (λ (z : View). z.holding) won_view ∙ linked.unheld

  new_is : new.1 ≡ unpinned Nothing (record (won.1) { front = (again Nothing won.1).front; noted = noted_by q.update place won.1.noted; helped = Some place; made = did won.1 1 ++ help_steps won.1.key.carried.base q.update })
  new_is = ap (λ (p : TableId × View). p.1) unpins ∙ (ap (λ (p : TableId × View). unpinned Nothing p.1) done_is
      ∙ ap (λ (z : View). unpinned Nothing (record z { noted = noted_by q.update place won.1.noted; helped = Some place; made = z.made ++ help_steps won.1.key.carried.base q.update })) (again_is won.1 held))

  won_key : won.1.key ≡ v.key
  won_key = ap (λ (z : View). z.key) won_view

  key : new.1.key ≡ v.key
  key = ap (λ (z : View). z.key) new_is ∙ won_key

  unopened : new.1.snapshot ≡ None
  unopened = ap (λ (z : View). z.snapshot) new_is ∙ (ap (λ (z : View). z.snapshot) won_view ∙ linked.unopened)

  row_is : next_row v (Declare unit) (length (v.log ++ r.places) + 1) (Id (v.key.carried.base + length (v.log ++ r.places))) ≡ row_of (pass_view v) (Declare unit) answer
  row_is =
      let point : v.key.carried.base + (length (v.log ++ r.places) + 1) ≡ base + place + 1 = (let a = r.at in let b = here in omega arith) in
      let id : v.key.carried.base + length (v.log ++ r.places) ≡ base + place = (let a = r.at in let b = here in omega arith) in
      λ j. record { session = head_number v.accounts; number = length (head_rows v.accounts); call = Declare unit; point = point j; reply = Id (id j) }

  won_accounts : won.1.accounts ≡ grown v.accounts (Some (row_of (pass_view v) (Declare unit) answer))
  won_accounts = ap (λ (z : View). z.accounts) won_view ∙ ap (λ (row : Row). grown v.accounts (Some row)) row_is

  accounts : new.1.accounts ≡ grown v.accounts (Some (row_of (pass_view v) (Declare unit) answer))
  accounts = ap (λ (z : View). z.accounts) new_is ∙ won_accounts

  longer : length new.1.log ≡ place + 1
  longer = ap (λ (z : View). length z.log) new_is ∙ (ap (λ (z : View). length z.log) won_view ∙ (length-append (v.log ++ r.places) (place_of (Decl unit) entry ∷ []) ∙ ap (λ (n : ℕ). n + 1) r.at))

  last_is : new.1.committed ≡ Some place
  last_is = ap (λ (z : View). z.committed) new_is ∙ (ap (λ (z : View). z.committed) won_view ∙ ap Some r.at)

  some_is : (a b : ℕ) → Some a ≡ Some b → a ≡ b
  some_is a b e = cc

  id_apart : (given : ℕ) → Id (base + place) ≡ Full (Entries given) → ⊥
  id_apart given e = cc
