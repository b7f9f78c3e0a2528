-- Calls that are answered at a snapshot of their own: it is opened, asked and closed.
use Rattle.std.proofs.Common.{◌≡◌, ℕ, ◌+◌, ◌<◌, ◌≤◌, inl, inr, ⊎_elim, Bool, false, if◌then◌else◌, List, [], ◌∷◌, length, length-append, take, Option, None, Some, Result, Ok, Err, IfOk, IfErr, refl, sym, ap, ◌∙◌, subst, arith}
use Rattle.std.specs.Option.{option_map}
use Rattle.std.proofs.Math.Seq.{take-length}
use Rattle.std.proofs.lemmas.List.{length-map}
use Rattle.atomic_table.specs.Seated.{TableId}
use Rattle.iscc_header.specs.declared.unit.Unit64.{Unit64}
use Rattle.reg_model.specs.Desks.{Answered, Unanswered}
use Rattle.reg_model.specs.Replies.{Replies, shown}
use Rattle.reg_model.specs.declared.update.Declared.{Declared}
use Rattle.reg_model.specs.declared.call.Call.TheVariants.{Show}
use Rattle.reg_model.specs.declared.reply.Reply.TheVariants.{Absent, Live as LiveReply}
use Rattle.reg_rule.specs.declared.view.Cost.{Cost}
use Rattle.reg_model.specs.Rows.{is_accepted}
use Rattle.reg_model.specs.declared.call.Call.{Call}
use Rattle.reg_model.specs.declared.reply.Reply.{Reply}
use Rattle.reg_model.specs.declared.reply.Row.{Row}
use Rattle.reg_rule.specs.declared.told.Told.TheVariants.{Closes, Row as RowOf}
use Rattle.reg_rule.specs.declared.view.Account.{Account}
use Rattle.reg_rule.specs.declared.view.Key.{Key}
use Rattle.reg_rule.specs.declared.view.Place.{Place}
use Rattle.reg_rule.specs.declared.view.View.{View}
use Rattle.reg_rule.specs.Helping.{HasHelped, helped_up_to}
use Rattle.reg_rule.specs.Moves.{grown, head_number, head_rows, log_at, next_row, unpinned}
use Rattle.reg_rule.specs.Passes.{pass_view}
use Rattle.reg_rule.specs.Rounds.{IsWordsPass}
use Rattle.reg_query.specs.Snapshots.{Begun, ShownAt}
use Rattle.reg_query.specs.Queries.{Walk, walked_by}
use Rattle.reg_free.specs.Fit.{IsFit}
use Rattle.reg_free.proofs.Publishing.{adds_answer}

no_some : (k : ℕ) → None ≡ Some k → ⊥
no_some k e = absurd cc

length_same : (accounts : List Account) (row : Row) → length (grown accounts (Some row)) ≡ length accounts
length_same [] row = refl
length_same (a ∷ others) row = refl

-- What a call at the snapshot leaves that made a row, or none.
pub record LeavesFit (u w : View) : Type 0 where
  pub key : w.key ≡ u.key
  pub one : 0 < length u.accounts → 0 < length w.accounts
  pub holding : u.holding ≡ None → w.holding ≡ None
  pub committed : w.committed ≡ u.committed
  pub helped : w.helped ≡ u.helped
  pub hands : w.hands ≡ u.hands
  -- it may have seen a place more
  pub longer : length u.log ≤ length w.log
  pub room : length w.log ≤ w.key.sizes.log
  pub alone : w.key.sizes.callers ≡ 1 → length w.log ≡ length u.log

-- what showing leaves
pub shown_leaves : (u w : View) (k id : ℕ) (unit : Option Unit64) → ShownAt (RowOf (Show id)) u k id unit w → LeavesFit u w
shown_leaves u w k id unit s = let log = ap (λ (z : View). length z.log) s.view in let long = length-append u.log s.places in let key : w.key ≡ u.key = ap (λ (z : View). z.key) s.view in record {
  key = key;
  one = λ h. (let e : length w.accounts ≡ length u.accounts = ap (λ (z : View). length z.accounts) s.view ∙ length_same u.accounts _ in omega arith);
  holding = s.holding;
  committed = ap (λ (z : View). z.committed) s.view;
  helped = ap (λ (z : View). z.helped) s.view;
  hands = ap (λ (z : View). z.hands) s.view;
  longer = omega arith;
  room = (let r = s.room in let places = ap (λ (z : Key). z.sizes.log) key in omega arith);
  alone = λ single. (let none = ap length (s.alone (sym (ap (λ (z : Key). z.sizes.callers) key) ∙ single)) in omega arith);
}

-- what a query leaves, answered or not
pub query_leaves : (u w : View) (k : ℕ) (walk : Walk) (accounts : List Account) (costs : List Cost) (made : List ℕ) → w ≡ record (walked_by u walk) { accounts = accounts; costs = costs; made = made } → length accounts ≡ length u.accounts
    → length u.log ≤ u.key.sizes.log → LeavesFit u w
query_leaves u w k walk accounts costs made is same room = record {
  key = ap (λ (z : View). z.key) is;
  one = λ h. (let e : length w.accounts ≡ length accounts = ap (λ (z : View). length z.accounts) is in omega arith);
  holding = λ e. ap (λ (z : View). z.holding) is ∙ e;
  committed = ap (λ (z : View). z.committed) is;
  helped = ap (λ (z : View). z.helped) is;
  hands = ap (λ (z : View). z.hands) is;
  longer = (let e = ap (λ (z : View). length z.log) is in omega arith);
  room = (let e = ap (λ (z : View). length z.log) is in let f = ap (λ (z : View). z.key.sizes.log) is in omega arith);
  alone = λ single. ap (λ (z : View). length z.log) is;
}

pub query_same : (accounts : List Account) (row : Row) → length (grown accounts (Some row)) ≡ length accounts
query_same accounts row = length_same accounts row

-- the reply by what was shown
pub shown_some : (id : ℕ) (x : Option Declared) (unit : Unit64) → Some unit ≡ option_map (λ (d : Declared). d.unit) x → shown id x ≡ LiveReply unit
shown_some id None unit e = absurd cc
shown_some id (Some d) unit e = ap LiveReply (unit_of d.unit unit e) where
  unit_of : (a b : Unit64) → Some b ≡ Some a → a ≡ b
  unit_of a b e = cc

pub shown_none : (id : ℕ) (x : Option Declared) → None ≡ option_map (λ (d : Declared). d.unit) x → shown id x ≡ Absent id
shown_none id None e = refl
shown_none id (Some d) e = absurd cc

-- either answer of a call
pub by_result : {A E : Type 0} (P : A → Type 0) (Q : E → Type 0) (X : Type 0) (r : Result A E) → IfOk r P → IfErr r Q → ((a : A) → P a → X) → ((e : E) → Q e → X) → X
by_result P Q X (Ok a) p q f g = f a p
by_result P Q X (Err e) p q f g = g e q

module _ (v u w : View) (k : ℕ) (b : Begun v k u) (l : LeavesFit u w) (unopened : v.snapshot ≡ None) where
  abbrev closes : View
  closes = unpinned Closes w

  pub fit_after : (words : TableId × Key) (id ud wd : TableId) → IsFit words (id, v) → IsWordsPass words (ud, u) → IsWordsPass words (wd, closes) → IsFit words (wd, closes)
  fit_after words id ud wd fit begun own =
      let key : u.key ≡ v.key = begun.1 ∙ sym fit.own.1 in let places : w.key.sizes.log ≡ v.key.sizes.log = ap (λ (z : Key). z.sizes.log) (l.key ∙ key) in
      let seen = b.seen in let later = b.later in let longer = l.longer in let room = l.room in
      let kept : (n : ℕ) → n ≤ length v.log → HasHelped v n → HasHelped w n = (λ n low h. ap (λ (o : Option ℕ). helped_up_to o n) l.helped ∙ b.kept n low h) in
      let end : length v.log ≡ v.key.sizes.log → length w.log ≡ w.key.sizes.log = (λ e. omega arith) in
      record {
        own = own;
        one = l.one (let a = fit.one in let same = ap length b.accounts in omega arith);
        unheld = l.holding (b.holding fit.unheld);
        unpinned = λ _. refl;
        opens = λ m is. absurd (no_some m is);
        helped = λ n is. let c = fit.helped n (sym (l.committed ∙ b.committed) ∙ is) in ((let a = c.0 in omega arith), kept (n + 1) (let a = c.0 in omega arith) c.1);
        alone = λ single. let before : v.key.sizes.callers ≡ 1 = sym (ap (λ (z : Key). z.sizes.callers) (l.key ∙ key)) ∙ single in
            let same : length w.log ≡ length v.log = (let x = b.alone before in let y = l.alone single in omega arith) in
            ⊎_elim (λ h. inl (subst (HasHelped w) (sym same) (kept (length v.log) (omega arith) h))) (λ e. inr (end e)) (fit.alone before);
        hand = ⊎_elim (λ h. inl (l.hands ∙ (b.hands ∙ h))) (λ e. inr (end e)) fit.hand;
      }

  pub answered_at : (call : Call) (r : Reply) → 0 < length v.accounts → u.key ≡ v.key → w.accounts ≡ grown u.accounts (Some (next_row u call k r)) → is_accepted (next_row v call k r) ≡ false → k ≤ v.key.sizes.log
      → Replies v.key.sizes v.key.carried (log_at u k) call r → Answered v.key.sizes v.key.carried (pass_view v) (pass_view closes) call (record { point = v.key.carried.base + k; reply = r })
  answered_at call r one key is quiet within replies =
      let quiet_so : (if◌then◌else◌ {A = ℕ} (is_accepted (next_row v call k r)) 1 0) ≡ 0 = ap (λ (b : Bool). if◌then◌else◌ {A = ℕ} b 1 0) quiet in
      let base = ap (λ (z : Key). z.carried.base) key in
      let long : length (log_at u k) ≡ k = length-map (take k u.log) (λ (p : Place). p.update) ∙ (ap (λ (n : ℕ). length (take n u.log)) (sym b.seen) ∙ (ap length (take-length u.log) ∙ b.seen)) in
      let row : w.accounts ≡ grown v.accounts (Some (next_row v call k r)) = is ∙ (λ j. grown (b.accounts j) (Some (record { session = head_number (b.accounts j); number = length (head_rows (b.accounts j)); call = call; point = base j + k; reply = r }))) in
      adds_answer v closes call (record { point = v.key.carried.base + k; reply = r }) k one (l.key ∙ key) refl row
      refl (let a = b.later in omega arith) (let a = l.longer in let c = b.seen in omega arith)
      (record {
        log = log_at u k;
        within = omega arith;
        point = omega arith;
        reply = replies;
      })

  pub unanswered_at : w.accounts ≡ u.accounts → w.key ≡ v.key → Unanswered (pass_view v) (pass_view closes)
  unanswered_at is key = let same = is ∙ b.accounts in record {
    number = ap head_number same;
    account = ap head_rows same;
    seen = (let base = ap (λ (z : Key). z.carried.base) key in let a = b.later in let c = b.seen in let d = l.longer in omega arith);
    ended = refl;
  }
