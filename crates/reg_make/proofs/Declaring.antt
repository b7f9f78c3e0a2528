-- A round of declarations that never finds the registry full.
use Rattle.std.proofs.Common.{◌≡◌, ℕ, ◌+◌, ◌<◌, ◌≤◌, Bool, true, false, not, cond, List, [], ◌∷◌, ◌++◌, map, length, Option, Some, None, refl, sym, ◌∙◌, ap, ap₂, subst, arith, length-append}
use Rattle.std.specs.Prelude.{sum_by, count_by, is_some}
use Rattle.std.specs.List.{AllByRecursion, range_with_len, cons_option}
use Rattle.std.specs.Option.{option_to_list}
use Rattle.std.proofs.lemmas.List.Sums.{sum_by-cons, count_by-le-length}
use Rattle.iscc_header.specs.declared.unit.Unit64.{Unit64}
use Rattle.reg_model.specs.declared.update.Update.{Update}
use Rattle.reg_model.specs.declared.update.Update.TheVariants.{Decl, Wd}
use Rattle.reg_model.specs.declared.update.Declared.{Declared}
use Rattle.reg_model.specs.declared.call.Call.{Call}
use Rattle.reg_model.specs.declared.call.Call.TheVariants as calls
use Rattle.reg_model.specs.declared.reply.Reply.{Reply}
use Rattle.reg_model.specs.declared.reply.Reply.TheVariants as replies
use Rattle.reg_model.specs.declared.reply.FullCause.TheVariants.{Log, Entries}
use Rattle.reg_model.specs.declared.reply.Row.{Row}
use Rattle.reg_model.specs.Limits.{Limits}
use Rattle.reg_model.specs.Live.{declared_from, declared, is_withdrawn, live, is_declaration}
use Rattle.reg_model.specs.Replies.{Replies}
use Rattle.reg_model.specs.Rows.{update_of, is_accepted, log_of, MayFollow, EachAfter}
use Rattle.reg_model.specs.Runs.{nothing}
use Rattle.reg_model.proofs.LiveSteps.{filter_all}
use Rattle.reg_model.proofs.RowSteps.{log_of-push}
use Rattle.reg_make.specs.Workloads.{hit_count}

-- 1 for what passes a test
abbrev pub one_if : Bool → ℕ
one_if b = cond b 1 0

-- ---- each declaration is accepted

-- 0 for a declaration
abbrev pub is_other : Call → ℕ
is_other (calls.Declare unit) = 0
is_other call = 1

-- the row declares a unit, and was accepted
pub record IsTaken (row : Row) : Type 0 where
  pub unit : Unit64
  pub id : ℕ
  pub call : row.call ≡ calls.Declare unit
  pub reply : row.reply ≡ replies.Id id

unit_declared : (call : Call) → is_other call ≡ 0 → (unit : Unit64) × (call ≡ calls.Declare unit)
unit_declared (calls.Declare unit) none = (unit, refl)
unit_declared (calls.Withdraw id) none = absurd (omega (arith, none))
unit_declared (calls.Near unit radius) none = absurd (omega (arith, none))
unit_declared (calls.Show id) none = absurd (omega (arith, none))
unit_declared calls.Count none = absurd (omega (arith, none))
unit_declared (calls.After point) none = absurd (omega (arith, none))

id_given : (limits : Limits) (log : List Update) (unit : Unit64) (reply : Reply) → length log < limits.log → length log + limits.callers ≤ limits.entries
    → Replies limits nothing log (calls.Declare unit) reply → (id : ℕ) × (reply ≡ replies.Id id)
id_given limits log unit (replies.Id id) room free h = (id, refl)
id_given limits log unit (replies.Full Log) room free h = absurd (omega (arith, room, h))
id_given limits log unit (replies.Full (Entries given)) room free h = absurd (omega (arith, free, h.in_hands, count_by-le-length is_declaration log))
id_given limits log unit reply room free h = absurd h

at_most_one : (o : Option Update) → length (option_to_list o) ≤ 1
at_most_one None = omega arith
at_most_one (Some update) = omega arith

-- where there are log and entries for all rows
pub all_taken : (limits : Limits) (n : ℕ) (before rows : List Row) → EachAfter (MayFollow limits nothing) before rows → AllByRecursion (λ (row : Row). is_other row.call ≡ 0) rows
    → length (log_of before) + length rows ≤ n → n ≤ limits.log → n + limits.callers ≤ limits.entries → AllByRecursion IsTaken rows
all_taken limits n before [] each others few room free = tt
all_taken limits n before (row ∷ rows) each others few room free =
    let follows : MayFollow limits nothing before row = each.0 in
    let unit = unit_declared row.call others.0 in
    let reply = id_given limits (log_of before) unit.0 row.reply (omega (arith, few, room)) (omega (arith, few, free)) (subst (λ c. Replies limits nothing (log_of before) c row.reply) unit.1 follows.reply) in
    let longer = ap length (log_of-push before row) ∙ length-append (log_of before) (option_to_list (update_of row.call row.reply)) in
    let one = at_most_one (update_of row.call row.reply) in (
      record { unit = unit.0; id = reply.0; call = unit.1; reply = reply.1 },
      all_taken limits n (before ++ row ∷ []) rows each.1 others.1 (omega (arith, few, longer, one)) room free,
    )

-- ---- what accepted declarations give together

taken_update : (row : Row) (taken : IsTaken row) → update_of row.call row.reply ≡ Some (Decl taken.unit)
taken_update row taken = ap₂ update_of taken.call taken.reply

pub taken_accepted : (rows : List Row) → AllByRecursion IsTaken rows → count_by is_accepted rows ≡ length rows
taken_accepted [] taken = refl
taken_accepted (row ∷ rows) taken =
    let accepted : is_accepted row ≡ true = ap is_some (taken_update row taken.0) in
    omega (arith, sum_by-cons (λ r. one_if (is_accepted r)) row rows, ap one_if accepted, taken_accepted rows taken.1)

pub taken_hits : (rows : List Row) → AllByRecursion IsTaken rows → sum_by (λ (row : Row). hit_count row.reply) rows ≡ 0
taken_hits [] taken = refl
taken_hits (row ∷ rows) taken =
    let first : IsTaken row = taken.0 in
    omega (arith, sum_by-cons (λ (r : Row). hit_count r.reply) row rows, ap hit_count first.reply, taken_hits rows taken.1)

log_more : (row : Row) (rows : List Row) (taken : IsTaken row) → log_of (row ∷ rows) ≡ Decl taken.unit ∷ log_of rows
log_more row rows taken = ap (λ o. cons_option o (log_of rows)) (taken_update row taken)

-- the log has their units
pub log_sum : (w : Update → ℕ) (g : Call → ℕ) → ((unit : Unit64) → w (Decl unit) ≡ g (calls.Declare unit)) → (rows : List Row) → AllByRecursion IsTaken rows
    → sum_by w (log_of rows) ≡ sum_by (λ (row : Row). g row.call) rows
log_sum w g same [] taken = refl
log_sum w g same (row ∷ rows) taken =
    let first : IsTaken row = taken.0 in
    omega (arith, ap (sum_by w) (log_more row rows first), sum_by-cons w (Decl first.unit) (log_of rows), same first.unit, ap g first.call, sum_by-cons (λ (r : Row). g r.call) row rows, log_sum w g same rows taken.1)

-- and nothing but declarations
abbrev pub AreDeclarations : List Update → Type 0
AreDeclarations log = AllByRecursion (λ update. is_declaration update ≡ true) log

pub log_declares : (rows : List Row) → AllByRecursion IsTaken rows → AreDeclarations (log_of rows)
log_declares [] taken = tt
log_declares (row ∷ rows) taken = subst AreDeclarations (sym (log_more row rows taken.0)) (refl, log_declares rows taken.1)

-- ---- what a log of declarations leaves

none_withdrawn : (log : List Update) (id : ℕ) → AreDeclarations log → is_withdrawn log id ≡ false
none_withdrawn [] id all = refl
none_withdrawn (Decl unit ∷ log) id all = none_withdrawn log id all.1
none_withdrawn (Wd other ∷ log) id all = absurd (cc (all.0))

pub all_live : (log : List Update) → AreDeclarations log → live nothing log ≡ declared_from 0 log
all_live log all = filter_all (λ (d : Declared). not (is_withdrawn log d.id)) (λ d. ap not (none_withdrawn log d.id all)) (declared nothing log)

-- their ids are one number after the other
pub ids_in_row : (id : ℕ) (log : List Update) → AreDeclarations log → map (λ (d : Declared). d.id) (declared_from id log) ≡ range_with_len id (length log)
ids_in_row id [] all = refl
ids_in_row id (Decl unit ∷ log) all = ap (λ ids. id ∷ ids) (ids_in_row (id + 1) log all.1)
ids_in_row id (Wd other ∷ log) all = absurd (cc (all.0))

-- their units are those of the log
pub units_sum : (v : Unit64 → ℕ) (w : Update → ℕ) → ((unit : Unit64) → v unit ≡ w (Decl unit)) → (id : ℕ) (log : List Update) → AreDeclarations log
    → sum_by (λ (d : Declared). v d.unit) (declared_from id log) ≡ sum_by w log
units_sum v w same id [] all = refl
units_sum v w same id (Decl unit ∷ log) all =
    omega (arith, sum_by-cons (λ (d : Declared). v d.unit) (record { id = id; unit = unit }) (declared_from (id + 1) log), same unit, sum_by-cons w (Decl unit) log, units_sum v w same (id + 1) log all.1)
units_sum v w same id (Wd other ∷ log) all = absurd (cc (all.0))
