-- Worked rounds of two sessions: one that is lawful, and for each rule of a round a row that breaks it.
use Rattle.std.proofs.Common.{ℕ, List, [], ◌∷◌, refl, sym, lit<, lit≤, arith}
use Rattle.std.proofs.lemmas.Bool.{true≢false}
use Rattle.reg_model.specs.declared.call.Call.{Call}
use Rattle.reg_model.specs.declared.call.Call.TheVariants as calls
use Rattle.reg_model.specs.declared.reply.Reply.{Reply}
use Rattle.reg_model.specs.declared.reply.Reply.TheVariants as replies
use Rattle.reg_model.specs.declared.reply.FullCause.TheVariants.{Log, Entries}
use Rattle.reg_model.specs.declared.reply.Row.{Row}
use Rattle.reg_model.specs.declared.update.Update.{Update}
use Rattle.reg_model.specs.declared.update.Update.TheVariants.{Decl, Wd}
use Rattle.reg_model.specs.Limits.{Limits}
use Rattle.reg_model.specs.Replies.{AllEntriesHeld}
use Rattle.reg_model.specs.Rows.{MayFollow, IsLawful}
use Rattle.reg_model.proofs.WorkedRows.{meta, empty}

abbrev pub row_of : ℕ → ℕ → ℕ → Call → Reply → Row
row_of session number point call reply = record { session = session; number = number; call = call; point = point; reply = reply }

-- two entries, a log of three updates, two sessions
abbrev pub two_sessions : Limits
two_sessions = record { entries = 2; log = 3; bits = 12; callers = 2 }

-- both entries are held after two declarations
abbrev pub front : List Row
front =
    row_of 0 0 1 (calls.Declare (meta 0)) (replies.Id 0)
    ∷ row_of 1 0 2 (calls.Declare (meta 1)) (replies.Id 1)
    ∷ []

-- accepted rows stand before others of their point, and a lower session before a higher one
abbrev pub whole : List Row
whole =
    row_of 0 0 1 (calls.Declare (meta 0)) (replies.Id 0)
    ∷ row_of 1 0 2 (calls.Declare (meta 1)) (replies.Id 1)
    ∷ row_of 0 1 2 calls.Count (replies.Count 2)
    ∷ row_of 1 1 2 (calls.Declare (meta 0)) (replies.Full (Entries 0))
    ∷ row_of 0 2 3 (calls.Withdraw 0) (replies.Withdrawn 0)
    ∷ row_of 1 2 3 (calls.Withdraw 0) (replies.Absent 0)
    ∷ row_of 1 3 3 (calls.Declare (meta 0)) (replies.Full Log)
    ∷ []

pub whole_is_lawful : IsLawful two_sessions empty whole
whole_is_lawful = (
  record { session = lit< tt; number = refl; order = tt; point = refl; within = lit≤ tt; reply = (refl, lit< tt) },
  (
    record { session = lit< tt; number = refl; order = refl; point = refl; within = lit≤ tt; reply = (refl, lit< tt) },
    (
      record { session = lit< tt; number = refl; order = refl; point = refl; within = lit≤ tt; reply = refl },
      (
        record { session = lit< tt; number = refl; order = refl; point = refl; within = lit≤ tt; reply = record { taken = lit≤ tt; in_hands = lit< tt; withdrawn = lit≤ tt; alone = λ _. refl } },
        (
          record { session = lit< tt; number = refl; order = refl; point = refl; within = lit≤ tt; reply = (refl, refl) },
          (
            record { session = lit< tt; number = refl; order = refl; point = refl; within = lit≤ tt; reply = (refl, refl) },
            (
              record { session = lit< tt; number = refl; order = refl; point = refl; within = lit≤ tt; reply = refl },
              tt,
            ),
          ),
        ),
      ),
    ),
  ),
)

-- ---- rows that may not follow

-- there is no third session
unknown_session : MayFollow two_sessions empty front (row_of 2 0 2 calls.Count (replies.Count 2)) → ⊥
unknown_session row = absurd (omega (arith, row.session))

-- the session's next number is 1
skipped_number : MayFollow two_sessions empty front (row_of 0 2 2 calls.Count (replies.Count 2)) → ⊥
skipped_number row = absurd (omega (arith, row.number))

-- a row of the lower session stands before one of the same point
abbrev counted : List Row
counted =
    row_of 0 0 1 (calls.Declare (meta 0)) (replies.Id 0)
    ∷ row_of 1 0 1 calls.Count (replies.Count 1)
    ∷ []

out_of_order : MayFollow two_sessions empty counted (row_of 0 1 1 calls.Count (replies.Count 1)) → ⊥
out_of_order row = let order = row.order in cc

-- two calls are accepted so far
stale_point : MayFollow two_sessions empty front (row_of 0 1 1 calls.Count (replies.Count 2)) → ⊥
stale_point row = absurd (omega (arith, row.point))

early_point : MayFollow two_sessions empty front (row_of 0 1 3 calls.Count (replies.Count 2)) → ⊥
early_point row = absurd (omega (arith, row.point))

-- the log has three places
log_overrun : MayFollow two_sessions empty whole (row_of 1 4 4 (calls.Withdraw 1) (replies.Withdrawn 1)) → ⊥
log_overrun row = absurd (omega (arith, row.within))

-- the id is the point of the row less one
wrong_id : MayFollow two_sessions empty [] (row_of 0 0 1 (calls.Declare (meta 0)) (replies.Id 1)) → ⊥
wrong_id row = let reply = row.reply in absurd (omega (arith, reply.0))

-- both entries are held by live declarations
entries_overrun : MayFollow two_sessions empty front (row_of 0 1 3 (calls.Declare (meta 0)) (replies.Id 2)) → ⊥
entries_overrun row = let reply = row.reply in absurd (omega (arith, reply.1))

-- the declaration isn't live any more
withdrawn_twice : MayFollow (record { entries = 2; log = 9; bits = 12; callers = 2 }) empty whole (row_of 1 4 4 (calls.Withdraw 0) (replies.Withdrawn 0)) → ⊥
withdrawn_twice row = let reply = row.reply in true≢false (sym reply.1)

-- a live declaration isn't absent
wrongly_absent : MayFollow two_sessions empty front (row_of 0 1 2 (calls.Withdraw 1) (replies.Absent 1)) → ⊥
wrongly_absent row = let reply = row.reply in true≢false reply.1

wrong_count : MayFollow two_sessions empty front (row_of 0 1 2 calls.Count (replies.Count 1)) → ⊥
wrong_count row = let reply = row.reply in cc

-- the log has a place left
log_not_spent : MayFollow two_sessions empty front (row_of 0 1 2 (calls.Declare (meta 0)) (replies.Full Log)) → ⊥
log_not_spent row = let reply = row.reply in absurd (omega (arith, reply))

-- no query has a radius above 15
too_wide : MayFollow two_sessions empty front (row_of 0 1 2 (calls.Near (meta 0) 16) (replies.Hits [])) → ⊥
too_wide row = let reply = row.reply in absurd (omega (arith, reply.0))

-- ---- the boundaries of a refusal for want of entries

abbrev three_sessions : Limits
three_sessions = record { entries = 4; log = 64; bits = 12; callers = 3 }

abbrev d : Update
d = Decl (meta 0)

-- of four entries two are declared, and the two other sessions may have one each in their hands
most_in_hands : AllEntriesHeld three_sessions empty (d ∷ d ∷ []) 0
most_in_hands = record { taken = lit≤ tt; in_hands = lit< tt; withdrawn = lit≤ tt; alone = λ one. absurd (cc) }

-- with one declared, three would be in the hands of two
too_many_in_hands : AllEntriesHeld three_sessions empty (d ∷ []) 0 → ⊥
too_many_in_hands held = absurd (omega (arith, held.in_hands))

-- with four declared, none is in a hand
none_in_hands : AllEntriesHeld three_sessions empty (d ∷ d ∷ d ∷ d ∷ []) 0
none_in_hands = record { taken = lit≤ tt; in_hands = lit< tt; withdrawn = lit≤ tt; alone = λ one. absurd (cc) }

-- five were declared, so one at least was given back
one_more_declared : AllEntriesHeld three_sessions empty (d ∷ Wd 0 ∷ d ∷ d ∷ d ∷ d ∷ []) 0 → ⊥
one_more_declared held = absurd (omega (arith, held.taken))

all_given_back : AllEntriesHeld three_sessions empty (d ∷ Wd 0 ∷ d ∷ d ∷ d ∷ d ∷ []) 1
all_given_back = record { taken = lit≤ tt; in_hands = lit< tt; withdrawn = lit≤ tt; alone = λ one. absurd (cc) }

-- no more were given back than were withdrawn
more_given_than_withdrawn : AllEntriesHeld three_sessions empty (d ∷ Wd 0 ∷ d ∷ d ∷ d ∷ d ∷ []) 2 → ⊥
more_given_than_withdrawn held = absurd (omega (arith, held.withdrawn))

-- a session that is alone has given back all that were withdrawn
alone_and_late : AllEntriesHeld (record { entries = 4; log = 64; bits = 12; callers = 1 }) empty (d ∷ Wd 0 ∷ d ∷ d ∷ d ∷ []) 0 → ⊥
alone_and_late held = absurd (omega (arith, held.alone refl))
