-- Accounts in one log: what stands there, and what doesn't.
use Rattle.std.proofs.Common.{◌≡◌, ◌<◌, ℕ, zero, suc, List, [], ◌∷◌, refl, lit<, lit≤, arith, IfSome, count_by, get_or, AllPairs}
use Rattle.reg_model.specs.declared.update.Update.TheVariants.{Decl, Wd}
use Rattle.reg_model.specs.declared.call.Call.TheVariants as calls
use Rattle.reg_model.specs.declared.reply.Reply.TheVariants as replies
use Rattle.reg_model.specs.declared.reply.FullCause.TheVariants.{Entries}
use Rattle.reg_model.specs.declared.reply.Row.{Row}
use Rattle.reg_model.specs.Rows.{IsSeenBy, all_rows}
use Rattle.reg_model.specs.Limits.{Limits}
use Rattle.reg_model.specs.Merge.{row_at}
use Rattle.reg_model.specs.Accounts.{StandsInLog, ShareLog, claims}
use Rattle.reg_model.proofs.WorkedRows.{meta, usual, empty, row}

abbrev declares : Row
declares = row 0 1 (calls.Declare (meta 0)) (replies.Id 0)

-- a declaration stands in the log that has its update
logged : StandsInLog usual empty (Decl (meta 0) ∷ []) declares
logged = record { place = 0; within = lit≤ tt; point = refl; reply = (refl, lit< tt); made = λ update is. is }

-- a log without it doesn't have the row
unlogged : StandsInLog usual empty [] declares → ⊥
unlogged stands = let none = stands.made (Decl (meta 0)) refl in cc

-- nor does one that has another update at its place
other_update : StandsInLog usual empty (Wd 7 ∷ []) declares → ⊥
other_update stands =
    let first : stands.place ≡ 0 = omega (arith, stands.point) in
    let same = rw first at (stands.made (Decl (meta 0)) refl) in
    cc

-- a session that has counted a declaration doesn't make it afterwards
abbrev counts : Row
counts = row 0 1 calls.Count (replies.Count 1)

seen_too_early : IsSeenBy counts declares → ⊥
seen_too_early seen = absurd (omega (arith, seen.accepted refl))

-- two sessions with one entry between them: one declares, and then the other finds no entry
abbrev one_entry : Limits
one_entry = record { entries = 1; log = 65536; bits = 12; callers = 2 }

abbrev refused : Row
refused = record { session = 1; number = 0; call = calls.Declare (meta 1); point = 1; reply = replies.Full (Entries 0) }

abbrev two_accounts : List (List Row)
two_accounts = (declares ∷ []) ∷ (refused ∷ []) ∷ []

sessions : (session number : ℕ) → IfSome (row_at two_accounts (record { session = session; number = number })) (λ row. row.session ≡ session)
sessions zero zero = refl
sessions zero (suc n) = tt
sessions (suc zero) zero = refl
sessions (suc zero) (suc n) = tt
sessions (suc (suc s)) n = tt

numbers : (session number : ℕ) → IfSome (row_at two_accounts (record { session = session; number = number })) (λ row. row.number ≡ number)
numbers zero zero = refl
numbers zero (suc n) = tt
numbers (suc zero) zero = refl
numbers (suc zero) (suc n) = tt
numbers (suc (suc s)) n = tt

one_claim : (place : ℕ) → place < 1 → count_by (claims 0 place) (all_rows two_accounts) ≡ 1
one_claim zero _ = refl
one_claim (suc n) low = absurd (omega (arith, low))

one_row_each : (k : ℕ) (d : List Row) → k < 2 → AllPairs IsSeenBy (get_or two_accounts k d)
one_row_each zero d _ = λ i j e low within. absurd (omega (arith, low, within))
one_row_each (suc zero) d _ = λ i j e low within. absurd (omega (arith, low, within))
one_row_each (suc (suc k)) d within = absurd (omega (arith, within))

both_stand : (k : ℕ) (d : Row) → k < 2 → StandsInLog one_entry empty (Decl (meta 0) ∷ []) (get_or (declares ∷ refused ∷ []) k d)
both_stand zero d _ = record { place = 0; within = lit≤ tt; point = refl; reply = (refl, lit< tt); made = λ update is. is }
both_stand (suc zero) d _ = record {
  place = 1;
  within = lit≤ tt;
  point = refl;
  reply = record { taken = lit≤ tt; in_hands = lit< tt; withdrawn = lit≤ tt; alone = λ one. absurd (omega (arith, one)) };
  made = λ update is. cc;
}
both_stand (suc (suc k)) d within = absurd (omega (arith, within))

shared : ShareLog one_entry empty (Decl (meta 0) ∷ []) two_accounts
shared = record {
  numbered = record { session = λ place. sessions place.session place.number; number = λ place. numbers place.session place.number };
  few = lit≤ tt;
  within = lit≤ tt;
  seen = one_row_each;
  stand = both_stand;
  claimed = one_claim;
}

-- one place is not claimed twice
claimed_twice : ShareLog one_entry empty (Decl (meta 0) ∷ []) ((declares ∷ []) ∷ (record declares { session = 1 } ∷ []) ∷ []) → ⊥
claimed_twice share = absurd (omega (arith, share.claimed 0 (lit< tt)))
