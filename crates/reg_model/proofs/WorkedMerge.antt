-- A worked merge of two sessions, and orders that are none.
use Rattle.std.proofs.Common.{◌≡◌, ℕ, List, [], ◌∷◌, refl, lit<, arith}
use Rattle.std.specs.Prelude.{IsSome}
use Rattle.std.specs.List.{filter_map}
use Rattle.std.specs.List.Sorted.{IsStrictlySortedBy}
use Rattle.std.proofs.lemmas.List.Elements.{All-from_recursion}
use Rattle.std.proofs.lemmas.List.Sorted.{length_permutation}
use Rattle.reg_model.specs.declared.call.Call.TheVariants as calls
use Rattle.reg_model.specs.declared.reply.Reply.TheVariants as replies
use Rattle.reg_model.specs.declared.reply.FullCause.TheVariants.{Log, Entries}
use Rattle.reg_model.specs.declared.reply.Row.{Row}
use Rattle.reg_model.specs.declared.merging.Place.{Place}
use Rattle.reg_model.specs.Merge.{row_at, AreAccounts, IsMergeOrder}
use Rattle.reg_model.proofs.AtHome.{are_accounts}
use Rattle.reg_model.proofs.WorkedRows.{meta}
use Rattle.reg_model.proofs.WorkedRounds.{row_of, whole}

abbrev at : ℕ → ℕ → Place
at session number = record { session = session; number = number }

-- the accounts of the two sessions of the worked round
abbrev pub two_accounts : List (List Row)
two_accounts =
    (row_of 0 0 1 (calls.Declare (meta 0)) (replies.Id 0)
    ∷ row_of 0 1 2 calls.Count (replies.Count 2)
    ∷ row_of 0 2 3 (calls.Withdraw 0) (replies.Withdrawn 0)
    ∷ [])
    ∷ (row_of 1 0 2 (calls.Declare (meta 1)) (replies.Id 1)
    ∷ row_of 1 1 2 (calls.Declare (meta 0)) (replies.Full (Entries 0))
    ∷ row_of 1 2 3 (calls.Withdraw 0) (replies.Absent 0)
    ∷ row_of 1 3 3 (calls.Declare (meta 0)) (replies.Full Log)
    ∷ [])
    ∷ []

pub two_accounts_are : AreAccounts two_accounts
two_accounts_are = are_accounts two_accounts (
  (refl, refl, (refl, refl, (refl, refl, tt))),
  (
    (refl, refl, (refl, refl, (refl, refl, (refl, refl, tt)))),
    tt,
  ),
)

abbrev pub order : List Place
order = at 0 0 ∷ at 1 0 ∷ at 0 1 ∷ at 1 1 ∷ at 0 2 ∷ at 1 2 ∷ at 1 3 ∷ []

pub is_merged : IsMergeOrder two_accounts order
unfolding IsStrictlySortedBy
is_merged = record {
  filled = All-from_recursion (λ place. IsSome (row_at two_accounts place)) order (refl, (refl, (refl, (refl, (refl, (refl, (refl, tt)))))));
  merge = record {
    exactly = record {
      moves = (3, 4) ∷ (2, 3) ∷ (1, 3) ∷ [];
      below = (lit< tt, lit< tt, (lit< tt, lit< tt, (lit< tt, lit< tt, tt)));
      is = refl;
    };
    order = ((refl, (refl, (refl, (refl, (refl, (refl, tt)))))), ((refl, (refl, (refl, (refl, (refl, tt))))), ((refl, (refl, (refl, (refl, tt)))), ((refl, (refl, (refl, tt))), ((refl, (refl, tt)), ((refl, tt), (tt, tt)))))));
  };
}

-- it is the worked round
pub merged_is_whole : filter_map (row_at two_accounts) order ≡ whole
merged_is_whole = refl

-- no accounts, and accounts with no rows, have the empty order
pub none_merged : IsMergeOrder [] []
unfolding IsStrictlySortedBy
none_merged = record { filled = All-from_recursion (λ place. IsSome (row_at [] place)) [] tt; merge = record { exactly = record { moves = []; below = tt; is = refl }; order = tt } }

pub empty_merged : IsMergeOrder ([] ∷ [] ∷ []) []
unfolding IsStrictlySortedBy
empty_merged = record { filled = All-from_recursion (λ place. IsSome (row_at ([] ∷ [] ∷ []) place)) [] tt; merge = record { exactly = record { moves = []; below = tt; is = refl }; order = tt } }

-- ---- orders that are no merge

-- a row is left out
left_out : IsMergeOrder two_accounts (at 0 0 ∷ at 1 0 ∷ at 0 1 ∷ at 1 1 ∷ at 0 2 ∷ at 1 2 ∷ []) → ⊥
left_out merged = let exactly = merged.merge.exactly in absurd (omega (arith, length_permutation _ _ exactly))

-- the last row stands twice
twice : IsMergeOrder two_accounts (at 0 0 ∷ at 1 0 ∷ at 0 1 ∷ at 1 1 ∷ at 0 2 ∷ at 1 2 ∷ at 1 3 ∷ at 1 3 ∷ []) → ⊥
twice merged = let exactly = merged.merge.exactly in absurd (omega (arith, length_permutation _ _ exactly))

-- a session's account begins with the number 1
late_account : AreAccounts ((row_of 0 1 1 (calls.Declare (meta 0)) (replies.Id 0) ∷ []) ∷ []) → ⊥
late_account are = let number = are.number (at 0 0) in absurd (omega (arith, number))

-- the account of session 1 is the first
other_session : AreAccounts ((row_of 1 0 1 (calls.Declare (meta 0)) (replies.Id 0) ∷ []) ∷ []) → ⊥
other_session are = let session = are.session (at 0 0) in absurd (omega (arith, session))

-- a refused row stands before an accepted one of its point
refused_first : IsMergeOrder two_accounts (at 0 0 ∷ at 0 1 ∷ at 1 0 ∷ at 1 1 ∷ at 0 2 ∷ at 1 2 ∷ at 1 3 ∷ []) → ⊥
unfolding IsStrictlySortedBy
refused_first merged = let sorted = merged.merge.order in let second = sorted.1.0 in let less = second.0 in cc
