-- Gathering the accounts of all passes in one seat.
use Rattle.std.proofs.Common.{◌≡◌, suc, ◌<◌, List, [], ◌∷◌, ◌++◌, map, length, get_or, refl, sym, ◌∙◌, ap, subst, arith, append-nil, append_assoc}
use Rattle.std.specs.Prelude.{All, remove}
use Rattle.atomic_table.specs.Seated.{TableId}
use Rattle.reg_rule.specs.declared.view.Account.{Account}
use Rattle.reg_rule.specs.declared.view.View.{View}
use Rattle.reg_rule.specs.Moves.{head_number, head_rows}
use Rattle.reg_rule.specs.Passes.{pass_view, passes_shown}
use Rattle.reg_rule.specs.inner.Ending.{account_in}

-- a seat with one account has that of its pass
pub one_account : (v : View) → length v.accounts ≡ 1 → v.accounts ≡ account_in (pass_view v) ∷ []
one_account v one = only v.accounts one
  where
    only : (list : List Account) → length list ≡ 1 → list ≡ record { number = head_number list; rows = head_rows list } ∷ []
    only [] one = absurd (omega (arith, one))
    only (a ∷ []) one = refl
    only (a ∷ b ∷ list) one = absurd (omega (arith, one))

accounts_in : (passes : List (TableId × View)) → map (λ (p : TableId × View). account_in (pass_view p.1)) passes ≡ map account_in (passes_shown passes)
accounts_in [] = refl
accounts_in (p ∷ passes) = ap (λ l. account_in (pass_view p.1) ∷ l) (accounts_in passes)

-- with no pass left, the seat has all accounts
pub all_gathered : (list : List Account) (rest passes : List (TableId × View)) → length rest ≡ 0
    → list ++ map (λ (p : TableId × View). account_in (pass_view p.1)) rest ≡ map (λ (p : TableId × View). account_in (pass_view p.1)) passes
    → list ≡ map account_in (passes_shown passes)
all_gathered list [] passes none are = sym (append-nil list) ∙ are ∙ accounts_in passes
all_gathered list (p ∷ rest) passes none are = absurd (omega (arith, none))

-- ---- one pass after another

-- what is removed from the front
pub taken_first : {A : Type 0} (ps rest : List A) (r : A) → 0 < length ps → r ≡ get_or ps 0 r → rest ≡ remove ps 0 → ps ≡ r ∷ rest
taken_first [] rest r some first others = absurd (omega (arith, some))
taken_first (p ∷ ps) rest r some first others = λ i. sym first i ∷ sym others i

pub first_of : {A : Type 0} (P : A → Type 0) (ps rest : List A) (r : A) → ps ≡ r ∷ rest → All P ps → P r
first_of P ps rest r is all = subst (All P) is all 0 r (omega arith)

pub others_of : {A : Type 0} (P : A → Type 0) (ps rest : List A) (r : A) → ps ≡ r ∷ rest → All P ps → All P rest
others_of P ps rest r is all = λ k d low. subst (All P) is all (suc k) d (omega (arith, low))

-- the seat takes in the account of the next pass
pub gathered_more : (v other : View) (ps rest : List (TableId × View)) (r : TableId × View) (all : List Account) → ps ≡ r ∷ rest → other ≡ r.1 → length other.accounts ≡ 1
    → v.accounts ++ map (λ (p : TableId × View). account_in (pass_view p.1)) ps ≡ all → (v.accounts ++ other.accounts) ++ map (λ (p : TableId × View). account_in (pass_view p.1)) rest ≡ all
gathered_more v other ps rest r all split is one are =
    ap (λ l. (v.accounts ++ l) ++ map (λ (p : TableId × View). account_in (pass_view p.1)) rest) (one_account other one ∙ ap (λ u. account_in (pass_view u) ∷ []) is)
    ∙ (append_assoc v.accounts (account_in (pass_view r.1) ∷ []) (map (λ (p : TableId × View). account_in (pass_view p.1)) rest)
    ∙ (ap (λ l. v.accounts ++ map (λ (p : TableId × View). account_in (pass_view p.1)) l) (sym split) ∙ are))
