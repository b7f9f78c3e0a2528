-- Dealing the accounts of one seat out, one session after another, and gathering them.
use Rattle.std.proofs.Common.{◌≡◌, ℕ, zero, suc, ◌+◌, ◌-◌, ◌<◌, List, [], ◌∷◌, ◌++◌, map, length, refl, sym, ◌∙◌, ap, subst, arith, append-nil}
use Rattle.std.specs.Prelude.{All}
use Rattle.std.proofs.lemmas.List.{map-append}
use Rattle.std.proofs.lemmas.List.FromFn.{map-range_with_len_more}
use Rattle.std.proofs.lemmas.List.Elements.{All-push}
use Rattle.reg_model.specs.Desks.{new_pass, new_passes}
use Rattle.reg_turn.specs.declared.view.Account.{Account}
use Rattle.reg_turn.specs.declared.view.Key.{Key}
use Rattle.reg_turn.specs.Turns.{TurnView, TurnPassView, IsPassOf}
use Rattle.reg_turn.specs.inner.OneTurn.{fresh}
use Rattle.reg_turn.specs.inner.Steps.{Sat, IsIdle, pass_of, head_part, tail_part, account_in}

-- ---- dealing

head_fresh : (key : Key) (n m : ℕ) → 0 < m → head_part (fresh key n m) ≡ fresh key n 1
head_fresh key n zero more = absurd (omega (arith, more))
head_fresh key n (suc m) more = refl

tail_fresh : (key : Key) (n m k : ℕ) → 0 < m → k ≡ m - 1 → tail_part (fresh key n m) ≡ fresh key (n + 1) k
tail_fresh key n zero k more is = absurd (omega (arith, more))
tail_fresh key n (suc m) k more is =
    let next : suc n ≡ n + 1 = omega arith in
    let rest : m ≡ k = omega (arith, is) in
    λ i. fresh key (next i) (rest i)

-- the seat that stays with the first account
pub dealt : (key : Key) (n m : ℕ) (me new : Sat) → me ≡ (fresh key n m, []) → 0 < m → new ≡ (head_part me.0, me.1) → new ≡ (fresh key n 1, [])
dealt key n m me new is more left = left ∙ ap (λ (z : Sat). let x : Sat = (head_part z.0, z.1) in x) is ∙ (λ i. (head_fresh key n m more i, []))

pub dealt_idle : (key : Key) (n : ℕ) (new : Sat) → new ≡ (fresh key n 1, []) → IsIdle new n
dealt_idle key n new is = subst (λ (z : Sat). IsIdle z n) (sym is) record { empty = refl; live = refl; rests = refl; one = refl; first = refl }

-- the seat with the others
pub undealt : (key : Key) (n callers : ℕ) (me new : Sat) → me ≡ (fresh key n (callers - n), []) → n < callers → new ≡ (tail_part me.0, []) → new ≡ (fresh key (n + 1) (callers - (n + 1)), [])
undealt key n callers me new is low left =
    left ∙ ap (λ (z : Sat). let x : Sat = (tail_part z.0, []) in x) is ∙ (λ i. (tail_fresh key n (callers - n) (callers - (n + 1)) (omega (arith, low)) (omega (arith, low)) i, []))

pub one_more_pass : (base n : ℕ) (passes new : List TurnPassView) (pass : TurnPassView) → map (λ (p : TurnPassView). p.pass) passes ≡ new_passes base n → new ≡ passes ++ pass ∷ [] → pass.pass ≡ new_pass base n
    → map (λ (p : TurnPassView). p.pass) new ≡ new_passes base (n + 1)
one_more_pass base n passes new pass are is fresh_pass =
    ap (map (λ (p : TurnPassView). p.pass)) is ∙ map-append (λ (p : TurnPassView). p.pass) passes (pass ∷ []) ∙ (λ i. are i ++ fresh_pass i ∷ [])
    ∙ sym (map-range_with_len_more (new_pass base) 0 n n (omega arith))

pub one_more_of : (desk : TurnView) (passes new : List TurnPassView) (pass : TurnPassView) → All (IsPassOf desk) passes → new ≡ passes ++ pass ∷ [] → pass.desk ≡ desk → All (IsPassOf desk) new
one_more_of desk passes new pass all is own = subst (All (IsPassOf desk)) (sym is) (All-push (IsPassOf desk) passes pass all own)

-- ---- gathering

-- a seat with one account has that of its pass
pub one_account : (me : Sat) (number : ℕ) → IsIdle me number → me.0.accounts ≡ account_in (pass_of me.0) ∷ []
one_account me number idle = only me.0.accounts idle.one
  where
    only : (list : List Account) → length list ≡ 1 → list ≡ record { number = Rattle.reg_turn.specs.inner.OneTurn.head_number list; rows = Rattle.reg_turn.specs.inner.OneTurn.head_rows list } ∷ []
    only [] one = absurd (omega (arith, one))
    only (a ∷ []) one = refl
    only (a ∷ b ∷ list) one = absurd (omega (arith, one))

accounts_in : (passes : List TurnPassView) → map (λ (pass : TurnPassView). account_in pass.pass) passes ≡ map account_in (map (λ (pass : TurnPassView). pass.pass) passes)
accounts_in [] = refl
accounts_in (p ∷ passes) = ap (λ l. account_in p.pass ∷ l) (accounts_in passes)

-- with no pass left, the seat has all accounts
pub all_gathered : (list : List Account) (rest passes : List TurnPassView) → length rest ≡ 0
    → list ++ map (λ (pass : TurnPassView). account_in pass.pass) rest ≡ map (λ (pass : TurnPassView). account_in pass.pass) passes
    → list ≡ map account_in (map (λ (pass : TurnPassView). pass.pass) passes)
all_gathered list [] passes none are = sym (append-nil list) ∙ are ∙ accounts_in passes
all_gathered list (p ∷ rest) passes none are = absurd (omega (arith, none))
