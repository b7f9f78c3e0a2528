-- The passes that a round ends with: the least number that is missing, and the account of each session.
use Rattle.std.proofs.Common.{◌≡◌, ℕ, zero, suc, ◌+◌, ◌-◌, ◌<◌, Bool, true, false, cond, not, List, [], ◌∷◌, map, Option, None, Some, refl, sym, ◌∙◌, ap, tests, arith}
use Rattle.std.specs.Prelude.{find, ◌==◌, ◌||◌, if◌then◌else◌}
use Rattle.std.specs.List.{list_any, range_with_len}
use Rattle.std.specs.Option.{option_map}
use mathlib.Core.Option.{some, some-injective, some-ne-none}
use lib.ListN.{get_elem?}
use Rattle.reg_model.specs.declared.desk.CloseWhy.TheVariants.{Missing}
use Rattle.reg_model.specs.declared.reply.Row.{Row}
use Rattle.reg_model.specs.Desks.{PassView, account_of, close_refusal}

-- ---- the first number that passes a test, looked for from a number on

looked : (test : ℕ → Bool) (a m : ℕ) → a < m → find test (range_with_len a (m - a)) ≡ cond (test a) (Some a) (find test (range_with_len (a + 1) (m - (a + 1))))
looked test a m low = ap (λ n. find test (range_with_len a n)) (let same : m - a ≡ suc (m - (a + 1)) = omega (arith, low) in same)

pub found_here : (test : ℕ → Bool) (a m : ℕ) → a < m → test a ≡ true → find test (range_with_len a (m - a)) ≡ Some a
found_here test a m low is = looked test a m low ∙ ap (λ b. cond b (Some a) (find test (range_with_len (a + 1) (m - (a + 1))))) is

pub found_later : (test : ℕ → Bool) (a m : ℕ) → a < m → test a ≡ false → find test (range_with_len a (m - a)) ≡ find test (range_with_len (a + 1) (m - (a + 1)))
found_later test a m low is = looked test a m low ∙ ap (λ b. cond b (Some a) (find test (range_with_len (a + 1) (m - (a + 1))))) is

-- a test that is passed by no number fails of each
none_found : (test : ℕ → Bool) (a m k : ℕ) → find test (range_with_len a m) ≡ None → k < m → test (a + k) ≡ false
none_found test a zero k none low = absurd (omega (arith, low))
none_found test a (suc m) zero none low = ap test (let same : a + 0 ≡ a = omega arith in same) ∙ first (test a) none
  where
    first : (b : Bool) → cond b (Some a) (find test (range_with_len (a + 1) m)) ≡ None → b ≡ false
    first true h = absurd (cc (h))
    first false h = refl
none_found test a (suc m) (suc k) none low = ap test (let same : a + suc k ≡ a + 1 + k = omega arith in same) ∙ none_found test (a + 1) m k (others (test a) none) (omega (arith, low))
  where
    others : (b : Bool) → cond b (Some a) (find test (range_with_len (a + 1) m)) ≡ None → find test (range_with_len (a + 1) m) ≡ None
    others true h = absurd (cc (h))
    others false h = h

-- ---- no number is missing

no_missing : (o : Option ℕ) → option_map Missing o ≡ None → o ≡ None
no_missing None h = refl
no_missing (Some n) h = absurd (cc (h))

pub given : (callers : ℕ) (passes : List PassView) (n : ℕ) → close_refusal callers passes ≡ None → n < callers → list_any (λ (pass : PassView). pass.number == n) passes ≡ true
given callers passes n all low =
    not_false (list_any (λ (pass : PassView). pass.number == n) passes)
    (ap (λ k. not (list_any (λ (pass : PassView). pass.number == k) passes)) (let same : n ≡ 0 + n = omega arith in same) ∙ none_found (λ k. not (list_any (λ (pass : PassView). pass.number == k) passes)) 0 callers n
    (no_missing (find (λ k. not (list_any (λ (pass : PassView). pass.number == k) passes)) (range_with_len 0 callers)) all) low)
  where
    not_false : (b : Bool) → not b ≡ false → b ≡ true
    not_false true h = refl
    not_false false h = absurd (cc (h))

-- the pass of a session, whose account is that of the session
pub record HasPass (passes : List PassView) (n : ℕ) : Type 0 where
  pub place : ℕ
  pub pass : PassView
  pub at : get_elem? passes place ≡ some pass
  pub number : pass.number ≡ n
  pub rows : pass.account ≡ account_of passes n

there : (passes : List PassView) (n : ℕ) → list_any (λ (pass : PassView). pass.number == n) passes ≡ true → HasPass passes n
there [] n any = absurd (cc (any))
there (p ∷ passes) n any = cases (p.number == n) refl (there passes n)
  where
    cases : (b : Bool) → (p.number == n) ≡ b → (list_any (λ (pass : PassView). pass.number == n) passes ≡ true → HasPass passes n) → HasPass (p ∷ passes) n
    cases true is later = record {
      place = 0;
      pass = p;
      at = refl;
      number = search (tests, is);
      rows = sym (ap (λ b. if b then p.account else account_of passes n) is);
    }
    cases false is later =
        let rest = later (sym (ap (λ b. b || list_any (λ (pass : PassView). pass.number == n) passes) is) ∙ any) in
        record {
          place = suc rest.place;
          pass = rest.pass;
          at = rest.at;
          number = rest.number;
          rows = rest.rows ∙ sym (ap (λ b. if b then p.account else account_of passes n) is);
        }

pub has_pass : (callers : ℕ) (passes : List PassView) (n : ℕ) → close_refusal callers passes ≡ None → n < callers → HasPass passes n
has_pass callers passes n all low = there passes n (given callers passes n all low)

pub at_mapped : {A B : Type 0} (f : A → B) (l : List A) (k : ℕ) (x : A) → get_elem? l k ≡ some x → get_elem? (map f l) k ≡ some (f x)
at_mapped f [] k x e = absurd (some-ne-none x (sym e))
at_mapped f (y ∷ l) zero x e = ap (λ z. some (f z)) (some-injective y x e)
at_mapped f (y ∷ l) (suc k) x e = at_mapped f l k x e
