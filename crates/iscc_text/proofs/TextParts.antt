-- The parts of a text: blanks, scheme and letters, each found in one way.
use Rattle.std.proofs.Common.{◌≡◌, ◌≢◌, ℕ, ◌+◌, ◌-◌, ◌<◌, ◌≤◌, List, [], ◌∷◌, ◌++◌, length, length-append, take, get_or, map, true, false, refl, sym, ◌∙◌, ap, ap₂, append_assoc, arith, inl, inr}
use Rattle.std.specs.Prelude.{All, Bool, ◌==◌, not, ◌⊎◌, codes}
use Rattle.std.specs.List.{AllPass}
use Rattle.std.specs.Char.{to_ascii_uppercase, to_ascii_lowercase}
use Rattle.std.proofs.lemmas.Bool.Decides.{nat_tests}
use Rattle.std.proofs.lemmas.Str.Ascii.{uppercase_is, lowercase-uppercase}
use Rattle.std.proofs.lemmas.Bool.{both_ways, cases_lt, or_cases, eqb-true, ne_eqb, cases_eq}
use Rattle.std.proofs.lemmas.List.{get_or_append_left, get_or-append_right, get_or_at, length-map, map-append}
use Rattle.std.proofs.lemmas.List.Elements.{All-nil, All-cons, All-weaker}
use Rattle.iscc_header.proofs.BitLists.{same_fronts}
use Rattle.iscc_text.specs.Texts.{is_blank, is_letter, is_allowed, is_no_colon, capital, IsScheme, IsTrimmed, IsBehindScheme, LacksScheme, HasOther}

-- a test tells where a front ends, if what follows it fails the test
front_not_shorter : (p : ℕ → Bool) (a b x y : List ℕ) → All (λ n. p n ≡ true) b → p (get_or x 0 0) ≡ false → a ++ x ≡ b ++ y → length b ≤ length a
front_not_shorter p a b x y passes fails e =
    elim (cases_lt (length a) (length b)) [
      | inl less ↦
          (let here : get_or (a ++ x) (length a) 0 ≡ get_or x 0 0 =
          get_or-append_right a x (length a) (length a) 0 refl (omega arith) ∙ ap (λ k. get_or x k 0) (let none : length a - length a ≡ 0 = omega arith in none) in
          let there : get_or (a ++ x) (length a) 0 ≡ get_or b (length a) 0 = ap (λ t. get_or t (length a) 0) e ∙ get_or_append_left b y 0 (length a) less in
          let yes' : p (get_or x 0 0) ≡ true = ap p (sym here ∙ there) ∙ passes (length a) 0 less in
          absurd (both_ways (p (get_or x 0 0)) fails yes'))
      | inr more ↦ more
    ]

pub same_split : (p : ℕ → Bool) (a b x y : List ℕ) → All (λ n. p n ≡ true) a → All (λ n. p n ≡ true) b → p (get_or x 0 0) ≡ false → p (get_or y 0 0) ≡ false
    → a ++ x ≡ b ++ y → (a ≡ b) × (x ≡ y)
same_split p a b x y pa pb fx fy e =
    let most : length b ≤ length a = front_not_shorter p a b x y pb fx e in
    let least : length a ≤ length b = front_not_shorter p b a y x pa fy (sym e) in
    same_fronts a b x y (omega arith) e

-- the same from behind
back_not_longer : (p : ℕ → Bool) (a b x y : List ℕ) → All (λ n. p n ≡ true) x → p (get_or b (length b - 1) 0) ≡ false → a ++ x ≡ b ++ y → length b ≤ length a
back_not_longer p a b x y passes fails e =
    elim (cases_lt (length a) (length b)) [
      | inl less ↦
          (let k = length b - 1 in
          let lens : length a + length x ≡ length b + length y = sym (length-append a x) ∙ ap length e ∙ length-append b y in
          let here : get_or (a ++ x) k 0 ≡ get_or x (k - length a) 0 = get_or-append_right a x (length a) k 0 refl (omega arith) in
          let there : get_or (a ++ x) k 0 ≡ get_or b k 0 = ap (λ t. get_or t k 0) e ∙ get_or_append_left b y 0 k (omega arith) in
          let yes' : p (get_or b k 0) ≡ true = ap p (sym there ∙ here) ∙ passes (k - length a) 0 (omega arith) in
          absurd (both_ways (p (get_or b k 0)) fails yes'))
      | inr more ↦ more
    ]

pub same_split_behind : (p : ℕ → Bool) (a b x y : List ℕ) → All (λ n. p n ≡ true) x → All (λ n. p n ≡ true) y → p (get_or a (length a - 1) 0) ≡ false → p (get_or b (length b - 1) 0) ≡ false
    → a ++ x ≡ b ++ y → (a ≡ b) × (x ≡ y)
same_split_behind p a b x y px py fa fb e =
    let most : length b ≤ length a = back_not_longer p a b x y px fb e in
    let least : length a ≤ length b = back_not_longer p b a y x py fa (sym e) in
    same_fronts a b x y (omega arith) e

-- a text is trimmed in one way
pub one_trim : (text b c a b' c' a' : List ℕ) → IsTrimmed text b c a → IsTrimmed text b' c' a' → (b ≡ b') × (c ≡ c')
one_trim text b c a b' c' a' t u =
    let front = same_split is_blank b b' (c ++ a) (c' ++ a') t.blank_before u.blank_before t.first u.first (sym t.whole ∙ u.whole) in
    (front.0, (same_split_behind is_blank c c' a a' t.blank_after u.blank_after t.last u.last front.1).0)

-- what a capital was before: itself, or a letter
capital_cases : (b : ℕ) → (capital b ≡ b) ⊎ ((97 ≤ b) × (b ≤ 122) × (capital b ≡ b - 32))
unfolding capital
capital_cases b =
    let is = uppercase_is b in
    elim (cases_lt b 97) [
      | inl below ↦ inl (is.1 below)
      | inr from ↦ elim (cases_lt 122 b) [
        | inl above ↦ inl (is.2 above)
        | inr small ↦ inr (from, small, omega (arith, is.0 (from, small)))
      ]
    ]

colon_from_capital : (b : ℕ) → capital b ≡ 58 → b ≡ 58
colon_from_capital b e =
    elim (capital_cases b) [
      | inl same ↦ sym same ∙ e
      | inr small ↦ absurd (omega (arith, small.0, small.2, e))
    ]

no_colon_from_capital : (b c : ℕ) → capital b ≡ c → (c ≡ 58 → ⊥) → is_no_colon b ≡ true
unfolding capital
no_colon_from_capital b c e other =
    elim (cases_eq b 58) [
      | inl colon ↦ absurd (other (sym e ∙ ap capital colon))
      | inr no_colon ↦ ap not (ne_eqb b 58 no_colon)
    ]

no_blank_from_capital : (b c : ℕ) → capital b ≡ c → (c ≡ 32 → ⊥) → (c ≡ 9 → ⊥) → is_blank b ≡ false
unfolding capital is_blank
no_blank_from_capital b c e space tab =
    elim (cases_eq b 32) [
      | inl is ↦ absurd (space (sym e ∙ ap capital is))
      | inr isn't ↦ elim (cases_eq b 9) [
        | inl is ↦ absurd (tab (sym e ∙ ap capital is))
        | inr nor ↦ rw (ne_eqb b 32 isn't, ne_eqb b 9 nor) refl
      ]
    ]

-- a scheme, letter by letter
pub record SchemeLetters (s : List ℕ) : Type 0 where
  pub len : length s ≡ 5
  pub name : List ℕ
  pub split : s ≡ name ++ 58 ∷ []
  pub no_colon : AllPass is_no_colon name
  pub is_name : map capital name ≡ codes "ISCC"
  pub no_blank : All (λ b. is_blank b ≡ false) s

pub scheme_letters : (s : List ℕ) → IsScheme s → SchemeLetters s
scheme_letters [] h = absurd (omega (arith, ap length h))
scheme_letters (a ∷ []) h = absurd (omega (arith, ap length h))
scheme_letters (a ∷ b ∷ []) h = absurd (omega (arith, ap length h))
scheme_letters (a ∷ b ∷ c ∷ []) h = absurd (omega (arith, ap length h))
scheme_letters (a ∷ b ∷ c ∷ d ∷ []) h = absurd (omega (arith, ap length h))
scheme_letters (a ∷ b ∷ c ∷ d ∷ e ∷ []) h =
    let same : capital a ∷ capital b ∷ capital c ∷ capital d ∷ capital e ∷ [] ≡ 73 ∷ 83 ∷ 67 ∷ 67 ∷ 58 ∷ [] = h in
    let ea : capital a ≡ 73 = ap (λ s. get_or s 0 0) same in
    let eb : capital b ≡ 83 = ap (λ s. get_or s 1 0) same in
    let ec : capital c ≡ 67 = ap (λ s. get_or s 2 0) same in
    let ed : capital d ≡ 67 = ap (λ s. get_or s 3 0) same in
    let ee : capital e ≡ 58 = ap (λ s. get_or s 4 0) same in
    let P : ℕ → Type 0 = λ n. is_no_colon n ≡ true in
    let Q : ℕ → Type 0 = λ n. is_blank n ≡ false in
    record {
      len = refl;
      name = a ∷ b ∷ c ∷ d ∷ [];
      split = ap (λ n. a ∷ b ∷ c ∷ d ∷ n ∷ []) (colon_from_capital e ee);
      no_colon =
          All-cons P a (b ∷ c ∷ d ∷ []) (no_colon_from_capital a 73 ea (λ f. omega arith))
          (All-cons P b (c ∷ d ∷ []) (no_colon_from_capital b 83 eb (λ f. omega arith))
          (All-cons P c (d ∷ []) (no_colon_from_capital c 67 ec (λ f. omega arith)) (All-cons P d [] (no_colon_from_capital d 67 ed (λ f. omega arith)) (All-nil P))));
      is_name = ap (take 4) same;
      no_blank =
          All-cons Q a (b ∷ c ∷ d ∷ e ∷ []) (no_blank_from_capital a 73 ea (λ f. omega arith) (λ f. omega arith))
          (All-cons Q b (c ∷ d ∷ e ∷ []) (no_blank_from_capital b 83 eb (λ f. omega arith) (λ f. omega arith))
          (All-cons Q c (d ∷ e ∷ []) (no_blank_from_capital c 67 ec (λ f. omega arith) (λ f. omega arith))
          (All-cons Q d (e ∷ []) (no_blank_from_capital d 67 ed (λ f. omega arith) (λ f. omega arith))
          (All-cons Q e [] (no_blank_from_capital e 58 ee (λ f. omega arith) (λ f. omega arith)) (All-nil Q)))));
    }
scheme_letters (a ∷ b ∷ c ∷ d ∷ e ∷ f ∷ more) h = absurd (omega (arith, ap length h, length-map more capital))

-- a name with its colon is a scheme
pub name_scheme : (name : List ℕ) → map capital name ≡ codes "ISCC" → IsScheme (name ++ 58 ∷ [])
unfolding capital
name_scheme name e = map-append capital name (58 ∷ []) ∙ ap (λ t. t ++ 58 ∷ []) e

-- what may stand among the letters is no colon and no blank
pub allowed_kinds : (b : ℕ) → is_allowed b ≡ true → (is_no_colon b ≡ true) × (is_blank b ≡ false)
unfolding is_allowed is_letter is_blank
allowed_kinds b h =
    elim (or_cases (b == 45) (is_letter (capital b)) h) [
      | inl hyphen ↦
          (let is : b ≡ 45 = eqb-true b 45 hyphen in
          (ap is_no_colon is, ap is_blank is))
      | inr letter ↦ (
        no_colon_from_capital b (capital b) refl (λ e. both_ways (is_letter 58) refl (sym (ap is_letter e) ∙ letter)),
        no_blank_from_capital b (capital b) refl (λ e. both_ways (is_letter 32) refl (sym (ap is_letter e) ∙ letter)) (λ e. both_ways (is_letter 9) refl (sym (ap is_letter e) ∙ letter)),
      )
    ]

pub allowed_no_colon : (m : List ℕ) → AllPass is_allowed m → AllPass is_no_colon m
allowed_no_colon m h = All-weaker (λ b. is_allowed b ≡ true) (λ b. is_no_colon b ≡ true) (λ b a. (allowed_kinds b a).0) m h

pub allowed_no_blank : (m : List ℕ) → AllPass is_allowed m → All (λ b. is_blank b ≡ false) m
allowed_no_blank m h = All-weaker (λ b. is_allowed b ≡ true) (λ b. is_blank b ≡ false) (λ b a. (allowed_kinds b a).1) m h

-- what has no blank in it is trimmed
pub trimmed_core : (text before core after : List ℕ) → text ≡ before ++ (core ++ after) → AllPass is_blank before → AllPass is_blank after
    → All (λ b. is_blank b ≡ false) core → 0 < length core → IsTrimmed text before core after
trimmed_core text before core after whole blank_before blank_after none some = record {
  whole = whole;
  blank_before = blank_before;
  blank_after = blank_after;
  first = ap is_blank (get_or_append_left core after 0 0 some) ∙ none 0 0 some;
  last = none (length core - 1) 0 (omega arith);
}

-- no colon stands in a list without one
colon_within : (name rest m : List ℕ) → AllPass is_no_colon m → m ≡ name ++ 58 ∷ rest → ⊥
colon_within name rest m none e =
    let at : get_or m (length name) 0 ≡ 58 = ap (λ t. get_or t (length name) 0) e ∙ get_or_at name 58 rest 0 (length name) refl in
    let within : length name < length m = omega (arith, ap length e, length-append name (58 ∷ rest)) in
    both_ways (is_no_colon (get_or m (length name) 0)) (ap is_no_colon at) (none (length name) 0 within)

-- what stands before the letters: nothing, or the scheme
abbrev pub IsNamed : List ℕ → List ℕ → Type 0
IsNamed s m = (s ≡ [] × AllPass is_no_colon m) ⊎ IsScheme s

scheme_beside_none : (s m x : List ℕ) → IsScheme s → AllPass is_no_colon x → x ≡ s ++ m → ⊥
scheme_beside_none s m x scheme none e =
    let parts = scheme_letters s scheme in
    colon_within parts.name m x none (e ∙ ap (λ t. t ++ m) parts.split ∙ append_assoc parts.name (58 ∷ []) m)

same_scheme : (s m t n : List ℕ) → IsNamed s m → IsNamed t n → s ++ m ≡ t ++ n → (s ≡ t) × (m ≡ n)
same_scheme s m t n (inl a) (inl b) e = (a.0 ∙ sym b.0, sym (ap (λ k. k ++ m) a.0) ∙ e ∙ ap (λ k. k ++ n) b.0)
same_scheme s m t n (inl a) (inr b) e = absurd (scheme_beside_none t n m b a.1 (sym (ap (λ k. k ++ m) a.0) ∙ e))
same_scheme s m t n (inr a) (inl b) e = absurd (scheme_beside_none s m n a b.1 (sym (ap (λ k. k ++ n) b.0) ∙ sym e))
same_scheme s m t n (inr a) (inr b) e = same_fronts s t m n ((scheme_letters s a).len ∙ sym (scheme_letters t b).len) e

-- the letters stand at one place
pub one_place : (text m n : List ℕ) (p q : ℕ) → IsBehindScheme text m p → IsBehindScheme text n q → (m ≡ n) × (p ≡ q)
one_place text m n p q a b =
    let trim = one_trim text a.before (a.scheme ++ m) a.after b.before (b.scheme ++ n) b.after a.trimmed b.trimmed in
    let same = same_scheme a.scheme m b.scheme n a.named b.named trim.1 in
    (same.1, a.at ∙ ap₂ (λ x y. length x + length y) trim.0 same.0 ∙ sym b.at)

named_or_lacking : (s m name rest : List ℕ) → IsNamed s m → AllPass is_no_colon name → map capital name ≢ codes "ISCC" → s ++ m ≡ name ++ 58 ∷ rest → ⊥
named_or_lacking s m name rest (inl a) first other e = colon_within name rest m a.1 (sym (ap (λ k. k ++ m) a.0) ∙ e)
named_or_lacking s m name rest (inr a) first other e =
    let parts = scheme_letters s a in
    let both : parts.name ++ 58 ∷ m ≡ name ++ 58 ∷ rest = sym (append_assoc parts.name (58 ∷ []) m) ∙ ap (λ t. t ++ m) (sym parts.split) ∙ e in
    let same = same_split is_no_colon parts.name name (58 ∷ m) (58 ∷ rest) parts.no_colon first refl refl both in
    other (ap (map capital) (sym same.0) ∙ parts.is_name)

-- a scheme is lacking, or the letters stand behind one or none
pub lacking_or_behind : (text m : List ℕ) (p : ℕ) → LacksScheme text → IsBehindScheme text m p → ⊥
lacking_or_behind text m p l b =
    let trim = one_trim text b.before (b.scheme ++ m) b.after l.before (l.name ++ 58 ∷ l.rest) l.after b.trimmed l.trimmed in
    named_or_lacking b.scheme m l.name l.rest b.named l.first l.other trim.1

-- the first other byte stands at one place
pub one_other : (m : List ℕ) (p x y : ℕ) → HasOther m p x → HasOther m p y → x ≡ y
one_other m p x y a b =
    let same = same_split is_allowed a.good b.good (a.other ∷ a.rest) (b.other ∷ b.rest) a.allowed b.allowed a.unallowed b.unallowed (sym a.whole ∙ b.whole) in
    a.is ∙ ap (λ g. p + length g) same.0 ∙ sym b.is

pub other_or_allowed : (m : List ℕ) (p x : ℕ) → HasOther m p x → AllPass is_allowed m → ⊥
other_or_allowed m p x a all =
    let at : get_or m (length a.good) 0 ≡ a.other = ap (λ t. get_or t (length a.good) 0) a.whole ∙ get_or_at a.good a.other a.rest 0 (length a.good) refl in
    let within : length a.good < length m = omega (arith, ap length a.whole, length-append a.good (a.other ∷ a.rest)) in
    both_ways (is_allowed a.other) a.unallowed (ap is_allowed (sym at) ∙ all (length a.good) 0 within)

-- a small letter has the capital that it had
uppercase-lowercase : (b : ℕ) → to_ascii_uppercase (to_ascii_lowercase b) ≡ to_ascii_uppercase b
uppercase-lowercase b = grind (arith, nat_tests)

in_capitals : (m : List ℕ) → map capital (map to_ascii_lowercase m) ≡ map capital m
unfolding capital
in_capitals [] = refl
in_capitals (b ∷ m) = ap₂ (λ x xs. x ∷ xs) (uppercase-lowercase b) (in_capitals m)

in_small : (m : List ℕ) → map to_ascii_lowercase (map capital m) ≡ map to_ascii_lowercase m
unfolding capital
in_small [] = refl
in_small (b ∷ m) = ap₂ (λ x xs. x ∷ xs) (lowercase-uppercase b) (in_small m)

-- the name of the scheme, in small letters and in capitals
pub name_in_capitals : (name : List ℕ)
    → (map to_ascii_lowercase name ≡ map to_ascii_lowercase (codes "iscc") → map capital name ≡ codes "ISCC")
    × (map capital name ≡ codes "ISCC" → map to_ascii_lowercase name ≡ map to_ascii_lowercase (codes "iscc"))
unfolding capital
name_in_capitals name = (
  λ small. sym (in_capitals name) ∙ ap (map capital) small,
  λ large. sym (in_small name) ∙ ap (map to_ascii_lowercase) large,
)
