-- Values at the front of a text.
use Rattle.std.proofs.Common.{◌≡◌, ℕ, zero, suc, ◌^◌, ◌<◌, ◌≤◌, List, [], ◌∷◌, ◌++◌, Option, Some, None, get_or, length, take, drop, refl, sym, ◌∙◌, ap, arith}
use Rattle.std.specs.Prelude.{IfSome, IfNone}
use Rattle.std.specs.Option.{UnwrapsOrElse, unwrap_or}
use Rattle.std.specs.Fmt.{decimal}
use Rattle.std.specs.Str.Parse.{digits_value}
use Rattle.std.proofs.lemmas.Fmt.{decimal_is_IsNumeral, length-decimal-le}
use Rattle.std.proofs.Math.Seq.{take-append_seam, drop-append_seam}
use Rattle.iscc_header.specs.declared.unit.Unit64.{Unit64}
use Rattle.iscc_header.specs.Unit64s.{IsUnit64}
use Rattle.iscc_text.specs.UnitText.{unit_text}
use Rattle.iscc_text.proofs.OneUnit.{same_unit}
use Rattle.reg_requests.specs.Numbers.{IsNumber}
use Rattle.reg_history.specs.inner.Bytes.{free, first, IsValueText}
use Rattle.reg_history.proofs.lines.WordsBack.{behind, at_byte, decimal_free, unit_free}

-- ---- texts of values

pub decimal_value : (n : ℕ) → IsValueText (decimal n)
decimal_value n = λ c h. decimal_free c n h

pub unit_value : (unit : Unit64) → IsValueText (unit_text unit)
unit_value unit = λ c h. unit_free c unit h

pub decimal_number : (n : ℕ) → n < 2 ^ 64 → IsNumber (decimal n)
decimal_number n h =
    let is = decimal_is_IsNumeral n h in
    record {
      some = is.0.0;
      few = length-decimal-le 20 n (omega arith) (omega arith) h;
      digits = is.0.1;
      value = omega (arith, is.1);
    }

pub decimal_is : (n : ℕ) → n < 2 ^ 64 → digits_value 10 (decimal n) ≡ n
decimal_is n h = let is = decimal_is_IsNumeral n h in is.1

-- ---- where a value ends

first_at : (ys : List ℕ) → get_or ys 0 0 ≡ first ys
first_at [] = refl
first_at (y ∷ ys) = refl

-- the bytes that aren't below the digits are those of the value
pub value_length : (xs ys : List ℕ) (i : ℕ) → IsValueText xs → first ys < 48 → i ≤ length (xs ++ ys)
    → ((k : ℕ) → k < i → 48 ≤ get_or (xs ++ ys) k 0) → (i < length (xs ++ ys) → get_or (xs ++ ys) i 0 < 48) → i ≡ length xs
value_length [] ys zero is low fits inside ends = refl
value_length [] ys (suc i) is low fits inside ends = absurd (omega (arith, inside 0 (omega arith), first_at ys))
value_length (x ∷ xs) ys zero is low fits inside ends =
    let below : x < 48 = ends (omega arith) in
    absurd (at_byte x x (free x xs) refl (is x below))
value_length (x ∷ xs) ys (suc i) is low fits inside ends =
    ap (λ n. suc n) (value_length xs ys i (λ c h. behind _ (free c xs) (is c h)) low (omega arith) (λ k h. inside (suc k) (omega arith)) (λ h. ends (omega arith)))

-- the value and what stands behind it
pub value_parts : (text xs ys front back : List ℕ) (i : ℕ) → IsValueText xs → first ys < 48 → text ≡ xs ++ ys → i ≤ length text
    → ((k : ℕ) → k < i → 48 ≤ get_or text k 0) → (i < length text → get_or text i 0 < 48) → front ≡ take i text → back ≡ drop i text
    → (front ≡ xs) × (back ≡ ys)
value_parts text xs ys front back i is low e fits inside ends f b =
    let at : i ≡ length xs = value_length xs ys i is low (rw (← e) fits) (rw (← e) inside) (rw (← e) ends) in
    (rw (f, at, e) (take-append_seam xs ys), rw (b, at, e) (drop-append_seam xs ys))

-- ---- what is read

-- the unit of the letters, if they are one's
pub unit_read : (found : Option Unit64) (fallback : Unit64 → Type 0) (result unit : Unit64) (letters : List ℕ)
    → IfSome found (λ u. letters ≡ unit_text u) → IfSome found IsUnit64 → IfNone found ((u : Unit64) → IsUnit64 u → letters ≡ unit_text u → ⊥)
    → UnwrapsOrElse found fallback result → IsUnit64 unit → letters ≡ unit_text unit → result ≡ unit
unit_read (Some u) fallback result unit letters is range none unwrapped h e = unwrapped ∙ same_unit u unit range h (sym is ∙ e)
unit_read None fallback result unit letters is range none unwrapped h e = absurd (none unit h e)

-- the number of the digits, if they are one's
pub number_read : (found : Option ℕ) (n : ℕ) (digits : List ℕ) → IfSome found (λ m. m ≡ digits_value 10 digits)
    → IfNone found (IsNumber digits → ⊥) → n < 2 ^ 64 → digits ≡ decimal n → unwrap_or found 0 ≡ n
number_read (Some m) n digits value none h e = value ∙ ap (digits_value 10) e ∙ decimal_is n h
number_read None n digits value none h e = absurd (none (rw e (decimal_number n h)))
