-- The words of a command line: two words, and a mark cut at its colon.
use Rattle.std.proofs.Common.{◌≡◌, ℕ, zero, suc, ◌<◌, ◌≤◌, List, [], ◌∷◌, ◌++◌, Option, Some, None, length, get_or, drop, sym, ap, ap₂, ◌∙◌, subst, lit<, arith}
use Rattle.std.specs.Prelude.{slice_get, codes}
use Rattle.std.specs.Borrow.{Bor}
use Rattle.std.specs.Str.Parse.{AllDigits, digits_value}
use Rattle.std.proofs.lemmas.Option.{same_Some}
use Rattle.std.proofs.lemmas.Str.Parse.{digit_from_value}
use Rattle.std.proofs.lemmas.Str.Pattern.{IsSplitOnceResult, split_after, split_parts}
use Rattle.reg_requests.specs.Numbers.{IsNumber}
use Rattle.reg_top.specs.Words.{IsMark, IsNumberOf}
use Rattle.reg_top.specs.declared.run_words.MarkSizes.{MarkSizes}

no_colon : (ds : List ℕ) → AllDigits 10 ds → (i : ℕ) → i < length ds → get_or ds i 0 ≡ 58 → ⊥
no_colon [] all i low e = absurd (omega arith)
no_colon (d ∷ ds) all zero low e = let range = digit_from_value d all.0 in absurd (omega (arith, range, e))
no_colon (d ∷ ds) all (suc i) low e = no_colon ds all.1 i (omega arith) e

-- what stands behind the slash of a mark with sizes
behind_slash : (word text : List ℕ) → word ≡ codes "/" ++ text → 1 ≤ length text → (sizes : Option MarkSizes) → IsMark word sizes
    → (entries log : List ℕ) × IsNumber entries × IsNumber log × (text ≡ entries ++ (codes ":" ++ log))
behind_slash word text begins long None mark = absurd (omega (arith, ap length (sym begins ∙ mark), long))
behind_slash word text begins long (Some sizes) mark =
    let first : IsNumberOf mark.0 sizes.entries = mark.2 in
    let second : IsNumberOf mark.1 sizes.log = mark.3 in
    (mark.0, mark.1, first.digits, second.digits, ap (drop 1) (sym begins ∙ mark.4))

-- a word without a colon is no mark
pub no_mark : (word text : List ℕ) → word ≡ codes "/" ++ text → 1 ≤ length text → IsSplitOnceResult 58 text None → (sizes : Option MarkSizes) → IsMark word sizes → ⊥
no_mark word text begins long cut sizes mark =
    let parts = behind_slash word text begins long sizes mark in
    let entries : IsNumber parts.0 = parts.2 in
    split_after 58 text parts.0 parts.1 None cut (lit< tt) parts.4 (no_colon parts.0 entries.digits)

-- a mark with a colon has numbers on both its sides
pub mark_parts : (word text : List ℕ) (x : Bor (List ℕ) × Bor (List ℕ)) → word ≡ codes "/" ++ text → 1 ≤ length text → IsSplitOnceResult 58 text (Some x) → (sizes : Option MarkSizes) → IsMark word sizes
    → IsNumber x.0.now × IsNumber x.1.now
mark_parts word text x begins long cut sizes mark =
    let parts = behind_slash word text begins long sizes mark in
    let entries : IsNumber parts.0 = parts.2 in
    let sides = split_after 58 text parts.0 parts.1 (Some x) cut (lit< tt) parts.4 (no_colon parts.0 entries.digits) in
    (subst IsNumber (sym sides.0) entries, subst IsNumber (sym sides.1) parts.3)

-- the number of bytes that are read
pub number_of : (bytes text : List ℕ) (number : ℕ) → bytes ≡ text → IsNumber bytes → number ≡ digits_value 10 bytes → IsNumberOf text number
number_of bytes text number same is value = record { digits = subst IsNumber same is; value = value ∙ ap (digits_value 10) same }

-- and is a mark where they are
pub mark_is : (word text : List ℕ) (x : Bor (List ℕ) × Bor (List ℕ)) (entries log : ℕ) → word ≡ codes "/" ++ text → IsSplitOnceResult 58 text (Some x) → IsNumberOf x.0.now entries → IsNumberOf x.1.now log
    → IsMark word (Some (record { entries = entries; log = log }))
mark_is word text x entries log begins cut first second =
    let parts = split_parts 58 text (Some x) cut (lit< tt) in
    (x.0.now, x.1.now, first, second, begins ∙ ap (λ t. codes "/" ++ t) parts.0)

-- a list of two words
pub two_words : (words : List (List ℕ)) (first second : List ℕ) → length words ≡ 2 → slice_get words 0 ≡ Some first → slice_get words 1 ≡ Some second → words ≡ first ∷ second ∷ []
two_words [] first second len a b = absurd (omega (arith, len))
two_words (x ∷ []) first second len a b = absurd (omega (arith, len))
two_words (x ∷ y ∷ []) first second len a b = ap₂ (λ v w. v ∷ w ∷ []) (same_Some x first a) (same_Some y second b)
two_words (x ∷ y ∷ z ∷ words) first second len a b = absurd (let long : suc (suc (suc (length words))) ≡ 2 = len in omega arith)

-- and four
pub four_words : (words : List (List ℕ)) (first second third last : List ℕ) → length words ≡ 4 → slice_get words 0 ≡ Some first → slice_get words 1 ≡ Some second → slice_get words 2 ≡ Some third
    → slice_get words 3 ≡ Some last → words ≡ first ∷ second ∷ third ∷ last ∷ []
four_words [] first second third last len a b c d = absurd (omega (arith, len))
four_words (x ∷ []) first second third last len a b c d = absurd (omega (arith, len))
four_words (x ∷ y ∷ words) first second third last len a b c d =
    ap₂ (λ (v : List ℕ) (more : List (List ℕ)). v ∷ more) (same_Some x first a)
    (ap₂ (λ (w : List ℕ) (more : List (List ℕ)). w ∷ more) (same_Some y second b) (two_words words third last (omega (arith, len)) c d))
