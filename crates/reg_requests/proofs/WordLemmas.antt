-- The first word of a text.
use Rattle.std.proofs.Common.{◌≡◌, ℕ, zero, suc, ◌+◌, ◌<◌, ◌≤◌, true, false, not, List, [], ◌∷◌, take, drop, get_or, length, length-drop, refl, sym, ◌∙◌, ap, ap₂, arith}
use Rattle.std.specs.Prelude.{if◌then◌else◌}
use Rattle.std.specs.List.{AllPass}
use Rattle.std.proofs.lemmas.List.{get_or-drop}
use Rattle.std.proofs.lemmas.List.Elements.{All-head, All-tail}
use Rattle.iscc_text.specs.Texts.{is_blank}
use Rattle.reg_requests.specs.Words.{words_of, onto_first, ends_word}

abbrev Blank : ℕ → Type 0
Blank byte = is_blank byte ≡ true

abbrev Solid : ℕ → Type 0
Solid byte = not (is_blank byte) ≡ true

solid : (byte : ℕ) → Solid byte → is_blank byte ≡ false
solid byte h = grind arith

-- a blank byte and a text
blank_first : (byte : ℕ) (text : List ℕ) → is_blank byte ≡ true → words_of (byte ∷ text) ≡ words_of text
blank_first byte text h = ap (λ t. if t then words_of text else if ends_word text then (byte ∷ []) ∷ words_of text else onto_first byte (words_of text)) h

-- a byte of a word and a text
solid_first : (byte : ℕ) (text : List ℕ) → is_blank byte ≡ false → words_of (byte ∷ text) ≡ if ends_word text then (byte ∷ []) ∷ words_of text else onto_first byte (words_of text)
solid_first byte text h = ap (λ t. if t then words_of text else if ends_word text then (byte ∷ []) ∷ words_of text else onto_first byte (words_of text)) h

last_byte : (byte : ℕ) (text : List ℕ) → is_blank byte ≡ false → ends_word text ≡ true → words_of (byte ∷ text) ≡ (byte ∷ []) ∷ words_of text
last_byte byte text h end = solid_first byte text h ∙ ap (λ t. if t then (byte ∷ []) ∷ words_of text else onto_first byte (words_of text)) end

more_bytes : (byte : ℕ) (text : List ℕ) → is_blank byte ≡ false → ends_word text ≡ false → words_of (byte ∷ text) ≡ onto_first byte (words_of text)
more_bytes byte text h end = solid_first byte text h ∙ ap (λ t. if t then (byte ∷ []) ∷ words_of text else onto_first byte (words_of text)) end

-- blanks in front are none of the words
pub behind_blanks : (n : ℕ) (text : List ℕ) → AllPass is_blank (take n text) → words_of text ≡ words_of (drop n text)
behind_blanks zero text h = refl
behind_blanks (suc n) [] h = refl
behind_blanks (suc n) (x ∷ xs) h = blank_first x xs (All-head Blank x (take n xs) h) ∙ behind_blanks n xs (All-tail Blank x (take n xs) h)

-- a text that begins with a word
pub word_first : (n : ℕ) (text : List ℕ) → suc n ≤ length text → AllPass (λ byte. not (is_blank byte)) (take (suc n) text)
    → (suc n < length text → is_blank (get_or text (suc n) 0) ≡ true) → words_of text ≡ take (suc n) text ∷ words_of (drop (suc n) text)
word_first n [] fits h end = absurd (omega arith)
word_first zero (x ∷ []) fits h end = last_byte x [] (solid x (All-head Solid x [] h)) refl
word_first zero (x ∷ y ∷ ys) fits h end = last_byte x (y ∷ ys) (solid x (All-head Solid x [] h)) (end (omega arith))
word_first (suc n) (x ∷ []) fits h end = absurd (omega arith)
word_first (suc n) (x ∷ y ∷ ys) fits h end =
    let rest = All-tail Solid x (y ∷ take n ys) h in
    let here = solid x (All-head Solid x (y ∷ take n ys) h) in
    let next = solid y (All-head Solid y (take n ys) rest) in
    more_bytes x (y ∷ ys) here next ∙ ap (onto_first x) (word_first n (y ∷ ys) (omega arith) rest (λ low. end (omega arith)))

-- a word isn't empty where a byte stands there that is no blank
pub word_there : (n : ℕ) (text : List ℕ) → n ≤ length text → 0 < length text → AllPass (λ byte. not (is_blank byte)) (take n text)
    → (n < length text → is_blank (get_or text n 0) ≡ true) → is_blank (get_or text 0 0) ≡ false → words_of text ≡ take n text ∷ words_of (drop n text)
word_there zero text fits some h end first = absurd (let blank = end some in let both : true ≡ false = sym blank ∙ first in cc)
word_there (suc n) text fits some h end first = word_first n text fits h end

-- behind the blanks nothing is left
pub no_words : (blanks : ℕ) (text rest : List ℕ) → rest ≡ drop blanks text → length rest ≡ 0 → AllPass is_blank (take blanks text) → words_of text ≡ []
no_words blanks text [] e h blank = behind_blanks blanks text blank ∙ ap words_of (sym e)
no_words blanks text (x ∷ xs) e h blank = absurd (omega (arith, h))

-- behind the blanks a word is left
pub first_word : (blanks n : ℕ) (text rest word behind : List ℕ) → rest ≡ drop blanks text → AllPass is_blank (take blanks text) → 0 < length rest
    → (blanks < length text → is_blank (get_or text blanks 0) ≡ false) → n ≤ length rest → AllPass (λ byte. not (is_blank byte)) (take n rest)
    → (n < length rest → is_blank (get_or rest n 0) ≡ true) → word ≡ take n rest → behind ≡ drop n rest → words_of text ≡ word ∷ words_of behind
first_word blanks n text rest word behind e blank some other fits solid end front back =
    let here : blanks + 0 ≡ blanks = omega arith in
    let inside : blanks < length text = omega (arith, length-drop blanks text, ap length e) in
    let first : is_blank (get_or rest 0 0) ≡ false = ap (λ t. is_blank (get_or t 0 0)) e ∙ ap is_blank (get_or-drop blanks text 0 0 ∙ ap (λ k. get_or text k 0) here) ∙ other inside in
    behind_blanks blanks text blank ∙ ap words_of (sym e) ∙ word_there n rest fits some solid end first
    ∙ ap₂ (λ a b. a ∷ words_of b) (sym front) (sym back)
