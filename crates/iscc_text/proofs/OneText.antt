-- A text stands for one ISCC at most, or has one first fault.
use Rattle.std.proofs.Common.{◌≡◌, ℕ, ◌+◌, ◌<◌, ◌≤◌, List, [], ◌∷◌, ◌++◌, length, length-append, false, Result, Ok, Err, refl, sym, ◌∙◌, ap, arith, inl, inr, subst}
use Rattle.std.specs.Prelude.{All, ◌⊎◌, is_ok}
use Rattle.std.specs.List.{AllPass}
use Rattle.std.proofs.lemmas.Bool.{false≢true}
use Rattle.std.proofs.lemmas.List.Elements.{All-append, All-nil}
use Rattle.iscc_header.specs.Bits.{byte_bits, IsByte}
use Rattle.iscc_code.specs.Codes.{EncodesIscc, HasFault}
use Rattle.iscc_code.specs.declared.iscc.Iscc.{Iscc}
use Rattle.iscc_code.specs.declared.iscc.IsccFault.{IsccFault}
use Rattle.iscc_code.proofs.OneCode.{same_iscc, one_answer}
use Rattle.iscc_text.specs.Texts.{is_blank, is_allowed, is_no_colon, capitals, IsScheme, AreLetters, StandsFor, LacksScheme, IsBehindScheme}
use Rattle.iscc_text.specs.inner.Reading.{LettersMean, ReadsText}
use Rattle.iscc_text.specs.declared.read.TextFault.{TextFault}
use Rattle.iscc_text.specs.declared.read.TextFault.TheVariants as faults
use Rattle.iscc_text.proofs.EncodedBytes.{encoded_bytes}
use Rattle.iscc_text.proofs.TextBits.{same_letter_bytes}
use Rattle.iscc_text.proofs.TextParts.{trimmed_core, allowed_no_colon, allowed_no_blank, scheme_letters, one_place, lacking_or_behind, one_other, other_or_allowed}

no_letters : AreLetters [] []
unfolding capitals byte_bits
no_letters = record { range = All-nil IsByte; same = refl }

-- some letter stands there
some_letters : (m bytes : List ℕ) → AreLetters m bytes → 4 ≤ length bytes → 0 < length m
some_letters [] bytes h some =
    let none : bytes ≡ [] = same_letter_bytes [] bytes [] h no_letters in
    absurd (omega (arith, ap length none))
some_letters (b ∷ m) bytes h some = omega arith

named_blankless : (scheme m : List ℕ) → (scheme ≡ []) ⊎ IsScheme scheme → AllPass is_allowed m → All (λ b. is_blank b ≡ false) (scheme ++ m)
named_blankless scheme m (inl none) allowed =
    let P : List ℕ → Type 0 = λ t. All (λ b. is_blank b ≡ false) (t ++ m) in
    subst P (sym none) (allowed_no_blank m allowed)
named_blankless scheme m (inr named) allowed = All-append (λ b. is_blank b ≡ false) scheme m (scheme_letters scheme named).no_blank (allowed_no_blank m allowed)

name_kept : (scheme m : List ℕ) → (scheme ≡ []) ⊎ IsScheme scheme → AllPass is_allowed m → (scheme ≡ [] × AllPass is_no_colon m) ⊎ IsScheme scheme
name_kept scheme m (inl none) allowed = inl (none, allowed_no_colon m allowed)
name_kept scheme m (inr named) allowed = inr named

-- the parts of a text that stands for an ISCC
stands_parts : (text : List ℕ) (iscc : Iscc) → StandsFor text iscc → (m : List ℕ) × (place : ℕ) × IsBehindScheme text m place × LettersMean m place (Ok iscc)
stands_parts text iscc h =
    let encoded = encoded_bytes iscc h.encoding h.encoded in
    let are : AreLetters h.m h.encoding = record { range = encoded.0; same = h.same } in
    let some = some_letters h.m h.encoding are encoded.1 in (
      h.m,
      length h.before + length h.scheme,
      record {
        before = h.before;
        scheme = h.scheme;
        after = h.after;
        trimmed = trimmed_core text h.before (h.scheme ++ h.m) h.after h.whole h.blanks.0 h.blanks.1 (named_blankless h.scheme h.m h.named h.allowed) (omega (arith, some, length-append h.scheme h.m));
        named = name_kept h.scheme h.m h.named h.allowed;
        at = refl;
      },
      (h.allowed, (h.encoding, are, h.encoded)),
    )

name_alone : (scheme m : List ℕ) → (scheme ≡ [] × AllPass is_no_colon m) ⊎ IsScheme scheme → (scheme ≡ []) ⊎ IsScheme scheme
name_alone scheme m (inl none) = inl none.0
name_alone scheme m (inr named) = inr named

-- from the parts of a text to what it reads as
pub reads_from : (text m : List ℕ) (place : ℕ) (r : Result Iscc TextFault) → IsBehindScheme text m place → LettersMean m place r → ReadsText text r
reads_from text m place (Ok iscc) b h = record {
  before = b.before;
  scheme = b.scheme;
  m = m;
  after = b.after;
  encoding = h.1.0;
  whole = b.trimmed.whole;
  blanks = (b.trimmed.blank_before, b.trimmed.blank_after);
  named = name_alone b.scheme m b.named;
  allowed = h.0;
  same = h.1.1.same;
  encoded = h.1.2;
}
reads_from text m place (Err faults.Scheme) b h = absurd h
reads_from text m place (Err (faults.Letter at)) b h = (m, place, b, h)
reads_from text m place (Err faults.Bits) b h = (m, place, b, h)
reads_from text m place (Err (faults.Iscc fault)) b h = (m, place, b, h)

-- letters mean one thing
decodes_apart : (m : List ℕ) (a b : List ℕ) (iscc : Iscc) (fault : IsccFault) → AreLetters m a → AreLetters m b → EncodesIscc iscc a → HasFault b fault → ⊥
decodes_apart m a b iscc fault x y s f =
    let same : a ≡ b = same_letter_bytes m a b x y in
    let both : Ok iscc ≡ Err fault = one_answer a (Ok iscc) (Err fault) s (subst (λ t. HasFault t fault) (sym same) f) in
    false≢true (sym (ap is_ok both))

same_fault : (m : List ℕ) (a b : List ℕ) (f g : IsccFault) → AreLetters m a → AreLetters m b → HasFault a f → HasFault b g → f ≡ g
same_fault m a b f g x y s t =
    let same : a ≡ b = same_letter_bytes m a b x y in
    let both : Err f ≡ Err g = one_answer a (Err f) (Err g) s (subst (λ u. HasFault u g) (sym same) t) in
    cc

same_mean : (m : List ℕ) (p : ℕ) (a b : Result Iscc TextFault) → LettersMean m p a → LettersMean m p b → a ≡ b
same_mean m p (Err faults.Scheme) b h k = absurd h
same_mean m p (Ok u) (Err faults.Scheme) h k = absurd k
same_mean m p (Ok u) (Ok v) h k =
    let same = same_letter_bytes m h.1.0 k.1.0 h.1.1 k.1.1 in
    ap Ok (same_iscc u v h.1.0 h.1.2 (subst (λ t. EncodesIscc v t) (sym same) k.1.2))
same_mean m p (Ok u) (Err (faults.Letter at)) h k = absurd (other_or_allowed m p at k h.0)
same_mean m p (Ok u) (Err faults.Bits) h k = absurd (k.1 h.1.0 h.1.1)
same_mean m p (Ok u) (Err (faults.Iscc f)) h k = absurd (decodes_apart m h.1.0 k.1.0 u f h.1.1 k.1.1 h.1.2 k.1.2)
same_mean m p (Err (faults.Letter at)) (Err faults.Scheme) h k = absurd k
same_mean m p (Err (faults.Letter at)) (Ok v) h k = absurd (other_or_allowed m p at h k.0)
same_mean m p (Err (faults.Letter at)) (Err (faults.Letter to)) h k = ap (λ n. Err (faults.Letter n)) (one_other m p at to h k)
same_mean m p (Err (faults.Letter at)) (Err faults.Bits) h k = absurd (other_or_allowed m p at h k.0)
same_mean m p (Err (faults.Letter at)) (Err (faults.Iscc f)) h k = absurd (other_or_allowed m p at h k.0)
same_mean m p (Err faults.Bits) (Err faults.Scheme) h k = absurd k
same_mean m p (Err faults.Bits) (Ok v) h k = absurd (h.1 k.1.0 k.1.1)
same_mean m p (Err faults.Bits) (Err (faults.Letter at)) h k = absurd (other_or_allowed m p at k h.0)
same_mean m p (Err faults.Bits) (Err faults.Bits) h k = refl
same_mean m p (Err faults.Bits) (Err (faults.Iscc f)) h k = absurd (h.1 k.1.0 k.1.1)
same_mean m p (Err (faults.Iscc f)) (Err faults.Scheme) h k = absurd k
same_mean m p (Err (faults.Iscc f)) (Ok v) h k = absurd (decodes_apart m k.1.0 h.1.0 v f k.1.1 h.1.1 k.1.2 h.1.2)
same_mean m p (Err (faults.Iscc f)) (Err (faults.Letter at)) h k = absurd (other_or_allowed m p at k h.0)
same_mean m p (Err (faults.Iscc f)) (Err faults.Bits) h k = absurd (k.1 h.1.0 h.1.1)
same_mean m p (Err (faults.Iscc f)) (Err (faults.Iscc g)) h k = ap (λ n. Err (faults.Iscc n)) (same_fault m h.1.0 k.1.0 f g h.1.1 k.1.1 h.1.2 k.1.2)

-- a scheme is lacking, or the letters mean something
abbrev Parts : List ℕ → Result Iscc TextFault → Type 0
Parts text r = ((r ≡ Err faults.Scheme) × LacksScheme text) ⊎ ((m : List ℕ) × (place : ℕ) × IsBehindScheme text m place × LettersMean m place r)

parts_of : (text : List ℕ) (r : Result Iscc TextFault) → ReadsText text r → Parts text r
parts_of text (Ok iscc) h = inr (stands_parts text iscc h)
parts_of text (Err faults.Scheme) h = inl (refl, h)
parts_of text (Err (faults.Letter at)) h = inr h
parts_of text (Err faults.Bits) h = inr h
parts_of text (Err (faults.Iscc fault)) h = inr h

same_reading : (text : List ℕ) (a b : Result Iscc TextFault) → Parts text a → Parts text b → a ≡ b
same_reading text a b (inl x) (inl y) = x.0 ∙ sym y.0
same_reading text a b (inl x) (inr y) = absurd (lacking_or_behind text y.0 y.1 x.1 y.2)
same_reading text a b (inr x) (inl y) = absurd (lacking_or_behind text x.0 x.1 y.1 x.2)
same_reading text a b (inr x) (inr y) =
    let same = one_place text y.0 x.0 y.1 x.1 y.2 x.2 in
    let moved : LettersMean x.0 x.1 b = subst (λ m. LettersMean m x.1 b) same.0 (subst (λ p. LettersMean y.0 p b) same.1 y.3) in
    same_mean x.0 x.1 a b x.3 moved

pub one_reading : (text : List ℕ) (a b : Result Iscc TextFault) → ReadsText text a → ReadsText text b → a ≡ b
one_reading text a b h k = same_reading text a b (parts_of text a h) (parts_of text b k)

pub one_iscc : (text : List ℕ) (a b : Iscc) → StandsFor text a → StandsFor text b → a ≡ b
one_iscc text a b h k = (let same : Ok a ≡ Ok b = one_reading text (Ok a) (Ok b) h k in cc)
