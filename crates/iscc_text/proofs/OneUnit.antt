-- A text is that of one unit.
use Rattle.std.proofs.Common.{◌≡◌, ℕ, ◌+◌, ◌*◌, ◌/◌, ◌%◌, ◌^◌, ◌<◌, drop, Some, sym, ◌∙◌, ap, ap₂, arith}
use Rattle.iscc_header.specs.declared.unit.Unit64.{Unit64}
use Rattle.iscc_header.specs.Kinds.{main_of, sub_of}
use Rattle.iscc_header.specs.Unit64s.{IsUnit64}
use Rattle.iscc_header.proofs.KindFacts.{kind_pair, same_kind, small_pair}
use Rattle.iscc_text.specs.Base32.{letters}
use Rattle.iscc_text.specs.inner.Letters.{number_after}
use Rattle.iscc_text.specs.UnitText.{unit_bits, unit_text}
use Rattle.iscc_text.proofs.LettersBack.{unit_number, text_number, unit_number-parts, made}

-- units with one text have one number
same_number : (a b : Unit64) → IsUnit64 a → IsUnit64 b → unit_text a ≡ unit_text b → unit_number a ≡ unit_number b
unfolding unit_text
same_number a b h k e =
    let same : letters (unit_bits a) ≡ letters (unit_bits b) = ap (drop 5) e in
    sym (text_number a h) ∙ ap (number_after 0) same ∙ text_number b k

-- a header tells both numbers of a kind
same_main : (m s n t : ℕ) → s < 5 → t < 5 → (m * 16 + s) * 256 + 1 ≡ (n * 16 + t) * 256 + 1 → m ≡ n
same_main m s n t h k e = omega arith

same_sub : (m s n t : ℕ) → s < 5 → t < 5 → (m * 16 + s) * 256 + 1 ≡ (n * 16 + t) * 256 + 1 → s ≡ t
same_sub m s n t h k e = omega arith

-- kinds with the same numbers are the same
kind_is : (i k : ℕ) → i < 13 → k < 13 → main_of i ≡ main_of k → sub_of i ≡ sub_of k → i ≡ k
kind_is i k h l main sub = same_kind i k l (kind_pair i h ∙ ap₂ (λ m s. Some (m, s)) main sub)

pub same_unit : (a b : Unit64) → IsUnit64 a → IsUnit64 b → unit_text a ≡ unit_text b → a ≡ b
same_unit a b h k e =
    let number = same_number a b h k e in
    let left = unit_number-parts a h in
    let right = unit_number-parts b k in
    let header = sym left.0 ∙ ap (λ n. n / 2 ^ 64 % 65536) number ∙ right.0 in
    let body : a.body ≡ b.body = sym left.1 ∙ ap (λ n. n % 2 ^ 64) number ∙ right.1 in
    let small = small_pair a.kind h.kind in
    let low = small_pair b.kind k.kind in
    let kind : a.kind ≡ b.kind = kind_is a.kind b.kind h.kind k.kind (same_main _ _ _ _ small.1 low.1 header) (same_sub _ _ _ _ small.1 low.1 header) in
    ap₂ made kind body
