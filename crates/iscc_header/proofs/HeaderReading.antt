-- The numbers at the front of some bits, and the one answer that a reader of headers may give.
use Rattle.std.proofs.Common.{◌≡◌, ℕ, ◌%◌, ◌<◌, ◌≤◌, List, [], ◌∷◌, ◌++◌, refl, sym, ◌∙◌, ap, ap₂, append_assoc, length, take, drop, arith, Result, Ok, Err, inl, inr, subst}
use Rattle.std.specs.Prelude.{All, ◌⊎◌}
use Rattle.std.specs.List.{flat_map}
use Rattle.std.proofs.lemmas.Bool.{cases_eq, eq-eqb, ne_eqb}
use Rattle.std.proofs.lemmas.List.{take-append-drop, length-take-le}
use Rattle.std.proofs.lemmas.List.Elements.{All-head, All-tail, All-nil, All-cons}
use Rattle.iscc_header.specs.Bits.{byte_bits}
use Rattle.iscc_header.specs.Headers.{number_bits, padded, IsEncodable, BeginsWithNumber, EndsWithinNumber, BeginsWithNoNumber, Numbers, IsHeader, EncodesHeader, BeginsWithNumbers, EndsWithinHeader, LacksNumber, IsPaddedWrongly}
use Rattle.iscc_header.specs.inner.Reading.{ReadsHeader}
use Rattle.iscc_header.specs.declared.header.HeaderFault.{HeaderFault}
use Rattle.iscc_header.specs.declared.header.HeaderFault.TheVariants as faults
use Rattle.iscc_header.proofs.BitLists.{length-byte_bits, byte_bits-append, same_fronts}
use Rattle.iscc_header.proofs.NumberEncodings.{same_number, whole_or_cut, whole_or_none, cut_or_none}

-- no number stands at the front
Stops : List ℕ → Type 0
Stops bits = (n : ℕ) (x : List ℕ) → BeginsWithNumber bits n x → ⊥

abbrev encodings : List ℕ → List ℕ
encodings numbers = flat_map number_bits numbers

-- numbers at the front of the same bits, as many
same_numbers_at : (f g x y : List ℕ) → All IsEncodable f → All IsEncodable g → length f ≡ length g → encodings f ++ x ≡ encodings g ++ y → (f ≡ g) × (x ≡ y)
same_numbers_at [] [] x y a b len e = (refl, e)
same_numbers_at [] (n ∷ g) x y a b len e = absurd (omega arith)
same_numbers_at (m ∷ f) [] x y a b len e = absurd (omega arith)
same_numbers_at (m ∷ f) (n ∷ g) x y a b len e =
    let first = same_number m n (encodings f ++ x) (encodings g ++ y) (All-head IsEncodable m f a) (All-head IsEncodable n g b)
    (sym (append_assoc (number_bits m) (encodings f) x) ∙ e ∙ append_assoc (number_bits n) (encodings g) y) in
    let others = same_numbers_at f g x y (All-tail IsEncodable m f a) (All-tail IsEncodable n g b) (omega arith) first.1 in
    (ap₂ (λ k ks. k ∷ ks) first.0 others.0, others.1)

-- no more numbers than before a place where none stands
no_more : (f g x y : List ℕ) → All IsEncodable f → All IsEncodable g → encodings f ++ x ≡ encodings g ++ y → Stops y → length f ≤ length g
unfolding Stops
no_more [] g x y a b e stop = omega arith
no_more (m ∷ f) [] x y a b e stop =
    absurd (stop m (encodings f ++ x) (record { encodable = All-head IsEncodable m f a; encoded = sym e ∙ append_assoc (number_bits m) (encodings f) x }))
no_more (m ∷ f) (n ∷ g) x y a b e stop =
    let first = same_number m n (encodings f ++ x) (encodings g ++ y) (All-head IsEncodable m f a) (All-head IsEncodable n g b)
    (sym (append_assoc (number_bits m) (encodings f) x) ∙ e ∙ append_assoc (number_bits n) (encodings g) y) in
    let rest : length f ≤ length g = no_more f g x y (All-tail IsEncodable m f a) (All-tail IsEncodable n g b) first.1 stop in
    omega arith

cut_stops : (bits : List ℕ) → EndsWithinNumber bits → Stops bits
unfolding Stops
cut_stops bits cut = λ n x whole. whole_or_cut bits n x whole cut

none_stops : (bits : List ℕ) → BeginsWithNoNumber bits → Stops bits
unfolding Stops
none_stops bits none = λ n x whole. whole_or_none bits n x whole none

-- the four numbers of a header in their order
abbrev pub in_order : Numbers → List ℕ
in_order h = h.main ∷ h.sub ∷ h.version ∷ h.len ∷ []

pub IsHeader-all : (h : Numbers) → IsHeader h → All IsEncodable (in_order h)
IsHeader-all h r =
    All-cons IsEncodable h.main (h.sub ∷ h.version ∷ h.len ∷ []) r.main
    (All-cons IsEncodable h.sub (h.version ∷ h.len ∷ []) r.sub (All-cons IsEncodable h.version (h.len ∷ []) r.version (All-cons IsEncodable h.len [] r.len (All-nil IsEncodable))))

four_same : (a b c d e f g h : ℕ) → a ∷ b ∷ c ∷ d ∷ [] ≡ e ∷ f ∷ g ∷ h ∷ [] → (a ≡ e) × (b ≡ f) × (c ≡ g) × (d ≡ h)
four_same a b c d e f g h same = (cc, cc, cc, cc)

same_from_order : (g h : Numbers) → in_order g ≡ in_order h → g ≡ h
same_from_order g h e =
    let parts = four_same g.main g.sub g.version g.len h.main h.sub h.version h.len e in
    let makes : ℕ → ℕ → ℕ → ℕ → Numbers = λ m s v l. record { main = m; sub = s; version = v; len = l } in
    ap₂ (λ m s. makes m s g.version g.len) parts.0 parts.1 ∙ ap₂ (λ v l. makes h.main h.sub v l) parts.2 parts.3

pub padded_even : (bits : List ℕ) → length bits % 8 ≡ 0 → padded bits ≡ bits
padded_even bits e = rw (eq-eqb (length bits % 8) 0 e) refl

pub padded_odd : (bits : List ℕ) → (length bits % 8 ≡ 0 → ⊥) → padded bits ≡ bits ++ 0 ∷ 0 ∷ 0 ∷ 0 ∷ []
padded_odd bits e = rw (ne_eqb (length bits % 8) 0 e) refl

-- a whole header at the front of some bits, before it is padded
record BeginsWithHeader (bits : List ℕ) (header : Numbers) : Type 0 where
  rest : List ℕ
  numbers : BeginsWithNumbers bits (in_order header) rest
  padding : (length (encodings (in_order header)) % 8 ≡ 0) ⊎ (take 4 rest ≡ 0 ∷ 0 ∷ 0 ∷ 0 ∷ [])

begins_with_header : (h : Numbers) (front rest bytes : List ℕ) → EncodesHeader h front → bytes ≡ front ++ rest → BeginsWithHeader (byte_bits bytes) h
begins_with_header h front rest bytes encodes whole =
    let bits = encodings (in_order h) in
    let split : byte_bits bytes ≡ padded bits ++ byte_bits rest =
    ap byte_bits whole ∙ byte_bits-append front rest ∙ ap (λ b. b ++ byte_bits rest) encodes.encoded in
    elim (cases_eq (length bits % 8) 0) [
      | inl even ↦ record {
        rest = byte_bits rest;
        numbers = record { encodable = IsHeader-all h encodes.numbers; encoded = split ∙ ap (λ b. b ++ byte_bits rest) (padded_even bits even) };
        padding = inl even;
      }
      | inr odd ↦ record {
        rest = 0 ∷ 0 ∷ 0 ∷ 0 ∷ byte_bits rest;
        numbers = record { encodable = IsHeader-all h encodes.numbers; encoded = split ∙ ap (λ b. b ++ byte_bits rest) (padded_odd bits odd) ∙ append_assoc bits (0 ∷ 0 ∷ 0 ∷ 0 ∷ []) (byte_bits rest) };
        padding = inr refl;
      }
    ]

-- two answers about one list of bits
too_many : (bits f g x y : List ℕ) → length f ≡ 4 → length g < 4 → BeginsWithNumbers bits f x → BeginsWithNumbers bits g y → Stops y → ⊥
too_many bits f g x y four fewer a b stop =
    let most : length f ≤ length g = no_more f g x y a.encodable b.encodable (sym a.encoded ∙ b.encoded) stop in
    omega arith

whole_or_short : (bits : List ℕ) (h : Numbers) → BeginsWithHeader bits h → EndsWithinHeader bits → ⊥
whole_or_short bits h w s = too_many bits (in_order h) s.before w.rest s.rest refl s.fewer w.numbers s.numbers (cut_stops s.rest s.ends)

whole_or_lacking : (bits : List ℕ) (h : Numbers) → BeginsWithHeader bits h → LacksNumber bits → ⊥
whole_or_lacking bits h w s = too_many bits (in_order h) s.before w.rest s.rest refl s.fewer w.numbers s.numbers (none_stops s.rest s.lacks)

wrong_or_short : (bits : List ℕ) → IsPaddedWrongly bits → EndsWithinHeader bits → ⊥
wrong_or_short bits w s = too_many bits w.all s.before w.rest s.rest w.four s.fewer w.numbers s.numbers (cut_stops s.rest s.ends)

wrong_or_lacking : (bits : List ℕ) → IsPaddedWrongly bits → LacksNumber bits → ⊥
wrong_or_lacking bits w s = too_many bits w.all s.before w.rest s.rest w.four s.fewer w.numbers s.numbers (none_stops s.rest s.lacks)

short_or_lacking : (bits : List ℕ) → EndsWithinHeader bits → LacksNumber bits → ⊥
short_or_lacking bits s l =
    let e : encodings s.before ++ s.rest ≡ encodings l.before ++ l.rest = sym s.numbers.encoded ∙ l.numbers.encoded in
    let most : length s.before ≤ length l.before = no_more s.before l.before s.rest l.rest s.numbers.encodable l.numbers.encodable e (none_stops l.rest l.lacks) in
    let least : length l.before ≤ length s.before = no_more l.before s.before l.rest s.rest l.numbers.encodable s.numbers.encodable (sym e) (cut_stops s.rest s.ends) in
    let same = same_numbers_at s.before l.before s.rest l.rest s.numbers.encodable l.numbers.encodable (omega arith) e in
    cut_or_none s.rest s.ends (subst BeginsWithNoNumber (sym same.1) l.lacks)

whole_or_wrong : (bits : List ℕ) (h : Numbers) → BeginsWithHeader bits h → IsPaddedWrongly bits → ⊥
whole_or_wrong bits h w p =
    let same = same_numbers_at (in_order h) p.all w.rest p.rest w.numbers.encodable p.numbers.encodable (sym p.four) (sym w.numbers.encoded ∙ p.numbers.encoded) in
    elim w.padding [
      | inl even ↦ (let odd : length (encodings (in_order h)) % 8 ≡ 4 = ap (λ numbers. length (encodings numbers) % 8) same.0 ∙ p.odd in omega arith)
      | inr zeros ↦ p.other (ap (take 4) (sym same.1) ∙ zeros)
    ]

same_header : (bits : List ℕ) (g h : Numbers) → BeginsWithHeader bits g → BeginsWithHeader bits h → g ≡ h
same_header bits g h v w =
    same_from_order g h (same_numbers_at (in_order g) (in_order h) v.rest w.rest v.numbers.encodable w.numbers.encodable refl (sym v.numbers.encoded ∙ w.numbers.encoded)).0

-- how many bytes a header has
same_length : (h : Numbers) (a b : List ℕ) → EncodesHeader h a → EncodesHeader h b → length a ≡ length b
same_length h a b s t = omega (arith, length-byte_bits a, length-byte_bits b, ap length (s.encoded ∙ sym t.encoded))

-- no header begins another
pub one_header : (g h : Numbers) (a b x y : List ℕ) → EncodesHeader g a → EncodesHeader h b → a ++ x ≡ b ++ y → (g ≡ h) × (a ≡ b)
one_header g h a b x y s t e =
    let same : g ≡ h = same_header (byte_bits (a ++ x)) g h (begins_with_header g a x (a ++ x) s refl) (begins_with_header h b y (a ++ x) t e) in
    let len : length a ≡ length b = same_length h a b (subst (λ n. EncodesHeader n a) same s) t in
    (same, (same_fronts a b x y len e).0)

-- the header that is read
whole_read : (bytes : List ℕ) (read : Numbers × ℕ) → ReadsHeader bytes (Ok read) → BeginsWithHeader (byte_bits bytes) read.0
whole_read bytes read h = begins_with_header read.0 (take read.1 bytes) (drop read.1 bytes) bytes h.1 (sym (take-append-drop read.1 bytes))

pub header_complete : (bytes : List ℕ) (r : Result (Numbers × ℕ) HeaderFault) (h : Numbers) (front rest : List ℕ) → ReadsHeader bytes r → EncodesHeader h front → bytes ≡ front ++ rest → r ≡ Ok (h, length front)
header_complete bytes (Ok read) h front rest reads encodes e =
    let whole : take read.1 bytes ++ drop read.1 bytes ≡ front ++ rest = take-append-drop read.1 bytes ∙ e in
    let same = one_header read.0 h (take read.1 bytes) front (drop read.1 bytes) rest reads.1 encodes whole in
    let len : read.1 ≡ length front = sym (length-take-le read.1 bytes reads.0) ∙ ap length same.1 in
    ap₂ (λ n k. Ok (n, k)) same.0 len
header_complete bytes (Err faults.Short) h front rest reads encodes e = absurd (whole_or_short _ h (begins_with_header h front rest bytes encodes e) reads)
header_complete bytes (Err faults.NoCode) h front rest reads encodes e = absurd (whole_or_lacking _ h (begins_with_header h front rest bytes encodes e) reads)
header_complete bytes (Err faults.Padding) h front rest reads encodes e = absurd (whole_or_wrong _ h (begins_with_header h front rest bytes encodes e) reads)

pub header_short : (bytes : List ℕ) (r : Result (Numbers × ℕ) HeaderFault) → ReadsHeader bytes r → EndsWithinHeader (byte_bits bytes) → r ≡ Err faults.Short
header_short bytes (Ok read) h s = absurd (whole_or_short _ read.0 (whole_read bytes read h) s)
header_short bytes (Err faults.Short) h s = refl
header_short bytes (Err faults.NoCode) h s = absurd (short_or_lacking _ s h)
header_short bytes (Err faults.Padding) h s = absurd (wrong_or_short _ h s)

pub header_lacking : (bytes : List ℕ) (r : Result (Numbers × ℕ) HeaderFault) → ReadsHeader bytes r → LacksNumber (byte_bits bytes) → r ≡ Err faults.NoCode
header_lacking bytes (Ok read) h s = absurd (whole_or_lacking _ read.0 (whole_read bytes read h) s)
header_lacking bytes (Err faults.Short) h s = absurd (short_or_lacking _ h s)
header_lacking bytes (Err faults.NoCode) h s = refl
header_lacking bytes (Err faults.Padding) h s = absurd (wrong_or_lacking _ h s)

pub header_padding : (bytes : List ℕ) (r : Result (Numbers × ℕ) HeaderFault) → ReadsHeader bytes r → IsPaddedWrongly (byte_bits bytes) → r ≡ Err faults.Padding
header_padding bytes (Ok read) h s = absurd (whole_or_wrong _ read.0 (whole_read bytes read h) s)
header_padding bytes (Err faults.Short) h s = absurd (wrong_or_short _ s h)
header_padding bytes (Err faults.NoCode) h s = absurd (wrong_or_lacking _ s h)
header_padding bytes (Err faults.Padding) h s = refl
