-- Hexadecimal digits in pieces.
use Rattle.std.proofs.Common.{◌≡◌, ℕ, ◌+◌, ◌%◌, ◌==◌, ◌/◌, Bool, true, false, List, [], ◌∷◌, ◌++◌, length, Option, Some, None, Result, Ok, Err, refl, sym, ◌∙◌, ap, arith, length-append}
use Rattle.std.specs.Prelude.{if◌then◌else◌, MatchResult}
use Rattle.std.specs.Result.{is_err}
use Rattle.hex.specs.Hex.{decode_of, decode_sized, decode_pairs, digit_or_error, hex_digit_value, pair_value, value_at, ◌>>=◌}
use Rattle.hex.specs.declared.error.FromHexError.{FromHexError}
use Rattle.hex.specs.declared.error.FromHexError.TheVariants.{OddLength, InvalidStringLength}
use Rattle.hex.proofs.HexLemmas.{decode_of-even}
use Rattle.hex.proofs.Pairs.{cons_byte, decode_pairs-ok_pair}

-- what an `Ok` of two steps shows
both_ok : {A B : Type 0} (r : Result A FromHexError) (f : A → Result B FromHexError) (y : B) → (r >>= f) ≡ Ok y → (x : A) × (r ≡ Ok x) × (f x ≡ Ok y)
both_ok (Ok x) f y h = (x, refl, h)
both_ok (Err e) f y h = absurd (cc)

-- a digit that reads does so at every place
digit_anywhere : (c i j : ℕ) (o : Option ℕ) (v : ℕ) → digit_or_error c i o ≡ Ok v → digit_or_error c j o ≡ Ok v
digit_anywhere c i j (Some w) v h = h
digit_anywhere c i j None v h = absurd (cc)

pair_anywhere : (high low i j v : ℕ) → pair_value high low i ≡ Ok v → pair_value high low j ≡ Ok v
pair_anywhere high low i j v h =
    let first = both_ok (value_at high i) _ v h in
    let second = both_ok (value_at low (i + 1)) _ v first.2 in
    let there : value_at high j ≡ Ok first.0 = digit_anywhere high i j (hex_digit_value high) first.0 first.1 in
    let here : value_at low (j + 1) ≡ Ok second.0 = digit_anywhere low (i + 1) (j + 1) (hex_digit_value low) second.0 second.1 in
    rw (there, here) second.2

-- the parts of digits that read
record Pair (high low i : ℕ) (rest bytes : List ℕ) : Type 0 where
  byte : ℕ
  more : List ℕ
  first : pair_value high low i ≡ Ok byte
  behind : decode_pairs (i + 2) rest ≡ Ok more
  whole : byte ∷ more ≡ bytes

pair_of : (high low i : ℕ) (rest bytes : List ℕ) → decode_pairs i (high ∷ low ∷ rest) ≡ Ok bytes → Pair high low i rest bytes
unfolding decode_pairs
pair_of high low i rest bytes h =
    let first = both_ok (pair_value high low i) _ bytes h in
    let second = both_ok (decode_pairs (i + 2) rest) _ bytes first.2 in
    record { byte = first.0; more = second.0; first = first.1; behind = second.1; whole = let e = second.2 in cc }

with_pair : (high low i byte : ℕ) (rest more : List ℕ) → pair_value high low i ≡ Ok byte → decode_pairs (i + 2) rest ≡ Ok more → decode_pairs i (high ∷ low ∷ rest) ≡ Ok (byte ∷ more)
with_pair high low i byte rest more first behind = decode_pairs-ok_pair i high low byte rest first ∙ ap (cons_byte byte) behind

-- digits that read do so at every place
anywhere : (i j : ℕ) (digits bytes : List ℕ) → decode_pairs i digits ≡ Ok bytes → decode_pairs j digits ≡ Ok bytes
unfolding decode_pairs
anywhere i j [] bytes h = h
anywhere i j (a ∷ []) bytes h = h
anywhere i j (high ∷ low ∷ rest) bytes h =
    let pair = pair_of high low i rest bytes h in
    with_pair high low j pair.byte rest pair.more (pair_anywhere high low i j pair.byte pair.first) (anywhere (i + 2) (j + 2) rest pair.more pair.behind) ∙ ap Ok pair.whole

pairs_joined : (i : ℕ) (front rest a b : List ℕ) → decode_pairs i front ≡ Ok a → decode_pairs 0 rest ≡ Ok b → decode_pairs i (front ++ rest) ≡ Ok (a ++ b)
unfolding decode_pairs
pairs_joined i [] rest a b h k = let none : [] ≡ a = cc in anywhere 0 i rest b k ∙ ap (λ t. Ok (t ++ b)) none
pairs_joined i (x ∷ []) rest a b h k = absurd (cc)
pairs_joined i (high ∷ low ∷ front) rest a b h k =
    let pair = pair_of high low i front a h in
    with_pair high low i pair.byte (front ++ rest) (pair.more ++ b) pair.first (pairs_joined (i + 2) front rest pair.more b pair.behind k) ∙ ap (λ t. Ok (t ++ b)) pair.whole

-- the two parts of digits that read
pub record Parts (front rest : List ℕ) (i : ℕ) : Type 0 where
  pub first : List ℕ
  pub more : List ℕ
  pub reads_first : decode_pairs i front ≡ Ok first
  pub reads_more : decode_pairs 0 rest ≡ Ok more

pairs_parted : (i : ℕ) (front rest all : List ℕ) → length front % 2 ≡ 0 → decode_pairs i (front ++ rest) ≡ Ok all → Parts front rest i
unfolding decode_pairs
pairs_parted i [] rest all even h = record { first = []; more = all; reads_first = refl; reads_more = anywhere i 0 rest all h }
pairs_parted i (x ∷ []) rest all even h = absurd (omega arith)
pairs_parted i (high ∷ low ∷ front) rest all even h =
    let pair = pair_of high low i (front ++ rest) all h in
    let parts = pairs_parted (i + 2) front rest pair.more (omega arith) pair.behind in
    record {
      first = pair.byte ∷ parts.first;
      more = parts.more;
      reads_first = with_pair high low i pair.byte front parts.first pair.first parts.reads_first;
      reads_more = parts.reads_more;
    }

-- ---- whole texts of digits

unless : (b : Bool) (e : FromHexError) (r : Result (List ℕ) FromHexError) (bytes : List ℕ) → (if b then Err e else r) ≡ Ok bytes → (b ≡ false) × (r ≡ Ok bytes)
unless true e r bytes h = absurd (cc)
unless false e r bytes h = (refl, h)

where_so : (b : Bool) (e : FromHexError) (r : Result (List ℕ) FromHexError) (bytes : List ℕ) → (if b then r else Err e) ≡ Ok bytes → r ≡ Ok bytes
where_so true e r bytes h = h
where_so false e r bytes h = absurd (cc)

even : (digits : List ℕ) → (length digits % 2 == 1) ≡ false → length digits % 2 ≡ 0
even digits h = grind arith

-- digits that read are pairs
by_pairs : (digits bytes : List ℕ) → decode_of digits ≡ Ok bytes → (length digits % 2 ≡ 0) × (decode_pairs 0 digits ≡ Ok bytes)
by_pairs digits bytes h =
    let parts = unless (length digits % 2 == 1) OddLength (decode_pairs 0 digits) bytes h in
    (even digits parts.0, parts.1)

-- pieces of digits that read, joined
pub joined : (front rest a b : List ℕ) → decode_of front ≡ Ok a → decode_of rest ≡ Ok b → decode_of (front ++ rest) ≡ Ok (a ++ b)
joined front rest a b h k =
    let first = by_pairs front a h in
    let more = by_pairs rest b k in
    decode_of-even (front ++ rest) (omega (arith, first.0, more.0, length-append front rest)) ∙ pairs_joined 0 front rest a b first.1 more.1

-- pieces of digits that read
pub parted : (front rest all : List ℕ) → length front % 2 ≡ 0 → decode_of (front ++ rest) ≡ Ok all
    → (a : List ℕ) × (b : List ℕ) × (decode_of front ≡ Ok a) × (decode_of rest ≡ Ok b)
parted front rest all even_front h =
    let whole = by_pairs (front ++ rest) all h in
    let parts = pairs_parted 0 front rest all even_front whole.1 in (
      parts.first,
      parts.more,
      decode_of-even front even_front ∙ parts.reads_first,
      decode_of-even rest (omega (arith, whole.0, even_front, length-append front rest)) ∙ parts.reads_more,
    )

sized : (digits bytes : List ℕ) (n : ℕ) → decode_sized digits n ≡ Ok bytes → decode_of digits ≡ Ok bytes
sized digits bytes n h =
    let parts = unless (length digits % 2 == 1) OddLength _ bytes h in
    let pairs = where_so (length digits / 2 == n) InvalidStringLength (decode_pairs 0 digits) bytes parts.1 in
    ap (λ b. if b then Err OddLength else decode_pairs 0 digits) parts.0 ∙ pairs

matched : (s : Result (List ℕ) FromHexError) (r : Result (Unit {0}) FromHexError) (new : List ℕ) → MatchResult s (λ bytes. (r ≡ Ok tt) × (new ≡ bytes)) (λ e. r ≡ Err e)
    → is_err r ≡ false → s ≡ Ok new
matched (Ok bytes) r new h ok = ap Ok (sym h.1)
matched (Err e) r new h ok = absurd (let both : true ≡ false = ap is_err (sym h) ∙ ok in cc)

-- the bytes that were decoded
pub decoded : (digits new : List ℕ) (n : ℕ) (r : Result (Unit {0}) FromHexError) → MatchResult (decode_sized digits n) (λ bytes. (r ≡ Ok tt) × (new ≡ bytes)) (λ e. r ≡ Err e)
    → is_err r ≡ false → decode_of digits ≡ Ok new
decoded digits new n r h ok = sized digits new n (matched (decode_sized digits n) r new h ok)

-- no digits stand for no bytes
pub nothing : (digits : List ℕ) → length digits ≡ 0 → decode_of digits ≡ Ok []
unfolding decode_pairs
nothing [] h = refl
nothing (x ∷ xs) h = absurd (omega (arith, h))
