-- A line that asks for calls has at least five bytes.
use Rattle.std.proofs.Common.{◌≡◌, ℕ, suc, ◌-◌, ◌<◌, ◌≤◌, Bool, true, false, List, [], ◌∷◌, length, take, slice_index, Option, Some, None, Ok, refl, ap, arith, lit≤}
use Rattle.std.specs.Prelude.{if◌then◌else◌, ◌==◌, All, sum_by, codes}
use Rattle.std.specs.Str.{bytes_eq}
use Rattle.std.proofs.lemmas.List.{length-take-le}
use Rattle.std.proofs.lemmas.List.Elements.{All-nil, All-cons, All-head, All-tail}
use Rattle.std.proofs.lemmas.List.Sums.{sum_by-cons}
use Rattle.std.proofs.lemmas.Slice.Eq.{bytes_eq-Decides}
use Rattle.arrayvec.specs.ArrayVec.{ArrayVec}
use Rattle.iscc_text.specs.Texts.{is_blank}
use Rattle.reg_model.specs.declared.call.Call.{Call}
use Rattle.reg_requests.specs.declared.items.Line.TheVariants as lines
use Rattle.reg_requests.specs.Words.{words_of, line_words, without_return, onto_first, ends_word}
use Rattle.reg_requests.specs.Requests.{Request, Show, request_of, near_request, number_request, RequestMeans, ReadsLine}

-- how many bytes words have
abbrev bytes_of : List (List ℕ) → ℕ
bytes_of words = sum_by length words

abbrev HasBytes : List ℕ → Type 0
HasBytes word = 0 < length word

onto_bytes : (byte : ℕ) (words : List (List ℕ)) → bytes_of (onto_first byte words) ≤ suc (bytes_of words)
onto_bytes byte [] = omega (arith, sum_by-cons length (byte ∷ []) [])
onto_bytes byte (first ∷ words) = omega (arith, sum_by-cons length (byte ∷ first) words, sum_by-cons length first words)

onto_some : (byte : ℕ) (words : List (List ℕ)) → All HasBytes words → All HasBytes (onto_first byte words)
onto_some byte [] h = All-cons HasBytes (byte ∷ []) [] (omega arith) h
onto_some byte (first ∷ words) h = All-cons HasBytes (byte ∷ first) words (omega arith) (All-tail HasBytes first words h)

-- the words have no more bytes than the text
words_fit : (text : List ℕ) → bytes_of (words_of text) ≤ length text
words_fit [] = lit≤ tt
words_fit (byte ∷ text) =
    let before = words_fit text in
    elim (is_blank byte) as (λ b. bytes_of (if b then words_of text else if ends_word text then (byte ∷ []) ∷ words_of text else onto_first byte (words_of text)) ≤ suc (length text)) [
      | true ↦ omega (arith, before)
      | false ↦ elim (ends_word text) as (λ e. bytes_of (if e then (byte ∷ []) ∷ words_of text else onto_first byte (words_of text)) ≤ suc (length text)) [
        | true ↦ omega (arith, before, sum_by-cons length (byte ∷ []) (words_of text))
        | false ↦ omega (arith, before, onto_bytes byte (words_of text))
      ]
    ]

-- no word is empty
words_some : (text : List ℕ) → All HasBytes (words_of text)
words_some [] = All-nil HasBytes
words_some (byte ∷ text) =
    let before = words_some text in
    elim (is_blank byte) as (λ b. All HasBytes (if b then words_of text else if ends_word text then (byte ∷ []) ∷ words_of text else onto_first byte (words_of text))) [
      | true ↦ before
      | false ↦ elim (ends_word text) as (λ e. All HasBytes (if e then (byte ∷ []) ∷ words_of text else onto_first byte (words_of text))) [
        | true ↦ All-cons HasBytes (byte ∷ []) (words_of text) (omega arith) before
        | false ↦ onto_some byte (words_of text) before
      ]
    ]

returnless_fits : (line : List ℕ) → length (without_return line) ≤ length line
returnless_fits line =
    elim (slice_index line (length line - 1) == 13) as (λ b. length (if b then take (length line - 1) line else line) ≤ length line) [
      | true ↦ omega (arith, length-take-le (length line - 1) line (omega arith))
      | false ↦ omega arith
    ]

-- a word that is a command has that command's bytes
command_bytes : (word command : List ℕ) → bytes_eq word command ≡ true → length word ≡ length command
command_bytes word command h = ap length ((bytes_eq-Decides word command).0 h)

-- a command of five bytes or more
long : (word : List ℕ) (words : List (List ℕ)) (command : List ℕ) → 5 ≤ length command → bytes_eq word command ≡ true → 5 ≤ bytes_of (word ∷ words)
long word words command enough is = omega (arith, sum_by-cons length word words, enough, command_bytes word command is)

-- a command of four bytes that has a word behind it
short : (word : List ℕ) (words : List (List ℕ)) (command : List ℕ) (request : List (List ℕ) → Option Request) → length command ≡ 4 → bytes_eq word command ≡ true
    → All HasBytes words → request [] ≡ None → (request words ≡ None → ⊥) → 5 ≤ bytes_of (word ∷ words)
short word [] command request len is some none asks = absurd (asks none)
short word (text ∷ words) command request len is some none asks =
    let has = All-head HasBytes text words some in
    omega (arith, len, command_bytes word command is, has, sum_by-cons length word (text ∷ words), sum_by-cons length text words)

-- the words are of this command, or of one behind it
command_or : {goal : Type 0} {here behind : Option Request} (is : Bool) → ((if is then here else behind) ≡ None → ⊥) → (is ≡ true → (here ≡ None → ⊥) → goal)
    → ((behind ≡ None → ⊥) → goal) → goal
command_or true asks h k = h refl asks
command_or false asks h k = k asks

request_bytes : (words : List (List ℕ)) → All HasBytes words → (request_of words ≡ None → ⊥) → 5 ≤ bytes_of words
request_bytes [] some asks = absurd (asks refl)
request_bytes (word ∷ words) some asks =
    let behind = All-tail HasBytes word words some in
    command_or (bytes_eq word (codes "declare")) asks (λ is asks. long word words (codes "declare") (lit≤ tt) is)
    (λ asks. command_or (bytes_eq word (codes "withdraw")) asks (λ is asks. long word words (codes "withdraw") (lit≤ tt) is)
    (λ asks. command_or (bytes_eq word (codes "near")) asks (λ is asks. short word words (codes "near") near_request refl is behind refl asks)
    (λ asks. command_or (bytes_eq word (codes "show")) asks (λ is asks. short word words (codes "show") (number_request Show) refl is behind refl asks)
    (λ asks. command_or (bytes_eq word (codes "count")) asks (λ is asks. long word words (codes "count") (lit≤ tt) is)
    (λ asks. command_or (bytes_eq word (codes "after")) asks (λ is asks. long word words (codes "after") (lit≤ tt) is)
    (λ asks. command_or (bytes_eq word (codes "instance")) asks (λ is asks. long word words (codes "instance") (lit≤ tt) is)
    (λ asks. absurd (asks refl))))))))

-- words that ask for calls are a request
is_request : (request : Option Request) (list : ArrayVec Call) → RequestMeans request (Ok list) → request ≡ None → ⊥
is_request None list h e = absurd (cc)
is_request (Some request) list h e = absurd (cc)

pub five_bytes : (line : List ℕ) (list : ArrayVec Call) → ReadsLine line (lines.Calls list) → 5 ≤ length line
five_bytes line list h =
    let some = words_some (without_return line) in
    let enough = request_bytes (line_words line) some (is_request (request_of (line_words line)) list h.1) in
    omega (arith, enough, words_fit (without_return line), returnless_fits line)
