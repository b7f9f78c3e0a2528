-- A line is read in one way.
use Rattle.std.proofs.Common.{◌≡◌, ℕ, List, [], ◌∷◌, map, Option, Some, None, Result, Ok, Err, refl, sym, ◌∙◌, ap, ap₂, subst, arith, inl, inr}
use Rattle.std.specs.Prelude.{◌↔◌}
use Rattle.arrayvec.specs.ArrayVec.{ArrayVec}
use Rattle.hex.specs.Hex.{decode_of}
use Rattle.iscc_header.specs.declared.unit.Unit64.{Unit64}
use Rattle.iscc_code.specs.Codes.{units_of}
use Rattle.iscc_text.proofs.OneText.{one_iscc}
use Rattle.iscc_instance.specs.Instances.{instance_of}
use Rattle.reg_model.specs.declared.call.Call.{Call}
use Rattle.reg_model.specs.declared.call.Call.TheVariants as calls
use Rattle.reg_requests.specs.declared.items.BadLine.{BadLine}
use Rattle.reg_requests.specs.declared.items.BadLine.TheVariants as bad
use Rattle.reg_requests.specs.declared.items.Line.{Line}
use Rattle.reg_requests.specs.declared.items.Line.TheVariants as lines
use Rattle.reg_requests.specs.Requests.{Request, Declare, Withdraw, Near, Show, Count, After, Instance, request_of, TextMeans, NumberMeans, RadiusMeans, DigitsMean, NumberCallMeans, RequestMeans, ReadsWords}

same_list : {X : Type 0} (a b : ArrayVec X) → a.items ≡ b.items → a ≡ b
same_list a b e = ap (λ items. record { items = items }) e

one_text : (text : List ℕ) (a b : Result (ArrayVec Unit64) BadLine) → TextMeans text a → TextMeans text b → a ≡ b
one_text text (Ok a) (Ok b) h k =
    let same = one_iscc text h.0 k.0 h.1 k.1 in
    let units : Some a.items ≡ Some b.items = sym h.2 ∙ ap units_of same ∙ k.2 in
    ap Ok (same_list a b (cc))
one_text text (Ok a) (Err bad.Text) h k = absurd (k h.0 h.1)
one_text text (Ok a) (Err bad.Short) h k = absurd (let units = sym h.2 ∙ ap units_of (one_iscc text h.0 k.0 h.1 k.1) ∙ k.2 in cc)
one_text text (Ok a) (Err why) h k = absurd k
one_text text (Err bad.Text) (Ok b) h k = absurd (h k.0 k.1)
one_text text (Err bad.Text) (Err bad.Text) h k = refl
one_text text (Err bad.Text) (Err bad.Short) h k = absurd (h k.0 k.1)
one_text text (Err bad.Text) (Err why) h k = absurd k
one_text text (Err bad.Short) (Ok b) h k = absurd (let units = sym h.2 ∙ ap units_of (one_iscc text h.0 k.0 h.1 k.1) ∙ k.2 in cc)
one_text text (Err bad.Short) (Err bad.Text) h k = absurd (k h.0 h.1)
one_text text (Err bad.Short) (Err bad.Short) h k = refl
one_text text (Err bad.Short) (Err why) h k = absurd k
one_text text (Err why) b h k = absurd h

one_number : (word : List ℕ) (a b : Result ℕ BadLine) → NumberMeans word a → NumberMeans word b → a ≡ b
one_number word (Ok a) (Ok b) h k = ap Ok (h.1 ∙ sym k.1)
one_number word (Ok a) (Err bad.Number) h k = absurd (k h.0)
one_number word (Ok a) (Err why) h k = absurd k
one_number word (Err bad.Number) (Ok b) h k = absurd (h k.0)
one_number word (Err bad.Number) (Err bad.Number) h k = refl
one_number word (Err bad.Number) (Err why) h k = absurd k
one_number word (Err why) b h k = absurd h

one_radius : (number : List ℕ) (a b : Result ℕ BadLine) → RadiusMeans number a → RadiusMeans number b → a ≡ b
one_radius number (Ok a) (Ok b) h k = ap Ok (h.0.1 ∙ sym k.0.1)
one_radius number (Ok a) (Err bad.Number) h k = absurd (k h.0.0)
one_radius number (Ok a) (Err bad.Radius) h k = absurd (omega (arith, h.0.1, h.1, k.1))
one_radius number (Ok a) (Err why) h k = absurd k
one_radius number (Err bad.Number) (Ok b) h k = absurd (h k.0.0)
one_radius number (Err bad.Number) (Err bad.Number) h k = refl
one_radius number (Err bad.Number) (Err bad.Radius) h k = absurd (h k.0)
one_radius number (Err bad.Number) (Err why) h k = absurd k
one_radius number (Err bad.Radius) (Ok b) h k = absurd (omega (arith, k.0.1, k.1, h.1))
one_radius number (Err bad.Radius) (Err bad.Number) h k = absurd (k h.0)
one_radius number (Err bad.Radius) (Err bad.Radius) h k = refl
one_radius number (Err bad.Radius) (Err why) h k = absurd k
one_radius number (Err why) b h k = absurd h

one_unit : (digits : List ℕ) (a b : Result Unit64 BadLine) → DigitsMean digits a → DigitsMean digits b → a ≡ b
one_unit digits (Ok a) (Ok b) h k =
    let bytes : Ok h.0 ≡ decode_of digits = sym h.1 in
    let same : h.0 ≡ k.0 = let e = bytes ∙ k.1 in cc in
    ap Ok (h.2 ∙ ap instance_of same ∙ sym k.2)
one_unit digits (Ok a) (Err bad.Hex) h k = absurd (k h.0 h.1)
one_unit digits (Ok a) (Err why) h k = absurd k
one_unit digits (Err bad.Hex) (Ok b) h k = absurd (h k.0 k.1)
one_unit digits (Err bad.Hex) (Err bad.Hex) h k = refl
one_unit digits (Err bad.Hex) (Err why) h k = absurd k
one_unit digits (Err why) b h k = absurd h

-- answers of one sort are the same
abbrev taken : {X : Type 0} → X → Result X BadLine
taken x = Ok x

abbrev refused : (X : Type 0) → BadLine → Result X BadLine
refused X why = Err why

same_ok : {X : Type 0} (x y : X) → taken x ≡ taken y → x ≡ y
same_ok x y e = cc e

same_err : (X : Type 0) (why other : BadLine) → refused X why ≡ refused X other → why ≡ other
same_err X why other e = cc e

never_both : {X : Type 0} (x : X) (why : BadLine) → taken x ≡ refused X why → ⊥
never_both x why e = cc e

one_number_call : (call : ℕ → Call) (word : List ℕ) (a b : Result (ArrayVec Call) BadLine) → NumberCallMeans call word a → NumberCallMeans call word b → a ≡ b
one_number_call call word (Ok a) (Ok b) h k =
    let same = same_ok h.0 k.0 (one_number word (Ok h.0) (Ok k.0) h.1 k.1) in
    ap Ok (same_list a b (h.2 ∙ ap (λ number. call number ∷ []) same ∙ sym k.2))
one_number_call call word (Ok a) (Err why) h k = absurd (never_both h.0 why (one_number word (Ok h.0) (Err why) h.1 k))
one_number_call call word (Err why) (Ok b) h k = absurd (never_both k.0 why (one_number word (Ok k.0) (Err why) k.1 h))
one_number_call call word (Err why) (Err other) h k = ap Err (same_err ℕ why other (one_number word (Err why) (Err other) h k))

one_answer : (request : Option Request) (a b : Result (ArrayVec Call) BadLine) → RequestMeans request a → RequestMeans request b → a ≡ b
one_answer None a b h k = h ∙ sym k
one_answer (Some (Declare text)) (Ok a) (Ok b) h k =
    let same = same_ok h.0 k.0 (one_text text (Ok h.0) (Ok k.0) h.1 k.1) in
    ap Ok (same_list a b (h.2 ∙ ap (λ units. map calls.Declare units.items) same ∙ sym k.2))
one_answer (Some (Declare text)) (Ok a) (Err why) h k = absurd (never_both h.0 why (one_text text (Ok h.0) (Err why) h.1 k))
one_answer (Some (Declare text)) (Err why) (Ok b) h k = absurd (never_both k.0 why (one_text text (Ok k.0) (Err why) k.1 h))
one_answer (Some (Declare text)) (Err why) (Err other) h k = ap Err (same_err (ArrayVec Unit64) why other (one_text text (Err why) (Err other) h k))
one_answer (Some (Withdraw id)) a b h k = one_number_call calls.Withdraw id a b h k
one_answer (Some (Near text number)) (Ok a) (Ok b) h k =
    let units = same_ok h.0 k.0 (one_text text (Ok h.0) (Ok k.0) h.2 k.2) in
    let radius = same_ok h.1 k.1 (one_radius number (Ok h.1) (Ok k.1) h.3 k.3) in
    ap Ok (same_list a b (h.4 ∙ ap₂ (λ list r. map (λ unit. calls.Near unit r) list.items) units radius ∙ sym k.4))
one_answer (Some (Near text number)) (Ok a) (Err why) h (inl k) = absurd (never_both h.0 why (one_text text (Ok h.0) (Err why) h.2 k))
one_answer (Some (Near text number)) (Ok a) (Err why) h (inr k) = absurd (never_both h.1 why (one_radius number (Ok h.1) (Err why) h.3 k.2))
one_answer (Some (Near text number)) (Err why) (Ok b) (inl h) k = absurd (never_both k.0 why (one_text text (Ok k.0) (Err why) k.2 h))
one_answer (Some (Near text number)) (Err why) (Ok b) (inr h) k = absurd (never_both k.1 why (one_radius number (Ok k.1) (Err why) k.3 h.2))
one_answer (Some (Near text number)) (Err why) (Err other) (inl h) (inl k) = ap Err (same_err (ArrayVec Unit64) why other (one_text text (Err why) (Err other) h k))
one_answer (Some (Near text number)) (Err why) (Err other) (inl h) (inr k) = absurd (never_both k.0 why (one_text text (Ok k.0) (Err why) k.1 h))
one_answer (Some (Near text number)) (Err why) (Err other) (inr h) (inl k) = absurd (never_both h.0 other (one_text text (Ok h.0) (Err other) h.1 k))
one_answer (Some (Near text number)) (Err why) (Err other) (inr h) (inr k) = ap Err (same_err ℕ why other (one_radius number (Err why) (Err other) h.2 k.2))
one_answer (Some (Show id)) a b h k = one_number_call calls.Show id a b h k
one_answer (Some Count) (Ok a) (Ok b) h k = ap Ok (same_list a b (h ∙ sym k))
one_answer (Some Count) (Ok a) (Err why) h k = absurd k
one_answer (Some Count) (Err why) b h k = absurd h
one_answer (Some (After point)) a b h k = one_number_call calls.After point a b h k
one_answer (Some (Instance digits)) (Ok a) (Ok b) h k =
    let same = same_ok h.0 k.0 (one_unit digits (Ok h.0) (Ok k.0) h.1 k.1) in
    ap Ok (same_list a b (h.2 ∙ ap (λ unit. calls.Declare unit ∷ []) same ∙ sym k.2))
one_answer (Some (Instance digits)) (Ok a) (Err why) h k = absurd (never_both h.0 why (one_unit digits (Ok h.0) (Err why) h.1 k))
one_answer (Some (Instance digits)) (Err why) (Ok b) h k = absurd (never_both k.0 why (one_unit digits (Ok k.0) (Err why) k.1 h))
one_answer (Some (Instance digits)) (Err why) (Err other) h k = ap Err (same_err Unit64 why other (one_unit digits (Err why) (Err other) h k))

-- words are read in one way
pub one_reading : (words : List (List ℕ)) (a b : Line) → ReadsWords words a → ReadsWords words b → a ≡ b
one_reading words lines.Skip lines.Skip h k = refl
one_reading words lines.Skip (lines.Bad why) h k = absurd (let both = sym h ∙ k.0 in cc)
one_reading words lines.Skip (lines.Calls list) h k = absurd (let both = sym h ∙ k.0 in cc)
one_reading words (lines.Bad why) lines.Skip h k = absurd (let both = sym k ∙ h.0 in cc)
one_reading words (lines.Bad why) (lines.Bad other) h k = ap lines.Bad (same_err (ArrayVec Call) why other (one_answer (request_of words) (Err why) (Err other) h.1 k.1))
one_reading words (lines.Bad why) (lines.Calls list) h k = absurd (never_both list why (one_answer (request_of words) (Ok list) (Err why) k.1 h.1))
one_reading words (lines.Calls list) lines.Skip h k = absurd (let both = sym k ∙ h.0 in cc)
one_reading words (lines.Calls list) (lines.Bad why) h k = absurd (never_both list why (one_answer (request_of words) (Ok list) (Err why) h.1 k.1))
one_reading words (lines.Calls list) (lines.Calls other) h k = ap lines.Calls (same_ok list other (one_answer (request_of words) (Ok list) (Ok other) h.1 k.1))

-- what words were read as is what they are read as
pub reading : (words : List (List ℕ)) (result read : Line) → ReadsWords words result → (result ≡ read) ↔ ReadsWords words read
reading words result read h = (λ same. subst (ReadsWords words) same h, λ other. one_reading words result read h other)
