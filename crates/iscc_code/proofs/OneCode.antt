-- Bytes encode one ISCC at most, or have one first fault.
use Rattle.std.proofs.Common.{◌≡◌, ℕ, List, ◌++◌, length, Some, Result, Ok, Err, refl, sym, ◌∙◌, ap, ap₂, inl, inr, arith, subst}
use Rattle.std.specs.Prelude.{◌⊎◌, is_ok, MatchResult}
use Rattle.std.proofs.lemmas.List.{append_cancel_left}
use Rattle.std.proofs.lemmas.Bool.{false≢true}
use Rattle.std.proofs.lemmas.Option.{none-some, same_Some}
use Rattle.iscc_header.specs.Headers.{Numbers, EncodesHeader}
use Rattle.iscc_header.specs.Kinds.{main_of, sub_of}
use Rattle.iscc_header.specs.inner.Reading.{ReadsHeader}
use Rattle.iscc_header.specs.declared.header.HeaderFault.{HeaderFault}
use Rattle.iscc_header.specs.declared.header.HeaderFault.TheVariants as header_faults
use Rattle.iscc_header.proofs.HeaderReading.{one_header, header_complete, header_short, header_lacking, header_padding}
use Rattle.iscc_header.proofs.BitLists.{same_bytes}
use Rattle.iscc_header.proofs.KindFacts.{same_kind, kind_pair, small_pair}
use Rattle.iscc_code.specs.Units.{UnitParts, IsUnit, unit_header}
use Rattle.iscc_code.specs.Composites.{CodeParts, code_header}
use Rattle.iscc_code.specs.Codes.{IsHeaderAndBody, IsIscc, header_of, body_of, EncodesIscc, HasHeaderFault, HasBodyFault, HasFault, fault_of}
use Rattle.iscc_code.specs.inner.Decoding.{DecodesTo, HasParts, IsFirstFault, IsBehindHeader}
use Rattle.iscc_code.specs.declared.iscc.Iscc.{Iscc}
use Rattle.iscc_code.specs.declared.iscc.Iscc.TheVariants as codes
use Rattle.iscc_code.specs.declared.iscc.IsccFault.{IsccFault}
use Rattle.iscc_code.specs.declared.iscc.IsccFault.TheVariants as faults
use Rattle.iscc_code.proofs.CodeBodies.{same_composite}
use Rattle.iscc_code.proofs.CodeFaults.{no_fault_in}

-- one header and one body
pub same_parts : (bytes : List ℕ) (g h : Numbers) (x y : List ℕ) → IsHeaderAndBody bytes g x → IsHeaderAndBody bytes h y → (g ≡ h) × (x ≡ y)
same_parts bytes g h x y a b =
    let both : a.front ++ x ≡ b.front ++ y = sym a.whole ∙ b.whole in
    let same = one_header g h a.front b.front x y a.encoded b.encoded both in
    (same.0, append_cancel_left b.front x y (ap (λ front. front ++ x) (sym same.1) ∙ both))

-- a unit is told by its header and its body
same_unit : (u v : UnitParts) → IsUnit u → IsUnit v → unit_header u ≡ unit_header v → u.body ≡ v.body → u ≡ v
same_unit u v a b header body =
    let main : main_of u.kind ≡ main_of v.kind = ap (λ (n : Numbers). n.main) header in
    let sub : sub_of u.kind ≡ sub_of v.kind = ap (λ (n : Numbers). n.sub) header in
    let kind : u.kind ≡ v.kind = same_kind u.kind v.kind b.kind (kind_pair u.kind a.kind ∙ ap₂ (λ m s. Some (m, s)) main sub) in
    let makes : ℕ → List ℕ → UnitParts = λ k bs. record { kind = k; body = bs } in
    ap₂ makes kind body

-- a unit's MainType isn't that of an ISCC-CODE
unit_or_composite : (u : UnitParts) (c : CodeParts) → IsUnit u → unit_header u ≡ code_header c → ⊥
unit_or_composite u c h e =
    let main : main_of u.kind ≡ 5 = ap (λ (n : Numbers). n.main) e in
    omega (arith, (small_pair u.kind h.kind).0, main)

-- an ISCC is told by its header and its body
same_iscc_from : (a b : Iscc) → IsIscc a → IsIscc b → header_of a ≡ header_of b → body_of a ≡ body_of b → a ≡ b
same_iscc_from (codes.Unit u) (codes.Unit v) h k header body = ap codes.Unit (same_unit u v h k header body)
same_iscc_from (codes.Unit u) (codes.Code c) h k header body = absurd (unit_or_composite u c h header)
same_iscc_from (codes.Code c) (codes.Unit u) h k header body = absurd (unit_or_composite u c k (sym header))
same_iscc_from (codes.Code c) (codes.Code d) h k header body =
    ap codes.Code (same_composite c d h k (ap (λ (n : Numbers). n.len) header) (ap (λ (n : Numbers). n.sub) header) body)

pub same_iscc : (a b : Iscc) (bytes : List ℕ) → EncodesIscc a bytes → EncodesIscc b bytes → a ≡ b
same_iscc a b bytes s t =
    let same = same_parts bytes (header_of a) (header_of b) (body_of a) (body_of b) s.parts t.parts in
    same_iscc_from a b s.valid t.valid same.0 same.1

-- the answer of a reader of headers that has this fault
reads_fault : (bytes : List ℕ) (fault : HeaderFault) → HasHeaderFault bytes fault → ReadsHeader bytes (Err fault)
reads_fault bytes header_faults.Short h = h
reads_fault bytes header_faults.NoCode h = h
reads_fault bytes header_faults.Padding h = h

-- no header, or one
headless : (bytes : List ℕ) (fault : HeaderFault) (h : Numbers) (body : List ℕ) → HasHeaderFault bytes fault → IsHeaderAndBody bytes h body → ⊥
headless bytes fault h body f p =
    let other : Err fault ≡ Ok (h, length p.front) = header_complete bytes (Err fault) h p.front body (reads_fault bytes fault f) p.encoded p.whole in
    false≢true (ap is_ok other)

same_header_fault : (bytes : List ℕ) (f g : HeaderFault) → HasHeaderFault bytes f → HasHeaderFault bytes g → f ≡ g
same_header_fault bytes f header_faults.Short a b = (let same : Err f ≡ Err header_faults.Short = header_short bytes (Err f) (reads_fault bytes f a) b in cc)
same_header_fault bytes f header_faults.NoCode a b = (let same : Err f ≡ Err header_faults.NoCode = header_lacking bytes (Err f) (reads_fault bytes f a) b in cc)
same_header_fault bytes f header_faults.Padding a b = (let same : Err f ≡ Err header_faults.Padding = header_padding bytes (Err f) (reads_fault bytes f a) b in cc)

-- of the header, or of what is behind it
abbrev Cases : List ℕ → IsccFault → Type 0
Cases bytes fault = ((f : HeaderFault) × (fault ≡ faults.Header f) × HasHeaderFault bytes f) ⊎ HasBodyFault bytes fault

fault_cases : (bytes : List ℕ) (fault : IsccFault) → HasFault bytes fault → Cases bytes fault
fault_cases bytes (faults.Header f) h = inl (f, refl, h)
fault_cases bytes faults.MainType h = inr h
fault_cases bytes faults.Version h = inr h
fault_cases bytes faults.Length h = inr h
fault_cases bytes faults.SubType h = inr h
fault_cases bytes faults.Short h = inr h
fault_cases bytes faults.Long h = inr h

same_body_fault : (bytes : List ℕ) (f g : IsccFault) → HasBodyFault bytes f → HasBodyFault bytes g → f ≡ g
same_body_fault bytes f g a b =
    let same = same_parts bytes a.header b.header a.body b.body a.parts b.parts in
    same_Some f g (sym a.first ∙ ap₂ fault_of same.0 same.1 ∙ b.first)

same_fault : (bytes : List ℕ) (f g : IsccFault) → Cases bytes f → Cases bytes g → f ≡ g
same_fault bytes f g (inl a) (inl b) = a.1 ∙ ap faults.Header (same_header_fault bytes a.0 b.0 a.2 b.2) ∙ sym b.1
same_fault bytes f g (inl a) (inr b) = absurd (headless bytes a.0 b.header b.body a.2 b.parts)
same_fault bytes f g (inr a) (inl b) = absurd (headless bytes b.0 a.header a.body b.2 a.parts)
same_fault bytes f g (inr a) (inr b) = same_body_fault bytes f g a b

-- an ISCC has no fault
faultless : (iscc : Iscc) (bytes : List ℕ) (fault : IsccFault) → EncodesIscc iscc bytes → Cases bytes fault → ⊥
faultless iscc bytes fault s (inl a) = headless bytes a.0 (header_of iscc) (body_of iscc) a.2 s.parts
faultless iscc bytes fault s (inr a) =
    let same = same_parts bytes (header_of iscc) a.header (body_of iscc) a.body s.parts a.parts in
    none-some fault (sym (no_fault_in iscc s.valid) ∙ ap₂ fault_of same.0 same.1 ∙ a.first)

pub one_answer : (bytes : List ℕ) (a b : Result Iscc IsccFault) → DecodesTo bytes a → DecodesTo bytes b → a ≡ b
one_answer bytes (Ok u) (Ok v) a b = ap Ok (same_iscc u v bytes a b)
one_answer bytes (Ok u) (Err f) a b = absurd (faultless u bytes f a (fault_cases bytes f b))
one_answer bytes (Err f) (Ok u) a b = absurd (faultless u bytes f b (fault_cases bytes f a))
one_answer bytes (Err f) (Err g) a b = ap Err (same_fault bytes f g (fault_cases bytes f a) (fault_cases bytes g b))

-- a fault behind the header is one of the bytes
behind_header : (bytes : List ℕ) (fault : IsccFault) → IsBehindHeader fault → HasBodyFault bytes fault → HasFault bytes fault
behind_header bytes (faults.Header f) b h = absurd b
behind_header bytes faults.MainType b h = h
behind_header bytes faults.Version b h = h
behind_header bytes faults.Length b h = h
behind_header bytes faults.SubType b h = h
behind_header bytes faults.Short b h = h
behind_header bytes faults.Long b h = h

-- what is read from a header and what is behind it
pub decodes_from : (bytes front body : List ℕ) (h : Numbers) (r : Result Iscc IsccFault) → EncodesHeader h front → bytes ≡ front ++ body → MatchResult r (HasParts h body) (IsFirstFault h body) → DecodesTo bytes r
decodes_from bytes front body h (Ok iscc) s e has =
    let P : Numbers → Type 0 = λ n. EncodesHeader n front in
    record {
      valid = has.valid;
      parts = record { front = front; encoded = subst P (sym has.its_header) s; whole = e ∙ ap (λ rest. front ++ rest) (sym has.its_body) };
    }
decodes_from bytes front body h (Err fault) s e has =
    behind_header bytes fault has.behind (record { header = h; body = body; parts = record { front = front; encoded = s; whole = e }; first = has.first })

-- an ISCC has one encoding
same_front : (h : Numbers) (a b : List ℕ) → EncodesHeader h a → EncodesHeader h b → a ≡ b
same_front h a b s t = same_bytes a b s.range t.range (s.encoded ∙ sym t.encoded)

pub same_encoding : (iscc : Iscc) (a b : List ℕ) → EncodesIscc iscc a → EncodesIscc iscc b → a ≡ b
same_encoding iscc a b s t =
    s.parts.whole
    ∙ ap (λ front. front ++ body_of iscc) (same_front (header_of iscc) s.parts.front t.parts.front s.parts.encoded t.parts.encoded)
    ∙ sym t.parts.whole
