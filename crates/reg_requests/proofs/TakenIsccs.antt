-- The text of a line is taken as an ISCC exactly where it stands for one.
use Rattle.std.proofs.Common.{◌≡◌, ℕ, List, [], ◌∷◌, map, true, Some, None, Ok, Err, refl, sym, ◌∙◌, ap, subst, inl, inr}
use Rattle.std.specs.List.{filter_map}
use Rattle.std.proofs.lemmas.Bool.{eqb-true, false≢true}
use Rattle.arrayvec.specs.ArrayVec.{ArrayVec}
use Rattle.iscc_header.specs.declared.unit.Unit64.{Unit64}
use Rattle.iscc_code.specs.declared.iscc.Iscc.{Iscc}
use Rattle.iscc_text.specs.Texts.{StandsFor}
use Rattle.reg_model.specs.declared.call.Call.{Call}
use Rattle.reg_model.specs.declared.call.Call.TheVariants as calls
use Rattle.reg_requests.specs.declared.items.BadLine.{BadLine}
use Rattle.reg_requests.specs.declared.items.BadLine.TheVariants as bad
use Rattle.reg_requests.specs.declared.items.Line.{Line}
use Rattle.reg_requests.specs.declared.items.Line.TheVariants as lines
use Rattle.reg_requests.specs.Requests.{Request, Declare, Withdraw, Near, Show, Count, After, Instance, request_of, is_skipped, TextMeans, RequestMeans, ReadsWords}
use Rattle.reg_requests.specs.TakenIsccs.{asked_text, HasIsccText, unit_in, AsksForIscc, AreCallsOf, TakesIscc}

-- the units that calls were made of
declared_units : (units : List Unit64) → filter_map unit_in (map calls.Declare units) ≡ units
declared_units [] = refl
declared_units (unit ∷ units) = ap (λ rest. unit ∷ rest) (declared_units units)

asked_units : (radius : ℕ) (units : List Unit64) → filter_map unit_in (map (λ unit. calls.Near unit radius) units) ≡ units
asked_units radius [] = refl
asked_units radius (unit ∷ units) = ap (λ rest. unit ∷ rest) (asked_units radius units)

-- a text that stands for no ISCC
abbrev NoCode : List ℕ → Type 0
NoCode text = (iscc : Iscc) → StandsFor text iscc → ⊥

-- the fault of a text that stands for none
text_fault : (text : List ℕ) (why : BadLine) → NoCode text → TextMeans text (Err why) → why ≡ bad.Text
text_fault text bad.Text none means = refl
text_fault text bad.Short none means = absurd (none means.0 means.1)
text_fault text why none means = absurd means

no_code : (text : List ℕ) (units : ArrayVec Unit64) → NoCode text → TextMeans text (Ok units) → ⊥
no_code text units none means = none means.0 means.1

-- a refusal of the request
refused_why : (request : Request) (text : List ℕ) (why : BadLine) → asked_text request ≡ Some text → NoCode text → RequestMeans (Some request) (Err why) → why ≡ bad.Text
refused_why (Declare given) text why e none means = text_fault given why (subst NoCode (let same : text ≡ given = cc in same) none) means
refused_why (Near given number) text why e none (inl means) = text_fault given why (subst NoCode (let same : text ≡ given = cc in same) none) means
refused_why (Near given number) text why e none (inr means) = absurd (no_code given means.0 (subst NoCode (let same : text ≡ given = cc in same) none) means.1)
refused_why (Withdraw id) text why e none means = absurd (cc)
refused_why (Show id) text why e none means = absurd (cc)
refused_why Count text why e none means = absurd (cc)
refused_why (After point) text why e none means = absurd (cc)
refused_why (Instance digits) text why e none means = absurd (cc)

stands_for_none : (request : Request) (text : List ℕ) → asked_text request ≡ Some text → RequestMeans (Some request) (Err bad.Text) → NoCode text
stands_for_none (Declare given) text e means = subst NoCode (let same : given ≡ text = cc in same) means
stands_for_none (Near given number) text e (inl means) = subst NoCode (let same : given ≡ text = cc in same) means
stands_for_none (Near given number) text e (inr means) = absurd means.2
stands_for_none (Withdraw id) text e means = absurd (cc)
stands_for_none (Show id) text e means = absurd (cc)
stands_for_none Count text e means = absurd (cc)
stands_for_none (After point) text e means = absurd (cc)
stands_for_none (Instance digits) text e means = absurd (cc)

-- the calls of the request
calls_of_iscc : (request : Request) (text : List ℕ) (list : ArrayVec Call) → asked_text request ≡ Some text → RequestMeans (Some request) (Ok list) → AsksForIscc text list.items
calls_of_iscc (Declare given) text list e means =
    let same : given ≡ text = cc in
    let code = means.1 in
    (code.0, subst (λ t. StandsFor t code.0) same code.1, code.2 ∙ ap Some (sym (declared_units means.0.items) ∙ ap (filter_map unit_in) (sym means.2)))
calls_of_iscc (Near given number) text list e means =
    let same : given ≡ text = cc in
    let code = means.2 in
    (code.0, subst (λ t. StandsFor t code.0) same code.1, code.2 ∙ ap Some (sym (asked_units means.1 means.0.items) ∙ ap (filter_map unit_in) (sym means.4)))
calls_of_iscc (Withdraw id) text list e means = absurd (cc)
calls_of_iscc (Show id) text list e means = absurd (cc)
calls_of_iscc Count text list e means = absurd (cc)
calls_of_iscc (After point) text list e means = absurd (cc)
calls_of_iscc (Instance digits) text list e means = absurd (cc)

-- a request isn't skipped
kept_request : (words : List (List ℕ)) (request : Request) → request_of words ≡ Some request → is_skipped words ≡ true → ⊥
kept_request [] request e skip = cc
kept_request ([] ∷ words) request e skip = false≢true skip
kept_request ((first ∷ word) ∷ words) request e skip =
    let comment : first ≡ 35 = eqb-true first 35 skip in
    let none : request_of ((first ∷ word) ∷ words) ≡ None = rw comment (refl {a = None}) in
    let both : Some request ≡ None = sym e ∙ none in
    cc

read_refused : (words : List (List ℕ)) (text : List ℕ) (read : Line) (request : Request) → request_of words ≡ Some request → asked_text request ≡ Some text → ReadsWords words read → NoCode text → read ≡ lines.Bad bad.Text
read_refused words text lines.Skip request is e reads none = absurd (kept_request words request is reads)
read_refused words text (lines.Bad why) request is e reads none =
    ap (λ w. lines.Bad w) (refused_why request text why e none (subst (λ r. RequestMeans r (Err why)) is reads.1))
read_refused words text (lines.Calls list) request is e reads none =
    let code = calls_of_iscc request text list e (subst (λ r. RequestMeans r (Ok list)) is reads.1) in
    absurd (none code.0 code.1)

read_taken : (words : List (List ℕ)) (text : List ℕ) (read : Line) (request : Request) → request_of words ≡ Some request → asked_text request ≡ Some text → ReadsWords words read → AreCallsOf text read
read_taken words text lines.Skip request is e reads = tt
read_taken words text (lines.Bad why) request is e reads = tt
read_taken words text (lines.Calls list) request is e reads = calls_of_iscc request text list e (subst (λ r. RequestMeans r (Ok list)) is reads.1)

pub takes_iscc : (words : List (List ℕ)) (text : List ℕ) (read : Line) → HasIsccText words text → ReadsWords words read → TakesIscc text read
takes_iscc words text read has reads =
    let request = has.0 in
    record {
      refused = (
        λ e.
            let refusal : ReadsWords words (lines.Bad bad.Text) = subst (ReadsWords words) e reads in
            stands_for_none request text has.2 (subst (λ r. RequestMeans r (Err bad.Text)) has.1 refusal.1),
        λ none. read_refused words text read request has.1 has.2 reads none,
      );
      taken = read_taken words text read request has.1 has.2 reads;
    }
