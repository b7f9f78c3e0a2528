-- The parts of a text as slices of it.
use Rattle.std.proofs.Common.{◌≡◌, ℕ, ◌+◌, ◌-◌, ◌<◌, ◌≤◌, List, [], ◌∷◌, ◌++◌, length, take, drop, get_or, map, false, sym, ◌∙◌, ap, arith, inl, inr, subst}
use Rattle.std.specs.Prelude.{◌⊎◌}
use Rattle.std.specs.List.{AllPass}
use Rattle.std.proofs.lemmas.List.{take-append-drop, length-take-le, get_or-drop, drop_more, take_all, take_more}
use Rattle.iscc_text.specs.Texts.{is_blank, is_allowed, is_no_colon, capital, IsScheme, IsTrimmed, IsBehindScheme, HasOther}
use Rattle.iscc_text.proofs.TextParts.{name_scheme}

-- the blanks at both ends are cut off
pub trimmed_slices : (text behind : List ℕ) (start n : ℕ) → behind ≡ drop start text → start ≤ length text → AllPass is_blank (take start text) → is_blank (get_or text start 0) ≡ false
    → n ≤ length behind → AllPass is_blank (drop n behind) → is_blank (get_or (take n behind) (n - 1) 0) ≡ false
    → IsTrimmed text (take start text) (take n behind) (drop n behind)
trimmed_slices text behind start n e within blank_before first fits blank_after last =
    let joined : take n behind ++ drop n behind ≡ drop start text = take-append-drop n behind ∙ e in
    let here : start + 0 ≡ start = omega arith in
    record {
      whole = sym (take-append-drop start text) ∙ ap (λ t. take start text ++ t) (sym joined);
      blank_before = blank_before;
      blank_after = blank_after;
      first = ap (λ t. is_blank (get_or t 0 0)) joined ∙ ap is_blank (get_or-drop start text 0 0 ∙ ap (λ k. get_or text k 0) here) ∙ first;
      last = ap (λ k. is_blank (get_or (take n behind) (k - 1) 0)) (length-take-le n behind fits) ∙ last;
    }

named_slice : (core m : List ℕ) (head : ℕ) → m ≡ drop head core → (head ≡ 0 × AllPass is_no_colon core) ⊎ IsScheme (take head core)
    → (take head core ≡ [] × AllPass is_no_colon m) ⊎ IsScheme (take head core)
named_slice core m head e (inl none) =
    let same : m ≡ core = e ∙ ap (λ k. drop k core) none.0 in
    let P : List ℕ → Type 0 = λ t. AllPass is_no_colon t in
    inl (ap (λ k. take k core) none.0, subst P (sym same) none.1)
named_slice core m head e (inr named) = inr named

-- the letters stand behind the scheme
pub behind_scheme : (text before core after m : List ℕ) (head place : ℕ) → IsTrimmed text before core after → head ≤ length core → m ≡ drop head core
    → (head ≡ 0 × AllPass is_no_colon core) ⊎ IsScheme (take head core) → place ≡ length before + head → IsBehindScheme text m place
behind_scheme text before core after m head place trimmed fits e named at =
    let whole : core ≡ take head core ++ m = sym (take-append-drop head core) ∙ ap (λ t. take head core ++ t) (sym e) in
    record {
      before = before;
      scheme = take head core;
      after = after;
      trimmed = subst (λ t. IsTrimmed text before t after) whole trimmed;
      named = named_slice core m head e named;
      at = at ∙ ap (λ k. length before + k) (sym (length-take-le head core fits));
    }

-- the scheme ends with the colon
pub scheme_slice : (core : List ℕ) (at : ℕ) → at < length core → get_or core at 0 ≡ 58 → map capital (take at core) ≡ 73 ∷ 83 ∷ 67 ∷ 67 ∷ [] → IsScheme (take (at + 1) core)
scheme_slice core at h colon name =
    subst (λ t. IsScheme t) (sym (take_more core at 0 h ∙ ap (λ b. take at core ++ b ∷ []) colon)) (name_scheme (take at core) name)

pub colon_slice : (core : List ℕ) (at : ℕ) → at < length core → get_or core at 0 ≡ 58 → core ≡ take at core ++ 58 ∷ drop (at + 1) core
colon_slice core at h colon =
    sym (take-append-drop at core) ∙ ap (λ t. take at core ++ t) (drop_more core at 0 h ∙ ap (λ b. b ∷ drop (at + 1) core) colon)

-- all of the letters may stand there, or there is a first other byte
pub all_allowed : (m : List ℕ) (good : ℕ) → AllPass is_allowed (take good m) → length m ≤ good → AllPass is_allowed m
all_allowed m good h all = subst (λ t. AllPass is_allowed t) (take_all good m all) h

pub first_other : (m : List ℕ) (place good : ℕ) → good < length m → AllPass is_allowed (take good m) → is_allowed (get_or m good 0) ≡ false → HasOther m place (place + good)
first_other m place good h allowed other = record {
  good = take good m;
  other = get_or m good 0;
  rest = drop (good + 1) m;
  whole = sym (take-append-drop good m) ∙ ap (λ t. take good m ++ t) (drop_more m good 0 h);
  allowed = allowed;
  unallowed = other;
  is = ap (λ k. place + k) (sym (length-take-le good m (omega arith)));
}
