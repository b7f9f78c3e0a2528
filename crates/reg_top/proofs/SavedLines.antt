-- Where the history of a file begins: its lines one after the other, up to the first that begins one.
use Rattle.std.proofs.Common.{◌≡◌, ℕ, zero, suc, ◌+◌, ◌<◌, ◌≤◌, List, [], ◌∷◌, ◌++◌, take, drop, get_or, length, refl, sym, ◌∙◌, ap, subst, append_assoc, append-nil, add-one, arith, drop-cons}
use Rattle.std.proofs.Common.{inl, inr}
use Rattle.std.specs.Prelude.{Contains}
use Rattle.std.specs.List.{flat_map}
use Rattle.std.proofs.lemmas.Grind.{flat_map-append}
use Rattle.std.proofs.lemmas.List.{append_cancel_left, take-append-drop, take_all}
use Rattle.std.proofs.lemmas.Bool.{cases_lt}
use Rattle.std.proofs.lemmas.List.Elements.{Contains-append_cases, Contains-append_right}
use Rattle.reg_requests.specs.Lines.{line}
use Rattle.reg_requests.specs.Words.{lines_of}
use Rattle.reg_requests.proofs.FirstLine.{cut_at, no_cut}
use Rattle.reg_top.specs.SavedHistories.{head, IsSavedHistory, HasNoHistory}

-- ---- elements

behind_first : (x y : List ℕ) (xs : List (List ℕ)) → Contains xs y → Contains (x ∷ xs) y
behind_first x y xs has = (suc has.0, let within : has.0 < length xs = has.1 in omega arith, has.2)

pub first_or_behind : (x y : List ℕ) (xs : List (List ℕ)) → Contains (x ∷ xs) y → (x ≡ y → ⊥) → Contains xs y
first_or_behind x y xs (zero, within, is) other = absurd (other is)
first_or_behind x y xs (suc k, within, is) other = (k, omega (arith, within), is)

pub none : (y : List ℕ) → Contains [] y → ⊥
none y has = omega (arith, has.1)

one_more : (xs : List (List ℕ)) (x y : List ℕ) → (Contains xs y → ⊥) → (x ≡ y → ⊥) → Contains (xs ++ x ∷ []) y → ⊥
one_more xs x y before other has =
    elim (Contains-append_cases xs (x ∷ []) y has) [ inl earlier ↦ before earlier | inr last ↦ none y (first_or_behind x y [] last other) ]

-- lists that agree up to the first place of an element have the same elements before it
same_before : (xs ys us vs : List (List ℕ)) (y : List ℕ) → (Contains xs y → ⊥) → (Contains ys y → ⊥) → xs ++ y ∷ us ≡ ys ++ y ∷ vs → xs ≡ ys
same_before [] [] us vs y f g e = refl
same_before [] (z ∷ ys) us vs y f g e = absurd (g (0, omega arith, (cc)))
same_before (z ∷ xs) [] us vs y f g e = absurd (f (0, omega arith, (cc)))
same_before (z ∷ xs) (w ∷ ys) us vs y f g e =
    let rest : xs ≡ ys = same_before xs ys us vs y (λ has. f (behind_first z y xs has)) (λ has. g (behind_first w y ys has)) (cc) in
    cc

-- ---- one history in a file

-- a file has one saved history
pub one_saved : (file a b : List ℕ) → IsSavedHistory file a → IsSavedHistory file b → a ≡ b
one_saved file a b h k =
    let same : h.before ≡ k.before = same_before h.before k.before h.more k.more head h.first k.first (sym h.lines ∙ k.lines) in
    append_cancel_left (flat_map line h.before) a b (sym h.whole ∙ k.whole ∙ ap (λ ls. flat_map line ls ++ b) (sym same))

-- or none
pub saved_or_none : (file text : List ℕ) → IsSavedHistory file text → HasNoHistory file → ⊥
saved_or_none file text h absent = absent (subst (λ ls. Contains ls head) (sym h.lines) (Contains-append_right h.before (head ∷ h.more) head (0, omega arith, refl)))

-- ---- line by line

-- the lines before the rest are passed, and none of them begins a history
pub record Passed (file rest : List ℕ) : Type 0 where
  pub before : List (List ℕ)
  pub lines : lines_of file ≡ before ++ lines_of rest
  pub first : Contains before head → ⊥
  pub whole : file ≡ flat_map line before ++ rest

pub nothing_passed : (file : List ℕ) → Passed file file
nothing_passed file = record { before = []; lines = refl; first = none head; whole = refl }

-- the first line of the rest ends here, at its line feed or at the end of all
pub record EndsAt (rest : List ℕ) (at : ℕ) : Type 0 where
  pub within : at ≤ length rest
  pub before : (k : ℕ) → k < at → get_or rest k 0 ≡ 10 → ⊥
  pub found : at < length rest → get_or rest at 0 ≡ 10

parts : (rest : List ℕ) (at : ℕ) → EndsAt rest at → at < length rest → rest ≡ line (take at rest) ++ drop (at + 1) rest
parts rest at ends within =
    sym (take-append-drop at rest)
    ∙ ap (λ tail. take at rest ++ tail) (drop-cons rest at 0 within ∙ ap (λ byte. byte ∷ drop (suc at) rest) (ends.found within))
    ∙ sym (append_assoc (take at rest) (10 ∷ []) (drop (suc at) rest))
    ∙ ap (λ n. line (take at rest) ++ drop n rest) (sym (add-one at))

-- one more line is passed
pub passed_more : (file rest : List ℕ) (at : ℕ) → Passed file rest → EndsAt rest at → at < length rest → (take at rest ≡ head → ⊥) → Passed file (drop (at + 1) rest)
passed_more file rest at p ends within other =
    let first = take at rest in
    let tail = drop (at + 1) rest in
    let cut : lines_of rest ≡ first ∷ lines_of tail = cut_at rest at ends.before within (ends.found within) in
    record {
      before = p.before ++ first ∷ [];
      lines = p.lines ∙ ap (λ ls. p.before ++ ls) cut ∙ sym (append_assoc p.before (first ∷ []) (lines_of tail));
      first = one_more p.before first head p.first other;
      whole = p.whole
          ∙ ap (λ t. flat_map line p.before ++ t) (parts rest at ends within)
          ∙ sym (append_assoc (flat_map line p.before) (line first) tail)
          ∙ ap (λ t. t ++ tail) (ap (λ t. flat_map line p.before ++ t) (sym (append-nil (line first))) ∙ sym (flat_map-append line p.before (first ∷ [])));
    }

first_line : (rest : List ℕ) (at : ℕ) → EndsAt rest at → 0 < length rest → (more : List (List ℕ)) × (lines_of rest ≡ take at rest ∷ more)
first_line rest at ends some =
    elim (cases_lt at (length rest)) [
      | inl within ↦ (lines_of (drop (at + 1) rest), cut_at rest at ends.before within (ends.found within))
      | inr all ↦ ([], no_cut rest (λ k low. ends.before k (omega arith)) some ∙ ap (λ first. first ∷ []) (sym (take_all at rest all)))
    ]

-- the first line of the rest begins a history
pub begins_there : (file rest : List ℕ) (at : ℕ) → Passed file rest → EndsAt rest at → 0 < length rest → take at rest ≡ head → IsSavedHistory file rest
begins_there file rest at p ends some is =
    let first = first_line rest at ends some in
    record {
      before = p.before;
      more = first.0;
      lines = p.lines ∙ ap (λ ls. p.before ++ ls) (first.1 ∙ ap (λ l. l ∷ first.0) is);
      first = p.first;
      whole = p.whole;
    }

-- the last line begins none
pub none_last : (file rest : List ℕ) (at : ℕ) → Passed file rest → EndsAt rest at → 0 < length rest → at ≡ length rest → (take at rest ≡ head → ⊥) → HasNoHistory file
none_last file rest at p ends some end other = λ has.
    let whole : take at rest ≡ rest = take_all at rest (omega arith) in
    let last : lines_of rest ≡ rest ∷ [] = no_cut rest (λ k low. ends.before k (omega arith)) some in
    one_more p.before rest head p.first (λ is. other (whole ∙ is)) (subst (λ ls. Contains ls head) (p.lines ∙ ap (λ ls. p.before ++ ls) last) has)

-- no line is left
pub none_left : (file rest : List ℕ) → Passed file rest → length rest ≡ 0 → HasNoHistory file
none_left file [] p empty = λ has. p.first (subst (λ ls. Contains ls head) (p.lines ∙ append-nil p.before) has)
none_left file (byte ∷ rest) p empty = absurd (omega (arith, empty))
