-- The words behind the first, passed one by one.
use Rattle.std.proofs.Common.{◌≡◌, ℕ, ◌+◌, ◌≤◌, List, [], ◌∷◌, ◌++◌, length, take, drop, Some, sym, ◌∙◌, ap, subst, add-one}
use Rattle.std.specs.Prelude.{All, slice_get}
use Rattle.std.specs.List.{AllZip}
use Rattle.std.proofs.lemmas.Option.{none-some, slice_get_within, get_or_from_slice_get}
use Rattle.std.proofs.lemmas.List.{take_all, take_more, take-append-drop, drop_more}
use Rattle.std.proofs.lemmas.List.Elements.{All-more}

pub behind_first : (words : List (List ℕ)) (k : ℕ) (text : List ℕ) → slice_get words (k + 1) ≡ Some text → slice_get (drop 1 words) k ≡ Some text
behind_first [] k text at = absurd (none-some text at)
behind_first (word ∷ words) k text at = rw add-one at at

-- ---- each of them

pub each_more : {X : Type 0} (P : X → Type 0) (xs : List X) (k : ℕ) (x : X) → slice_get xs k ≡ Some x → All P (take k xs) → P x → All P (take (k + 1) xs)
each_more P xs k x at before is = All-more P xs k x (slice_get_within xs k x at) before (subst P (sym (get_or_from_slice_get xs k x x at)) is)

pub each_all : {X : Type 0} (P : X → Type 0) (xs : List X) (k : ℕ) → length xs ≤ k → All P (take k xs) → All P xs
each_all P xs k long are = subst (All P) (take_all k xs long) are

-- ---- each of them beside what comes of it

pub front_more : {X : Type 0} (xs : List X) (k : ℕ) (x : X) → slice_get xs k ≡ Some x → take (k + 1) xs ≡ take k xs ++ x ∷ []
front_more xs k x at = take_more xs k x (slice_get_within xs k x at) ∙ ap (λ y. take k xs ++ y ∷ []) (get_or_from_slice_get xs k x x at)

pub cut_at : {X : Type 0} (xs : List X) (k : ℕ) (x : X) → slice_get xs k ≡ Some x → xs ≡ take k xs ++ x ∷ drop (k + 1) xs
cut_at xs k x at =
    sym (take-append-drop k xs) ∙ ap (λ l. take k xs ++ l) (drop_more xs k x (slice_get_within xs k x at) ∙ ap (λ y. y ∷ drop (k + 1) xs) (get_or_from_slice_get xs k x x at))

zip_push : {A B : Type 0} (R : A → B → Type 0) (xs : List A) (ys : List B) (x : A) (y : B) → AllZip R xs ys → R x y → AllZip R (xs ++ x ∷ []) (ys ++ y ∷ [])
zip_push R [] [] x y zip is = (is, tt)
zip_push R [] (v ∷ ys) x y zip is = absurd zip
zip_push R (u ∷ xs) [] x y zip is = absurd zip
zip_push R (u ∷ xs) (v ∷ ys) x y zip is = (zip.0, zip_push R xs ys x y zip.1 is)

pub zip_more : {A B : Type 0} (R : A → B → Type 0) (xs : List A) (k : ℕ) (x : A) (ys : List B) (y : B) → slice_get xs k ≡ Some x → AllZip R (take k xs) ys → R x y
    → AllZip R (take (k + 1) xs) (ys ++ y ∷ [])
zip_more R xs k x ys y at zip is = subst (λ front. AllZip R front (ys ++ y ∷ [])) (sym (front_more xs k x at)) (zip_push R (take k xs) ys x y zip is)

pub zip_all : {A B : Type 0} (R : A → B → Type 0) (xs : List A) (k : ℕ) (ys : List B) → length xs ≤ k → AllZip R (take k xs) ys → AllZip R xs ys
zip_all R xs k ys long zip = subst (λ front. AllZip R front ys) (take_all k xs long) zip
