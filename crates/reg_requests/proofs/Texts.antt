-- Texts that are appended piece by piece.
use Rattle.std.proofs.Common.{◌≡◌, ℕ, List, [], ◌∷◌, ◌++◌, map, length, take, sym, ◌∙◌, ap, append_assoc, append-nil}
use Rattle.std.specs.Prelude.{codes}
use Rattle.std.specs.List.{flat_map}
use Rattle.std.specs.Fmt.{decimal}
use Rattle.std.proofs.Math.Seq.{take-append_seam}
use Rattle.reg_model.specs.declared.reply.Hit.{Hit}
use Rattle.reg_model.specs.declared.reply.Reply.TheVariants.{Hits}
use Rattle.reg_requests.specs.Lines.{spaced, hit_text, reply_text}
use Rattle.reg_requests.specs.inner.Printing.{Grows}

-- a word and others behind it: a space before each
pub spaced-map : {X : Type 0} (f : X → List ℕ) (word : List ℕ) (xs : List X) → spaced (word ∷ map f xs) ≡ word ++ flat_map (λ x. 32 ∷ f x) xs
spaced-map f word [] = sym (append-nil word)
spaced-map f word (x ∷ xs) = ap (λ t. word ++ 32 ∷ t) (spaced-map f (f x) xs)

-- the number of hits, and then each of them
pub hits_pieces : (kind : ℕ) (hits : List Hit) (before out after : List ℕ) → out ≡ before ++ (codes "hits " ++ decimal (length hits))
    → after ≡ out ++ flat_map (λ hit. 32 ∷ hit_text kind hit) hits → after ≡ before ++ reply_text kind (Hits hits)
hits_pieces kind hits before out after first rest =
    rest ∙ ap (λ o. o ++ flat_map (λ hit. 32 ∷ hit_text kind hit) hits) first
    ∙ append_assoc before (codes "hits " ++ decimal (length hits)) (flat_map (λ hit. 32 ∷ hit_text kind hit) hits)
    ∙ ap (λ t. before ++ (codes "hits " ++ t)) (sym (spaced-map (hit_text kind) (decimal (length hits)) hits))

-- a text with nothing more
pub grows_same : (old new : List ℕ) → new ≡ old → Grows old new
grows_same old new e = ([], e ∙ sym (append-nil old))

-- a text that grew by a piece, and then by more
pub grows_behind : (old middle new piece : List ℕ) → middle ≡ old ++ piece → Grows middle new → Grows old new
grows_behind old middle new piece e more = (piece ++ more.0, more.1 ∙ ap (λ t. t ++ more.0) e ∙ append_assoc old piece more.0)

-- what is taken back is what came behind
pub taken_back : (old new : List ℕ) → Grows old new → take (length old) new ≡ old
taken_back old new more = ap (take (length old)) more.1 ∙ take-append_seam old more.0
