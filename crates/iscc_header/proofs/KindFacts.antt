-- The table of kinds has each pair once.
use Rattle.std.proofs.Common.{◌≡◌, ℕ, ◌+◌, ◌<◌, ◌&&◌, Some, refl, sym, ◌∙◌, ap}
use Rattle.std.specs.Prelude.{slice_get, Contains, nat_lt, ◌==◌, if◌then◌else◌}
use Rattle.std.proofs.lemmas.Bool.{and_parts, eqb-true, ltb-true}
use Rattle.std.proofs.lemmas.Option.{slice_get-get_or, slice_get_within, get_or_from_slice_get}
use Rattle.std.proofs.lemmas.List.Elements.{Contains-get_or}
use Rattle.iscc_header.specs.Kinds.{kinds, main_of, sub_of}
use Rattle.iscc_header.proofs.EachBelow.{each_below}

-- the number of a pair in the table of kinds
unfoldable kind_at : ℕ × ℕ → ℕ
kind_at p = if nat_lt p.0 1 then 0 else if nat_lt p.0 2 then 1 + p.1 else if nat_lt p.0 3 then 6 + p.1 else 8 + p.0

kind_at-pair : (k : ℕ) → k < 13 → kind_at (main_of k, sub_of k) ≡ k
unfolding kind_at
kind_at-pair k h = eqb-true _ _ (each_below 13 (λ k. kind_at (main_of k, sub_of k) == k) refl k h)

-- what stands at a place of the table
pub kind_pair : (k : ℕ) → k < 13 → slice_get kinds k ≡ Some (main_of k, sub_of k)
kind_pair k h = slice_get-get_or kinds k (0, 0) h

-- a pair stands at one place alone
pub same_kind : (i k : ℕ) → k < 13 → slice_get kinds i ≡ Some (main_of k, sub_of k) → i ≡ k
same_kind i k h e =
    sym (kind_at-pair i (slice_get_within kinds i _ e)) ∙ ap kind_at (get_or_from_slice_get kinds i _ (0, 0) e) ∙ kind_at-pair k h

-- each pair of a kind is in the table
pub contains_kind : (k : ℕ) → k < 13 → Contains kinds (main_of k, sub_of k)
contains_kind k h = Contains-get_or kinds k (0, 0) h

-- both numbers of a kind are small
pub small_pair : (k : ℕ) → k < 13 → (main_of k < 5) × (sub_of k < 5)
small_pair k h =
    let parts = and_parts _ _ (each_below 13 (λ k. nat_lt (main_of k) 5 && nat_lt (sub_of k) 5) refl k h) in
    (ltb-true _ _ parts.0, ltb-true _ _ parts.1)
