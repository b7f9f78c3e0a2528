-- The entries of a list by rising id, some of them live.
use Rattle.std.proofs.Common.{◌≡◌, ℕ, zero, suc, ◌+◌, ◌<◌, ◌≤◌, Bool, true, false, not, ◌&&◌, cond, List, [], ◌∷◌, ◌++◌, length, map, filter, find, set, take, drop, Some, None, refl, sym, ◌∙◌, ap, ap₂, subst, arith, append_assoc}
use Rattle.std.specs.Prelude.{All, AllPairs, count_by, nat_le, IsSomeAnd, slice_get, get_or, Result, Ok, Err, IfSome, IfNone}
use Rattle.std.specs.Result.{result_ok}
use Rattle.std.specs.List.Sorted.{IsSearchInRange, IsBinarySearchResult, IsNonDecreasingBy}
use Rattle.std.specs.Ordering.{nat_cmp, ordering_index}
use Rattle.std.proofs.lemmas.Cmp.{ranked}
use Rattle.std.proofs.lemmas.List.{length_push, length-set, drop_more, drop-set-lt, take_more_set, take-append-drop}
use Rattle.std.proofs.lemmas.List.Sorted.{IsNonDecreasingBy-from_default}
use Rattle.std.proofs.lemmas.Option.{slice_get-get_or, none-some}
use Rattle.std.proofs.lemmas.Bool.Decides.{nat_tests}
use Rattle.std.proofs.lemmas.Bool.{true≢false}
use Rattle.std.proofs.lemmas.List.Kept.{AllPairs-cons}
use Rattle.std.proofs.lemmas.List.Elements.{All-cons, All-head, All-tail, filter_passes}
use Rattle.std.proofs.lemmas.List.Sums.{length-filter, sum_by-cons, sum_by-set, sum_by_push}
use Rattle.iscc_header.specs.declared.unit.Unit64.{Unit64}
use Rattle.iscc_header.specs.Bits.{distance}
use Rattle.reg_model.specs.declared.update.Declared.{Declared}
use Rattle.reg_model.specs.declared.reply.Hit.{Hit}
use Rattle.reg_model.specs.Replies.{hit_of}
use Rattle.reg_model.proofs.Rising.{has_id, without}
use Rattle.reg_history.specs.declared.ledger.kind_list.Mark.{Mark}
use Rattle.reg_history.specs.inner.LiveSets.{is_live, declaration, live_in, live_bodies, Rises, AllBelow, IsLiveAt, IsNowhere, AreEntries, is_within, near_hit, near_hits}

-- ---- rising ids

rises-lower : (low higher : ℕ) (ms : List Mark) → low ≤ higher → Rises higher ms → Rises low ms
rises-lower low higher [] le h = tt
rises-lower low higher (m ∷ ms) le h = (omega (arith, le, h.0), h.1)

rises-filter : (p : Mark → Bool) (low : ℕ) (ms : List Mark) → Rises low ms → Rises low (filter p ms)
rises-filter p low [] h = tt
rises-filter p low (m ∷ ms) h =
    let rest = rises-filter p (m.id + 1) ms h.1 in
    elim (p m) as (λ b. Rises low (cond b (m ∷ filter p ms) (filter p ms)))
    [ true ↦ (h.0, rest) | false ↦ rises-lower low (m.id + 1) (filter p ms) (omega (arith, h.0)) rest ]

rises-push : (low : ℕ) (ms : List Mark) (y : Mark) → low ≤ y.id → Rises low ms → AllBelow y.id ms → Rises low (ms ++ y ∷ [])
rises-push low [] y le h below = (le, tt)
rises-push low (m ∷ ms) y le h below = (h.0, rises-push (m.id + 1) ms y (omega (arith, below.0)) h.1 below.1)

-- a mark is replaced by one of the same id
rises-set : (low place : ℕ) (ms : List Mark) (y d : Mark) → y.id ≡ (get_or ms place d).id → Rises low ms → Rises low (set ms place y)
rises-set low place [] y d same h = tt
rises-set low zero (m ∷ ms) y d same h = (rw same h.0, rw same h.1)
rises-set low (suc i) (m ∷ ms) y d same h = (h.0, rises-set (m.id + 1) i ms y d same h.1)

record IsOrdered (low : ℕ) (ms : List Mark) : Type 0 where
  above : All (λ (m : Mark). low ≤ m.id) ms
  pairs : AllPairs (λ (a b : Mark). a.id < b.id) ms

ordered : (low : ℕ) (ms : List Mark) → Rises low ms → IsOrdered low ms
ordered low [] h = record { above = λ i m lt. absurd (omega (arith, lt)); pairs = λ i j m lt inside. absurd (omega (arith, inside)) }
ordered low (m ∷ ms) h =
    let rest = ordered (m.id + 1) ms h.1 in
    record {
      above = All-cons (λ (x : Mark). low ≤ x.id) m ms h.0 (λ i x lt. omega (arith, h.0, rest.above i x lt));
      pairs = AllPairs-cons (λ (a b : Mark). a.id < b.id) m ms (λ i x lt. omega (arith, rest.above i x lt)) rest.pairs;
    }

-- the last mark is below, so all are
pub below_last : (id low place : ℕ) (ms : List Mark) → place + 1 ≡ length ms → Rises low ms → IsSomeAnd (slice_get ms place) (λ (m : Mark). m.id < id) → AllBelow id ms
below_last id low place [] is h last = tt
below_last id low zero (m ∷ []) is h last = (last, tt)
below_last id low zero (m ∷ x ∷ ms) is h last = absurd (omega (arith, is))
below_last id low (suc i) (m ∷ []) is h last = absurd (omega (arith, is))
below_last id low (suc i) (m ∷ x ∷ ms) is h last =
    let rest = below_last id (m.id + 1) i (x ∷ ms) (omega (arith, is)) h.1 last in
    (omega (arith, h.1.0, rest.0), rest)

-- all live declarations are below, and no other is left
pub below_live : (id kind : ℕ) (ms : List Mark) (bs : List ℕ) → length ms ≡ length bs → All (λ (d : Declared). d.id < id) (live_in kind ms bs) → AllBelow id (filter is_live ms)
below_live id kind [] bs long h = tt
below_live id kind (m ∷ ms) [] long h = absurd (omega (arith, long))
below_live id kind (m ∷ ms) (b ∷ bs) long h = step m.live (below_live id kind ms bs (omega (arith, long))) h
  where
    step : (live : Bool) → (All (λ (d : Declared). d.id < id) (live_in kind ms bs) → AllBelow id (filter is_live ms))
        → All (λ (d : Declared). d.id < id) (cond live (declaration kind m b ∷ live_in kind ms bs) (live_in kind ms bs)) → AllBelow id (cond live (m ∷ filter is_live ms) (filter is_live ms))
    step true rest all = (All-head (λ (d : Declared). d.id < id) (declaration kind m b) (live_in kind ms bs) all, rest (All-tail (λ (d : Declared). d.id < id) (declaration kind m b) (live_in kind ms bs) all))
    step false rest all = rest all

-- ---- the live declarations

filter_kept : (ms : List Mark) → All (λ (m : Mark). m.live ≡ true) ms → filter is_live ms ≡ ms
filter_kept [] h = refl
filter_kept (m ∷ ms) h =
    let this : is_live m ≡ true = All-head (λ (x : Mark). x.live ≡ true) m ms h in
    subst (λ b. cond b (m ∷ filter is_live ms) (filter is_live ms) ≡ m ∷ ms) (sym this) (ap (λ xs. m ∷ xs) (filter_kept ms (All-tail (λ (x : Mark). x.live ≡ true) m ms h)))

-- the marks that are dropped were dead
filter_twice : (ms : List Mark) → filter is_live (filter is_live ms) ≡ filter is_live ms
filter_twice ms = filter_kept (filter is_live ms) (filter_passes is_live ms)

pub live_in-dropped : (kind : ℕ) (ms : List Mark) (bs : List ℕ) → live_in kind (filter is_live ms) (live_bodies ms bs) ≡ live_in kind ms bs
live_in-dropped kind [] bs = refl
live_in-dropped kind (m ∷ ms) [] = step m.live
  where
    none : (xs : List Mark) → live_in kind xs [] ≡ []
    none [] = refl
    none (x ∷ xs) = refl

    step : (live : Bool) → live_in kind (cond live (m ∷ filter is_live ms) (filter is_live ms)) [] ≡ []
    step true = refl
    step false = none (filter is_live ms)
live_in-dropped kind (m ∷ ms) (b ∷ bs) = step m.live refl (live_in-dropped kind ms bs)
  where
    step : (live : Bool) → m.live ≡ live → live_in kind (filter is_live ms) (live_bodies ms bs) ≡ live_in kind ms bs
        → live_in kind (cond live (m ∷ filter is_live ms) (filter is_live ms)) (cond live (b ∷ live_bodies ms bs) (live_bodies ms bs))
        ≡ cond live (declaration kind m b ∷ live_in kind ms bs) (live_in kind ms bs)
    step true is rest =
        ap (λ l. cond l (declaration kind m b ∷ live_in kind (filter is_live ms) (live_bodies ms bs)) (live_in kind (filter is_live ms) (live_bodies ms bs))) is
        ∙ ap (λ ds. declaration kind m b ∷ ds) rest
    step false is rest = rest

length-live_bodies : (ms : List Mark) (bs : List ℕ) → length ms ≡ length bs → length (filter is_live ms) ≡ length (live_bodies ms bs)
length-live_bodies [] bs long = refl
length-live_bodies (m ∷ ms) [] long = absurd (omega (arith, long))
length-live_bodies (m ∷ ms) (b ∷ bs) long =
    let rest = length-live_bodies ms bs (omega (arith, long)) in
    elim m.live as (λ l. length (cond l (m ∷ filter is_live ms) (filter is_live ms)) ≡ length (cond l (b ∷ live_bodies ms bs) (live_bodies ms bs))) [ true ↦ ap suc rest | false ↦ rest ]

-- ids below those of the list aren't there
without_lower : (id low kind : ℕ) (ms : List Mark) (bs : List ℕ) → id < low → Rises low ms → without id (live_in kind ms bs) ≡ live_in kind ms bs
without_lower id low kind [] bs lt h = refl
without_lower id low kind (m ∷ ms) [] lt h = refl
without_lower id low kind (m ∷ ms) (b ∷ bs) lt h =
    let other : has_id id (declaration kind m b) ≡ false = grind (arith, nat_tests, h.0, lt) in
    let rest = without_lower id (m.id + 1) kind ms bs (omega (arith, lt, h.0)) h.1 in
    elim m.live as (λ l. without id (cond l (declaration kind m b ∷ live_in kind ms bs) (live_in kind ms bs)) ≡ cond l (declaration kind m b ∷ live_in kind ms bs) (live_in kind ms bs))
    [ true ↦ rw other (ap (λ ds. declaration kind m b ∷ ds) rest) | false ↦ rest ]

-- ---- a live entry at its place

at_or_above : (id place low : ℕ) (ms : List Mark) → Rises low ms → IsLiveAt id place ms → low ≤ id
at_or_above id place low [] h at = absurd at
at_or_above id zero low (m ∷ ms) h at = omega (arith, h.0, at.0)
at_or_above id (suc i) low (m ∷ ms) h at = omega (arith, h.0, at_or_above id i (m.id + 1) ms h.1 at)

pub live_inside : (id place : ℕ) (ms : List Mark) → IsLiveAt id place ms → place < length ms
live_inside id place [] at = absurd at
live_inside id zero (m ∷ ms) at = omega arith
live_inside id (suc i) (m ∷ ms) at = omega (arith, live_inside id i ms at)

live_there : (id place : ℕ) (ms : List Mark) (d : Mark) → IsLiveAt id place ms → ((get_or ms place d).id ≡ id) × ((get_or ms place d).live ≡ true)
live_there id place ms d at = subst (λ o. IsSomeAnd o (λ (m : Mark). (m.id ≡ id) × (m.live ≡ true))) (slice_get-get_or ms place d (live_inside id place ms at)) at

abbrev declared_as : ℕ → ℕ → ℕ → Declared
declared_as kind body id = record { id = id; unit = record { kind = kind; body = body } }

-- it is found there
pub find-at : (id place low kind : ℕ) (ms : List Mark) (bs : List ℕ) (d : ℕ) → length ms ≡ length bs → Rises low ms → IsLiveAt id place ms
    → find (has_id id) (live_in kind ms bs) ≡ Some (record { id = id; unit = record { kind = kind; body = get_or bs place d } })
find-at id place low kind [] bs d long h at = absurd at
find-at id place low kind (m ∷ ms) [] d long h at = absurd (omega (arith, long))
find-at id zero low kind (m ∷ ms) (b ∷ bs) d long h at =
    let this : has_id id (declaration kind m b) ≡ true = grind (arith, nat_tests, at.0) in
    rw at.1 (rw this (ap (λ n. Some (declared_as kind b n)) at.0))
find-at id (suc i) low kind (m ∷ ms) (b ∷ bs) d long h at =
    let above = at_or_above id i (m.id + 1) ms h.1 at in
    let other : has_id id (declaration kind m b) ≡ false = grind (arith, nat_tests, above) in
    let rest = find-at id i (m.id + 1) kind ms bs d (omega (arith, long)) h.1 at in
    elim m.live as (λ l. find (has_id id) (cond l (declaration kind m b ∷ live_in kind ms bs) (live_in kind ms bs)) ≡ Some (declared_as kind (get_or bs i d) id)) [ true ↦ rw other rest | false ↦ rest ]

pub found_unit : (id place kind : ℕ) (ms : List Mark) (bs : List ℕ) (b : ℕ) → length ms ≡ length bs → Rises 0 ms → IsLiveAt id place ms → b ≡ get_or bs place b
    → find (has_id id) (live_in kind ms bs) ≡ Some (record { id = id; unit = record { kind = kind; body = b } })
found_unit id place kind ms bs b long rises at is = find-at id place 0 kind ms bs b long rises at ∙ ap (λ n. Some (declared_as kind n id)) (sym is)

-- once it is dead, the others are live
pub without-at : (id place low kind : ℕ) (ms : List Mark) (bs : List ℕ) (y : Mark) → length ms ≡ length bs → Rises low ms → IsLiveAt id place ms → y.live ≡ false
    → live_in kind (set ms place y) bs ≡ without id (live_in kind ms bs)
without-at id place low kind [] bs y long h at dead = absurd at
without-at id place low kind (m ∷ ms) [] y long h at dead = absurd (omega (arith, long))
without-at id zero low kind (m ∷ ms) (b ∷ bs) y long h at dead =
    let this : has_id id (declaration kind m b) ≡ true = grind (arith, nat_tests, at.0) in
    rw (dead, at.1) (rw this (sym (without_lower id (m.id + 1) kind ms bs (omega (arith, at.0)) h.1)))
without-at id (suc i) low kind (m ∷ ms) (b ∷ bs) y long h at dead =
    let above = at_or_above id i (m.id + 1) ms h.1 at in
    let other : has_id id (declaration kind m b) ≡ false = grind (arith, nat_tests, above) in
    let rest = without-at id i (m.id + 1) kind ms bs y (omega (arith, long)) h.1 at dead in
    elim m.live as (λ l. cond l (declaration kind m b ∷ live_in kind (set ms i y) bs) (live_in kind (set ms i y) bs) ≡ without id (cond l (declaration kind m b ∷ live_in kind ms bs) (live_in kind ms bs)))
    [ true ↦ rw other (ap (λ ds. declaration kind m b ∷ ds) rest) | false ↦ rest ]

-- where none is found, none is taken out
pub without_none : (id : ℕ) (ds : List Declared) → find (has_id id) ds ≡ None → without id ds ≡ ds
without_none id [] none = refl
without_none id (d ∷ ds) none = step (has_id id d) (without_none id ds) none
  where
    step : (b : Bool) → (find (has_id id) ds ≡ None → without id ds ≡ ds) → cond b (Some d) (find (has_id id) ds) ≡ None → cond (not b) (d ∷ without id ds) (without id ds) ≡ d ∷ ds
    step true rest some = absurd (none-some d (sym some))
    step false rest none_behind = ap (λ es. d ∷ es) (rest none_behind)

-- ---- what one step does to the entries

pub live_in-push : (kind : ℕ) (ms : List Mark) (bs : List ℕ) (y : Mark) (b : ℕ) → length ms ≡ length bs → y.live ≡ true
    → live_in kind (ms ++ y ∷ []) (bs ++ b ∷ []) ≡ live_in kind ms bs ++ declaration kind y b ∷ []
live_in-push kind [] [] y b long this = rw this refl
live_in-push kind [] (x ∷ bs) y b long this = absurd (omega (arith, long))
live_in-push kind (m ∷ ms) [] y b long this = absurd (omega (arith, long))
live_in-push kind (m ∷ ms) (x ∷ bs) y b long this =
    let rest = live_in-push kind ms bs y b (omega (arith, long)) this in
    elim m.live as (λ l. cond l (declaration kind m x ∷ live_in kind (ms ++ y ∷ []) (bs ++ b ∷ [])) (live_in kind (ms ++ y ∷ []) (bs ++ b ∷ [])) ≡ cond l (declaration kind m x ∷ live_in kind ms bs) (live_in kind ms bs) ++ declaration kind y b ∷ [])
    [ true ↦ ap (λ ds. declaration kind m x ∷ ds) rest | false ↦ rest ]

-- where all live declarations are of another kind, there is none, and else the kind is theirs
live_in-kind : (kind other : ℕ) (ms : List Mark) (bs : List ℕ) → All (λ (d : Declared). d.unit.kind ≡ other) (live_in kind ms bs) → live_in other ms bs ≡ live_in kind ms bs
live_in-kind kind other [] bs h = refl
live_in-kind kind other (m ∷ ms) [] h = refl
live_in-kind kind other (m ∷ ms) (b ∷ bs) h = step m.live h (live_in-kind kind other ms bs)
  where
    step : (live : Bool) → All (λ (d : Declared). d.unit.kind ≡ other) (cond live (declaration kind m b ∷ live_in kind ms bs) (live_in kind ms bs))
        → (All (λ (d : Declared). d.unit.kind ≡ other) (live_in kind ms bs) → live_in other ms bs ≡ live_in kind ms bs)
        → cond live (declaration other m b ∷ live_in other ms bs) (live_in other ms bs) ≡ cond live (declaration kind m b ∷ live_in kind ms bs) (live_in kind ms bs)
    step true all rest =
        let same : kind ≡ other = All-head (λ (d : Declared). d.unit.kind ≡ other) (declaration kind m b) (live_in kind ms bs) all in
        ap₂ (λ k ds. declaration k m b ∷ ds) (sym same) (rest (All-tail (λ (d : Declared). d.unit.kind ≡ other) (declaration kind m b) (live_in kind ms bs) all))
    step false all rest = rest all

-- a live entry more, of the kind of those before it
pub pushed_entry : (kind other id body : ℕ) (ms : List Mark) (bs : List ℕ) → length ms ≡ length bs → All (λ (d : Declared). d.unit.kind ≡ other) (live_in kind ms bs)
    → live_in other (ms ++ record { id = id; live = true } ∷ []) (bs ++ body ∷ []) ≡ live_in kind ms bs ++ record { id = id; unit = record { kind = other; body = body } } ∷ []
pushed_entry kind other id body ms bs long same =
    live_in-push other ms bs (record { id = id; live = true }) body long refl ∙ ap (λ ds. ds ++ declared_as other body id ∷ []) (live_in-kind kind other ms bs same)

pub length-live_in : (kind : ℕ) (ms : List Mark) (bs : List ℕ) → length ms ≡ length bs → length (live_in kind ms bs) ≡ count_by is_live ms
length-live_in kind ms bs long = counted ms bs long ∙ length-filter is_live ms
  where
    counted : (xs : List Mark) (ys : List ℕ) → length xs ≡ length ys → length (live_in kind xs ys) ≡ length (filter is_live xs)
    counted [] ys same = refl
    counted (x ∷ xs) [] same = absurd (omega (arith, same))
    counted (x ∷ xs) (y ∷ ys) same =
        let rest = counted xs ys (omega (arith, same)) in
        elim x.live as (λ l. length (cond l (declaration kind x y ∷ live_in kind xs ys) (live_in kind xs ys)) ≡ length (cond l (x ∷ filter is_live xs) (filter is_live xs))) [ true ↦ ap suc rest | false ↦ rest ]

abbrev one_if : Bool → ℕ
one_if b = cond b 1 0

pub entries_pushed : (ms : List Mark) (bs : List ℕ) (dead : ℕ) (y : Mark) (b : ℕ) → AreEntries ms bs dead → AllBelow y.id ms → y.live ≡ true → AreEntries (ms ++ y ∷ []) (bs ++ b ∷ []) dead
entries_pushed ms bs dead y b h below this = record {
  rises = rises-push 0 ms y (omega arith) h.rises below;
  counted =
      let one : one_if (is_live y) ≡ 1 = ap one_if this in
      omega (arith, h.counted, length_push ms y, sum_by_push (λ (m : Mark). one_if (is_live m)) ms y, one);
  long = omega (arith, h.long, length_push ms y, length_push bs b);
}

pub entries_dropped : (ms : List Mark) (bs : List ℕ) (dead : ℕ) → AreEntries ms bs dead → AreEntries (filter is_live ms) (live_bodies ms bs) 0
entries_dropped ms bs dead h = record {
  rises = rises-filter is_live 0 ms h.rises;
  counted = omega (arith, length-filter is_live (filter is_live ms), ap (length {A = Mark}) (filter_twice ms));
  long = length-live_bodies ms bs h.long;
}

pub entries_marked : (id place : ℕ) (ms : List Mark) (bs : List ℕ) (dead : ℕ) (y d : Mark) → AreEntries ms bs dead → IsLiveAt id place ms → y.id ≡ (get_or ms place d).id → y.live ≡ false
    → AreEntries (set ms place y) bs (dead + 1)
entries_marked id place ms bs dead y d h at same gone = record {
  rises = rises-set 0 place ms y d same h.rises;
  counted =
      let was : one_if (is_live (get_or ms place d)) ≡ 1 = ap one_if (live_there id place ms d at).1 in
      let none : one_if (is_live y) ≡ 0 = ap one_if gone in
      omega (arith, h.counted, length-set ms place y, sum_by-set (λ (m : Mark). one_if (is_live m)) ms place y d (live_inside id place ms at), was, none);
  long = omega (arith, h.long, length-set ms place y);
}

-- what has come to the front, with the live bodies of what is left, is all
abbrev pub IsPacked : List Mark → List ℕ → ℕ → ℕ → ℕ → List ℕ → Type 0
IsPacked ms all size i kept now = (kept ≤ i) × (length now ≡ size) × (take kept now ++ live_bodies (drop i ms) (drop i now) ≡ all)

opened : (ms : List Mark) (now : List ℕ) (i : ℕ) (d : Mark) (live : Bool) → i < length ms → length ms ≡ length now → (get_or ms i d).live ≡ live
    → live_bodies (drop i ms) (drop i now) ≡ cond live (get_or now i 0 ∷ live_bodies (drop (i + 1) ms) (drop (i + 1) now)) (live_bodies (drop (i + 1) ms) (drop (i + 1) now))
opened ms now i d live lt long is =
    ap₂ live_bodies (drop_more ms i d lt) (drop_more now i 0 (omega (arith, lt, long)))
    ∙ ap (λ l. cond l (get_or now i 0 ∷ live_bodies (drop (i + 1) ms) (drop (i + 1) now)) (live_bodies (drop (i + 1) ms) (drop (i + 1) now))) is

-- one entry more, which is live or dead
pub packed_live : (ms : List Mark) (all now next : List ℕ) (size i kept more : ℕ) (d : Mark) → i < length ms → length ms ≡ size → IsPacked ms all size i kept now → (get_or ms i d).live ≡ true
    → more ≡ kept + 1 → next ≡ set now kept (get_or now i 0) → IsPacked ms all size (i + 1) more next
packed_live ms all now next size i kept more d lt long so_far live more_is next_is =
    let b = get_or now i 0 in
    let left = live_bodies (drop (i + 1) ms) (drop (i + 1) now) in
    let behind : drop (i + 1) (set now kept b) ≡ drop (i + 1) now = drop-set-lt (i + 1) now kept b (omega (arith, so_far.0)) in
    let front : take (kept + 1) (set now kept b) ≡ take kept now ++ b ∷ [] = take_more_set now kept b (omega (arith, so_far.0, so_far.1, lt, long)) in
    let all_is : take (kept + 1) (set now kept b) ++ live_bodies (drop (i + 1) ms) (drop (i + 1) (set now kept b)) ≡ all =
    ap₂ (λ xs ys. xs ++ live_bodies (drop (i + 1) ms) ys) front behind
    ∙ append_assoc (take kept now) (b ∷ []) left
    ∙ ap (λ xs. take kept now ++ xs) (sym (opened ms now i d true lt (omega (arith, long, so_far.1)) live))
    ∙ so_far.2 in
    rw (more_is, next_is) (omega (arith, so_far.0), length-set now kept b ∙ so_far.1, all_is)

pub packed_dead : (ms : List Mark) (all now next : List ℕ) (size i kept more : ℕ) (d : Mark) → i < length ms → length ms ≡ size → IsPacked ms all size i kept now → (get_or ms i d).live ≡ false
    → more ≡ kept → next ≡ now → IsPacked ms all size (i + 1) more next
packed_dead ms all now next size i kept more d lt long so_far dead more_is next_is =
    let all_is : take kept now ++ live_bodies (drop (i + 1) ms) (drop (i + 1) now) ≡ all =
    ap (λ xs. take kept now ++ xs) (sym (opened ms now i d false lt (omega (arith, long, so_far.1)) dead)) ∙ so_far.2 in
    rw (more_is, next_is) (omega (arith, so_far.0), so_far.1, all_is)

-- ---- a search by id

some_mark : Mark
some_mark = record { id = 0; live = false }

ranks_rise : (id : ℕ) (ms : List Mark) → Rises 0 ms → IsNonDecreasingBy (λ (m : Mark). ordering_index (nat_cmp m.id id)) ms
ranks_rise id ms rises =
    IsNonDecreasingBy-from_default (λ (m : Mark). ordering_index (nat_cmp m.id id)) ms some_mark (λ i j le in_range.
    let pairs = (ordered 0 ms rises).pairs in
    let ids_rise : (get_or ms i some_mark).id ≤ (get_or ms j some_mark).id = grind (arith, pairs i j some_mark, λ (same : i ≡ j). ap (λ k. (get_or ms k some_mark).id) same) in
    grind (arith, nat_tests))

-- where no mark has the id, no live entry has it
nowhere : (id : ℕ) (ms : List Mark) → All (λ (m : Mark). m.id ≡ id → ⊥) ms → IsNowhere id ms
nowhere id [] h = tt
nowhere id (m ∷ ms) h = (λ live. All-head (λ (x : Mark). x.id ≡ id → ⊥) m ms h, nowhere id ms (All-tail (λ (x : Mark). x.id ≡ id → ⊥) m ms h))

nowhere-lower : (id low : ℕ) (ms : List Mark) → id < low → Rises low ms → IsNowhere id ms
nowhere-lower id low [] lt h = tt
nowhere-lower id low (m ∷ ms) lt h = (λ live same. omega (arith, lt, h.0, same), nowhere-lower id (m.id + 1) ms (omega (arith, lt, h.0)) h.1)

-- nor where the mark with the id is dead
pub nowhere-dead : (id place low : ℕ) (ms : List Mark) (d : Mark) → Rises low ms → place < length ms → (get_or ms place d).id ≡ id → (get_or ms place d).live ≡ false → IsNowhere id ms
nowhere-dead id place low [] d h lt is dead = tt
nowhere-dead id zero low (m ∷ ms) d h lt is dead = (λ live same. true≢false (sym live ∙ dead), nowhere-lower id (m.id + 1) ms (omega (arith, is)) h.1)
nowhere-dead id (suc i) low (m ∷ ms) d h lt is dead =
    let inside : i < length ms = omega (arith, lt) in
    let above = (ordered (m.id + 1) ms h.1).above i d inside in
    (λ live same. omega (arith, above, is, same), nowhere-dead id i (m.id + 1) ms d h.1 inside is dead)

-- what no live entry has isn't found
pub find-nowhere : (id kind : ℕ) (ms : List Mark) (bs : List ℕ) → IsNowhere id ms → find (has_id id) (live_in kind ms bs) ≡ None
find-nowhere id kind [] bs h = refl
find-nowhere id kind (m ∷ ms) [] h = refl
find-nowhere id kind (m ∷ ms) (b ∷ bs) h = step m.live h.0 (find-nowhere id kind ms bs h.1)
  where
    step : (live : Bool) → (live ≡ true → m.id ≡ id → ⊥) → find (has_id id) (live_in kind ms bs) ≡ None → find (has_id id) (cond live (declaration kind m b ∷ live_in kind ms bs) (live_in kind ms bs)) ≡ None
    step true none rest =
        let not_this = none refl in
        let other : has_id id (declaration kind m b) ≡ false = grind (arith, nat_tests, not_this) in
        rw other rest
    step false none rest = rest

-- what a binary search by id finds
pub searched : (id : ℕ) (ms : List Mark) → Rises 0 ms → (r : Result ℕ ℕ) → IsSearchInRange r (length ms) → IsBinarySearchResult (λ (m : Mark). nat_cmp m.id id) ms r
    → record { found : IfSome (result_ok r) (λ place. (place < length ms) × ((d : Mark) → (get_or ms place d).id ≡ id)); absent : IfNone (result_ok r) (IsNowhere id ms) }
searched id ms rises (Ok place) within equal = record {
  found = (within, λ d. ranked _ id _ (sym (equal d)));
  absent = tt;
}
searched id ms rises (Err place) within parted =
    let points = parted (ranks_rise id ms rises) in
    record {
      found = tt;
      absent = nowhere id ms (λ i d lt same.
          let before : i < place → (get_or ms i d).id < id = λ h. ranked _ id _ (sym (points.0 i d (omega arith) h)) in
          let after : place ≤ i → id < (get_or ms i d).id = λ h. ranked _ id _ (sym (points.1 i d h lt)) in
          grind (arith, before, after, same));
    }

-- a live entry with the id
pub live_at : (id place : ℕ) (ms : List Mark) (d : Mark) → place < length ms → (get_or ms place d).id ≡ id → (get_or ms place d).live ≡ true → IsLiveAt id place ms
live_at id place ms d lt is live = subst (λ o. IsSomeAnd o (λ (m : Mark). (m.id ≡ id) × (m.live ≡ true))) (sym (slice_get-get_or ms place d lt)) (is, live)

-- ---- a query

-- the hits are those of the declarations that are near
pub near_hits-are : (unit : Unit64) (radius kind : ℕ) (ms : List Mark) (bs : List ℕ) → near_hits unit radius ms bs ≡ map (hit_of unit) (filter (is_within unit radius) (live_in kind ms bs))
near_hits-are unit radius kind [] bs = refl
near_hits-are unit radius kind (m ∷ ms) [] = refl
near_hits-are unit radius kind (m ∷ ms) (b ∷ bs) = step (nat_le (distance unit.body b) radius) m.live refl (near_hits-are unit radius kind ms bs)
  where
    within : (near : Bool) → nat_le (distance unit.body b) radius ≡ near → filter (is_within unit radius) (declaration kind m b ∷ live_in kind ms bs)
        ≡ cond near (declaration kind m b ∷ filter (is_within unit radius) (live_in kind ms bs)) (filter (is_within unit radius) (live_in kind ms bs))
    within near is = ap (λ n. cond n (declaration kind m b ∷ filter (is_within unit radius) (live_in kind ms bs)) (filter (is_within unit radius) (live_in kind ms bs))) is

    step : (near live : Bool) → nat_le (distance unit.body b) radius ≡ near → near_hits unit radius ms bs ≡ map (hit_of unit) (filter (is_within unit radius) (live_in kind ms bs))
        → cond (near && live) (hit_of unit (declaration 0 m b) ∷ []) [] ++ near_hits unit radius ms bs
        ≡ map (hit_of unit) (filter (is_within unit radius) (cond live (declaration kind m b ∷ live_in kind ms bs) (live_in kind ms bs)))
    step true true is rest = ap (λ hs. hit_of unit (declaration 0 m b) ∷ hs) rest ∙ ap (map (hit_of unit)) (sym (within true is))
    step false true is rest = rest ∙ ap (map (hit_of unit)) (sym (within false is))
    step true false is rest = rest
    step false false is rest = rest

-- where no body is near, there is no hit
pub near_hits-none : (unit : Unit64) (radius : ℕ) (ms : List Mark) (bs : List ℕ) → count_by (λ other. nat_le (distance unit.body other) radius) bs ≡ 0 → near_hits unit radius ms bs ≡ []
near_hits-none unit radius [] bs none = refl
near_hits-none unit radius (m ∷ ms) [] none = refl
near_hits-none unit radius (m ∷ ms) (b ∷ bs) none =
    step (nat_le (distance unit.body b) radius) (sym (sum_by-cons (λ other. one_if (nat_le (distance unit.body other) radius)) b bs) ∙ none) (near_hits-none unit radius ms bs)
  where
    step : (near : Bool) → one_if near + count_by (λ other. nat_le (distance unit.body other) radius) bs ≡ 0
        → (count_by (λ other. nat_le (distance unit.body other) radius) bs ≡ 0 → near_hits unit radius ms bs ≡ [])
        → cond (near && m.live) (hit_of unit (declaration 0 m b) ∷ []) [] ++ near_hits unit radius ms bs ≡ []
    step true is rest = absurd (omega (arith, is))
    step false is rest = rest (omega (arith, is))

-- what has come from the front, with the hits of one entry, and those of what is left
pub hits_more : (unit : Unit64) (radius i : ℕ) (ms : List Mark) (bs : List ℕ) (m : Mark) (b : ℕ) (all so_far next : List Hit) → i < length bs → length ms ≡ length bs → m ≡ get_or ms i m → b ≡ get_or bs i b
    → so_far ++ near_hits unit radius (drop i ms) (drop i bs) ≡ all → next ≡ so_far ++ near_hit unit radius m b → next ++ near_hits unit radius (drop (i + 1) ms) (drop (i + 1) bs) ≡ all
hits_more unit radius i ms bs m b all so_far next lt long m_is b_is whole is =
    ap (λ hs. hs ++ near_hits unit radius (drop (i + 1) ms) (drop (i + 1) bs)) is
    ∙ append_assoc so_far (near_hit unit radius m b) (near_hits unit radius (drop (i + 1) ms) (drop (i + 1) bs))
    ∙ ap (λ hs. so_far ++ hs) (sym (ap₂ (near_hits unit radius) (drop_more ms i m (omega (arith, lt, long)) ∙ ap (λ x. x ∷ drop (i + 1) ms) (sym m_is)) (drop_more bs i b lt ∙ ap (λ x. x ∷ drop (i + 1) bs) (sym b_is))))
    ∙ whole

near_hits-append : (unit : Unit64) (radius : ℕ) (ms ns : List Mark) (bs cs : List ℕ) → length ms ≡ length bs → near_hits unit radius (ms ++ ns) (bs ++ cs) ≡ near_hits unit radius ms bs ++ near_hits unit radius ns cs
near_hits-append unit radius [] ns [] cs long = refl
near_hits-append unit radius [] ns (b ∷ bs) cs long = absurd (omega (arith, long))
near_hits-append unit radius (m ∷ ms) ns [] cs long = absurd (omega (arith, long))
near_hits-append unit radius (m ∷ ms) ns (b ∷ bs) cs long =
    ap (λ hs. near_hit unit radius m b ++ hs) (near_hits-append unit radius ms ns bs cs (omega (arith, long))) ∙ sym (append_assoc (near_hit unit radius m b) (near_hits unit radius ms bs) (near_hits unit radius ns cs))

-- the same with the hits of a block
pub hits_block : (unit : Unit64) (radius : ℕ) (rest of_block of_behind : List Mark) (bodies block behind : List ℕ) (all so_far next : List Hit) → length of_block ≡ length block → rest ≡ of_block ++ of_behind → bodies ≡ block ++ behind
    → so_far ++ near_hits unit radius rest bodies ≡ all → next ≡ so_far ++ near_hits unit radius of_block block → next ++ near_hits unit radius of_behind behind ≡ all
hits_block unit radius rest of_block of_behind bodies block behind all so_far next long rest_is bodies_is whole is =
    ap (λ hs. hs ++ near_hits unit radius of_behind behind) is
    ∙ append_assoc so_far (near_hits unit radius of_block block) (near_hits unit radius of_behind behind)
    ∙ ap (λ hs. so_far ++ hs) (sym (ap₂ (near_hits unit radius) rest_is bodies_is ∙ near_hits-append unit radius of_block of_behind block behind long))
    ∙ whole

pub cut : {X : Type 0} (n : ℕ) (xs front back : List X) → front ≡ take n xs → back ≡ drop n xs → xs ≡ front ++ back
cut n xs front back front_is back_is = sym (ap₂ (λ a b. a ++ b) front_is back_is ∙ take-append-drop n xs)
