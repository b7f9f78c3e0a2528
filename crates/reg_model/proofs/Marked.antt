-- What a log leaves, by marks of the ids that it withdraws.
use Rattle.std.proofs.Common.{◌≡◌, ℕ, zero, suc, ◌+◌, ◌<◌, ◌≤◌, Bool, true, false, not, ◌||◌, cond, List, [], ◌∷◌, ◌++◌, ◌-◌, ◌^◌, length, length-append, filter, find, None, Some, drop, get_or, set, replicate, refl, sym, ◌∙◌, ap, ap₂, subst, append_assoc, arith}
use Rattle.std.specs.List.{range_with_len}
use Rattle.std.proofs.lemmas.Bool.Decides.{nat_tests}
use Rattle.std.proofs.lemmas.List.{drop_more}
use Rattle.std.proofs.lemmas.List.Elements.{filter-append}
use Rattle.std.proofs.lemmas.List.Folds.{list_any-append}
use Rattle.std.proofs.lemmas.List.FromFn.{length-range_with_len, get_or-range_with_len, get_or-map-range_with_len}
use Rattle.iscc_header.specs.declared.unit.Unit64.{Unit64}
use Rattle.reg_model.specs.declared.update.Update.{Update}
use Rattle.reg_model.specs.declared.update.Update.TheVariants.{Decl, Wd}
use Rattle.reg_model.specs.declared.update.Declared.{Declared}
use Rattle.reg_model.specs.Opening.{Opening, IsOpening, IsRising, opening_of}
use Rattle.reg_model.specs.Live.{declared_from, withdraws, is_withdrawn, live, opening_after}
use Rattle.reg_model.specs.inner.Marks.{ids_of, marks, unmarked}
use Rattle.reg_model.proofs.Rising.{Within, within-from_rising, within-ends, live_rising, live_below, IsAt, at_inside, has_id}

or-false : (b : Bool) → (b || false) ≡ b
or-false true = refl
or-false false = refl

-- one update more withdraws what it says, or nothing
withdrawn-more : (log : List Update) (u : Update) (id : ℕ) → is_withdrawn (log ++ u ∷ []) id ≡ (is_withdrawn log id || withdraws id u)
withdrawn-more log u id = list_any-append (withdraws id) log (u ∷ []) ∙ ap (λ b. is_withdrawn log id || b) (or-false (withdraws id u))

or-true : (b : Bool) → (b || true) ≡ true
or-true true = refl
or-true false = refl

withdrawn-same : (log : List Update) (u : Update) (id : ℕ) → withdraws id u ≡ false → is_withdrawn (log ++ u ∷ []) id ≡ is_withdrawn log id
withdrawn-same log u id none = withdrawn-more log u id ∙ ap (λ b. is_withdrawn log id || b) none ∙ or-false (is_withdrawn log id)

-- none of the ids is withdrawn by the update
abbrev Spares : Update → List ℕ → Type 0
Spares u [] = Unit {0}
Spares u (id ∷ ids) = (withdraws id u ≡ false) × Spares u ids

-- the ids rise from this one on
abbrev From : ℕ → List ℕ → Type 0
From low [] = Unit {0}
From low (id ∷ ids) = (low ≤ id) × From (id + 1) ids

-- marks that stay
pub marks-spared : (log : List Update) (u : Update) (ids : List ℕ) → Spares u ids → marks (log ++ u ∷ []) ids ≡ marks log ids
marks-spared log u [] h = refl
marks-spared log u (id ∷ ids) h = ap₂ (λ (b : Bool) bs. b ∷ bs) (withdrawn-same log u id h.0) (marks-spared log u ids h.1)

spares_lower : (other low : ℕ) (ids : List ℕ) → other < low → From low ids → Spares (Wd other) ids
spares_lower other low [] lt h = tt
spares_lower other low (id ∷ ids) lt h = (grind (arith, nat_tests, h.0, lt), spares_lower other (id + 1) ids (omega (arith, lt, h.0)) h.1)

-- one mark more
pub marks-marked : (log : List Update) (other place low : ℕ) (ids : List ℕ) → From low ids → place < length ids → get_or ids place 0 ≡ other → set (marks log ids) place true ≡ marks (log ++ Wd other ∷ []) ids
marks-marked log other place low [] h lt is = absurd (omega (arith, lt))
marks-marked log other zero low (id ∷ ids) h lt is =
    let same : withdraws id (Wd other) ≡ true = grind (arith, nat_tests, is) in
    ap₂ (λ (b : Bool) bs. b ∷ bs) (sym (withdrawn-more log (Wd other) id ∙ ap (λ b. is_withdrawn log id || b) same ∙ or-true (is_withdrawn log id)))
    (sym (marks-spared log (Wd other) ids (spares_lower other (id + 1) ids (omega (arith, is)) h.1)))
marks-marked log other (suc i) low (id ∷ ids) h lt is =
    let above = from_below other i (id + 1) ids h.1 (omega (arith, lt)) is in
    let not_this : withdraws id (Wd other) ≡ false = grind (arith, nat_tests, above) in
    ap₂ (λ (b : Bool) bs. b ∷ bs) (sym (withdrawn-same log (Wd other) id not_this)) (marks-marked log other i (id + 1) ids h.1 (omega (arith, lt)) is)
  where
    from_below : (other i low : ℕ) (ids : List ℕ) → From low ids → i < length ids → get_or ids i 0 ≡ other → low ≤ other
    from_below other i low [] h lt is = absurd (omega (arith, lt))
    from_below other zero low (id ∷ ids) h lt is = omega (arith, h.0, is)
    from_below other (suc i) low (id ∷ ids) h lt is = omega (arith, h.0, from_below other i (id + 1) ids h.1 (omega (arith, lt)) is)

-- ---- the two lists of ids

pub from_range : (base n : ℕ) → From base (range_with_len base n)
from_range base zero = tt
from_range base (suc n) = (omega arith, from_range (base + 1) n)

pub from_within : (low high : ℕ) (list : List Declared) → Within low high list → From low (ids_of list)
from_within low high [] h = tt
from_within low high (d ∷ list) h = (h.0, from_within (d.id + 1) high list h.1)

-- no update
pub marks_none : (ids : List ℕ) → replicate (length ids) false ≡ marks [] ids
marks_none [] = refl
marks_none (id ∷ ids) = ap (λ bs. false ∷ bs) (marks_none ids)

-- ---- what is not marked

pub unmarked-live : (log : List Update) (list : List Declared) → unmarked list (marks log (ids_of list)) ≡ filter (λ d. not (is_withdrawn log d.id)) list
unmarked-live log [] = refl
unmarked-live log (d ∷ list) =
    let rest = unmarked-live log list in
    elim (is_withdrawn log d.id) as (λ b. cond b (unmarked list (marks log (ids_of list))) (d ∷ unmarked list (marks log (ids_of list))) ≡ cond (not b) (d ∷ filter (λ e. not (is_withdrawn log e.id)) list) (filter (λ e. not (is_withdrawn log e.id)) list))
    [ true ↦ rest | false ↦ ap (λ ds. d ∷ ds) rest ]

-- ---- one more update

length_ids : (list : List Declared) → length (ids_of list) ≡ length list
length_ids [] = refl
length_ids (d ∷ list) = ap suc (length_ids list)

pub first_marks : (ms : List Bool) (ids : List ℕ) → ms ≡ replicate (length ms) false → length ms ≡ length ids → ms ≡ marks [] ids
first_marks ms ids is long = is ∙ ap (λ n. replicate n false) long ∙ marks_none ids

pub first_carried : (ms : List Bool) (list : List Declared) → ms ≡ replicate (length ms) false → length ms ≡ length list → ms ≡ marks [] (ids_of list)
first_carried ms list is long = first_marks ms (ids_of list) is (long ∙ sym (length_ids list))

pub first_places : (ms : List Bool) (base : ℕ) → ms ≡ replicate (length ms) false → ms ≡ marks [] (range_with_len base (length ms))
first_places ms base is = first_marks ms (range_with_len base (length ms)) is (sym (length-range_with_len base (length ms)))

spares_above : (other base n : ℕ) → base + n ≤ other → Spares (Wd other) (range_with_len base n)
spares_above other base zero le = tt
spares_above other base (suc n) le = (grind (arith, nat_tests, le), spares_above other (base + 1) n (omega (arith, le)))

spares_high : (other low high : ℕ) (list : List Declared) → high ≤ other → Within low high list → Spares (Wd other) (ids_of list)
spares_high other low high [] le h = tt
spares_high other low high (d ∷ list) le h = let ends = within-ends (d.id + 1) high list h.1 in (grind (arith, nat_tests, ends, le), spares_high other (d.id + 1) high list le h.1)

spares_absent : (other : ℕ) (list : List Declared) → find (has_id other) list ≡ None → Spares (Wd other) (ids_of list)
spares_absent other [] none = tt
spares_absent other (d ∷ list) none = step (has_id other d) refl (spares_absent other list) none
  where
    step : (b : Bool) → has_id other d ≡ b → (find (has_id other) list ≡ None → Spares (Wd other) (ids_of list)) → cond b (Some d) (find (has_id other) list) ≡ None → Spares (Wd other) (ids_of (d ∷ list))
    step true this rest found = cc
    step false this rest found = (grind (arith, nat_tests, this), rest found)

pub place_marked : (log : List Update) (base id n : ℕ) (ms : List Bool) → base ≤ id → id - base < n → ms ≡ marks log (range_with_len base n) → set ms (id - base) true ≡ marks (log ++ Wd id ∷ []) (range_with_len base n)
place_marked log base id n ms le lt is =
    ap (λ bs. set bs (id - base) true) is
    ∙ marks-marked log id (id - base) base (range_with_len base n) (from_range base n) (omega (arith, lt, length-range_with_len base n)) (get_or-range_with_len base n (id - base) 0 lt ∙ omega arith)

pub place_above : (log : List Update) (base id n : ℕ) (ms : List Bool) → base + n ≤ id → ms ≡ marks log (range_with_len base n) → ms ≡ marks (log ++ Wd id ∷ []) (range_with_len base n)
place_above log base id n ms le is = is ∙ sym (marks-spared log (Wd id) (range_with_len base n) (spares_above id base n le))

pub place_below : (log : List Update) (base id n : ℕ) (ms : List Bool) → id < base → ms ≡ marks log (range_with_len base n) → ms ≡ marks (log ++ Wd id ∷ []) (range_with_len base n)
place_below log base id n ms lt is = is ∙ sym (marks-spared log (Wd id) (range_with_len base n) (spares_lower id base (range_with_len base n) lt (from_range base n)))

opened : (base : ℕ) (list : List Declared) → IsOpening (opening_of base list) → Within 0 base list
opened base list h = within-from_rising 0 base list (omega arith) (λ i d lt. omega arith) h.rising h.below

pub carried_marked : (log : List Update) (base id place : ℕ) (list : List Declared) (ms : List Bool) → IsOpening (opening_of base list) → IsAt id place list → ms ≡ marks log (ids_of list) → set ms place true ≡ marks (log ++ Wd id ∷ []) (ids_of list)
carried_marked log base id place list ms h at is =
    let inside = at_inside id place list at in
    ap (λ bs. set bs place true) is
    ∙ marks-marked log id place 0 (ids_of list) (from_within 0 base list (opened base list h)) (omega (arith, inside, length_ids list)) (there place list at)
  where
    there : (i : ℕ) (ds : List Declared) → IsAt id i ds → get_or (ids_of ds) i 0 ≡ id
    there i [] at = absurd at
    there zero (d ∷ ds) at = at
    there (suc i) (d ∷ ds) at = there i ds at

pub carried_above : (log : List Update) (base id : ℕ) (list : List Declared) (ms : List Bool) → IsOpening (opening_of base list) → base ≤ id → ms ≡ marks log (ids_of list) → ms ≡ marks (log ++ Wd id ∷ []) (ids_of list)
carried_above log base id list ms h le is = is ∙ sym (marks-spared log (Wd id) (ids_of list) (spares_high id 0 base list le (opened base list h)))

pub carried_absent : (log : List Update) (id : ℕ) (list : List Declared) (ms : List Bool) → find (has_id id) list ≡ None → ms ≡ marks log (ids_of list) → ms ≡ marks (log ++ Wd id ∷ []) (ids_of list)
carried_absent log id list ms none is = is ∙ sym (marks-spared log (Wd id) (ids_of list) (spares_absent id list none))

some_declared : Declared
some_declared = record { id = 0; unit = record { kind = 0; body = 0 } }

-- ---- one more declaration

-- there is room for one that is not marked
pub room_carried : (i cap : ℕ) (list : List Declared) (ms : List Bool) (so_far before : List Declared) → i < length list → length ms ≡ length list → get_or ms i false ≡ false
    → so_far ++ unmarked (drop i list) (drop i ms) ≡ before ++ unmarked list ms → length before + length (unmarked list ms) ≤ cap → length so_far < cap
room_carried i cap list ms so_far before lt long is all room =
    let d = get_or list i some_declared in
    let next : unmarked (drop i list) (drop i ms) ≡ d ∷ unmarked (drop (i + 1) list) (drop (i + 1) ms) =
    ap₂ unmarked (drop_more list i some_declared lt) (drop_more ms i false (omega (arith, lt, long))) ∙ ap (λ m. cond m (unmarked (drop (i + 1) list) (drop (i + 1) ms)) (d ∷ unmarked (drop (i + 1) list) (drop (i + 1) ms))) is in
    omega (arith, room, ap length all, ap length next, length-append so_far (unmarked (drop i list) (drop i ms)), length-append before (unmarked list ms))

abbrev pub left : List Update → List Declared → List Declared
left log list = filter (λ d. not (is_withdrawn log d.id)) list

-- the declaration of an update, if it is one that is not withdrawn
abbrev one_left : List Update → ℕ → Update → List Declared
one_left log id u = cond (is_withdrawn log id) [] (declared_from id (u ∷ []))

left_one : (log : List Update) (id : ℕ) (u : Update) → left log (declared_from id (u ∷ [])) ≡ one_left log id u
left_one log id (Decl unit) = either (is_withdrawn log id) (record { id = id; unit = unit } ∷ [])
  where
    either : (b : Bool) (list : List Declared) → cond (not b) list [] ≡ cond b [] list
    either true list = refl
    either false list = refl
left_one log id (Wd other) = sym (either (is_withdrawn log id) [])
  where
    either : (b : Bool) (none : List Declared) → cond b none none ≡ none
    either true none = refl
    either false none = refl

split_one : (id : ℕ) (u : Update) (rest : List Update) → declared_from id (u ∷ rest) ≡ declared_from id (u ∷ []) ++ declared_from (id + 1) rest
split_one id (Decl unit) rest = refl
split_one id (Wd other) rest = refl

left_more : (log : List Update) (base i : ℕ) (u : Update) → i < length log → u ≡ get_or log i u
    → left log (declared_from (base + i) (drop i log)) ≡ one_left log (base + i) u ++ left log (declared_from (base + (i + 1)) (drop (i + 1) log))
left_more log base i u lt is =
    let rest = drop (i + 1) log in
    ap (λ us. left log (declared_from (base + i) us)) (drop_more log i u lt ∙ ap (λ v. v ∷ rest) (sym is))
    ∙ ap (left log) (split_one (base + i) u rest)
    ∙ filter-append (λ d. not (is_withdrawn log d.id)) (declared_from (base + i) (u ∷ [])) (declared_from (base + i + 1) rest)
    ∙ ap₂ (λ xs ys. xs ++ ys) (left_one log (base + i) u) (ap (λ n. left log (declared_from n rest)) (omega arith))

pub mark_at : (log : List Update) (base n i : ℕ) (ms : List Bool) → ms ≡ marks log (range_with_len base n) → i < n → get_or ms i false ≡ is_withdrawn log (base + i)
mark_at log base n i ms is lt = ap (λ bs. get_or bs i false) is ∙ get_or-map-range_with_len (is_withdrawn log) base n i (base + i) false lt refl

-- there is room for one that is not marked
pub room_declared : (log : List Update) (base i n cap : ℕ) (u : Update) (ms : List Bool) (so_far before : List Declared) → i < length log → u ≡ get_or log i u → ms ≡ marks log (range_with_len base n) → i < n → get_or ms i false ≡ false
    → so_far ++ left log (declared_from (base + i) (drop i log)) ≡ before ++ left log (declared_from base log) → length before + length (left log (declared_from base log)) ≤ cap
    → length so_far + length (declared_from (base + i) (u ∷ [])) ≤ cap
room_declared log base i n cap u ms so_far before lt is marked inside none all room =
    let kept : one_left log (base + i) u ≡ declared_from (base + i) (u ∷ []) = ap (λ b. cond b [] (declared_from (base + i) (u ∷ []))) (sym (mark_at log base n i ms marked inside) ∙ none) in
    omega (
      arith,
      room,
      ap length all,
      ap length (left_more log base i u lt is),
      ap length kept,
      length-append so_far (left log (declared_from (base + i) (drop i log))),
      length-append before (left log (declared_from base log)),
      length-append (one_left log (base + i) u) (left log (declared_from (base + (i + 1)) (drop (i + 1) log))),
    )

-- one more update, marked or not
pub kept_more : (log : List Update) (base i n : ℕ) (u : Update) (ms : List Bool) (mark : Bool) (so_far next all : List Declared) → i < length log → u ≡ get_or log i u → ms ≡ marks log (range_with_len base n) → i < n → get_or ms i false ≡ mark
    → so_far ++ left log (declared_from (base + i) (drop i log)) ≡ all → next ≡ so_far ++ cond mark [] (declared_from (base + i) (u ∷ []))
    → next ++ left log (declared_from (base + (i + 1)) (drop (i + 1) log)) ≡ all
kept_more log base i n u ms mark so_far next all lt is marked inside mark_is whole next_is =
    let rest = left log (declared_from (base + (i + 1)) (drop (i + 1) log)) in
    ap (λ xs. xs ++ rest) (next_is ∙ ap (λ b. so_far ++ cond b [] (declared_from (base + i) (u ∷ []))) (sym mark_is ∙ mark_at log base n i ms marked inside))
    ∙ append_assoc so_far (one_left log (base + i) u) rest
    ∙ ap (λ xs. so_far ++ xs) (sym (left_more log base i u lt is))
    ∙ whole

-- ---- the end

-- what is live is what was carried and not withdrawn, and then what was declared and not withdrawn
live_parts : (base : ℕ) (carried : List Declared) (log : List Update) (ms : List Bool) → ms ≡ marks log (ids_of carried)
    → live (opening_of base carried) log ≡ unmarked carried ms ++ left log (declared_from base log)
live_parts base carried log ms is =
    filter-append (λ d. not (is_withdrawn log d.id)) carried (declared_from base log)
    ∙ ap (λ xs. xs ++ left log (declared_from base log)) (sym (ap (unmarked carried) is ∙ unmarked-live log carried))

-- for the end of a round with this opening and log, and marks of what was carried
module _ (opening : Opening) (base : ℕ) (carried : List Declared) (same : opening_of base carried ≡ opening) (log : List Update) (ms : List Bool) (is : ms ≡ marks log (ids_of carried)) (list : List Declared) (none : list ≡ []) where
  pub room_first : (cap : ℕ) → length (live opening log) ≤ cap → length list + length (unmarked carried ms) ≤ cap
  room_first cap room =
      omega (arith, room, ap (λ o. length (live o log)) same, ap length (live_parts base carried log ms is), ap length none, length-append (unmarked carried ms) (left log (declared_from base log)))

  pub room_second : (more : List Declared) (cap : ℕ) → more ≡ list ++ unmarked carried ms → length (live opening log) ≤ cap → length more + length (left log (declared_from base log)) ≤ cap
  room_second more cap more_is room =
      omega (
        arith,
        room,
        ap (λ o. length (live o log)) same,
        ap length (live_parts base carried log ms is),
        ap length none,
        ap length more_is,
        length-append list (unmarked carried ms),
        length-append (unmarked carried ms) (left log (declared_from base log)),
      )

  -- the list is that of what is live
  pub list_left : (more all : List Declared) → more ≡ list ++ unmarked carried ms → all ≡ more ++ left log (declared_from base log) → all ≡ live opening log
  list_left more all more_is all_is =
      all_is ∙ ap (λ xs. xs ++ left log (declared_from base log)) (more_is ∙ ap (λ xs. xs ++ unmarked carried ms) none) ∙ sym (live_parts base carried log ms is) ∙ ap (λ o. live o log) same

  pub opens_after : (all : List Declared) → IsOpening opening → all ≡ live opening log → opening.base + length log ≤ 2 ^ 34 → IsOpening (opening_of (base + length log) all)
  opens_after all opens all_is most =
      let base_is : base ≡ opening.base = ap (λ (o : Opening). o.base) same in
      record {
        base = omega arith;
        rising = subst IsRising (sym all_is) (live_rising opening log opens);
        below = rw (base_is, all_is) (live_below opening log opens);
      }

  pub opening_left : (all : List Declared) (result : Opening) → all ≡ live opening log → result ≡ opening_of (base + length log) all → result ≡ opening_after opening log
  opening_left all result all_is result_is = result_is ∙ ap₂ (λ (b : ℕ) ds. opening_of b ds) (ap (λ (o : Opening). o.base + length log) same) all_is
