-- What a further update does to the live declarations.
use Rattle.std.proofs.Common.{◌≡◌, ◌⊎◌, inl, inr, ℕ, ◌+◌, ◌<◌, ◌≤◌, ◌^◌, Bool, true, false, not, ◌||◌, ◌&&◌, ◌==◌, cond, List, [], ◌∷◌, ◌++◌, length, filter, refl, sym, ◌∙◌, ap, subst, append_assoc, append-nil, length-append, lit≤, arith}
use Rattle.std.specs.List.{remove}
use Rattle.std.proofs.lemmas.Bool.Decides.{nat_tests}
use Rattle.std.proofs.lemmas.List.Edits.{length-remove}
use Rattle.std.proofs.lemmas.Bool.{true≢false}
use Rattle.std.proofs.lemmas.List.{length_push}
use Rattle.std.proofs.lemmas.List.Elements.{filter-append, filter_agree}
use Rattle.std.proofs.lemmas.List.Folds.{list_any-append}
use Rattle.std.proofs.lemmas.List.Sums.{sum_by_push, length-filter, count_by-le-length}
use Rattle.iscc_header.specs.declared.unit.Unit64.{Unit64}
use Rattle.reg_model.specs.declared.update.Update.{Update}
use Rattle.reg_model.specs.declared.update.Update.TheVariants.{Decl, Wd}
use Rattle.reg_model.specs.declared.update.Declared.{Declared}
use Rattle.reg_model.specs.Limits.{Limits, IsInRange}
use Rattle.reg_model.specs.Opening.{Opening, IsOpening, IsRising, opening_of}
use Rattle.reg_model.specs.Live.{declared_from, declared, withdraws, is_withdrawn, live, is_declaration, declarations, withdrawals}
use Rattle.reg_model.specs.Registry.{Registry}
use Rattle.reg_model.specs.inner.Current.{IsCurrent}
use Rattle.reg_model.proofs.Rising.{Within, live_within, live_rising, live_below, has_id, without, IsAt, remove-at, at_inside, at_below}

-- every element passes
pub filter_all : {X : Type 0} (p : X → Bool) → ((x : X) → p x ≡ true) → (xs : List X) → filter p xs ≡ xs
filter_all p h [] = refl
filter_all p h (x ∷ xs) = rw (h x) (ap (λ ys. x ∷ ys) (filter_all p h xs))

-- nothing is withdrawn at the start
pub live-start : (opening : Opening) → live opening [] ≡ opening.list
live-start opening = filter_all (λ d. not (is_withdrawn [] d.id)) (λ d. refl) (declared opening []) ∙ append-nil opening.list

abbrev pub declaration : ℕ → Unit64 → Declared
declaration id unit = record { id = id; unit = unit }

pub declared_from-push : (id : ℕ) (log : List Update) (unit : Unit64) → declared_from id (log ++ Decl unit ∷ []) ≡ declared_from id log ++ declaration (id + length log) unit ∷ []
declared_from-push id [] unit = ap (λ n. declaration n unit ∷ []) (omega arith)
declared_from-push id (Decl first ∷ log) unit =
    ap (λ ds. declaration id first ∷ ds)
    (declared_from-push (id + 1) log unit
    ∙ ap (λ n. declared_from (id + 1) log ++ declaration n unit ∷ []) (omega arith))
declared_from-push id (Wd other ∷ log) unit =
    declared_from-push (id + 1) log unit
    ∙ ap (λ n. declared_from (id + 1) log ++ declaration n unit ∷ []) (omega arith)

or-false : (b : Bool) → (b || false) ≡ b
or-false true = refl
or-false false = refl

-- a declaration withdraws nothing
pub is_withdrawn-declare : (log : List Update) (unit : Unit64) (id : ℕ) → is_withdrawn (log ++ Decl unit ∷ []) id ≡ is_withdrawn log id
is_withdrawn-declare log unit id = list_any-append (withdraws id) log (Decl unit ∷ []) ∙ or-false (is_withdrawn log id)

not_true : (b : Bool) → (b ≡ true → ⊥) → not b ≡ true
not_true true h = absurd (h refl)
not_true false h = refl

-- a declaration is live after its update, beside those before
pub live-declare : (opening : Opening) (log : List Update) (unit : Unit64)
    → ((id : ℕ) → is_withdrawn log id ≡ true → id < opening.base + length log)
    → live opening (log ++ Decl unit ∷ []) ≡ live opening log ++ declaration (opening.base + length log) unit ∷ []
live-declare opening log unit below =
    let keeps : Declared → Bool = λ d. not (is_withdrawn log d.id) in
    let new = declaration (opening.base + length log) unit in
    let fresh : keeps new ≡ true = not_true _ (λ (h : is_withdrawn log (opening.base + length log) ≡ true). omega (arith, below (opening.base + length log) h)) in
    filter_agree (λ (d : Declared). not (is_withdrawn (log ++ Decl unit ∷ []) d.id)) keeps (λ d. ap not (is_withdrawn-declare log unit d.id)) (declared opening (log ++ Decl unit ∷ []))
    ∙ ap (filter keeps) (ap (λ ds. opening.list ++ ds) (declared_from-push opening.base log unit) ∙ sym (append_assoc opening.list (declared_from opening.base log) (new ∷ [])))
    ∙ filter-append keeps (declared opening log) (new ∷ [])
    ∙ ap (λ b. live opening log ++ cond b (new ∷ []) []) fresh

-- a log declares no more than its updates
declared_few : (id : ℕ) (log : List Update) → length (declared_from id log) ≤ length log
declared_few id [] = lit≤ tt
declared_few id (Decl unit ∷ log) = omega (arith, declared_few (id + 1) log)
declared_few id (Wd other ∷ log) = omega (arith, declared_few (id + 1) log)

-- so no more are live than were carried and than there are updates
pub live_few : (opening : Opening) (log : List Update) → length (live opening log) ≤ length opening.list + length log
live_few opening log =
    omega (arith, length-filter (λ d. not (is_withdrawn log d.id)) (declared opening log), count_by-le-length (λ d. not (is_withdrawn log d.id)) (declared opening log), length-append opening.list (declared_from opening.base log), declared_few opening.base log)

-- ---- a withdrawal

declared_from-withdraw : (id : ℕ) (log : List Update) (other : ℕ) → declared_from id (log ++ Wd other ∷ []) ≡ declared_from id log
declared_from-withdraw id [] other = refl
declared_from-withdraw id (Decl unit ∷ log) other = ap (λ ds. declaration id unit ∷ ds) (declared_from-withdraw (id + 1) log other)
declared_from-withdraw id (Wd first ∷ log) other = declared_from-withdraw (id + 1) log other

-- a withdrawal is one of the given id, or of an earlier one
is_withdrawn-withdraw : (log : List Update) (other id : ℕ) → is_withdrawn (log ++ Wd other ∷ []) id ≡ (is_withdrawn log id || (other == id))
is_withdrawn-withdraw log other id = list_any-append (withdraws id) log (Wd other ∷ []) ∙ ap (λ b. is_withdrawn log id || b) (or-false (other == id))

-- what passes both tests
filter-filter : (p q both : Declared → Bool) → ((d : Declared) → both d ≡ (p d && q d)) → (ds : List Declared) → filter both ds ≡ filter q (filter p ds)
filter-filter p q both agree [] = refl
filter-filter p q both agree (d ∷ ds) =
    let rest = filter-filter p q both agree ds in
    rw (agree d) (elim (p d) as (λ b. cond (b && q d) (d ∷ filter both ds) (filter both ds) ≡ filter q (cond b (d ∷ filter p ds) (filter p ds)))
    [ true ↦ ap (λ ds. cond (q d) (d ∷ ds) ds) rest | false ↦ rest ])

both_kept : (earlier this : Bool) → not (earlier || this) ≡ (not earlier && not this)
both_kept true this = refl
both_kept false this = refl

-- the others stay live
live-withdraw : (opening : Opening) (log : List Update) (id : ℕ) → live opening (log ++ Wd id ∷ []) ≡ without id (live opening log)
live-withdraw opening log id =
    ap (λ ds. filter (λ (d : Declared). not (is_withdrawn (log ++ Wd id ∷ []) d.id)) (opening.list ++ ds)) (declared_from-withdraw opening.base log id)
    ∙ filter-filter (λ (d : Declared). not (is_withdrawn log d.id)) (λ (d : Declared). not (has_id id d)) (λ (d : Declared). not (is_withdrawn (log ++ Wd id ∷ []) d.id))
    (λ d. ap not (is_withdrawn-withdraw log id d.id) ∙ both_kept (is_withdrawn log d.id) (id == d.id) ∙ ap (λ b. not (is_withdrawn log d.id) && not b) (turned id d.id))
    (declared opening log)
  where
    turned : (m n : ℕ) → (m == n) ≡ (n == m)
    turned m n = grind (arith, nat_tests)

-- ---- the counts of a log

-- each withdrawal of the log ends one declaration that was live
pub record IsBalanced (opening : Opening) (log : List Update) : Type 0 where
  -- a withdrawn id is one that was given
  pub below : (id : ℕ) → is_withdrawn log id ≡ true → id < opening.base + length log
  pub balance : length (live opening log) + withdrawals log ≡ length opening.list + declarations log

pub balanced_start : (opening : Opening) → IsBalanced opening []
balanced_start opening = record {
  below = λ id h. absurd (true≢false (sym h));
  balance = omega (arith, ap length (live-start opening));
}

-- a declaration is no withdrawal
withdrawals-declare : (log : List Update) (unit : Unit64) → withdrawals (log ++ Decl unit ∷ []) ≡ withdrawals log
withdrawals-declare log unit = omega (arith, sum_by_push (λ u. cond (not (is_declaration u)) 1 0) log (Decl unit))

pub balanced_declare : (opening : Opening) (log : List Update) (unit : Unit64) → IsBalanced opening log → IsBalanced opening (log ++ Decl unit ∷ [])
balanced_declare opening log unit h = record {
  below = λ id is. let earlier : is_withdrawn log id ≡ true = sym (is_withdrawn-declare log unit id) ∙ is in omega (arith, h.below id earlier, length_push log (Decl unit));
  balance = omega (arith, h.balance, ap length (live-declare opening log unit h.below), length_push (live opening log) (declaration (opening.base + length log) unit), withdrawals-declare log unit, sum_by_push (λ u. cond (is_declaration u) 1 0) log (Decl unit));
}

pub balanced_withdraw : (opening : Opening) (log : List Update) (id place : ℕ) → IsOpening opening → IsAt id place (live opening log) → IsBalanced opening log
    → IsBalanced opening (log ++ Wd id ∷ [])
balanced_withdraw opening log id place opens at h =
    let list = live opening log in
    let within = live_within opening log opens in
    let given : id < opening.base + length log = at_below id place 0 (opening.base + length log) list within at in
    let left : remove list place ≡ live opening (log ++ Wd id ∷ []) = remove-at id place 0 (opening.base + length log) list within at ∙ sym (live-withdraw opening log id) in
    record {
      below = λ other is. grind (arith, nat_tests, length_push log (Wd id), given, h.below other, or_cases (is_withdrawn log other) (id == other) (sym (is_withdrawn-withdraw log id other) ∙ is));
      balance = omega (arith, h.balance, ap length left, length-remove list place (at_inside id place list at), sum_by_push (λ u. cond (not (is_declaration u)) 1 0) log (Wd id), sum_by_push (λ u. cond (is_declaration u) 1 0) log (Wd id));
    }
  where
    or_cases : (a b : Bool) → (a || b) ≡ true → (a ≡ true) ⊎ (b ≡ true)
    or_cases true b is = inl refl
    or_cases false b is = inr is

-- ---- a registry between two calls

-- a registry as it starts
pub current_start : (limits : Limits) (opening : Opening) → IsInRange limits → IsOpening opening → length opening.list ≤ limits.entries → opening.base + limits.log ≤ 2 ^ 34
    → IsCurrent (record { limits = limits; opening = opening; log = [] }) opening.list 0
current_start limits opening range opens room ids = record {
  limits = range;
  opening = opens;
  ids = ids;
  within = omega arith;
  room = room;
  kept = sym (live-start opening);
  counted = refl;
  below = λ id h. absurd (true≢false (sym h));
  balance = refl;
}

balanced : (limits : Limits) (opening : Opening) (log : List Update) (list : List Declared) (withdrawn : ℕ)
    → IsCurrent (record { limits = limits; opening = opening; log = log }) list withdrawn → IsBalanced opening log
balanced limits opening log list withdrawn current = record { below = current.below; balance = omega (arith, current.balance, ap length current.kept) }

-- a registry after a declaration
pub current_declare : (limits : Limits) (opening : Opening) (log : List Update) (list : List Declared) (withdrawn : ℕ) (unit : Unit64)
    → IsCurrent (record { limits = limits; opening = opening; log = log }) list withdrawn → length log < limits.log → length list < limits.entries
    → IsCurrent (record { limits = limits; opening = opening; log = log ++ Decl unit ∷ [] }) (list ++ declaration (opening.base + length log) unit ∷ []) withdrawn
current_declare limits opening log list withdrawn unit current log_room room =
    let next = balanced_declare opening log unit (balanced limits opening log list withdrawn current) in
    let new : list ++ declaration (opening.base + length log) unit ∷ [] ≡ live opening (log ++ Decl unit ∷ []) = ap (λ ds. ds ++ declaration (opening.base + length log) unit ∷ []) current.kept ∙ sym (live-declare opening log unit current.below) in
    record {
      limits = current.limits;
      opening = current.opening;
      ids = current.ids;
      within = omega (arith, length_push log (Decl unit));
      room = omega (arith, length_push list (declaration (opening.base + length log) unit));
      kept = new;
      counted = current.counted ∙ sym (withdrawals-declare log unit);
      below = next.below;
      balance = omega (arith, next.balance, ap length new);
    }

-- the current list is by rising id
pub current_rising : (r : Registry) (list : List Declared) (withdrawn : ℕ) → IsCurrent r list withdrawn → IsRising list
current_rising r list withdrawn current = subst IsRising (sym current.kept) (live_rising r.opening r.log current.opening)

pub current_within : (r : Registry) (list : List Declared) (withdrawn : ℕ) → IsCurrent r list withdrawn → Within 0 (r.opening.base + length r.log) list
current_within r list withdrawn current = subst (Within 0 (r.opening.base + length r.log)) (sym current.kept) (live_within r.opening r.log current.opening)

-- a registry after a withdrawal
pub current_withdraw : (limits : Limits) (opening : Opening) (log : List Update) (list : List Declared) (withdrawn id place : ℕ)
    → IsCurrent (record { limits = limits; opening = opening; log = log }) list withdrawn → length log < limits.log → IsAt id place list
    → IsCurrent (record { limits = limits; opening = opening; log = log ++ Wd id ∷ [] }) (remove list place) (withdrawn + 1)
current_withdraw limits opening log list withdrawn id place current log_room at =
    let before : Registry = record { limits = limits; opening = opening; log = log } in
    let within = current_within before list withdrawn current in
    let next = balanced_withdraw opening log id place current.opening (subst (IsAt id place) current.kept at) (balanced limits opening log list withdrawn current) in
    let left : remove list place ≡ live opening (log ++ Wd id ∷ []) = remove-at id place 0 (opening.base + length log) list within at ∙ ap (without id) current.kept ∙ sym (live-withdraw opening log id) in
    record {
      limits = current.limits;
      opening = current.opening;
      ids = current.ids;
      within = omega (arith, length_push log (Wd id));
      room = omega (arith, length-remove list place (at_inside id place list at), current.room);
      kept = left;
      counted = omega (arith, current.counted, sum_by_push (λ u. cond (not (is_declaration u)) 1 0) log (Wd id));
      below = next.below;
      balance = omega (arith, next.balance, ap length left);
    }

-- what the next round begins with
pub current_opening : (r : Registry) (list : List Declared) (withdrawn point : ℕ) → IsCurrent r list withdrawn → point ≡ r.opening.base + length r.log → IsOpening (opening_of point list)
current_opening r list withdrawn point current here = record {
  base = omega (arith, here, current.ids, current.within);
  rising = current_rising r list withdrawn current;
  below = rw (here, current.kept) (live_below r.opening r.log current.opening);
}
