-- What a ledger keeps of a registry, from one update to the next.
use Rattle.std.proofs.Common.{◌≡◌, ℕ, zero, suc, ◌+◌, ◌<◌, ◌≤◌, ◌^◌, Bool, true, false, not, ◌==◌, cond, List, [], ◌∷◌, ◌++◌, length, refl, sym, ◌∙◌, ap, subst, arith}
use Rattle.std.specs.Prelude.{All, IfSome, IsTrue, nat_lt, slice_get, ◌↔◌}
use Rattle.std.proofs.lemmas.Bool.{true≢false}
use Rattle.std.proofs.lemmas.List.Elements.{All-filter}
use Rattle.std.proofs.lemmas.List.Kept.{AllPairs-filter}
use Rattle.std.proofs.lemmas.Bool.Decides.{nat_tests}
use Rattle.std.proofs.lemmas.List.Sums.{sum_by-cons, sum_by_push}
use Rattle.iscc_header.specs.declared.unit.Unit64.{Unit64}
use Rattle.reg_model.specs.declared.update.Update.{Update}
use Rattle.reg_model.specs.declared.update.Update.TheVariants.{Decl, Wd}
use Rattle.reg_model.specs.declared.update.Declared.{Declared}
use Rattle.reg_model.specs.Limits.{Limits, IsInRange}
use Rattle.reg_model.specs.Opening.{Opening, IsOpening, IsRising, opening_of}
use Rattle.reg_model.specs.Live.{live, opening_after, is_declaration, declarations, withdrawals}
use Rattle.reg_model.specs.Registry.{Registry}
use Rattle.reg_model.specs.inner.Current.{IsCurrent}
use Rattle.reg_model.proofs.Rising.{Within, live_within, live_rising, live_below, has_id, without, remove-at, at_found}
use Rattle.reg_model.proofs.LiveSteps.{live-start, live-declare, declaration, current_start, current_declare, current_withdraw, current_within, current_opening}
use Rattle.reg_history.specs.inner.LiveSets.{AreByKind}
use Rattle.reg_history.specs.inner.Ledgers.{LedgerParts, point_of, IsLedger, Keeps, MayAdd}

-- ---- numbers

-- each update is a declaration or a withdrawal
pub updates_counted : (log : List Update) → declarations log + withdrawals log ≡ length log
updates_counted [] = refl
updates_counted (Decl unit ∷ log) = omega (arith, updates_counted log, sum_by-cons (λ u. cond (is_declaration u) 1 0) (Decl unit) log, sum_by-cons (λ u. cond (not (is_declaration u)) 1 0) (Decl unit) log)
updates_counted (Wd id ∷ log) = omega (arith, updates_counted log, sum_by-cons (λ u. cond (is_declaration u) 1 0) (Wd id) log, sum_by-cons (λ u. cond (not (is_declaration u)) 1 0) (Wd id) log)

pub keeps_updates : (parts : LedgerParts) (r : Registry) → Keeps parts r → parts.declared + parts.withdrawn ≡ length r.log
keeps_updates parts r h = omega (arith, h.declared, h.withdrawn, updates_counted r.log)

pub log_full : (parts : LedgerParts) (r : Registry) (most : ℕ) → Keeps parts r → most ≡ parts.limits.log → IsTrue (parts.declared + parts.withdrawn == most) ↔ (length r.log ≡ r.limits.log)
log_full parts r most h is =
    let same : parts.limits.log ≡ r.limits.log = ap (λ (limits : Limits). limits.log) h.limits in
    grind (arith, nat_tests, keeps_updates parts r h, same, is)

pub keeps_point : (parts : LedgerParts) (r : Registry) → Keeps parts r → point_of parts ≡ r.opening.base + length r.log
keeps_point parts r h = omega (arith, h.base, keeps_updates parts r h)

within_length : (low high : ℕ) (ds : List Declared) → Within low high ds → low + length ds ≤ high
within_length low high [] h = omega (arith, h)
within_length low high (d ∷ ds) h = omega (arith, h.0, within_length (d.id + 1) high ds h.1)

-- the ids tell the declarations apart
pub opening_few : (opening : Opening) → IsOpening opening → length opening.list ≤ 2 ^ 34
opening_few opening opens =
    let within = subst (Within 0 (opening.base + 0)) (live-start opening) (live_within opening [] opens) in
    omega (arith, opens.base, within_length 0 (opening.base + 0) opening.list within)

-- ---- a round's start

abbrev parts_at : Limits → ℕ → ℕ → List (List Declared) → LedgerParts
parts_at limits base carried kinds = record { limits = limits; base = base; carried = carried; declared = 0; withdrawn = 0; kinds = kinds }

abbrev registry_at : Limits → Opening → List Update → Registry
registry_at limits opening log = record { limits = limits; opening = opening; log = log }

pub keeps_start : (limits : Limits) (opening : Opening) (carried : ℕ) (kinds : List (List Declared)) → IsInRange limits → IsOpening opening → length opening.list ≤ limits.entries → opening.base + limits.log ≤ 2 ^ 34
    → carried ≡ length opening.list → AreByKind kinds opening.list
    → Keeps (parts_at limits opening.base carried kinds) (registry_at limits opening [])
keeps_start limits opening carried kinds range opens room ids is by_kind = record {
  limits = refl;
  base = refl;
  carried = is;
  declared = refl;
  withdrawn = refl;
  live = subst (AreByKind kinds) (sym (live-start opening)) by_kind;
  current = subst (λ list. IsCurrent (registry_at limits opening []) list 0) (sym (live-start opening)) (current_start limits opening range opens room ids);
}

-- what is live begins the next round
pub keeps_reopen : (parts : LedgerParts) (r : Registry) (limits : Limits) (base carried : ℕ) → Keeps parts r → IsInRange limits → length (live r.opening r.log) ≤ limits.entries → base + limits.log ≤ 2 ^ 34
    → base ≡ r.opening.base + length r.log → carried ≡ length (live r.opening r.log)
    → Keeps (parts_at limits base carried parts.kinds) (registry_at limits (opening_after r.opening r.log) [])
keeps_reopen parts r limits base carried h range room ids here is =
    subst (λ n. Keeps (parts_at limits n carried parts.kinds) (registry_at limits (opening_after r.opening r.log) [])) (sym here)
    (keeps_start limits (opening_after r.opening r.log) carried parts.kinds range (current_opening r (live r.opening r.log) parts.withdrawn (r.opening.base + length r.log) h.current refl) room (omega (arith, ids, here)) is h.live)

pub reopens : (parts : LedgerParts) (limits : Limits) (base carried : ℕ) → IsLedger parts → IsInRange limits → base + limits.log ≤ 2 ^ 34 → base ≡ point_of parts
    → ((list : List Declared) → AreByKind parts.kinds list → carried ≡ length list) → IsLedger (parts_at limits base carried parts.kinds)
reopens parts limits base carried h range ids here counted = record {
  limits = range;
  ids = ids;
  within = omega arith;
  few = omega (arith, counted h.list h.by_kind, opening_few (opening_of (point_of parts) h.list) h.opens);
  list = h.list;
  by_kind = h.by_kind;
  opens =
      let same : point_of parts ≡ base + 0 + 0 = omega (arith, here) in
      subst (λ n. IsOpening (opening_of n h.list)) same h.opens;
}

-- ---- an update

-- what is live after the update that follows is in order
abbrev next_opening : Opening → Update → Opening
next_opening opening update = opening_of (opening.base + 1) (live opening (update ∷ []))

next_opens : (opening : Opening) (update : Update) → IsOpening opening → opening.base + 1 ≤ 2 ^ 34 → IsOpening (next_opening opening update)
next_opens opening update opens le = record {
  base = le;
  rising = live_rising opening (update ∷ []) opens;
  below = live_below opening (update ∷ []) opens;
}

next_declare : (opening : Opening) (unit : Unit64) → live opening (Decl unit ∷ []) ≡ opening.list ++ declaration opening.base unit ∷ []
next_declare opening unit =
    live-declare opening [] unit (λ id h. absurd (true≢false (sym h)))
    ∙ ap (λ ds. ds ++ declaration (opening.base + 0) unit ∷ []) (live-start opening)
    ∙ ap (λ n. opening.list ++ declaration n unit ∷ []) here
  where
    here : opening.base + 0 ≡ opening.base
    here = omega arith

-- one declaration more, or one withdrawal
abbrev pub with_declaration : LedgerParts → List (List Declared) → LedgerParts
with_declaration parts kinds = record parts { declared = parts.declared + 1; kinds = kinds }

abbrev pub with_withdrawal : LedgerParts → List (List Declared) → LedgerParts
with_withdrawal parts kinds = record parts { withdrawn = parts.withdrawn + 1; kinds = kinds }

pub declares : (parts : LedgerParts) (kinds : List (List Declared)) (unit : Unit64) (id : ℕ) → IsLedger parts → parts.declared + parts.withdrawn < parts.limits.log → id ≡ point_of parts
    → ((list : List Declared) → AreByKind parts.kinds list → AreByKind kinds (list ++ declaration id unit ∷ [])) → IsLedger (with_declaration parts kinds)
declares parts kinds unit id h room here pushed =
    let opening : Opening = opening_of (point_of parts) h.list in
    let next : point_of parts + 1 ≡ point_of (with_declaration parts kinds) = omega arith in
    record {
      limits = h.limits;
      ids = h.ids;
      within = omega (arith, room);
      few = h.few;
      list = live opening (Decl unit ∷ []);
      by_kind = subst (AreByKind kinds) (ap (λ n. h.list ++ declaration n unit ∷ []) here ∙ sym (next_declare opening unit)) (pushed h.list h.by_kind);
      opens = subst (λ n. IsOpening (opening_of n (live opening (Decl unit ∷ [])))) next (next_opens opening (Decl unit) h.opens (omega (arith, h.ids, room)));
    }

pub withdraws_one : (parts : LedgerParts) (kinds : List (List Declared)) (id : ℕ) → IsLedger parts → parts.declared + parts.withdrawn < parts.limits.log
    → ((list : List Declared) → AreByKind parts.kinds list → IsRising list → AreByKind kinds (without id list)) → IsLedger (with_withdrawal parts kinds)
withdraws_one parts kinds id h room left = record {
  limits = h.limits;
  ids = h.ids;
  within = omega (arith, room);
  few = h.few;
  list = without id h.list;
  by_kind = left h.list h.by_kind h.opens.rising;
  opens = record {
    base = omega (arith, h.ids, room);
    rising = AllPairs-filter (λ (a b : Declared). a.id < b.id) (λ (d : Declared). not (has_id id d)) h.list h.opens.rising;
    below = All-filter (λ (d : Declared). not (has_id id d)) (λ (d : Declared). d.id < point_of (with_withdrawal parts kinds)) h.list (λ k d lt. omega (arith, h.opens.below k d lt));
  };
}

beyond : {X : Type 0} (P : X → Type 0) (xs : List X) (k : ℕ) → length xs ≤ k → IfSome (slice_get xs k) P
beyond P [] k le = tt
beyond P (x ∷ xs) zero le = absurd (omega (arith, le))
beyond P (x ∷ xs) (suc k) le = beyond P xs k (omega (arith, le))

-- all ids are below the next
pub below_next : (parts : LedgerParts) (kind id : ℕ) → IsLedger parts → id ≡ point_of parts → IfSome (slice_get parts.kinds kind) (All (λ (d : Declared). d.id < id))
below_next parts kind id h here = step (nat_lt kind 13) refl
  where
    step : (b : Bool) → nat_lt kind 13 ≡ b → IfSome (slice_get parts.kinds kind) (All (λ (d : Declared). d.id < id))
    step true is =
        let lt : kind < 13 = grind (arith, nat_tests, is) in
        subst (λ o. IfSome o (All (λ (d : Declared). d.id < id))) (sym (h.by_kind.each kind lt))
        (All-filter (λ (d : Declared). d.unit.kind == kind) (λ (d : Declared). d.id < id) h.list (subst (λ n. All (λ (d : Declared). d.id < n) h.list) (sym here) h.opens.below))
    step false is =
        let ge : 13 ≤ kind = grind (arith, nat_tests, is) in
        beyond (All (λ (d : Declared). d.id < id)) parts.kinds kind (omega (arith, ge, h.by_kind.all))

pub keeps_declare : (parts : LedgerParts) (r : Registry) (kinds : List (List Declared)) (unit : Unit64) (id : ℕ) → Keeps parts r → MayAdd r (Decl unit) → id ≡ point_of parts
    → ((list : List Declared) → AreByKind parts.kinds list → AreByKind kinds (list ++ declaration id unit ∷ []))
    → Keeps (with_declaration parts kinds) (record r { log = r.log ++ Decl unit ∷ [] })
keeps_declare parts r kinds unit id h may here pushed =
    let list = live r.opening r.log in
    let new : list ++ declaration (r.opening.base + length r.log) unit ∷ [] ≡ live r.opening (r.log ++ Decl unit ∷ []) = sym (live-declare r.opening r.log unit h.current.below) in
    record {
      limits = h.limits;
      base = h.base;
      carried = h.carried;
      declared = omega (arith, h.declared, sum_by_push (λ u. cond (is_declaration u) 1 0) r.log (Decl unit));
      withdrawn = omega (arith, h.withdrawn, sum_by_push (λ u. cond (not (is_declaration u)) 1 0) r.log (Decl unit));
      live = subst (AreByKind kinds) (ap (λ n. list ++ declaration n unit ∷ []) (here ∙ keeps_point parts r h) ∙ new) (pushed list h.live);
      current = subst (λ ds. IsCurrent (record r { log = r.log ++ Decl unit ∷ [] }) ds parts.withdrawn) new (current_declare r.limits r.opening r.log list parts.withdrawn unit h.current may.0 may.1);
    }

pub keeps_withdraw : (parts : LedgerParts) (r : Registry) (kinds : List (List Declared)) (id : ℕ) → Keeps parts r → MayAdd r (Wd id)
    → ((list : List Declared) → AreByKind parts.kinds list → IsRising list → AreByKind kinds (without id list))
    → Keeps (with_withdrawal parts kinds) (record r { log = r.log ++ Wd id ∷ [] })
keeps_withdraw parts r kinds id h may left =
    let list = live r.opening r.log in
    let at = at_found id list may.1 in
    let next = current_withdraw r.limits r.opening r.log list parts.withdrawn id at.0 h.current may.0 at.1 in
    let taken = remove-at id at.0 0 (r.opening.base + length r.log) list (current_within r list parts.withdrawn h.current) at.1 in
    record {
      limits = h.limits;
      base = h.base;
      carried = h.carried;
      declared = omega (arith, h.declared, sum_by_push (λ u. cond (is_declaration u) 1 0) r.log (Wd id));
      withdrawn = omega (arith, h.withdrawn, sum_by_push (λ u. cond (not (is_declaration u)) 1 0) r.log (Wd id));
      live = subst (AreByKind kinds) (sym taken ∙ next.kept) (left list h.live (live_rising r.opening r.log h.current.opening));
      current = subst (λ ds. IsCurrent (record r { log = r.log ++ Wd id ∷ [] }) ds (parts.withdrawn + 1)) next.kept next;
    }
