-- Writing a list of bytes piece by piece.
use Rattle.std.proofs.Common.{◌≡◌, ℕ, List, [], ◌++◌, take, drop, Option, Some, None, refl, sym, ◌∙◌, ap, subst, append_assoc, append-nil, arith}
use Rattle.std.specs.Prelude.{IfSome}
use Rattle.std.proofs.lemmas.List.{take-append-drop}
use Rattle.reg_session.specs.Faults.{Rose, Quiet}
use Rattle.reg_session.specs.Outside.{sink_view, TakesWhole, TakesPart, Tells}

-- the bytes before the rest are taken, and no fault came
pub record Written (before now : Option (List ℕ)) (faults_before faults : ℕ) (bytes rest : List ℕ) : Type 0 where
  pub taken : IfSome before (λ had. (front : List ℕ) × (front ++ rest ≡ bytes) × (now ≡ Some (had ++ front)))
  pub quiet : faults ≡ faults_before

pub nothing_written : (before : Option (List ℕ)) (faults : ℕ) (bytes : List ℕ) → Written before before faults faults bytes bytes
nothing_written None faults bytes = record { taken = tt; quiet = refl }
nothing_written (Some had) faults bytes = record { taken = ([], refl, ap Some (sym (append-nil had))); quiet = refl }

-- a sink that tells its bytes took a front of the rest
pub more_written : (before now next : Option (List ℕ)) (was then after n : ℕ) (bytes rest : List ℕ) → Written before now was then bytes rest
    → IfSome now (λ had. next ≡ Some (had ++ take n rest)) → after ≡ then → Written before next was after bytes (drop n rest)
more_written None now next was then after n bytes rest written takes quiet = record { taken = tt; quiet = quiet ∙ written.quiet }
more_written (Some had) now next was then after n bytes rest written takes quiet =
    let taken = written.taken in
    let front = taken.0 in
    let next_is : next ≡ Some (had ++ front ++ take n rest) = subst (λ o. IfSome o (λ had. next ≡ Some (had ++ take n rest))) taken.2 takes in
    record {
      taken = (
        front ++ take n rest,
        append_assoc front (take n rest) (drop n rest) ∙ ap (λ r. front ++ r) (take-append-drop n rest) ∙ taken.1,
        next_is ∙ ap Some (append_assoc had front (take n rest)),
      );
      quiet = quiet ∙ written.quiet;
    }

pub all_written : (before now : Option (List ℕ)) (was then : ℕ) (bytes : List ℕ) → Written before now was then bytes [] → TakesWhole before now bytes
all_written None now was then bytes written = tt
all_written (Some had) now was then bytes written =
    let taken = written.taken in
    taken.2 ∙ ap (λ front. Some (had ++ front)) (sym (append-nil taken.0) ∙ taken.1)

pub part_written : (before now next : Option (List ℕ)) (was then : ℕ) (bytes rest : List ℕ) → Written before now was then bytes rest → next ≡ now → TakesPart before next bytes
part_written None now next was then bytes rest written same = tt
part_written (Some had) now next was then bytes rest written same =
    let taken = written.taken in
    (taken.0, rest, taken.1, same ∙ taken.2)

-- ---- one part after the other

pub whole_then : (a b c : Option (List ℕ)) (x y : List ℕ) → TakesWhole a b x → TakesWhole b c y → TakesWhole a c (x ++ y)
whole_then None b c x y first next = tt
whole_then (Some had) b c x y first next =
    let last : c ≡ Some ((had ++ x) ++ y) = subst (λ o. TakesWhole o c y) first next in
    last ∙ ap Some (append_assoc had x y)

pub part_then : (a b c : Option (List ℕ)) (x y : List ℕ) → TakesWhole a b x → TakesPart b c y → TakesPart a c (x ++ y)
part_then None b c x y first next = tt
part_then (Some had) b c x y first next =
    let last = subst (λ o. TakesPart o c y) first next in
    (x ++ last.0, last.1, append_assoc x last.0 last.1 ∙ ap (λ t. x ++ t) last.2, last.3 ∙ ap Some (append_assoc had x last.0))

pub part_of : (a b : Option (List ℕ)) (x y : List ℕ) → TakesPart a b x → TakesPart a b (x ++ y)
part_of None b x y part = tt
part_of (Some had) b x y part = (part.0, part.1 ++ y, sym (append_assoc part.0 part.1 y) ∙ ap (λ t. t ++ y) part.2, part.3)

-- ---- the line of a fault

-- a line whose front is taken, and whose rest is told
pub tells_then : (a b c : Option (List ℕ)) (was then faults : ℕ) (x y : List ℕ) → TakesWhole a b x → then ≡ was → Tells (sink_view b then) (sink_view c faults) y → Tells (sink_view a was) (sink_view c faults) (x ++ y)
tells_then a b c was then faults x y first same rest = record {
  part = part_then a b c x y first rest.part;
  whole = λ quiet. whole_then a b c x y first (rest.whole (subst (λ n. Quiet n faults) (sym same) quiet));
}

-- a line whose front is cut
pub tells_cut : (a b : Option (List ℕ)) (was faults : ℕ) (x y : List ℕ) → TakesPart a b x → Rose was faults → Tells (sink_view a was) (sink_view b faults) (x ++ y)
tells_cut a b was faults x y part rose = record {
  part = part_of a b x y part;
  whole = λ quiet. absurd (omega (arith, quiet.0, quiet.1, rose));
}
