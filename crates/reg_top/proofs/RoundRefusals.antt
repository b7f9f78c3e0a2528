-- A run refuses an image or at most one round, and none where all planned rounds were served.
use Rattle.std.proofs.Common.{◌≡◌, inl, inr, ℕ, ◌+◌, List, [], ◌∷◌, ◌++◌, length, map, Option, Some, None, sym, ◌∙◌, ap, subst, arith, length-append}
use Rattle.std.proofs.lemmas.List.{length-map}
use Rattle.std.proofs.lemmas.Option.{none-some, same_Some}
use Rattle.reg_model.specs.Limits.{Limits}
use Rattle.reg_model.specs.Opening.{Opening}
use Rattle.reg_model.specs.Runs.{RoundRows, closing}
use Rattle.reg_image.specs.Images.{IsImage}
use Rattle.reg_image.specs.ImageFaults.{image_fault}
use Rattle.reg_image.proofs.OneImage.{one_opening, image_none}
use Rattle.reg_session.specs.Files.{Files}
use Rattle.reg_top.specs.declared.refusal.Refusal.{Refusal}
use Rattle.reg_top.specs.FaultLines.{refusal_number}
use Rattle.reg_top.specs.Fetches.{RoundPlan, Plan}
use Rattle.reg_top.specs.commands.Run.{IsRunOutput, IsOpeningOf, RefusesAfter, RefusesImage, RefusesRun, round_refusal}

-- plans of these sizes are as many as the rounds
many_rounds : (plan : List RoundPlan) (served : List RoundRows) → map (λ (p : RoundPlan). p.limits) plan ≡ map (λ (r : RoundRows). r.limits) served → length plan ≡ length served
many_rounds plan served same =
    sym (length-map plan (λ (p : RoundPlan). p.limits)) ∙ (ap (λ (l : List Limits). length l) same ∙ length-map served (λ (r : RoundRows). r.limits))

-- behind two fronts of one length stands the same plan
next_plan : (xs ys : List RoundPlan) (a b : RoundPlan) (rest more : List RoundPlan) → length xs ≡ length ys → xs ++ a ∷ rest ≡ ys ++ b ∷ more → a ≡ b
next_plan [] [] a b rest more long same = cc
next_plan [] (y ∷ ys) a b rest more long same = absurd (omega (arith, long))
next_plan (x ∷ xs) [] a b rest more long same = absurd (omega (arith, long))
next_plan (x ∷ xs) (y ∷ ys) a b rest more long same =
    let tails : xs ++ a ∷ rest ≡ ys ++ b ∷ more = cc in
    next_plan xs ys a b rest more (omega (arith, long)) tails

-- from one opening a run refuses one round, for one cause
pub one_round_refused : (opening : Opening) (plan : List RoundPlan) (served : List RoundRows) (a b : Refusal) → RefusesAfter opening plan served a → RefusesAfter opening plan served b → a ≡ b
one_round_refused opening plan served a b one other =
    let long : length one.before ≡ length other.before = many_rounds one.before served one.sizes ∙ sym (many_rounds other.before served other.sizes) in
    let next : one.next ≡ other.next = next_plan one.before other.before one.next other.next one.rest other.rest long (sym one.split ∙ other.split) in
    let why = ap (λ (p : RoundPlan). round_refusal (length served) p.limits (closing opening served)) next in
    same_Some a b (sym one.why ∙ (why ∙ other.why))

-- where all planned rounds were served, none is refused
pub whole_unrefused : (opening : Opening) (plan : List RoundPlan) (served : List RoundRows)
    → map (λ (p : RoundPlan). p.limits) plan ≡ map (λ (r : RoundRows). r.limits) served → (refusal : Refusal) → RefusesAfter opening plan served refusal → ⊥
whole_unrefused opening plan served sizes refusal refuses =
    let all : length plan ≡ length served = many_rounds plan served sizes in
    let front : length refuses.before ≡ length served = many_rounds refuses.before served refuses.sizes in
    let parts : length plan ≡ length refuses.before + length (refuses.next ∷ refuses.rest) =
    ap (λ (l : List RoundPlan). length l) refuses.split ∙ length-append refuses.before (refuses.next ∷ refuses.rest) in
    omega (arith, all, front, parts)

-- ---- what a run begins with

-- files and a name tell one opening
pub same_opening : (load : Option (List ℕ)) (files : Files) (a b : Opening) → IsOpeningOf load files a → IsOpeningOf load files b → a ≡ b
same_opening None files a b one other = one ∙ sym other
same_opening (Some name) files a b one other =
    let bytes : one.0 ≡ other.0 = same_Some one.0 other.0 (sym one.1 ∙ other.1) in
    one_opening a b other.0 (subst (IsImage a) bytes one.2) other.2

-- a run that begins with an image refuses none
begun : (load : Option (List ℕ)) (name bytes : List ℕ) (files : Files) (opening : Opening) → IsOpeningOf load files opening → load ≡ Some name → files name ≡ Some bytes
    → image_fault bytes ≡ None
begun None name bytes files opening opens named held = absurd (none-some name named)
begun (Some other) name bytes files opening opens named held =
    let same : other ≡ name = same_Some other name named in
    let read : opens.0 ≡ bytes = same_Some opens.0 bytes (sym opens.1 ∙ (ap files same ∙ held)) in
    image_none opening bytes (subst (IsImage opening) read opens.2)

pub image_unrefused : (plan : Plan) (files : Files) (opening : Opening) (refusal : Refusal) → IsOpeningOf plan.load files opening → RefusesImage plan files refusal → ⊥
image_unrefused plan files opening refusal opens refuses =
    none-some refuses.fault (sym (begun plan.load refuses.name refuses.bytes files opening opens refuses.named refuses.held) ∙ refuses.has)

-- ---- a run

-- what a run refuses it refuses with one number
pub one_run_number : (plan : Plan) (files : Files) (served : List RoundRows) (a b : Refusal) → RefusesRun plan files served a → RefusesRun plan files served b → refusal_number a ≡ refusal_number b
one_run_number plan files served a b one other =
    elim one [
      | inl image ↦ elim other [
        | inl again ↦ ap refusal_number image.is ∙ sym (ap refusal_number again.is)
        | inr round ↦ absurd (image_unrefused plan files round.opening a round.opens image)
      ]
      | inr round ↦ elim other [
        | inl image ↦ absurd (image_unrefused plan files round.opening b round.opens image)
        | inr again ↦ (
            let same : again.opening ≡ round.opening = same_opening plan.load files again.opening round.opening again.opens round.opens in
            ap refusal_number (one_round_refused round.opening plan.rounds served a b round.after (subst (λ o. RefusesAfter o plan.rounds served b) same again.after))
            )
      ]
    ]

-- a run with an output refuses nothing
pub output_unrefused : (plan : Plan) (files : Files) (served : List RoundRows) (output : List ℕ) → IsRunOutput plan files served output
    → (refusal : Refusal) → RefusesRun plan files served refusal → ⊥
output_unrefused plan files served output is refusal refuses =
    let made = is.is.made in
    elim refuses [
      | inl image ↦ image_unrefused plan files is.opening refusal is.opens image
      | inr round ↦ whole_unrefused round.opening plan.rounds served made.sizes refusal round.after
    ]
