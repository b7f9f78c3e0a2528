-- How a run ends whose rounds were served, or not all of them.
use Rattle.std.proofs.Common.{◌≡◌, inl, inr, ℕ, List, [], map, Option, ◌∙◌, ap, subst}
use Rattle.std.specs.List.{AllZip}
use Rattle.reg_model.specs.declared.reply.Row.{Row}
use Rattle.reg_model.specs.Opening.{Opening}
use Rattle.reg_model.specs.Runs.{RoundRows, closing}
use Rattle.reg_requests.specs.declared.items.Item.{Item}
use Rattle.reg_image.specs.Images.{IsImage}
use Rattle.reg_session.specs.Files.{Files}
use Rattle.reg_session.specs.Outside.{ShelfView, Outside, Tells, shelf_view}
use Rattle.reg_top.specs.declared.ending.Declined.{Declined}
use Rattle.reg_top.specs.declared.ending.Declined.TheVariants as declines
use Rattle.reg_top.specs.declared.ending.Ending.{Ending}
use Rattle.reg_top.specs.declared.ending.Ending.TheVariants as endings
use Rattle.reg_top.specs.declared.refusal.Refusal.{Refusal}
use Rattle.reg_top.specs.Fetches.{Plan, fetches}
use Rattle.reg_top.specs.Fetches.Command.{Run}
use Rattle.reg_top.specs.FaultLines.{memory_line}
use Rattle.reg_top.specs.commands.Run.{accounts_served, IsImageLeft, RefusesRun}
use Rattle.reg_top.specs.Outcomes.{GivenBy, HasOnly}
use Rattle.reg_top.specs.inner.Endings.{declined_line, declined_ending, Untouched, Saved, Fetched, Makes, EndsShort, Ends, IsServedEnding}
use Rattle.reg_top.specs.inner.RunFiles.{ReadsRound, LoadsImage}
use Rattle.reg_top.specs.inner.RunPlans.{MayBeRun}
use Rattle.reg_top.specs.inner.RunRounds.{FitsRound, all_served, left_by}
use Rattle.reg_top.specs.inner.RunEndings.{IsServedRun, StopsRun, StopsAtImage, IsDeclinedRun, PutsImage, FinishesAs}
use Rattle.reg_top.proofs.Makings.{run_makes}
use Rattle.reg_top.proofs.RunFiles.{all_fetched, fit_rounds, given_read}
use Rattle.reg_top.proofs.RunImages.{begins, may_begin_so, opening_told, refuses_image, refuses_bytes, has_image, none_failed, none_put}
use Rattle.reg_top.proofs.ServedRounds.{left_is, all_kept, run_output, rows_before, refuses_after, refuses_round, refused_kept}

-- what a run was given: the image, if any, and the items of its files
pub record IsRunGiven (plan : Plan) (image : Option (List ℕ)) (lists : List (List (List Item))) (shelf : ShelfView) : Type 0 where
  pub may : MayBeRun plan.rounds
  pub loads : LoadsImage shelf.files plan.load image
  pub read : AllZip (ReadsRound shelf.files) plan.rounds lists
  pub fits : AllZip FitsRound plan.rounds lists

pub run_given : (plan : Plan) (image : Option (List ℕ)) (lists : List (List (List Item))) (shelf : ShelfView) → MayBeRun plan.rounds → LoadsImage shelf.files plan.load image
    → AllZip (ReadsRound shelf.files) plan.rounds lists → IsRunGiven plan image lists shelf
run_given plan image lists shelf may loads read = record { may = may; loads = loads; read = read; fits = fit_rounds shelf.files plan.rounds lists may read }

-- the rounds that were served, and how the run ends; its seals are theirs
abbrev pub HasEnded : Plan → Outside → Outside → List (List (List Row)) → Ending → Type 0
HasEnded plan before after seals ending = (served : List RoundRows) × Ends (Run plan) before after served ending × (IsServedEnding ending → seals ≡ map accounts_served served)

-- a shelf of which nothing has changed
pub same_shelf : {files left : Option Files} {fetches failed puts unput : ℕ} → left ≡ files → failed ≡ fetches → unput ≡ puts → shelf_view left failed unput ≡ shelf_view files fetches puts
same_shelf same quiet kept = λ i. shelf_view (same i) (quiet i) (kept i)

untouched : (before after : Outside) → after.shelf ≡ before.shelf → Untouched before after
untouched before after same = record { files = ap (λ (s : ShelfView). s.files) same; puts = ap (λ (s : ShelfView). s.put_faults) same }

pub memory_wanting : (before after : Outside) → after.shelf ≡ before.shelf → Tells before.sink after.sink memory_line → EndsShort before after
memory_wanting before after same told = record { quiet = ap (λ (s : ShelfView). s.fetch_faults) same; untouched = untouched before after same; told = told }

-- ---- a run that was refused

stops_at_image : (plan : Plan) (image : Option (List ℕ)) (lists : List (List (List Item))) (before after : Outside) (seals : List (List (List Row))) (refusal : Refusal)
    → IsRunGiven plan image lists before.shelf → after.shelf ≡ before.shelf → StopsAtImage image seals refusal → Tells before.sink after.sink (declined_line (declines.Refused refusal))
    → HasEnded plan before after seals (endings.Refused refusal)
stops_at_image plan image lists before after seals refusal given same stops told = (
  [],
  record {
    fetched = all_fetched plan image lists before after given.loads given.read (ap (λ (s : ShelfView). s.fetch_faults) same);
    untouched = untouched before after same;
    why = given_read plan image lists before (λ files. RefusesRun plan files [] refusal) given.may given.loads given.read (λ files was. inl (refuses_image files plan image refusal was.loads stops.why));
    rounds = inl (refuses_bytes before.shelf.files plan image refusal given.loads stops.why);
    told = told;
  },
  λ _. stops.none,
)

stops_at_round : (plan : Plan) (image : Option (List ℕ)) (lists : List (List (List Item))) (before after : Outside) (seals : List (List (List Row))) (refusal : Refusal)
    → IsRunGiven plan image lists before.shelf → after.shelf ≡ before.shelf → StopsRun plan image lists seals refusal → Tells before.sink after.sink (declined_line (declines.Refused refusal))
    → HasEnded plan before after seals (endings.Refused refusal)
stops_at_round plan image lists before after seals refusal given same stopped told =
    let opening = stopped.opening in
    let stops = stopped.stops in
    let begun = begins image opening stopped.opens in
    let served : List RoundRows = rows_before opening plan.rounds lists seals refusal stops in (
      served,
      record {
        fetched = all_fetched plan image lists before after given.loads given.read (ap (λ (s : ShelfView). s.fetch_faults) same);
        untouched = untouched before after same;
        why = given_read plan image lists before (λ files. RefusesRun plan files served refusal) given.may given.loads given.read
            (λ files was.
            inr (refuses_round files plan opening lists seals refusal stops (opening_told files plan.load image opening was.loads stopped.opens) begun given.may given.fits was.read));
        rounds = inr (record {
          opening = opening;
          opens = may_begin_so before.shelf.files plan.load image opening given.loads stopped.opens;
          after = refuses_after opening plan.rounds lists seals refusal stops begun given.may;
        });
        told = told;
      },
      λ _. refused_kept opening plan.rounds lists seals refusal stops given.fits,
    )

-- an image or a round was refused, or memory is wanting
pub run_declined : (plan : Plan) (image : Option (List ℕ)) (lists : List (List (List Item))) (before after : Outside) (seals : List (List (List Row))) (why : Declined)
    → IsRunGiven plan image lists before.shelf → after.shelf ≡ before.shelf → IsDeclinedRun plan image lists seals why → Tells before.sink after.sink (declined_line why)
    → HasEnded plan before after seals (declined_ending why)
run_declined plan image lists before after seals (declines.Refused refusal) given same why told =
    elim why [
      | inl stops ↦ stops_at_image plan image lists before after seals refusal given same stops told
      | inr stops ↦ stops_at_round plan image lists before after seals refusal given same stops told
    ]
run_declined plan image lists before after seals declines.NoMemory given same why told = ([], memory_wanting before after same told, λ none. absurd none)

-- ---- a run that was served

module _ (plan : Plan) (image : Option (List ℕ)) (lists : List (List (List Item))) (seals : List (List (List Row))) (output : List ℕ) (saved : Option (List ℕ)) (before after : Outside)
    (given : IsRunGiven plan image lists before.shelf) (is : IsServedRun plan image lists seals output saved) where
  abbrev opening : Opening
  opening = is.opening

  abbrev served : List RoundRows
  served = (let text = is.text in all_served is.opening plan.rounds lists text.rounds text.served)

  -- its output
  makes : GivenBy (fetches (Run plan)) before.shelf.files (λ files. Makes (Run plan) files served output)
  makes =
      let text = is.text in
      given_read plan image lists before (λ files. Makes (Run plan) files served output) given.may given.loads given.read
      (λ files was.
      run_makes plan files served output (record {
        opening = opening;
        opens = opening_told files plan.load image opening was.loads is.opens;
        is = run_output files opening plan.rounds lists text.rounds text.served output (begins image opening is.opens) given.may given.fits was.read text.is;
      }))

  -- the image that it leaves
  saves : PutsImage plan.save saved before.shelf after.shelf → Saved (Run plan) before after served
  saves puts =
      let text = is.text in
      let left : left_by opening text.rounds ≡ closing opening served = left_is opening plan.rounds lists text.rounds text.served in
      record {
        saves = given_read plan image lists before (λ files. HasOnly plan.save before.shelf.files after.shelf.files (IsImageLeft plan files served)) given.may given.loads given.read
            (λ files was.
            has_image plan.save saved before.shelf after.shelf (left_by opening text.rounds) (IsImageLeft plan files served) is.saves puts
            (λ bytes of_it.
            record { opening = opening; opens = opening_told files plan.load image opening was.loads is.opens; image = subst (λ (o : Opening). IsImage o bytes) left of_it }));
        puts = (none_failed plan.save saved before.shelf after.shelf puts).1;
        kept = λ none. none_put plan.save saved before.shelf after.shelf puts none;
      }

  fetched : after.shelf.fetch_faults ≡ before.shelf.fetch_faults → Fetched (Run plan) before after
  fetched quiet = all_fetched plan image lists before after given.loads given.read quiet

  -- its seals are the accounts of its rows
  kept : seals ≡ map accounts_served served
  kept = (let text = is.text in text.kept ∙ all_kept opening plan.rounds lists text.rounds text.served given.fits)

  pub run_finished : (ending : Ending) → FinishesAs plan.save saved output before after ending → HasEnded plan before after seals ending
  run_finished endings.Done ends = (
    served,
    record { fetched = fetched (none_failed plan.save saved before.shelf after.shelf ends.0).0; saved = saves ends.0; quiet = ends.1; output = output; made = makes; takes = ends.2 },
    λ _. kept,
  )
  run_finished endings.Unwritten ends = (
    served,
    record { fetched = fetched (none_failed plan.save saved before.shelf after.shelf ends.0).0; saved = saves ends.0; rose = ends.1; output = output; made = makes; takes = ends.2 },
    λ none. absurd none,
  )
  run_finished endings.Unsaved fails = (
    served,
    record {
      fetched = fetched fails.fetches;
      name = fails.at;
      named = fails.named;
      rose = fails.rose;
      output = output;
      made = makes;
      elsewhere = fails.elsewhere;
      told = fails.told;
    },
    λ none. absurd none,
  )
  run_finished endings.NoMemory ends = ([], memory_wanting before after ends.0 ends.1, λ none. absurd none)
  run_finished (endings.Unread fault) ends = absurd ends
  run_finished (endings.Refused refusal) ends = absurd ends
