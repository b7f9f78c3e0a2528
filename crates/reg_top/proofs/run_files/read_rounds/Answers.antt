use Rattle.std.proofs.Common.{◌≡◌, ◌+◌, [], ◌∷◌, ◌++◌, ℕ, List, Bor, map, take, sym, ◌∙◌, subst, arith, rules}
use Rattle.std.specs.Prelude.{slice_get, Option}
use Rattle.std.specs.List.{AllZip}
use Rattle.reg_session.specs.Files.{Files}
use Rattle.reg_top.specs.declared.run_files.TheConstants.{REQUEST_MOST}
use Rattle.reg_top.specs.Fetches.{RoundPlan, fetch_of}
use Rattle.reg_top.specs.inner.RunFiles.{IsRead, ReadsRound, AreUnread}
use Rattle.reg_top.proofs.BehindFirst.{zip_more}
use Rattle.reg_top.proofs.ServedRounds.{one_plan, of_some}
use Rattle.reg_top.proofs.RunFiles.{round_unread}
use Rattle.reg_top.proofs.run_files.read_rounds.Goals as goal

pub returns-in_err-list-clause-why : goal.returns-in_err-list-clause-why
returns-in_err-list-clause-why g c =
    let shelf = g.F.Shelf in
    let plan = c.args.plan.now.rounds in
    let at = c.loop-at in
    let one = one_plan plan at.at (omega (arith, c.loop-at-test.true, c.len-at-end.ensures)) in
    let names : map (λ (name : Bor (List ℕ)). name.now) c.names.result.now ≡ one.0.names =
    of_some (λ (p : RoundPlan). map (λ (name : Bor (List ℕ)). name.now) c.names.result.now ≡ p.names) (slice_get plan at.at) one.0 c.names.ensures one.1 in
    let unread = c.in_err-list.field-0.0 in
    let why : AreUnread (shelf.files c.args.shelf.now) (shelf.fetch_faults at.shelf) (shelf.fetch_faults c.read_files.new.shelf) (map (fetch_of REQUEST_MOST) one.0.names) unread =
    subst (λ (files : Option Files). AreUnread files (shelf.fetch_faults at.shelf) (shelf.fetch_faults c.read_files.new.shelf) (map (fetch_of REQUEST_MOST) one.0.names) unread) at.invariant.same
    (subst (λ (ns : List (List ℕ)). AreUnread (shelf.files at.shelf) (shelf.fetch_faults at.shelf) (shelf.fetch_faults c.read_files.new.shelf) (map (fetch_of REQUEST_MOST) ns) unread) names c.in_err-list.ensures.why) in
    let all = round_unread (shelf.files c.args.shelf.now) (shelf.fetch_faults c.args.shelf.now) (shelf.fetch_faults at.shelf) (shelf.fetch_faults c.read_files.new.shelf) plan at.at one.0 at.lists unread one.1
    at.invariant.read at.invariant.quiet why in
    search (rules, all)

pub loop-at-preserved : goal.loop-at-preserved
loop-at-preserved g c =
    let shelf = g.F.Shelf in
    let plan = c.args.plan.now.rounds in
    let at = c.loop-at in
    let list = c.in_ok-list.list in
    let one = one_plan plan at.at (omega (arith, c.loop-at-test.true, c.len-at-end.ensures)) in
    let names : map (λ (name : Bor (List ℕ)). name.now) c.names.result.now ≡ one.0.names =
    of_some (λ (p : RoundPlan). map (λ (name : Bor (List ℕ)). name.now) c.names.result.now ≡ p.names) (slice_get plan at.at) one.0 c.names.ensures one.1 in
    let read : ReadsRound (shelf.files c.args.shelf.now) one.0 list =
    subst (λ (files : Option Files). AllZip (IsRead files) one.0.names list) at.invariant.same
    (subst (λ (ns : List (List ℕ)). AllZip (IsRead (shelf.files at.shelf)) ns list) names c.in_ok-list.ensures.read) in
    let pushed : c.push.new.self ≡ at.lists ++ list ∷ [] = search rules in
    record {
      read = subst (AllZip (ReadsRound (shelf.files c.args.shelf.now)) (take (at.at + 1) plan)) (sym pushed)
          (zip_more (ReadsRound (shelf.files c.args.shelf.now)) plan at.at one.0 at.lists list one.1 at.invariant.read read);
      quiet = c.in_ok-list.ensures.quiet ∙ at.invariant.quiet;
      same = c.in_ok-list.ensures.same ∙ at.invariant.same;
      puts = c.in_ok-list.ensures.puts ∙ at.invariant.puts;
    }
