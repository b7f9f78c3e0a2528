use Rattle.std.proofs.Common.{◌≡◌, ◌+◌, [], ◌∷◌, ◌++◌, ℕ, List, Bor, Some, map, take, drop, get_or, refl, sym, ◌∙◌, ap, subst, rules}
use Rattle.std.specs.Prelude.{slice_get, Option, IfSome}
use Rattle.std.specs.Option.{option_map}
use Rattle.std.specs.List.{AllZip}
use Rattle.std.proofs.lemmas.List.{map-append}
use Rattle.std.proofs.lemmas.Option.{slice_get-map, slice_get-get_or}
use Rattle.reg_session.specs.declared.shelf.FetchFault.TheVariants as faults
use Rattle.reg_session.specs.Faults.{HasCause}
use Rattle.reg_session.specs.Files.{Files}
use Rattle.reg_top.specs.Fetches.{Fetch, fetch_of}
use Rattle.reg_top.specs.inner.Endings.{UnreadWhy}
use Rattle.reg_top.specs.inner.RunFiles.{IsRead}
use Rattle.reg_top.specs.declared.run_files.TheConstants.{REQUEST_MOST}
use Rattle.reg_top.proofs.BehindFirst.{cut_at, zip_more}
use Rattle.reg_top.proofs.RunFiles.{held_from}
use Rattle.reg_top.proofs.run_files.read_files.Goals as goal

pub returns-in-Err-clause-why : goal.returns-in-Err-clause-why
returns-in-Err-clause-why g c =
    let shelf = g.F.Shelf in
    let at = c.loop-at in
    let given = c.args.names.now in
    let names : List (List ℕ) = map (λ (name : Bor (List ℕ)). name.now) given in
    let none : Bor (List ℕ) = record { ref_ptr = (0, 0); now = [] } in
    let name : Bor (List ℕ) = get_or given at.at none in
    let request : List ℕ → Fetch = fetch_of REQUEST_MOST in
    let there : slice_get names at.at ≡ Some name.now =
    slice_get-map (λ (n : Bor (List ℕ)). n.now) given at.at ∙ ap (option_map (λ (n : Bor (List ℕ)). n.now)) (slice_get-get_or given at.at none c.loop-at-test.true) in
    record {
      front = map request (take at.at names);
      first = request name.now;
      rest = map request (drop (at.at + 1) names);
      split = ap (map request) (cut_at names at.at name.now there) ∙ map-append request (take at.at names) (name.now ∷ drop (at.at + 1) names);
      named = refl;
      held = held_from (shelf.files c.args.shelf.now) (take at.at names) at.lists at.invariant.read;
      why = subst (λ (files : Option Files). IfSome files (λ told. UnreadWhy c.in-Err.fault told (fetch_of REQUEST_MOST name.now))) at.invariant.same c.in-Err.ensures.why;
      cause = subst (λ count. HasCause count (shelf.fetch_faults c.read_file.new.shelf) (c.in-Err.fault ≡ faults.Failed)) at.invariant.quiet c.in-Err.ensures.cause;
    }

pub loop-at-preserved : goal.loop-at-preserved
loop-at-preserved g c =
    let shelf = g.F.Shelf in
    let at = c.loop-at in
    let given = c.args.names.now in
    let names : List (List ℕ) = map (λ (name : Bor (List ℕ)). name.now) given in
    let none : Bor (List ℕ) = record { ref_ptr = (0, 0); now = [] } in
    let name : Bor (List ℕ) = get_or given at.at none in
    let list = c.in-Ok.list in
    let there : slice_get names at.at ≡ Some name.now =
    slice_get-map (λ (n : Bor (List ℕ)). n.now) given at.at ∙ ap (option_map (λ (n : Bor (List ℕ)). n.now)) (slice_get-get_or given at.at none c.loop-at-test.true) in
    let pushed : c.push.new.self ≡ at.lists ++ list ∷ [] = search rules in
    record {
      read = subst (AllZip (IsRead (shelf.files c.args.shelf.now)) (take (at.at + 1) names)) (sym pushed)
          (zip_more (IsRead (shelf.files c.args.shelf.now)) names at.at name.now at.lists list there at.invariant.read
          (subst (λ (files : Option Files). IsRead files name.now list) at.invariant.same c.in-Ok.ensures.read));
      quiet = c.in-Ok.ensures.quiet ∙ at.invariant.quiet;
      same = c.in-Ok.ensures.same ∙ at.invariant.same;
      puts = c.in-Ok.ensures.puts ∙ at.invariant.puts;
    }
