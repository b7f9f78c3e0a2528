use Rattle.std.proofs.Common.{[], ◌++◌, Vec, Global, ℕ, List, append-nil, sym, ap, subst, rules}
use Rattle.std.specs.Prelude.{Option}
use Rattle.std.specs.Option.{option_map}
use Rattle.reg_session.specs.Files.{Files}
use Rattle.reg_top.specs.Fetches.{Fetch, image_fetches, request_fetches}
use Rattle.reg_top.specs.inner.RunFiles.{AreUnread}
use Rattle.reg_top.proofs.RunFiles.{image_held, unread_behind}
use Rattle.reg_top.proofs.run_files.read_given.Goals as goal

pub returns-in_err-lists-clause-why : goal.returns-in_err-lists-clause-why
returns-in_err-lists-clause-why g c =
    let shelf = g.F.Shelf in
    let plan = c.args.plan.now in
    let files = shelf.files c.args.shelf.now in
    let was = shelf.fetch_faults c.args.shelf.now in
    let now = shelf.fetch_faults c.load_image.new.shelf in
    let after = shelf.fetch_faults c.read_rounds.new.shelf in
    let image = option_map (λ (bytes : Vec ℕ Global). bytes.items) c.in_ok-image.image in
    let unread = c.in_err-lists.field-0.0 in
    let why : AreUnread files now after (request_fetches plan) unread =
    subst (λ (told : Option Files). AreUnread told now after (request_fetches plan) unread) c.in_ok-image.ensures.same c.in_err-lists.ensures.why in
    let all = unread_behind files was now after (image_fetches plan) (request_fetches plan) [] (image_fetches plan ++ request_fetches plan) unread
    (ap (λ (fs : List Fetch). image_fetches plan ++ fs) (sym (append-nil (request_fetches plan)))) (image_held files plan image c.in_ok-image.ensures.image) c.in_ok-image.ensures.quiet why in
    search (rules, all)
