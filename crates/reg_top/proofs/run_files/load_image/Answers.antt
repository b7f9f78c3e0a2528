use Rattle.std.proofs.Common.{◌^◌, List, ℕ, Option, map, ap, subst}
use Rattle.std.specs.Option.{option_to_list}
use Rattle.reg_top.specs.Fetches.{Fetch, fetch_of}
use Rattle.reg_top.specs.inner.RunFiles.{IsFirstUnread}
use Rattle.reg_top.proofs.RunFiles.{one_unread}
use Rattle.reg_top.proofs.run_files.load_image.Goals as goal

pub returns-in-Err-clause-why : goal.returns-in-Err-clause-why
returns-in-Err-clause-why g c =
    let shelf = g.F.Shelf in
    let files = shelf.files c.args.shelf.now in
    let was = shelf.fetch_faults c.args.shelf.now in
    let after = shelf.fetch_faults c.fetch_file.new.shelf in
    let name = c.in-Some.name.now in
    let fault = c.in-Err.fault in
    subst (λ (list : List Fetch). IsFirstUnread files was after list name fault)
    (ap (λ (load : Option (List ℕ)). map (fetch_of (2 ^ 25)) (option_to_list load)) c.in-Some.ensures)
    (one_unread files was after (2 ^ 25) name fault c.in-Err.ensures.told c.in-Err.ensures.cause)
