use Rattle.std.proofs.Common.{◌≡◌, ◌++◌, length, sym, ◌∙◌, ap, append_assoc}
use Rattle.std.specs.Prelude.{IsSome}
use Rattle.std.specs.List.{flat_map, filter_map}
use Rattle.std.proofs.lemmas.List.Elements.{recursion_from_All}
use Rattle.reg_model.specs.Merge.{row_at}
use Rattle.reg_model.proofs.OneMerge.{one_merge}
use Rattle.reg_history.specs.History.{round_line, row_line}
use Rattle.reg_history.proofs.print.Pieces.{filled_length}
use Rattle.reg_history.proofs.print.print_round.Goals as goal

pub returns-clause-text : goal.returns-clause-text
returns-clause-text c = λ rows merge.
    let order = c.in_ok-order.ensures in
    let places = c.in_ok-order.order in
    let accounts = c.args.round.now.accounts in
    let head = round_line c.args.number c.args.round.now.base c.args.round.now.sizes in
    let same : filter_map (row_at accounts) places ≡ rows = one_merge accounts (filter_map (row_at accounts) places) rows c.requires order.merge merge in
    let printed : c.print_rows.new.out.items ≡ c.print_round_line.new.out.items ++ flat_map row_line (filter_map (row_at accounts) places) =
    c.in_ok-print_rows.ensures.ok ∙ ap (λ ps. c.print_round_line.new.out.items ++ flat_map row_line (filter_map (row_at accounts) ps)) c.as_slice.ensures in
    printed
    ∙ ap (λ t. t ++ flat_map row_line (filter_map (row_at accounts) places)) c.in_ok-print_round_line.ensures.ok
    ∙ append_assoc c.args.out.now.items head (flat_map row_line (filter_map (row_at accounts) places))
    ∙ ap (λ rs. c.args.out.now.items ++ (head ++ flat_map row_line rs)) same

pub returns-clause-count : goal.returns-clause-count
returns-clause-count c = λ rows merge.
    let order = c.in_ok-order.ensures in
    let places = c.in_ok-order.order in
    let accounts = c.args.round.now.accounts in
    let same : filter_map (row_at accounts) places ≡ rows = one_merge accounts (filter_map (row_at accounts) places) rows c.requires order.merge merge in
    ap length c.as_slice-2.ensures
    ∙ sym (filled_length accounts places (recursion_from_All (λ place. IsSome (row_at accounts place)) places order.filled))
    ∙ ap length same
