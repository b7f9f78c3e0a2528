use Rattle.std.proofs.Common.{◌≡◌, ◌≤◌, length, rules}
use Rattle.reg_top.proofs.RunWordsReading.{option_one, option_two, no_number_after, no_number_behind}
use Rattle.reg_top.proofs.run_words.number_set.Goals as goal

pub returns-in_err-number-clause-none : goal.returns-in_err-number-clause-none
returns-in_err-number-clause-none c =
    let rest = c.args.rest.now in
    let short : length rest ≡ 0 = search rules in
    rw c.from_residual.ensures (no_number_after c.args.words.now c.args.at rest c.args.option c.requires short c.in_err-number.ensures.none)

pub returns-then-is_empty-clause-found : goal.returns-then-is_empty-clause-found
returns-then-is_empty-clause-found c =
    let rest = c.args.rest.now in
    let short : length rest ≡ 0 = search rules in
    option_two c.args.words.now c.args.at c.in_ok-number.number rest c.args.option c.requires short c.in_ok-number.ensures.found

pub returns-in_err-number-2-clause-none : goal.returns-in_err-number-2-clause-none
returns-in_err-number-2-clause-none c =
    let rest = c.args.rest.now in
    let long : 1 ≤ length rest = search rules in
    rw c.from_residual-in_err-number-2.ensures (no_number_behind c.args.words.now c.args.at rest c.args.option c.requires long c.in_err-number-2.ensures.none)

pub returns-clause-found : goal.returns-clause-found
returns-clause-found c = option_one c.args.words.now c.args.at c.in_ok-number-2.number c.args.rest.now c.args.option c.requires c.in_ok-number-2.ensures.found
