use Rattle.std.proofs.Common.{◌≡◌, ◌≤◌, length, rules}
use Rattle.reg_top.proofs.RunWordsReading.{file_one, file_two, no_value_after, no_value_behind}
use Rattle.reg_top.proofs.run_words.file_set.Goals as goal

pub returns-in_err-name-clause-none : goal.returns-in_err-name-clause-none
returns-in_err-name-clause-none c =
    let rest = c.args.rest.now in
    let short : length rest ≡ 0 = search rules in
    rw c.from_residual.ensures (no_value_after c.args.words.now c.args.at rest c.args.option c.requires short c.in_err-name.ensures.none)

pub returns-then-is_empty-clause-found : goal.returns-then-is_empty-clause-found
returns-then-is_empty-clause-found c =
    let rest = c.args.rest.now in
    let short : length rest ≡ 0 = search rules in
    file_two c.args.words.now c.args.at c.in_ok-name.name.now rest c.args.option c.requires short c.in_ok-name.ensures.found

pub returns-in_err-name-2-clause-none : goal.returns-in_err-name-2-clause-none
returns-in_err-name-2-clause-none c =
    let rest = c.args.rest.now in
    let long : 1 ≤ length rest = search rules in
    rw c.from_residual-in_err-name-2.ensures (no_value_behind c.args.words.now c.args.at rest c.args.option c.requires long c.in_err-name-2.ensures.none)

pub returns-clause-found : goal.returns-clause-found
returns-clause-found c = file_one c.args.words.now c.args.at c.in_ok-name-2.name.now c.args.rest.now c.args.option c.requires c.in_ok-name-2.ensures.found
