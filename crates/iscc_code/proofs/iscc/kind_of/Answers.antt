use Rattle.std.proofs.Common.{◌≡◌, ◌<◌, ◌∙◌, ap₂, Some, arith, rules}
use Rattle.iscc_header.specs.Kinds.{main_number}
use Rattle.iscc_code.proofs.CodeFaults.{kind_found, kind_missing, kind_above}
use Rattle.iscc_code.proofs.iscc.kind_of.Goals as goal

pub returns-in_default-clause-none : goal.returns-in_default-clause-none
returns-in_default-clause-none c =
    let above : 5 < c.main.result = search rules in
    kind_above c.args.header.now.main c.args.header.now.sub (omega arith)

pub returns-in_default-of-clause-none : goal.returns-in_default-of-clause-none
returns-in_default-of-clause-none c =
    let main : main_number c.in-Some.main ≡ c.args.header.now.main = c.in-Some.ensures.found ∙ c.main.ensures.value in
    rw (← main, ← c.sub.ensures) (kind_missing (main_number c.in-Some.main) c.sub.result c.in_default-of.ensures.none)

pub returns-clause-found : goal.returns-clause-found
returns-clause-found c =
    let main : main_number c.in-Some.main ≡ c.args.header.now.main = c.in-Some.ensures.found ∙ c.main.ensures.value in
    kind_found c.in-Some-of.kind c.args.header.now.main c.args.header.now.sub (c.in-Some-of.ensures.found ∙ ap₂ (λ m s. Some (m, s)) main c.sub.ensures)
