use Rattle.std.proofs.Common.{[], ◌∷◌, ◌++◌, sym, ◌∙◌, ap}
use Rattle.iscc_header.specs.Kinds.{main_number}
use Rattle.iscc_header.specs.declared.unit.Unit64.{Unit64}
use Rattle.iscc_code.specs.Composites.{unit_if}
use Rattle.iscc_code.specs.inner.KindNumbers.{kind_from}
use Rattle.iscc_code.proofs.CodeUnits.{kind_from-found}
use Rattle.iscc_code.proofs.code.push_if.Goals as goal

pub returns-clause-items : goal.returns-clause-items
returns-clause-items c =
    let before = c.args.units.now.items in
    let main = main_number c.args.main in
    let unit : _ → Unit64 = λ kind. record { kind = kind; body = c.in-Some.body } in
    c.push.ensures.items
    ∙ ap (λ kind. before ++ unit kind ∷ []) (kind_from-found c.in-Some-of.kind main c.args.sub c.in-Some-of.ensures.found)
    ∙ ap (λ body. before ++ unit_if (kind_from main c.args.sub) body) (sym c.in-Some.is)
