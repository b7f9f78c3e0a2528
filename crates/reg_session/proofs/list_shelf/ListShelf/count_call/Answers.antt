use Rattle.std.proofs.Common.{eqb, subst, arith}
use Rattle.std.specs.Bool.{Decides}
use Rattle.std.specs.Prelude.{Contains}
use Rattle.std.proofs.lemmas.Bool.Decides.{Decides-eqb}
use Rattle.std.proofs.lemmas.List.Elements.{Decides-contains, contains_decides}
use Rattle.reg_session.proofs.list_shelf.ListShelf.count_call.Goals as goal

pub returns-clause-listed : goal.returns-clause-listed
returns-clause-listed c =
    let listed = Decides-contains c.deref.result.now _ c.contains.result (contains_decides eqb Decides-eqb c.deref.result.now _ c.contains.result c.contains.ensures.cases) in
    let same : Decides c.contains.result (Contains c.deref.result.now c.self.inside.calls) = subst (λ n. Decides c.contains.result (Contains c.deref.result.now n)) (omega arith) listed in
    rw (← c.self.view_is) (rw c.deref.ensures.value at same)
