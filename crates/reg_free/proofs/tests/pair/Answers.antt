use Rattle.std.proofs.Common.{Some}
use Rattle.std.proofs.lemmas.List.Elements.{All-pop}
use Rattle.atomic_table.specs.Seated.{TableId}
use Rattle.reg_model.specs.Desks.{HasNoSnapshot}
use Rattle.reg_rule.specs.Passes.{pass_view}
use Rattle.reg_rule.specs.declared.view.View.{View}
use Rattle.reg_free.specs.Fit.{IsFit}
use Rattle.reg_free.proofs.NewPasses.{none_open}
use Rattle.reg_free.proofs.tests.pair.Goals as goal

pub returns-clause-second : goal.returns-clause-second
returns-clause-second c = let d = c.in_ok-desk in (
  (All-pop (IsFit d.desk) d.passes.items c.pop.new.self.items (Some c.in-Some.second) c.in-Some.ensures.items d.ensures.fit).1,
  (All-pop (λ (p : TableId × View). HasNoSnapshot (pass_view p.1)) d.passes.items c.pop.new.self.items (Some c.in-Some.second) c.in-Some.ensures.items (none_open _ _ d.passes.items d.ensures.passes)).1,
)

pub returns-clause-first : goal.returns-clause-first
returns-clause-first c = let d = c.in_ok-desk in
    let fit = (All-pop (IsFit d.desk) d.passes.items c.pop.new.self.items (Some c.in-Some.second) c.in-Some.ensures.items d.ensures.fit).0 in
    let none = (All-pop (λ (p : TableId × View). HasNoSnapshot (pass_view p.1)) d.passes.items c.pop.new.self.items (Some c.in-Some.second) c.in-Some.ensures.items (none_open _ _ d.passes.items d.ensures.passes)).0 in (
      (All-pop (IsFit d.desk) c.pop.new.self.items c.pop-2.new.self.items (Some c.in-Some-pop.first) c.in-Some-pop.ensures.items fit).1,
      (All-pop (λ (p : TableId × View). HasNoSnapshot (pass_view p.1)) c.pop.new.self.items c.pop-2.new.self.items (Some c.in-Some-pop.first) c.in-Some-pop.ensures.items none).1,
    )
