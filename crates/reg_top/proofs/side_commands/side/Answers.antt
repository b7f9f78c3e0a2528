use Rattle.reg_session.specs.Outside.{shelf_view}
use Rattle.reg_top.proofs.side_commands.side.Goals as goal

pub returns-in-Some-Explain-clause-outcome : goal.returns-in-Some-Explain-clause-outcome
returns-in-Some-Explain-clause-outcome g c =
    c.explain_command.ensures (shelf_view (g.F.Shelf.files c.args.shelf.now) (g.F.Shelf.fetch_faults c.args.shelf.now) (g.F.Shelf.put_faults c.args.shelf.now))

pub returns-in-Some-Compose-clause-outcome : goal.returns-in-Some-Compose-clause-outcome
returns-in-Some-Compose-clause-outcome g c =
    c.compose_command.ensures (shelf_view (g.F.Shelf.files c.args.shelf.now) (g.F.Shelf.fetch_faults c.args.shelf.now) (g.F.Shelf.put_faults c.args.shelf.now))
