use Rattle.std.proofs.Common.{get_or}
use Rattle.atomic_table.specs.Seated.{TableId}
use Rattle.reg_rule.specs.declared.view.View.{View}
use Rattle.reg_model.specs.Desks.{HasNoSnapshot}
use Rattle.reg_rule.specs.Passes.{pass_view}
use Rattle.reg_free.proofs.FrontRows.{not_open}
use Rattle.reg_free.proofs.NewPasses.{of_map}
use Rattle.reg_free.proofs.desk.FreeDeskDesk.close.Goals as goal

pub finish-requires-clause-rest : goal.finish-requires-clause-rest
finish-requires-clause-rest c = λ k d low. let fit = c.requires.fit k d low in
    (fit.unpinned (not_open (get_or c.args.passes.items k d).1 (of_map (λ (pass : TableId × View). pass_view pass.1) HasNoSnapshot c.args.passes.items c.requires.ended k d low)), fit.unheld)
