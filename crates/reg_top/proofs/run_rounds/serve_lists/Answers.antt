use Rattle.std.proofs.Common.{map, sym, ◌∙◌, ap, subst}
use Rattle.std.specs.Prelude.{All}
use Rattle.reg_session.specs.Sessions.{MayBeMade}
use Rattle.reg_top.proofs.RunFiles.{may_be_made}
use Rattle.reg_top.proofs.run_rounds.serve_lists.Goals as goal

pub run_round-requires-clause-calls : goal.run_round-requires-clause-calls
run_round-requires-clause-calls g c κs within =
    subst (All MayBeMade) (sym (ap (map (λ list. list.items)) c.as_slice.ensures.value ∙ c.in-Ok.ensures)) (may_be_made c.args.lists.now c.requires.served)
