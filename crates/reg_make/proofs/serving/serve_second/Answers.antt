use Rattle.std.proofs.Common.{List, Vec, Global, map, sym, subst}
use Rattle.std.specs.Prelude.{All}
use Rattle.reg_model.specs.declared.call.Call.{Call}
use Rattle.reg_session.specs.Sessions.{MayBeMade}
use Rattle.reg_make.proofs.Beginning.{may_withdraw}
use Rattle.reg_make.proofs.serving.serve_second.Goals as goal

pub serve_lists-requires-clause-calls : goal.serve_lists-requires-clause-calls
serve_lists-requires-clause-calls g c κs within =
    subst (λ (lists : List (Vec Call Global)). All MayBeMade (map (λ (list : Vec Call Global). list.items) lists)) (sym c.deref.ensures.value)
    (subst (All MayBeMade) (sym c.in_ok-lists.ensures.calls) (may_withdraw c.args.work.now c.in_ok-lists.ensures.range))
