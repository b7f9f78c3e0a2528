use Rattle.std.proofs.Common.{List, Vec, Global, length, map, sym, ◌∙◌, ap, subst}
use Rattle.std.specs.Prelude.{All}
use Rattle.std.proofs.lemmas.List.{length-map}
use Rattle.reg_model.specs.declared.call.Call.{Call}
use Rattle.reg_model.specs.Limits.{Limits}
use Rattle.reg_session.specs.Sessions.{MayBeMade}
use Rattle.reg_make.proofs.Beginning.{many_lists, may_declare}
use Rattle.reg_make.proofs.serving.serve_first.Goals as goal

pub serve_lists-requires-clause-lists : goal.serve_lists-requires-clause-lists
serve_lists-requires-clause-lists g c κs within =
    ap length c.deref.ensures.value
    ∙ sym (length-map c.in_ok-lists.lists.items (λ (list : Vec Call Global). list.items))
    ∙ ap length c.in_ok-lists.ensures
    ∙ many_lists c.args.work.now
    ∙ sym c.sessions.ensures.value
    ∙ sym (ap (λ (limits : Limits). limits.callers) c.work_sizes-sizes.ensures)

pub serve_lists-requires-clause-calls : goal.serve_lists-requires-clause-calls
serve_lists-requires-clause-calls g c κs within =
    subst (λ (lists : List (Vec Call Global)). All MayBeMade (map (λ (list : Vec Call Global). list.items) lists)) (sym c.deref.ensures.value)
    (subst (All MayBeMade) (sym c.in_ok-lists.ensures) (may_declare c.args.work.now c.sessions.ensures.range))
