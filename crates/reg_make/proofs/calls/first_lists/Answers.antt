use Rattle.std.proofs.Common.{◌++◌, ◌∷◌, [], List, Vec, Global, map, sym, ◌∙◌, ap, ap₂, arith}
use Rattle.std.proofs.lemmas.List.{map-append}
use Rattle.std.proofs.lemmas.List.FromFn.{map-range_with_len_more}
use Rattle.reg_model.specs.declared.call.Call.{Call}
use Rattle.reg_make.specs.Workloads.{declare_calls}
use Rattle.reg_make.proofs.calls.first_lists.Goals as goal

pub loop-session-preserved : goal.loop-session-preserved
loop-session-preserved c = record {
  made =
      ap (map (λ (list : Vec Call Global). list.items)) c.in_ok-push.ensures.items
      ∙ map-append (λ (list : Vec Call Global). list.items) c.loop-session.lists.items (c.in_ok-declare_list.field-0 ∷ [])
      ∙ ap₂ (λ (xs : List (List Call)) (x : List Call). xs ++ x ∷ []) c.loop-session.invariant.made c.in_ok-declare_list.ensures.calls
      ∙ sym (map-range_with_len_more (declare_calls c.args.work.now) 0 c.loop-session.session c.loop-session.session (omega arith));
  here = c.in_ok-declare_list.ensures.numbers;
}
