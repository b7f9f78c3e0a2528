use Rattle.std.proofs.Common.{◌++◌, ◌∷◌, [], sym, ◌∙◌, ap, arith, append_assoc, map}
use Rattle.std.specs.List.{range_with_len}
use Rattle.std.proofs.lemmas.List.FromFn.{map-range_with_len_more}
use Rattle.reg_model.specs.declared.call.Call.TheVariants as calls
use Rattle.reg_make.proofs.calls.push_withdrawals.Goals as goal

pub loop-id-preserved : goal.loop-id-preserved
loop-id-preserved c =
    c.in_ok-push.ensures.items
    ∙ ap (λ xs. xs ++ calls.Withdraw c.loop-id.id ∷ []) c.loop-id.invariant
    ∙ append_assoc c.args.calls.now.items (map calls.Withdraw (range_with_len 0 c.loop-id.id)) (calls.Withdraw c.loop-id.id ∷ [])
    ∙ ap (λ xs. c.args.calls.now.items ++ xs) (sym (map-range_with_len_more calls.Withdraw 0 c.loop-id.id c.loop-id.id (omega arith)))
