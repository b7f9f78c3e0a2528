use Rattle.std.proofs.Common.{◌≡◌, ◌++◌, map, take}
use Rattle.reg_model.specs.declared.call.Call.TheVariants as calls
use Rattle.reg_make.proofs.calls.push_queries.Given as goal

abbrev pub invariant-loop-body : goal.invariant-loop-body
invariant-loop-body l = l.calls.items ≡ l.fn.calls.items ++ map (λ body. calls.Near (record { kind = 6; body = body }) 1) (take l.body-index l.bodies)
