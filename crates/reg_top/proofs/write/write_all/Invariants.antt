use Rattle.std.proofs.Common.{length}
use Rattle.reg_top.proofs.Writing.{Written}
use Rattle.reg_top.proofs.write.write_all.Given as goal

-- what stands before the rest is written
abbrev pub invariant-loop-rest : goal.invariant-loop-rest
invariant-loop-rest g l = Written (g.K.Sink.taken l.initial.sink) (g.K.Sink.taken l.sink) (g.K.Sink.faults l.initial.sink) (g.K.Sink.faults l.sink) l.bytes l.rest

abbrev pub decreases-loop-rest : goal.decreases-loop-rest
decreases-loop-rest g l = length l.rest
