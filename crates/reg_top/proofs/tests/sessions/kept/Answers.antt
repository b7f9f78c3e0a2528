use denote.Param.Send.{sendable}
use Rattle.reg_turn.proofs.desk.TurnDesk.TheSendSync.{the_sync}
use Rattle.reg_turn.proofs.passes.TurnPass.TheSendSync.{the_send as pass_sent}
use Rattle.reg_turn.proofs.passes.TurnSeal.TheSendSync.{the_send as seal_sent}
use Rattle.reg_top.proofs.tests.sessions.kept.Goals as goal

-- the types of the desk may go to other threads
pub len-requires-send-D-Pass : goal.len-requires-send-D-Pass
len-requires-send-D-Pass c κs = search (pass_sent, sendable)

pub len-requires-send-D-Seal : goal.len-requires-send-D-Seal
len-requires-send-D-Seal c κs = search (seal_sent, sendable)

pub len-requires-sync-D : goal.len-requires-sync-D
len-requires-sync-D c κs = search (the_sync, sendable)
