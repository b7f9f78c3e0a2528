use denote.Param.Send.{sendable}
use Rattle.reg_turn.proofs.desk.TurnDesk.TheSendSync.{the_sync}
use Rattle.reg_turn.proofs.passes.TurnPass.TheSendSync.{the_send as pass_sent}
use Rattle.reg_turn.proofs.passes.TurnSeal.TheSendSync.{the_send as seal_sent}
use Rattle.reg_top.proofs.served.keep.Goals as goal

-- the types of the desk may go to other threads
pub push-requires-send-D-Pass : goal.push-requires-send-D-Pass
push-requires-send-D-Pass c κs = search (pass_sent, sendable)

pub push-requires-send-D-Seal : goal.push-requires-send-D-Seal
push-requires-send-D-Seal c κs = search (seal_sent, sendable)

pub push-requires-sync-D : goal.push-requires-sync-D
push-requires-sync-D c κs = search (the_sync, sendable)
