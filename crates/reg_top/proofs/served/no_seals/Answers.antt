use denote.Param.Send.{sendable}
use Rattle.reg_turn.proofs.desk.TurnDesk.TheSendSync.{the_sync}
use Rattle.reg_turn.proofs.passes.TurnPass.TheSendSync.{the_send as pass_sent}
use Rattle.reg_turn.proofs.passes.TurnSeal.TheSendSync.{the_send as seal_sent}
use Rattle.reg_top.proofs.served.no_seals.Goals as goal

-- the types of the desk may go to other threads
pub new-requires-send-D-Pass : goal.new-requires-send-D-Pass
new-requires-send-D-Pass c κs = search (pass_sent, sendable)

pub new-requires-send-D-Seal : goal.new-requires-send-D-Seal
new-requires-send-D-Seal c κs = search (seal_sent, sendable)

pub new-requires-sync-D : goal.new-requires-sync-D
new-requires-sync-D c κs = search (the_sync, sendable)
