use Rattle.std.proofs.Common.{arith}
use Rattle.mih_chain.proofs.Cuts.{may_look, ahead_there, ahead_cut, may_cut_head, won_there, lost_there, lost_cut}
use Rattle.mih_chain.proofs.unlinking.unlink.Goals as goal

pub load_next-behind-requires-clause-may : goal.load_next-behind-requires-clause-may
load_next-behind-requires-clause-may c = may_look c.args.table c.args.bucket c.args.entry c.args.pass.now.1 c.requires.may _ _ c.load_head-first.ensures.told c.requires.inside

pub cut_behind-requires-clause-on : goal.cut_behind-requires-clause-on
cut_behind-requires-clause-on c = ahead_there c.args.table c.args.bucket c.args.entry c.args.pass.now.1 c.requires.may _ _ c.load_head-first.ensures.told _ _ c.load_next-behind.ensures.told c.if-first-link.true

pub returns-then-first-link-clause-unlinked : goal.returns-then-first-link-clause-unlinked
returns-then-first-link-clause-unlinked c = ahead_cut c.args.table c.args.bucket c.args.entry c.args.pass.now.1 c.requires.may _ _ c.load_head-first.ensures.told _ _ c.load_next-behind.ensures.told c.if-first-link.true _ c.cut_behind.ensures.unlinked

pub cut_head-found-requires-clause-may : goal.cut_head-found-requires-clause-may
cut_head-found-requires-clause-may c = may_cut_head c.args.table c.args.bucket c.args.entry c.args.pass.now.1 c.requires.may _ _ c.load_head-first.ensures.told _ _ c.load_next-behind.ensures.told c.if-first-link.false

pub cut_behind-requires-then-found-link-clause-on : goal.cut_behind-requires-then-found-link-clause-on
cut_behind-requires-then-found-link-clause-on c = lost_there c.args.table c.args.bucket c.args.entry c.args.pass.now.1 c.requires.may _ _ c.load_head-first.ensures.told _ _ c.load_next-behind.ensures.told c.if-first-link.false _ _ c.cut_head-found.ensures.told _ (omega arith) c.if-found-link.true

pub returns-then-found-link-clause-unlinked : goal.returns-then-found-link-clause-unlinked
returns-then-found-link-clause-unlinked c = lost_cut c.args.table c.args.bucket c.args.entry c.args.pass.now.1 c.requires.may _ _ c.load_head-first.ensures.told _ _ c.load_next-behind.ensures.told c.if-first-link.false _ _ c.cut_head-found.ensures.told c.if-found-link.true _ c.cut_behind-then-found-link.ensures.unlinked

pub returns-else-found-link-clause-unlinked : goal.returns-else-found-link-clause-unlinked
returns-else-found-link-clause-unlinked c = won_there c.args.table c.args.bucket c.args.entry c.args.pass.now.1 c.requires.may _ _ c.load_head-first.ensures.told _ _ c.load_next-behind.ensures.told c.if-first-link.false _ _ c.cut_head-found.ensures.told c.if-found-link.false
