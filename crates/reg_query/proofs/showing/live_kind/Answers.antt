use Rattle.std.proofs.Common.{inr}
use Rattle.reg_query.proofs.Shown.{kind_is}
use Rattle.reg_query.proofs.showing.live_kind.Goals as goal

pub returns-clause-kind : goal.returns-clause-kind
returns-clause-kind c = let st = c.load_stamp.ensures.told in
    kind_is c.args.pass.now.1 c.args.place c.args.id c.args.entry st.stamp c.shown_kind.result c.requires.declared (st.shows c.args.place (inr c.requires.opens.snapshot) c.requires.opens.helped) (c.shown_kind.ensures st.stamp st.bits st.word)
