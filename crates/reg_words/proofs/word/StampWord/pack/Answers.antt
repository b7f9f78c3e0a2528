use Rattle.std.proofs.Common.{ap, subst, sym, arith}
use Rattle.reg_words.specs.declared.word.StampWord.TheVariants.{Live, Dead}
use Rattle.reg_words.specs.Packing.{FitsStamp, stamp_word}
use Rattle.reg_words.proofs.word.StampWord.pack.Goals as goal

pub returns-in-Unborn : goal.returns-in-Unborn
unfolding stamp_word
returns-in-Unborn c = sym (ap stamp_word c.in-Unborn.is)

pub returns-in-Live : goal.returns-in-Live
unfolding stamp_word
returns-in-Live c =
    let fits : FitsStamp (Live c.in-Live.kind c.in-Live.id) = subst FitsStamp c.in-Live.is c.requires in
    let whole = ap stamp_word c.in-Live.is in
    omega arith

pub returns-in-Dead : goal.returns-in-Dead
unfolding stamp_word
returns-in-Dead c =
    let fits : FitsStamp (Dead c.in-Dead.kind c.in-Dead.id c.in-Dead.death) = subst FitsStamp c.in-Dead.is c.requires in
    let whole = ap stamp_word c.in-Dead.is in
    omega arith
