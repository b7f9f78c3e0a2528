use Rattle.std.proofs.Common.{ap, subst, arith}
use Rattle.reg_words.specs.declared.word.LogWord.TheVariants.{Decl, Wd}
use Rattle.reg_words.specs.Packing.{FitsLog, log_word}
use Rattle.reg_words.proofs.word.LogWord.pack.Goals as goal

pub returns-in-Decl : goal.returns-in-Decl
unfolding log_word
returns-in-Decl c =
    let fits : FitsLog (Decl c.in-Decl.kind c.in-Decl.entry c.in-Decl.id) = subst FitsLog c.in-Decl.is c.requires in
    let whole = ap log_word c.in-Decl.is in
    omega arith

pub returns-in-Wd : goal.returns-in-Wd
unfolding log_word
returns-in-Wd c =
    let fits : FitsLog (Wd c.in-Wd.entry c.in-Wd.id) = subst FitsLog c.in-Wd.is c.requires in
    let whole = ap log_word c.in-Wd.is in
    omega arith
