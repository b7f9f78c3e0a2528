use Rattle.std.proofs.Common.{sym, ap, length, ◌∙◌}
use Rattle.reg_top.specs.Fetches.{Plan}
use Rattle.reg_top.proofs.RunWordsKept.{length_kept}
use Rattle.reg_top.proofs.run_words.RunPlan.len.Goals as goal

pub returns : goal.returns
returns c =
    c.len.ensures.value ∙ sym (length_kept c.self.inside.sizes.items c.self.inside.rounds.items c.self.invariant) ∙ ap (λ (p : Plan). length p.rounds) c.self.view_is
