use Rattle.std.proofs.Common.{◌<◌, length, get_or, ap, ◌∙◌, sym, arith}
use Rattle.reg_top.specs.Fetches.{Plan}
use Rattle.reg_top.specs.declared.run_words.RoundWords.{RoundWords}
use Rattle.reg_top.proofs.RunWordsKept.{length_kept, names_at}
use Rattle.reg_top.proofs.run_words.RunPlan.names.Goals as goal

pub offset_bounds-as_slice-at : goal.offset_bounds-as_slice-at
offset_bounds-as_slice-at c =
    omega (arith, length_kept c.self.inside.sizes.items c.self.inside.rounds.items c.self.invariant, ap (λ (p : Plan). length p.rounds) c.self.view_is, ap length c.as_slice.ensures.value)

pub bounds-as_slice-at : goal.bounds-as_slice-at
bounds-as_slice-at c =
    omega (arith, length_kept c.self.inside.sizes.items c.self.inside.rounds.items c.self.invariant, ap (λ (p : Plan). length p.rounds) c.self.view_is, ap length c.as_slice.ensures.value)

pub returns : goal.returns
returns c =
    let plan = c.args.self.now.rounds in
    let rounds = c.self.inside.rounds.items in
    let round = c.index-as_slice-at.result in
    let low : c.args.at < length rounds = omega (arith, length_kept c.self.inside.sizes.items rounds c.self.invariant, ap (λ (p : Plan). length p.rounds) c.self.view_is) in
    names_at plan c.self.inside.sizes.items rounds c.args.at round c.as_slice-2.result.now (ap (λ (p : Plan). p.rounds) c.self.view_is) c.self.invariant low
    (c.index-as_slice-at.is ∙ ap (λ rs. get_or rs c.args.at round) c.as_slice.ensures.value)
    (c.as_slice-2.ensures.value ∙ ap (λ (r : RoundWords). r.names.items) (sym c.index-as_slice-at.is))
