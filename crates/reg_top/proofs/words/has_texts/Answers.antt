use Rattle.std.proofs.Common.{◌<◌, ◌≤◌, length, drop, refl, length-drop, arith}
use Rattle.reg_top.specs.Words.{IsValue}
use Rattle.reg_top.proofs.BehindFirst.{behind_first, each_more, each_all}
use Rattle.reg_top.proofs.words.has_texts.Goals as goal

pub loop-at-preserved : goal.loop-at-preserved
loop-at-preserved c =
    let words = c.args.words.now in
    let text = c.word.result.now in
    each_more IsValue (drop 1 words) c.loop-at.at text (behind_first words c.loop-at.at text c.word.ensures) c.loop-at.invariant (c.is_value.ensures.0 c.if-not-is_value.false)

pub returns : goal.returns
returns c =
    let words = c.args.words.now in
    let long : length (drop 1 words) ≤ c.loop-at.at = omega (arith, length-drop 1 words) in
    let some : 0 < length (drop 1 words) = omega (arith, length-drop 1 words) in
    (λ h. (some, each_all IsValue (drop 1 words) c.loop-at.at long c.loop-at.invariant), λ are. refl)
