use Rattle.std.proofs.Common.{◌+◌, ◌<◌, length, take, drop, arith, inr}
use Rattle.std.proofs.lemmas.Bool.{both_ways}
use Rattle.iscc_text.proofs.TextSteps.{scheme_slice, colon_slice}
use Rattle.iscc_text.proofs.read.scheme_len.Goals as goal

pub returns-then-is_name-clause-found : goal.returns-then-is_name-clause-found
returns-then-is_name-clause-found c =
    let core = c.args.core.now in
    let at = c.colon_place-at.result in
    let inside : at < length core = omega (arith, c.colon_place-at.ensures.within, c.if-at-core.false) in
    (omega arith, inr (scheme_slice core at inside (c.colon_place-at.ensures.colon inside) (c.is_name.ensures.0 c.if-is_name.true)))

pub returns-else-is_name-clause-none : goal.returns-else-is_name-clause-none
returns-else-is_name-clause-none c =
    let core = c.args.core.now in
    let at = c.colon_place-at.result in
    let inside : at < length core = omega (arith, c.colon_place-at.ensures.within, c.if-at-core.false) in (
      take at core,
      drop (at + 1) core,
      colon_slice core at inside (c.colon_place-at.ensures.colon inside),
      c.colon_place-at.ensures.before,
      λ named. both_ways c.is_name.result c.if-is_name.false (c.is_name.ensures.1 named),
    )
