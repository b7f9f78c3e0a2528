use Rattle.std.proofs.Common.{◌≡◌, length, refl, subst, rules, arith}
use Rattle.std.specs.Iterator.Adapters.{zip_first, zip_second}
use Rattle.std.specs.Slice.Iter.{iter_rest}
use Rattle.std.proofs.lemmas.Slice.Zip.{zip_end}
use Rattle.reg_history.proofs.ledger.ToldHits.{ToldBefore, told_all}
use Rattle.reg_history.proofs.ledger.are_told.Goals as goal

pub returns : goal.returns
returns c =
    let hits = c.args.hits.now in
    let told = c.args.told.now in
    let same : length hits ≡ length told = omega (arith, c.if-hits-told.false) in
    let first : iter_rest (zip_first c.into_iter-hit-iterator.result) ≡ hits = search rules in
    let second : iter_rest (zip_second c.into_iter-hit-iterator.result) ≡ told = search rules in
    let end = zip_end hits told c.loop-hit.yielded c.into_iter-hit-iterator.result c.loop-hit.hit-iterator c.next.new.self c.next.result first second c.loop-hit.yielded_by c.in-None.is c.next.ensures.steps in
    let all : length c.loop-hit.yielded ≡ length told = omega (arith, end, same) in
    (λ yes. told_all c.args.asked.now.kind hits told same (subst (ToldBefore c.args.asked.now.kind hits told) all c.loop-hit.invariant), λ are. refl)
