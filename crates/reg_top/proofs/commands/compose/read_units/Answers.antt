use Rattle.std.proofs.Common.{◌≡◌, inl, refl, ◌++◌, [], ◌∷◌, drop, rules}
use Rattle.reg_top.proofs.BehindFirst.{behind_first}
use Rattle.reg_top.proofs.Compositions.{read_more, refused_at}
use Rattle.reg_top.proofs.commands.compose.read_units.Goals as goal

pub returns-in-Err-clause-declines : goal.returns-in-Err-clause-declines
returns-in-Err-clause-declines c =
    let words = c.args.words.now in
    let text = c.word.result.now in
    inl (record {
      at = c.loop-at.at;
      why = c.in-Err.why;
      has = refused_at (drop 1 words) c.loop-at.at text c.loop-at.units.items c.in-Err.why
          (behind_first words c.loop-at.at text c.word.ensures) c.loop-at.invariant c.in-Err.ensures.fault;
      is = refl;
    })

pub loop-at-preserved : goal.loop-at-preserved
loop-at-preserved c =
    let words = c.args.words.now in
    let text = c.word.result.now in
    let pushed : c.push.new.self.items ≡ c.loop-at.units.items ++ c.in-Ok.unit ∷ [] = search rules in
    rw pushed
    (read_more (drop 1 words) c.loop-at.at text c.loop-at.units.items c.in-Ok.unit
    (behind_first words c.loop-at.at text c.word.ensures) c.loop-at.invariant c.in-Ok.ensures.read)
