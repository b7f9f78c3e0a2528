use Rattle.std.proofs.Common.{◌<◌, length, rules}
use Rattle.reg_commit.proofs.Walks.{front_here, walks_on}
use Rattle.reg_commit.proofs.walking.walk.Goals as goal

pub returns-then-load_log-eq0-clause-found : goal.returns-then-load_log-eq0-clause-found
returns-then-load_log-eq0-clause-found c =
    let low : length c.loop-pass.pass.1.log < c.args.pass.now.1.key.sizes.log = search rules in
    front_here c.args.told.now c.args.pass.now.1 c.loop-pass.pass.1 _ c.places_seen-place.result _ c.loop-pass.invariant.walked c.places_seen-place.ensures low c.load_log.ensures.told c.if-load_log-eq0.true

pub loop-pass-preserved : goal.loop-pass-preserved
loop-pass-preserved c =
    let low : length c.loop-pass.pass.1.log < c.args.pass.now.1.key.sizes.log = search rules in
    record {
      own = c.load_log.ensures.own;
      walked = walks_on c.args.told.now c.args.pass.now.1 c.loop-pass.pass.1 _ c.places_seen-place.result _ c.requires.telling c.loop-pass.invariant.walked c.places_seen-place.ensures low c.load_log.ensures.told c.if-load_log-eq0.false;
    }
