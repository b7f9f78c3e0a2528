use Rattle.std.proofs.Common.{◌≡◌, ◌+◌, ◌<◌, length, rules, arith}
use Rattle.reg_model.specs.Opening.{opening_of}
use Rattle.reg_model.proofs.LiveSteps.{current_declare}
use Rattle.reg_model.proofs.plain.Plain.declare.Goals as goal

pub invariant_of-self : goal.invariant_of-self
invariant_of-self c =
    let inside = c.self.inside in
    let log_room : length inside.log.items < inside.sizes.log = search rules in
    let room : length inside.live.items < inside.sizes.entries = search rules in
    let point_is : c.point-id.result ≡ inside.base + length inside.log.items = search rules in
    let current = current_declare inside.sizes (opening_of inside.base inside.carried.items) inside.log.items inside.live.items inside.withdrawn c.args.unit c.self.invariant.0 log_room room in
    (rw (c.push_within-2.ensures.items, c.push_within.ensures.items, point_is) current, omega (arith, c.push_within-2.ensures.capacity, c.self.invariant.1), omega (arith, c.push_within.ensures.capacity, c.self.invariant.2))
