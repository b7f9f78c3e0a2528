use Rattle.std.proofs.Common.{◌≡◌, ◌∙◌, ap, ap₂, length, arith}
use Rattle.reg_model.specs.Leaving.{LeavingRoom}
use Rattle.reg_model.specs.Opening.{opening_of}
use Rattle.reg_model.proofs.Marked.{first_carried, first_places, room_first, room_second, list_left, opens_after, opening_left}
use Rattle.reg_model.proofs.leaving.Leaving.finish.Goals as goal

pub mark_each-requires-clause-of_carried : goal.mark_each-requires-clause-of_carried
mark_each-requires-clause-of_carried c =
    let long : length c.self.inside.of_carried.items ≡ length c.list-before.result.now = omega (arith, ap (λ (r : LeavingRoom). r.carried) c.self.view_is, c.requires.carried, ap length c.list-before.ensures.list) in
    c.as_mut_slice-of_carried.ensures.value ∙ first_carried _ c.list-before.result.now c.self.invariant.0 long

pub mark_each-requires-clause-of_places : goal.mark_each-requires-clause-of_places
mark_each-requires-clause-of_places c = rw c.as_mut_slice-of_places.ensures.value (first_places _ _ c.self.invariant.1)

pub keep_carried-requires-clause-room : goal.keep_carried-requires-clause-room
keep_carried-requires-clause-room c =
    room_first c.args.carried.now _ _ (ap₂ opening_of c.base-base.ensures c.list-before.ensures.list) c.args.updates.now _ c.mark_each.ensures.of_carried _ c.self.invariant.2 _
    (omega (arith, ap (λ (r : LeavingRoom). r.live) c.self.view_is, c.requires.live, c.self.invariant.3))

pub keep_declared-requires-clause-room : goal.keep_declared-requires-clause-room
keep_declared-requires-clause-room c =
    room_second c.args.carried.now _ _ (ap₂ opening_of c.base-base.ensures c.list-before.ensures.list) c.args.updates.now _ c.mark_each.ensures.of_carried _ c.self.invariant.2 _ _ c.keep_carried.ensures.list
    (omega (arith, ap (λ (r : LeavingRoom). r.live) c.self.view_is, c.requires.live, c.self.invariant.3, c.keep_carried.ensures.capacity))

pub from_list-requires : goal.from_list-requires
from_list-requires c =
    let same = ap₂ opening_of c.base-base.ensures c.list-before.ensures.list in
    let left = list_left c.args.carried.now _ _ same c.args.updates.now _ c.mark_each.ensures.of_carried _ c.self.invariant.2 _ _ c.keep_carried.ensures.list (c.from_vec.ensures ∙ c.keep_declared.ensures) in
    opens_after c.args.carried.now _ _ same c.args.updates.now _ c.mark_each.ensures.of_carried _ c.self.invariant.2 _ c.list-before.ensures.opening left c.requires.ids

pub returns : goal.returns
returns c =
    let same = ap₂ opening_of c.base-base.ensures c.list-before.ensures.list in
    let left = list_left c.args.carried.now _ _ same c.args.updates.now _ c.mark_each.ensures.of_carried _ c.self.invariant.2 _ _ c.keep_carried.ensures.list (c.from_vec.ensures ∙ c.keep_declared.ensures) in
    opening_left c.args.carried.now _ _ same c.args.updates.now _ c.mark_each.ensures.of_carried _ c.self.invariant.2 _ _ left c.from_list.ensures
