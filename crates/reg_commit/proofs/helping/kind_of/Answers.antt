use Rattle.std.proofs.Common.{◌<◌, ◌+◌, ◌^◌, List, slice_index_or, length, Some, sym, ap, ◌∙◌, subst, arith}
use Rattle.reg_model.specs.declared.update.Declared.{Declared}
use Rattle.reg_commit.proofs.Logs.{at_inside, at_nth}
use Rattle.reg_commit.proofs.Helped.{listed, placed, found_too, word_there, sought_loaded}
use Rattle.reg_commit.proofs.helping.kind_of.Goals as goal

pub bounds-list-entry : goal.bounds-list-entry
bounds-list-entry c =
    let d = c.requires.declared in let carried = c.carried-carried in
    let at = listed c.args.words.now.1 c.args.pass.now.1.key carried.result.now c.args.pass.now.1.log _ c.args.id c.args.entry d.0 c.requires.own.1 carried.ensures.carried c.base-base.ensures c.if-id-base.true d.1 in
    subst (λ (l : List Declared). c.args.entry < length l) (sym c.list-list.ensures.list) (at_inside carried.result.now.list c.args.entry _ at)

pub returns-then-id-base-clause-kind : goal.returns-then-id-base-clause-kind
returns-then-id-base-clause-kind c unit dec =
    let carried = c.carried-carried in let element = c.index-list-entry in
    let at = listed c.args.words.now.1 c.args.pass.now.1.key carried.result.now c.args.pass.now.1.log _ c.args.id c.args.entry unit c.requires.own.1 carried.ensures.carried c.base-base.ensures c.if-id-base.true dec in
    let is = at_nth carried.result.now.list c.args.entry _ element.result at in
    ap Some (c.list_kind.ensures.kind ∙ ap (λ (x : Declared). x.unit.kind) (element.is ∙ (ap (λ (l : List Declared). slice_index_or l c.args.entry element.result) c.list-list.ensures.list ∙ is)))

pub overflow_cast-place : goal.overflow_cast-place
overflow_cast-place c =
    let d = c.requires.declared in let carried = c.carried-carried in
    let at = placed c.args.words.now.1 c.args.pass.now.1.key carried.result.now c.args.pass.now.1.log _ c.args.id c.args.entry d.0 c.requires.own.1 carried.ensures.carried c.list-list.ensures.opening c.base-base.ensures c.if-id-base.false d.1 in
    let less = at_inside c.args.pass.now.1.log _ _ at.1 in let room = c.requires.room in omega arith

pub load_log-requires-clause-may : goal.load_log-requires-clause-may
load_log-requires-clause-may c =
    let d = c.requires.declared in let carried = c.carried-carried in
    let at = placed c.args.words.now.1 c.args.pass.now.1.key carried.result.now c.args.pass.now.1.log _ c.args.id c.args.entry d.0 c.requires.own.1 carried.ensures.carried c.list-list.ensures.opening c.base-base.ensures c.if-id-base.false d.1 in
    let less = at_inside c.args.pass.now.1.log _ _ at.1 in let room = c.requires.seen.room in
    record { seen = omega arith; inside = omega arith; telling = tt }

pub returns-clause-kind : goal.returns-clause-kind
returns-clause-kind c unit dec =
    let carried = c.carried-carried in
    let at = placed c.args.words.now.1 c.args.pass.now.1.key carried.result.now c.args.pass.now.1.log _ c.args.id c.args.entry unit c.requires.own.1 carried.ensures.carried c.list-list.ensures.opening c.base-base.ensures c.if-id-base.false dec in
    let word = word_there c.args.pass.now.1 _ _ c.args.entry _ unit c.requires.seen at.1 c.load_log.ensures.told in
    c.record_kind.ensures.kind unit.kind c.args.entry _ word.0 word.1

pub returns-clause-fits : goal.returns-clause-fits
returns-clause-fits c =
    let d = c.requires.declared in let carried = c.carried-carried in
    let at = placed c.args.words.now.1 c.args.pass.now.1.key carried.result.now c.args.pass.now.1.log _ c.args.id c.args.entry d.0 c.requires.own.1 carried.ensures.carried c.list-list.ensures.opening c.base-base.ensures c.if-id-base.false d.1 in
    let less = at_inside c.args.pass.now.1.log _ _ at.1 in let base = at.0 in let high = c.if-id-base.false in let ids = c.requires.seen.ids in let room = c.requires.seen.room in
    let low : c.args.id + 1 < 2 ^ 35 = omega arith in
    found_too (λ k. k < 13) (λ k. (k < 13) × (c.args.id + 1 < 2 ^ 35)) _ (λ k bound. (bound, low)) c.record_kind.ensures.fits

pub returns-clause-view : goal.returns-clause-view
returns-clause-view c =
    let d = c.requires.declared in let carried = c.carried-carried in
    let at = placed c.args.words.now.1 c.args.pass.now.1.key carried.result.now c.args.pass.now.1.log _ c.args.id c.args.entry d.0 c.requires.own.1 carried.ensures.carried c.list-list.ensures.opening c.base-base.ensures c.if-id-base.false d.1 in
    let less = at_inside c.args.pass.now.1.log _ _ at.1 in let base = at.0 in let high = c.if-id-base.false in
    let view = (c.load_log.ensures.told.old less).3 ∙ sym (sought_loaded c.args.id c.args.pass.now.1 (omega arith)) in
    λ j. (c.load_log.ensures.own.0 j, view j)
