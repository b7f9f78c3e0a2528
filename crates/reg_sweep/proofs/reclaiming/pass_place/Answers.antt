use Rattle.std.proofs.Common.{◌^◌, ◌≤◌, sym, ◌∙◌, subst}
use Rattle.reg_sweep.specs.declared.reclaiming.Turn.{Turn}
use Rattle.reg_sweep.specs.inner.Turns.{HasTurned}
use Rattle.reg_sweep.proofs.Ranges.{few_places}
use Rattle.reg_sweep.proofs.PlaceTurns.{at_end, is_behind, fits_record, is_record, one_record, at_there, seen_there, wd_there, turned_there, passed_there}
use Rattle.reg_sweep.proofs.reclaiming.pass_place.Goals as goal

pub returns-then-place-places_seen-clause-turned : goal.returns-then-place-places_seen-clause-turned
returns-then-place-places_seen-clause-turned c =
    let small : c.args.pass.now.1.key.sizes.log ≤ 2 ^ 22 = few_places c.sizes.result.now c.args.words.now.1 c.args.pass.now.1.key c.sizes.ensures.sizes c.requires.own.1 c.callers-range.ensures.range in
    subst (λ (t : Turn). HasTurned t c.args.place c.args.pass.now.1 c.args.pass.now.1) (sym c.stop.ensures) (at_end c.args.place c.args.pass.now.1 c.requires.at c.requires.seen small (c.if-place-places_seen.true ∙ c.places_seen.ensures))

pub reclaim-requires-clause-at : goal.reclaim-requires-clause-at
reclaim-requires-clause-at c =
    let low = is_behind c.args.place c.args.pass.now.1 c.requires.at c.requires.seen (λ e. c.if-place-places_seen.false (e ∙ sym c.places_seen.ensures)) in
    at_there c.args.place c.args.pass.now.1 c.requires.at c.requires.seen low c.load_log.result c.load_log.new.pass.1 c.load_log.ensures.told

pub reclaim-requires-clause-seen : goal.reclaim-requires-clause-seen
reclaim-requires-clause-seen c =
    let low = is_behind c.args.place c.args.pass.now.1 c.requires.at c.requires.seen (λ e. c.if-place-places_seen.false (e ∙ sym c.places_seen.ensures)) in
    seen_there c.args.place c.args.pass.now.1 c.requires.at c.requires.seen low c.load_log.result c.load_log.new.pass.1 c.load_log.ensures.told

pub reclaim-requires-clause-withdraws : goal.reclaim-requires-clause-withdraws
reclaim-requires-clause-withdraws c =
    let low = is_behind c.args.place c.args.pass.now.1 c.requires.at c.requires.seen (λ e. c.if-place-places_seen.false (e ∙ sym c.places_seen.ensures)) in
    let back = c.unpack.ensures.back _ (fits_record c.args.place c.args.pass.now.1 c.requires.at c.requires.seen low c.load_log.result c.load_log.new.pass.1 c.load_log.ensures.told) (is_record c.args.place c.args.pass.now.1 c.requires.at c.requires.seen low c.load_log.result c.load_log.new.pass.1 c.load_log.ensures.told) in
    (c.in-Some-Wd.field-0-1, wd_there c.args.place c.args.pass.now.1 c.requires.at c.requires.seen low c.load_log.result c.load_log.new.pass.1 c.load_log.ensures.told c.in-Some-Wd.entry c.in-Some-Wd.field-0-1 (one_record _ _ _ _ back c.in-Some-Wd.is c.in-Some-Wd.field-0-is))

pub returns-in-Some-Wd-clause-turned : goal.returns-in-Some-Wd-clause-turned
returns-in-Some-Wd-clause-turned c =
    let low = is_behind c.args.place c.args.pass.now.1 c.requires.at c.requires.seen (λ e. c.if-place-places_seen.false (e ∙ sym c.places_seen.ensures)) in
    turned_there c.args.place c.args.pass.now.1 c.requires.at c.requires.seen low c.load_log.result c.load_log.new.pass.1 c.load_log.ensures.told c.reclaim.result c.reclaim.new.pass.1 c.reclaim.ensures.turned

pub returns-in-Some-Decl-clause-turned : goal.returns-in-Some-Decl-clause-turned
returns-in-Some-Decl-clause-turned c =
    let low = is_behind c.args.place c.args.pass.now.1 c.requires.at c.requires.seen (λ e. c.if-place-places_seen.false (e ∙ sym c.places_seen.ensures)) in
    let back = c.unpack.ensures.back _ (fits_record c.args.place c.args.pass.now.1 c.requires.at c.requires.seen low c.load_log.result c.load_log.new.pass.1 c.load_log.ensures.told) (is_record c.args.place c.args.pass.now.1 c.requires.at c.requires.seen low c.load_log.result c.load_log.new.pass.1 c.load_log.ensures.told) in
    passed_there c.args.place c.args.pass.now.1 c.requires.at c.requires.seen low c.load_log.result c.load_log.new.pass.1 c.load_log.ensures.told c.in-Some-Decl.field-0-0 c.in-Some-Decl.field-0-1 c.in-Some-Decl.field-0-2 (one_record _ _ _ _ back c.in-Some-Decl.is c.in-Some-Decl.field-0-is)
