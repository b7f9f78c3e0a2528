use Rattle.std.proofs.Common.{◌≡◌, arith, ◌^◌, ◌≤◌, true, false, sym, ◌∙◌, subst}
use Rattle.reg_words.specs.declared.word.SweepWord.{SweepWord}
use Rattle.reg_rule.specs.Moves.{is_dead}
use Rattle.reg_sweep.specs.declared.reclaiming.Turn.{Turn}
use Rattle.reg_sweep.specs.inner.Turns.{HasTurned, Stops}
use Rattle.reg_sweep.proofs.Ranges.{few_places}
use Rattle.reg_sweep.proofs.Reclaims.{limbo_word, unstamped, may_scan_place, place_stopped, may_unlink, may_limbo, waits_there, given_back, mark_stopped}
use Rattle.reg_sweep.proofs.reclaiming.reclaim.Goals as goal

pub returns-then-not-is_death-clause-turned : goal.returns-then-not-is_death-clause-turned
returns-then-not-is_death-clause-turned c =
    let small : c.args.pass.now.1.key.sizes.log ≤ 2 ^ 22 = few_places c.sizes.result.now c.args.words.now.1 c.args.pass.now.1.key c.sizes.ensures.sizes c.requires.own.1 c.callers-range.ensures.range in
    let alive : is_dead c.load_stamp.ensures.told.stamp ≡ false = sym (c.is_death.ensures c.load_stamp.ensures.told.stamp c.load_stamp.ensures.told.bits c.load_stamp.ensures.told.word) ∙ c.if-not-is_death.true in
    subst (λ (t : Turn). HasTurned t c.args.place c.args.pass.now.1 c.load_stamp.new.pass.1) (sym c.stop.ensures) (unstamped c.args.place c.args.entry c.requires.withdraws.0 c.args.pass.now.1 c.requires.at c.requires.seen small c.requires.withdraws.1 c.load_stamp.result c.load_stamp.new.pass.1 c.load_stamp.ensures.told alive)

pub scan-requires-clause-may : goal.scan-requires-clause-may
scan-requires-clause-may c =
    let small : c.args.pass.now.1.key.sizes.log ≤ 2 ^ 22 = few_places c.sizes.result.now c.args.words.now.1 c.args.pass.now.1.key c.sizes.ensures.sizes c.requires.own.1 c.callers-range.ensures.range in
    let dead : is_dead c.load_stamp.ensures.told.stamp ≡ true = sym (c.is_death.ensures c.load_stamp.ensures.told.stamp c.load_stamp.ensures.told.bits c.load_stamp.ensures.told.word) ∙ c.if-not-is_death.false in
    may_scan_place c.args.place c.args.entry c.requires.withdraws.0 c.args.pass.now.1 c.requires.at c.requires.seen small c.requires.withdraws.1 c.load_stamp.result c.load_stamp.new.pass.1 c.load_stamp.ensures.told dead

pub returns-in-Some-clause-turned : goal.returns-in-Some-clause-turned
returns-in-Some-clause-turned c =
    let small : c.args.pass.now.1.key.sizes.log ≤ 2 ^ 22 = few_places c.sizes.result.now c.args.words.now.1 c.args.pass.now.1.key c.sizes.ensures.sizes c.requires.own.1 c.callers-range.ensures.range in
    let dead : is_dead c.load_stamp.ensures.told.stamp ≡ true = sym (c.is_death.ensures c.load_stamp.ensures.told.stamp c.load_stamp.ensures.told.bits c.load_stamp.ensures.told.word) ∙ c.if-not-is_death.false in
    subst (λ (t : Turn). HasTurned t c.args.place c.args.pass.now.1 c.scan.new.pass.1) (sym c.stop-in-Some.ensures) (place_stopped c.args.place c.args.entry c.requires.withdraws.0 c.args.pass.now.1 c.requires.at c.requires.seen small c.requires.withdraws.1 c.load_stamp.result c.load_stamp.new.pass.1 c.load_stamp.ensures.told dead c.in-Some.why c.scan.new.pass.1 c.in-Some.ensures.stopped)

pub unlink_all-requires-clause-may : goal.unlink_all-requires-clause-may
unlink_all-requires-clause-may c =
    let small : c.args.pass.now.1.key.sizes.log ≤ 2 ^ 22 = few_places c.sizes.result.now c.args.words.now.1 c.args.pass.now.1.key c.sizes.ensures.sizes c.requires.own.1 c.callers-range.ensures.range in
    let dead : is_dead c.load_stamp.ensures.told.stamp ≡ true = sym (c.is_death.ensures c.load_stamp.ensures.told.stamp c.load_stamp.ensures.told.bits c.load_stamp.ensures.told.word) ∙ c.if-not-is_death.false in
    (c.requires.withdraws.0, may_unlink c.args.place c.args.entry c.requires.withdraws.0 c.args.pass.now.1 c.requires.at c.requires.seen small c.requires.withdraws.1 c.load_stamp.result c.load_stamp.new.pass.1 c.load_stamp.ensures.told dead c.scan.new.pass.1 c.in_default.ensures.free)

pub store_sweep-requires-clause-may : goal.store_sweep-requires-clause-may
store_sweep-requires-clause-may c =
    let small : c.args.pass.now.1.key.sizes.log ≤ 2 ^ 22 = few_places c.sizes.result.now c.args.words.now.1 c.args.pass.now.1.key c.sizes.ensures.sizes c.requires.own.1 c.callers-range.ensures.range in
    let dead : is_dead c.load_stamp.ensures.told.stamp ≡ true = sym (c.is_death.ensures c.load_stamp.ensures.told.stamp c.load_stamp.ensures.told.bits c.load_stamp.ensures.told.word) ∙ c.if-not-is_death.false in
    record { holding = may_limbo c.args.place c.args.entry c.requires.withdraws.0 c.args.pass.now.1 c.requires.at c.requires.seen small c.requires.withdraws.1 c.load_stamp.result c.load_stamp.new.pass.1 c.load_stamp.ensures.told dead c.scan.new.pass.1 c.in_default.ensures.free c.unlink_all.new.pass.1 c.unlink_all.ensures.unlinked c.front-mark.result c.front-mark.new.pass.1 c.front-mark.ensures.found c.in_limbo-waits.result (limbo_word _ _ _ _ c.in_limbo-waits.ensures (omega arith)); word_is = c.pack.ensures }

pub give_back-requires-clause-waits : goal.give_back-requires-clause-waits
give_back-requires-clause-waits c =
    let small : c.args.pass.now.1.key.sizes.log ≤ 2 ^ 22 = few_places c.sizes.result.now c.args.words.now.1 c.args.pass.now.1.key c.sizes.ensures.sizes c.requires.own.1 c.callers-range.ensures.range in
    let dead : is_dead c.load_stamp.ensures.told.stamp ≡ true = sym (c.is_death.ensures c.load_stamp.ensures.told.stamp c.load_stamp.ensures.told.bits c.load_stamp.ensures.told.word) ∙ c.if-not-is_death.false in
    (c.requires.withdraws.0, waits_there c.args.place c.args.entry c.requires.withdraws.0 c.args.pass.now.1 c.requires.at c.requires.seen small c.requires.withdraws.1 c.load_stamp.result c.load_stamp.new.pass.1 c.load_stamp.ensures.told dead c.scan.new.pass.1 c.in_default.ensures.free c.unlink_all.new.pass.1 c.unlink_all.ensures.unlinked c.front-mark.result c.front-mark.new.pass.1 c.front-mark.ensures.found c.in_limbo-waits.result (limbo_word _ _ _ _ c.in_limbo-waits.ensures (omega arith)) c.store_sweep.new.pass.1 c.store_sweep.ensures.told)

pub returns-in-None-clause-turned : goal.returns-in-None-clause-turned
returns-in-None-clause-turned c =
    let small : c.args.pass.now.1.key.sizes.log ≤ 2 ^ 22 = few_places c.sizes.result.now c.args.words.now.1 c.args.pass.now.1.key c.sizes.ensures.sizes c.requires.own.1 c.callers-range.ensures.range in
    let dead : is_dead c.load_stamp.ensures.told.stamp ≡ true = sym (c.is_death.ensures c.load_stamp.ensures.told.stamp c.load_stamp.ensures.told.bits c.load_stamp.ensures.told.word) ∙ c.if-not-is_death.false in
    given_back c.args.place c.args.entry c.requires.withdraws.0 c.args.pass.now.1 c.requires.at c.requires.seen small c.requires.withdraws.1 c.load_stamp.result c.load_stamp.new.pass.1 c.load_stamp.ensures.told dead c.scan.new.pass.1 c.in_default.ensures.free c.unlink_all.new.pass.1 c.unlink_all.ensures.unlinked c.front-mark.result c.front-mark.new.pass.1 c.front-mark.ensures.found c.in_limbo-waits.result (limbo_word _ _ _ _ c.in_limbo-waits.ensures (omega arith)) c.store_sweep.new.pass.1 c.store_sweep.ensures.told c.give_back.new.pass.1 c.in-None.ensures.given

pub returns-in-Some-give_back-clause-turned : goal.returns-in-Some-give_back-clause-turned
returns-in-Some-give_back-clause-turned c =
    let small : c.args.pass.now.1.key.sizes.log ≤ 2 ^ 22 = few_places c.sizes.result.now c.args.words.now.1 c.args.pass.now.1.key c.sizes.ensures.sizes c.requires.own.1 c.callers-range.ensures.range in
    let dead : is_dead c.load_stamp.ensures.told.stamp ≡ true = sym (c.is_death.ensures c.load_stamp.ensures.told.stamp c.load_stamp.ensures.told.bits c.load_stamp.ensures.told.word) ∙ c.if-not-is_death.false in
    subst (λ (rest : SweepWord). Stops c.args.place c.args.pass.now.1 rest c.in-Some-give_back.why c.give_back.new.pass.1) (sym c.in_limbo.ensures) (mark_stopped c.args.place c.args.entry c.requires.withdraws.0 c.args.pass.now.1 c.requires.at c.requires.seen small c.requires.withdraws.1 c.load_stamp.result c.load_stamp.new.pass.1 c.load_stamp.ensures.told dead c.scan.new.pass.1 c.in_default.ensures.free c.unlink_all.new.pass.1 c.unlink_all.ensures.unlinked c.front-mark.result c.front-mark.new.pass.1 c.front-mark.ensures.found c.in_limbo-waits.result (limbo_word _ _ _ _ c.in_limbo-waits.ensures (omega arith)) c.store_sweep.new.pass.1 c.store_sweep.ensures.told c.in-Some-give_back.why c.give_back.new.pass.1 c.in-Some-give_back.ensures.stopped)
