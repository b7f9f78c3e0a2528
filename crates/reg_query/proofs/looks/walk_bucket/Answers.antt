use Rattle.std.proofs.Common.{ℕ, ◌+◌, ◌<◌, ◌-◌, length, Option, refl, ap, sym, subst, arith}
use Rattle.reg_rule.specs.declared.view.Key.{Key}
use Rattle.reg_rule.specs.declared.view.View.{View}
use Rattle.reg_query.specs.inner.Walks.{IsWalkingAlong, cursor_at, left_of}
use Rattle.reg_query.proofs.Walking.{on_err, own_first, own_next, begins, goes, smaller, at_end, bucket_listed, has_room, still_there, part}
use Rattle.reg_query.proofs.looks.walk_bucket.Goals as goal

pub loop-at-init : goal.loop-at-init
loop-at-init c = record {
  own = own_first c.args.words.now.0 (λ (z : View). z.key) c.args.words.now.1 c.args.told c.args.pass.now.1 c.args.probe.now.table c.args.probe.now.bucket c.first-at.result c.first-at.new.pass _ (λ told. refl) (λ told e. refl) c.requires.own.1 c.first-at.ensures.none c.first-at.ensures.some;
  looks = 0;
  looked = omega arith;
  walking = begins c.args.query.now c.args.probe.now c.args.told c.args.pass.now.1 c.args.listing.now.hits.items c.requires.asked c.args.words.now.0 c.first-at.result c.first-at.new.pass c.first-at.ensures.none c.first-at.ensures.some;
}

pub visit-requires-clause-room : goal.visit-requires-clause-room
visit-requires-clause-room c =
    let i = c.loop-at.invariant in
    let w = subst (λ (o : Option ℕ). IsWalkingAlong c.args.query.now c.args.probe.now c.args.told c.args.pass.now.1 c.args.listing.now.hits.items o c.loop-at.listing.hits.items i.looks c.loop-at.pass.1) c.in-Some.is i.walking in
    let r = has_room c.args.query.now c.args.probe.now c.args.told c.args.pass.now.1 c.args.listing.now.hits.items c.requires.asked c.in-Some.entry c.loop-at.listing.hits.items i.looks c.loop-at.pass.1 w in
    let e = ap (λ (z : View). z.key.entries) i.walking.walked.view in let l = i.looked in let q = c.requires.room in omega arith

pub returns-in_err-visit-clause-walked : goal.returns-in_err-visit-clause-walked
returns-in_err-visit-clause-walked c =
    let i = c.loop-at.invariant in
    let w = subst (λ (o : Option ℕ). IsWalkingAlong c.args.query.now c.args.probe.now c.args.told c.args.pass.now.1 c.args.listing.now.hits.items o c.loop-at.listing.hits.items i.looks c.loop-at.pass.1) c.in-Some.is i.walking in
    let v = c.visit.ensures.looked in (
      i.looks + v.1,
      (let a = i.looked in let b = v.2 in omega arith),
      part c.args.query.now c.args.probe.now c.args.told c.args.pass.now.1 c.args.listing.now.hits.items c.requires.asked c.in-Some.entry c.loop-at.listing.hits.items i.looks c.loop-at.pass.1 w v.0 v.1 c.visit.new.pass.1 v.3,
      on_err c.from_residual.result _ c.from_residual.ensures.0,
    )

pub next-at-requires-clause-cursor : goal.next-at-requires-clause-cursor
next-at-requires-clause-cursor c =
    let i = c.loop-at.invariant in
    let w = subst (λ (o : Option ℕ). IsWalkingAlong c.args.query.now c.args.probe.now c.args.told c.args.pass.now.1 c.args.listing.now.hits.items o c.loop-at.listing.hits.items i.looks c.loop-at.pass.1) c.in-Some.is i.walking in
    let v = c.visit.ensures.looked in (
      cursor_at c.args.probe.now c.in-Some.entry,
      still_there c.args.query.now c.args.probe.now c.args.told c.args.pass.now.1 c.args.listing.now.hits.items c.requires.asked c.in-Some.entry c.loop-at.listing.hits.items i.looks c.loop-at.pass.1 w v.0 v.1 c.visit.new.pass.1 v.3,
      refl,
      refl,
    )

pub loop-at-preserved : goal.loop-at-preserved
loop-at-preserved c =
    let i = c.loop-at.invariant in
    let w = subst (λ (o : Option ℕ). IsWalkingAlong c.args.query.now c.args.probe.now c.args.told c.args.pass.now.1 c.args.listing.now.hits.items o c.loop-at.listing.hits.items i.looks c.loop-at.pass.1) c.in-Some.is i.walking in
    let v = c.in_ok-visit.ensures.looked in
    record {
      own = own_next c.args.words.now.0 (λ (z : View). z.key) c.args.words.now.1 c.visit.new.pass.1 (cursor_at c.args.probe.now c.in-Some.entry) c.next-at.result c.next-at.new.pass
          (still_there c.args.query.now c.args.probe.now c.args.told c.args.pass.now.1 c.args.listing.now.hits.items c.requires.asked c.in-Some.entry c.loop-at.listing.hits.items i.looks c.loop-at.pass.1 w v.0 v.1 c.visit.new.pass.1 v.3)
          refl (λ e. refl) c.in_ok-visit.ensures.own.1 c.next-at.ensures.none c.next-at.ensures.some;
      looks = i.looks + v.1;
      looked = (let a = i.looked in let b = v.2 in omega arith);
      walking = goes c.args.query.now c.args.probe.now c.args.told c.args.pass.now.1 c.args.listing.now.hits.items c.requires.asked c.in-Some.entry c.loop-at.listing.hits.items i.looks c.loop-at.pass.1 w v.0 v.1 c.visit.new.pass.1 v.3
          c.args.words.now.0 c.next-at.result c.next-at.new.pass c.visit.new.listing.hits.items v.4 c.next-at.ensures.none c.next-at.ensures.some;
    }

pub loop-at-smaller : goal.loop-at-smaller
loop-at-smaller c =
    let i = c.loop-at.invariant in
    let w = subst (λ (o : Option ℕ). IsWalkingAlong c.args.query.now c.args.probe.now c.args.told c.args.pass.now.1 c.args.listing.now.hits.items o c.loop-at.listing.hits.items i.looks c.loop-at.pass.1) c.in-Some.is i.walking in
    let v = c.in_ok-visit.ensures.looked in
    let own = own_next c.args.words.now.0 (λ (z : View). z.key) c.args.words.now.1 c.visit.new.pass.1 (cursor_at c.args.probe.now c.in-Some.entry) c.next-at.result c.next-at.new.pass
    (still_there c.args.query.now c.args.probe.now c.args.told c.args.pass.now.1 c.args.listing.now.hits.items c.requires.asked c.in-Some.entry c.loop-at.listing.hits.items i.looks c.loop-at.pass.1 w v.0 v.1 c.visit.new.pass.1 v.3)
    refl (λ e. refl) c.in_ok-visit.ensures.own.1 c.next-at.ensures.none c.next-at.ensures.some in
    let n = c.args.words.now.1.entries in
    subst (λ (o : Option ℕ). left_of c.next-at.result (n - length c.next-at.new.pass.1.visited) < left_of o (n - length c.loop-at.pass.1.visited)) (sym c.in-Some.is)
    (smaller c.args.query.now c.args.probe.now c.args.told c.args.pass.now.1 c.args.listing.now.hits.items c.requires.asked c.in-Some.entry c.loop-at.listing.hits.items i.looks c.loop-at.pass.1 w v.0 v.1 c.visit.new.pass.1 v.3
    c.args.words.now.0 c.next-at.result c.next-at.new.pass c.visit.new.listing.hits.items n (ap (λ (k : Key). k.entries) own.1) c.next-at.ensures.some
    (goes c.args.query.now c.args.probe.now c.args.told c.args.pass.now.1 c.args.listing.now.hits.items c.requires.asked c.in-Some.entry c.loop-at.listing.hits.items i.looks c.loop-at.pass.1 w v.0 v.1 c.visit.new.pass.1 v.3
    c.args.words.now.0 c.next-at.result c.next-at.new.pass c.visit.new.listing.hits.items v.4 c.next-at.ensures.none c.next-at.ensures.some))

pub returns-clause-walked : goal.returns-clause-walked
returns-clause-walked c =
    let i = c.loop-at.invariant in
    let w = at_end c.args.query.now c.args.probe.now c.args.told c.args.pass.now.1 c.args.listing.now.hits.items c.requires.asked c.loop-at.at c.loop-at.listing.hits.items i.looks c.loop-at.pass.1 c.in_default.not-Some i.walking in
    (i.looks, i.looked, i.walking.walked, bucket_listed c.args.query.now c.args.probe.now c.args.told c.args.pass.now.1 c.args.listing.now.hits.items c.requires.asked c.loop-at.listing.hits.items i.looks c.loop-at.pass.1 w)
