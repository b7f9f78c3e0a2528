use Rattle.std.proofs.Common.{◌<◌, length, ap, arith}
use Rattle.reg_top.specs.Fetches.{Plan}
use Rattle.reg_top.proofs.RunWordsKept.{length_kept, sizes_at, some_sizes}
use Rattle.reg_top.proofs.run_words.RunPlan.sizes.Goals as goal

pub offset_bounds-as_slice-at : goal.offset_bounds-as_slice-at
offset_bounds-as_slice-at c =
    omega (arith, length_kept c.self.inside.sizes.items c.self.inside.rounds.items c.self.invariant, ap (λ (p : Plan). length p.rounds) c.self.view_is, ap length c.as_slice.ensures.value)

pub bounds-as_slice-at : goal.bounds-as_slice-at
bounds-as_slice-at c =
    omega (arith, length_kept c.self.inside.sizes.items c.self.inside.rounds.items c.self.invariant, ap (λ (p : Plan). length p.rounds) c.self.view_is, ap length c.as_slice.ensures.value)

pub unwrap-requires : goal.unwrap-requires
unwrap-requires c =
    let rounds = c.self.inside.rounds.items in
    let low : c.args.at < length rounds = omega (arith, length_kept c.self.inside.sizes.items rounds c.self.invariant, ap (λ (p : Plan). length p.rounds) c.self.view_is) in
    some_sizes c.args.self.now.rounds c.self.inside.sizes.items rounds c.args.at c.as_slice.result.now (ap (λ (p : Plan). p.rounds) c.self.view_is) c.self.invariant low c.as_slice.ensures.value c.new.result c.requires.in_range
    c.new.ensures.none

pub returns : goal.returns
returns c =
    let rounds = c.self.inside.rounds.items in
    let low : c.args.at < length rounds = omega (arith, length_kept c.self.inside.sizes.items rounds c.self.invariant, ap (λ (p : Plan). length p.rounds) c.self.view_is) in
    sizes_at c.args.self.now.rounds c.self.inside.sizes.items rounds c.args.at c.as_slice.result.now (ap (λ (p : Plan). p.rounds) c.self.view_is) c.self.invariant low c.as_slice.ensures.value c.new.result c.unwrap.result c.unwrap.ensures
    c.new.ensures.found
