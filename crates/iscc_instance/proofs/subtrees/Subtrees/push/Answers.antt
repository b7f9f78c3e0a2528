use Rattle.std.proofs.Common.{◌≡◌, ℕ, List, [], ◌/◌, ◌%◌, ◌^◌, slice_set, arith, ap, ◌∙◌}
use Rattle.std.specs.List.{slice_index_or}
use Rattle.iscc_instance.proofs.Bits.{LowBitsSet-more}
use Rattle.iscc_instance.proofs.SubtreeLemmas.{Stands-next, full_value-climb}
use Rattle.iscc_instance.proofs.subtrees.Subtrees.push.Goals as goal

pub returns-then-count-level-eq0-clause-stands : goal.returns-then-count-level-eq0-clause-stands
returns-then-count-level-eq0-clause-stands c = λ bytes stands within chunk.
    let i = c.levels.invariant in
    Stands-next c.args.self.now _ bytes c.levels.value c.levels.level stands i.low (omega arith) (omega arith) within
    (i.value bytes stands within chunk) (ap (λ (v : List (List ℕ)). slice_set v c.levels.level c.levels.value) i.kept) i.counted

pub levels-preserved : goal.levels-preserved
levels-preserved c =
    let i = c.levels.invariant in
    let level = c.levels.level in
    let set : c.args.self.now.count / 2 ^ level % 2 ≡ 1 = omega arith in
    record {
      kept = i.kept;
      counted = i.counted;
      low = LowBitsSet-more c.args.self.now.count level i.low set;
      value = λ bytes stands within chunk.
          full_value-climb bytes _ _ _ c.args.self.now.count level i.low set within
          (ap (λ (v : List (List ℕ)). slice_index_or v level []) i.kept ∙ stands.values level c.levels-test.true set)
          (i.value bytes stands within chunk) c.parent_value-value.ensures;
    }
