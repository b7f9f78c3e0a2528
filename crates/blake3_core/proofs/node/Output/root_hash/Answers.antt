use Rattle.std.proofs.Common.{◌≡◌, take, arith, ap, ◌∙◌, rules, sym}
use Rattle.std.proofs.lemmas.List.{take_all}
use Rattle.std.proofs.lemmas.Slice.{overwrites}
use Rattle.std.specs.List.{flat_map}
use Rattle.std.specs.Int.{to_le_bytes, w32}
use Rattle.blake3_core.specs.Tree.{root_bytes}
use Rattle.blake3_core.proofs.Words.{to_le_bytes-more}
use Rattle.blake3_core.proofs.node.Output.root_hash.Goals as goal

pub words-preserved : goal.words-preserved
words-preserved c = (
  search (rules, overwrites),
  to_le_bytes-more c.words.out c.first_half-words.result _ c.words.i _ c.words.invariant.1 (omega arith) (omega arith)
      (c.copy_from_slice.ensures.after ∙ c.to_le_bytes.ensures),
)

pub returns : goal.returns
unfolding root_bytes
returns c =
    let done : c.words.i ≡ 8 = omega arith in
    let bytes = rw done at c.words.invariant.1 in
    sym (take_all 32 c.words.out (omega arith)) ∙ bytes
    ∙ ap (flat_map (to_le_bytes w32)) (take_all 8 c.first_half-words.result (omega arith) ∙ c.first_half-words.ensures ∙ ap (take 8) c.compress.ensures)
