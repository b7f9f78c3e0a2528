use Rattle.std.proofs.Common.{◌≡◌, ℕ, ◌+◌, ◌*◌, ◌/◌, drop, arith, ap, ◌∙◌, refl}
use Rattle.std.proofs.lemmas.List.{take_rest}
use Rattle.blake3_core.specs.Tree.{node_value, value_after, last_block}
use Rattle.blake3_core.proofs.Chunks.{chunk_output-at}
use Rattle.blake3_core.proofs.chunk.chunk_value.Goals as goal

pub returns : goal.returns
unfolding value_after
returns c =
    let key = c.args.key.now in
    let chunk = c.args.chunk.now in
    let k = c.saturating_sub-last.result / 64 in
    let last : k ≡ last_block chunk = rw c.saturating_sub-last.ensures refl in
    let from_start : 0 + k ≡ last_block chunk = omega arith in
    let input = c.value_after-input.ensures key chunk refl refl ∙ ap (value_after key c.args.flags chunk c.args.counter) from_start in
    let block = take_rest chunk (64 * k) ∙ ap (λ (n : ℕ). drop (64 * n) chunk) last in
    c.value.ensures ∙ ap node_value (chunk_output-at key c.args.flags chunk c.args.counter _ _ _ _ _ _ last input block refl refl c.last_output.ensures)
