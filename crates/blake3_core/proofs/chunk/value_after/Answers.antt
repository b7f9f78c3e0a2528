use Rattle.std.proofs.Common.{◌≡◌, ◌+◌, ◌-◌, ◌*◌, refl, ◌∙◌, ap, arith, ℕ, take, drop}
use Rattle.std.proofs.lemmas.List.{drop-drop}
use Rattle.blake3_core.specs.Tree.{value_after, block_at}
use Rattle.blake3_core.proofs.Chunks.{value_after-next}
use Rattle.blake3_core.proofs.chunk.value_after.Goals as goal

pub blocks-2-init : goal.blocks-2-init
blocks-2-init c = λ key chunk start bytes. start ∙ ap (value_after key c.args.flags chunk c.args.counter) (omega arith)

pub blocks-2-preserved : goal.blocks-2-preserved
blocks-2-preserved c = λ key chunk start bytes.
    let i = c.blocks-2.i in
    let first = c.args.first in
    let width : 64 * i + 64 - 64 * i ≡ 64 = omega arith in
    let place : 64 * first + 64 * i ≡ 64 * (first + i) = omega arith in
    let block : take (64 * i + 64 - 64 * i) (drop (64 * i) c.args.bytes.now) ≡ block_at chunk (first + i) =
    rw (width, bytes, drop-drop (64 * i) (64 * first) chunk, place) refl in
    value_after-next key c.args.flags chunk c.args.counter (first + i) _ _ _ (c.blocks-2.invariant key chunk start bytes) block c.next_value-value.ensures
    ∙ ap (value_after key c.args.flags chunk c.args.counter) (omega arith)

pub returns : goal.returns
returns c = λ key chunk start bytes.
    c.blocks-2.invariant key chunk start bytes ∙ ap (λ (k : ℕ). value_after key c.args.flags chunk c.args.counter (c.args.first + k)) (omega arith)
