use Rattle.std.proofs.Common.{ℕ, List, sym, ap, ◌∙◌, arith}
use Rattle.blake3_core.specs.Tree.{parent_output}
use Rattle.blake3_core.proofs.Words.{drop-elements_from, elements_from}
use Rattle.blake3_core.proofs.node.parent_output.Goals as goal

pub returns : goal.returns
unfolding parent_output
returns c =
    let key = c.args.key.now in
    let left = drop-elements_from c.args.left.now 0 8 (omega arith) in
    let right = drop-elements_from c.args.right.now 0 8 (omega arith) in
    sym (ap (λ (w : List ℕ). parent_output key c.args.flags w c.args.right.now) left
    ∙ ap (λ (w : List ℕ). parent_output key c.args.flags (elements_from c.args.left.now 0 8) w) right)
