use Rattle.std.proofs.Common.{◌≡◌, ℕ, ◌*◌, ◌/◌, ◌%◌, ◌^◌, drop, sym, arith, ap, ◌∙◌}
use Rattle.blake3_core.specs.Compression.{iv}
use Rattle.blake3_core.specs.Tree.{chunk_output, parent_output, subtree}
use Rattle.blake3_core.proofs.Trees.{tree-subtree}
use Rattle.iscc_instance.specs.inner.Subtrees.{first_above}
use Rattle.iscc_instance.proofs.SubtreeLemmas.{climb-clear, climb-set}
use Rattle.iscc_instance.proofs.subtrees.Subtrees.root.Goals as goal
use Rattle.iscc_instance.proofs.subtrees.Subtrees.root.Goals.{then-self-level-eq1, else-self-level-eq1}

pub levels-init : goal.levels-init
unfolding subtree
levels-init c = λ bytes stands last ends more.
    let n = c.args.self.now.count in
    let all : n ≡ first_above n 0 = omega arith in
    last ∙ ap (λ (k : ℕ). chunk_output iv 0 (drop (1024 * k) bytes) k) all

pub levels-preserved : goal.levels-preserved
levels-preserved c = λ bytes stands last ends more.
    let n = c.args.self.now.count in
    let level = c.levels.level in
    let here = c.levels.invariant bytes stands last ends more in
    elim c.if-self-level-eq1.branch [
      | then-self-level-eq1 w ↦
          let set : n / 2 ^ level % 2 ≡ 1 = omega arith in
          climb-set bytes n level c.levels.output ends here _ _ set more (stands.values level c.levels-test.true set)
          (w.output-is ∙ w.parent_output-output.ensures ∙ ap (parent_output iv 0 _) w.value.ensures)
      | else-self-level-eq1 w ↦ w.output-is ∙ climb-clear bytes n level c.levels.output ends here (omega arith)
    ]

pub returns : goal.returns
returns c = λ bytes stands last ends more fits.
    let n = c.args.self.now.count in
    let top : c.levels.level ≡ 54 = omega arith in
    let none : first_above n 54 ≡ 0 = omega (arith, stands.within) in
    let here = rw top at (c.levels.invariant bytes stands last ends more) in
    rw none at here ∙ sym (tree-subtree iv 0 54 bytes 0 (omega arith))
