use Rattle.serde_json.specs.View.{view}
use Rattle.reg_top.proofs.commands.explain.tree_text.Goals as goal

pub returns : goal.returns
returns c = (view c.in_ok-tree.tree, c.in_ok-tree.ensures.explains, c.in_ok-to_string.ensures.text c.in_ok-tree.ensures.whole_numbers)
