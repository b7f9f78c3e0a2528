use Rattle.serde_json.specs.View.{view}
use Rattle.iscc_text.proofs.NoFloats.{no_float}
use Rattle.iscc_text.proofs.explanation.explain.Goals as goal

pub returns-in-Ok-clause-whole_numbers : goal.returns-in-Ok-clause-whole_numbers
returns-in-Ok-clause-whole_numbers c = no_float c.args.iscc.now (view c.in-Ok.value) c.in-Ok.ensures
