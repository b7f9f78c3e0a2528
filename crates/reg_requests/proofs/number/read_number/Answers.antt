use Rattle.std.proofs.lemmas.Str.{IsUtf8-from_ascii}
use Rattle.std.proofs.lemmas.Fmt.{IsAscii-from_digits}
use Rattle.reg_requests.proofs.number.read_number.Goals as goal

pub returns-in_default-clause-none : goal.returns-in_default-clause-none
returns-in_default-clause-none c = λ number. c.in_default.ensures.cases.0 (IsUtf8-from_ascii c.args.word.now (IsAscii-from_digits c.args.word.now number.digits))
