use Rattle.std.proofs.Common.{sym, ◌∙◌, arith}
use Rattle.reg_history.proofs.lines.LineReading.{head_read, carry_read, round_read, end_read, row_read}
use Rattle.reg_history.proofs.lines.line.candidate.Goals as goal

pub returns-in-105-clause-reads : goal.returns-in-105-clause-reads
returns-in-105-clause-reads c = λ line h text. head_read line c.args.text.now h text (sym c.first_byte.ensures ∙ c.in-105.is)

pub returns-in-99-clause-reads : goal.returns-in-99-clause-reads
returns-in-99-clause-reads c = λ line h text. carry_read line c.args.text.now _ h text (sym c.first_byte.ensures ∙ c.in-99.is) c.declared_of.ensures.reads

pub returns-in-114-clause-reads : goal.returns-in-114-clause-reads
returns-in-114-clause-reads c = λ line h text. round_read line c.args.text.now _ h text (sym c.first_byte.ensures ∙ c.in-114.is) c.round_of.ensures.reads

pub returns-in-101-clause-reads : goal.returns-in-101-clause-reads
returns-in-101-clause-reads c = λ line h text. end_read line c.args.text.now _ h text (sym c.first_byte.ensures ∙ c.in-101.is) c.end_of.ensures.reads

pub returns-in_ok-row_of-in_default-clause-reads : goal.returns-in_ok-row_of-in_default-clause-reads
returns-in_ok-row_of-in_default-clause-reads c = λ line h text.
    row_read line c.args.text.now _ h text (λ e. omega arith) (λ e. omega arith) (λ e. omega arith) (λ e. omega arith) c.in_ok-row_of-in_default.ensures.reads
