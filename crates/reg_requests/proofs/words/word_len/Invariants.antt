use Rattle.std.proofs.Common.{take}
use Rattle.std.specs.Prelude.{not}
use Rattle.std.specs.List.{AllPass}
use Rattle.iscc_text.specs.Texts.{is_blank}
use Rattle.reg_requests.proofs.words.word_len.Given as goal

abbrev pub invariant-loop-i : goal.invariant-loop-i
invariant-loop-i l = AllPass (λ byte. not (is_blank byte)) (take l.i l.text)
