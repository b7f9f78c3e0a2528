use Rattle.std.proofs.Common.{◌≡◌, Some, length, rules}
use Rattle.std.specs.Prelude.{slice_get, codes}
use Rattle.reg_make.specs.Workloads.{Work}
use Rattle.reg_top.specs.Words.{IsNumberOf}
use Rattle.reg_top.proofs.Forms.{make_form}
use Rattle.reg_top.proofs.RoundMarks.{four_words}
use Rattle.reg_top.proofs.words.work_asked.Goals as goal

pub returns-clause-found : goal.returns-clause-found
returns-clause-found c =
    let words = c.args.words.now in
    let len : length words ≡ 4 = search rules in
    let first : slice_get words 0 ≡ Some (codes "make") = search rules in
    let work : Work = record { seed = c.in_ok-seed.seed; each = c.in_ok-each.each; sessions = c.in_ok-sessions.sessions } in
    let seed_read : IsNumberOf c.as_bytes.result.now c.in_ok-seed.seed = record { digits = c.in_ok-seed.ensures.found; value = c.in_ok-seed.ensures.value } in
    let each_read : IsNumberOf c.as_bytes-2.result.now c.in_ok-each.each = record { digits = c.in_ok-each.ensures.found; value = c.in_ok-each.ensures.value } in
    let sessions_read : IsNumberOf c.as_bytes-3.result.now c.in_ok-sessions.sessions = record { digits = c.in_ok-sessions.ensures.found; value = c.in_ok-sessions.ensures.value } in
    make_form words c.word-2.result.now c.word-3.result.now c.word-4.result.now work c.new.result
    (four_words words (codes "make") c.word-2.result.now c.word-3.result.now c.word-4.result.now len first c.word-2.ensures c.word-3.ensures c.word-4.ensures)
    (rw c.as_bytes.ensures.value at seed_read)
    (rw c.as_bytes-2.ensures.value at each_read)
    (rw c.as_bytes-3.ensures.value at sessions_read)
    c.new.ensures.found c.new.ensures.in_range
