use Rattle.std.proofs.Common.{◌≡◌, ◌≢◌, ◌+◌, sym, ap, ◌∙◌}
use Rattle.std.specs.Slots.{slots_items}
use Rattle.reg_words.specs.declared.layout.Areas.{Areas}
use Rattle.reg_words.specs.Memory.{CODE, LOG, NOTE}
use Rattle.reg_rule.specs.inner.LastWords.{areas_in, cells_in}
use Rattle.reg_rule.proofs.WordsRead.{cell_is, body_last, body_noted}
use Rattle.reg_rule.proofs.last_words.body_at.Goals as goal

pub returns-then-cell-eq0 : goal.returns-then-cell-eq0
returns-then-cell-eq0 c = λ key log unit is decl.
    let sizes = c.args.sizes.now in
    let words = slots_items c.args.words.now.words in
    let next : cells_in sizes words LOG (c.args.place + 1) ≡ 0 =
    sym (cell_is (areas_in sizes) words LOG _ _ _ c.cell.result (ap (λ (a : Areas). a.log) c.requires.areas) c.log.ensures c.cell.ensures.inside c.cell.ensures.past) ∙ c.if-cell-eq0.true in
    cell_is (areas_in sizes) words CODE _ _ _ _ (ap (λ (a : Areas). a.code) c.requires.areas) c.entries.ensures.value c.cell-then-cell-eq0.ensures.inside c.cell-then-cell-eq0.ensures.past
    ∙ body_last key (cells_in sizes words) log is c.args.place unit c.args.entry decl next

pub returns-else-cell-eq0 : goal.returns-else-cell-eq0
returns-else-cell-eq0 c = λ key log unit is decl.
    let sizes = c.args.sizes.now in
    let words = slots_items c.args.words.now.words in
    let next : cells_in sizes words LOG (c.args.place + 1) ≢ 0 =
    λ e. c.if-cell-eq0.false (cell_is (areas_in sizes) words LOG _ _ _ c.cell.result (ap (λ (a : Areas). a.log) c.requires.areas) c.log.ensures c.cell.ensures.inside c.cell.ensures.past ∙ e) in
    cell_is (areas_in sizes) words NOTE _ _ _ _ (ap (λ (a : Areas). a.note) c.requires.areas) c.log-else-cell-eq0.ensures c.cell-else-cell-eq0.ensures.inside c.cell-else-cell-eq0.ensures.past
    ∙ body_noted key (cells_in sizes words) log is c.args.place unit c.args.entry decl next
