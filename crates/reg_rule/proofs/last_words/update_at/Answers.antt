use Rattle.std.proofs.Common.{◌≡◌, sym, ap, subst, ◌∙◌}
use Rattle.std.specs.Slots.{slots_items}
use Rattle.reg_words.specs.declared.layout.Areas.{Areas}
use Rattle.reg_words.specs.declared.word.LogWord.{LogWord}
use Rattle.reg_words.specs.Packing.{FitsLog, log_word}
use Rattle.reg_words.specs.Memory.{LOG}
use Rattle.reg_rule.specs.inner.LastWords.{areas_in, cells_in}
use Rattle.reg_rule.proofs.WordsRead.{cell_is, no_more, no_update, decl_there, wd_there}
use Rattle.reg_rule.proofs.last_words.update_at.Goals as goal

pub returns-in_err-kind-clause-none : goal.returns-in_err-kind-clause-none
returns-in_err-kind-clause-none c = λ key log is.
    let sizes = c.args.sizes.now in
    let words = slots_items c.args.words.now.words in
    let word = cell_is (areas_in sizes) words LOG _ _ _ c.cell-word.result (ap (λ (a : Areas). a.log) c.requires.areas) c.log.ensures c.cell-word.ensures.inside c.cell-word.ensures.past in
    no_update _ log _ (no_more key (cells_in sizes words) log is c.args.place (λ w fits e. c.in_err-kind.ensures.none w fits (e ∙ sym word)))

pub returns-in-Decl-clause-found : goal.returns-in-Decl-clause-found
returns-in-Decl-clause-found c = λ key log is.
    let sizes = c.args.sizes.now in
    let words = slots_items c.args.words.now.words in
    let word = cell_is (areas_in sizes) words LOG _ _ _ c.cell-word.result (ap (λ (a : Areas). a.log) c.requires.areas) c.log.ensures c.cell-word.ensures.inside c.cell-word.ensures.past in
    let found = subst (λ (w : LogWord). FitsLog w × (log_word w ≡ cells_in sizes words LOG c.args.place)) c.in-Decl.is (c.in_ok-kind.ensures.found.0, c.in_ok-kind.ensures.found.1 ∙ word) in
    decl_there key (cells_in sizes words) log is c.args.place c.in-Decl.kind c.in-Decl.entry c.in-Decl.id _ found.0 found.1 (λ unit decl. c.body_at-body.ensures key log unit is decl)

pub returns-in-Wd-clause-found : goal.returns-in-Wd-clause-found
returns-in-Wd-clause-found c = λ key log is.
    let sizes = c.args.sizes.now in
    let words = slots_items c.args.words.now.words in
    let word = cell_is (areas_in sizes) words LOG _ _ _ c.cell-word.result (ap (λ (a : Areas). a.log) c.requires.areas) c.log.ensures c.cell-word.ensures.inside c.cell-word.ensures.past in
    let found = subst (λ (w : LogWord). FitsLog w × (log_word w ≡ cells_in sizes words LOG c.args.place)) c.in-Wd.is (c.in_ok-kind.ensures.found.0, c.in_ok-kind.ensures.found.1 ∙ word) in
    wd_there key (cells_in sizes words) log is c.args.place c.in-Wd.entry c.in-Wd.id found.0 found.1
