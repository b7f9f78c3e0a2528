use Rattle.std.proofs.Common.{◌≡◌, ◌+◌, ◌-◌, length, take, drop, sym, ap, subst}
use Rattle.std.proofs.lemmas.List.{take_rest, length-take-le}
use Rattle.iscc_text.specs.Texts.{IsTrimmed}
use Rattle.iscc_text.proofs.OneText.{reads_from}
use Rattle.iscc_text.proofs.TextSteps.{trimmed_slices, behind_scheme}
use Rattle.iscc_text.proofs.read.read_text.Goals as goal

pub returns-in_default : goal.returns-in_default
returns-in_default c =
    let text = c.args.text.now in
    let start = c.blanks_in_front-start.result in
    let behind = take (length text - start) (drop start text) in
    let n = c.before_blanks.result in
    let front = c.blanks_in_front-start.ensures in
    let trimmed = trimmed_slices text behind start n (take_rest text start) front.within front.blank front.first c.before_blanks.ensures.within c.before_blanks.ensures.blank c.before_blanks.ensures.last in
    let none = c.in_default.ensures.none in
    record {
      before = take start text;
      name = none.0;
      rest = none.1;
      after = drop n behind;
      trimmed = subst (λ core. IsTrimmed text (take start text) core (drop n behind)) none.2 trimmed;
      first = none.3;
      other = none.4;
    }

pub returns : goal.returns
returns c =
    let text = c.args.text.now in
    let start = c.blanks_in_front-start.result in
    let behind = take (length text - start) (drop start text) in
    let n = c.before_blanks.result in
    let core = take n behind in
    let head = c.in-Some.head in
    let m = take (length core - head) (drop head core) in
    let front = c.blanks_in_front-start.ensures in
    let trimmed = trimmed_slices text behind start n (take_rest text start) front.within front.blank front.first c.before_blanks.ensures.within c.before_blanks.ensures.blank c.before_blanks.ensures.last in
    let place : start + head ≡ length (take start text) + head = ap (λ k. k + head) (sym (length-take-le start text front.within)) in
    reads_from text m (start + head) c.read_letters.result
    (behind_scheme text (take start text) core (drop n behind) m head (start + head) trimmed c.in-Some.ensures.found.0 (take_rest core head) c.in-Some.ensures.found.1 place)
    c.read_letters.ensures
