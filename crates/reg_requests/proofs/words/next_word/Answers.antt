use Rattle.std.proofs.Common.{◌≡◌, ◌-◌, ◌<◌, length, take, drop, rules}
use Rattle.std.proofs.lemmas.List.{take_rest}
use Rattle.reg_requests.proofs.WordLemmas.{no_words, first_word}
use Rattle.reg_requests.proofs.words.next_word.Goals as goal

pub returns-then-is_empty-clause-none : goal.returns-then-is_empty-clause-none
returns-then-is_empty-clause-none c =
    let blanks = c.blanks_in_front.ensures in
    let empty : length (take (length c.args.text.now - c.blanks_in_front.result) (drop c.blanks_in_front.result c.args.text.now)) ≡ 0 = search rules in
    no_words c.blanks_in_front.result c.args.text.now _ (take_rest c.args.text.now c.blanks_in_front.result) empty blanks.blank

pub returns-clause-found : goal.returns-clause-found
returns-clause-found c =
    let blanks = c.blanks_in_front.ensures in
    let word = c.word_len.ensures in
    let some : 0 < length (take (length c.args.text.now - c.blanks_in_front.result) (drop c.blanks_in_front.result c.args.text.now)) = search rules in
    first_word c.blanks_in_front.result c.word_len.result c.args.text.now _ _ _ (take_rest c.args.text.now c.blanks_in_front.result)
    blanks.blank some blanks.other word.within word.word word.blank c.split_at.ensures.front c.split_at.ensures.back
