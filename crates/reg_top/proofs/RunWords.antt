-- Two arguments that stand at the front of the same words are one.
use Rattle.std.proofs.Common.{◌≡◌, ◌≢◌, ℕ, ◌≤◌, List, [], ◌∷◌, ◌++◌, length, get_or, drop, Option, Some, None, inl, inr, refl, sym, ap, ap₂, ◌∙◌, subst, arith}
use Rattle.std.specs.Prelude.{codes, ◌⊎◌}
use Rattle.std.specs.Str.Parse.{AllDigits, digits_value}
use Rattle.std.proofs.lemmas.List.{append_assoc, append_cancel_left, append-nil, length-append}
use Rattle.std.proofs.lemmas.Str.Parse.{digit_from_value}
use Rattle.reg_top.specs.Words.{Argument, Says, AreSaid, IsMark, IsValue, IsNumberOf, option_text, file_option_text}
use Rattle.reg_top.specs.Words.Argument.{Set, SetFile, Mark, Name}
use Rattle.reg_top.specs.declared.run_words.RunOption.{RunOption}
use Rattle.reg_top.specs.declared.run_words.RunOption.TheVariants.{Entries, Log, Bits}
use Rattle.reg_top.specs.declared.run_words.FileOption.{FileOption}
use Rattle.reg_top.specs.declared.run_words.FileOption.TheVariants.{Load, Save}
use Rattle.reg_top.specs.declared.run_words.MarkSizes.{MarkSizes}

-- ---- words

abbrev pub head_word : List (List ℕ) → List ℕ
head_word [] = []
head_word (word ∷ words) = word

abbrev pub second_word : List (List ℕ) → List ℕ
second_word [] = []
second_word (word ∷ words) = head_word words

-- the first letter of the first word
abbrev first_letter : List (List ℕ) → ℕ
first_letter words = get_or (head_word words) 0 0

pub slash_first : (word : List ℕ) (sizes : Option MarkSizes) → IsMark word sizes → get_or word 0 0 ≡ 47
slash_first word None is = ap (λ w. get_or w 0 0) is
slash_first word (Some sizes) is = ap (λ w. get_or w 0 0) is.4

pub no_dash_first : (word : List ℕ) → IsValue word → get_or word 0 0 ≢ 45
no_dash_first [] value = absurd value
no_dash_first (letter ∷ word) value = value

mark_first : (sizes : Option MarkSizes) (words more : List (List ℕ)) → Says (Mark sizes) words → first_letter (words ++ more) ≡ 47
mark_first sizes words more (word, is, one) = ap (λ ws. first_letter (ws ++ more)) one ∙ slash_first word sizes is

name_first : (name : List ℕ) (words more : List (List ℕ)) → Says (Name name) words → first_letter (words ++ more) ≢ 45
name_first name words more (is, one) = λ dash. no_dash_first name is.value (sym (ap (λ ws. first_letter (ws ++ more)) one) ∙ dash)

-- ---- the texts of options

-- two texts neither of which begins the other, unless they are one
abbrev pub AreApart : List ℕ → List ℕ → Type 0
AreApart text other = (rest more : List ℕ) → text ++ rest ≡ other ++ more → (text ≡ other) × (rest ≡ more)

-- no option's text begins another's
pub options_apart : (option other : RunOption) → AreApart (option_text option) (option_text other)
options_apart Entries Entries rest more e = (refl, append_cancel_left (option_text Entries) rest more e)
options_apart Log Log rest more e = (refl, append_cancel_left (option_text Log) rest more e)
options_apart Bits Bits rest more e = (refl, append_cancel_left (option_text Bits) rest more e)
options_apart Entries Log rest more e = absurd (omega (arith, ap (λ w. get_or w 2 0) e))
options_apart Entries Bits rest more e = absurd (omega (arith, ap (λ w. get_or w 2 0) e))
options_apart Log Entries rest more e = absurd (omega (arith, ap (λ w. get_or w 2 0) e))
options_apart Log Bits rest more e = absurd (omega (arith, ap (λ w. get_or w 2 0) e))
options_apart Bits Entries rest more e = absurd (omega (arith, ap (λ w. get_or w 2 0) e))
options_apart Bits Log rest more e = absurd (omega (arith, ap (λ w. get_or w 2 0) e))

pub files_apart : (option other : FileOption) → AreApart (file_option_text option) (file_option_text other)
files_apart Load Load rest more e = (refl, append_cancel_left (file_option_text Load) rest more e)
files_apart Save Save rest more e = (refl, append_cancel_left (file_option_text Save) rest more e)
files_apart Load Save rest more e = absurd (omega (arith, ap (λ w. get_or w 2 0) e))
files_apart Save Load rest more e = absurd (omega (arith, ap (λ w. get_or w 2 0) e))

-- `--log` and `--load` differ in the fifth letter, and the others in the third
pub kinds_apart : (option : RunOption) (other : FileOption) (rest more : List ℕ) → option_text option ++ rest ≡ file_option_text other ++ more → ⊥
kinds_apart Entries Load rest more e = omega (arith, ap (λ w. get_or w 2 0) e)
kinds_apart Entries Save rest more e = omega (arith, ap (λ w. get_or w 2 0) e)
kinds_apart Log Load rest more e = omega (arith, ap (λ w. get_or w 4 0) e)
kinds_apart Log Save rest more e = omega (arith, ap (λ w. get_or w 2 0) e)
kinds_apart Bits Load rest more e = omega (arith, ap (λ w. get_or w 2 0) e)
kinds_apart Bits Save rest more e = omega (arith, ap (λ w. get_or w 2 0) e)

same_option : (option other : RunOption) → option_text option ≡ option_text other → option ≡ other
same_option Entries Entries e = refl
same_option Log Log e = refl
same_option Bits Bits e = refl
same_option Entries Log e = absurd (omega (arith, ap (λ w. get_or w 2 0) e))
same_option Entries Bits e = absurd (omega (arith, ap (λ w. get_or w 2 0) e))
same_option Log Entries e = absurd (omega (arith, ap (λ w. get_or w 2 0) e))
same_option Log Bits e = absurd (omega (arith, ap (λ w. get_or w 2 0) e))
same_option Bits Entries e = absurd (omega (arith, ap (λ w. get_or w 2 0) e))
same_option Bits Log e = absurd (omega (arith, ap (λ w. get_or w 2 0) e))

same_file_option : (option other : FileOption) → file_option_text option ≡ file_option_text other → option ≡ other
same_file_option Load Load e = refl
same_file_option Save Save e = refl
same_file_option Load Save e = absurd (omega (arith, ap (λ w. get_or w 2 0) e))
same_file_option Save Load e = absurd (omega (arith, ap (λ w. get_or w 2 0) e))

-- ---- an option and its value

-- the words are an option's text and a value, or one word with `=` between them
abbrev pub Sets : List ℕ → List ℕ → List (List ℕ) → Type 0
Sets text value words = (words ≡ text ∷ value ∷ []) ⊎ (words ≡ (text ++ (codes "=" ++ value)) ∷ [])

-- the first word begins with the option's text
pub text_first : (text value : List ℕ) (words more : List (List ℕ)) → Sets text value words → (rest : List ℕ) × (head_word (words ++ more) ≡ text ++ rest)
text_first text value words more (inl two) = ([], ap (λ ws. head_word (ws ++ more)) two ∙ sym (append-nil text))
text_first text value words more (inr one) = (codes "=" ++ value, ap (λ ws. head_word (ws ++ more)) one)

option_dash : (option : RunOption) (rest : List ℕ) → get_or (option_text option ++ rest) 0 0 ≡ 45
option_dash Entries rest = refl
option_dash Log rest = refl
option_dash Bits rest = refl

file_option_dash : (option : FileOption) (rest : List ℕ) → get_or (file_option_text option ++ rest) 0 0 ≡ 45
file_option_dash Load rest = refl
file_option_dash Save rest = refl

set_first : (option : RunOption) (number : ℕ) (words more : List (List ℕ)) → Says (Set option number) words → first_letter (words ++ more) ≡ 45
set_first option number words more (text, is, sets) =
    let first = text_first (option_text option) text words more sets in ap (λ w. get_or w 0 0) first.1 ∙ option_dash option first.0

file_first : (option : FileOption) (name : List ℕ) (words more : List (List ℕ)) → Says (SetFile option name) words → first_letter (words ++ more) ≡ 45
file_first option name words more (is, sets) =
    let first = text_first (file_option_text option) name words more sets in ap (λ w. get_or w 0 0) first.1 ∙ file_option_dash option first.0

-- the same words set one value
same_setting : (text other value wanted : List ℕ) (words others more rest : List (List ℕ)) → AreApart text other → Sets text value words → Sets other wanted others → words ++ more ≡ others ++ rest
    → (text ≡ other) × (value ≡ wanted) × (more ≡ rest)
same_setting text other value wanted words others more rest apart (inl two) (inl pair) e =
    let all : text ∷ value ∷ more ≡ other ∷ wanted ∷ rest = sym (ap (λ ws. ws ++ more) two) ∙ e ∙ ap (λ ws. ws ++ rest) pair in
    (ap head_word all, ap second_word all, ap (drop 2) all)
same_setting text other value wanted words others more rest apart (inr one) (inr single) e =
    let all : (text ++ (codes "=" ++ value)) ∷ more ≡ (other ++ (codes "=" ++ wanted)) ∷ rest = sym (ap (λ ws. ws ++ more) one) ∙ e ∙ ap (λ ws. ws ++ rest) single in
    let same = apart (codes "=" ++ value) (codes "=" ++ wanted) (ap head_word all) in
    (same.0, ap (drop 1) same.1, ap (drop 1) all)
same_setting text other value wanted words others more rest apart (inl two) (inr single) e =
    let all : text ∷ value ∷ more ≡ (other ++ (codes "=" ++ wanted)) ∷ rest = sym (ap (λ ws. ws ++ more) two) ∙ e ∙ ap (λ ws. ws ++ rest) single in
    let same = apart [] (codes "=" ++ wanted) (append-nil text ∙ ap head_word all) in
    absurd (omega (arith, ap length same.1))
same_setting text other value wanted words others more rest apart (inr one) (inl pair) e =
    let all : (text ++ (codes "=" ++ value)) ∷ more ≡ other ∷ wanted ∷ rest = sym (ap (λ ws. ws ++ more) one) ∙ e ∙ ap (λ ws. ws ++ rest) pair in
    let same = apart (codes "=" ++ value) [] (ap head_word all ∙ sym (append-nil other)) in
    absurd (omega (arith, ap length same.1))

same_number : (text other : List ℕ) (number wanted : ℕ) → IsNumberOf text number → IsNumberOf other wanted → text ≡ other → number ≡ wanted
same_number text other number wanted is are e = is.value ∙ ap (digits_value 10) e ∙ sym are.value

-- what is told of two arguments at the front of the same words
abbrev AreOne : Argument → Argument → List (List ℕ) → List (List ℕ) → Type 0
AreOne a b more rest = (a ≡ b) × (more ≡ rest)

same_sets : (option other : RunOption) (number wanted : ℕ) (words others more rest : List (List ℕ)) → Says (Set option number) words → Says (Set other wanted) others
    → words ++ more ≡ others ++ rest → AreOne (Set option number) (Set other wanted) more rest
same_sets option other number wanted words others more rest (text, is, sets) (against, are, set) e =
    let same = same_setting (option_text option) (option_text other) text against words others more rest (options_apart option other) sets set e in
    (ap₂ Set (same_option option other same.0) (same_number text against number wanted is are same.1), same.2)

same_files : (option other : FileOption) (name wanted : List ℕ) (words others more rest : List (List ℕ)) → Says (SetFile option name) words → Says (SetFile other wanted) others
    → words ++ more ≡ others ++ rest → AreOne (SetFile option name) (SetFile other wanted) more rest
same_files option other name wanted words others more rest (is, sets) (are, set) e =
    let same = same_setting (file_option_text option) (file_option_text other) name wanted words others more rest (files_apart option other) sets set e in
    (ap₂ SetFile (same_file_option option other same.0) same.1, same.2)

-- an option with a number is none with a name
no_set_file : (option : RunOption) (other : FileOption) (number : ℕ) (name : List ℕ) (words others more rest : List (List ℕ)) → Says (Set option number) words → Says (SetFile other name) others
    → words ++ more ≡ others ++ rest → ⊥
no_set_file option other number name words others more rest (text, is, sets) (are, set) e =
    let first = text_first (option_text option) text words more sets in
    let second = text_first (file_option_text other) name others rest set in
    kinds_apart option other first.0 second.0 (sym first.1 ∙ ap head_word e ∙ second.1)

-- ---- two marks

-- digits have no colon, so that the first colon stands behind them
pub cut_at_colon : (digits others more rest : List ℕ) → AllDigits 10 digits → AllDigits 10 others → digits ++ (58 ∷ more) ≡ others ++ (58 ∷ rest) → (digits ≡ others) × (more ≡ rest)
cut_at_colon [] [] more rest a b e = (refl, ap (drop 1) e)
cut_at_colon [] (d ∷ others) more rest a b e = let range = digit_from_value d b.0 in absurd (omega (arith, range, ap (λ w. get_or w 0 0) e))
cut_at_colon (d ∷ digits) [] more rest a b e = let range = digit_from_value d a.0 in absurd (omega (arith, range, ap (λ w. get_or w 0 0) e))
cut_at_colon (d ∷ digits) (c ∷ others) more rest a b e =
    let same = cut_at_colon digits others more rest a.1 b.1 (ap (drop 1) e) in
    (ap₂ (λ x xs. x ∷ xs) (ap (λ w. get_or w 0 0) e) same.0, same.1)

no_sizes_alone : (entries log : List ℕ) → [] ≡ entries ++ (58 ∷ log) → ⊥
no_sizes_alone [] log e = absurd (omega (arith, ap length e))
no_sizes_alone (d ∷ entries) log e = absurd (omega (arith, ap length e))

abbrev some_sizes : ℕ → ℕ → Option MarkSizes
some_sizes entries log = Some (record { entries = entries; log = log })

pub same_mark : (word : List ℕ) (sizes other : Option MarkSizes) → IsMark word sizes → IsMark word other → sizes ≡ other
same_mark word None None is are = refl
same_mark word None (Some sizes) is (entries, log, a, b, e) = absurd (no_sizes_alone entries log (ap (drop 1) (sym is ∙ e)))
same_mark word (Some sizes) None (entries, log, a, b, e) are = absurd (no_sizes_alone entries log (ap (drop 1) (sym are ∙ e)))
same_mark word (Some sizes) (Some other) (entries, log, a, b, e) (more, rest, c, d, f) =
    let same = cut_at_colon entries more log rest (let n = a.digits in n.digits) (let n = c.digits in n.digits) (ap (drop 1) (sym e ∙ f)) in
    ap₂ some_sizes (same_number entries more sizes.entries other.entries a c same.0) (same_number log rest sizes.log other.log b d same.1)

-- ---- any two arguments

one_word : (word other : List ℕ) (words others more rest : List (List ℕ)) → words ≡ word ∷ [] → others ≡ other ∷ [] → words ++ more ≡ others ++ rest → (word ≡ other) × (more ≡ rest)
one_word word other words others more rest one single e =
    let all : word ∷ more ≡ other ∷ rest = sym (ap (λ ws. ws ++ more) one) ∙ e ∙ ap (λ ws. ws ++ rest) single in
    (ap head_word all, ap (drop 1) all)

pub same_argument : (a b : Argument) (words others more rest : List (List ℕ)) → Says a words → Says b others → words ++ more ≡ others ++ rest → AreOne a b more rest
same_argument (Set option number) (Set other wanted) words others more rest said says e = same_sets option other number wanted words others more rest said says e
same_argument (Set option number) (SetFile other name) words others more rest said says e = absurd (no_set_file option other number name words others more rest said says e)
same_argument (Set option number) (Mark sizes) words others more rest said says e =
    absurd (omega (arith, set_first option number words more said, mark_first sizes others rest says, ap first_letter e))
same_argument (Set option number) (Name name) words others more rest said says e =
    absurd (name_first name others rest says (sym (ap first_letter e) ∙ set_first option number words more said))
same_argument (SetFile option name) (SetFile other wanted) words others more rest said says e = same_files option other name wanted words others more rest said says e
same_argument (SetFile option name) (Set other number) words others more rest said says e = absurd (no_set_file other option number name others words rest more says said (sym e))
same_argument (SetFile option name) (Mark sizes) words others more rest said says e =
    absurd (omega (arith, file_first option name words more said, mark_first sizes others rest says, ap first_letter e))
same_argument (SetFile option name) (Name other) words others more rest said says e =
    absurd (name_first other others rest says (sym (ap first_letter e) ∙ file_first option name words more said))
same_argument (Mark sizes) (Set other wanted) words others more rest said says e =
    absurd (omega (arith, set_first other wanted others rest says, mark_first sizes words more said, ap first_letter e))
same_argument (Mark sizes) (SetFile other name) words others more rest said says e =
    absurd (omega (arith, file_first other name others rest says, mark_first sizes words more said, ap first_letter e))
same_argument (Mark sizes) (Mark other) words others more rest (word, is, one) (mark, are, single) e =
    let same = one_word word mark words others more rest one single e in
    (ap Mark (same_mark word sizes other is (subst (λ w. IsMark w other) (sym same.0) are)), same.1)
same_argument (Mark sizes) (Name name) words others more rest (word, is, one) (are, single) e =
    let same = one_word word name words others more rest one single e in
    absurd (are.no_mark sizes (subst (λ w. IsMark w sizes) same.0 is))
same_argument (Name name) (Set other wanted) words others more rest said says e =
    absurd (name_first name words more said (ap first_letter e ∙ set_first other wanted others rest says))
same_argument (Name name) (SetFile other wanted) words others more rest said says e =
    absurd (name_first name words more said (ap first_letter e ∙ file_first other wanted others rest says))
same_argument (Name name) (Mark sizes) words others more rest (is, one) (word, are, single) e =
    let same = one_word name word words others more rest one single e in
    absurd (is.no_mark sizes (subst (λ w. IsMark w sizes) (sym same.0) are))
same_argument (Name name) (Name other) words others more rest (is, one) (are, single) e =
    let same = one_word name other words others more rest one single e in (ap Name same.0, same.1)

-- ---- arguments one after the other

-- an argument has a word
pub says_some : (a : Argument) (words : List (List ℕ)) → Says a words → 1 ≤ length words
says_some (Set option number) words (text, is, inl two) = omega (arith, ap length two)
says_some (Set option number) words (text, is, inr one) = omega (arith, ap length one)
says_some (SetFile option name) words (is, inl two) = omega (arith, ap length two)
says_some (SetFile option name) words (is, inr one) = omega (arith, ap length one)
says_some (Mark sizes) words (word, is, one) = omega (arith, ap length one)
says_some (Name name) words (is, one) = omega (arith, ap length one)

-- what words say begins with what their front says
pub said_front : (read all : List Argument) (front back words : List (List ℕ)) → AreSaid read front → words ≡ front ++ back → AreSaid all words
    → (more : List Argument) × (all ≡ read ++ more) × AreSaid more back
said_front [] all front back words said are says = (all, refl, subst (AreSaid all) (are ∙ ap (λ ws. ws ++ back) said) says)
said_front (a ∷ read) [] front back words (first, rest, is, said, e) are says =
    absurd (omega (arith, says_some a first is, ap length e, ap length are, ap length says, length-append first rest, length-append front back))
said_front (a ∷ read) (b ∷ all) front back words (first, rest, is, said, e) are (others, behind, says, follow, f) =
    let whole : first ++ (rest ++ back) ≡ others ++ behind = sym (append_assoc first rest back) ∙ sym (ap (λ ws. ws ++ back) e) ∙ sym are ∙ f in
    let same = same_argument a b first others (rest ++ back) behind is says whole in
    let left = said_front read all rest back behind said (sym same.1) follow in
    (left.0, ap₂ (λ x xs. x ∷ xs) (sym same.0) left.1, left.2)

-- words say one list of arguments
pub same_arguments : (read all : List Argument) (words : List (List ℕ)) → AreSaid read words → AreSaid all words → all ≡ read
same_arguments read all words said says =
    let left = said_front read all words [] words said (sym (append-nil words)) says in
    left.1 ∙ ap (λ more. read ++ more) (nothing_said left.0 left.2) ∙ append-nil read
  where
    nothing_said : (more : List Argument) → AreSaid more [] → more ≡ []
    nothing_said [] said = refl
    nothing_said (a ∷ more) (first, rest, is, said, e) = absurd (omega (arith, says_some a first is, ap length e, length-append first rest))

-- one argument more
pub said_more : (read : List Argument) (a : Argument) (front words : List (List ℕ)) → AreSaid read front → Says a words → AreSaid (read ++ a ∷ []) (front ++ words)
said_more [] a front words said says = (words, [], says, refl, ap (λ ws. ws ++ words) said ∙ sym (append-nil words))
said_more (b ∷ read) a front words (first, rest, is, said, e) says =
    (first, rest ++ words, is, said_more read a rest words said says, ap (λ ws. ws ++ words) e ∙ append_assoc first rest words)
