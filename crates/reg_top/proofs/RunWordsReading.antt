-- Where an argument stands in words, and what is read of arguments.
use Rattle.std.proofs.Common.{◌≡◌, ℕ, zero, suc, ◌+◌, ◌<◌, ◌≤◌, List, [], ◌∷◌, ◌++◌, length, get_or, drop, map, Option, Some, None, inl, inr, refl, sym, ap, ap₂, ◌∙◌, subst, arith}
use Rattle.std.specs.Prelude.{codes, slice_get, All, filter, Bool, false, IsTrue, ◌↔◌}
use Rattle.std.proofs.lemmas.Bool.{false≢true}
use Rattle.std.specs.List.{flat_map, filter_map, cons_option}
use Rattle.std.specs.Option.{option_to_list}
use Rattle.std.proofs.lemmas.List.{append_assoc, append-nil, drop_more, map_push, take_at, length_push, length-append, get_or_push}
use Rattle.std.proofs.lemmas.List.Concat.{flat_map-append}
use Rattle.std.proofs.lemmas.List.Elements.{All-take, All-get_or}
use Rattle.std.proofs.lemmas.Option.{slice_get_within, get_or_from_slice_get}
use Rattle.reg_model.specs.declared.round.TheConstants.{ROUNDS_MOST}
use Rattle.reg_model.specs.declared.sizes.TheConstants.{CALLERS_MOST}
use Rattle.reg_requests.specs.Numbers.{IsNumber}
use Rattle.reg_top.specs.Words.{Argument, Says, IsValue, IsNumberOf, option_text, file_option_text, MarkedRound, set_number, set_numbers, set_file, set_files, is_placed, round_arguments}
use Rattle.reg_top.specs.Words.Argument.{Set, SetFile, Mark, Name}
use Rattle.reg_top.specs.declared.run_words.RunOption.{RunOption}
use Rattle.reg_top.specs.declared.run_words.RunOption.TheVariants.{Entries, Log, Bits}
use Rattle.reg_top.specs.declared.run_words.FileOption.{FileOption}
use Rattle.reg_top.specs.declared.run_words.FileOption.TheVariants.{Load, Save}
use Rattle.reg_top.specs.declared.run_words.MarkSizes.{MarkSizes}
use Rattle.reg_top.specs.inner.RunWords.{StandsAt, NoneStandsAt, ReadSoFar, read_more, read_all, rounds_of, nothing_read, HasPlaces, HasFewNames}
use Rattle.reg_top.proofs.RunWords.{slash_first, head_word, Sets, AreApart, text_first, options_apart, files_apart, kinds_apart}

-- ---- where an argument stands

word_there : (words : List (List ℕ)) (at : ℕ) (word : List ℕ) → slice_get words at ≡ Some word → drop at words ≡ word ∷ drop (at + 1) words
word_there words at word is =
    drop_more words at word (slice_get_within words at word is) ∙ ap (λ w. w ∷ drop (at + 1) words) (get_or_from_slice_get words at word word is)

-- an argument of one word
pub one_stands : (words : List (List ℕ)) (at : ℕ) (word : List ℕ) (argument : Argument) → slice_get words at ≡ Some word → Says argument (word ∷ []) → StandsAt words at argument 1
one_stands words at word argument is says = record {
  first = word ∷ [];
  says = says;
  there = word_there words at word is;
  some = omega arith;
  within = omega (arith, slice_get_within words at word is);
}

-- an argument of two words
pub two_stand : (words : List (List ℕ)) (at : ℕ) (word second : List ℕ) (argument : Argument) → slice_get words at ≡ Some word → slice_get words (at + 1) ≡ Some second
    → Says argument (word ∷ second ∷ []) → StandsAt words at argument 2
two_stand words at word second argument is next says = record {
  first = word ∷ second ∷ [];
  says = says;
  there = word_there words at word is ∙ ap (λ ws. word ∷ ws) (word_there words (at + 1) second next) ∙ ap (λ n. word ∷ second ∷ drop n words) (omega arith);
  some = omega arith;
  within = omega (arith, slice_get_within words (at + 1) second next);
}

-- an option's text at the front of a word, whose value stands in the next
setting_two : (words : List (List ℕ)) (at : ℕ) (text rest value : List ℕ) (argument : Argument) → slice_get words at ≡ Some (text ++ rest) → length rest ≡ 0 → slice_get words (at + 1) ≡ Some value
    → ((first : List (List ℕ)) → Sets text value first → Says argument first) → StandsAt words at argument 2
setting_two words at text [] value argument is none next says = two_stand words at (text ++ []) value argument is next (says ((text ++ []) ∷ value ∷ []) (inl (ap (λ w. w ∷ value ∷ []) (append-nil text))))
setting_two words at text (c ∷ rest) value argument is none next says = absurd (omega (arith, none))

-- or behind it, after an equality sign
setting_one : (words : List (List ℕ)) (at : ℕ) (text rest value : List ℕ) (argument : Argument) → slice_get words at ≡ Some (text ++ rest) → rest ≡ codes "=" ++ value
    → ((first : List (List ℕ)) → Sets text value first → Says argument first) → StandsAt words at argument 1
setting_one words at text rest value argument is e says =
    one_stands words at (text ++ rest) argument is (says ((text ++ rest) ∷ []) (inr (ap (λ r. (text ++ r) ∷ []) e)))

pub option_two : (words : List (List ℕ)) (at number : ℕ) (rest : List ℕ) (option : RunOption) → slice_get words at ≡ Some (option_text option ++ rest) → length rest ≡ 0
    → (text : List ℕ) × IsNumberOf text number × (slice_get words (at + 1) ≡ Some text) → StandsAt words at (Set option number) 2
option_two words at number rest option is none (text, a, next) = setting_two words at (option_text option) rest text (Set option number) is none next (λ first sets. (text, a, sets))

pub option_one : (words : List (List ℕ)) (at number : ℕ) (rest : List ℕ) (option : RunOption) → slice_get words at ≡ Some (option_text option ++ rest)
    → (text : List ℕ) × IsNumberOf text number × (rest ≡ codes "=" ++ text) → StandsAt words at (Set option number) 1
option_one words at number rest option is (text, a, e) = setting_one words at (option_text option) rest text (Set option number) is e (λ first sets. (text, a, sets))

pub file_two : (words : List (List ℕ)) (at : ℕ) (name rest : List ℕ) (option : FileOption) → slice_get words at ≡ Some (file_option_text option ++ rest) → length rest ≡ 0
    → IsValue name × (slice_get words (at + 1) ≡ Some name) → StandsAt words at (SetFile option name) 2
file_two words at name rest option is none (value, next) = setting_two words at (file_option_text option) rest name (SetFile option name) is none next (λ first sets. (value, sets))

pub file_one : (words : List (List ℕ)) (at : ℕ) (name rest : List ℕ) (option : FileOption) → slice_get words at ≡ Some (file_option_text option ++ rest) → IsValue name × (rest ≡ codes "=" ++ name)
    → StandsAt words at (SetFile option name) 1
file_one words at name rest option is (value, e) = setting_one words at (file_option_text option) rest name (SetFile option name) is e (λ first sets. (value, sets))

-- ---- where none stands

front_there : (words : List (List ℕ)) (at : ℕ) (word : List ℕ) (rest : List (List ℕ)) → drop at words ≡ word ∷ rest → slice_get words at ≡ Some word
front_there [] zero word rest e = absurd (omega (arith, ap length e))
front_there [] (suc at) word rest e = absurd (omega (arith, ap length e))
front_there (first ∷ words) zero word rest e = ap Some (ap head_word e)
front_there (first ∷ words) (suc at) word rest e = front_there words at word rest e

value_of : (word : List ℕ) → get_or word 0 0 ≡ 47 → IsValue word
value_of [] e = absurd (omega (arith, e))
value_of (letter ∷ word) e = λ dash. absurd (omega (arith, e, dash))

-- a word that the test refuses is no value
pub no_value : (test : Bool) (word : List ℕ) → (IsTrue test ↔ IsValue word) → test ≡ false → IsValue word → ⊥
no_value test word means is value = false≢true (sym is ∙ means.1 value)

first_there : (words : List (List ℕ)) (at : ℕ) (word : List ℕ) (front : List (List ℕ)) → slice_get words at ≡ Some word → drop at words ≡ front → head_word front ≡ word
first_there words at word front is e = ap head_word (sym e ∙ word_there words at word is)

-- where a word that is no value stands, only an option can stand
module _ (words : List (List ℕ)) (at : ℕ) (word : List ℕ) (is : slice_get words at ≡ Some word) (dashed : IsValue word → ⊥) where
  -- an option with a number, or with a name
  abbrev NoNumber : Type 0
  NoNumber = (option : RunOption) (number : ℕ) (first rest : List (List ℕ)) → Says (Set option number) first → drop at words ≡ first ++ rest → ⊥

  abbrev NoName : Type 0
  NoName = (option : FileOption) (name : List ℕ) (first rest : List (List ℕ)) → Says (SetFile option name) first → drop at words ≡ first ++ rest → ⊥

  none_but_options : NoNumber → NoName → NoneStandsAt words at
  none_but_options no_number no_name (Set option number) first rest says e = no_number option number first rest says e
  none_but_options no_number no_name (SetFile option name) first rest says e = no_name option name first rest says e
  none_but_options no_number no_name (Mark sizes) first rest (mark, a, one) e =
      let same = sym (first_there words at word (first ++ rest) is e) ∙ ap (λ ws. head_word (ws ++ rest)) one in
      dashed (value_of word (ap (λ w. get_or w 0 0) same ∙ slash_first mark sizes a))
  none_but_options no_number no_name (Name name) first rest (a, one) e =
      let same = sym (first_there words at word (first ++ rest) is e) ∙ ap (λ ws. head_word (ws ++ rest)) one in
      dashed (subst IsValue (sym same) a.value)

  -- the word begins with no option
  pub no_option : ((option : RunOption) (rest : List ℕ) → word ≡ option_text option ++ rest → ⊥) → ((option : FileOption) (rest : List ℕ) → word ≡ file_option_text option ++ rest → ⊥)
      → NoneStandsAt words at
  no_option none no_file = none_but_options no_number no_name
    where
      no_number : NoNumber
      no_number option number first rest (text, a, sets) e =
          let begins = text_first (option_text option) text first rest sets in
          none option begins.0 (sym (first_there words at word (first ++ rest) is e) ∙ begins.1)

      no_name : NoName
      no_name option name first rest (a, sets) e =
          let begins = text_first (file_option_text option) name first rest sets in
          no_file option begins.0 (sym (first_there words at word (first ++ rest) is e) ∙ begins.1)

-- what stands behind an option's text
module _ (words : List (List ℕ)) (at : ℕ) (text behind : List ℕ) (is : slice_get words at ≡ Some (text ++ behind)) where
  -- where nothing does, its value is the next word
  next_there : (other value : List ℕ) (first rest : List (List ℕ)) → length behind ≡ 0 → AreApart text other → Sets other value first → drop at words ≡ first ++ rest → slice_get words (at + 1) ≡ Some value
  next_there other value first rest short apart (inl two) e =
      let all : (text ++ behind) ∷ drop (at + 1) words ≡ other ∷ value ∷ rest = sym (word_there words at (text ++ behind) is) ∙ e ∙ ap (λ ws. ws ++ rest) two in
      front_there words (at + 1) value rest (ap (drop 1) all)
  next_there other value first rest short apart (inr one) e =
      let all : (text ++ behind) ∷ drop (at + 1) words ≡ (other ++ (codes "=" ++ value)) ∷ rest = sym (word_there words at (text ++ behind) is) ∙ e ∙ ap (λ ws. ws ++ rest) one in
      let same = apart behind (codes "=" ++ value) (ap head_word all) in
      absurd (omega (arith, ap length same.1, short))

  -- else it stands behind an equality sign
  behind_there : (other value : List ℕ) (first rest : List (List ℕ)) → 1 ≤ length behind → AreApart text other → Sets other value first → drop at words ≡ first ++ rest → behind ≡ codes "=" ++ value
  behind_there other value first rest long apart (inl two) e =
      let all : (text ++ behind) ∷ drop (at + 1) words ≡ other ∷ value ∷ rest = sym (word_there words at (text ++ behind) is) ∙ e ∙ ap (λ ws. ws ++ rest) two in
      let same = apart behind [] (ap head_word all ∙ sym (append-nil other)) in
      absurd (omega (arith, ap length same.1, long))
  behind_there other value first rest long apart (inr one) e =
      let all : (text ++ behind) ∷ drop (at + 1) words ≡ (other ++ (codes "=" ++ value)) ∷ rest = sym (word_there words at (text ++ behind) is) ∙ e ∙ ap (λ ws. ws ++ rest) one in
      let same = apart behind (codes "=" ++ value) (ap head_word all) in same.1

-- the word begins with an option that wants a number
module _ (words : List (List ℕ)) (at : ℕ) (behind : List ℕ) (option : RunOption) (is : slice_get words at ≡ Some (option_text option ++ behind)) where
  no_other : ((other : RunOption) (text : List ℕ) (first rest : List (List ℕ)) → IsNumber text → Sets (option_text other) text first → drop at words ≡ first ++ rest → ⊥) → NoneStandsAt words at
  no_other none =
      none_but_options words at (option_text option ++ behind) is (no_option_value option behind)
      (λ other number first rest says e. none other says.0 first rest (let a = says.1 in a.digits) says.2 e)
      (λ other name first rest says e.
      let begins = text_first (file_option_text other) name first rest says.1 in
      kinds_apart option other behind begins.0 (sym (first_there words at (option_text option ++ behind) (first ++ rest) is e) ∙ begins.1))
    where
      no_option_value : (option : RunOption) (behind : List ℕ) → IsValue (option_text option ++ behind) → ⊥
      no_option_value Entries behind value = value refl
      no_option_value Log behind value = value refl
      no_option_value Bits behind value = value refl

  -- and the next word is none
  pub no_number_after : length behind ≡ 0 → ((text : List ℕ) → IsNumber text → slice_get words (at + 1) ≡ Some text → ⊥) → NoneStandsAt words at
  no_number_after short none =
      no_other (λ other text first rest number sets e. none text number (next_there words at (option_text option) behind is (option_text other) text first rest short (options_apart option other) sets e))

  -- and it goes on with none
  pub no_number_behind : 1 ≤ length behind → ((text : List ℕ) → IsNumber text → behind ≡ codes "=" ++ text → ⊥) → NoneStandsAt words at
  no_number_behind long none =
      no_other (λ other text first rest number sets e. none text number (behind_there words at (option_text option) behind is (option_text other) text first rest long (options_apart option other) sets e))

-- the word begins with an option that wants a name
module _ (words : List (List ℕ)) (at : ℕ) (behind : List ℕ) (option : FileOption) (is : slice_get words at ≡ Some (file_option_text option ++ behind)) where
  no_other_file : ((other : FileOption) (name : List ℕ) (first rest : List (List ℕ)) → IsValue name → Sets (file_option_text other) name first → drop at words ≡ first ++ rest → ⊥) → NoneStandsAt words at
  no_other_file none =
      none_but_options words at (file_option_text option ++ behind) is (no_file_value option behind)
      (λ other number first rest says e.
      let begins = text_first (option_text other) says.0 first rest says.2 in
      kinds_apart other option begins.0 behind (sym begins.1 ∙ first_there words at (file_option_text option ++ behind) (first ++ rest) is e))
      (λ other name first rest says e. none other name first rest says.0 says.1 e)
    where
      no_file_value : (option : FileOption) (behind : List ℕ) → IsValue (file_option_text option ++ behind) → ⊥
      no_file_value Load behind value = value refl
      no_file_value Save behind value = value refl

  pub no_value_after : length behind ≡ 0 → ((value : List ℕ) → IsValue value → slice_get words (at + 1) ≡ Some value → ⊥) → NoneStandsAt words at
  no_value_after short none =
      no_other_file (λ other name first rest value sets e. none name value (next_there words at (file_option_text option) behind is (file_option_text other) name first rest short (files_apart option other) sets e))

  pub no_value_behind : 1 ≤ length behind → ((value : List ℕ) → IsValue value → behind ≡ codes "=" ++ value → ⊥) → NoneStandsAt words at
  no_value_behind long none =
      no_other_file (λ other name first rest value sets e. none name value (behind_there words at (file_option_text option) behind is (file_option_text other) name first rest long (files_apart option other) sets e))

-- ---- what the options set

abbrev numbers_of : RunOption → ReadSoFar → List ℕ
numbers_of Entries read = read.entries
numbers_of Log read = read.log
numbers_of Bits read = read.bits

number_read : (option : RunOption) (read : ReadSoFar) (a : Argument) → numbers_of option (read_more read a) ≡ numbers_of option read ++ option_to_list (set_number option a)
number_read Entries read (Set Entries number) = refl
number_read Entries read (Set Log number) = sym (append-nil read.entries)
number_read Entries read (Set Bits number) = sym (append-nil read.entries)
number_read Entries read (SetFile Load name) = sym (append-nil read.entries)
number_read Entries read (SetFile Save name) = sym (append-nil read.entries)
number_read Entries read (Mark sizes) = sym (append-nil read.entries)
number_read Entries read (Name name) = sym (append-nil read.entries)
number_read Log read (Set Entries number) = sym (append-nil read.log)
number_read Log read (Set Log number) = refl
number_read Log read (Set Bits number) = sym (append-nil read.log)
number_read Log read (SetFile Load name) = sym (append-nil read.log)
number_read Log read (SetFile Save name) = sym (append-nil read.log)
number_read Log read (Mark sizes) = sym (append-nil read.log)
number_read Log read (Name name) = sym (append-nil read.log)
number_read Bits read (Set Entries number) = sym (append-nil read.bits)
number_read Bits read (Set Log number) = sym (append-nil read.bits)
number_read Bits read (Set Bits number) = refl
number_read Bits read (SetFile Load name) = sym (append-nil read.bits)
number_read Bits read (SetFile Save name) = sym (append-nil read.bits)
number_read Bits read (Mark sizes) = sym (append-nil read.bits)
number_read Bits read (Name name) = sym (append-nil read.bits)

abbrev files_of : FileOption → ReadSoFar → List (List ℕ)
files_of Load read = read.load
files_of Save read = read.save

file_read : (option : FileOption) (read : ReadSoFar) (a : Argument) → files_of option (read_more read a) ≡ files_of option read ++ option_to_list (set_file option a)
file_read Load read (Set Entries number) = sym (append-nil read.load)
file_read Load read (Set Log number) = sym (append-nil read.load)
file_read Load read (Set Bits number) = sym (append-nil read.load)
file_read Load read (SetFile Load name) = refl
file_read Load read (SetFile Save name) = sym (append-nil read.load)
file_read Load read (Mark sizes) = sym (append-nil read.load)
file_read Load read (Name name) = sym (append-nil read.load)
file_read Save read (Set Entries number) = sym (append-nil read.save)
file_read Save read (Set Log number) = sym (append-nil read.save)
file_read Save read (Set Bits number) = sym (append-nil read.save)
file_read Save read (SetFile Load name) = sym (append-nil read.save)
file_read Save read (SetFile Save name) = refl
file_read Save read (Mark sizes) = sym (append-nil read.save)
file_read Save read (Name name) = sym (append-nil read.save)

cons_option-is : {X : Type 0} (o : Option X) (xs : List X) → option_to_list o ++ xs ≡ cons_option o xs
cons_option-is None xs = refl
cons_option-is (Some x) xs = refl

-- where an argument adds what it sets, arguments add all that they set
module _ {X : Type 0} (kept : ReadSoFar → List X) (set : Argument → Option X) (one : (read : ReadSoFar) (a : Argument) → kept (read_more read a) ≡ kept read ++ option_to_list (set a)) where
  all_set : (arguments : List Argument) (read : ReadSoFar) → kept (read_all read arguments) ≡ kept read ++ filter_map set arguments
  all_set [] read = sym (append-nil (kept read))
  all_set (a ∷ arguments) read =
      all_set arguments (read_more read a) ∙ ap (λ xs. xs ++ filter_map set arguments) (one read a)
      ∙ append_assoc (kept read) (option_to_list (set a)) (filter_map set arguments)
      ∙ ap (λ xs. kept read ++ xs) (cons_option-is (set a) (filter_map set arguments))

pub entries_read : (arguments : List Argument) → (read_all nothing_read arguments).entries ≡ set_numbers Entries arguments
entries_read arguments = all_set (numbers_of Entries) (set_number Entries) (number_read Entries) arguments nothing_read

pub log_read : (arguments : List Argument) → (read_all nothing_read arguments).log ≡ set_numbers Log arguments
log_read arguments = all_set (numbers_of Log) (set_number Log) (number_read Log) arguments nothing_read

pub bits_read : (arguments : List Argument) → (read_all nothing_read arguments).bits ≡ set_numbers Bits arguments
bits_read arguments = all_set (numbers_of Bits) (set_number Bits) (number_read Bits) arguments nothing_read

pub load_read : (arguments : List Argument) → (read_all nothing_read arguments).load ≡ set_files Load arguments
load_read arguments = all_set (files_of Load) (set_file Load) (file_read Load) arguments nothing_read

pub save_read : (arguments : List Argument) → (read_all nothing_read arguments).save ≡ set_files Save arguments
save_read arguments = all_set (files_of Save) (set_file Save) (file_read Save) arguments nothing_read

-- ---- what is read fits only if it did so before

pub all_front : (P : MarkedRound → Type 0) (front : List MarkedRound) (last : MarkedRound) → All P (front ++ last ∷ []) → All P front
all_front P front last all = subst (All P) (take_at front (last ∷ []) (length front) refl) (All-take P (length front) (front ++ last ∷ []) all)

pub all_last : (P : MarkedRound → Type 0) (front : List MarkedRound) (last : MarkedRound) → All P (front ++ last ∷ []) → P last
all_last P front last all =
    subst P (get_or_push front last last (length front) refl) (All-get_or P (front ++ last ∷ []) (length front) last (omega (arith, length_push front last)) all)

-- the rounds and files
record HasRoundPlaces (read : ReadSoFar) : Type 0 where
  rounds : length read.closed < ROUNDS_MOST
  names : All HasFewNames read.closed
  last : length read.last.names ≤ CALLERS_MOST

rounds_before : (read : ReadSoFar) (a : Argument) → HasPlaces (read_more read a) → HasRoundPlaces read
rounds_before read (Set Entries number) fits = record { rounds = fits.rounds; names = fits.names; last = fits.last }
rounds_before read (Set Log number) fits = record { rounds = fits.rounds; names = fits.names; last = fits.last }
rounds_before read (Set Bits number) fits = record { rounds = fits.rounds; names = fits.names; last = fits.last }
rounds_before read (SetFile Load name) fits = record { rounds = fits.rounds; names = fits.names; last = fits.last }
rounds_before read (SetFile Save name) fits = record { rounds = fits.rounds; names = fits.names; last = fits.last }
rounds_before read (Mark sizes) fits = record {
  rounds = omega (arith, length_push read.closed read.last, fits.rounds);
  names = all_front HasFewNames read.closed read.last fits.names;
  last = all_last HasFewNames read.closed read.last fits.names;
}
rounds_before read (Name name) fits = record { rounds = fits.rounds; names = fits.names; last = omega (arith, length_push read.last.names name, fits.last) }

-- what is set stays so
set_before : {X : Type 0} (before new more : List X) → new ≡ before ++ more → length new ≤ 1 → length before ≤ 1
set_before before new more is few = omega (arith, ap length is, length-append before more, few)

fits_before : (read : ReadSoFar) (a : Argument) → HasPlaces (read_more read a) → HasPlaces read
fits_before read a fits =
    let more = read_more read a in
    let places = rounds_before read a fits in
    record {
      entries = set_before read.entries more.entries (option_to_list (set_number Entries a)) (number_read Entries read a) fits.entries;
      log = set_before read.log more.log (option_to_list (set_number Log a)) (number_read Log read a) fits.log;
      bits = set_before read.bits more.bits (option_to_list (set_number Bits a)) (number_read Bits read a) fits.bits;
      load = set_before read.load more.load (option_to_list (set_file Load a)) (file_read Load read a) fits.load;
      save = set_before read.save more.save (option_to_list (set_file Save a)) (file_read Save read a) fits.save;
      rounds = places.rounds;
      names = places.names;
      last = places.last;
    }

pub fitted_before : (more : List Argument) (read : ReadSoFar) → HasPlaces (read_all read more) → HasPlaces read
fitted_before [] read fits = fits
fitted_before (a ∷ more) read fits = fits_before read a (fitted_before more (read_more read a) fits)

pub read_all-append : (front back : List Argument) (read : ReadSoFar) → read_all read (front ++ back) ≡ read_all (read_all read front) back
read_all-append [] back read = refl
read_all-append (a ∷ front) back read = read_all-append front back (read_more read a)

-- ---- the rounds

abbrev pub placed_of : List MarkedRound → List Argument
placed_of rounds = flat_map round_arguments rounds

round_read : (read : ReadSoFar) (a : Argument) → placed_of (rounds_of (read_more read a)) ≡ placed_of (rounds_of read) ++ filter is_placed (a ∷ [])
round_read read (Set Entries number) = sym (append-nil (placed_of (rounds_of read)))
round_read read (Set Log number) = sym (append-nil (placed_of (rounds_of read)))
round_read read (Set Bits number) = sym (append-nil (placed_of (rounds_of read)))
round_read read (SetFile Load name) = sym (append-nil (placed_of (rounds_of read)))
round_read read (SetFile Save name) = sym (append-nil (placed_of (rounds_of read)))
round_read read (Mark sizes) = flat_map-append round_arguments (read.closed ++ read.last ∷ []) (record { sizes = sizes; names = [] } ∷ [])
round_read read (Name name) =
    flat_map-append round_arguments read.closed (record { sizes = read.last.sizes; names = read.last.names ++ name ∷ [] } ∷ [])
    ∙ ap (λ ps. placed_of read.closed ++ Mark read.last.sizes ∷ ps) (append-nil (map Name (read.last.names ++ name ∷ [])) ∙ map_push Name read.last.names name)
    ∙ sym (append_assoc (placed_of read.closed) (Mark read.last.sizes ∷ map Name read.last.names) (Name name ∷ []))
    ∙ ap (λ ps. ps ++ Name name ∷ []) (sym (flat_map-append round_arguments read.closed (read.last ∷ []) ∙ ap (λ ps. placed_of read.closed ++ Mark read.last.sizes ∷ ps) (append-nil (map Name read.last.names))))

filter_one : (a : Argument) (arguments : List Argument) → filter is_placed (a ∷ []) ++ filter is_placed arguments ≡ filter is_placed (a ∷ arguments)
filter_one (Set option number) arguments = refl
filter_one (SetFile option name) arguments = refl
filter_one (Mark sizes) arguments = refl
filter_one (Name name) arguments = refl

rounds_read : (arguments : List Argument) (read : ReadSoFar) → placed_of (rounds_of (read_all read arguments)) ≡ placed_of (rounds_of read) ++ filter is_placed arguments
rounds_read [] read = sym (append-nil (placed_of (rounds_of read)))
rounds_read (a ∷ arguments) read =
    rounds_read arguments (read_more read a) ∙ ap (λ ps. ps ++ filter is_placed arguments) (round_read read a)
    ∙ append_assoc (placed_of (rounds_of read)) (filter is_placed (a ∷ [])) (filter is_placed arguments)
    ∙ ap (λ ps. placed_of (rounds_of read) ++ ps) (filter_one a arguments)

-- a mark of no sizes, and then the marks and names in order
pub placed_read : (arguments : List Argument) → placed_of (rounds_of (read_all nothing_read arguments)) ≡ Mark None ∷ filter is_placed arguments
placed_read arguments = rounds_read arguments nothing_read

-- ---- marks and names tell the rounds

abbrev pub first_of : List Argument → Argument
first_of [] = Mark None
first_of (a ∷ arguments) = a

abbrev name_of : Argument → List ℕ
name_of (Set option number) = []
name_of (SetFile option name) = []
name_of (Mark sizes) = []
name_of (Name name) = name

abbrev pub sizes_in : Argument → Option MarkSizes
sizes_in (Set option number) = None
sizes_in (SetFile option name) = None
sizes_in (Mark sizes) = sizes
sizes_in (Name name) = None

abbrev pub marked : Option MarkSizes → List (List ℕ) → MarkedRound
marked sizes names = record { sizes = sizes; names = names }

mark_no_name : (sizes : Option MarkSizes) (name : List ℕ) → Mark sizes ≡ Name name → ⊥
mark_no_name sizes name e = cc

names_apart : (names others : List (List ℕ)) (rounds more : List MarkedRound) → map Name names ++ placed_of rounds ≡ map Name others ++ placed_of more → (names ≡ others) × (placed_of rounds ≡ placed_of more)
names_apart [] [] rounds more e = (refl, e)
names_apart [] (name ∷ others) [] more e = absurd (omega (arith, ap length e))
names_apart [] (name ∷ others) (round ∷ rounds) more e = absurd (mark_no_name round.sizes name (ap first_of e))
names_apart (name ∷ names) [] rounds [] e = absurd (omega (arith, ap length e))
names_apart (name ∷ names) [] rounds (round ∷ more) e = absurd (mark_no_name round.sizes name (sym (ap first_of e)))
names_apart (name ∷ names) (other ∷ others) rounds more e =
    let same = names_apart names others rounds more (ap (drop 1) e) in (ap₂ (λ x xs. x ∷ xs) (ap name_of (ap first_of e)) same.0, same.1)

pub one_division : (rounds more : List MarkedRound) → placed_of rounds ≡ placed_of more → rounds ≡ more
one_division [] [] e = refl
one_division [] (round ∷ more) e = absurd (omega (arith, ap length e))
one_division (round ∷ rounds) [] e = absurd (omega (arith, ap length e))
one_division (round ∷ rounds) (other ∷ more) e =
    let same = names_apart round.names other.names rounds more (ap (drop 1) e) in
    ap₂ (λ r rs. r ∷ rs) (ap₂ marked (ap sizes_in (ap first_of e)) same.0) (one_division rounds more same.1)
