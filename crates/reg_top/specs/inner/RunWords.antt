-- The words behind `run`, as far as they are read.
use Rattle.std.specs.Prelude.{◌≡◌, ℕ, ◌+◌, ◌<◌, ◌≤◌, List, [], ◌∷◌, ◌++◌, All, map, drop, length, slice_get, None}
use Rattle.std.specs.Option.{option_map, option_to_list}
use Rattle.reg_model.specs.declared.round.TheConstants.{ROUNDS_MOST}
use Rattle.reg_model.specs.declared.sizes.TheConstants.{CALLERS_MOST, ENTRIES_USUAL, LOG_USUAL, BITS_USUAL}
use Rattle.reg_top.specs.Fetches.{Plan}
use Rattle.reg_top.specs.Words.{Argument, MarkedRound, Says, AreSaid, planned, first_or}
use Rattle.reg_top.specs.Words.Argument.{Set, SetFile, Mark, Name}
use Rattle.reg_top.specs.declared.run_words.RunOption.TheVariants.{Entries, Log, Bits}
use Rattle.reg_top.specs.declared.run_words.FileOption.TheVariants.{Load, Save}
use Rattle.reg_top.specs.declared.run_words.RoundWords.{RoundWords}
use Rattle.reg_top.specs.declared.run_words.Reading.{Reading}
use Rattle.reg_top.specs.declared.run_words.Said.{Said}
use Rattle.reg_top.specs.declared.run_words.Said.TheVariants as said

-- the argument that is kept so
abbrev pub argument_of : Said → Argument
argument_of (said.Set option number) = Set option number
argument_of (said.SetFile option name) = SetFile option name.now
argument_of (said.Mark sizes) = Mark sizes
argument_of (said.Name name) = Name name.now

-- ---- where an argument stands

-- the argument stands at this place, in so many words
pub record StandsAt (words : List (List ℕ)) (at : ℕ) (argument : Argument) (count : ℕ) : Type 0 where
  pub first : List (List ℕ)
  pub says : Says argument first
  pub there : drop at words ≡ first ++ drop (at + count) words
  pub some : 1 ≤ count
  pub within : at + count ≤ length words

-- no argument does
abbrev pub NoneStandsAt : List (List ℕ) → ℕ → Type 0
NoneStandsAt words at = (argument : Argument) (first rest : List (List ℕ)) → Says argument first → drop at words ≡ first ++ rest → ⊥

-- ---- what is read

-- the numbers and names that are set for each option, the rounds that are closed, and the last, which may get more files
pub record ReadSoFar : Type 0 where
  pub entries : List ℕ
  pub log : List ℕ
  pub bits : List ℕ
  pub load : List (List ℕ)
  pub save : List (List ℕ)
  pub closed : List MarkedRound
  pub last : MarkedRound

abbrev pub nothing_read : ReadSoFar
nothing_read = record { entries = []; log = []; bits = []; load = []; save = []; closed = []; last = record { sizes = None; names = [] } }

-- what is read with one argument more
abbrev pub read_more : ReadSoFar → Argument → ReadSoFar
read_more read (Set Entries number) = record read { entries = read.entries ++ number ∷ [] }
read_more read (Set Log number) = record read { log = read.log ++ number ∷ [] }
read_more read (Set Bits number) = record read { bits = read.bits ++ number ∷ [] }
read_more read (SetFile Load name) = record read { load = read.load ++ name ∷ [] }
read_more read (SetFile Save name) = record read { save = read.save ++ name ∷ [] }
read_more read (Mark sizes) = record read { closed = read.closed ++ read.last ∷ []; last = record { sizes = sizes; names = [] } }
read_more read (Name name) = record read { last = record { sizes = read.last.sizes; names = read.last.names ++ name ∷ [] } }

abbrev pub read_all : ReadSoFar → List Argument → ReadSoFar
read_all read [] = read
read_all read (argument ∷ arguments) = read_all (read_more read argument) arguments

abbrev pub HasFewNames : MarkedRound → Type 0
HasFewNames round = length round.names ≤ CALLERS_MOST

-- no option is set twice, and there are not too many rounds and files
pub record HasPlaces (read : ReadSoFar) : Type 0 where
  pub entries : length read.entries ≤ 1
  pub log : length read.log ≤ 1
  pub bits : length read.bits ≤ 1
  pub load : length read.load ≤ 1
  pub save : length read.save ≤ 1
  pub rounds : length read.closed < ROUNDS_MOST
  pub names : All HasFewNames read.closed
  pub last : length read.last.names ≤ CALLERS_MOST

abbrev pub rounds_of : ReadSoFar → List MarkedRound
rounds_of read = read.closed ++ read.last ∷ []

-- the plan that is asked for
abbrev pub plan_of : ReadSoFar → Plan
plan_of read = record {
  load = slice_get read.load 0;
  save = slice_get read.save 0;
  rounds = planned (record { entries = first_or ENTRIES_USUAL read.entries; log = first_or LOG_USUAL read.log }) (first_or BITS_USUAL read.bits) (rounds_of read);
}

-- ---- how it is kept

abbrev pub round_of : RoundWords → MarkedRound
round_of words = record { sizes = words.sizes; names = map (λ name. name.now) words.names.items }

abbrev pub read_of : Reading → ReadSoFar
read_of reading = record {
  entries = option_to_list reading.entries;
  log = option_to_list reading.log;
  bits = option_to_list reading.bits;
  load = option_to_list (option_map (λ name. name.now) reading.load);
  save = option_to_list (option_map (λ name. name.now) reading.save);
  closed = map round_of reading.closed.items;
  last = round_of reading.last;
}

-- the words behind the first, up to this place, say arguments of which this was read
pub record HasRead (words : List (List ℕ)) (at : ℕ) (read : ReadSoFar) : Type 0 where
  pub arguments : List Argument
  pub front : List (List ℕ)
  pub said : AreSaid arguments front
  pub whole : drop 1 words ≡ front ++ drop at words
  pub is : read ≡ read_all nothing_read arguments
  pub fits : HasPlaces read
