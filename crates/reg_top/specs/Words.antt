-- The words of a command line.
use Rattle.std.specs.Prelude.{◌⊎◌, ◌≡◌, ◌≢◌, ℕ, ◌<◌, ◌≤◌, Bool, true, false, List, [], ◌∷◌, ◌++◌, length, map, filter, codes, slice_get, All, Option, Some, None}
use Rattle.std.specs.List.{filter_map, flat_map}
use Rattle.std.specs.Str.Parse.{digits_value}
use Rattle.reg_requests.specs.Numbers.{IsNumber}
use Rattle.reg_model.specs.declared.sizes.TheConstants.{ENTRIES_USUAL, LOG_USUAL, BITS_USUAL}
use Rattle.reg_model.specs.declared.round.TheConstants.{ROUNDS_MOST}
use Rattle.reg_model.specs.Limits.{IsInRange}
use Rattle.reg_make.specs.Workloads.{Work, IsWork}
use Rattle.reg_top.specs.Fetches.{RoundPlan, Plan, Command}
use Rattle.reg_top.specs.Fetches.Command.{Run, Make, Explain, Compose, Instance, Check}
use Rattle.reg_top.specs.declared.words.SideWord.{SideWord}
use Rattle.reg_top.specs.declared.words.SideWord.TheVariants as side
use Rattle.reg_top.specs.declared.run_words.RunOption.{RunOption}
use Rattle.reg_top.specs.declared.run_words.RunOption.TheVariants.{Entries, Log, Bits}
use Rattle.reg_top.specs.declared.run_words.FileOption.{FileOption}
use Rattle.reg_top.specs.declared.run_words.FileOption.TheVariants.{Load, Save}
use Rattle.reg_top.specs.declared.run_words.MarkSizes.{MarkSizes}

-- a word that isn't empty and doesn't begin with `-`
abbrev pub IsValue : List ℕ → Type 0
IsValue [] = ⊥
IsValue (first ∷ word) = first ≢ 45

-- ---- what stands behind `run`

-- an option with its number, an option with the name of an image, a mark between two rounds with the sizes that it sets, if any, or
-- the name of a session's file
pub data Argument : Type 0 where
  Set : RunOption → ℕ → Argument
  SetFile : FileOption → List ℕ → Argument
  Mark : Option MarkSizes → Argument
  Name : List ℕ → Argument

abbrev pub option_text : RunOption → List ℕ
option_text Entries = codes "--entries"
option_text Log = codes "--log"
option_text Bits = codes "--bits"

abbrev pub file_option_text : FileOption → List ℕ
file_option_text Load = codes "--load"
file_option_text Save = codes "--save"

-- the text is that of a number, and this is its value
pub record IsNumberOf (text : List ℕ) (number : ℕ) : Type 0 where
  pub digits : IsNumber text
  pub value : number ≡ digits_value 10 text

-- the word is a mark: `/`, or `/` with entries and log behind it and a colon between them, as in `/4096:65536`
abbrev pub IsMark : List ℕ → Option MarkSizes → Type 0
IsMark word None = word ≡ codes "/"
IsMark word (Some sizes) = (entries log : List ℕ) × IsNumberOf entries sizes.entries × IsNumberOf log sizes.log × (word ≡ codes "/" ++ (entries ++ (codes ":" ++ log)))

-- a word that names a file
pub record IsFileName (word : List ℕ) : Type 0 where
  pub value : IsValue word
  pub no_mark : (sizes : Option MarkSizes) → IsMark word sizes → ⊥

-- these words say the argument; an option and its number or name are two words, or one with `=` between them
abbrev pub Says : Argument → List (List ℕ) → Type 0
Says (Set option number) words = (text : List ℕ) × IsNumberOf text number × ((words ≡ option_text option ∷ text ∷ []) ⊎ (words ≡ (option_text option ++ (codes "=" ++ text)) ∷ []))
Says (SetFile option name) words = IsValue name × ((words ≡ file_option_text option ∷ name ∷ []) ⊎ (words ≡ (file_option_text option ++ (codes "=" ++ name)) ∷ []))
Says (Mark sizes) words = (word : List ℕ) × IsMark word sizes × (words ≡ word ∷ [])
Says (Name name) words = IsFileName name × (words ≡ name ∷ [])

-- the words say these arguments, one after the other
abbrev pub AreSaid : List Argument → List (List ℕ) → Type 0
AreSaid [] words = words ≡ []
AreSaid (argument ∷ arguments) words = (first rest : List (List ℕ)) × Says argument first × AreSaid arguments rest × (words ≡ first ++ rest)

-- ---- options

-- the number that the argument sets for the option
abbrev pub set_number : RunOption → Argument → Option ℕ
set_number Entries (Set Entries number) = Some number
set_number Entries (Set Log number) = None
set_number Entries (Set Bits number) = None
set_number Log (Set Entries number) = None
set_number Log (Set Log number) = Some number
set_number Log (Set Bits number) = None
set_number Bits (Set Entries number) = None
set_number Bits (Set Log number) = None
set_number Bits (Set Bits number) = Some number
set_number option (SetFile other name) = None
set_number option (Mark sizes) = None
set_number option (Name name) = None

-- the numbers that are set for it
abbrev pub set_numbers : RunOption → List Argument → List ℕ
set_numbers option arguments = filter_map (set_number option) arguments

-- the number that is set, or else the usual one
abbrev pub first_or : ℕ → List ℕ → ℕ
first_or usual [] = usual
first_or usual (number ∷ more) = number

-- the name that the argument sets for the option
abbrev pub set_file : FileOption → Argument → Option (List ℕ)
set_file Load (SetFile Load name) = Some name
set_file Load (SetFile Save name) = None
set_file Save (SetFile Load name) = None
set_file Save (SetFile Save name) = Some name
set_file option (Set other number) = None
set_file option (Mark sizes) = None
set_file option (Name name) = None

-- the names that are set for it
abbrev pub set_files : FileOption → List Argument → List (List ℕ)
set_files option arguments = filter_map (set_file option) arguments

-- ---- rounds

-- a round as it is said: the sizes that the mark before it sets, if any, and the names of its files
pub record MarkedRound : Type 0 where
  pub sizes : Option MarkSizes
  pub names : List (List ℕ)

-- a mark or a name
abbrev pub is_placed : Argument → Bool
is_placed (Set option number) = false
is_placed (SetFile option name) = false
is_placed (Mark sizes) = true
is_placed (Name name) = true

-- the mark before a round, and its names
abbrev pub round_arguments : MarkedRound → List Argument
round_arguments round = Mark round.sizes ∷ map Name round.names

-- the sizes of a round: those that the mark before it sets, or those of the round before
abbrev pub sizes_from : MarkSizes → Option MarkSizes → MarkSizes
sizes_from before None = before
sizes_from before (Some sizes) = sizes

abbrev pub round_plan : MarkSizes → ℕ → List (List ℕ) → RoundPlan
round_plan sizes bits names = record { limits = record { entries = sizes.entries; log = sizes.log; bits = bits; callers = length names }; names = names }

-- the rounds, where the round before them had these sizes
abbrev pub planned : MarkSizes → ℕ → List MarkedRound → List RoundPlan
planned before bits [] = []
planned before bits (round ∷ rounds) = round_plan (sizes_from before round.sizes) bits round.names ∷ planned (sizes_from before round.sizes) bits rounds

-- the entries and the log of the first round
abbrev pub first_sizes : List Argument → MarkSizes
first_sizes arguments = record { entries = first_or ENTRIES_USUAL (set_numbers Entries arguments); log = first_or LOG_USUAL (set_numbers Log arguments) }

-- The words behind `run` ask for this: each option stands once at most, anywhere; marks divide the names of the sessions' files
-- into one to eight (`ROUNDS_MOST`) rounds of one to sixteen files; and all sizes are in range.
pub record IsPlanOf (words : List (List ℕ)) (plan : Plan) : Type 0 where
  pub arguments : List Argument
  pub said : AreSaid arguments words
  pub once : (option : RunOption) → length (set_numbers option arguments) ≤ 1
  pub file_once : (option : FileOption) → length (set_files option arguments) ≤ 1
  pub load : plan.load ≡ slice_get (set_files Load arguments) 0
  pub save : plan.save ≡ slice_get (set_files Save arguments) 0
  pub first : List (List ℕ)
  pub next : List MarkedRound
  pub placed : filter is_placed arguments ≡ map Name first ++ flat_map round_arguments next
  pub are : plan.rounds ≡ planned (first_sizes arguments) (first_or BITS_USUAL (set_numbers Bits arguments)) (record { sizes = None; names = first } ∷ next)
  pub few : length plan.rounds ≤ ROUNDS_MOST
  pub in_range : All (λ (p : RoundPlan). IsInRange p.limits) plan.rounds

-- ---- the commands

-- the words are `run` and arguments that ask for this
abbrev pub IsRunForm : List (List ℕ) → Plan → Type 0
IsRunForm words plan = (behind : List (List ℕ)) × (words ≡ codes "run" ∷ behind) × IsPlanOf behind plan

-- the words are `make` and three numbers: a seed, how many units each session declares, and how many sessions there are
pub record IsMakeForm (words : List (List ℕ)) (work : Work) : Type 0 where
  pub seed : List ℕ
  pub each : List ℕ
  pub sessions : List ℕ
  pub words_are : words ≡ codes "make" ∷ seed ∷ each ∷ sessions ∷ []
  pub seed_is : IsNumberOf seed work.seed
  pub each_is : IsNumberOf each work.each
  pub sessions_is : IsNumberOf sessions work.sessions
  pub in_range : IsWork work

-- the words are a command's first word and one value
pub record HasOneValue (words : List (List ℕ)) (first value : List ℕ) : Type 0 where
  pub words_are : words ≡ first ∷ value ∷ []
  pub is_value : IsValue value

-- the words are `compose` and one text or more
pub record HasTexts (words texts : List (List ℕ)) : Type 0 where
  pub words_are : words ≡ codes "compose" ∷ texts
  pub some : 0 < length texts
  pub are_values : All IsValue texts

-- the words are of the form of a command
abbrev pub IsForm : List (List ℕ) → Command → Type 0
IsForm words (Run plan) = IsRunForm words plan
IsForm words (Make work) = IsMakeForm words work
IsForm words (Explain text) = HasOneValue words (codes "explain") text
IsForm words (Compose texts) = HasTexts words texts
IsForm words (Instance name) = HasOneValue words (codes "instance") name
IsForm words (Check name) = HasOneValue words (codes "check") name

-- the first word of each command that serves nothing
abbrev pub side_text : SideWord → List ℕ
side_text side.Explain = codes "explain"
side_text side.Compose = codes "compose"
side_text side.Instance = codes "instance"
side_text side.Check = codes "check"

-- the first word is that of a command that serves nothing
abbrev pub IsSideCommand : List (List ℕ) → Type 0
IsSideCommand words = (which : SideWord) × (slice_get words 0 ≡ Some (side_text which))
