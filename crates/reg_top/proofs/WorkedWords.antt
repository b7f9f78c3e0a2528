-- A worked example: what `run --load old --log=8 a.txt /2:64 b.txt --save=new` asks for.
use Rattle.std.proofs.Common.{ℕ, ◌≤◌, List, [], ◌∷◌, length, Some, inl, inr, refl, lit<, lit≤, arith}
use Rattle.std.specs.Prelude.{codes}
use Rattle.std.proofs.lemmas.List.Elements.{All-nil, All-cons}
use Rattle.reg_model.specs.Limits.{IsInRange}
use Rattle.reg_top.specs.Fetches.{RoundPlan, Plan}
use Rattle.reg_top.specs.Words.{Argument, AreSaid, IsFileName, IsNumberOf, IsRunForm, set_numbers, set_files}
use Rattle.reg_top.specs.Words.Argument.{Set, SetFile, Mark, Name}
use Rattle.reg_top.specs.declared.run_words.RunOption.{RunOption}
use Rattle.reg_top.specs.declared.run_words.RunOption.TheVariants.{Entries, Log, Bits}
use Rattle.reg_top.specs.declared.run_words.FileOption.{FileOption}
use Rattle.reg_top.specs.declared.run_words.FileOption.TheVariants.{Load, Save}
use Rattle.reg_top.proofs.RunWords.{slash_first}

-- the words behind `run`, and what they say
abbrev pub behind : List (List ℕ)
behind = codes "--load" ∷ codes "old" ∷ codes "--log=8" ∷ codes "a.txt" ∷ codes "/2:64" ∷ codes "b.txt" ∷ codes "--save=new" ∷ []

abbrev pub arguments : List Argument
arguments = SetFile Load (codes "old") ∷ Set Log 8 ∷ Name (codes "a.txt") ∷ Mark (Some (record { entries = 2; log = 64 })) ∷ Name (codes "b.txt") ∷ SetFile Save (codes "new") ∷ []

-- the plan: an image to begin with, two rounds of one file each, and an image of what they leave
abbrev pub first_round : RoundPlan
first_round = record { limits = record { entries = 4096; log = 8; bits = 12; callers = 1 }; names = codes "a.txt" ∷ [] }

abbrev pub second_round : RoundPlan
second_round = record { limits = record { entries = 2; log = 64; bits = 12; callers = 1 }; names = codes "b.txt" ∷ [] }

abbrev pub plan : Plan
plan = record { load = Some (codes "old"); save = Some (codes "new"); rounds = first_round ∷ second_round ∷ [] }

-- the numbers
is_eight : IsNumberOf (codes "8") 8
is_eight = record { digits = record { some = lit< tt; few = lit≤ tt; digits = (lit< tt, tt); value = lit< tt }; value = refl }

is_two : IsNumberOf (codes "2") 2
is_two = record { digits = record { some = lit< tt; few = lit≤ tt; digits = (lit< tt, tt); value = lit< tt }; value = refl }

is_sixty_four : IsNumberOf (codes "64") 64
is_sixty_four = record { digits = record { some = lit< tt; few = lit≤ tt; digits = (lit< tt, (lit< tt, tt)); value = lit< tt }; value = refl }

-- the names
is_a : IsFileName (codes "a.txt")
is_a = record { value = λ e. absurd (omega (arith, e)); no_mark = λ sizes mark. absurd (omega (arith, slash_first (codes "a.txt") sizes mark)) }

is_b : IsFileName (codes "b.txt")
is_b = record { value = λ e. absurd (omega (arith, e)); no_mark = λ sizes mark. absurd (omega (arith, slash_first (codes "b.txt") sizes mark)) }

are_said : AreSaid arguments behind
are_said = (
  codes "--load" ∷ codes "old" ∷ [],
  codes "--log=8" ∷ codes "a.txt" ∷ codes "/2:64" ∷ codes "b.txt" ∷ codes "--save=new" ∷ [],
  (λ e. absurd (omega (arith, e)), inl refl),
  (
    codes "--log=8" ∷ [],
    codes "a.txt" ∷ codes "/2:64" ∷ codes "b.txt" ∷ codes "--save=new" ∷ [],
    (codes "8", is_eight, inr refl),
    (
      codes "a.txt" ∷ [],
      codes "/2:64" ∷ codes "b.txt" ∷ codes "--save=new" ∷ [],
      (is_a, refl),
      (
        codes "/2:64" ∷ [],
        codes "b.txt" ∷ codes "--save=new" ∷ [],
        (codes "/2:64", (codes "2", codes "64", is_two, is_sixty_four, refl), refl),
        (codes "b.txt" ∷ [], codes "--save=new" ∷ [], (is_b, refl), (codes "--save=new" ∷ [], [], (λ e. absurd (omega (arith, e)), inr refl), refl, refl), refl),
        refl,
      ),
      refl,
    ),
    refl,
  ),
  refl,
)

set_once : (option : RunOption) → length (set_numbers option arguments) ≤ 1
set_once Entries = lit≤ tt
set_once Log = lit≤ tt
set_once Bits = lit≤ tt

file_set_once : (option : FileOption) → length (set_files option arguments) ≤ 1
file_set_once Load = lit≤ tt
file_set_once Save = lit≤ tt

-- the words are a run of that plan
pub worked_run : IsRunForm (codes "run" ∷ behind) plan
worked_run = (
  behind,
  refl,
  record {
    arguments = arguments;
    said = are_said;
    once = set_once;
    file_once = file_set_once;
    load = refl;
    save = refl;
    first = codes "a.txt" ∷ [];
    next = record { sizes = Some (record { entries = 2; log = 64 }); names = codes "b.txt" ∷ [] } ∷ [];
    placed = refl;
    are = refl;
    few = lit≤ tt;
    in_range = All-cons (λ (p : RoundPlan). IsInRange p.limits) first_round (second_round ∷ [])
        (record { entries = (lit≤ tt, lit≤ tt); log = (lit≤ tt, lit≤ tt); bits = (lit≤ tt, lit≤ tt); callers = (lit≤ tt, lit≤ tt) })
        (All-cons (λ (p : RoundPlan). IsInRange p.limits) second_round []
        (record { entries = (lit≤ tt, lit≤ tt); log = (lit≤ tt, lit≤ tt); bits = (lit≤ tt, lit≤ tt); callers = (lit≤ tt, lit≤ tt) })
        (All-nil (λ (p : RoundPlan). IsInRange p.limits)));
  },
)
