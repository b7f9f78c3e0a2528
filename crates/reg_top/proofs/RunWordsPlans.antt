-- From what is read of arguments to the plan that they ask for.
use Rattle.std.proofs.Common.{◌≡◌, ℕ, suc, ◌+◌, ◌<◌, ◌≤◌, List, [], ◌∷◌, ◌++◌, length, drop, map, Option, Some, None, refl, sym, ap, ◌∙◌, subst, arith}
use Rattle.std.specs.Prelude.{codes, slice_get, All, filter, IfSome, IfNone, unwrap_or}
use Rattle.std.specs.Option.{option_to_list}
use Rattle.std.proofs.lemmas.List.{append_assoc, append-nil, length-drop, length_push, drop_all, map_push}
use Rattle.std.proofs.lemmas.List.Elements.{All-nil, All-cons, All-head, All-tail}
use Rattle.reg_model.specs.declared.sizes.TheConstants.{ENTRIES_USUAL, LOG_USUAL, BITS_USUAL}
use Rattle.reg_model.specs.Limits.{IsInRange}
use Rattle.reg_top.specs.Fetches.{RoundPlan, Plan}
use Rattle.reg_top.specs.Words.{Argument, AreSaid, MarkedRound, IsPlanOf, IsRunForm, planned, round_plan, sizes_from, first_or, set_numbers, set_files, is_placed}
use Rattle.reg_top.specs.Words.Argument.{Mark, Name}
use Rattle.reg_top.specs.declared.run_words.RunOption.{RunOption}
use Rattle.reg_top.specs.declared.run_words.RunOption.TheVariants.{Entries, Log, Bits}
use Rattle.reg_top.specs.declared.run_words.FileOption.{FileOption}
use Rattle.reg_top.specs.declared.run_words.FileOption.TheVariants.{Load, Save}
use Rattle.reg_top.specs.declared.run_words.MarkSizes.{MarkSizes}
use Rattle.reg_top.specs.inner.RunWords.{StandsAt, NoneStandsAt, ReadSoFar, HasRead, read_more, read_all, rounds_of, nothing_read, HasPlaces, HasFewNames, plan_of, read_of, round_of}
use Rattle.reg_top.specs.declared.run_words.Reading.{Reading}
use Rattle.reg_top.specs.declared.run_words.RoundWords.{RoundWords}
use Rattle.reg_top.proofs.RunWords.{said_front, said_more, same_arguments}
use Rattle.reg_top.proofs.RunWordsReading.{placed_of, placed_read, one_division, marked, first_of, sizes_in, entries_read, log_read, bits_read, load_read, save_read, fitted_before, read_all-append, all_front, all_last}

-- all sizes are in range
abbrev pub AreInRange : List RoundPlan → Type 0
AreInRange rounds = All (λ (p : RoundPlan). IsInRange p.limits) rounds

-- ---- the rounds

rounds_are : (arguments : List Argument) (first : List (List ℕ)) (next : List MarkedRound) → filter is_placed arguments ≡ map Name first ++ placed_of next
    → rounds_of (read_all nothing_read arguments) ≡ marked None first ∷ next
rounds_are arguments first next placed =
    one_division (rounds_of (read_all nothing_read arguments)) (marked None first ∷ next) (placed_read arguments ∙ ap (λ ps. Mark None ∷ ps) placed)

-- rounds of which the first has no mark
record Divides (rounds : List MarkedRound) (placed : List Argument) : Type 0 where
  first : List (List ℕ)
  next : List MarkedRound
  rounds_are : rounds ≡ marked None first ∷ next
  placed_are : placed ≡ map Name first ++ placed_of next

divided : (rounds : List MarkedRound) (placed : List Argument) → placed_of rounds ≡ Mark None ∷ placed → Divides rounds placed
divided [] placed e = absurd (omega (arith, ap length e))
divided (round ∷ next) placed e = record {
  first = round.names;
  next = next;
  rounds_are = ap (λ s. marked s round.names ∷ next) (ap sizes_in (ap first_of e));
  placed_are = sym (ap (drop 1) e);
}

pub length_planned : (before : MarkSizes) (bits : ℕ) (rounds : List MarkedRound) → length (planned before bits rounds) ≡ length rounds
length_planned before bits [] = refl
length_planned before bits (round ∷ rounds) = ap suc (length_planned (sizes_from before round.sizes) bits rounds)

few_names : (before : MarkSizes) (bits : ℕ) (rounds : List MarkedRound) → AreInRange (planned before bits rounds) → All HasFewNames rounds
few_names before bits [] are = All-nil HasFewNames
few_names before bits (round ∷ rounds) are =
    let sizes = sizes_from before round.sizes in
    let here = All-head (λ (p : RoundPlan). IsInRange p.limits) (round_plan sizes bits round.names) (planned sizes bits rounds) are in
    let rest = All-tail (λ (p : RoundPlan). IsInRange p.limits) (round_plan sizes bits round.names) (planned sizes bits rounds) are in
    All-cons HasFewNames round rounds (let few = here.callers in few.1) (few_names sizes bits rounds rest)

-- ---- from arguments to the plan, and back

abbrev rounds_from : List ℕ → List ℕ → List ℕ → List MarkedRound → List RoundPlan
rounds_from entries log bits rounds = planned (record { entries = first_or ENTRIES_USUAL entries; log = first_or LOG_USUAL log }) (first_or BITS_USUAL bits) rounds

-- the rounds from what is read, and from what its arguments set
rounds_agree : (arguments : List Argument) (rounds : List MarkedRound) → rounds_of (read_all nothing_read arguments) ≡ rounds
    → rounds_from (set_numbers Entries arguments) (set_numbers Log arguments) (set_numbers Bits arguments) rounds ≡ (plan_of (read_all nothing_read arguments)).rounds
rounds_agree arguments rounds are =
    let read = read_all nothing_read arguments in
    ap (λ es. rounds_from es (set_numbers Log arguments) (set_numbers Bits arguments) rounds) (sym (entries_read arguments))
    ∙ ap (λ ls. rounds_from read.entries ls (set_numbers Bits arguments) rounds) (sym (log_read arguments))
    ∙ ap (λ bs. rounds_from read.entries read.log bs rounds) (sym (bits_read arguments))
    ∙ ap (λ rs. rounds_from read.entries read.log read.bits rs) (sym are)

same_plan : (plan : Plan) (load save : Option (List ℕ)) (rounds : List RoundPlan) → plan.load ≡ load → plan.save ≡ save → plan.rounds ≡ rounds → plan ≡ record { load = load; save = save; rounds = rounds }
same_plan plan load save rounds loads saves are =
    ap (λ l. plan_with l plan.save plan.rounds) loads ∙ ap (λ s. plan_with load s plan.rounds) saves ∙ ap (λ rs. plan_with load save rs) are
  where
    plan_with : Option (List ℕ) → Option (List ℕ) → List RoundPlan → Plan
    plan_with load save rounds = record { load = load; save = save; rounds = rounds }

pub plan_is : (words : List (List ℕ)) (plan : Plan) (is : IsPlanOf words plan) → plan ≡ plan_of (read_all nothing_read is.arguments)
plan_is words plan is =
    let asked = plan_of (read_all nothing_read is.arguments) in
    same_plan plan asked.load asked.save asked.rounds (is.load ∙ ap (λ names. slice_get names 0) (sym (load_read is.arguments))) (is.save ∙ ap (λ names. slice_get names 0) (sym (save_read is.arguments)))
    (is.are ∙ rounds_agree is.arguments (marked None is.first ∷ is.next) (rounds_are is.arguments is.first is.next is.placed))

pub plan_fits : (words : List (List ℕ)) (plan : Plan) (is : IsPlanOf words plan) → HasPlaces (read_all nothing_read is.arguments)
plan_fits words plan is =
    let read = read_all nothing_read is.arguments in
    let sizes : MarkSizes = record { entries = first_or ENTRIES_USUAL read.entries; log = first_or LOG_USUAL read.log } in
    let asked : plan.rounds ≡ (plan_of read).rounds = ap (λ (p : Plan). p.rounds) (plan_is words plan is) in
    let few = few_names sizes (first_or BITS_USUAL read.bits) (rounds_of read) (subst AreInRange asked is.in_range) in
    record {
      entries = omega (arith, ap length (entries_read is.arguments), is.once Entries);
      log = omega (arith, ap length (log_read is.arguments), is.once Log);
      bits = omega (arith, ap length (bits_read is.arguments), is.once Bits);
      load = omega (arith, ap length (load_read is.arguments), is.file_once Load);
      save = omega (arith, ap length (save_read is.arguments), is.file_once Save);
      rounds = omega (arith, length_push read.closed read.last, length_planned sizes (first_or BITS_USUAL read.bits) (rounds_of read), ap length asked, is.few);
      names = all_front HasFewNames read.closed read.last few;
      last = all_last HasFewNames read.closed read.last few;
    }

pub is_asked : (arguments : List Argument) (words : List (List ℕ)) → AreSaid arguments words → HasPlaces (read_all nothing_read arguments) → AreInRange (plan_of (read_all nothing_read arguments)).rounds
    → IsPlanOf words (plan_of (read_all nothing_read arguments))
is_asked arguments words said fits in_range =
    let read = read_all nothing_read arguments in
    let sizes : MarkSizes = record { entries = first_or ENTRIES_USUAL read.entries; log = first_or LOG_USUAL read.log } in
    let parts = divided (rounds_of read) (filter is_placed arguments) (placed_read arguments) in
    record {
      arguments = arguments;
      said = said;
      once = once_set arguments fits;
      file_once = file_once_set arguments fits;
      load = ap (λ names. slice_get names 0) (load_read arguments);
      save = ap (λ names. slice_get names 0) (save_read arguments);
      first = parts.first;
      next = parts.next;
      placed = parts.placed_are;
      are = sym (rounds_agree arguments (marked None parts.first ∷ parts.next) parts.rounds_are);
      few = omega (arith, length_push read.closed read.last, length_planned sizes (first_or BITS_USUAL read.bits) (rounds_of read), fits.rounds);
      in_range = in_range;
    }
  where
    once_set : (arguments : List Argument) → HasPlaces (read_all nothing_read arguments) → (option : RunOption) → length (set_numbers option arguments) ≤ 1
    once_set arguments fits Entries = omega (arith, ap length (entries_read arguments), fits.entries)
    once_set arguments fits Log = omega (arith, ap length (log_read arguments), fits.log)
    once_set arguments fits Bits = omega (arith, ap length (bits_read arguments), fits.bits)

    file_once_set : (arguments : List Argument) → HasPlaces (read_all nothing_read arguments) → (option : FileOption) → length (set_files option arguments) ≤ 1
    file_once_set arguments fits Load = omega (arith, ap length (load_read arguments), fits.load)
    file_once_set arguments fits Save = omega (arith, ap length (save_read arguments), fits.save)

-- ---- the words read one argument after the other

whole_more : (words : List (List ℕ)) (at : ℕ) (read : ReadSoFar) (a : Argument) (count : ℕ) (has : HasRead words at read) (stands : StandsAt words at a count)
    → drop 1 words ≡ (has.front ++ stands.first) ++ drop (at + count) words
whole_more words at read a count has stands =
    has.whole ∙ ap (λ ws. has.front ++ ws) stands.there ∙ sym (append_assoc has.front stands.first (drop (at + count) words))

pub argument_read : (words : List (List ℕ)) (at : ℕ) (read new : ReadSoFar) (a : Argument) (count : ℕ) → HasRead words at read → StandsAt words at a count → new ≡ read_more read a → HasPlaces new
    → HasRead words (at + count) new
argument_read words at read new a count has stands is fits = record {
  arguments = has.arguments ++ a ∷ [];
  front = has.front ++ stands.first;
  said = said_more has.arguments a has.front stands.first has.said stands.says;
  whole = whole_more words at read a count has stands;
  is = is ∙ ap (λ r. read_more r a) has.is ∙ sym (read_all-append has.arguments (a ∷ []) nothing_read);
  fits = fits;
}

-- ---- where no plan is asked for

-- no argument stands where one should
pub none_stands : (words : List (List ℕ)) (at : ℕ) (read : ReadSoFar) → HasRead words at read → at < length words → NoneStandsAt words at → (plan : Plan) → IsPlanOf (drop 1 words) plan → ⊥
none_stands words at read has low none plan is =
    let left = said_front has.arguments is.arguments has.front (drop at words) (drop 1 words) has.said has.whole is.said in
    none_said left.0 left.2 (omega (arith, length-drop at words))
  where
    none_said : (more : List Argument) → AreSaid more (drop at words) → 0 < length (drop at words) → ⊥
    none_said [] said long = omega (arith, ap length said, long)
    none_said (a ∷ more) said long = none a said.0 said.1 said.2 said.4

-- an argument doesn't fit
pub argument_refused : (words : List (List ℕ)) (at : ℕ) (read : ReadSoFar) (a : Argument) (count : ℕ) → HasRead words at read → StandsAt words at a count → (HasPlaces (read_more read a) → ⊥)
    → (plan : Plan) → IsPlanOf (drop 1 words) plan → ⊥
argument_refused words at read a count has stands refused plan is =
    let arguments = has.arguments ++ a ∷ [] in
    let said = said_more has.arguments a has.front stands.first has.said stands.says in
    let left = said_front arguments is.arguments (has.front ++ stands.first) (drop (at + count) words) (drop 1 words) said (whole_more words at read a count has stands) is.said in
    let fits : HasPlaces (read_all (read_all nothing_read arguments) left.0) =
    subst HasPlaces (ap (λ arguments. read_all nothing_read arguments) left.1 ∙ read_all-append arguments left.0 nothing_read) (plan_fits (drop 1 words) plan is) in
    let before : HasPlaces (read_all nothing_read arguments) = fitted_before left.0 (read_all nothing_read arguments) fits in
    refused (subst HasPlaces (read_all-append has.arguments (a ∷ []) nothing_read ∙ ap (λ r. read_more r a) (sym has.is)) before)

said_whole : (words : List (List ℕ)) (read : ReadSoFar) (has : HasRead words (length words) read) → AreSaid has.arguments (drop 1 words)
said_whole words read has =
    subst (AreSaid has.arguments) (sym (has.whole ∙ ap (λ ws. has.front ++ ws) (drop_all (length words) words (omega arith)) ∙ append-nil has.front)) has.said

-- the sizes are out of range
pub out_of_range : (words : List (List ℕ)) (read : ReadSoFar) → HasRead words (length words) read → (AreInRange (plan_of read).rounds → ⊥) → (plan : Plan) → IsPlanOf (drop 1 words) plan → ⊥
out_of_range words read has out plan is =
    let same = same_arguments has.arguments is.arguments (drop 1 words) (said_whole words read has) is.said in
    out (subst (λ (p : Plan). AreInRange p.rounds) (plan_is (drop 1 words) plan is ∙ ap (λ arguments. plan_of (read_all nothing_read arguments)) same ∙ ap plan_of (sym has.is)) is.in_range)

-- ---- the form of a run

pub behind_run : (words : List (List ℕ)) (plan : Plan) → IsRunForm words plan → IsPlanOf (drop 1 words) plan
behind_run words plan form = subst (λ ws. IsPlanOf ws plan) (sym (ap (drop 1) form.1)) form.2

pub run_first : (words : List (List ℕ)) (plan : Plan) → IsRunForm words plan → slice_get words 0 ≡ Some (codes "run")
run_first words plan form = ap (λ ws. slice_get ws 0) form.1

-- the words ask for the plan that was read
pub is_run : (words : List (List ℕ)) (read : ReadSoFar) → words ≡ codes "run" ∷ drop 1 words → HasRead words (length words) read → AreInRange (plan_of read).rounds → IsRunForm words (plan_of read)
is_run words read begins has in_range =
    let arguments = has.arguments in
    let asked = is_asked arguments (drop 1 words) (said_whole words read has) (subst HasPlaces has.is has.fits) (subst (λ r. AreInRange (plan_of r).rounds) has.is in_range) in
    (drop 1 words, begins, subst (λ r. IsPlanOf (drop 1 words) (plan_of r)) (sym has.is) asked)

-- words ask for one plan
pub one_plan : (words : List (List ℕ)) (plan other : Plan) → IsRunForm words plan → IsRunForm words other → plan ≡ other
one_plan words plan other form again =
    let is = behind_run words plan form in
    let are = behind_run words other again in
    let same = same_arguments are.arguments is.arguments (drop 1 words) are.said is.said in
    plan_is (drop 1 words) plan is ∙ ap (λ arguments. plan_of (read_all nothing_read arguments)) same ∙ sym (plan_is (drop 1 words) other are)

-- the same of an answer
pub some_run : (words : List (List ℕ)) (read : ReadSoFar) (answer : Option Plan) → words ≡ codes "run" ∷ drop 1 words → HasRead words (length words) read
    → IfSome answer (λ plan. plan ≡ plan_of read) → IfSome answer (λ (plan : Plan). AreInRange plan.rounds) → IfSome answer (IsRunForm words)
some_run words read None begins has is in_range = is
some_run words read (Some plan) begins has is in_range = subst (IsRunForm words) (sym is) (is_run words read begins has (subst (λ (p : Plan). AreInRange p.rounds) is in_range))

pub none_run : (words : List (List ℕ)) (read : ReadSoFar) (answer : Option Plan) → HasRead words (length words) read → IfNone answer (AreInRange (plan_of read).rounds → ⊥)
    → IfNone answer ((plan : Plan) → IsRunForm words plan → ⊥)
none_run words read None has out = λ plan form. out_of_range words read has out plan (behind_run words plan form)
none_run words read (Some plan) has out = out

-- ---- the plan of what is kept

first_kept : (number : Option ℕ) (usual : ℕ) → unwrap_or number usual ≡ first_or usual (option_to_list number)
first_kept None usual = refl
first_kept (Some number) usual = refl

pub rounds_of_kept : (reading : Reading) (entries log bits : ℕ) (rounds : List RoundWords) → entries ≡ unwrap_or reading.entries ENTRIES_USUAL → log ≡ unwrap_or reading.log LOG_USUAL
    → bits ≡ unwrap_or reading.bits BITS_USUAL → rounds ≡ reading.closed.items ++ reading.last ∷ []
    → planned (record { entries = entries; log = log }) bits (map round_of rounds) ≡ (plan_of (read_of reading)).rounds
rounds_of_kept reading entries log bits rounds are_entries is_log are_bits are =
    ap (λ rs. planned (record { entries = entries; log = log }) bits rs) (ap (map round_of) are ∙ map_push round_of reading.closed.items reading.last)
    ∙ ap (λ n. planned (record { entries = n; log = log }) bits (rounds_of (read_of reading))) (are_entries ∙ first_kept reading.entries ENTRIES_USUAL)
    ∙ ap (λ n. planned (record { entries = first_or ENTRIES_USUAL (option_to_list reading.entries); log = n }) bits (rounds_of (read_of reading))) (is_log ∙ first_kept reading.log LOG_USUAL)
    ∙ ap (λ n. planned (record { entries = first_or ENTRIES_USUAL (option_to_list reading.entries); log = first_or LOG_USUAL (option_to_list reading.log) }) n (rounds_of (read_of reading))) (are_bits ∙ first_kept reading.bits BITS_USUAL)
