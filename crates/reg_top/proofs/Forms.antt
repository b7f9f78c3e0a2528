-- The words of a command line are of one form at most.
use Rattle.std.proofs.Common.{◌≡◌, ℕ, List, [], ◌∷◌, length, Some, sym, ◌∙◌, ap, arith, ◌<◌, drop, subst}
use Rattle.std.specs.Prelude.{All, slice_get, codes, cond, IfSome, Option, None}
use Rattle.std.specs.Str.{bytes_eq}
use Rattle.std.proofs.lemmas.Option.{same_Some, none-some}
use Rattle.reg_top.specs.declared.words.SideWord.TheVariants as side
use Rattle.std.specs.Str.Parse.{digits_value}
use Rattle.reg_make.specs.Workloads.{Work, IsWork}
use Rattle.reg_top.specs.Fetches.{Plan, Command}
use Rattle.reg_top.specs.Words.{IsNumberOf, IsRunForm, IsMakeForm, HasOneValue, HasTexts, IsValue, IsForm, IsSideCommand}
use Rattle.reg_top.specs.Fetches.Command.{Run, Make, Explain, Compose, Instance, Check}
use Rattle.reg_top.specs.Outcomes.{HasNoForm}
use Rattle.reg_top.proofs.RunWordsPlans.{run_first, one_plan}

-- the first word of a command
abbrev pub first_text : Command → List ℕ
first_text (Run plan) = codes "run"
first_text (Make work) = codes "make"
first_text (Explain text) = codes "explain"
first_text (Compose texts) = codes "compose"
first_text (Instance name) = codes "instance"
first_text (Check name) = codes "check"

pub first_word : (words : List (List ℕ)) (command : Command) → IsForm words command → slice_get words 0 ≡ Some (first_text command)
first_word words (Run plan) form = run_first words plan form
first_word words (Make work) form = ap (λ ws. slice_get ws 0) form.words_are
first_word words (Explain text) form = ap (λ ws. slice_get ws 0) form.words_are
first_word words (Compose texts) form = ap (λ ws. slice_get ws 0) form.words_are
first_word words (Instance name) form = ap (λ ws. slice_get ws 0) form.words_are
first_word words (Check name) form = ap (λ ws. slice_get ws 0) form.words_are

abbrev second : List (List ℕ) → List ℕ
second [] = []
second (x ∷ []) = []
second (x ∷ y ∷ words) = y

-- the workload of the numbers behind the first word
abbrev work_of : List (List ℕ) → Work
work_of [] = record { seed = 0; each = 0; sessions = 0 }
work_of (x ∷ []) = record { seed = 0; each = 0; sessions = 0 }
work_of (x ∷ a ∷ []) = record { seed = 0; each = 0; sessions = 0 }
work_of (x ∷ a ∷ b ∷ []) = record { seed = 0; each = 0; sessions = 0 }
work_of (x ∷ a ∷ b ∷ c ∷ words) = record { seed = digits_value 10 a; each = digits_value 10 b; sessions = digits_value 10 c }

-- the words don't begin with `run`
abbrev IsNoRun : List (List ℕ) → Type 0
IsNoRun words = slice_get words 0 ≡ Some (codes "run") → ⊥

other_first : (words : List (List ℕ)) (word : List ℕ) → slice_get words 0 ≡ Some word → (length word ≡ 3 → ⊥) → IsNoRun words
other_first words word begins long = λ run. long (ap length (same_Some word (codes "run") (sym begins ∙ run)))

-- the command that words which begin with this word may be a form of, if it isn't `run`
abbrev named_by : List ℕ → List (List ℕ) → Command
named_by word words =
    cond (bytes_eq word (codes "make")) (Make (work_of words))
    (cond (bytes_eq word (codes "explain")) (Explain (second words))
    (cond (bytes_eq word (codes "compose")) (Compose (drop 1 words))
    (cond (bytes_eq word (codes "instance")) (Instance (second words)) (Check (second words)))))

abbrev named : List (List ℕ) → Command
named [] = Check []
named (word ∷ words) = named_by word (word ∷ words)

form_named : (words : List (List ℕ)) (command : Command) → IsNoRun words → IsForm words command → command ≡ named words
form_named words (Run plan) other form = absurd (other (run_first words plan form))
form_named words (Make work) other form =
    let is : record { seed = digits_value 10 form.seed; each = digits_value 10 form.each; sessions = digits_value 10 form.sessions } ≡ work =
    λ i. record { seed = sym form.seed_is.value i; each = sym form.each_is.value i; sessions = sym form.sessions_is.value i } in
    sym (ap named form.words_are ∙ ap Make is)
form_named words (Explain text) other form = sym (ap named form.words_are)
form_named words (Compose texts) other form = sym (ap named form.words_are)
form_named words (Instance name) other form = sym (ap named form.words_are)
form_named words (Check name) other form = sym (ap named form.words_are)

side_form : (words : List (List ℕ)) (a b : Command) → IsNoRun words → IsForm words a → IsForm words b → a ≡ b
side_form words a b other h k = form_named words a other h ∙ sym (form_named words b other k)

run_form : (words : List (List ℕ)) (plan : Plan) (b : Command) → IsRunForm words plan → IsForm words b → Run plan ≡ b
run_form words plan (Run other) h k = ap Run (one_plan words plan other h k)
run_form words plan (Make work) h k = absurd (other_first words (codes "make") (first_word words (Make work) k) (λ e. omega (arith, e)) (run_first words plan h))
run_form words plan (Explain text) h k = absurd (other_first words (codes "explain") (first_word words (Explain text) k) (λ e. omega (arith, e)) (run_first words plan h))
run_form words plan (Compose texts) h k = absurd (other_first words (codes "compose") (first_word words (Compose texts) k) (λ e. omega (arith, e)) (run_first words plan h))
run_form words plan (Instance name) h k = absurd (other_first words (codes "instance") (first_word words (Instance name) k) (λ e. omega (arith, e)) (run_first words plan h))
run_form words plan (Check name) h k = absurd (other_first words (codes "check") (first_word words (Check name) k) (λ e. omega (arith, e)) (run_first words plan h))

pub one_form : (words : List (List ℕ)) (a b : Command) → IsForm words a → IsForm words b → a ≡ b
one_form words (Run plan) b h k = run_form words plan b h k
one_form words (Make work) b h k = side_form words (Make work) b (other_first words (codes "make") (first_word words (Make work) h) (λ e. omega (arith, e))) h k
one_form words (Explain text) b h k = side_form words (Explain text) b (other_first words (codes "explain") (first_word words (Explain text) h) (λ e. omega (arith, e))) h k
one_form words (Compose texts) b h k = side_form words (Compose texts) b (other_first words (codes "compose") (first_word words (Compose texts) h) (λ e. omega (arith, e))) h k
one_form words (Instance name) b h k = side_form words (Instance name) b (other_first words (codes "instance") (first_word words (Instance name) h) (λ e. omega (arith, e))) h k
one_form words (Check name) b h k = side_form words (Check name) b (other_first words (codes "check") (first_word words (Check name) h) (λ e. omega (arith, e))) h k

-- ---- words of no form, by their first word

pub no_run : (words : List (List ℕ)) → ((plan : Plan) → IsRunForm words plan → ⊥) → ((work : Work) → IsMakeForm words work → ⊥) → (IsSideCommand words → ⊥) → HasNoForm words
no_run words none unmade other (Run plan) form = none plan form
no_run words none unmade other (Make work) form = unmade work form
no_run words none unmade other (Explain text) form = other (side.Explain, first_word words (Explain text) form)
no_run words none unmade other (Compose texts) form = other (side.Compose, first_word words (Compose texts) form)
no_run words none unmade other (Instance name) form = other (side.Instance, first_word words (Instance name) form)
no_run words none unmade other (Check name) form = other (side.Check, first_word words (Check name) form)

pub begins_with : (words : List (List ℕ)) (word : List ℕ) → slice_get words 0 ≡ Some word → words ≡ word ∷ drop 1 words
begins_with [] word begins = absurd (none-some word begins)
begins_with (first ∷ words) word begins = ap (λ w. w ∷ words) (same_Some first word begins)

-- words that aren't of the form of the command that they name
unformed : (words : List (List ℕ)) (command : Command) → IsNoRun words → named words ≡ command → (IsForm words command → ⊥) → HasNoForm words
unformed words command no_run names none other form = none (subst (IsForm words) (form_named words other no_run form ∙ names) form)

pub no_explain : (words : List (List ℕ)) → slice_get words 0 ≡ Some (codes "explain") → ((text : List ℕ) → HasOneValue words (codes "explain") text → ⊥) → HasNoForm words
no_explain words begins none =
    let text = second (codes "explain" ∷ drop 1 words) in
    unformed words (Explain text) (other_first words (codes "explain") begins (λ e. omega (arith, e))) (ap named (begins_with words (codes "explain") begins)) (none text)

pub no_instance : (words : List (List ℕ)) → slice_get words 0 ≡ Some (codes "instance") → ((name : List ℕ) → HasOneValue words (codes "instance") name → ⊥) → HasNoForm words
no_instance words begins none =
    let name = second (codes "instance" ∷ drop 1 words) in
    unformed words (Instance name) (other_first words (codes "instance") begins (λ e. omega (arith, e))) (ap named (begins_with words (codes "instance") begins)) (none name)

pub no_check : (words : List (List ℕ)) → slice_get words 0 ≡ Some (codes "check") → ((name : List ℕ) → HasOneValue words (codes "check") name → ⊥) → HasNoForm words
no_check words begins none =
    let name = second (codes "check" ∷ drop 1 words) in
    unformed words (Check name) (other_first words (codes "check") begins (λ e. omega (arith, e))) (ap named (begins_with words (codes "check") begins)) (none name)

pub no_compose : (words : List (List ℕ)) → slice_get words 0 ≡ Some (codes "compose") → ((0 < length (drop 1 words)) × All IsValue (drop 1 words) → ⊥) → HasNoForm words
no_compose words begins none =
    unformed words (Compose (drop 1 words)) (other_first words (codes "compose") begins (λ e. omega (arith, e))) (ap named (begins_with words (codes "compose") begins)) (λ form. none (form.some, form.are_values))

-- the words are `compose` and the texts behind it
pub compose_form : (words : List (List ℕ)) → slice_get words 0 ≡ Some (codes "compose") → (0 < length (drop 1 words)) × All IsValue (drop 1 words) → HasTexts words (drop 1 words)
compose_form words begins are = record { words_are = begins_with words (codes "compose") begins; some = are.0; are_values = are.1 }

-- the workload of three numbers behind `make`, if they are those of one
pub make_form : (words : List (List ℕ)) (seed each sessions : List ℕ) (work : Work) (found : Option Work) → words ≡ codes "make" ∷ seed ∷ each ∷ sessions ∷ [] → IsNumberOf seed work.seed
    → IsNumberOf each work.each → IsNumberOf sessions work.sessions → IfSome found (λ is. is ≡ work) → IfSome found IsWork → IfSome found (IsMakeForm words)
make_form words seed each sessions work None are a b c is ranged = tt
make_form words seed each sessions work (Some found) are a b c is ranged =
    subst (IsMakeForm words) (sym is) (record { seed = seed; each = each; sessions = sessions; words_are = are; seed_is = a; each_is = b; sessions_is = c; in_range = subst IsWork is ranged })
