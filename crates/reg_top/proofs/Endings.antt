-- From the end of a command to its status, and to what each status says.
use Rattle.std.proofs.Common.{ap, ◌≡◌, ◌≢◌, ◌⊎◌, inl, inr, ℕ, ◌<◌, ◌≤◌, suc, List, [], ◌∷◌, ◌++◌, length, Option, Some, None, refl, sym, ◌∙◌, subst, arith, lit<, lit≤}
use Rattle.std.specs.Prelude.{IfSome, IsSomeAnd, Contains, All}
use Rattle.std.proofs.lemmas.Option.{none-some}
use Rattle.reg_model.specs.Runs.{RoundRows}
use Rattle.reg_model.proofs.RowSteps.{IfSome-weaker}
use Rattle.reg_session.specs.declared.shelf.FetchFault.{FetchFault}
use Rattle.reg_session.specs.declared.shelf.FetchFault.TheVariants as faults
use Rattle.reg_session.specs.Faults.{Quiet, Rose}
use Rattle.reg_session.specs.Files.{Files}
use Rattle.reg_session.specs.Outside.{ShelfView, Outside, Tells}
use Rattle.reg_top.specs.declared.ending.Ending.{Ending}
use Rattle.reg_top.specs.declared.ending.Ending.TheVariants as endings
use Rattle.reg_top.specs.declared.refusal.Refusal.{Refusal}
use Rattle.reg_top.specs.declared.refusal.Refusal.TheVariants as refusals
use Rattle.reg_top.specs.Fetches.{Command, Fetch, fetches, saved_name}
use Rattle.reg_top.specs.Fetches.Command.{Run, Make, Explain, Compose, Instance, Check}
use Rattle.reg_top.specs.commands.Compose.{RefusesTexts}
use Rattle.reg_top.specs.commands.Check.{RefusesHistory}
use Rattle.reg_top.specs.Dispatch.{Refuses}
use Rattle.reg_top.specs.Words.{IsForm}
use Rattle.reg_top.specs.FaultLines.{words_line, missing_line, long_line, memory_line, refusal_number}
use Rattle.reg_top.specs.Outcomes.{GivenBy, IsHeld, IsMissing, IsTooLong, IsReached, IsGiven, HasNoForm, IsFileStatus, EndsWith, statuses, IsServedStatus, IsOutcome}
use Rattle.reg_top.specs.inner.Endings.{ending_number, unread_number, UnreadWhy, Untouched, GivesNone, EndsDone, EndsUnwritten, EndsUnsaved, EndsRefused, Ends, IsServedEnding}
use Rattle.reg_top.proofs.Forms.{one_form}
use Rattle.reg_top.proofs.RoundRefusals.{one_run_number}

-- ---- counts of faults

not_quiet : (before now : ℕ) → Quiet before now → Rose before now → ⊥
not_quiet before now quiet rose = grind (arith, quiet.0, quiet.1, rose)

not_less : (before now : ℕ) → now ≡ before → before < now → ⊥
not_less before now same less = omega (arith, same, less)

-- ---- lists of fetches

head_of : (P : Fetch → Type 0) (x : Fetch) (xs : List Fetch) → All P (x ∷ xs) → P x
head_of P x xs all = all 0 x (omega arith)

tail_of : (P : Fetch → Type 0) (x : Fetch) (xs : List Fetch) → All P (x ∷ xs) → All P xs
tail_of P x xs all k d within = all (suc k) d (omega (arith, within))

held_at : (P : Fetch → Type 0) (xs : List Fetch) (a : Fetch) (rest : List Fetch) → All P (xs ++ a ∷ rest) → P a
held_at P [] a rest all = head_of P a rest all
held_at P (x ∷ xs) a rest all = held_at P xs a rest (tail_of P x (xs ++ a ∷ rest) all)

-- behind two fronts in which P holds stand the same first element without it
first_without : (P : Fetch → Type 0) (xs ys : List Fetch) (a b : Fetch) (rest more : List Fetch) → xs ++ a ∷ rest ≡ ys ++ b ∷ more
    → All P xs → All P ys → (P a → ⊥) → (P b → ⊥) → a ≡ b
first_without P [] [] a b rest more same f g na nb = cc
first_without P [] (y ∷ ys) a b rest more same f g na nb = let is : y ≡ a = cc in absurd (na (subst P is (head_of P y ys g)))
first_without P (x ∷ xs) [] a b rest more same f g na nb = let is : x ≡ b = cc in absurd (nb (subst P is (head_of P x xs f)))
first_without P (x ∷ xs) (y ∷ ys) a b rest more same f g na nb =
    let tails : xs ++ a ∷ rest ≡ ys ++ b ∷ more = cc in
    first_without P xs ys a b rest more tails (tail_of P x xs f) (tail_of P y ys g) na nb

-- ---- files that are there, and others

missing_unheld : (files : Files) (fetch : Fetch) → IsMissing files fetch → IsHeld files fetch → ⊥
missing_unheld files fetch missing held = subst (λ h. IsSomeAnd h (λ bytes. length bytes ≤ fetch.limit)) missing held

within_and_beyond : (held : Option (List ℕ)) (limit : ℕ) → IsSomeAnd held (λ bytes. limit < length bytes) → IsSomeAnd held (λ bytes. length bytes ≤ limit) → ⊥
within_and_beyond None limit long within = long
within_and_beyond (Some bytes) limit long within = omega (arith, long, within)

long_unheld : (files : Files) (fetch : Fetch) → IsTooLong files fetch → IsHeld files fetch → ⊥
long_unheld files fetch long held = within_and_beyond (files fetch.name) fetch.limit long held

not_both : (files : Files) (fetch : Fetch) → IsMissing files fetch → IsTooLong files fetch → ⊥
not_both files fetch missing long = subst (λ h. IsSomeAnd h (λ bytes. fetch.limit < length bytes)) missing long

reached_held : (command : Command) (files : Files) (fetch : Fetch) → IsReached command files fetch → All (IsHeld files) (fetches command) → IsHeld files fetch
reached_held command files fetch reached all = held_at (IsHeld files) reached.before fetch reached.rest (subst (All (IsHeld files)) reached.all all)

-- one file is the first that gives no bytes
one_reached : (command : Command) (files : Files) (a b : Fetch) → IsReached command files a → IsReached command files b
    → (IsHeld files a → ⊥) → (IsHeld files b → ⊥) → a ≡ b
one_reached command files a b ra rb na nb =
    first_without (IsHeld files) ra.before rb.before a b ra.rest rb.rest (sym ra.all ∙ rb.all) ra.held rb.held na nb

-- ---- what is given

pub always : {X : Type 0} (P : X → Type 0) → ((x : X) → P x) → (o : Option X) → IfSome o P
always P f None = tt
always P f (Some x) = f x

given_weaker : (list : List Fetch) (files : Option Files) (P Q : Files → Type 0) → ((map : Files) → P map → Q map) → GivenBy list files P → GivenBy list files Q
given_weaker [] files P Q f given = f (λ name. None) given
given_weaker (x ∷ list) files P Q f given = IfSome-weaker P Q f files given

-- P and Q of the same files, which are known
given_both : (list : List Fetch) (files : Option Files) (P Q R : Files → Type 0) (X : Type 0) → (list ≡ []) ⊎ IsSomeAnd files R
    → GivenBy list files P → GivenBy list files Q → ((map : Files) → P map → Q map → X) → X
given_both [] files P Q R X known p q both = both (λ name. None) p q
given_both (x ∷ list) None P Q R X known p q both = absurd (elim known [ inl none ↦ cc | inr some ↦ some ])
given_both (x ∷ list) (Some map) P Q R X known p q both = both map p q

known_of : (command : Command) (before after : Outside) → IsGiven command before after
    → (fetches command ≡ []) ⊎ IsSomeAnd before.shelf.files (λ files. All (IsHeld files) (fetches command))
known_of command before after given = elim given [ inl none ↦ inl none | inr both ↦ inr both.0 ]

some_with : (files : Option Files) (P Q : Files → Type 0) → IsSomeAnd files P → IfSome files Q → ((map : Files) → P map → Q map → ⊥) → ⊥
some_with None P Q p q clash = p
some_with (Some map) P Q p q clash = clash map p q

none_in : (list : List Fetch) (fetch : Fetch) → list ≡ [] → Contains list fetch → ⊥
none_in list fetch none one = let short : length list ≡ 0 = subst (λ l. length list ≡ length l) none refl in omega (arith, short, one.1)

-- a file that gave no bytes, and why, where what the command is given is known
unread_given : (command : Command) (before after : Outside) (fault : FetchFault) → GivesNone command before after fault
    → ((files : Files) (fetch : Fetch) → UnreadWhy fault files fetch → IsHeld files fetch → ⊥) → IsGiven command before after → ⊥
unread_given command before after fault none unheld given =
    elim given [
      | inl nothing ↦ none_in (fetches command) none.fetch nothing none.one
      | inr both ↦ some_with before.shelf.files (λ files. All (IsHeld files) (fetches command)) (λ files. IsReached command files none.fetch × UnreadWhy fault files none.fetch)
          both.0 none.why (λ files all why. unheld files none.fetch why.1 (reached_held command files none.fetch why.0 all))
    ]

-- ---- statuses of files

-- a number that isn't the status, where all files are there and in limit
other_number : (command : Command) (before after : Outside) (status number : ℕ) (Fault : Files → Fetch → Type 0) (line_of : List ℕ → List ℕ)
    → (status ≡ number → ⊥) → ((files : Files) (fetch : Fetch) → Fault files fetch → IsHeld files fetch → ⊥)
    → IfSome before.shelf.files (λ files. All (IsHeld files) (fetches command)) → IsFileStatus command before after status number Fault line_of
other_number command before after status number Fault line_of other unheld held = record {
  only = λ is. absurd (other is);
  where_it_holds = λ _. IfSome-weaker _ _ (λ files all fetch reached fault. absurd (unheld files fetch fault (reached_held command files fetch reached all))) before.shelf.files held;
}

-- the same where memory is wanting
short_number : (command : Command) (before after : Outside) (number : ℕ) (Fault : Files → Fetch → Type 0) (line_of : List ℕ → List ℕ)
    → (6 ≡ number → ⊥) → IsFileStatus command before after 6 number Fault line_of
short_number command before after number Fault line_of other = record {
  only = λ is. absurd (other is);
  where_it_holds = λ _. always _ (λ files fetch reached fault. inr refl) before.shelf.files;
}

-- where another file gave no bytes first, for another cause
late_number : (command : Command) (before after : Outside) (first : FetchFault) (status number : ℕ) (Fault : Files → Fetch → Type 0) (line_of : List ℕ → List ℕ)
    → (status ≡ number → ⊥) → GivesNone command before after first
    → ((files : Files) (fetch : Fetch) → UnreadWhy first files fetch → IsHeld files fetch → ⊥)
    → ((files : Files) (fetch : Fetch) → Fault files fetch → IsHeld files fetch → ⊥)
    → ((files : Files) (fetch : Fetch) → UnreadWhy first files fetch → Fault files fetch → ⊥)
    → IsFileStatus command before after status number Fault line_of
late_number command before after first status number Fault line_of other none unheld unheld_too apart = record {
  only = λ is. absurd (other is);
  where_it_holds = λ _. IfSome-weaker _ _ (λ files why fetch reached fault. absurd (
      let same = one_reached command files none.fetch fetch why.0 reached (unheld files none.fetch why.1) (unheld_too files fetch fault) in
      apart files fetch (subst (UnreadWhy first files) same why.1) fault
      )) before.shelf.files none.why;
}

-- ---- each end

done_with : (command : Command) (before after : Outside) (served : List RoundRows) → EndsDone command before after served → EndsWith command before after served 0
done_with command before after served ends = record {
  done = λ _. (given_weaker (fetches command) before.shelf.files _ _ (λ files made. (ends.output, made.is, ends.takes)) ends.made, ends.saved.saves);
  missing = other_number command before after 0 3 IsMissing missing_line (λ is. omega (arith, is)) missing_unheld ends.fetched.held;
  too_long = other_number command before after 0 7 IsTooLong long_line (λ is. omega (arith, is)) long_unheld ends.fetched.held;
  read = λ is. absurd (omega (arith, is));
  failed = λ less. absurd (not_less before.shelf.fetch_faults after.shelf.fetch_faults ends.fetched.quiet less);
  refused = λ number. absurd (omega (arith, number.0));
  refuses = λ refusal given why. absurd (
      given_both (fetches command) before.shelf.files _ _ _ ⊥ (known_of command before after given) ends.made why (λ files made refuses. made.unrefused refusal refuses)
      );
  unwritten = λ is. absurd (omega (arith, is));
  unsaved = λ less. absurd (not_less before.shelf.put_faults after.shelf.put_faults ends.saved.puts less);
  kept = ends.saved.kept;
  memory = λ is. absurd (omega (arith, is));
  complete = λ given quiet puts none. inl refl;
}

unwritten_with : (command : Command) (before after : Outside) (served : List RoundRows) → EndsUnwritten command before after served → EndsWith command before after served 5
unwritten_with command before after served ends = record {
  done = λ is. absurd (omega (arith, is));
  missing = other_number command before after 5 3 IsMissing missing_line (λ is. omega (arith, is)) missing_unheld ends.fetched.held;
  too_long = other_number command before after 5 7 IsTooLong long_line (λ is. omega (arith, is)) long_unheld ends.fetched.held;
  read = λ is. absurd (omega (arith, is));
  failed = λ less. absurd (not_less before.shelf.fetch_faults after.shelf.fetch_faults ends.fetched.quiet less);
  refused = λ number. absurd (omega (arith, number.0));
  refuses = λ refusal given why. absurd (
      given_both (fetches command) before.shelf.files _ _ _ ⊥ (known_of command before after given) ends.made why (λ files made refuses. made.unrefused refusal refuses)
      );
  unwritten = λ _. inr (record {
    rose = ends.rose;
    front = given_weaker (fetches command) before.shelf.files _ _ (λ files made. (ends.output, made.is, ends.takes)) ends.made;
    saved = ends.saved.saves;
    quiet = ends.saved.puts;
  });
  unsaved = λ _. refl;
  kept = ends.saved.kept;
  memory = λ is. absurd (omega (arith, is));
  complete = λ given quiet puts none. absurd (not_quiet before.sink.faults after.sink.faults quiet ends.rose);
}

-- no name is to be saved, or its put was quiet
named_quiet : (name : Option (List ℕ)) (at : List ℕ) (before now : ℕ) → name ≡ Some at → IfSome name (λ n. Quiet before now) → Quiet before now
named_quiet name at before now named quiet = subst (λ (o : Option (List ℕ)). IfSome o (λ n. Quiet before now)) named quiet

unsaved_with : (command : Command) (before after : Outside) (served : List RoundRows) → EndsUnsaved command before after served → EndsWith command before after served 5
unsaved_with command before after served ends = record {
  done = λ is. absurd (omega (arith, is));
  missing = other_number command before after 5 3 IsMissing missing_line (λ is. omega (arith, is)) missing_unheld ends.fetched.held;
  too_long = other_number command before after 5 7 IsTooLong long_line (λ is. omega (arith, is)) long_unheld ends.fetched.held;
  read = λ is. absurd (omega (arith, is));
  failed = λ less. absurd (not_less before.shelf.fetch_faults after.shelf.fetch_faults ends.fetched.quiet less);
  refused = λ number. absurd (omega (arith, number.0));
  refuses = λ refusal given why. absurd (
      given_both (fetches command) before.shelf.files _ _ _ ⊥ (known_of command before after given) ends.made why (λ files made refuses. made.unrefused refusal refuses)
      );
  unwritten = λ _. inl (record {
    name = ends.name;
    named = ends.named;
    rose = ends.rose;
    made = given_weaker (fetches command) before.shelf.files _ _ (λ files made. (ends.output, made.is)) ends.made;
    elsewhere = ends.elsewhere;
    told = ends.told;
  });
  unsaved = λ _. refl;
  kept = λ none. absurd (none-some ends.name (sym none ∙ ends.named));
  memory = λ is. absurd (omega (arith, is));
  complete = λ given quiet puts none. absurd (
      not_quiet before.shelf.put_faults after.shelf.put_faults
      (named_quiet (saved_name command) ends.name before.shelf.put_faults after.shelf.put_faults ends.named puts) ends.rose
      );
}

short_with : (command : Command) (before after : Outside) (served : List RoundRows) → Untouched before after → Tells before.sink after.sink memory_line
    → EndsWith command before after served 6
short_with command before after served untouched told = record {
  done = λ is. absurd (omega (arith, is));
  missing = short_number command before after 3 IsMissing missing_line (λ is. omega (arith, is));
  too_long = short_number command before after 7 IsTooLong long_line (λ is. omega (arith, is));
  read = λ is. absurd (omega (arith, is));
  failed = λ less. inr refl;
  refused = λ number. absurd (omega (arith, number.0));
  refuses = λ refusal given why. inr refl;
  unwritten = λ is. absurd (omega (arith, is));
  unsaved = λ less. absurd (not_less before.shelf.put_faults after.shelf.put_faults untouched.puts less);
  kept = λ _. untouched.files;
  memory = λ _. told;
  complete = λ given quiet puts none. inr refl;
}

-- ---- refusals

-- each has a number from 8 to 12
is_high : (refusal : Refusal) → (8 ≤ refusal_number refusal) × (refusal_number refusal ≤ 12)
is_high (refusals.Text fault) = (lit≤ tt, lit≤ tt)
is_high (refusals.Word at why) = (lit≤ tt, lit≤ tt)
is_high (refusals.Units fault) = (lit≤ tt, lit≤ tt)
is_high refusals.NoHistory = (lit≤ tt, lit≤ tt)
is_high (refusals.Line fault) = (lit≤ tt, lit≤ tt)
is_high (refusals.Image fault) = (lit≤ tt, lit≤ tt)
is_high (refusals.TooSmall round live entries) = (lit≤ tt, lit≤ tt)
is_high (refusals.IdsSpent round base log) = (lit≤ tt, lit≤ tt)

-- texts and histories are refused with the number 10
texts_number : (texts : List (List ℕ)) (refusal : Refusal) → RefusesTexts texts refusal → refusal_number refusal ≡ 10
texts_number texts refusal refuses = elim refuses [ inl word ↦ ap refusal_number word.is | inr units ↦ ap refusal_number units.is ]

history_number : (name : List ℕ) (files : Files) (refusal : Refusal) → RefusesHistory name files refusal → refusal_number refusal ≡ 10
history_number name files refusal refuses = elim refuses [ inl none ↦ ap refusal_number none.is | inr faulty ↦ ap refusal_number faulty.is ]

-- what a command refuses it refuses with one number
one_number : (command : Command) (files : Files) (served : List RoundRows) (a b : Refusal) → Refuses command files served a → Refuses command files served b
    → refusal_number a ≡ refusal_number b
one_number (Run plan) files served a b one other = one_run_number plan files served a b one other
one_number (Make work) files served a b one other = absurd one
one_number (Explain text) files served a b one other = ap refusal_number one.is ∙ sym (ap refusal_number other.is)
one_number (Compose texts) files served a b one other = texts_number texts a one ∙ sym (texts_number texts b other)
one_number (Instance name) files served a b one other = absurd one
one_number (Check name) files served a b one other = history_number name files a one ∙ sym (history_number name files b other)

refused_with : (command : Command) (before after : Outside) (served : List RoundRows) (refusal : Refusal) → EndsRefused command before after served refusal
    → EndsWith command before after served (refusal_number refusal)
refused_with command before after served refusal ends =
    let high = is_high refusal in
    record {
      done = λ is. absurd (omega (arith, high.0, is));
      missing = other_number command before after _ 3 IsMissing missing_line (λ is. omega (arith, high.0, is)) missing_unheld ends.fetched.held;
      too_long = other_number command before after _ 7 IsTooLong long_line (λ is. omega (arith, high.0, is)) long_unheld ends.fetched.held;
      read = λ is. absurd (omega (arith, high.0, is));
      failed = λ less. absurd (not_less before.shelf.fetch_faults after.shelf.fetch_faults ends.fetched.quiet less);
      refused = λ number. record { refusal = refusal; number = refl; why = ends.why; rounds = ends.rounds; fetched = ends.fetched.held; quiet = ends.fetched.quiet; told = ends.told };
      refuses = λ other given why. inl (
          given_both (fetches command) before.shelf.files _ _ _ _ (known_of command before after given) ends.why why
          (λ files mine theirs. one_number command files served refusal other mine theirs)
          );
      unwritten = λ is. absurd (omega (arith, high.0, is));
      unsaved = λ less. absurd (not_less before.shelf.put_faults after.shelf.put_faults ends.untouched.puts less);
      kept = λ _. ends.untouched.files;
      memory = λ is. absurd (omega (arith, high.0, is));
      complete = λ given quiet puts none. absurd (none refusal ends.why);
    }

-- neither 3 nor 7
not_file : (number other : ℕ) → (number ≡ 3) ⊎ (number ≡ 7) → (other ≡ 3 → ⊥) → (other ≡ 7 → ⊥) → number ≡ other → ⊥
not_file number other file three seven is = elim file [ inl a ↦ three (sym is ∙ a) | inr a ↦ seven (sym is ∙ a) ]

-- the first file that gave no bytes isn't there, or is too long
unheld_with : (command : Command) (before after : Outside) (served : List RoundRows) (fault : FetchFault) (number : ℕ)
    → (number ≡ 3) ⊎ (number ≡ 7) → GivesNone command before after fault → after.shelf.fetch_faults ≡ before.shelf.fetch_faults
    → ((files : Files) (fetch : Fetch) → UnreadWhy fault files fetch → IsHeld files fetch → ⊥)
    → IsFileStatus command before after number 3 IsMissing missing_line → IsFileStatus command before after number 7 IsTooLong long_line
    → EndsWith command before after served number
unheld_with command before after served fault number file none quiet unheld missing too_long = record {
  done = λ is. absurd (not_file number 0 file (λ e. cc) (λ e. cc) is);
  missing = missing;
  too_long = too_long;
  read = λ is. absurd (not_file number 4 file (λ e. cc) (λ e. cc) is);
  failed = λ less. absurd (not_less before.shelf.fetch_faults after.shelf.fetch_faults quiet less);
  refused = λ high. absurd (elim file [ inl a ↦ omega (arith, high.0, a) | inr a ↦ omega (arith, high.0, a) ]);
  refuses = λ refusal given why. absurd (unread_given command before after fault none unheld given);
  unwritten = λ is. absurd (not_file number 5 file (λ e. cc) (λ e. cc) is);
  unsaved = λ less. absurd (not_less before.shelf.put_faults after.shelf.put_faults none.untouched.puts less);
  kept = λ _. none.untouched.files;
  memory = λ is. absurd (not_file number 6 file (λ e. cc) (λ e. cc) is);
  complete = λ given quiet_sink puts free. absurd (unread_given command before after fault none unheld given);
}

-- the status of the first file that gave no bytes, where that is its fault
file_told : (command : Command) (before after : Outside) (number : ℕ) (Fault : Files → Fetch → Type 0) (line_of : List ℕ → List ℕ) (fetch : Fetch)
    → Contains (fetches command) fetch → IfSome before.shelf.files (λ files. IsReached command files fetch × Fault files fetch)
    → after.shelf.fetch_faults ≡ before.shelf.fetch_faults → Tells before.sink after.sink (line_of fetch.name) → IsFileStatus command before after number number Fault line_of
file_told command before after number Fault line_of fetch one why quiet told = record {
  only = λ _. record { fetch = fetch; one = one; fault = why; quiet = quiet; told = told };
  where_it_holds = λ _. always _ (λ files other reached fault. inl refl) before.shelf.files;
}

unread_with : (command : Command) (before after : Outside) (served : List RoundRows) (fault : FetchFault) → GivesNone command before after fault
    → EndsWith command before after served (unread_number fault)
unread_with command before after served faults.Missing none =
    let quiet : after.shelf.fetch_faults ≡ before.shelf.fetch_faults = none.cause.kept (λ is. cc) in
    unheld_with command before after served faults.Missing 3 (inl refl) none quiet missing_unheld
    (file_told command before after 3 IsMissing missing_line none.fetch none.one none.why quiet none.told)
    (late_number command before after faults.Missing 3 7 IsTooLong long_line (λ is. omega (arith, is)) none missing_unheld long_unheld not_both)
unread_with command before after served faults.TooLong none =
    let quiet : after.shelf.fetch_faults ≡ before.shelf.fetch_faults = none.cause.kept (λ is. cc) in
    unheld_with command before after served faults.TooLong 7 (inr refl) none quiet long_unheld
    (late_number command before after faults.TooLong 7 3 IsMissing missing_line (λ is. omega (arith, is)) none long_unheld missing_unheld
    (λ files fetch long missing. not_both files fetch missing long))
    (file_told command before after 7 IsTooLong long_line none.fetch none.one none.why quiet none.told)
unread_with command before after served faults.Failed none =
    let rose : Rose before.shelf.fetch_faults after.shelf.fetch_faults = none.cause.failed refl in
    let loud : Quiet before.shelf.fetch_faults after.shelf.fetch_faults → ⊥ = λ quiet. not_quiet before.shelf.fetch_faults after.shelf.fetch_faults quiet rose in
    let ungiven : IsGiven command before after → ⊥ =
    λ given. elim given [ inl nothing ↦ none_in (fetches command) none.fetch nothing none.one | inr both ↦ loud both.1 ] in
    record {
      done = λ is. absurd (omega (arith, is));
      missing = record { only = λ is. absurd (omega (arith, is)); where_it_holds = λ quiet. absurd (loud quiet) };
      too_long = record { only = λ is. absurd (omega (arith, is)); where_it_holds = λ quiet. absurd (loud quiet) };
      read = λ _. record {
        fetch = none.fetch;
        one = none.one;
        reached = IfSome-weaker _ _ (λ files why. why.0) before.shelf.files none.why;
        rose = rose;
        told = none.told;
      };
      failed = λ less. inl refl;
      refused = λ number. absurd (omega (arith, number.0));
      refuses = λ refusal given why. absurd (ungiven given);
      unwritten = λ is. absurd (omega (arith, is));
      unsaved = λ less. absurd (not_less before.shelf.put_faults after.shelf.put_faults none.untouched.puts less);
      kept = λ _. none.untouched.files;
      memory = λ is. absurd (omega (arith, is));
      complete = λ given quiet_sink puts free. absurd (ungiven given);
    }
unread_with command before after served faults.NoMemory none = short_with command before after served none.untouched none.told

pub ends_with : (command : Command) (before after : Outside) (served : List RoundRows) (ending : Ending) → Ends command before after served ending
    → EndsWith command before after served (ending_number ending)
ends_with command before after served endings.Done ends = done_with command before after served ends
ends_with command before after served (endings.Unread fault) ends = unread_with command before after served fault ends
ends_with command before after served (endings.Refused refusal) ends = refused_with command before after served refusal ends
ends_with command before after served endings.Unwritten ends = unwritten_with command before after served ends
ends_with command before after served endings.Unsaved ends = unsaved_with command before after served ends
ends_with command before after served endings.NoMemory ends = short_with command before after served ends.untouched ends.told

-- ---- the outcome of a call

-- each status is one of those there are
known_refusal : (refusal : Refusal) → Contains statuses (refusal_number refusal)
known_refusal (refusals.Text fault) = (9, lit< tt, refl)
known_refusal (refusals.Word at why) = (9, lit< tt, refl)
known_refusal (refusals.Units fault) = (9, lit< tt, refl)
known_refusal refusals.NoHistory = (9, lit< tt, refl)
known_refusal (refusals.Line fault) = (9, lit< tt, refl)
known_refusal (refusals.Image fault) = (8, lit< tt, refl)
known_refusal (refusals.TooSmall round live entries) = (7, lit< tt, refl)
known_refusal (refusals.IdsSpent round base log) = (10, lit< tt, refl)

is_known : (ending : Ending) → Contains statuses (ending_number ending)
is_known endings.Done = (0, lit< tt, refl)
is_known (endings.Unread faults.Missing) = (2, lit< tt, refl)
is_known (endings.Unread faults.Failed) = (3, lit< tt, refl)
is_known (endings.Unread faults.TooLong) = (6, lit< tt, refl)
is_known (endings.Unread faults.NoMemory) = (5, lit< tt, refl)
is_known (endings.Refused refusal) = known_refusal refusal
is_known endings.Unwritten = (4, lit< tt, refl)
is_known endings.Unsaved = (4, lit< tt, refl)
is_known endings.NoMemory = (5, lit< tt, refl)

-- and 2 is that of no ending
not_words : (ending : Ending) → ending_number ending ≡ 2 → ⊥
not_words endings.Done is = omega (arith, is)
not_words (endings.Unread faults.Missing) is = omega (arith, is)
not_words (endings.Unread faults.Failed) is = omega (arith, is)
not_words (endings.Unread faults.TooLong) is = omega (arith, is)
not_words (endings.Unread faults.NoMemory) is = omega (arith, is)
not_words (endings.Refused refusal) is = let high = is_high refusal in omega (arith, high.0, is)
not_words endings.Unwritten is = omega (arith, is)
not_words endings.Unsaved is = omega (arith, is)
not_words endings.NoMemory is = omega (arith, is)

-- a number from 8 to 12, or 0, is that of no other ending
unserved : (number : ℕ) → 1 ≤ number → number ≤ 7 → IsServedStatus number → ⊥
unserved number some few served = elim served [ inl zero ↦ omega (arith, zero, some) | inr high ↦ omega (arith, high.0, few) ]

-- a served status is that of a command that is done, or that refuses
pub served_at : (ending : Ending) → IsServedStatus (ending_number ending) → IsServedEnding ending
served_at endings.Done is = tt
served_at (endings.Unread faults.Missing) is = unserved 3 (lit≤ tt) (lit≤ tt) is
served_at (endings.Unread faults.Failed) is = unserved 4 (lit≤ tt) (lit≤ tt) is
served_at (endings.Unread faults.TooLong) is = unserved 7 (lit≤ tt) (lit≤ tt) is
served_at (endings.Unread faults.NoMemory) is = unserved 6 (lit≤ tt) (lit≤ tt) is
served_at (endings.Refused refusal) is = tt
served_at endings.Unwritten is = unserved 5 (lit≤ tt) (lit≤ tt) is
served_at endings.Unsaved is = unserved 5 (lit≤ tt) (lit≤ tt) is
served_at endings.NoMemory is = unserved 6 (lit≤ tt) (lit≤ tt) is

-- files are put only where all is done, or not all is written
same_files : (command : Command) (before after : Outside) (served : List RoundRows) (ending : Ending) → Ends command before after served ending
    → ending_number ending ≢ 0 → ending_number ending ≢ 5 → after.shelf.files ≡ before.shelf.files
same_files command before after served endings.Done ends none part = absurd (none refl)
same_files command before after served (endings.Unread fault) ends none part = ends.untouched.files
same_files command before after served (endings.Refused refusal) ends none part = ends.untouched.files
same_files command before after served endings.Unwritten ends none part = absurd (part refl)
same_files command before after served endings.Unsaved ends none part = absurd (part refl)
same_files command before after served endings.NoMemory ends none part = ends.untouched.files

-- of words that are of a form
pub command_outcome : (words : List (List ℕ)) (command : Command) (before after : Outside) (served : List RoundRows) (ending : Ending) → IsForm words command
    → Ends command before after served ending → IsOutcome words before after served (ending_number ending)
command_outcome words command before after served ending form ends = record {
  no_form = ((λ two. absurd (not_words ending two)), λ none. absurd (none command form));
  words_told = λ two. absurd (not_words ending two);
  ends = λ other is. subst (λ c. EndsWith c before after served (ending_number ending)) (one_form words command other form is) (ends_with command before after served ending ends);
  known = is_known ending;
  same = same_files command before after served ending ends;
}

-- of words that are of none
pub words_outcome : (words : List (List ℕ)) (before after : Outside) (served : List RoundRows) → HasNoForm words
    → after.shelf ≡ before.shelf → Tells before.sink after.sink words_line → IsOutcome words before after served 2
words_outcome words before after served none same told = record {
  no_form = ((λ _. none), λ _. refl);
  words_told = λ _. (same, told);
  ends = λ command form. absurd (none command form);
  known = (1, lit< tt, refl);
  same = λ _ _. ap (λ (v : ShelfView). v.files) same;
}
