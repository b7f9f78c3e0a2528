-- What a pass remembers, after each kind of step that changes it.
use Rattle.std.proofs.Common.{◌≡◌, ◌≢◌, ℕ, ◌+◌, ◌*◌, ◌%◌, ◌^◌, ◌<◌, ◌≤◌, ◌==◌, ◌&&◌, ◌||◌, not, cond, Bool, true, false, true≢false, List, [], ◌∷◌, ◌++◌, length, Option, None, Some, sym, ap, ◌∙◌, refl, arith, length-append, eqb-true, eq-eqb, ne_eqb}
use Rattle.std.specs.List.{last_or}
use Rattle.std.proofs.lemmas.List.{length-map}
use Rattle.std.proofs.lemmas.List.Sums.{sum_by-append}
use Rattle.reg_model.specs.declared.update.Update.{Update}
use Rattle.reg_model.specs.declared.update.Update.TheVariants.{Decl, Wd}
use Rattle.reg_model.specs.declared.reply.Row.{Row}
use Rattle.reg_model.specs.Live.{declarations, withdrawals, is_declaration}
use Rattle.reg_words.specs.declared.word.LogWord.TheVariants as records
use Rattle.reg_words.specs.declared.word.SweepWord.{SweepWord}
use Rattle.reg_words.specs.declared.sweeping.Swept.{Swept}
use Rattle.reg_words.specs.Packing.{bit, log_word, sweep_word}
use Rattle.reg_rule.specs.declared.told.Told.{Told}
use Rattle.reg_rule.specs.declared.told.Told.TheVariants.{Refuses, Ends}
use Rattle.reg_rule.specs.declared.view.Account.{Account}
use Rattle.reg_rule.specs.declared.view.Key.{Key}
use Rattle.reg_rule.specs.declared.view.Place.{Place}
use Rattle.reg_rule.specs.declared.view.View.{View}
use Rattle.reg_rule.specs.declared.remembered.Remembered.{Remembered}
use Rattle.reg_rule.specs.Fresh.{unswept, fresh}
use Rattle.reg_rule.specs.Log.{updates, place_word, record_at}
use Rattle.reg_rule.specs.Moves.{head_number, grown, does_open, is_stop, passed, ended, found_held}
use Rattle.reg_rule.specs.inner.Remembering.{at_most_u64, remembered_of, counting, opened_at, declares_word, log_loaded, log_swapped, is_held, sweeps_ended, last_ended, sweep_found, sweep_left}
use Rattle.reg_rule.proofs.CountsKept.{count_snoc}
use Rattle.reg_rule.proofs.RowsEnter.{has_head}
use Rattle.reg_rule.specs.Seats.{IsOf, hand_of}
use Rattle.reg_rule.specs.Passes.{number_of}
use Rattle.reg_rule.specs.inner.Plays.{Sat, Remembers}

-- ---- a row more

head_grown : (l : List Account) (x : Option Row) → head_number (grown l x) ≡ head_number l
head_grown l None = refl
head_grown [] (Some row) = refl
head_grown (a ∷ others) (Some row) = refl

pub grown_rest : (v : View) (x : Option Row) → remembered_of (record v { accounts = grown v.accounts x }) ≡ remembered_of v
grown_rest v x = λ i. record (remembered_of v) { number = head_grown v.accounts x i }

-- ---- the log

pub and_off : (b : Bool) → (b && false) ≡ false
and_off true = refl
and_off false = refl

tag_decl : (kind entry id : ℕ) → declares_word (log_word (records.Decl kind entry id)) ≡ true
unfolding log_word
tag_decl kind entry id = let e : (1 + 2 ^ 2 * kind + 2 ^ 6 * entry + 2 ^ 26 * id) % 4 ≡ 1 = omega arith in eq-eqb _ 1 e

tag_wd : (entry id : ℕ) → declares_word (log_word (records.Wd entry id)) ≡ false
unfolding log_word
tag_wd entry id = let e : (2 + 2 ^ 6 * entry + 2 ^ 26 * id) % 4 ≡ 2 = omega arith in ne_eqb _ 1 (omega arith)

tag_is : (base n : ℕ) (u : Update) (entry : ℕ) → declares_word (log_word (record_at base n u entry)) ≡ is_declaration u
tag_is base n (Decl unit) entry = tag_decl unit.kind entry (base + n)
tag_is base n (Wd id) entry = tag_wd entry id

pub tells_declaration : (base n found : ℕ) (p : Place) → found ≡ place_word base n p → declares_word found ≡ is_declaration p.update
tells_declaration base n found p is = ap declares_word is ∙ tag_is base n p.update p.entry

pub passed_rest : (v : View) (kind : ℕ) (p : Place) → remembered_of (passed v kind p) ≡ counting (is_declaration p.update) (remembered_of v)
passed_rest v kind p = λ i. record (remembered_of v) { decls = count_snoc is_declaration v.log p i }

-- a snapshot is opened at the last front
abbrev pub fronted_rest : Told → ℕ → Bool → Remembered → Remembered
fronted_rest told k front r = cond front (opened_at told true k r) r

-- where a refusal stops, nothing is opened
pub stops_rest : (told : Told) (v : View) (p : Place) (stop front : Bool) → is_stop told v p ≡ stop → (k : ℕ) (r : Remembered) → cond stop r (fronted_rest told k front r) ≡ fronted_rest told k front r
stops_rest told v p false front e k r = refl
stops_rest (Refuses unit) v p true true e k r = refl
stops_rest (Refuses unit) v p true false e k r = refl
stops_rest told v p true front e k r = absurd (true≢false (sym e))

loaded_by : (told : Told) (next front : Bool) (found seen places : ℕ) (r : Remembered) → ((next && (found == 0)) || (seen == places)) ≡ front → (front ≡ true → seen ≡ places)
    → fronted_rest told places front (counting (next && declares_word found) r) ≡ log_loaded told next found seen places r
loaded_by told next true found seen places r front at = λ i. record r {
  decls = r.decls + bit (next && declares_word found);
  snapshot = cond (does_open told && sym front i) (Some (sym (at refl) i)) r.snapshot;
}
loaded_by told next false found seen places r front at =
    let e : r.snapshot ≡ cond (does_open told && ((next && (found == 0)) || (seen == places))) (Some seen) r.snapshot
    = ap (λ (b : Bool). cond b (Some seen) r.snapshot) (sym (and_off (does_open told))) ∙ ap (λ (b : Bool). cond (does_open told && b) (Some seen) r.snapshot) (sym front) in
    λ i. record r { decls = r.decls + bit (next && declares_word found); snapshot = e i }

-- an old place, or the next one, was found filled
pub loaded_filled : (told : Told) (next : Bool) (found seen places : ℕ) (r : Remembered) → (next && (found == 0)) ≡ false
    → fronted_rest told places (seen == places) (counting (next && declares_word found) r) ≡ log_loaded told next found seen places r
loaded_filled told next found seen places r filled = loaded_by told next (seen == places) found seen places r (ap (λ (b : Bool). b || (seen == places)) filled) (λ e. eqb-true seen places e)

-- the next place was found empty
pub loaded_empty : (told : Told) (found seen places : ℕ) (r : Remembered) → found ≡ 0 → opened_at told true seen r ≡ log_loaded told true found seen places r
loaded_empty told found seen places r empty =
    let front : true ≡ ((found == 0) || (seen == places)) = ap (λ (b : Bool). b || (seen == places)) (sym (eq-eqb found 0 empty)) in
    let none : false ≡ declares_word found = sym (ap declares_word empty) in let same : r.decls ≡ r.decls + bit false = omega arith in
    let count : r.decls ≡ r.decls + bit (declares_word found) = same ∙ ap (λ (b : Bool). r.decls + bit b) none in
    λ i. record r { decls = count i; snapshot = cond (does_open told && front i) (Some seen) r.snapshot }

pub counts_none : (r : Remembered) → r ≡ counting false r
counts_none r = let same : r.decls ≡ r.decls + bit false = omega arith in λ i. record r { decls = same i }

pub swapped_won : (update : Update) (found : ℕ) (r : Remembered) → found ≡ 0 → counting (is_declaration update) r ≡ log_swapped update found r
swapped_won update found r empty = ap (λ (b : Bool). counting (cond b (is_declaration update) (declares_word found)) r) (sym (eq-eqb found 0 empty))

pub swapped_lost : (update : Update) (found : ℕ) (r : Remembered) → found ≢ 0 → counting (declares_word found) r ≡ log_swapped update found r
swapped_lost update found r full = ap (λ (b : Bool). counting (cond b (is_declaration update) (declares_word found)) r) (sym (ne_eqb found 0 full))

-- ---- the sweep

held_bit : (b : Bool) (n : ℕ) → is_held (bit b + 2 * n) ≡ b
held_bit true n = let e : (bit true + 2 * n) % 2 ≡ 1 = omega arith in eq-eqb _ 1 e
held_bit false n = let e : (bit false + 2 * n) % 2 ≡ 0 = omega arith in ne_eqb _ 1 (omega arith)

held_word : (s : SweepWord) → is_held (sweep_word s) ≡ s.held
unfolding sweep_word
held_word s = let n : ℕ = bit s.limbo + 2 * s.place + 2 ^ 26 * s.mark in let same : bit s.held + 2 * bit s.limbo + 2 ^ 2 * s.place + 2 ^ 27 * s.mark ≡ bit s.held + 2 * n = omega arith in ap is_held same ∙ held_bit s.held n

pub tells_held : (word : SweepWord) (found : ℕ) (b : Bool) → found ≡ sweep_word word → word.held ≡ b → is_held found ≡ b
tells_held word found b is e = ap is_held is ∙ (held_word word ∙ e)

last_snoc : (l : List Swept) (x : Swept) (o : Option Swept) → last_or o (l ++ x ∷ []) ≡ Some x
last_snoc [] x o = refl
last_snoc (y ∷ l) x o = last_snoc l x (Some y)

count_ended : (told : Told) (l : List Swept) → at_most_u64 (length (ended told l)) ≡ sweeps_ended told (at_most_u64 (length l))
count_ended (Ends swept) l = let long : length (l ++ swept ∷ []) ≡ length l + 1 = length-append l (swept ∷ []) in omega arith
count_ended told l = refl

last_of : (told : Told) (l : List Swept) → last_or None (ended told l) ≡ last_ended told (last_or None l)
last_of (Ends swept) l = last_snoc l swept None
last_of told l = refl

pub held_rest : (told : Told) (v : View) (found : ℕ) → is_held found ≡ true → remembered_of (found_held told v) ≡ sweep_found told found (remembered_of v)
held_rest told v found e = (λ i. record (remembered_of v) { sweeps = count_ended told v.sweeps i; last_sweep = last_of told v.sweeps i })
    ∙ ap (λ (b : Bool). record (remembered_of v) {
      sweep_word = cond b (sweep_word v.last_word) found;
      sweeps = cond b (sweeps_ended told (at_most_u64 (length v.sweeps))) (at_most_u64 (length v.sweeps));
      last_sweep = cond b (last_ended told (last_or None v.sweeps)) (last_or None v.sweeps);
    }) (sym e)

-- another word was found, or the one that was expected
pub moved_rest : (told : Told) (v : View) (found : ℕ) → is_held found ≡ false → record (remembered_of v) { sweep_word = found } ≡ sweep_found told found (remembered_of v)
moved_rest told v found e = ap (λ (b : Bool). record (remembered_of v) {
  sweep_word = cond b (sweep_word v.last_word) found;
  sweeps = cond b (sweeps_ended told (at_most_u64 (length v.sweeps))) (at_most_u64 (length v.sweeps));
  last_sweep = cond b (last_ended told (last_or None v.sweeps)) (last_or None v.sweeps);
}) (sym e)

-- the holder has stored a word
pub left_rest : (told : Told) (v : View) (word : SweepWord) (new : ℕ) (b : Bool) → is_held new ≡ b → sweep_word word ≡ new
    → remembered_of (record v { last_word = cond b v.last_word word; sweeps = cond b v.sweeps (ended told v.sweeps) }) ≡ sweep_left told new (remembered_of v)
left_rest told v word new b e is = left b ∙ ap (λ (c : Bool). record (remembered_of v) {
  sweep_word = cond c (sweep_word v.last_word) new;
  sweeps = cond c (at_most_u64 (length v.sweeps)) (sweeps_ended told (at_most_u64 (length v.sweeps)));
  last_sweep = cond c (last_or None v.sweeps) (last_ended told (last_or None v.sweeps));
}) (sym e) where
  left : (c : Bool) → remembered_of (record v { last_word = cond c v.last_word word; sweeps = cond c v.sweeps (ended told v.sweeps) }) ≡ record (remembered_of v) {
    sweep_word = cond c (sweep_word v.last_word) new;
    sweeps = cond c (at_most_u64 (length v.sweeps)) (sweeps_ended told (at_most_u64 (length v.sweeps)));
    last_sweep = cond c (last_or None v.sweeps) (last_ended told (last_or None v.sweeps));
  }
  left true = refl
  left false = λ i. record (remembered_of v) { sweep_word = is i; sweeps = count_ended told v.sweeps i; last_sweep = last_of told v.sweeps i }

-- ---- what is asked of a pass

counted_one : (b : Bool) → cond {A = ℕ} b 1 0 + cond {A = ℕ} (not b) 1 0 ≡ 1
counted_one true = refl
counted_one false = refl

pub counted_all : (log : List Update) → declarations log + withdrawals log ≡ length log
counted_all [] = refl
counted_all (u ∷ log) =
    let d : declarations (u ∷ log) ≡ (0 + cond {A = ℕ} (is_declaration u) 1 0) + declarations log = sum_by-append (λ (x : Update). cond {A = ℕ} (is_declaration x) 1 0) (u ∷ []) log in
    let w : withdrawals (u ∷ log) ≡ (0 + cond {A = ℕ} (not (is_declaration u)) 1 0) + withdrawals log = sum_by-append (λ (x : Update). cond {A = ℕ} (not (is_declaration x)) 1 0) (u ∷ []) log in
    let one = counted_one (is_declaration u) in let rest = counted_all log in omega arith

pub seen_counted : (log : List Place) → declarations (updates log) + withdrawals (updates log) ≡ length log
seen_counted log = counted_all (updates log) ∙ length-map log (λ (p : Place). p.update)

-- the session of a pass is that of its number
pub is_of_number : (v : View) (n : ℕ) → length v.accounts ≡ 1 → n ≡ number_of v → IsOf v n
is_of_number v n one is = let first = has_head v.accounts (omega arith) in (first.0, first.1, is ∙ first.2)

-- ---- a new pass

pub unswept_word : sweep_word unswept ≡ 0
unfolding sweep_word
unswept_word = refl

abbrev pub none_yet : ℕ → ℕ → Remembered
none_yet number base = record { number = number; base = base; snapshot = None; pin = 0; decls = 0; sweep_word = 0; sweeps = 0; last_sweep = None }

fresh_rest : (key : Key) (n base : ℕ) → base ≡ key.carried.base → none_yet n base ≡ remembered_of (fresh key n 1)
fresh_rest key n base is = λ i. record (remembered_of (fresh key n 1)) { base = is i; sweep_word = sym unswept_word i }

pub new_pass : (me : Sat) (n base : ℕ) → me ≡ (fresh me.0.key n 1, []) → n < me.0.key.sizes.callers → base ≡ me.0.key.carried.base → base ≤ 2 ^ 34 → Remembers 0 None (none_yet n base) me
new_pass me n base is below same low = let view : me.0 ≡ fresh me.0.key n 1 = ap (λ (z : Sat). z.0) is in record {
  slots = ap (λ (z : Sat). z.1) is;
  live = ap (λ (v : View). v.live) view;
  one = ap (λ (v : View). length v.accounts) view;
  seen = sym (ap (λ (v : View). length v.log) view);
  hand = sym (ap hand_of view);
  remembered = fresh_rest me.0.key n base same ∙ sym (ap remembered_of view);
  below = below;
  low = low;
}
