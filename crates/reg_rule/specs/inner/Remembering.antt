-- What a pass keeps in its own memory of what it knows, and what a step makes of it.
use Rattle.std.specs.Prelude.{ℕ, ◌+◌, ◌-◌, ◌%◌, ◌^◌, ◌==◌, ◌&&◌, ◌||◌, min, Bool, cond, length, Option, None, Some}
use Rattle.std.specs.List.{last_or}
use Rattle.reg_model.specs.declared.update.Update.{Update}
use Rattle.reg_model.specs.Live.{declarations, is_declaration}
use Rattle.reg_words.specs.declared.sweeping.Swept.{Swept}
use Rattle.reg_words.specs.Packing.{bit, sweep_word}
use Rattle.reg_rule.specs.declared.told.Told.{Told}
use Rattle.reg_rule.specs.declared.told.Told.TheVariants.{Ends}
use Rattle.reg_rule.specs.declared.view.View.{View}
use Rattle.reg_rule.specs.declared.remembered.Remembered.{Remembered}
use Rattle.reg_rule.specs.Log.{updates}
use Rattle.reg_rule.specs.Moves.{does_open, closed}
use Rattle.reg_rule.specs.Passes.{number_of}

abbrev pub at_most_u64 : ℕ → ℕ
at_most_u64 n = min n (2 ^ 64 - 1)

abbrev pub remembered_of : View → Remembered
remembered_of v = record {
  number = number_of v;
  base = v.key.carried.base;
  snapshot = v.snapshot;
  pin = v.pin;
  decls = declarations (updates v.log);
  sweep_word = sweep_word v.last_word;
  sweeps = at_most_u64 (length v.sweeps);
  last_sweep = last_or None v.sweeps;
}

-- ---- the log

-- a place more was seen, which is a declaration or not
abbrev pub counting : Bool → Remembered → Remembered
counting declares r = record r { decls = r.decls + bit declares }

abbrev pub opened_at : Told → Bool → ℕ → Remembered → Remembered
opened_at told front place r = record r { snapshot = cond (does_open told && front) (Some place) r.snapshot }

-- the tag of a record's word is that of a declaration
abbrev pub declares_word : ℕ → Bool
declares_word word = word % 4 == 1

-- after a load: whether it was of the next place, what it found, how many places are seen then, and how many there are
abbrev pub log_loaded : Told → Bool → ℕ → ℕ → ℕ → Remembered → Remembered
log_loaded told next found seen places r = opened_at told ((next && (found == 0)) || (seen == places)) seen (counting (next && declares_word found) r)

-- after an exchange
abbrev pub log_swapped : Update → ℕ → Remembered → Remembered
log_swapped update found r = counting (cond (found == 0) (is_declaration update) (declares_word found)) r

-- ---- pins

abbrev pub pinned_to : Told → ℕ → Remembered → Remembered
pinned_to told new r = record r { pin = new; snapshot = cond (new == 0) (closed told r.snapshot) r.snapshot }

-- ---- the sweep

-- the word says that the sweep is held
abbrev pub is_held : ℕ → Bool
is_held word = word % 2 == 1

abbrev pub sweeps_ended : Told → ℕ → ℕ
sweeps_ended (Ends swept) sweeps = at_most_u64 (sweeps + 1)
sweeps_ended told sweeps = sweeps

abbrev pub last_ended : Told → Option Swept → Option Swept
last_ended (Ends swept) last = Some swept
last_ended told last = last

abbrev pub swept_more : Told → Remembered → Remembered
swept_more told r = record r { sweeps = sweeps_ended told r.sweeps; last_sweep = last_ended told r.last_sweep }

-- after an exchange that was to take it: it was found held, or it has the word found
abbrev pub sweep_found : Told → ℕ → Remembered → Remembered
sweep_found told found r = record r {
  sweep_word = cond (is_held found) r.sweep_word found;
  sweeps = cond (is_held found) (sweeps_ended told r.sweeps) r.sweeps;
  last_sweep = cond (is_held found) (last_ended told r.last_sweep) r.last_sweep;
}

-- after a store by its holder
abbrev pub sweep_left : Told → ℕ → Remembered → Remembered
sweep_left told new r = record r {
  sweep_word = cond (is_held new) r.sweep_word new;
  sweeps = cond (is_held new) r.sweeps (sweeps_ended told r.sweeps);
  last_sweep = cond (is_held new) r.last_sweep (last_ended told r.last_sweep);
}
