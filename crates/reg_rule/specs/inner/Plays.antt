-- The steps as plays of the table.
use Rattle.std.specs.Prelude.{◌≡◌, ℕ, ◌+◌, ◌^◌, ◌<◌, ◌≤◌, ◌==◌, ◌&&◌, not, cond, true, [], length, Option, None, Some}
use Rattle.atomic_table.specs.Table.{Me, Step}
use Rattle.reg_model.specs.declared.update.Update.{Update}
use Rattle.reg_model.specs.declared.update.Update.TheVariants.{Decl, Wd}
use Rattle.reg_rule.specs.declared.told.Told.{Told}
use Rattle.reg_rule.specs.declared.view.View.{View}
use Rattle.reg_rule.specs.declared.remembered.Remembered.{Remembered}
use Rattle.reg_rule.specs.Seats.{hand_of}
use Rattle.reg_rule.specs.inner.Remembering.{remembered_of, log_loaded, log_swapped}

abbrev pub Sat : Type 0
Sat = Me (Unit {0}) View

-- What the memory of a pass says of its seat: how many places it has seen, which entry is in hand, and the rest.
pub record Remembers (places : ℕ) (entry : Option ℕ) (rest : Remembered) (me : Sat) : Type 0 where
  pub slots : me.1 ≡ []
  pub live : me.0.live ≡ true
  -- the account of its session, and no other
  pub one : length me.0.accounts ≡ 1
  pub seen : places ≡ length me.0.log
  pub hand : entry ≡ hand_of me.0
  pub remembered : rest ≡ remembered_of me.0
  -- its session is one of the round
  pub below : rest.number < me.0.key.sizes.callers
  -- so that a point is a number of 64 bits
  pub low : rest.base ≤ 2 ^ 34

-- what each step keeps of a view, how many places more it has seen, what is in hand then, and what else is remembered
pub record Keeps (more : ℕ) (entry : Option ℕ) (rest : Remembered) (v w : View) : Type 0 where
  pub live : w.live ≡ v.live
  pub key : w.key ≡ v.key
  pub sessions : length w.accounts ≡ length v.accounts
  pub seen : length w.log ≡ length v.log + more
  pub hand : hand_of w ≡ entry
  pub remembered : remembered_of w ≡ rest

-- the hand stays, and all else that is remembered
abbrev pub Stays : View → View → Type 0
Stays v w = Keeps 0 (hand_of v) (remembered_of v) v w

-- the view after a step, where no slot is taken or given
abbrev pub seated : (View → ℕ → View → Type 0) → Step (Unit {0}) → Sat → ℕ → Sat → Type 0
seated tells st m r n = tells m.0 r n.0 × Stays m.0 n.0 × (n.1 ≡ m.1)

-- the same for a step that reads its operands
abbrev pub seated_with : (ℕ → ℕ → View → ℕ → View → Type 0) → Step (Unit {0}) → Sat → ℕ → Sat → Type 0
seated_with tells st m r n = tells st.first st.second m.0 r n.0 × Stays m.0 n.0 × (n.1 ≡ m.1)

-- the same, where a step that reads its operands changes what is remembered
abbrev pub seated_leaving : (ℕ → View → ℕ → Remembered) → (ℕ → View → ℕ → View → Type 0) → Step (Unit {0}) → Sat → ℕ → Sat → Type 0
seated_leaving rest tells st m r n = tells st.first m.0 r n.0 × Keeps 0 (hand_of m.0) (rest st.first m.0 r) m.0 n.0 × (n.1 ≡ m.1)

-- the next place was found filled
abbrev pub one_more : ℕ → View → ℕ → ℕ
one_more place v found = cond ((place == length v.log) && not (found == 0)) 1 0

-- what is remembered after a load of the log
abbrev pub rest_loaded : Told → ℕ → View → ℕ → Remembered
rest_loaded told place v found = log_loaded told (place == length v.log) found (length v.log + one_more place v found) v.key.sizes.log (remembered_of v)

-- the same for a load of the log
abbrev pub seated_more : Told → ℕ → (View → ℕ → View → Type 0) → Step (Unit {0}) → Sat → ℕ → Sat → Type 0
seated_more told place tells st m r n = tells m.0 r n.0 × Keeps (one_more place m.0 r) (hand_of m.0) (rest_loaded told place m.0 r) m.0 n.0 × (n.1 ≡ m.1)

-- a declaration that took its place leaves nothing in hand
abbrev pub hand_left : Update → ℕ → View → Option ℕ
hand_left (Decl unit) found v = cond (found == 0) None (hand_of v)
hand_left (Wd id) found v = hand_of v

-- the same for an exchange of the next place
abbrev pub seated_past : Update → (View → ℕ → View → Type 0) → Step (Unit {0}) → Sat → ℕ → Sat → Type 0
seated_past update tells st m r n = tells m.0 r n.0 × Keeps 1 (hand_left update r m.0) (log_swapped update r (remembered_of m.0)) m.0 n.0 × (n.1 ≡ m.1)

-- the same for an exchange that takes this entry: where it is won, the entry is in hand
abbrev pub seated_taking : ℕ → (ℕ → View → ℕ → View → Type 0) → Step (Unit {0}) → Sat → ℕ → Sat → Type 0
seated_taking entry tells st m r n = tells st.first m.0 r n.0 × Keeps 0 (cond (r == st.first) (Some entry) (hand_of m.0)) (remembered_of m.0) m.0 n.0 × (n.1 ≡ m.1)
