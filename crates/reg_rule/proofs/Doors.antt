-- From the rule over areas to the rule of the table.
use Rattle.std.proofs.Common.{◌≡◌, ◌≢◌, ℕ, ◌+◌, ◌<◌, ◌==◌, cond, Bool, List, get_or, set, sym, ◌∙◌, subst, length-set, eq-eqb, ne_eqb}
use mathlib.Core.Logic.{dite}
use native.Mathlib.Decide.{ℕ_discrete}
use lib.Seq.{set-get_or}
use Rattle.atomic_table.specs.Table.{State, Act, keeps, stepped, Valid, carried_after}
use Rattle.reg_words.specs.Memory.{size, start, mem, write}
use Rattle.reg_words.proofs.Memory.{mem-read, mem-write}
use Rattle.reg_rule.specs.declared.view.Key.{Key}
use Rattle.reg_rule.specs.declared.view.View.{View}
use Rattle.reg_rule.specs.inner.World.{World}
use Rattle.reg_rule.specs.inner.Rule.{Inv, Kept, sizes}
use Rattle.reg_rule.specs.inner.Plays.{Sat}

abbrev pub St : Type 0
St = State (Unit {0}) View

-- after a load
pub load_keeps : (key : Key) (s : St) (k : Kept key s) (at id : ℕ) (me : Sat) (w : View) (world : World) → Inv key (mem (sizes key) s.words) world (set s.views id w)
    → Kept key (stepped s at (get_or s.words at 0) id me.1 w keeps)
load_keeps key s k at id me w world inv = subst (λ (ws : List ℕ). Kept key record { words = ws; homes = s.homes; views = set s.views id w }) (sym (set-get_or s.words at 0))
    record { wide = k.wide; world = world; inv = inv }

-- after a write
pub write_keeps : (key : Key) (s : St) (k : Kept key s) (a c x id : ℕ) (me : Sat) (w : View) (world : World) → c < size (sizes key) a → Inv key (write (mem (sizes key) s.words) a c x) world (set s.views id w)
    → Kept key (stepped s (start (sizes key) a + c) x id me.1 w keeps)
write_keeps key s k a c x id me w world inside inv = record {
  wide = length-set s.words (start (sizes key) a + c) x ∙ k.wide;
  world = world;
  inv = subst (λ (m : ℕ → ℕ → ℕ). Inv key m world (set s.views id w)) (sym (mem-write (sizes key) s.words a c x k.wide inside)) inv;
}

-- what is left of an exchange: of a word that is the one expected, and of another
abbrev pub Wins : Key → St → ℕ → ℕ → ℕ → ℕ → Sat → (ℕ → Sat → Type 0) → Type 0
Wins key s a c new id me then = (w : View) × (world : World) × Inv key (write (mem (sizes key) s.words) a c new) world (set s.views id w) × then (mem (sizes key) s.words a c) (w, me.1)

abbrev pub Loses : Key → St → ℕ → ℕ → ℕ → Sat → (ℕ → Sat → Type 0) → Type 0
Loses key s a c id me then = (w : View) × (world : World) × Inv key (mem (sizes key) s.words) world (set s.views id w) × then (mem (sizes key) s.words a c) (w, me.1)

abbrev pub Ended : Key → St → ℕ → ℕ → ℕ → Sat → (ℕ → Sat → Type 0) → Type 0
Ended key s at word id me then = (w : View) × (a : Act (Unit {0})) × Valid s.homes me.1 a × Kept key (stepped s at word id me.1 w a) × then (get_or s.words at 0) (w, carried_after me.1 a)

-- after an exchange
pub swap_keeps : (key : Key) (s : St) (k : Kept key s) (a c old new id : ℕ) (me : Sat) (then : ℕ → Sat → Type 0) → c < size (sizes key) a
    → (mem (sizes key) s.words a c ≡ old → Wins key s a c new id me then) → (mem (sizes key) s.words a c ≢ old → Loses key s a c id me then)
    → Ended key s (start (sizes key) a + c) (cond (get_or s.words (start (sizes key) a + c) 0 == old) new (get_or s.words (start (sizes key) a + c) 0)) id me then
swap_keeps key s k a c old new id me then inside won lost =
    let at : ℕ = start (sizes key) a + c in let read : mem (sizes key) s.words a c ≡ get_or s.words at 0 = mem-read (sizes key) s.words a c inside in
    dite (ℕ_discrete (get_or s.words at 0) old)
    (λ same. let r = won (read ∙ same) in subst (λ (b : Bool). Ended key s at (cond b new (get_or s.words at 0)) id me then) (sym (eq-eqb (get_or s.words at 0) old same))
    (r.0, keeps, tt, write_keeps key s k a c new id me r.0 r.1 inside r.2, subst (λ (x : ℕ). then x (r.0, me.1)) read r.3))
    (λ apart. let r = lost (λ e. apart (sym read ∙ e)) in subst (λ (b : Bool). Ended key s at (cond b new (get_or s.words at 0)) id me then) (sym (ne_eqb (get_or s.words at 0) old apart))
    (r.0, keeps, tt, load_keeps key s k at id me r.0 r.1 r.2, subst (λ (x : ℕ). then x (r.0, me.1)) read r.3))
