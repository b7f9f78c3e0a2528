-- Kind 23: splitting and joining seats.
use Rattle.std.proofs.Common.{◌≡◌, ℕ, zero, suc, ◌+◌, ◌*◌, ◌≤◌, eqb, cond, Bool, true, false, ⊎_elim, List, [], ◌∷◌, ◌++◌, length, take, drop, set, Option, Some, sym, ap, ◌∙◌, refl, subst, arith}
use mathlib.Core.Option.{some, some-ne-none}
use lib.ListN.{get_elem?}
use Rattle.atomic_table.specs.Table.{Splits}
use Rattle.atomic_table.proofs.Lists.{at_longer}
use Rattle.reg_model.specs.declared.reply.Row.{Row}
use Rattle.reg_words.specs.declared.word.SweepWord.{SweepWord}
use Rattle.reg_words.specs.Packing.{bit}
use Rattle.reg_words.specs.Memory.{TAKE, PUT, PIN, mem}
use Rattle.reg_rule.specs.declared.view.Key.{Key}
use Rattle.reg_rule.specs.declared.view.Account.{Account}
use Rattle.reg_rule.specs.declared.view.View.{View}
use Rattle.reg_rule.specs.Log.{At}
use Rattle.reg_rule.specs.inner.World.{Use, World}
use Rattle.reg_rule.specs.inner.SeatParts.{total, Owned, InHands, IsSeat}
use Rattle.reg_rule.specs.inner.Entries.{CountsPart}
use Rattle.reg_rule.specs.SweepWords.{rank}
use Rattle.reg_rule.specs.inner.HolderParts.{LastWordFits}
use Rattle.reg_rule.specs.inner.Rule.{Kept, sizes}
use Rattle.reg_rule.specs.Fresh.{unswept, blank}
use Rattle.reg_rule.specs.Seatings.{head_part, tail_part, sealing}
use Rattle.reg_rule.proofs.Views.{each_split, total_moves, total_snoc}
use Rattle.reg_rule.proofs.Counted.{set_is_seat, set_in_hands}
use Rattle.reg_rule.proofs.Fits.{Shared, Fits, shared_of, fits_of, inv_of}
use Rattle.reg_rule.proofs.Renumber.{cut, cut-else, cut-first, cut-later}

-- ---- a seat that has done nothing

same_by : (held limbo : Bool) (place mark : ℕ) → (limbo ≡ false → mark ≡ 0) → 0 ≡ 2 * place + bit limbo → unswept ≡ record { held = false; limbo = limbo; place = place; mark = mark }
same_by held true place mark unmarked e = let b : bit true ≡ 1 = refl in absurd (omega arith)
same_by held false place mark unmarked e = let b : bit false ≡ 0 = refl in let p : 0 ≡ place = omega arith in λ i. record { held = false; limbo = false; place = p i; mark = sym (unmarked refl) i }

-- the word of a sweep that did nothing is the least
pub unswept_last : (word : SweepWord) → (word.limbo ≡ false → word.mark ≡ 0) → LastWordFits word unswept
unswept_last word unmarked = record { free = refl; rises = (let z : rank unswept ≡ 0 = refl in omega arith); same = λ e. same_by word.held word.limbo word.place word.mark unmarked e }

pub cond_zero : (b : Bool) (x : ℕ) → x ≡ 0 → cond b x 0 ≡ 0
cond_zero true x e = e
cond_zero false x e = refl

-- a view that has done nothing yet, or one that keeps a copy of accounts
abbrev pub unseated : Key → Bool → List Account → List Account → View
unseated key live accounts copy = record (blank key accounts) { live = live; sealed = copy }

pub unseated_fits : (key : Key) (m : ℕ → ℕ → ℕ) (w : World) (id : ℕ) (its : Key) (live : Bool) (accounts copy : List Account)
    → (live ≡ true → its ≡ key)
    → (live ≡ false → length accounts ≡ 0)
    → ((i : ℕ) (a : Account) → At accounts i a → Owned key.sizes.callers w.accounts w.owner id i a)
    → ((i j : ℕ) (a : Account) (row : Row) → At accounts i a → At a.rows j row → row.point ≤ key.carried.base + 0)
    → ((i : ℕ) (a : Account) → At accounts i a → m PIN a.number ≡ 0)
    → (w.holder ≡ Some id → ⊥) → (w.word.limbo ≡ false → w.word.mark ≡ 0) → Fits key m w id (unseated its live accounts copy)
unseated_fits key m w id its live accounts copy knows none owns below pins free unmarked = record {
  knows = knows;
  owns = owns;
  saw = (w.log, refl);
  has_sessions = record { hands_most = omega arith; holding = λ h. absurd (cc); spent = λ off. (none off, refl) };
  rows = record { below = below; opened = λ i j k a row e. absurd (cc) };
  found = λ f e. absurd (cc);
  exchanges = omega arith;
  fits_pin = record { session = λ h. absurd (omega arith); covers = omega arith; fronts = λ k h. ⊎_elim (λ e. absurd (cc)) (λ e. absurd (cc)) h; cursor_pinned = λ c e. absurd (cc) };
  pinned = λ i a e. pins i a e ∙ sym (cond_zero (eqb i 0) 0 refl);
  above_floor = λ n k of relies. ⊎_elim (λ e. absurd (cc)) (λ e. absurd (cc)) relies;
  helps = record { noted = λ n unit entry e. absurd (cc); noted_seen = λ n e. absurd (cc); helped = λ n e. absurd (cc) };
  hands = λ i h e. absurd (some-ne-none h (sym e));
  cursors = λ c e. absurd (cc);
  covers = λ c k declared entry unit e. absurd (cc);
  takes = tt;
  found_empty = λ f e. absurd (cc);
  stopped = (omega arith, λ d withdrawn entry from low. absurd (omega arith));
  last_word = unswept_last w.word unmarked;
  is_holder = ((λ h. absurd (cc)), (λ h. absurd (free h)));
  at_word = λ h e. absurd (cc);
  idles = λ h e. absurd (cc);
  scans = λ h e. absurd (cc);
  cuts = λ h e. absurd (cc);
  gives = λ h e. absurd (cc);
  victims = λ h withdrawn entry unit e. absurd (cc);
  meets = λ i k met e. absurd (cc);
  costs = λ i c e. absurd (some-ne-none c (sym e));
}

-- ---- what a change of views keeps

-- the accounts are elsewhere, and nothing else is changed
pub regrouped : (key : Key) (m : ℕ → ℕ → ℕ) (w : World) (views after : List View) (owner : ℕ → ℕ × ℕ) → Shared key m w views
    → total (λ u. length u.hands) after ≡ total (λ u. length u.hands) views → total (λ u. length u.accounts) after ≡ total (λ u. length u.accounts) views
    → InHands w.uses after → IsSeat w.holder after → Shared key m (record w { owner = owner }) after
regrouped key m w views after owner s hands accounts in_hands sweeper = record {
  key_part = s.key_part;
  log = s.log;
  notes = s.notes;
  accounts = s.accounts;
  uses = s.uses;
  stamps = s.stamps;
  codes = s.codes;
  counts = subst (CountsPart key (m TAKE) (m PUT) w.log w.returned w.taken w.put) (sym hands) s.counts;
  ring = s.ring;
  chains = s.chains;
  links = s.links;
  sweep = s.sweep;
  reclaimed = s.reclaimed;
  floors = s.floors;
  sessions = accounts ∙ s.sessions;
  in_hands = in_hands;
  sweeper = sweeper;
}

pub owned_fits : (key : Key) (m : ℕ → ℕ → ℕ) (w : World) (owner : ℕ → ℕ × ℕ) (id : ℕ) (v : View) → Fits key m w id v
    → ((i : ℕ) (a : Account) → At v.accounts i a → Owned key.sizes.callers w.accounts owner id i a) → Fits key m (record w { owner = owner }) id v
owned_fits key m w owner id v f owns = record {
  knows = f.knows;
  owns = owns;
  saw = f.saw;
  has_sessions = f.has_sessions;
  rows = f.rows;
  found = f.found;
  exchanges = f.exchanges;
  fits_pin = f.fits_pin;
  pinned = f.pinned;
  above_floor = f.above_floor;
  helps = f.helps;
  hands = f.hands;
  cursors = f.cursors;
  covers = f.covers;
  takes = f.takes;
  found_empty = f.found_empty;
  stopped = f.stopped;
  last_word = f.last_word;
  is_holder = f.is_holder;
  at_word = f.at_word;
  idles = f.idles;
  scans = f.scans;
  cuts = f.cuts;
  gives = f.gives;
  victims = f.victims;
  meets = f.meets;
  costs = f.costs;
}

pub more_in_hands : (uses : ℕ → Use) (views : List View) (w : View) → InHands uses views → InHands uses (views ++ w ∷ [])
more_in_hands uses views w all entry seat i is = let old = all entry seat i is in (old.0, old.1, at_longer views (w ∷ []) seat old.0 old.2, old.3, old.4)

pub more_is_seat : (holder : Option ℕ) (views : List View) (w : View) → IsSeat holder views → IsSeat holder (views ++ w ∷ [])
more_is_seat holder views w seats seat is = let old = seats seat is in (old.0, at_longer views (w ∷ []) seat old.0 old.1)

pub total_split : (f : View → ℕ) (views : List View) (id : ℕ) (v left right : View) → get_elem? views id ≡ some v → f left + f right ≡ f v → total f (set views id left ++ right ∷ []) ≡ total f views
total_split f views id v left right at parts = let a = total_moves f views id v left at in let b = total_snoc f (set views id left) right in omega arith

past_end : {A : Type 0} (l : List A) (a : A) → get_elem? l (length l) ≡ some a → ⊥
past_end [] a e = some-ne-none a (sym e)
past_end (x ∷ xs) a e = past_end xs a e

-- a new seat does not hold the sweep
no_holder : (holder : Option ℕ) (views : List View) → IsSeat holder views → holder ≡ Some (length views) → ⊥
no_holder holder views seats is = let s = seats (length views) is in past_end views s.0 s.1

-- ---- splitting

first_there : (l : List Account) (i : ℕ) (a : Account) → At (take 1 l) i a → (i ≡ 0) × At l 0 a
first_there [] i a e = absurd (some-ne-none a (sym e))
first_there (x ∷ xs) zero a e = (refl, e)
first_there (x ∷ xs) (suc i) a e = absurd (some-ne-none a (sym e))

later_there : (l : List Account) (i : ℕ) → get_elem? (drop 1 l) i ≡ get_elem? l (suc i)
later_there [] i = refl
later_there (x ∷ xs) i = refl

cut_length : (l : List Account) → length (take 1 l) + length (drop 1 l) ≡ length l
cut_length [] = refl
cut_length (x ∷ xs) = omega arith

-- a seat that has done nothing yet
pub splits : (key : Key) (id : ℕ) (accounts : List Account) → Splits (Kept key) id (blank key accounts) (head_part (blank key accounts)) (tail_part (blank key accounts))
splits key id accounts s k at =
    let i = k.inv in let w : World = k.world in let m : ℕ → ℕ → ℕ = mem (sizes key) s.words in let new : ℕ = length s.views in let owner : ℕ → ℕ × ℕ = cut w.owner id new in
    let w' : World = record w { owner = owner } in let v : View = blank key accounts in let left : View = head_part v in let right : View = tail_part v in
    let f = fits_of key m w s.views i id v at in let sh = shared_of key m w s.views i in
    let pins : (n : ℕ) (a : Account) → At accounts n a → m PIN a.number ≡ 0 = λ n a e. f.pinned n a e ∙ cond_zero (eqb n 0) 0 refl in
    let hands : total (λ u. length u.hands) (set s.views id left ++ right ∷ []) ≡ total (λ u. length u.hands) s.views = total_split (λ u. length u.hands) s.views id v left right at refl in
    let sessions : total (λ u. length u.accounts) (set s.views id left ++ right ∷ []) ≡ total (λ u. length u.accounts) s.views = total_split (λ u. length u.accounts) s.views id v left right at (cut_length accounts) in record {
      wide = k.wide;
      world = w';
      inv = inv_of key m w' (set s.views id left ++ right ∷ [])
          (regrouped key m w s.views (set s.views id left ++ right ∷ []) owner sh hands sessions
          (more_in_hands w.uses (set s.views id left) right (set_in_hands w.uses s.views id v left refl at i.in_hands))
          (more_is_seat w.holder (set s.views id left) right (set_is_seat w.holder s.views id v left at i.sweeper)))
          (each_split (Fits key m w) (Fits key m w') s.views id left right (fits_of key m w s.views i)
          (λ j d ne g. owned_fits key m w owner j d g (λ n a e. let o = g.owns n a e in record { below = o.below; owner_is = cut-else w.owner id new a.number j n o.owner_is ne; rows_are = o.rows_are }))
          (unseated_fits key m w' id key true (take 1 accounts) [] (λ _. refl) (λ off. absurd (cc))
          (λ n a e. let h = first_there accounts n a e in let o = f.owns 0 a h.1 in
          record { below = o.below; owner_is = cut-first w.owner id new a.number o.owner_is ∙ ap (λ (z : ℕ). let x : ℕ × ℕ = (id, z) in x) (sym h.0); rows_are = o.rows_are })
          (λ n j a row e there. let h = first_there accounts n a e in f.rows.below 0 j a row h.1 there)
          (λ n a e. let h = first_there accounts n a e in pins 0 a h.1)
          (λ h. let b : false ≡ true = f.is_holder.1 h in absurd (cc)) i.sweep.unmarked)
          (unseated_fits key m w' new key true (drop 1 accounts) [] (λ _. refl) (λ off. absurd (cc))
          (λ n a e. let o = f.owns (suc n) a (sym (later_there accounts n) ∙ e) in record { below = o.below; owner_is = cut-later w.owner id new a.number n o.owner_is; rows_are = o.rows_are })
          (λ n j a row e there. f.rows.below (suc n) j a row (sym (later_there accounts n) ∙ e) there)
          (λ n a e. pins (suc n) a (sym (later_there accounts n) ∙ e))
          (no_holder w.holder s.views i.sweeper) i.sweep.unmarked));
    }

-- a copy of the accounts, of which the rule says nothing
pub seals : (key : Key) (id : ℕ) (v : View) → Splits (Kept key) id v v (sealing v)
seals key id v s k at =
    let i = k.inv in let w : World = k.world in let m : ℕ → ℕ → ℕ = mem (sizes key) s.words in let right : View = sealing v in let sh = shared_of key m w s.views i in
    let hands : total (λ u. length u.hands) (set s.views id v ++ right ∷ []) ≡ total (λ u. length u.hands) s.views = total_split (λ u. length u.hands) s.views id v v right at (omega arith) in
    let sessions : total (λ u. length u.accounts) (set s.views id v ++ right ∷ []) ≡ total (λ u. length u.accounts) s.views = total_split (λ u. length u.accounts) s.views id v v right at (omega arith) in record {
      wide = k.wide;
      world = w;
      inv = inv_of key m w (set s.views id v ++ right ∷ [])
          (regrouped key m w s.views (set s.views id v ++ right ∷ []) w.owner sh hands sessions
          (more_in_hands w.uses (set s.views id v) right (set_in_hands w.uses s.views id v v refl at i.in_hands))
          (more_is_seat w.holder (set s.views id v) right (set_is_seat w.holder s.views id v v at i.sweeper)))
          (each_split (Fits key m w) (Fits key m w) s.views id v right (fits_of key m w s.views i) (λ j d ne g. g) (fits_of key m w s.views i id v at)
          (unseated_fits key m w (length s.views) v.key false [] v.accounts (λ h. absurd (cc)) (λ off. refl)
          (λ n a e. absurd (some-ne-none a (sym e))) (λ n j a row e. absurd (some-ne-none a (sym e))) (λ n a e. absurd (some-ne-none a (sym e)))
          (no_holder w.holder s.views i.sweeper) i.sweep.unmarked));
    }
