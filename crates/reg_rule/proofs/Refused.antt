-- Where the ring was found empty (kind 10), and the row that says so (kind 1).
use Rattle.std.proofs.Common.{◌≡◌, ℕ, zero, suc, ◌+◌, ◌-◌, ◌<◌, ◌≤◌, List, [], ◌∷◌, length, take, count_by, cond, not, Bool, sym, refl, ap, ◌∙◌, subst, arith}
use mathlib.Core.Option.{some, some-injective, some-ne-none}
use lib.ListN.{get_elem?}
use Rattle.reg_model.specs.declared.update.Update.{Update}
use Rattle.reg_model.specs.declared.update.Update.TheVariants.{Decl, Wd}
use Rattle.reg_model.specs.Live.{declarations, withdrawals, is_declaration}
use Rattle.reg_model.specs.Replies.{AllEntriesHeld}
use Rattle.reg_rule.specs.declared.view.Key.{Key}
use Rattle.reg_rule.specs.declared.view.Place.{Place}
use Rattle.reg_rule.specs.declared.view.Empty.{Empty}
use Rattle.reg_rule.specs.declared.view.View.{View}
use Rattle.reg_rule.specs.Log.{updates, place_of, IsWd, NoneWithdrawn}
use Rattle.reg_rule.specs.inner.SeatParts.{Each, total, HasSessions}
use Rattle.reg_rule.specs.inner.Entries.{CountsPart}
use Rattle.reg_rule.specs.inner.Takers.{EmptyFits, TakingFits, Stopped}
use Rattle.reg_rule.specs.declared.view.Taking.TheVariants.{Begun}
use Rattle.reg_rule.specs.inner.Rule.{KeyPart}
use Rattle.reg_rule.proofs.Costs.{sum_cons}

-- ---- counts over the first places of a log

count_cons : (p : Update → Bool) (x : Place) (l : List Place) → count_by p (updates (x ∷ l)) ≡ cond {A = ℕ} (p x.update) 1 0 + count_by p (updates l)
count_cons p x l = sum_cons (λ (u : Update). cond {A = ℕ} (p u) 1 0) x.update (updates l)

pub count_take : (p : Update → Bool) (log : List Place) (a b : ℕ) → a ≤ b → count_by p (updates (take a log)) ≤ count_by p (updates (take b log))
count_take p log zero b h = omega arith
count_take p [] (suc a) b h = let e : take {A = Place} b [] ≡ [] = take_none b in let g : count_by p (updates (take b [])) ≡ count_by p (updates []) = ap (λ (l : List Place). count_by p (updates l)) e in omega arith where
  take_none : (b : ℕ) → take {A = Place} b [] ≡ []
  take_none zero = refl
  take_none (suc b) = refl
count_take p (x ∷ log) (suc a) zero h = absurd (omega arith)
count_take p (x ∷ log) (suc a) (suc b) h = let g = count_take p log a b (omega arith) in let c = count_cons p x (take a log) in let d = count_cons p x (take b log) in omega arith

take_whole : {A : Type 0} (l : List A) → take (length l) l ≡ l
take_whole {A} [] = refl
take_whole {A} (x ∷ l) = ap (λ (z : List A). x ∷ z) (take_whole l)

pub count_whole : (p : Update → Bool) (log : List Place) (a : ℕ) → count_by p (updates (take a log)) ≤ count_by p (updates log)
count_whole p log zero = omega arith
count_whole p [] (suc a) = omega arith
count_whole p (x ∷ log) (suc a) = let g = count_whole p log a in let c = count_cons p x (take a log) in let d = count_cons p x log in omega arith

-- where no place between is a withdrawal, the counts of withdrawals agree
pub none_between : (log : List Place) (a b : ℕ) → NoneWithdrawn log a b → withdrawals (updates (take b log)) ≤ withdrawals (updates (take a log))
none_between log a zero none = omega arith
none_between [] a (suc b) none = omega arith
none_between (x ∷ log) zero (suc b) none = let g = none_between log 0 b (λ d id entry h l wd. none (suc d) id entry (omega arith) (omega arith) wd) in
    let c = count_cons (λ u. not (is_declaration u)) x (take b log) in let no : cond {A = ℕ} (not (is_declaration x.update)) 1 0 ≡ 0 = no_wd x.update refl in omega arith where
      no_wd : (u : Update) → x.update ≡ u → cond {A = ℕ} (not (is_declaration u)) 1 0 ≡ 0
      no_wd (Decl unit) is = refl
      no_wd (Wd id) is = absurd (none 0 id x.entry (omega arith) (omega arith) (ap (λ (v : Update). some (place_of v x.entry)) is))
none_between (x ∷ log) (suc a) (suc b) none = let g = none_between log a b (λ d id entry h l wd. none (suc d) id entry (omega arith) (omega arith) wd) in
    let c = count_cons (λ u. not (is_declaration u)) x (take b log) in let e = count_cons (λ u. not (is_declaration u)) x (take a log) in omega arith

-- a withdrawal is one more
pub count_through : (log : List Place) (d id entry : ℕ) → IsWd log d id entry → withdrawals (updates (take (d + 1) log)) ≡ withdrawals (updates (take d log)) + 1
count_through log d id entry wd = subst (λ (n : ℕ). withdrawals (updates (take n log)) ≡ withdrawals (updates (take d log)) + 1) (let e : suc d ≡ d + 1 = omega arith in e) (through log d wd) where
  through : (log : List Place) (d : ℕ) → IsWd log d id entry → withdrawals (updates (take (suc d) log)) ≡ withdrawals (updates (take d log)) + 1
  through [] d wd = absurd (some-ne-none _ (sym wd))
  through (p ∷ log) zero wd = let a = count_cons (λ u. not (is_declaration u)) p [] in
      let b : cond {A = ℕ} (not (is_declaration p.update)) 1 0 ≡ 1 = ap (λ (q : Place). cond {A = ℕ} (not (is_declaration q.update)) 1 0) (some-injective p _ wd) in omega arith
  through (p ∷ log) (suc d) wd = let a = count_cons (λ u. not (is_declaration u)) p (take (suc d) log) in let b = count_cons (λ u. not (is_declaration u)) p (take d log) in
      let c = through log d wd in omega arith

-- ---- hands

-- a seat with a session and nothing in hand leaves an entry for no more than the others' sessions
pub hands_below : (views : List View) (id : ℕ) (v : View) → Each views HasSessions → get_elem? views id ≡ some v → v.hands ≡ [] → 0 < length v.accounts
    → total (λ u. length u.hands) views < total (λ u. length u.accounts) views
hands_below views id v fit at none session = strict views id fit at where
  all_le : (vs : List View) → Each vs HasSessions → total (λ u. length u.hands) vs ≤ total (λ u. length u.accounts) vs
  all_le [] fit = omega arith
  all_le (x ∷ vs) fit = let a = (fit 0 x refl).hands_most in let b = all_le vs (λ j d e. fit (suc j) d e) in omega arith

  strict : (vs : List View) (j : ℕ) → Each vs HasSessions → get_elem? vs j ≡ some v → total (λ u. length u.hands) vs < total (λ u. length u.accounts) vs
  strict [] j fit e = absurd (some-ne-none v (sym e))
  strict (x ∷ vs) zero fit e = let b = all_le vs (λ j d e. fit (suc j) d e) in let same = some-injective x v e in
      let c : length x.hands ≡ 0 = ap (λ (u : View). length u.hands) same ∙ ap length none in let d : length x.accounts ≡ length v.accounts = ap (λ (u : View). length u.accounts) same in omega arith
  strict (x ∷ vs) (suc j) fit e = let a = (fit 0 x refl).hands_most in let b = strict vs j (λ j d e. fit (suc j) d e) e in omega arith

-- ---- kind 10

pub found_empty_fits : (key : Key) (takes puts ring : ℕ → ℕ) (log : List Place) (returned taken put t found : ℕ) (views : List View) (id : ℕ) (v : View)
    → KeyPart key → CountsPart key takes puts log returned taken put (total (λ u. length u.hands) views) → returned ≤ length log
    → total (λ u. length u.accounts) views ≡ key.sizes.callers → Each views HasSessions → get_elem? views id ≡ some v → v.hands ≡ [] → 0 < length v.accounts
    → v.taking ≡ Begun t → TakingFits taken put ring v.taking → puts 0 ≡ found → found ≡ t → Stopped log returned id v
    → EmptyFits key log (record { taken = t; front = length log; stopped = v.stopped })
found_empty_fits key takes puts ring log returned taken put t found views id v ok counts low sessions fit at none session begun fits is same stopped =
    let t_low : t ≤ taken = subst (TakingFits taken put ring) begun fits in
    let a = counts.took in let b = counts.gave in let c = counts.room in let p = counts.put_word in let e = ok.entries in
    let all : take (length log) log ≡ log = take_whole log in
    let decls : declarations (updates (take (length log) log)) ≡ declarations (updates log) = ap (λ (l : List Place). declarations (updates l)) all in
    let wds : withdrawals (updates (take (length log) log)) ≡ withdrawals (updates log) = ap (λ (l : List Place). withdrawals (updates l)) all in
    let few = hands_below views id v fit at none session in
    let given : withdrawals (updates (take returned log)) ≤ withdrawals (updates log) = count_whole (λ (u : Update). not (is_declaration u)) log returned in
    let back : withdrawals (updates (take v.stopped log)) ≤ withdrawals (updates (take returned log)) = none_between log returned v.stopped stopped.1 in
    record {
      front = omega arith;
      stop = stopped.0;
      declared = omega arith;
      hands = omega arith;
      given = omega arith;
      swept = omega arith;
    }

-- ---- the row: all entries are held at the place where the walk stops

pub all_held : (key : Key) (log : List Place) (e : Empty) (p : ℕ) → KeyPart key → EmptyFits key log e → e.front ≤ p
    → declarations (updates (take p log)) ≤ e.taken
    -- of a round with one caller, which has seen no more than its sweep
    → (key.sizes.callers ≡ 1 → p ≤ e.stopped)
    → AllEntriesHeld key.sizes key.carried (updates (take p log)) ((e.taken + length key.carried.list) - key.sizes.entries)
all_held key log e p ok fits later few alone =
    let a = fits.declared in let b = fits.hands in let c = fits.given in let d = fits.swept in
    let more : declarations (updates (take e.front log)) ≤ declarations (updates (take p log)) = count_take is_declaration log e.front p later in
    let wds : withdrawals (updates (take e.front log)) ≤ withdrawals (updates (take p log)) = count_take (λ (u : Update). not (is_declaration u)) log e.front p later in
    record {
      taken = omega arith;
      in_hands = omega arith;
      withdrawn = omega arith;
      alone = λ one. let s = alone one in
          let back : withdrawals (updates (take p log)) ≤ withdrawals (updates (take e.stopped log)) = count_take (λ (u : Update). not (is_declaration u)) log p e.stopped s in omega arith;
    }
