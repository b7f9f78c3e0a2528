-- A snapshot that opens.
use Rattle.std.proofs.Common.{◌≡◌, ℕ, zero, suc, ◌+◌, ◌<◌, ◌≤◌, ◌==◌, Bool, true, false, cond, nat_lt, List, [], ◌∷◌, ◌++◌, length, length-append, append_assoc, replicate, count_by, Option, None, Some, refl, sym, ap, ◌∙◌, subst, arith, lt-ltb}
use Rattle.std.proofs.lemmas.Bool.{le-leb}
use Rattle.std.proofs.lemmas.List.Sums.{sum_by-append, sum_by-cons}
use Rattle.reg_model.specs.declared.update.Update.{Update}
use Rattle.reg_model.specs.declared.update.Update.TheVariants.{Decl, Wd}
use Rattle.reg_rule.specs.declared.told.Told.TheVariants.{Nothing, Opens}
use Rattle.reg_rule.specs.declared.view.Place.{Place}
use Rattle.reg_rule.specs.declared.view.View.{View}
use Rattle.reg_rule.specs.Helping.{helped_up_to}
use Rattle.reg_rule.specs.declared.view.Holding.{Holding}
use Rattle.reg_rule.specs.Moves.{pinned, at_seen_accounts, marked_at}
use Rattle.reg_commit.specs.Fronts.{FrontFound}
use Rattle.reg_commit.specs.Helps.{help_steps}
use Rattle.reg_query.specs.Snapshots.{IsCompleted, Begun, is_look, is_log_load}

pub same_cond : {A : Type 0} (b : Bool) (x : A) → cond b x x ≡ x
same_cond true x = refl
same_cond false x = refl

pub count_append : (p : ℕ → Bool) (xs ys : List ℕ) → count_by p (xs ++ ys) ≡ count_by p xs + count_by p ys
count_append p xs ys = sum_by-append (λ (k : ℕ). cond {A = ℕ} (p k) 1 0) xs ys

pub count_cons : (p : ℕ → Bool) (x : ℕ) (xs : List ℕ) → count_by p (x ∷ xs) ≡ cond {A = ℕ} (p x) 1 0 + count_by p xs
count_cons p x xs = sum_by-cons (λ (k : ℕ). cond {A = ℕ} (p k) 1 0) x xs

all_loads : (n : ℕ) → count_by is_log_load (replicate n 1) ≡ n
all_loads zero = refl
all_loads (suc n) = let h = all_loads n in let e = count_cons is_log_load 1 (replicate n 1) in omega arith

no_looks : (n : ℕ) → count_by is_look (replicate n 1) ≡ 0
no_looks zero = refl
no_looks (suc n) = let h = no_looks n in omega arith

help_loads : (base : ℕ) (u : Update) → count_by is_log_load (help_steps base u) ≤ 1
help_loads base (Decl unit) = omega arith
help_loads base (Wd id) = by (nat_lt id base) where
  by : (b : Bool) → count_by is_log_load (cond {A = List ℕ} b (6 ∷ []) (1 ∷ 6 ∷ [])) ≤ 1
  by true = omega arith
  by false = omega arith

help_looks : (base : ℕ) (u : Update) → count_by is_look (help_steps base u) ≤ 1
help_looks base (Decl unit) = omega arith
help_looks base (Wd id) = by (nat_lt id base) where
  by : (b : Bool) → count_by is_look (cond {A = List ℕ} b (6 ∷ []) (1 ∷ 6 ∷ [])) ≤ 1
  by true = omega arith
  by false = omega arith

none_to_help : (o : Option ℕ) → helped_up_to o 0 ≡ true
none_to_help None = refl
none_to_help (Some n) = le-leb 0 (n + 1) (omega arith)

same_accounts : (b : Bool) (u : View) (s : Option ℕ) → cond b u.accounts (at_seen_accounts Nothing u s) ≡ u.accounts
same_accounts true u s = refl
same_accounts false u None = refl
same_accounts false u (Some k) = refl

still_none : (b : Bool) (h : Option Holding) (n : ℕ) → h ≡ None → cond b (marked_at h n) h ≡ None
still_none true h n e = ap (λ (o : Option Holding). marked_at o n) e
still_none false h n e = e

-- what the front leaves
module _ (v u : View) (k : ℕ) (f : FrontFound Opens (pinned v) k u) where
  pub front_log : u.log ≡ v.log ++ f.places
  front_log = ap (λ (z : View). z.log) f.view

  pub front_length : length u.log ≡ k
  front_length = ap (λ (l : List Place). length l) front_log ∙ (length-append v.log f.places ∙ sym f.front_is)

  pub front_is : u.front ≡ Some k
  front_is = ap (λ (z : View). z.front) f.view ∙ ap (λ (b : Bool). cond {A = Option ℕ} b (Some k) None) (lt-ltb 0 (length v.log + 1) (omega arith))

  pub front_pinned : 0 < u.pin
  front_pinned = let e = ap (λ (z : View). z.pin) f.view in omega arith

  pub front_room : k ≤ u.key.sizes.log
  front_room = let r = f.seen.room in let e = ap (λ (z : View). z.key.sizes.log) f.view in let l = front_length in omega arith

  pub front_key : u.key ≡ v.key
  front_key = ap (λ (z : View). z.key) f.view

  made_so : u.made ≡ (v.made ++ 17 ∷ []) ++ replicate f.loads 1
  made_so = ap (λ (z : View). z.made) f.view

  one_caller : v.key.sizes.callers ≡ 1 → k ≡ length v.log
  one_caller single = let none = ap length (f.alone single) in let e = f.front_is in omega arith

  joined : (made rest : List ℕ) → (made ++ 17 ∷ []) ++ rest ≡ made ++ (17 ∷ rest)
  joined made rest = append_assoc made (17 ∷ []) rest

  module _ (w : View) (is : IsCompleted k u w) where
    at_first : k ≡ 0 → Begun v k w
    at_first none = let same = is.0 none in
        let here : w.made ≡ v.made ++ (17 ∷ replicate f.loads 1) = ap (λ (z : View). z.made) same ∙ (made_so ∙ joined v.made (replicate f.loads 1)) in
        record {
          found = (u, f, is);
          opens = record {
            snapshot = ap (λ (z : View). z.snapshot) (same ∙ f.view);
            pinned = subst (λ (z : View). 0 < z.pin) (sym same) front_pinned;
            helped = subst (λ (n : ℕ). helped_up_to w.helped n ≡ true) (sym none) (none_to_help w.helped);
            inside = omega arith;
            within = subst (λ (z : View). k ≤ z.key.sizes.log) (sym same) front_room;
          };
          later = (let e = f.front_is in omega arith);
          seen = ap (λ (z : View). length z.log) same ∙ front_length;
          alone = one_caller;
          kept = λ n low h. ap (λ (z : View). helped_up_to z.helped n) (same ∙ f.view) ∙ h;
          accounts = ap (λ (z : View). z.accounts) (same ∙ f.view);
          costs = ap (λ (z : View). z.costs) (same ∙ f.view);
          pin = ap (λ (z : View). z.pin) (same ∙ f.view);
          hands = ap (λ (z : View). z.hands) (same ∙ f.view);
          committed = ap (λ (z : View). z.committed) (same ∙ f.view);
          taking = (ap (λ (z : View). z.taking) (same ∙ f.view), ap (λ (z : View). z.empty) (same ∙ f.view));
          sweeps = (ap (λ (z : View). z.sweeps) (same ∙ f.view), ap (λ (z : View). z.stopped) (same ∙ f.view), ap (λ (z : View). z.last_word) (same ∙ f.view));
          holding = (λ e. ap (λ (z : View). z.holding) (same ∙ f.view) ∙ ap (λ (o : Option Holding). marked_at o k) e);
          steps = 17 ∷ replicate f.loads 1;
          made = here;
          loads = (let a = all_loads f.loads in let b = f.few in let c = f.front_is in omega arith);
          looks = (let a = no_looks f.loads in omega arith);
        }

    more_steps : (made loads help : List ℕ) → (((made ++ 17 ∷ []) ++ loads) ++ 1 ∷ []) ++ help ≡ made ++ (17 ∷ (loads ++ (1 ∷ help)))
    more_steps made loads help = append_assoc ((made ++ 17 ∷ []) ++ loads) (1 ∷ []) help ∙ (append_assoc (made ++ 17 ∷ []) loads (1 ∷ help) ∙ append_assoc made (17 ∷ []) (loads ++ (1 ∷ help)))

    behind : (n : ℕ) → k ≡ n + 1 → Begun v k w
    behind n some =
        let h = is.1 n some in let p = h.0 in
        let help = help_steps u.key.carried.base p.update in
        let log : w.log ≡ u.log = ap (λ (z : View). z.log) h.2 in
        record {
          found = (u, f, is);
          opens = record {
            snapshot = ap (λ (z : View). z.snapshot) h.2 ∙ (same_cond (length u.log == u.key.sizes.log) u.snapshot ∙ ap (λ (z : View). z.snapshot) f.view);
            pinned = subst (λ (z : View). 0 < z.pin) (sym h.2) front_pinned;
            helped = ap (λ (z : View). helped_up_to z.helped k) h.2 ∙ le-leb k (n + 1) (omega arith);
            inside = (let a = front_length in let b = ap (λ (l : List Place). length l) log in omega arith);
            within = subst (λ (z : View). k ≤ z.key.sizes.log) (sym h.2) front_room;
          };
          later = (let e = f.front_is in omega arith);
          seen = ap length log ∙ front_length;
          alone = one_caller;
          kept = λ m low before. ap (λ (z : View). helped_up_to z.helped m) h.2 ∙ le-leb m (n + 1) (let e = f.front_is in omega arith);
          accounts = ap (λ (z : View). z.accounts) h.2 ∙ (same_accounts (length u.log == u.key.sizes.log) u u.snapshot ∙ ap (λ (z : View). z.accounts) f.view);
          costs = ap (λ (z : View). z.costs) h.2 ∙ ap (λ (z : View). z.costs) f.view;
          pin = ap (λ (z : View). z.pin) h.2 ∙ ap (λ (z : View). z.pin) f.view;
          hands = ap (λ (z : View). z.hands) h.2 ∙ ap (λ (z : View). z.hands) f.view;
          committed = ap (λ (z : View). z.committed) h.2 ∙ ap (λ (z : View). z.committed) f.view;
          taking = (ap (λ (z : View). z.taking) h.2 ∙ ap (λ (z : View). z.taking) f.view, ap (λ (z : View). z.empty) h.2 ∙ ap (λ (z : View). z.empty) f.view);
          sweeps = (ap (λ (z : View). z.sweeps) h.2 ∙ ap (λ (z : View). z.sweeps) f.view, ap (λ (z : View). z.stopped) h.2 ∙ ap (λ (z : View). z.stopped) f.view, ap (λ (z : View). z.last_word) h.2 ∙ ap (λ (z : View). z.last_word) f.view);
          holding = (λ e. ap (λ (z : View). z.holding) h.2 ∙ still_none (length u.log == u.key.sizes.log) u.holding u.key.sizes.log (ap (λ (z : View). z.holding) f.view ∙ ap (λ (o : Option Holding). marked_at o k) e));
          steps = 17 ∷ (replicate f.loads 1 ++ (1 ∷ help));
          made = ap (λ (z : View). z.made) h.2 ∙ (ap (λ (l : List ℕ). (l ++ 1 ∷ []) ++ help) made_so ∙ more_steps v.made (replicate f.loads 1) help);
          loads = (let a = all_loads f.loads in let b = f.few in let c = f.front_is in let d = help_loads u.key.carried.base p.update in let e = count_append is_log_load (replicate f.loads 1) (1 ∷ help) in let x = count_cons is_log_load 17 (replicate f.loads 1 ++ (1 ∷ help)) in let y = count_cons is_log_load 1 help in let g = front_length in let l = ap (λ (l : List Place). length l) log in omega arith);
          looks = (let a = no_looks f.loads in let d = help_looks u.key.carried.base p.update in let e = count_append is_look (replicate f.loads 1) (1 ∷ help) in let x = count_cons is_look 17 (replicate f.loads 1 ++ (1 ∷ help)) in let y = count_cons is_look 1 help in omega arith);
        }

    pub begun : Begun v k w
    begun = by k refl where
      by : (m : ℕ) → k ≡ m → Begun v k w
      by zero e = at_first e
      by (suc m) e = behind m (omega arith)
