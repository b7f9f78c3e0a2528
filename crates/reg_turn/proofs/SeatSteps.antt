-- Dealing, gathering and keeping seats keep the rule, which holds at the start.
use Rattle.std.proofs.Common.{◌≡◌, ◌≢◌, ℕ, zero, suc, ◌+◌, ◌-◌, ◌<◌, eqb, ltb, cond, Bool, ◌&&◌, List, [], ◌∷◌, ◌++◌, length, take, drop, get_or, set, replicate, Some, sym, ap, ◌∙◌, refl, subst, ⊎_elim, arith, false, length-set, eq-eqb, ne_eqb, lt-ltb, zero-add}
use Rattle.std.specs.Prelude.{slice_get, All}
use mathlib.Core.Option.{some, some-injective, some-ne-none}
use lib.ListN.{get_elem?}
use Rattle.std.proofs.lemmas.List.{length-replicate}
use Rattle.atomic_table.specs.Table.{State, opening, Splits, Joins}
use Rattle.atomic_table.proofs.Lists.{set_again, set_else, at_longer, at_snoc}
use Rattle.reg_model.specs.declared.update.Update.{Update}
use Rattle.reg_model.specs.declared.reply.Row.{Row}
use Rattle.reg_model.proofs.AccountSteps.{empty_share, no_rows}
use Rattle.reg_turn.specs.PlainRows.{IsPlainRow}
use Rattle.reg_turn.specs.declared.view.Account.{Account}
use Rattle.reg_turn.specs.declared.view.Key.{Key}
use Rattle.reg_turn.specs.declared.view.View.{View}
use Rattle.reg_turn.specs.inner.OneTurn.{Slot, at_log, Owned, Fits, Holds, Kept, newcomers, first_view}
use Rattle.reg_turn.specs.inner.Steps.{head_part, tail_part, joined, nobody, sealing}
use Rattle.reg_turn.proofs.Views.{views_after, at_push}

abbrev St : Type 0
St = State Slot View

-- a view that says nothing but what it keeps fits
unfit : (key : Key) (log : List Update) (accounts : List (List Row)) (owner : ℕ → ℕ × ℕ) (holder turn id : ℕ) (about : Key) (kept : List Account)
    → Fits key log accounts owner holder turn id (record nobody { key = about; sealed = kept })
unfit key log accounts owner holder turn id about kept = record {
  knows = λ h. absurd (cc (h));
  owns = λ i a e. absurd (some-ne-none a (sym e));
  seen = omega arith;
  holding = λ h. absurd (cc (h));
}

-- a seat that hasn't the turn isn't its holder
not_holder : (s : St) (holder id : ℕ) (v : View) → Holds s.views holder → get_elem? s.views id ≡ some v → v.holds ≡ false → holder ≢ id
not_holder s holder id v h at rests same =
    let one : some h.view ≡ some v = sym h.at ∙ (ap (get_elem? s.views) same ∙ at) in
    let is : h.view ≡ v = some-injective _ _ one in
    absurd (cc (h.holds, rests, ap (λ (x : View). x.holds) is))

-- ---- dealing

-- where each session's account is, once the seat was cut behind its first account
abbrev cut : (ℕ → ℕ × ℕ) → ℕ → ℕ → ℕ → ℕ × ℕ
cut owner id new m = cond (eqb (owner m).0 id && ltb 0 (owner m).1) (new, (owner m).1 - 1) (owner m)

cut-else : (owner : ℕ → ℕ × ℕ) (id new m j i : ℕ) → owner m ≡ (j, i) → j ≢ id → cut owner id new m ≡ (j, i)
cut-else owner id new m j i e ne = ap (λ (z : ℕ × ℕ). cond (eqb z.0 id && ltb 0 z.1) (let x : ℕ × ℕ = (new, z.1 - 1) in x) z) e ∙ ap (λ (b : Bool). cond (b && ltb 0 i) (let x : ℕ × ℕ = (new, i - 1) in x) (let x : ℕ × ℕ = (j, i) in x)) (ne_eqb j id ne)

cut-first : (owner : ℕ → ℕ × ℕ) (id new m : ℕ) → owner m ≡ (id, 0) → cut owner id new m ≡ (id, 0)
cut-first owner id new m e = ap (λ (z : ℕ × ℕ). cond (eqb z.0 id && ltb 0 z.1) (let x : ℕ × ℕ = (new, z.1 - 1) in x) z) e ∙ ap (λ (b : Bool). cond (b && ltb 0 0) (let x : ℕ × ℕ = (new, 0 - 1) in x) (let x : ℕ × ℕ = (id, 0) in x)) (eq-eqb id id refl)

back_one : (i : ℕ) → suc i - 1 ≡ i
back_one i = omega arith

cut-later : (owner : ℕ → ℕ × ℕ) (id new m i : ℕ) → owner m ≡ (id, suc i) → cut owner id new m ≡ (new, i)
cut-later owner id new m i e = ap (λ (z : ℕ × ℕ). cond (eqb z.0 id && ltb 0 z.1) (let x : ℕ × ℕ = (new, z.1 - 1) in x) z) e
    ∙ (ap (λ (b : Bool). cond (b && ltb 0 (suc i)) (let x : ℕ × ℕ = (new, suc i - 1) in x) (let x : ℕ × ℕ = (id, suc i) in x)) (eq-eqb id id refl)
    ∙ (ap (λ (b : Bool). cond b (let x : ℕ × ℕ = (new, suc i - 1) in x) (let x : ℕ × ℕ = (id, suc i) in x)) (lt-ltb 0 (suc i) (omega arith)) ∙ (λ k. (new, back_one i k))))

first_there : (l : List Account) (i : ℕ) (a : Account) → get_elem? (take 1 l) i ≡ some a → (i ≡ 0) × (get_elem? l 0 ≡ some a)
first_there [] i a e = absurd (some-ne-none a (sym e))
first_there (x ∷ xs) zero a e = (refl, e)
first_there (x ∷ xs) (suc i) a e = absurd (some-ne-none a (sym e))

later_there : (l : List Account) (i : ℕ) → get_elem? (drop 1 l) i ≡ get_elem? l (suc i)
later_there [] i = refl
later_there (x ∷ xs) i = refl

-- a fact of each view, once a seat was cut
each_cut : {V : Type 0} (F G : ℕ → V → Type 0) (vs : List V) (id : ℕ) (left right : V) → ((j : ℕ) (d : V) → get_elem? vs j ≡ some d → F j d)
    → ((j : ℕ) (d : V) → j ≢ id → F j d → G j d) → G id left → G (length vs) right → (j : ℕ) (d : V) → get_elem? (set vs id left ++ right ∷ []) j ≡ some d → G j d
each_cut {V} F G vs id left right all others mine new j d e = ⊎_elim
    (λ old. views_after G vs id left mine (λ i x ne there. others i x ne (all i x there)) j d old)
    (λ (t : (j ≡ length (set vs id left)) × (right ≡ d)). subst (λ (x : ℕ × V). G x.0 x.1) (λ i. (sym (t.0 ∙ length-set vs id left) i, t.1 i)) new)
    (at_push (set vs id left) right d j e)

pub deals : (key : Key) (id : ℕ) (v : View) → v.holds ≡ false → Splits (Kept key) id v (head_part v) (tail_part v)
deals key id v rests s k at =
    let f = k.fits id v at in
    let new : ℕ = length s.views in
    let owner : ℕ → ℕ × ℕ = cut k.owner id new in
    let turn : ℕ = get_or s.words 0 0 in
    record {
      log = k.log;
      accounts = k.accounts;
      owner = owner;
      holder = k.holder;
      wide = k.wide;
      rests = k.rests;
      turn = λ busy. let h = k.turn busy in
          let apart = not_holder s k.holder id v h at rests in
          record {
            view = h.view;
            at = at_longer (set s.views id (head_part v)) (tail_part v ∷ []) k.holder h.view (set_else s.views id k.holder (head_part v) apart ∙ h.at);
            holds = h.holds;
            account = h.account;
          };
      shared = k.shared;
      plain = k.plain;
      callers = k.callers;
      fits = each_cut (Fits key k.log k.accounts k.owner k.holder turn) (Fits key k.log k.accounts owner k.holder turn) s.views id (head_part v) (tail_part v) k.fits
          (λ j d ne g. record {
            knows = g.knows;
            owns = λ i a there. let o = g.owns i a there in record { owner_is = cut-else k.owner id new a.number j i o.owner_is ne; rows_are = o.rows_are };
            seen = g.seen;
            holding = g.holding;
          })
          record {
            knows = f.knows;
            owns = λ i a there.
                let h = first_there v.accounts i a there in
                let o = f.owns 0 a h.1 in
                record { owner_is = cut-first k.owner id new a.number o.owner_is ∙ ap (λ (z : ℕ). let x : ℕ × ℕ = (id, z) in x) (sym h.0); rows_are = o.rows_are };
            seen = f.seen;
            holding = f.holding;
          }
          record {
            knows = f.knows;
            owns = λ i a there.
                let o = f.owns (suc i) a (sym (later_there v.accounts i) ∙ there) in
                record { owner_is = cut-later k.owner id new a.number i o.owner_is; rows_are = o.rows_are };
            seen = f.seen;
            holding = λ h. absurd (cc (h));
          };
    }

-- ---- keeping

pub seals : (key : Key) (id : ℕ) (v : View) → Splits (Kept key) id v v (sealing v)
seals key id v s k at =
    let turn : ℕ = get_or s.words 0 0 in
    subst (λ (vs : List View). Kept key record { words = s.words; homes = s.homes; views = vs ++ sealing v ∷ [] }) (sym (set_again s.views id v at)) record {
      log = k.log;
      accounts = k.accounts;
      owner = k.owner;
      holder = k.holder;
      wide = k.wide;
      rests = k.rests;
      turn = λ busy. let h = k.turn busy in record { view = h.view; at = at_longer s.views (sealing v ∷ []) k.holder h.view h.at; holds = h.holds; account = h.account };
      shared = k.shared;
      plain = k.plain;
      callers = k.callers;
      fits = λ j d e. ⊎_elim (λ old. k.fits j d old)
          (λ is. subst (Fits key k.log k.accounts k.owner k.holder turn j) is (unfit key k.log k.accounts k.owner k.holder turn j v.key v.accounts)) (at_snoc s.views (sealing v) d j e);
    }

-- ---- gathering

-- where each session's account is, once the seat `other` was joined into the seat id, which had n accounts
abbrev moved : (ℕ → ℕ × ℕ) → ℕ → ℕ → ℕ → ℕ → ℕ × ℕ
moved owner id other n m = cond (eqb (owner m).0 other) (id, n + (owner m).1) (owner m)

moved-stays : (owner : ℕ → ℕ × ℕ) (id other n m j i : ℕ) → owner m ≡ (j, i) → j ≢ other → moved owner id other n m ≡ (j, i)
moved-stays owner id other n m j i e ne = ap (λ (b : Bool). cond b (id, n + (owner m).1) (owner m)) (ne_eqb (owner m).0 other (λ h. ne (sym (ap (λ (z : ℕ × ℕ). z.0) e) ∙ h))) ∙ e

moved-goes : (owner : ℕ → ℕ × ℕ) (id other n m i : ℕ) → owner m ≡ (other, i) → moved owner id other n m ≡ (id, n + i)
moved-goes owner id other n m i e = ap (λ (b : Bool). cond b (id, n + (owner m).1) (owner m)) (eq-eqb (owner m).0 other (ap (λ (z : ℕ × ℕ). z.0) e)) ∙ ap (λ (z : ℕ × ℕ). let x : ℕ × ℕ = (id, n + z.1) in x) e

at_joined : {A : Type 0} (F : ℕ → A → Type 0) (l m : List A) → ((i : ℕ) (a : A) → get_elem? l i ≡ some a → F i a) → ((i : ℕ) (a : A) → get_elem? m i ≡ some a → F (length l + i) a)
    → (i : ℕ) (a : A) → get_elem? (l ++ m) i ≡ some a → F i a
at_joined F [] m left right i a e = subst (λ (z : ℕ). F z a) (zero-add i) (right i a e)
at_joined F (x ∷ xs) m left right zero a e = left zero a e
at_joined F (x ∷ xs) m left right (suc i) a e = at_joined (λ j b. F (suc j) b) xs m (λ j b h. left (suc j) b h) (λ j b h. let same : length (x ∷ xs) + j ≡ suc (length xs + j) = omega arith in subst (λ (z : ℕ). F z b) same (right j b h)) i a e

pub gathers : (key : Key) (id other : ℕ) (v w : View) → v.holds ≡ false → w.holds ≡ false → Joins (Kept key) id v other w (joined v w) nobody
gathers key id other v w quiet still s k at apart there =
    let f = k.fits id v at in
    let old : get_elem? s.views other ≡ some w = sym (set_else s.views id other (joined v w) apart) ∙ there in
    let g = k.fits other w old in
    let n : ℕ = length v.accounts in
    let owner : ℕ → ℕ × ℕ = moved k.owner id other n in
    let turn : ℕ = get_or s.words 0 0 in
    let F : ℕ → View → Type 0 = Fits key k.log k.accounts owner k.holder turn in
    record {
      log = k.log;
      accounts = k.accounts;
      owner = owner;
      holder = k.holder;
      wide = k.wide;
      rests = k.rests;
      turn = λ busy. let h = k.turn busy in
          let not_me = not_holder s k.holder id v h at quiet in
          let not_other = not_holder s k.holder other w h old still in
          record {
            view = h.view;
            at = set_else (set s.views id (joined v w)) other k.holder nobody not_other ∙ (set_else s.views id k.holder (joined v w) not_me ∙ h.at);
            holds = h.holds;
            account = h.account;
          };
      shared = k.shared;
      plain = k.plain;
      callers = k.callers;
      fits = views_after F (set s.views id (joined v w)) other nobody (unfit key k.log k.accounts owner k.holder turn other (nobody).key [])
          (λ j d ne e. views_after (λ (i : ℕ) (x : View). i ≢ other → F i x) s.views id (joined v w)
          (λ _. record {
            knows = f.knows;
            owns = at_joined (λ i a. Owned k.accounts owner id i a) v.accounts w.accounts
                (λ i a here. let o = f.owns i a here in record { owner_is = moved-stays k.owner id other n a.number id i o.owner_is (λ z. apart (sym z)); rows_are = o.rows_are })
                (λ i a here. let o = g.owns i a here in record { owner_is = moved-goes k.owner id other n a.number i o.owner_is; rows_are = o.rows_are });
            seen = f.seen;
            holding = f.holding;
          })
          (λ i x not_id here not_other. let h = k.fits i x here in record {
            knows = h.knows;
            owns = λ m a in_it. let o = h.owns m a in_it in record { owner_is = moved-stays k.owner id other n a.number i m o.owner_is not_other; rows_are = o.rows_are };
            seen = h.seen;
            holding = h.holding;
          }) j d e ne);
    }

-- ---- the start

newcomer : (from n i : ℕ) (a : Account) → get_elem? (newcomers from n) i ≡ some a → (a.number ≡ from + i) × (i < n) × (a.rows ≡ [])
newcomer from zero i a e = absurd (some-ne-none a (sym e))
newcomer from (suc n) zero a e =
    let is = some-injective _ _ e in
    (ap (λ (x : Account). x.number) (sym is) ∙ (let z : from ≡ from + 0 = omega arith in z), omega arith, ap (λ (x : Account). x.rows) (sym is))
newcomer from (suc n) (suc i) a e = let h = newcomer (suc from) n i a e in (omega (arith, h.0), omega (arith, h.1), h.2)

empty_at : (n m : ℕ) → m < n → slice_get (replicate {A = List Row} n []) m ≡ Some []
empty_at zero m low = absurd (omega (arith, low))
empty_at (suc n) zero low = refl
empty_at (suc n) (suc m) low = empty_at n m (omega (arith, low))

only_view : {V : Type 0} (F : ℕ → V → Type 0) (v : V) → F 0 v → (j : ℕ) (d : V) → get_elem? (v ∷ []) j ≡ some d → F j d
only_view {V} F v f zero d e = subst (F 0) (some-injective _ _ e) f
only_view {V} F v f (suc j) d e = absurd (some-ne-none d (sym e))

pub opens : (key : Key) → Kept key (opening (0 ∷ []) (Some (at_log key []) ∷ []) (first_view key))
opens key =
    let accounts : List (List Row) = replicate key.sizes.callers [] in
    record {
      log = [];
      accounts = accounts;
      owner = λ m. (0, m);
      holder = 0;
      wide = refl;
      rests = record { home = λ _. refl; out = λ busy. absurd (busy refl) };
      turn = λ busy. absurd (busy refl);
      shared = empty_share key.sizes key.carried;
      plain = subst (All (IsPlainRow key.sizes key.carried [])) (sym (no_rows key.sizes.callers)) (λ k d low. absurd (omega (arith, low)));
      callers = length-replicate {A = List Row} key.sizes.callers [];
      fits = only_view (Fits key [] accounts (λ m. (0, m)) 0 0) (first_view key) record {
        knows = λ _. refl;
        owns = λ i a e. let h = newcomer 0 key.sizes.callers i a e in
            let number : a.number ≡ i = omega (arith, h.0) in
            record { owner_is = ap (λ (z : ℕ). let x : ℕ × ℕ = (0, z) in x) number; rows_are = empty_at key.sizes.callers a.number (omega (arith, number, h.1)) ∙ ap Some (sym h.2) };
        seen = omega arith;
        holding = λ h. absurd (cc (h));
      };
    }
