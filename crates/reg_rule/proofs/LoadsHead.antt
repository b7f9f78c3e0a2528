-- Kind 13: a load of a head, by a walk, in order to push, or by the holder.
use Rattle.std.proofs.Common.{◌≡◌, ℕ, ◌+◌, ◌^◌, ◌++◌, ◌<◌, true, ◌⊎◌, List, [], ◌∷◌, length, take, get_or, set, None, Some, sym, refl, ap, ◌∙◌, subst, arith}
use mathlib.Core.Logic.{dite}
use native.Mathlib.Decide.{ℕ_discrete}
use mathlib.Core.Option.{none, some}
use lib.ListN.{get_elem?}
use Rattle.atomic_table.specs.Table.{step, keeps, Allows}
use Rattle.iscc_header.specs.declared.unit.Unit64.{Unit64}
use Rattle.mih_plan.specs.Buckets.{bucket_of}
use Rattle.reg_words.specs.Memory.{HEAD, CODE, NEXT, start, mem}
use Rattle.reg_words.proofs.Memory.{mem-read}
use Rattle.reg_rule.specs.Links.{link_word}
use Rattle.reg_rule.specs.declared.told.Told.{Told}
use Rattle.reg_rule.specs.declared.told.Told.TheVariants.{Links, Sweeps}
use Rattle.reg_rule.specs.declared.view.Key.{Key}
use Rattle.reg_rule.specs.declared.view.Cursor.{Cursor}
use Rattle.reg_rule.specs.declared.view.Holding.{Holding}
use Rattle.reg_rule.specs.declared.view.Way.{Way}
use Rattle.reg_rule.specs.declared.view.View.{View}
use Rattle.reg_rule.specs.Log.{IsWd, IsLiveIn}
use Rattle.reg_rule.specs.Chains.{Member, LeadsThrough, Avoids}
use Rattle.reg_rule.specs.Conditions.{MayTellHits, IsSeeking, MayLoadHead}
use Rattle.reg_rule.specs.Moves.{with_step, with_hits, kept_met, first_met, none_met, holder_did, at_head, on_way}
use Rattle.reg_rule.specs.Steps.{HeadLoaded}
use Rattle.reg_rule.specs.inner.World.{World}
use Rattle.reg_rule.specs.inner.ChainParts.{after, head_cell, next_in}
use Rattle.reg_rule.specs.inner.Walks.{from, CursorFits}
use Rattle.reg_rule.specs.inner.Plays.{Sat, Stays, seated}
use Rattle.reg_rule.specs.Steps.{HeadTells}
use Rattle.reg_rule.specs.inner.Rule.{Inv, Kept, sizes}
use Rattle.reg_rule.proofs.Once.{wd_same}
use Rattle.reg_rule.proofs.Counted.{set_at_own}
use Rattle.reg_rule.proofs.Fronted.{set_twice}
use Rattle.reg_rule.proofs.CursorsMoved.{cursor_first}
use Rattle.reg_rule.proofs.Ways.{way_from}
use Rattle.reg_rule.proofs.StoresNext.{cell_inside}
use Rattle.reg_rule.proofs.SwapsHead.{bucket_below}
use Rattle.reg_rule.proofs.Walked.{walk_told, walk_stays, tell_begun, met_kept, walk_inv, live_there}
use Rattle.reg_rule.proofs.Sought.{fits, sought_there, sought_inv}
use Rattle.reg_rule.proofs.Doors.{load_keeps}
use Rattle.reg_rule.proofs.Variants.{some_same, none_some}
use Rattle.reg_rule.proofs.Sets.{counted_inv}

-- a chain that ends at once is empty
empty_chain : (next : ℕ → ℕ) (word : ℕ) (l : List ℕ) (e : ℕ) → LeadsThrough next word l → word ≡ 0 → Member e l → ⊥
empty_chain next word [] e k is there = there
empty_chain next word (x ∷ l) e k is there = let z : link_word x ≡ 0 = sym k.0 ∙ is in absurd (omega arith)

abbrev pub After : (View → View → Type 0) → Key → (ℕ → ℕ → ℕ) → List View → ℕ → View → Type 0
After tells key m views id v = (u : View) × (world : World) × Inv key m world (set views id u) × tells v u × Stays v u

module _ (key : Key) (m : ℕ → ℕ → ℕ) (w : World) (views : List View) (id : ℕ) (v : View) (i : Inv key m w views) (at : get_elem? views id ≡ some v) (knows : v.key ≡ key)
    (live : v.live ≡ true) (one : 0 < length v.accounts) (table bucket : ℕ) (small : table < 4) (wide : bucket < 2 ^ key.sizes.bits) where
  abbrev found : ℕ
  found = m HEAD (head_cell key.sizes.bits table bucket)

  -- ---- a walk

  pub head_walks : (told : Told) → 0 < v.pin → MayTellHits told v → After (λ v u. HeadLoaded told table bucket v found u) key m views id v
  head_walks told pinned may = dite (ℕ_discrete found 0)
      (λ none_there.
      let u : View = none_met told v in
      let inv : Inv key m w (set views id u) = walk_inv key m w views id v i at None [] (kept_met told v.met) 13 refl pinned (λ c e. absurd (none_some c e)) (λ c k declared entry unit e. absurd (none_some c e)) (met_kept told v.met) in
      let r = walk_told key m w (set views id u) id u told inv (set_at_own views id v u at) live one (tell_begun told v None [] 13 may) in
      let stays = walk_stays told u r.0 in (
        with_hits told r.0 u,
        _,
        subst (Inv key m _) (set_twice views id u (with_hits told r.0 u)) r.2.1,
        record {
          ends_at = λ _. (
            (r.0, r.1, refl),
            λ k declared entry unit shown lives bucket_is. empty_chain (next_in key.entries (m NEXT) table) found (w.chains table bucket) entry (i.chains.leads table bucket small wide) none_there
                (subst (λ (b : ℕ). Member entry (w.chains table b)) (ap (λ (z : Key). bucket_of unit.body table z.sizes.bits) (sym knows) ∙ bucket_is)
                (live_there key m w views id v i at k declared entry unit table small shown (subst (λ (z : Key). IsLiveIn z.carried (take k v.log) declared unit entry) knows lives))),
          );
          comes_to = λ more. absurd (more none_there);
        },
        record { live = stays.live; key = stays.key; sessions = stays.sessions; seen = stays.seen; hand = stays.hand; remembered = stays.remembered },
      ))
      (λ more.
      let first = cursor_first key (m NEXT) w.log w.chains w.linked w.begun w.returned w.mark w.freed (m HEAD) (m CODE) i.chains v.pin v.accounts table bucket small wide more in
      let e : ℕ = first.0 in let c : Cursor = record { table = table; bucket = bucket; entry = e } in let u : View = first_met told v table bucket e in
      let inv : Inv key m w (set views id u) = walk_inv key m w views id v i at (Some c) (e ∷ []) (kept_met told v.met) 13 refl pinned
      (λ d is. subst (λ (z : Cursor). CursorFits key (m NEXT) w.log w.chains w.linked w.begun w.returned w.mark w.freed v.pin v.accounts (e ∷ []) z) (some_same c d is) first.3)
      (λ d k declared entry unit is shown lives bucket_is. let same = some_same c d is in
      subst (λ (z : Cursor). Member entry (e ∷ []) ⊎ Member entry (from (next_in key.entries (m NEXT) z.table z.entry) (w.chains z.table z.bucket))) same
      (first.4 entry (subst (λ (b : ℕ). Member entry (w.chains table b)) (subst (λ (z : Cursor). bucket_of unit.body z.table key.sizes.bits ≡ z.bucket) (sym same) bucket_is) (live_there key m w views id v i at k declared entry unit table small shown lives))))
      (met_kept told v.met) in
      let r = walk_told key m w (set views id u) id u told inv (set_at_own views id v u at) live one (tell_begun told v (Some c) (e ∷ []) 13 may) in
      let stays = walk_stays told u r.0 in (
        with_hits told r.0 u,
        _,
        subst (Inv key m _) (set_twice views id u (with_hits told r.0 u)) r.2.1,
        record {
          ends_at = λ none_there. absurd (more none_there);
          comes_to = λ _. (e, first.1, subst (λ (z : Key). e < z.entries) (sym knows) first.2, (r.0, r.1, refl), (tt, tt));
        },
        record { live = stays.live; key = stays.key; sessions = stays.sessions; seen = stays.seen; hand = stays.hand; remembered = stays.remembered },
      ))

  -- ---- the holder

  pub head_seeks : (h : Holding) (x entry : ℕ) (unit : Unit64) → IsSeeking table v h x entry unit → bucket ≡ bucket_of unit.body table key.sizes.bits → After (λ v u. HeadTells Sweeps table bucket v found u) key m views id v
  head_seeks h x entry unit seeks bucket_is =
      let there : Member entry (w.chains table bucket) = subst (λ (b : ℕ). Member entry (w.chains table b)) (sym bucket_is) (sought_there key m w views id v i at knows table small h x entry unit seeks) in
      let old = fits key m w views id v i at knows table small h x entry unit seeks in
      let only : (h' : Holding) (y e : ℕ) → v.holding ≡ Some h' → IsWd v.log h'.place y e → entry ≡ e = λ h' y e is wd. (wd_same v.log h.place x y entry e seeks.withdraws (subst (λ (z : Holding). IsWd v.log z.place y e) (some_same h' h (sym is ∙ seeks.holding)) wd)).1 in
      dite (ℕ_discrete found (link_word entry))
      (λ here. (
        holder_did at_head v 13,
        w,
        sought_inv key m w views id v i at knows table small h x entry unit seeks None h.behind 13 refl (λ y e. absurd (none_some y e)) old.behind at_head refl,
        (λ h' y e is wd. record { first = λ _. refl; ahead = λ apart. absurd (apart (here ∙ ap link_word (only h' y e is wd))) }),
        record { live = refl; key = refl; sessions = refl; seen = omega arith; hand = refl; remembered = refl },
      ))
      (λ apart. let way = way_from key (m HEAD) (m NEXT) (m CODE) w.chains w.linked table bucket entry i.chains small wide there apart in
      let y : ℕ = way.0 in let between : List ℕ = way.1 in let p : Way = record { table = table; entry = y; ahead = between } in (
        holder_did (on_way table y between) v 13,
        w,
        sought_inv key m w views id v i at knows table small h x entry unit seeks (Some p) h.behind 13 refl
            (λ q e. subst (λ (z : Way). Member z.entry (w.chains z.table (bucket_of unit.body z.table key.sizes.bits)) × ((rest : List ℕ) × (after z.entry (w.chains z.table (bucket_of unit.body z.table key.sizes.bits)) ≡ z.ahead ++ entry ∷ rest))) (some_same p q e)
            (subst (λ (b : ℕ). Member y (w.chains table b) × ((rest : List ℕ) × (after y (w.chains table b) ≡ between ++ entry ∷ rest))) bucket_is (way.5, way.6)))
            old.behind (on_way table y between) refl,
        (λ h' z e is wd. record { first = λ here. absurd (apart (here ∙ ap link_word (sym (only h' z e is wd)))); ahead = λ _. (y, between, way.2, subst (λ (k : Key). y < k.entries) (sym knows) way.3, subst (λ (k : Key). length between < k.entries) (sym knows) way.4, refl, subst (λ (n : ℕ). Avoids n between) (only h' z e is wd) way.7) }),
        record { live = refl; key = refl; sessions = refl; seen = omega arith; hand = refl; remembered = refl },
      ))

  pub head_links : After (λ v u. HeadTells Links table bucket v found u) key m views id v
  head_links = (with_step v 13, w, counted_inv key m w views id v 13 refl at i, refl, record { live = refl; key = refl; sessions = refl; seen = omega arith; hand = refl; remembered = refl })

-- ---- the step

pub head_wide : (told : Told) (table bucket : ℕ) (v : View) → MayLoadHead told table bucket v → (table < 4) × (bucket < 2 ^ v.key.sizes.bits)
head_wide Links table bucket v may = (may.0, may.1)
head_wide Sweeps table bucket v may = (may.0, subst (λ (b : ℕ). b < 2 ^ v.key.sizes.bits) (sym may.1.5) (bucket_below may.1.3.body table v.key.sizes.bits))
head_wide told table bucket v may = (may.0, may.1)

head_loads : (key : Key) (m : ℕ → ℕ → ℕ) (w : World) (views : List View) (id : ℕ) (v : View) (i : Inv key m w views) (at : get_elem? views id ≡ some v) (knows : v.key ≡ key) (live : v.live ≡ true) (one : 0 < length v.accounts)
    (told : Told) (table bucket : ℕ) → table < 4 → bucket < 2 ^ key.sizes.bits → MayLoadHead told table bucket v → After (λ v u. HeadTells told table bucket v (m HEAD (head_cell key.sizes.bits table bucket)) u) key m views id v
head_loads key m w views id v i at knows live one Links table bucket small wide may = head_links key m w views id v i at knows live one table bucket small wide
head_loads key m w views id v i at knows live one Sweeps table bucket small wide may = head_seeks key m w views id v i at knows live one table bucket small wide may.1.0 may.1.1 may.1.2 may.1.3 may.1.4 (may.1.5 ∙ ap (λ (z : Key). bucket_of may.1.3.body table z.sizes.bits) knows)
head_loads key m w views id v i at knows live one told table bucket small wide may = head_walks key m w views id v i at knows live one table bucket small wide told may.2 may.3

pub loads_head : (key : Key) (slots id : ℕ) (me : Sat) (told : Told) (table bucket : ℕ) → MayLoadHead told table bucket me.0 → me.0.live ≡ true → 0 < length me.0.accounts
    → Allows (Kept key) slots id me (start (sizes key) HEAD + head_cell key.sizes.bits table bucket) (λ x. x) (seated (HeadTells told table bucket) (step slots (start (sizes key) HEAD + head_cell key.sizes.bits table bucket) 0 0 none) me)
loads_head key slots id me told table bucket may live one s k wide at small =
    let v : View = me.0 in let m : ℕ → ℕ → ℕ = mem (sizes key) s.words in let i = k.inv in let w : World = k.world in let knows : v.key ≡ key = i.knows id v at live in let cell : ℕ = head_cell key.sizes.bits table bucket in let a : ℕ = start (sizes key) HEAD + cell in
    let low = head_wide told table bucket v may in let inside : bucket < 2 ^ key.sizes.bits = subst (λ (z : Key). bucket < 2 ^ z.sizes.bits) knows low.1 in
    let read : m HEAD cell ≡ get_or s.words a 0 = mem-read (sizes key) s.words HEAD cell (cell_inside (2 ^ key.sizes.bits) table bucket low.0 inside) in
    let r = head_loads key m w s.views id v i at knows live one told table bucket low.0 inside may in (
      r.0,
      keeps,
      tt,
      load_keeps key s k a id me r.0 r.1 r.2,
      (subst (λ (x : ℕ). HeadTells told table bucket v x r.0) read r.3, r.4, refl),
    )

-- the same at an address that the code has computed
pub loads_head_at : (key : Key) (slots id : ℕ) (me : Sat) (told : Told) (table bucket a : ℕ) → a ≡ start (sizes key) HEAD + head_cell key.sizes.bits table bucket → MayLoadHead told table bucket me.0 → me.0.live ≡ true → 0 < length me.0.accounts
    → Allows (Kept key) slots id me a (λ x. x) (seated (HeadTells told table bucket) (step slots a 0 0 none) me)
loads_head_at key slots id me told table bucket a is may live one = subst (λ (z : ℕ). Allows (Kept key) slots id me z (λ x. x) (seated (HeadTells told table bucket) (step slots z 0 0 none) me)) (sym is) (loads_head key slots id me told table bucket may live one)
