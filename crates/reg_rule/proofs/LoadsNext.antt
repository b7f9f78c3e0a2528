-- Kind 16: a load of a next word, by a walk or by the holder.
use Rattle.std.proofs.Common.{◌≡◌, ℕ, zero, suc, ◌+◌, ◌*◌, ◌^◌, ◌++◌, ◌<◌, true, ◌⊎◌, ⊎_elim, List, [], ◌∷◌, length, take, get_or, set, None, Some, sym, refl, ap, ◌∙◌, subst, arith}
use mathlib.Core.Logic.{dite}
use native.Mathlib.Decide.{ℕ_discrete}
use mathlib.Core.Option.{none, some}
use lib.ListN.{get_elem?}
use Rattle.atomic_table.specs.Table.{step, keeps, Allows}
use Rattle.iscc_header.specs.declared.unit.Unit64.{Unit64}
use Rattle.mih_plan.specs.Buckets.{bucket_of}
use Rattle.reg_words.specs.Memory.{HEAD, CODE, NEXT, start, mem}
use Rattle.reg_words.proofs.Memory.{mem-read}
use Rattle.reg_rule.specs.Links.{link_word}
use Rattle.reg_rule.specs.declared.told.Told.{Told}
use Rattle.reg_rule.specs.declared.told.Told.TheVariants.{Sweeps}
use Rattle.reg_rule.specs.declared.view.Key.{Key}
use Rattle.reg_rule.specs.declared.view.Cursor.{Cursor}
use Rattle.reg_rule.specs.declared.view.Link.{Link}
use Rattle.reg_rule.specs.declared.view.Holding.{Holding}
use Rattle.reg_rule.specs.declared.view.Way.{Way}
use Rattle.reg_rule.specs.declared.view.View.{View}
use Rattle.reg_rule.specs.Log.{IsWd, IsLiveIn}
use Rattle.reg_rule.specs.Chains.{Member, Once, LeadsThrough}
use Rattle.reg_rule.specs.Conditions.{MayTellHits, IsSeeking, FollowsWay, MayLoadNext}
use Rattle.reg_rule.specs.Moves.{with_hits, next_met, walked, holder_did, behind_at, on_way}
use Rattle.reg_rule.specs.Steps.{NextLoaded, WayMoves}
use Rattle.reg_rule.specs.inner.World.{World}
use Rattle.reg_rule.specs.inner.ChainParts.{after, next_cell, next_in}
use Rattle.reg_rule.specs.inner.Walks.{from, CursorFits}
use Rattle.reg_rule.specs.inner.HolderParts.{VictimFits}
use Rattle.reg_rule.specs.inner.Plays.{Sat, seated}
use Rattle.reg_rule.specs.Steps.{NextTells}
use Rattle.reg_rule.specs.inner.Rule.{Inv, Kept, sizes}
use Rattle.reg_rule.proofs.Once.{wd_same}
use Rattle.reg_rule.proofs.Counted.{set_at_own}
use Rattle.reg_rule.proofs.Fronted.{set_twice}
use Rattle.reg_rule.proofs.Chained.{member_left, not_member, avoids_of, from_next}
use Rattle.reg_rule.proofs.CursorsMoved.{cursor_next}
use Rattle.reg_rule.proofs.Ways.{way_on}
use Rattle.reg_rule.proofs.StoresNext.{cell_inside}
use Rattle.reg_rule.proofs.SwapsHead.{bucket_below}
use Rattle.reg_rule.proofs.Walked.{walk_told, walk_stays, tell_walked, walk_inv}
use Rattle.reg_rule.proofs.Sought.{fits, sought_inv}
use Rattle.reg_rule.proofs.LoadsHead.{After}
use Rattle.reg_rule.proofs.Doors.{load_keeps}
use Rattle.reg_rule.proofs.Variants.{some_same, none_some}

once_left : (l r : List ℕ) → Once (l ++ r) → Once l
once_left [] r o = tt
once_left (x ∷ l) r o = (avoids_of x l (λ there. not_member x (l ++ r) o.0 (member_left x l r there)), once_left l r o.1)

empty_first : (x : ℕ) (l : List ℕ) → [] ≡ x ∷ l → ⊥
empty_first x l e = cc

same_first : (x y : ℕ) (l r : List ℕ) → x ∷ l ≡ y ∷ r → x ≡ y
same_first x y l r e = cc

-- a word that leads to an entry is that of the entry
pub from_head : (word e : ℕ) (l r : List ℕ) → from word l ≡ e ∷ r → word ≡ link_word e
from_head zero e l r is = absurd (empty_first e r is)
from_head (suc x) e l r is = let same = same_first x e (after x l) r is in omega arith

module _ (key : Key) (m : ℕ → ℕ → ℕ) (w : World) (views : List View) (id : ℕ) (v : View) (i : Inv key m w views) (at : get_elem? views id ≡ some v) (knows : v.key ≡ key)
    (live : v.live ≡ true) (one : 0 < length v.accounts) where
  -- ---- a walk

  pub next_walks : (told : Told) (c : Cursor) → v.cursor ≡ Some c → MayTellHits told v → After (λ v u. NextLoaded told c v (next_in key.entries (m NEXT) c.table c.entry) u) key m views id v
  next_walks told c stands may = let found : ℕ = next_in key.entries (m NEXT) c.table c.entry in let f = i.cursors id v at c stands in let pinned = (i.fits_pin id v at).cursor_pinned c stands in dite (ℕ_discrete found 0)
      (λ none_there.
      let u : View = walked v in
      let inv : Inv key m w (set views id u) = walk_inv key m w views id v i at None v.visited v.met 16 refl pinned (λ d e. absurd (none_some d e)) (λ d k declared entry unit e. absurd (none_some d e)) (λ j x there. there) in
      let r = walk_told key m w (set views id u) id u told inv (set_at_own views id v u at) live one (tell_walked told v None v.visited 16 may) in
      let stays = walk_stays told u r.0 in (
        with_hits told r.0 u,
        _,
        subst (Inv key m _) (set_twice views id u (with_hits told r.0 u)) r.2.1,
        record {
          ends_at = λ _. (
            (r.0, r.1, refl),
            λ k declared entry unit shown lives bucket_is. ⊎_elim (λ there. there)
                (λ ahead. absurd (subst (λ (z : ℕ). Member entry (from z (w.chains c.table c.bucket))) none_there ahead))
                (i.covers id v at c k declared entry unit stands shown (subst (λ (z : Key). IsLiveIn z.carried (take k v.log) declared unit entry) knows lives) (ap (λ (z : Key). bucket_of unit.body c.table z.sizes.bits) (sym knows) ∙ bucket_is)),
          );
          comes_to = λ more. absurd (more none_there);
        },
        record { live = stays.live; key = stays.key; sessions = stays.sessions; seen = stays.seen; hand = stays.hand; remembered = stays.remembered },
      ))
      (λ more.
      let next = cursor_next key (m NEXT) w.log w.chains w.linked w.begun w.returned w.mark w.freed (m HEAD) (m CODE) i.chains v.pin v.accounts v.visited c f more in
      let e : ℕ = next.0 in let c' : Cursor = record c { entry = e } in let u : View = next_met v c e in
      let inv : Inv key m w (set views id u) = walk_inv key m w views id v i at (Some c') (v.visited ++ e ∷ []) v.met 16 refl pinned
      (λ d is. subst (λ (z : Cursor). CursorFits key (m NEXT) w.log w.chains w.linked w.begun w.returned w.mark w.freed v.pin v.accounts (v.visited ++ e ∷ []) z) (some_same c' d is) next.3)
      (λ d k declared entry unit is shown lives bucket_is. let same = some_same c' d is in
      subst (λ (z : Cursor). Member entry (v.visited ++ e ∷ []) ⊎ Member entry (from (next_in key.entries (m NEXT) z.table z.entry) (w.chains z.table z.bucket))) same
      (next.4 entry (i.covers id v at c k declared entry unit stands shown lives (subst (λ (z : Cursor). bucket_of unit.body z.table key.sizes.bits ≡ z.bucket) (sym same) bucket_is))))
      (λ j x there. there) in
      let r = walk_told key m w (set views id u) id u told inv (set_at_own views id v u at) live one (tell_walked told v (Some c') (v.visited ++ e ∷ []) 16 may) in
      let stays = walk_stays told u r.0 in (
        with_hits told r.0 u,
        _,
        subst (Inv key m _) (set_twice views id u (with_hits told r.0 u)) r.2.1,
        record {
          ends_at = λ none_there. absurd (more none_there);
          comes_to = λ _. (e, next.1, subst (λ (z : Key). e < z.entries) (sym knows) next.2, (r.0, r.1, refl), once_left (v.visited ++ e ∷ []) (from (next_in key.entries (m NEXT) c.table e) (w.chains c.table c.bucket)) next.3.once);
        },
        record { live = stays.live; key = stays.key; sessions = stays.sessions; seen = stays.seen; hand = stays.hand; remembered = stays.remembered },
      ))

  next_walks_at : (told : Told) (table entry : ℕ) → ((c : Cursor) × (v.cursor ≡ Some c) × (c.table ≡ table) × (c.entry ≡ entry)) → MayTellHits told v
      → After (λ v u. (c : Cursor) → v.cursor ≡ Some c → NextLoaded told c v (m NEXT (next_cell key.entries table entry)) u) key m views id v
  next_walks_at told table entry o may = let r = next_walks told o.0 o.1 may in (
    r.0,
    r.1,
    r.2,
    (λ c is. subst (λ (z : Cursor). NextLoaded told z v (m NEXT (next_cell key.entries table entry)) r.0) (some_same o.0 c (sym o.1 ∙ is))
        (subst (λ (z : ℕ × ℕ). NextLoaded told o.0 v (next_in key.entries (m NEXT) z.0 z.1) r.0) (λ j. (o.2 j, o.3 j)) r.3)),
    r.4,
  )

  -- ---- the holder

  module _ (table : ℕ) (small : table < 4) (spot : ℕ) (h : Holding) (x entry : ℕ) (unit : Unit64) (seeks : IsSeeking table v h x entry unit) where
    abbrev found : ℕ
    found = next_in key.entries (m NEXT) table spot

    abbrev bucket : ℕ
    bucket = bucket_of unit.body table key.sizes.bits

    abbrev chain : List ℕ
    chain = w.chains table bucket

    leads : LeadsThrough (next_in key.entries (m NEXT) table) (m HEAD (table * 2 ^ key.sizes.bits + bucket)) chain
    leads = i.chains.leads table bucket small (bucket_below unit.body table key.sizes.bits)

    old : VictimFits key (m NEXT) w.stamps w.chains w.linked w.returned h.word.limbo h.stamped h.place h.cut h.behind h.way x entry unit
    old = fits key m w views id v i at knows table small h x entry unit seeks

    only : (h' : Holding) (y e : ℕ) → v.holding ≡ Some h' → IsWd v.log h'.place y e → entry ≡ e
    only h' y e is wd = (wd_same v.log h.place x y entry e seeks.withdraws (subst (λ (z : Holding). IsWd v.log z.place y e) (some_same h' h (sym is ∙ seeks.holding)) wd)).1

    abbrev IsWay : Way → Type 0
    IsWay z = Member z.entry (w.chains z.table (bucket_of unit.body z.table key.sizes.bits)) × ((rest : List ℕ) × (after z.entry (w.chains z.table (bucket_of unit.body z.table key.sizes.bits)) ≡ z.ahead ++ entry ∷ rest))

    -- one step along the way
    way_steps : (ahead rest : List ℕ) → Member spot chain → after spot chain ≡ ahead ++ entry ∷ rest → After (λ v u. WayMoves table spot entry ahead v found u) key m views id v
    way_steps [] rest there is = let p : Way = record { table = table; entry = spot; ahead = [] } in (
      holder_did (on_way table spot []) v 16,
      w,
      sought_inv key m w views id v i at knows table small h x entry unit seeks (Some p) h.behind 16 refl (λ q e. subst IsWay (some_same p q e) (there, (rest, is))) old.behind (on_way table spot []) refl,
      (from_head found entry chain rest (from_next (next_in key.entries (m NEXT) table) _ spot chain leads (i.chains.once table bucket) there ∙ is), refl),
      record { live = refl; key = refl; sessions = refl; seen = omega arith; hand = refl; remembered = refl },
    )
    way_steps (y ∷ ahead) rest there is = let p : Way = record { table = table; entry = y; ahead = ahead } in
        let on = way_on (next_in key.entries (m NEXT) table) _ spot entry y ahead rest chain leads (i.chains.once table bucket) there is in (
          holder_did (on_way table y ahead) v 16,
          w,
          sought_inv key m w views id v i at knows table small h x entry unit seeks (Some p) h.behind 16 refl (λ q e. subst IsWay (some_same p q e) (on.1, (rest, on.2))) old.behind (on_way table y ahead) refl,
          (on.0, subst (λ (k : Key). y < k.entries) (sym knows) (i.chains.inside table bucket y on.1).0, refl),
          record { live = refl; key = refl; sessions = refl; seen = omega arith; hand = refl; remembered = refl },
        )

    pub next_seeks : FollowsWay v h table spot entry → After (λ v u. NextTells Sweeps table spot v found u) key m views id v
    next_seeks follows = dite (ℕ_discrete spot entry)
        (λ here. let l : Link = record { table = table; word = found } in (
          holder_did (behind_at table found) v 16,
          w,
          sought_inv key m w views id v i at knows table small h x entry unit seeks h.way (Some l) 16 refl old.way
              (λ q e low. subst (λ (z : Link). next_in key.entries (m NEXT) z.table entry ≡ z.word) (some_same l q e) (ap (next_in key.entries (m NEXT) table) (sym here))) (behind_at table found) refl,
          (λ h' y e is wd. record { behind = λ _. refl; way = λ apart. absurd (apart (here ∙ only h' y e is wd)) }),
          record { live = refl; key = refl; sessions = refl; seen = omega arith; hand = refl; remembered = refl },
        ))
        (λ apart.
        let t : (ahead : List ℕ) × (h.way ≡ Some (record { table = table; entry = spot; ahead = ahead })) = ⊎_elim (λ here. absurd (apart here)) (λ t. t) follows in
        let o = old.way (record { table = table; entry = spot; ahead = t.0 }) t.1 in
        let r = way_steps t.0 o.1.0 o.0 o.1.1 in (
          r.0,
          r.1,
          r.2,
          (λ h' y e is wd. record {
            behind = λ here. absurd (apart (here ∙ sym (only h' y e is wd)));
            way = λ _ h2 ahead2 is2 way2. let same : h2 ≡ h = some_same h2 h (sym is2 ∙ seeks.holding) in
                let ways = some_same (record { table = table; entry = spot; ahead = t.0 }) (record { table = table; entry = spot; ahead = ahead2 }) (sym t.1 ∙ (ap (λ (z : Holding). z.way) (sym same) ∙ way2)) in
                subst (λ (z : ℕ × List ℕ). WayMoves table spot z.0 z.1 v found r.0) (λ j. (only h' y e is wd j, ap (λ (z : Way). z.ahead) ways j)) r.3;
          }),
          r.4,
        ))

-- ---- the step

pub next_low : (told : Told) (table entry : ℕ) (v : View) → MayLoadNext told table entry v → (table < 4) × (entry < v.key.entries)
next_low Sweeps table entry v may = (may.0, may.1)
next_low told table entry v may = (may.0, may.1)

next_loads : (key : Key) (m : ℕ → ℕ → ℕ) (w : World) (views : List View) (id : ℕ) (v : View) (i : Inv key m w views) (at : get_elem? views id ≡ some v) (knows : v.key ≡ key) (live : v.live ≡ true) (one : 0 < length v.accounts)
    (told : Told) (table entry : ℕ) → MayLoadNext told table entry v → After (λ v u. NextTells told table entry v (m NEXT (next_cell key.entries table entry)) u) key m views id v
next_loads key m w views id v i at knows live one Sweeps table entry may = let o = may.2 in next_seeks key m w views id v i at knows live one table may.0 entry o.0 o.1 o.2 o.3 o.4 o.5
next_loads key m w views id v i at knows live one told table entry may = next_walks_at key m w views id v i at knows live one told table entry may.2 may.3

pub loads_next : (key : Key) (slots id : ℕ) (me : Sat) (told : Told) (table entry : ℕ) → MayLoadNext told table entry me.0 → me.0.live ≡ true → 0 < length me.0.accounts
    → Allows (Kept key) slots id me (start (sizes key) NEXT + next_cell key.entries table entry) (λ x. x) (seated (NextTells told table entry) (step slots (start (sizes key) NEXT + next_cell key.entries table entry) 0 0 none) me)
loads_next key slots id me told table entry may live one s k wide at small =
    let v : View = me.0 in let m : ℕ → ℕ → ℕ = mem (sizes key) s.words in let i = k.inv in let w : World = k.world in let knows : v.key ≡ key = i.knows id v at live in let cell : ℕ = next_cell key.entries table entry in let a : ℕ = start (sizes key) NEXT + cell in
    let low = next_low told table entry v may in let inside : entry < key.entries = subst (λ (z : Key). entry < z.entries) knows low.1 in
    let read : m NEXT cell ≡ get_or s.words a 0 = mem-read (sizes key) s.words NEXT cell (cell_inside key.entries table entry low.0 inside) in
    let r = next_loads key m w s.views id v i at knows live one told table entry may in (
      r.0,
      keeps,
      tt,
      load_keeps key s k a id me r.0 r.1 r.2,
      (subst (λ (x : ℕ). NextTells told table entry v x r.0) read r.3, r.4, refl),
    )

-- the same at an address that the code has computed
pub loads_next_at : (key : Key) (slots id : ℕ) (me : Sat) (told : Told) (table entry a : ℕ) → a ≡ start (sizes key) NEXT + next_cell key.entries table entry → MayLoadNext told table entry me.0 → me.0.live ≡ true → 0 < length me.0.accounts
    → Allows (Kept key) slots id me a (λ x. x) (seated (NextTells told table entry) (step slots a 0 0 none) me)
loads_next_at key slots id me told table entry a is may live one = subst (λ (z : ℕ). Allows (Kept key) slots id me z (λ x. x) (seated (NextTells told table entry) (step slots z 0 0 none) me)) (sym is) (loads_next key slots id me told table entry may live one)
