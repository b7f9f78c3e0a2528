-- Kind 20: an exchange of a head, to unlink the entry that the holder seeks where it is the first of its chain.
use Rattle.std.proofs.Common.{◌≡◌, ◌≢◌, ℕ, ◌+◌, ◌^◌, ◌<◌, ◌++◌, ◌==◌, cond, Bool, true, List, ◌∷◌, length, get_or, set, Some, sym, refl, ap, ◌∙◌, subst, ne_eqb, arith}
use mathlib.Core.Logic.{dite}
use native.Mathlib.Decide.{ℕ_discrete}
use mathlib.Core.Option.{none, some}
use lib.ListN.{get_elem?}
use Rattle.atomic_table.specs.Table.{step, Allows}
use Rattle.iscc_header.specs.declared.unit.Unit64.{Unit64}
use Rattle.mih_plan.specs.Buckets.{bucket_of}
use Rattle.reg_words.specs.Memory.{CODE, HEAD, NEXT, start, mem, set_at, write}
use Rattle.reg_rule.specs.Links.{link_word}
use Rattle.reg_rule.specs.declared.view.Key.{Key}
use Rattle.reg_rule.specs.declared.view.Holding.{Holding}
use Rattle.reg_rule.specs.declared.view.Way.{Way}
use Rattle.reg_rule.specs.declared.view.View.{View}
use Rattle.reg_rule.specs.Chains.{Member, LeadsThrough, Avoids}
use Rattle.reg_rule.specs.Conditions.{MayCut, MayCutHead}
use Rattle.reg_rule.specs.Moves.{holder_did, cut_from, on_way}
use Rattle.reg_rule.specs.Steps.{HeadCut}
use Rattle.reg_rule.specs.inner.World.{World}
use Rattle.reg_rule.specs.inner.ChainParts.{after, without, next_in, head_cell}
use Rattle.reg_rule.specs.inner.Plays.{Sat, Stays, seated_with}
use Rattle.reg_rule.specs.inner.Rule.{Inv, Kept, sizes}
use Rattle.reg_rule.proofs.StampsKept.{set_here, set_away}
use Rattle.reg_rule.proofs.ChainsKept.{cell_apart, linked_rest}
use Rattle.reg_rule.proofs.CursorsCut.{over_first}
use Rattle.reg_rule.proofs.Cutting.{there, low, victim}
use Rattle.reg_rule.proofs.CutsOut.{LeadsPast, cut_words, cut_world, cut_told}
use Rattle.reg_rule.proofs.Ways.{way_from}
use Rattle.reg_rule.proofs.StoresNext.{cell_inside}
use Rattle.reg_rule.proofs.SwapsHead.{bucket_below}
use Rattle.reg_rule.proofs.Sought.{fits, sought_inv}
use Rattle.reg_rule.proofs.Doors.{swap_keeps, Ended}
use Rattle.reg_rule.proofs.Variants.{some_same}

-- the words with another head
head_words : (m : ℕ → ℕ → ℕ) (cell new a : ℕ) → cut_words m (set_at (m HEAD) cell new) (m NEXT) a ≡ write m HEAD cell new a
head_words m cell new a = dite (ℕ_discrete a HEAD)
    (λ p. subst (λ (z : ℕ). cut_words m (set_at (m HEAD) cell new) (m NEXT) z ≡ write m HEAD cell new z) (sym p) refl)
    (λ n. ap (λ (b : Bool). cond b (set_at (m HEAD) cell new) (cond (a == NEXT) (m NEXT) (m a))) (ne_eqb a HEAD n)
    ∙ (dite (ℕ_discrete a NEXT)
    (λ q. subst (λ (z : ℕ). cond (z == NEXT) (m NEXT) (m z) ≡ m z) (sym q) refl)
    (λ q. ap (λ (b : Bool). cond b (m NEXT) (m a)) (ne_eqb a NEXT q))
    ∙ sym (ap (λ (b : Bool). cond b (set_at (m a) cell new) (m a)) (ne_eqb a HEAD n))))

module _ (key : Key) (m : ℕ → ℕ → ℕ) (w : World) (views : List View) (id : ℕ) (v : View) (i : Inv key m w views) (at : get_elem? views id ≡ some v) (knows : v.key ≡ key)
    (h : Holding) (table withdrawn e : ℕ) (unit : Unit64) (may : MayCut table v h withdrawn e unit) where
  abbrev bucket : ℕ
  bucket = bucket_of unit.body table key.sizes.bits

  abbrev cell : ℕ
  cell = head_cell key.sizes.bits table bucket

  abbrev next : ℕ → ℕ
  next = next_in key.entries (m NEXT) table

  wide : bucket < 2 ^ key.sizes.bits
  wide = bucket_below unit.body table key.sizes.bits

  in_chain : Member e (w.chains table bucket)
  in_chain = there key m w views id v i at knows h table withdrawn e unit may

  module _ (new : ℕ) (behind : h.behind ≡ Some (record { table = table; word = new })) (first : m HEAD cell ≡ link_word e) where
    next_is : next e ≡ new
    next_is = (victim key m w views id v i at knows h table withdrawn e unit may).behind (record { table = table; word = new }) behind (low key m w views id v i at knows h table withdrawn e unit may)

    pub past_first : LeadsPast key m (set_at (m HEAD) cell new) (m NEXT) w.chains table bucket e
    past_first = let leads = i.chains.leads table bucket may.table_is wide in let once = i.chains.once table bucket in record {
      leads = subst (λ (x : ℕ). LeadsThrough next x (without e (w.chains table bucket))) (next_is ∙ sym (set_here (m HEAD) cell new)) (linked_rest next (m HEAD cell) e (w.chains table bucket) leads once first);
      heads_else = λ t b s z apart. set_away (m HEAD) cell (head_cell key.sizes.bits t b) new (λ same. let c = cell_apart (2 ^ key.sizes.bits) t b table bucket z wide same in apart c.0 c.1);
      nexts_else = λ t x s apart. refl;
      over = λ x member. over_first next (m HEAD cell) e (w.chains table bucket) leads once first in_chain x member;
      behind = refl;
    }

    pub head_wins : Inv key (write m HEAD cell new) (cut_world key m w views id v i at knows h table withdrawn e unit may (set_at (m HEAD) cell new) (m NEXT) 20 refl past_first) (set views id (holder_did (cut_from table) v 20))
    head_wins = cut_told key m w views id v i at knows h table withdrawn e unit may (set_at (m HEAD) cell new) (m NEXT) 20 refl past_first (write m HEAD cell new) (head_words m cell new)

  -- another entry was pushed: the one that is sought lies ahead of it
  pub head_loses : (old : ℕ) → old ≡ link_word e → m HEAD cell ≢ old → (u : View) × Inv key m w (set views id u) × HeadCut table old v (m HEAD cell) u × Stays v u
  head_loses old is other =
      let apart : m HEAD cell ≡ link_word e → ⊥ = λ z. other (z ∙ sym is) in
      let way = way_from key (m HEAD) (m NEXT) (m CODE) w.chains w.linked table bucket e i.chains may.table_is wide in_chain apart in
      let f = fits key m w views id v i at knows table may.table_is h withdrawn e unit may.seeking in
      let y : ℕ = way.0 in let between : List ℕ = way.1 in let p : Way = record { table = table; entry = y; ahead = between } in (
        holder_did (on_way table y between) v 20,
        sought_inv key m w views id v i at knows table may.table_is h withdrawn e unit may.seeking (Some p) h.behind 20 refl
            (λ q same. subst (λ (z : Way). Member z.entry (w.chains z.table (bucket_of unit.body z.table key.sizes.bits)) × ((rest : List ℕ) × (after z.entry (w.chains z.table (bucket_of unit.body z.table key.sizes.bits)) ≡ z.ahead ++ e ∷ rest))) (some_same p q same) (way.5, way.6))
            f.behind (on_way table y between) refl,
        record { won = λ same. absurd (other same); lost = λ _. (y, between, way.2, subst (λ (k : Key). y < k.entries) (sym knows) way.3, subst (λ (k : Key). length between < k.entries) (sym knows) way.4, refl, (λ sought same. subst (λ (n : ℕ). Avoids n between) (let one : e + 1 ≡ sought + 1 = sym is ∙ same in omega arith) way.7)) },
        record { live = refl; key = refl; sessions = refl; seen = omega arith; hand = refl; remembered = refl },
      )

-- ---- the step

abbrev then : ℕ → ℕ → ℕ → ℕ → ℕ → Sat → ℕ → Sat → Type 0
then slots table a old new me = seated_with (λ old new v r w. HeadCut table old v r w) (step slots a old new none) me

pub cuts_head : (key : Key) (slots id : ℕ) (me : Sat) (table bucket old new : ℕ) → MayCutHead table bucket old new me.0 → me.0.live ≡ true
    → Allows (Kept key) slots id me (start (sizes key) HEAD + head_cell key.sizes.bits table bucket) (λ n. cond (n == old) new n) (then slots table (start (sizes key) HEAD + head_cell key.sizes.bits table bucket) old new me)
cuts_head key slots id me table bucket old new may live s k wide at small =
    let v : View = me.0 in let m : ℕ → ℕ → ℕ = mem (sizes key) s.words in let i = k.inv in let w : World = k.world in let knows : v.key ≡ key = i.knows id v at live in
    let h : Holding = may.0 in let e : ℕ = may.2 in let unit : Unit64 = may.3 in let cut = may.4 in
    let b : ℕ = bucket_of unit.body table key.sizes.bits in let is : b ≡ bucket = sym (may.5 ∙ ap (λ (z : Key). bucket_of unit.body table z.sizes.bits) knows) in
    let a : ℕ → ℕ = λ x. start (sizes key) HEAD + head_cell key.sizes.bits table x in
    subst (λ (x : ℕ). Ended key s (a x) (cond (get_or s.words (a x) 0 == old) new (get_or s.words (a x) 0)) id me (then slots table (a x) old new me)) is
    (swap_keeps key s k HEAD (head_cell key.sizes.bits table b) old new id me (then slots table (a b) old new me)
    (cell_inside (2 ^ key.sizes.bits) table b cut.table_is (bucket_below unit.body table key.sizes.bits))
    (λ same. (
      holder_did (cut_from table) v 20,
      _,
      head_wins key m w s.views id v i at knows h table may.1 e unit cut new may.7 (same ∙ may.6),
      (record { won = λ _. refl; lost = λ ne. absurd (ne same) }, record { live = refl; key = refl; sessions = refl; hand = refl; seen = omega arith; remembered = refl }, refl),
    ))
    (λ other. let r = head_loses key m w s.views id v i at knows h table may.1 e unit cut old may.6 other in (r.0, w, r.1, (r.2, r.3, refl))))

-- the table as a type tells it
pub cuts_head_as : (key : Key) (slots id : ℕ) (me : Sat) (told table bucket old new a : ℕ) → told ≡ table → a ≡ start (sizes key) HEAD + head_cell key.sizes.bits table bucket → MayCutHead table bucket old new me.0 → me.0.live ≡ true
    → Allows (Kept key) slots id me a (λ n. cond (n == old) new n) (then slots told a old new me)
cuts_head_as key slots id me told table bucket old new a told_is is may live =
    subst (λ (y : ℕ × ℕ). Allows (Kept key) slots id me y.0 (λ n. cond (n == old) new n) (then slots y.1 y.0 old new me)) (λ k. (sym is k, sym told_is k)) (cuts_head key slots id me table bucket old new may live)
