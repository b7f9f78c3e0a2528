-- Kind 21: an exchange of a next word, to unlink the entry that the holder seeks from the entry before it. The holder alone
-- changes the next word of an entry that is linked, so the exchange always wins.
use Rattle.std.proofs.Common.{◌≡◌, ℕ, ◌+◌, ◌<◌, ◌==◌, cond, Bool, true, List, [], ◌∷◌, inl, set, ◌*◌, Some, sym, refl, ap, ◌∙◌, subst, ne_eqb, arith}
use mathlib.Core.Logic.{dite}
use native.Mathlib.Decide.{ℕ_discrete}
use mathlib.Core.Option.{none, some}
use lib.ListN.{get_elem?}
use Rattle.atomic_table.specs.Table.{step, Allows}
use Rattle.iscc_header.specs.declared.unit.Unit64.{Unit64}
use Rattle.mih_plan.specs.Buckets.{bucket_of}
use Rattle.reg_words.specs.Memory.{HEAD, NEXT, start, mem, set_at, write}
use Rattle.reg_rule.specs.Links.{link_word}
use Rattle.reg_rule.specs.declared.view.Key.{Key}
use Rattle.reg_rule.specs.declared.view.Holding.{Holding}
use Rattle.reg_rule.specs.declared.view.View.{View}
use Rattle.reg_rule.specs.Chains.{Member, Once, LeadsThrough}
use Rattle.reg_rule.specs.Conditions.{MayCut, MayCutNext}
use Rattle.reg_rule.specs.Moves.{holder_did, cut_from}
use Rattle.reg_rule.specs.Steps.{NextCut}
use Rattle.reg_rule.specs.inner.World.{World}
use Rattle.reg_rule.specs.inner.ChainParts.{after, next_in, next_cell, head_cell}
use Rattle.reg_rule.specs.inner.Plays.{Sat, seated_with}
use Rattle.reg_rule.specs.inner.Rule.{Inv, Kept, sizes}
use Rattle.reg_rule.proofs.StampsKept.{set_here, set_away}
use Rattle.reg_rule.proofs.Chained.{not_after, from_next}
use Rattle.reg_rule.proofs.ChainsKept.{cell_apart, linked_without}
use Rattle.reg_rule.proofs.CursorsCut.{over_next}
use Rattle.reg_rule.proofs.Cutting.{there, low, victim}
use Rattle.reg_rule.proofs.CutsOut.{LeadsPast, cut_words, cut_world, cut_told}
use Rattle.reg_rule.proofs.StoresNext.{cell_inside}
use Rattle.reg_rule.proofs.SwapsHead.{bucket_below}
use Rattle.reg_rule.proofs.LoadsNext.{from_head}
use Rattle.reg_rule.proofs.Doors.{swap_keeps}

-- the words with another next word
next_words : (m : ℕ → ℕ → ℕ) (cell new a : ℕ) → cut_words m (m HEAD) (set_at (m NEXT) cell new) a ≡ write m NEXT cell new a
next_words m cell new a = dite (ℕ_discrete a HEAD)
    (λ p. subst (λ (z : ℕ). cut_words m (m HEAD) (set_at (m NEXT) cell new) z ≡ write m NEXT cell new z) (sym p) refl)
    (λ n. ap (λ (b : Bool). cond b (m HEAD) (cond (a == NEXT) (set_at (m NEXT) cell new) (m a))) (ne_eqb a HEAD n)
    ∙ dite (ℕ_discrete a NEXT)
    (λ q. subst (λ (z : ℕ). cond (z == NEXT) (set_at (m NEXT) cell new) (m z) ≡ write m NEXT cell new z) (sym q) refl)
    (λ q. ap (λ (b : Bool). cond b (set_at (m NEXT) cell new) (m a)) (ne_eqb a NEXT q) ∙ sym (ap (λ (b : Bool). cond b (set_at (m a) cell new) (m a)) (ne_eqb a NEXT q))))

module _ (key : Key) (m : ℕ → ℕ → ℕ) (w : World) (views : List View) (id : ℕ) (v : View) (i : Inv key m w views) (at : get_elem? views id ≡ some v) (knows : v.key ≡ key)
    (h : Holding) (table withdrawn e : ℕ) (unit : Unit64) (may : MayCut table v h withdrawn e unit)
    (spot : ℕ) (inside : spot < key.entries) (way : h.way ≡ Some (record { table = table; entry = spot; ahead = [] })) where
  abbrev bucket : ℕ
  bucket = bucket_of unit.body table key.sizes.bits

  abbrev chain : List ℕ
  chain = w.chains table bucket

  abbrev cell : ℕ
  cell = next_cell key.entries table spot

  abbrev next : ℕ → ℕ
  next = next_in key.entries (m NEXT) table

  leads : LeadsThrough next (m HEAD (head_cell key.sizes.bits table bucket)) chain
  leads = i.chains.leads table bucket may.table_is (bucket_below unit.body table key.sizes.bits)

  once : Once chain
  once = i.chains.once table bucket

  in_chain : Member e chain
  in_chain = there key m w views id v i at knows h table withdrawn e unit may

  -- the entry comes just behind
  before : Member spot chain × ((rest : List ℕ) × (after spot chain ≡ e ∷ rest))
  before = (victim key m w views id v i at knows h table withdrawn e unit may).way (record { table = table; entry = spot; ahead = [] }) way

  pub found_is : m NEXT cell ≡ link_word e
  found_is = from_head (m NEXT cell) e chain before.1.0 (from_next next _ spot chain leads once before.0 ∙ before.1.1)

  module _ (new : ℕ) (behind : h.behind ≡ Some (record { table = table; word = new })) where
    abbrev next' : ℕ → ℕ
    next' = next_in key.entries (set_at (m NEXT) cell new) table

    moved : next' spot ≡ next e
    moved = set_here (m NEXT) cell new ∙ sym ((victim key m w views id v i at knows h table withdrawn e unit may).behind (record { table = table; word = new }) behind (low key m w views id v i at knows h table withdrawn e unit may))

    stays : (x : ℕ) → (x ≡ spot → ⊥) → next' x ≡ next x
    stays x apart = set_away (m NEXT) cell (next_cell key.entries table x) new (λ same. apart (let row : ℕ = table * key.entries in let z : row + x ≡ row + spot = same in omega arith))

    pub past_next : LeadsPast key m (m HEAD) (set_at (m NEXT) cell new) w.chains table bucket e
    past_next = record {
      leads = linked_without next next' _ e spot before.1.0 chain leads once before.0 before.1.1 moved stays;
      heads_else = λ t b s z apart. refl;
      nexts_else = λ t x s apart. set_away (m NEXT) cell (next_cell key.entries t x) new (λ same. let c = cell_apart key.entries t x table spot s inside same in apart c.0 (subst (λ (z : ℕ). Member z chain) (sym c.1) before.0));
      over = λ x member. over_next next next' _ e spot before.1.0 chain leads once in_chain before.0 before.1.1 moved stays x member;
      behind = stays e (λ same. not_after e chain once (subst (λ (z : List ℕ). Member e z) (sym (ap (λ (z : ℕ). after z chain) same ∙ before.1.1)) (inl refl)));
    }

    pub next_wins : Inv key (write m NEXT cell new) (cut_world key m w views id v i at knows h table withdrawn e unit may (m HEAD) (set_at (m NEXT) cell new) 21 refl past_next) (set views id (holder_did (cut_from table) v 21))
    next_wins = cut_told key m w views id v i at knows h table withdrawn e unit may (m HEAD) (set_at (m NEXT) cell new) 21 refl past_next (write m NEXT cell new) (next_words m cell new)

-- ---- the step

abbrev then : ℕ → ℕ → ℕ → ℕ → ℕ → Sat → ℕ → Sat → Type 0
then slots table a old new me = seated_with (λ old new v r w. NextCut table old v r w) (step slots a old new none) me

pub cuts_next : (key : Key) (slots id : ℕ) (me : Sat) (table spot old new : ℕ) → MayCutNext table spot old new me.0 → me.0.live ≡ true
    → Allows (Kept key) slots id me (start (sizes key) NEXT + next_cell key.entries table spot) (λ n. cond (n == old) new n) (then slots table (start (sizes key) NEXT + next_cell key.entries table spot) old new me)
cuts_next key slots id me table spot old new may live s k wide at small =
    let v : View = me.0 in let m : ℕ → ℕ → ℕ = mem (sizes key) s.words in let i = k.inv in let w : World = k.world in let knows : v.key ≡ key = i.knows id v at live in
    let o = may.1 in let inside : spot < key.entries = subst (λ (z : Key). spot < z.entries) knows may.0 in
    let found = found_is key m w s.views id v i at knows o.0 table o.1 o.2 o.3 o.4 spot inside o.5 in
    swap_keeps key s k NEXT (next_cell key.entries table spot) old new id me (then slots table (start (sizes key) NEXT + next_cell key.entries table spot) old new me)
    (cell_inside key.entries table spot o.4.table_is inside)
    (λ same. (
      holder_did (cut_from table) v 21,
      _,
      next_wins key m w s.views id v i at knows o.0 table o.1 o.2 o.3 o.4 spot inside o.5 new o.7,
      (record { wins = same; view = refl }, record { live = refl; key = refl; sessions = refl; hand = refl; seen = omega arith; remembered = refl }, refl),
    ))
    (λ other. absurd (other (found ∙ sym o.6)))

-- the table as a type tells it
pub cuts_next_as : (key : Key) (slots id : ℕ) (me : Sat) (told table spot old new a : ℕ) → told ≡ table → a ≡ start (sizes key) NEXT + next_cell key.entries table spot → MayCutNext table spot old new me.0 → me.0.live ≡ true
    → Allows (Kept key) slots id me a (λ n. cond (n == old) new n) (then slots told a old new me)
cuts_next_as key slots id me told table spot old new a told_is is may live =
    subst (λ (y : ℕ × ℕ). Allows (Kept key) slots id me y.0 (λ n. cond (n == old) new n) (then slots y.1 y.0 old new me)) (λ k. (sym is k, sym told_is k)) (cuts_next key slots id me table spot old new may live)
