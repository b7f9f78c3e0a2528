-- Kind 8: a store of the stamp or of the code of the entry in hand, which is linked nowhere.
use Rattle.std.proofs.Common.{◌≡◌, ◌≢◌, ℕ, ◌+◌, ◌<◌, ◌==◌, true, false, true≢false, List, [], ◌∷◌, set, length, Option, None, Some, sym, refl, ap, ◌∙◌, subst, arith}
use mathlib.Core.Logic.{dite}
use native.Mathlib.Decide.{ℕ_discrete}
use mathlib.Core.Option.{none, some}
use lib.ListN.{get_elem?}
use Rattle.atomic_table.specs.Table.{step, keeps, Allows}
use Rattle.mih_plan.specs.Buckets.{bucket_of}
use Rattle.reg_words.specs.declared.word.StampWord.{StampWord}
use Rattle.reg_words.specs.declared.word.StampWord.TheVariants.{Unborn, Dead}
use Rattle.reg_words.specs.Packing.{stamp_word}
use Rattle.reg_words.specs.Memory.{TAKE, PUT, CODE, STAMP, NEXT, NOTE, start, mem, set_at, write}
use Rattle.reg_rule.specs.declared.view.Key.{Key}
use Rattle.reg_rule.specs.declared.view.Hand.{Hand}
use Rattle.reg_rule.specs.declared.view.View.{View}
use Rattle.reg_rule.specs.Tables.{is_in}
use Rattle.reg_rule.specs.Chains.{Member}
use Rattle.reg_rule.specs.Seats.{hand_of, first_entry}
use Rattle.reg_rule.specs.Conditions.{MayStoreHeld}
use Rattle.reg_rule.specs.Moves.{written, stored_held}
use Rattle.reg_rule.specs.Steps.{HeldStored}
use Rattle.reg_rule.specs.inner.World.{in_hand, holds, World}
use Rattle.reg_rule.specs.inner.Entries.{CountsPart, HasKind, StampsPart}
use Rattle.reg_rule.specs.inner.HelpParts.{IsComplete}
use Rattle.reg_rule.specs.inner.HandParts.{HandFits}
use Rattle.reg_rule.specs.inner.Queries.{Meets}
use Rattle.reg_rule.specs.inner.Plays.{Sat, seated}
use Rattle.reg_rule.specs.inner.Rule.{Inv, Kept, sizes}
use Rattle.reg_rule.proofs.Views.{each_moves}
use Rattle.reg_rule.proofs.Counted.{total_set, set_is_seat, count_more}
use Rattle.reg_rule.proofs.StampsKept.{set_here, set_away, at_set, fits_cleared}
use Rattle.reg_rule.proofs.StampsMoved.{stamp_fits, stamp_inv}
use Rattle.reg_rule.proofs.Fits.{Fits, fits_of, inv_of}
use Rattle.reg_rule.proofs.Doors.{write_keeps}
use Rattle.reg_rule.proofs.Variants.{some_same, hand_seat, not_in_hand}
use Rattle.reg_rule.proofs.Handed.{on_hand-length, one_hand, handed-first, handed_in_hands}

stamp_word-unborn : stamp_word Unborn ≡ 0
unfolding stamp_word
stamp_word-unborn = refl

written-entry : (x : Option ℕ) (h : Hand) → (written x h).entry ≡ h.entry
written-entry None h = refl
written-entry (Some code) h = refl

module _ (key : Key) (m : ℕ → ℕ → ℕ) (w : World) (views : List View) (id : ℕ) (v : View) (i : Inv key m w views) (at : get_elem? views id ≡ some v)
    (h : Hand) (hand : v.hands ≡ h ∷ []) (none : h.linked ≡ []) (entry : ℕ) (is_entry : h.entry ≡ entry) where
  mine : HandFits key (m CODE) (m NEXT) w.uses w.stamps w.linked id 0 h
  mine = i.hands id v at 0 h (ap (λ (z : List Hand). get_elem? z 0) hand)

  held : w.uses entry ≡ in_hand id 0
  held = ap w.uses (sym is_entry) ∙ mine.use_is

  pub room : entry < key.entries
  room = subst (λ (z : ℕ). z < key.entries) is_entry mine.inside

  -- ---- the stamp

  complete : (n : ℕ) → IsComplete key.carried.base (m NOTE) w.uses w.stamps w.log n → IsComplete key.carried.base (m NOTE) w.uses (set_at w.stamps entry Unborn) w.log n
  complete n c = record {
    noted = c.noted;
    born = λ un e d is unborn. dite (ℕ_discrete e entry)
        (λ same. not_in_hand id 0 (key.carried.base + n) (sym held ∙ (ap w.uses (sym same) ∙ is)))
        (λ apart. c.born un e d is (sym (set_away w.stamps entry e Unborn apart) ∙ unborn));
    dead = λ x e kind d is live. dite (ℕ_discrete e entry)
        (λ same. not_in_hand id 0 x (sym held ∙ (ap w.uses (sym same) ∙ is)))
        (λ apart. c.dead x e kind d is (sym (set_away w.stamps entry e Unborn apart) ∙ live));
  }

  hands : (e seat j : ℕ) → w.uses e ≡ in_hand seat j → w.stamps e ≡ Unborn → set_at w.stamps entry Unborn e ≡ Unborn
  hands e seat j _ is = dite (ℕ_discrete e entry) (λ same. ap (set_at w.stamps entry Unborn) same ∙ set_here w.stamps entry Unborn) (λ apart. set_away w.stamps entry e Unborn apart ∙ is)

  dead : (e kind x d : ℕ) → w.uses e ≡ holds x → w.stamps e ≡ Dead kind x d → set_at w.stamps entry Unborn e ≡ Dead kind x d
  dead e kind x d has is = set_away w.stamps entry e Unborn (λ same. not_in_hand id 0 x (sym held ∙ (ap w.uses (sym same) ∙ has))) ∙ is

  part : StampsPart key (set_at (m STAMP) entry 0) w.log w.returned w.uses (set_at w.stamps entry Unborn)
  part = record {
    words = λ e inside. dite (ℕ_discrete e entry)
        (λ same. subst (λ (z : ℕ). set_at (m STAMP) entry 0 z ≡ stamp_word (set_at w.stamps entry Unborn z)) (sym same) (set_here (m STAMP) entry 0 ∙ (sym stamp_word-unborn ∙ sym (ap stamp_word (set_here w.stamps entry Unborn)))))
        (λ apart. set_away (m STAMP) entry e 0 apart ∙ (i.stamps.words e inside ∙ sym (ap stamp_word (set_away w.stamps entry e Unborn apart))));
    kinds = at_set w.stamps entry Unborn (λ e s. e < key.entries → HasKind s) (λ inside. tt) (λ e apart inside. i.stamps.kinds e inside);
    fits = fits_cleared key w.log w.returned w.uses w.stamps i.key_part.opening i.log.lawful i.stamps.fits entry id 0 held;
  }

  abbrev stamps' : ℕ → StampWord
  stamps' = set_at w.stamps entry Unborn

  own_stamp : Fits key (write m STAMP entry 0) (record w { stamps = stamps' }) id v → Fits key (write m STAMP entry 0) (record w { stamps = stamps' }) id (stored_held v None)
  own_stamp f = record {
    knows = f.knows;
    owns = f.owns;
    saw = f.saw;
    has_sessions = record { hands_most = (let a = f.has_sessions.hands_most in let b = on_hand-length (written None) v.hands in omega arith); holding = f.has_sessions.holding; spent = f.has_sessions.spent };
    rows = f.rows;
    found = f.found;
    exchanges = let a = count_more (λ k. k == 2) v.made 8 refl in let e = f.exchanges in omega arith;
    fits_pin = f.fits_pin;
    pinned = f.pinned;
    above_floor = f.above_floor;
    helps = f.helps;
    hands = λ l x e. let t = one_hand (written None) v.hands h hand l x e in let g = f.hands 0 h (ap (λ (z : List Hand). get_elem? z 0) hand) in
        subst (λ (y : ℕ × Hand). HandFits key (m CODE) (m NEXT) w.uses stamps' w.linked id y.0 y.1) (λ k. (sym t.0 k, t.1 k)) record {
          inside = g.inside;
          use_is = g.use_is;
          unborn = λ _. ap stamps' is_entry ∙ set_here w.stamps entry Unborn;
          code = g.code;
          tables = g.tables;
          written = λ table inside. let z : is_in table h.linked ≡ false = ap (is_in table) none in absurd (true≢false (sym inside ∙ z));
          ready = g.ready;
        };
    cursors = f.cursors;
    covers = f.covers;
    takes = f.takes;
    found_empty = f.found_empty;
    stopped = f.stopped;
    last_word = f.last_word;
    is_holder = f.is_holder;
    at_word = f.at_word;
    idles = f.idles;
    scans = f.scans;
    cuts = f.cuts;
    gives = f.gives;
    victims = f.victims;
    meets = f.meets;
    costs = f.costs;
  }

  pub unborn_inv : Inv key (write m STAMP entry 0) (record w { stamps = stamps' }) (set views id (stored_held v None))
  unborn_inv = stamp_inv key m w views i entry 0 Unborn complete hands dead id v (stored_held v None) at (on_hand-length (written None) v.hands) refl (handed_in_hands (written None) (written-entry None) w.uses views id v (stored_held v None) refl at i.in_hands) part
      (own_stamp (stamp_fits key m w views i entry 0 Unborn complete hands dead id v (fits_of key m w views i id v at)))

  -- ---- the code

  unlinked : (table e : ℕ) → table < 4 → e ≡ entry → w.linked table e ≡ true → ⊥
  unlinked table e low same linked = true≢false (sym linked ∙ (ap (w.linked table) (same ∙ sym is_entry) ∙ (mine.tables table low ∙ ap (is_in table) none)))

  met_still : (new j : ℕ) (d : View) → Meets key (m CODE) w.log w.uses w.linked j d → Meets key (set_at (m CODE) entry new) w.log w.uses w.linked j d
  met_still new j d f l k x snapshot there = let o = f l k x snapshot there in record {
    table = o.table;
    inside = o.inside;
    named = o.named;
    unborn = λ is. let q = o.unborn is in (q.0, q.1, ap (λ (z : ℕ). bucket_of z x.table key.sizes.bits) (set_away (m CODE) entry x.entry new (λ same. unlinked x.table x.entry o.table same q.1)) ∙ q.2);
  }

  module _ (new : ℕ) where
    code_fits : (j : ℕ) (d : View) → j ≢ id → Fits key m w j d → Fits key (write m CODE entry new) w j d
    code_fits j d ne f = record {
      knows = f.knows;
      owns = f.owns;
      saw = f.saw;
      has_sessions = f.has_sessions;
      rows = f.rows;
      found = f.found;
      exchanges = f.exchanges;
      fits_pin = f.fits_pin;
      pinned = f.pinned;
      above_floor = f.above_floor;
      helps = f.helps;
      hands = λ l x e. let g = f.hands l x e in record { inside = g.inside; use_is = g.use_is; unborn = g.unborn; code = λ y is. set_away (m CODE) entry x.entry new (λ same. ne (hand_seat j l id 0 (sym g.use_is ∙ (ap w.uses same ∙ held)))) ∙ g.code y is; tables = g.tables; written = g.written; ready = g.ready };
      cursors = f.cursors;
      covers = f.covers;
      takes = f.takes;
      found_empty = f.found_empty;
      stopped = f.stopped;
      last_word = f.last_word;
      is_holder = f.is_holder;
      at_word = f.at_word;
      idles = f.idles;
      scans = f.scans;
      cuts = f.cuts;
      gives = f.gives;
      victims = f.victims;
      meets = met_still new j d f.meets;
      costs = f.costs;
    }

    own_code : Fits key m w id v → Fits key (write m CODE entry new) w id (stored_held v (Some new))
    own_code f = record {
      knows = f.knows;
      owns = f.owns;
      saw = f.saw;
      has_sessions = record { hands_most = (let a = f.has_sessions.hands_most in let b = on_hand-length (written (Some new)) v.hands in omega arith); holding = f.has_sessions.holding; spent = f.has_sessions.spent };
      rows = f.rows;
      found = f.found;
      exchanges = let a = count_more (λ k. k == 2) v.made 8 refl in let e = f.exchanges in omega arith;
      fits_pin = f.fits_pin;
      pinned = f.pinned;
      above_floor = f.above_floor;
      helps = f.helps;
      hands = λ l x e. let t = one_hand (written (Some new)) v.hands h hand l x e in let g = f.hands 0 h (ap (λ (z : List Hand). get_elem? z 0) hand) in
          subst (λ (y : ℕ × Hand). HandFits key (set_at (m CODE) entry new) (m NEXT) w.uses w.stamps w.linked id y.0 y.1) (λ k. (sym t.0 k, t.1 k)) record {
            inside = g.inside;
            use_is = g.use_is;
            unborn = g.unborn;
            code = λ y is. ap (set_at (m CODE) entry new) is_entry ∙ (set_here (m CODE) entry new ∙ some_same new y is);
            tables = g.tables;
            written = λ table inside. let z : is_in table h.linked ≡ false = ap (is_in table) none in absurd (true≢false (sym inside ∙ z));
            ready = g.ready;
          };
      cursors = f.cursors;
      covers = f.covers;
      takes = f.takes;
      found_empty = f.found_empty;
      stopped = f.stopped;
      last_word = f.last_word;
      is_holder = f.is_holder;
      at_word = f.at_word;
      idles = f.idles;
      scans = f.scans;
      cuts = f.cuts;
      gives = f.gives;
      victims = f.victims;
      meets = met_still new id v f.meets;
      costs = f.costs;
    }

    pub code_inv : Inv key (write m CODE entry new) w (set views id (stored_held v (Some new)))
    code_inv = let u : View = stored_held v (Some new) in inv_of key (write m CODE entry new) w (set views id u)
        record {
          key_part = i.key_part;
          log = i.log;
          notes = i.notes;
          accounts = i.accounts;
          uses = i.uses;
          stamps = i.stamps;
          codes = record { bodies = λ x e unit is dec. set_away (m CODE) entry e new (λ same. not_in_hand id 0 x (sym held ∙ (ap w.uses (sym same) ∙ is))) ∙ i.codes.bodies x e unit is dec };
          counts = subst (CountsPart key (m TAKE) (m PUT) w.log w.returned w.taken w.put) (sym (total_set (λ x. length x.hands) views id v u at (on_hand-length (written (Some new)) v.hands))) i.counts;
          ring = i.ring;
          chains = record {
            leads = i.chains.leads;
            once = i.chains.once;
            tables = i.chains.tables;
            inside = λ table bucket e member. let o = i.chains.inside table bucket e member in (o.0, o.1, ap (λ (z : ℕ). bucket_of z table key.sizes.bits) (set_away (m CODE) entry e new (λ same. unlinked table e (i.chains.tables table bucket e member) same o.1)) ∙ o.2);
            whole = λ table e low inside linked. subst (λ (z : ℕ). Member e (w.chains table (bucket_of z table key.sizes.bits))) (sym (set_away (m CODE) entry e new (λ same. unlinked table e low same linked))) (i.chains.whole table e low inside linked);
          };
          links = i.links;
          sweep = i.sweep;
          reclaimed = i.reclaimed;
          floors = i.floors;
          sessions = total_set (λ x. length x.accounts) views id v u at refl ∙ i.sessions;
          in_hands = handed_in_hands (written (Some new)) (written-entry (Some new)) w.uses views id v (stored_held v (Some new)) refl at i.in_hands;
          sweeper = set_is_seat w.holder views id v u at i.sweeper;
        }
        (each_moves (Fits key m w) (Fits key (write m CODE entry new) w) views id u (fits_of key m w views i) code_fits (own_code (fits_of key m w views i id v at)))

-- ---- the steps

own_entry : (key : Key) (m : ℕ → ℕ → ℕ) (w : World) (views : List View) (id : ℕ) (v : View) (h : Hand) → Inv key m w views → get_elem? views id ≡ some v → v.hands ≡ h ∷ [] → h.entry < key.entries
own_entry key m w views id v h i at hand = (i.hands id v at 0 h (ap (λ (z : List Hand). get_elem? z 0) hand)).inside

pub stores_unborn : (key : Key) (slots id : ℕ) (me : Sat) (a : ℕ) (may : MayStoreHeld me.0) → a ≡ start (sizes key) STAMP + may.0.entry
    → Allows (Kept key) slots id me a (λ _. 0) (λ _. seated (λ v r w. HeldStored None v w) (step slots a 0 0 none) me 0)
stores_unborn key slots id me a may is = subst (λ (z : ℕ). Allows (Kept key) slots id me z (λ _. 0) (λ _. seated (λ v r w. HeldStored None v w) (step slots z 0 0 none) me 0)) (sym is) (λ s k wide at small.
    let v : View = me.0 in let m : ℕ → ℕ → ℕ = mem (sizes key) s.words in (
      stored_held v None,
      keeps,
      tt,
      write_keeps key s k STAMP may.0.entry 0 id me (stored_held v None) _ (own_entry key m k.world s.views id v may.0 k.inv at may.1) (unborn_inv key m k.world s.views id v k.inv at may.0 may.1 may.3 may.0.entry refl),
      (refl, record { live = refl; key = refl; sessions = refl; seen = omega arith; hand = handed-first (written None) (written-entry None) v.hands; remembered = refl }, refl),
    ))

pub stores_code : (key : Key) (slots id : ℕ) (me : Sat) (a new : ℕ) (may : MayStoreHeld me.0) → a ≡ start (sizes key) CODE + may.0.entry
    → Allows (Kept key) slots id me a (λ _. new) (λ _. seated (λ v r w. HeldStored (Some new) v w) (step slots a new 0 none) me new)
stores_code key slots id me a new may is = subst (λ (z : ℕ). Allows (Kept key) slots id me z (λ _. new) (λ _. seated (λ v r w. HeldStored (Some new) v w) (step slots z new 0 none) me new)) (sym is) (λ s k wide at small.
    let v : View = me.0 in let m : ℕ → ℕ → ℕ = mem (sizes key) s.words in (
      stored_held v (Some new),
      keeps,
      tt,
      write_keeps key s k CODE may.0.entry new id me (stored_held v (Some new)) k.world (own_entry key m k.world s.views id v may.0 k.inv at may.1) (code_inv key m k.world s.views id v k.inv at may.0 may.1 may.3 may.0.entry refl new),
      (refl, record { live = refl; key = refl; sessions = refl; seen = omega arith; hand = handed-first (written (Some new)) (written-entry (Some new)) v.hands; remembered = refl }, refl),
    ))

-- the code as a type tells it
pub stores_code_as : (key : Key) (slots id : ℕ) (me : Sat) (a new : ℕ) (told : Option ℕ) (may : MayStoreHeld me.0) → told ≡ Some new → a ≡ start (sizes key) CODE + may.0.entry
    → Allows (Kept key) slots id me a (λ _. new) (λ _. seated (λ v r w. HeldStored told v w) (step slots a new 0 none) me new)
stores_code_as key slots id me a new told may is at = subst (λ (x : Option ℕ). Allows (Kept key) slots id me a (λ _. new) (λ _. seated (λ v r w. HeldStored x v w) (step slots a new 0 none) me new)) (sym is) (stores_code key slots id me a new may at)

pub same_hand : (v : View) (h : Hand) (entry : ℕ) → v.hands ≡ h ∷ [] → hand_of v ≡ Some entry → h.entry ≡ entry
same_hand v h entry is e = some_same h.entry entry (sym (ap first_entry is) ∙ e)
