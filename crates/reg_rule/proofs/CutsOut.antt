-- The rule after an entry is cut from its chain in one table (kinds 20 and 21), from what the words then lead to.
use Rattle.std.proofs.Common.{Option, cond, true≢false, ◌≡◌, ◌≢◌, ℕ, ◌+◌, ◌^◌, ◌<◌, ◌≤◌, inr, ⊎_elim, true, false, is_some, List, length, length-append, take, set, Some, None, [], ◌∷◌, ◌++◌, ◌==◌, eqb, sym, refl, ap, ◌∙◌, subst, arith}
use Rattle.std.proofs.lemmas.List.{take-append-le}
use mathlib.Core.Option.{some}
use mathlib.Core.Logic.{dite}
use native.Mathlib.Decide.{ℕ_discrete}
use lib.ListN.{get_elem?}
use Rattle.iscc_header.specs.declared.unit.Unit64.{Unit64}
use Rattle.mih_plan.specs.Buckets.{bucket_of}
use Rattle.reg_words.specs.Memory.{TAKE, PUT, CODE, HEAD, NEXT, SWEEP, GIVE}
use Rattle.reg_rule.specs.declared.view.Key.{Key}
use Rattle.reg_rule.specs.declared.view.Holding.{Holding}
use Rattle.reg_rule.specs.declared.view.View.{View}
use Rattle.reg_rule.specs.declared.view.Place.{Place}
use Rattle.reg_rule.specs.inner.Entries.{CountsPart}
use Rattle.reg_rule.specs.Moves.{did, cut_from, on_holding, holder_did}
use Rattle.reg_rule.specs.Log.{IsWd, IsLiveIn, Declares}
use Rattle.reg_rule.specs.Tables.{is_in}
use Rattle.reg_rule.specs.inner.HolderParts.{WordFits, ScansFit, CutsFit, GivesFit, VictimFits}
use Rattle.reg_rule.specs.inner.HandParts.{Holds}
use Rattle.reg_rule.specs.inner.World.{holds, World}
use Rattle.reg_rule.specs.inner.Queries.{Meets}
use Rattle.reg_rule.specs.Seats.{ReliesOn, IsFirst}
use Rattle.reg_rule.specs.inner.Sweeping.{IsReclaimed}
use Rattle.reg_rule.specs.Conditions.{MayCut}
use Rattle.reg_rule.specs.inner.ChainParts.{without, next_in, head_cell, ChainsPart}
use Rattle.reg_rule.specs.inner.Walks.{from, Cursors, Covers}
use Rattle.reg_rule.specs.Chains.{Member, LeadsThrough}
use Rattle.reg_rule.specs.inner.Rule.{Inv}
use Rattle.reg_rule.proofs.Counted.{total_set, set_is_seat, count_more, set_in_hands}
use Rattle.reg_rule.proofs.Views.{each_moves}
use Rattle.reg_rule.proofs.Once.{wd_same, declared_below}
use Rattle.reg_rule.proofs.CursorsCut.{set_in_here, set_in, set_in_away, cursor_cut, covers_cut}
use Rattle.reg_rule.proofs.Fits.{inv_of, Shared, Fits, fits_of}
use Rattle.reg_rule.proofs.SwapsHead.{bucket_below, in_more-here, in_more-else}
use Rattle.reg_rule.proofs.Floors.{front_above}
use Rattle.reg_rule.proofs.Shows.{at_inside, length_take}
use Rattle.reg_rule.proofs.ChainsKept.{chains_cut}
use Rattle.reg_rule.proofs.Cutting.{wd, dec, held, low, only, there, unscanned, floors_after, sweep_after, reclaimed_after, links_after, not_needed}
use Rattle.reg_rule.proofs.Holder.{none_begins, others_free}
use Rattle.reg_rule.proofs.Variants.{holds_same, not_in_hand, some_same}

some_cut : (t : ℕ) (l : List ℕ) → l ++ t ∷ [] ≡ [] → ⊥
some_cut t [] e = absurd (cc)
some_cut t (x ∷ l) e = absurd (cc)

-- How the words lead once the entry is cut from its chain: past it, and else as before.
pub record LeadsPast (key : Key) (m : ℕ → ℕ → ℕ) (heads' nexts' : ℕ → ℕ) (chains : ℕ → ℕ → List ℕ) (table bucket e : ℕ) : Type 0 where
  pub leads : LeadsThrough (next_in key.entries nexts' table) (heads' (head_cell key.sizes.bits table bucket)) (without e (chains table bucket))
  pub heads_else : (t b : ℕ) → t < 4 → b < 2 ^ key.sizes.bits → (t ≡ table → b ≡ bucket → ⊥) → heads' (head_cell key.sizes.bits t b) ≡ m HEAD (head_cell key.sizes.bits t b)
  pub nexts_else : (t x : ℕ) → x < key.entries → (t ≡ table → Member x (chains table bucket) → ⊥) → next_in key.entries nexts' t x ≡ next_in key.entries (m NEXT) t x
  -- a walk comes to what it would have come to, without the entry
  pub over : (x : ℕ) → Member x (chains table bucket) → from (next_in key.entries nexts' table x) (without e (chains table bucket)) ≡ without e (from (next_in key.entries (m NEXT) table x) (chains table bucket))
  -- the entry itself leads on
  pub behind : next_in key.entries nexts' table e ≡ next_in key.entries (m NEXT) table e

-- the words, with these heads and next words
abbrev pub cut_words : (ℕ → ℕ → ℕ) → (ℕ → ℕ) → (ℕ → ℕ) → ℕ → ℕ → ℕ
cut_words m heads' nexts' a = cond (a == HEAD) heads' (cond (a == NEXT) nexts' (m a))

module _ (key : Key) (m : ℕ → ℕ → ℕ) (w : World) (views : List View) (id : ℕ) (v : View) (i : Inv key m w views) (at : get_elem? views id ≡ some v) (knows : v.key ≡ key)
    (h : Holding) (table withdrawn e : ℕ) (unit : Unit64) (may : MayCut table v h withdrawn e unit)
    (heads' nexts' : ℕ → ℕ) (kind : ℕ) (plain : (kind == 2) ≡ false) (past : LeadsPast key m heads' nexts' w.chains table (bucket_of unit.body table key.sizes.bits) e) where
  abbrev bucket : ℕ
  bucket = bucket_of unit.body table key.sizes.bits

  wide : bucket < 2 ^ key.sizes.bits
  wide = bucket_below unit.body table key.sizes.bits

  abbrev m' : ℕ → ℕ → ℕ
  m' = cut_words m heads' nexts'

  mine : Member e (w.chains table bucket)
  mine = there key m w views id v i at knows h table withdrawn e unit may

  gone_at : IsWd w.log h.place withdrawn e
  gone_at = wd key m w views id v i at knows h table withdrawn e unit may

  kept : w.returned ≤ h.place
  kept = low key m w views id v i at knows h table withdrawn e unit may

  alone : (d j x : ℕ) → IsReclaimed w.log w.begun w.returned d j x → w.begun ≡ h.place + 1
  alone = only key m w views id v i at knows h table withdrawn e unit may

  held_here : w.uses e ≡ holds withdrawn
  held_here = held key m w views id v i at knows h table withdrawn e unit may

  -- its declaration is of this bucket
  same_bucket : (u : Unit64) → Declares key.carried w.log withdrawn u e → bucket_of u.body table key.sizes.bits ≡ bucket
  same_bucket u other = ap (λ (b : ℕ). bucket_of b table key.sizes.bits) (sym (i.codes.bodies withdrawn e u held_here other) ∙ i.codes.bodies withdrawn e unit held_here (dec key m w views id v i at knows h table withdrawn e unit may))

  sessions_below : (j : ℕ) (d : View) → get_elem? views j ≡ some d → (n : ℕ) → IsFirst d.accounts n → n < key.sizes.callers
  sessions_below j d at_d n one = subst (λ (z : ℕ). z < key.sizes.callers) (sym one.2) (i.owns j d at_d 0 one.0 one.1).below

  -- what is not linked in the table is not of the chain
  not_of_chain : (x : ℕ) → w.linked table x ≡ false → Member x (w.chains table bucket) → ⊥
  not_of_chain x off listed = true≢false (sym (i.chains.inside table bucket x listed).1 ∙ off)

  chains_after : ChainsPart key heads' nexts' (m CODE) (set_in w.chains table bucket (without e (w.chains table bucket))) (set_in w.linked table e false)
  chains_after = chains_cut key (m HEAD) heads' (m NEXT) nexts' (m CODE) w.chains w.linked table bucket e i.chains mine past.leads past.heads_else (λ t x s z apart. past.nexts_else t x z apart)

  cursors_after : (j : ℕ) (d : View) → get_elem? views j ≡ some d → Cursors key nexts' w.log (set_in w.chains table bucket (without e (w.chains table bucket))) (set_in w.linked table e false) (h.place + 1) w.returned None w.freed j d
  cursors_after j d at_d c cursor =
      cursor_cut key (m NEXT) nexts' w.log w.chains w.linked w.begun w.returned w.mark w.freed (m HEAD) (m CODE) i.chains i.log.lawful table bucket e h.place withdrawn may.table_is wide mine
      gone_at kept alone
      past.over past.behind (λ a x s z apart. past.nexts_else a x z apart) key.sizes.callers (unscanned key m w views id v i at knows h table withdrawn e unit may)
      same_bucket (i.log.entries h.place _ gone_at) (λ p q x r. i.log.entries p _ r.withdraws)
      d.pin d.accounts (sessions_below j d at_d) d.visited c (i.cursors j d at_d c cursor)

  -- each front on which a seat relies is above the place, and was seen
  above : (j k : ℕ) (d : View) → get_elem? views j ≡ some d → ReliesOn d k → (h.place + 1 ≤ k) × (k ≤ length d.log)
  above j k d at_d relies = (
    front_above key.sizes.callers w.accounts w.owner w.log w.word (h.place + 1) w.returned w.floor w.freed j k d (i.owns j d at_d) (i.fits_pin j d at_d) (i.above_floor j d at_d) (floors_after key m w views id v i at knows h table withdrawn e unit may) relies,
    ((i.fits_pin j d at_d).fronts k relies).2,
  )

  meets_after : (j : ℕ) (d : View) → get_elem? views j ≡ some d → Meets key (m CODE) w.log w.uses (set_in w.linked table e false) j d
  meets_after j d at_d n k x snapshot met = let f = i.meets j d at_d n k x snapshot met in record {
    table = f.table;
    inside = f.inside;
    named = f.named;
    unborn = λ is. let u = f.unborn is in (
      u.0,
      set_in_away w.linked table e x.table x.entry false (λ p q.
          let ho = ap w.uses q ∙ held_here in ⊎_elim
          (λ hand. not_in_hand hand.0 hand.1 withdrawn (sym hand.2 ∙ ho))
          (λ young. let one : young.0 ≡ withdrawn = holds_same young.0 withdrawn (sym young.1 ∙ ho) in let late = young.2 in let a = (above j k d at_d (inr snapshot)).0 in
          let live = i.log.lawful h.place withdrawn e gone_at in
          let b = declared_below key.carried (take h.place w.log) withdrawn e live.0 i.key_part.opening live.1.declares in
          let room = at_inside w.log h.place _ gone_at in let l = length_take w.log h.place (omega arith) in absurd (omega arith)) u.0) ∙ u.1,
      u.2,
    );
  }

  covers_after : (j : ℕ) (d : View) → get_elem? views j ≡ some d → Covers key nexts' (set_in w.chains table bucket (without e (w.chains table bucket))) j d
  covers_after j d at_d c k declared entry u cursor snapshot live is = let saw = i.saw j d at_d in let rel = above j k d at_d (inr snapshot) in let high = rel.1 in
      let long : length w.log ≡ length d.log + length saw.0 = ap length saw.1 ∙ length-append d.log saw.0 in
      let same : take k w.log ≡ take k d.log = ap (take k) saw.1 ∙ take-append-le k d.log saw.0 (omega arith) in
      covers_cut key (m NEXT) nexts' w.log w.chains w.linked w.begun w.returned w.mark w.freed (m HEAD) (m CODE) i.chains i.log.lawful table bucket e h.place withdrawn may.table_is wide mine
      gone_at kept alone
      past.over past.behind (λ a x s z apart. past.nexts_else a x z apart) key.sizes.callers (unscanned key m w views id v i at knows h table withdrawn e unit may)
      same_bucket (i.log.entries h.place _ gone_at) (λ p q x r. i.log.entries p _ r.withdraws)
      d.pin d.accounts (sessions_below j d at_d) d.visited c (i.cursors j d at_d c cursor) entry
      (λ q. not_needed key m w views id v i at knows h table withdrawn e unit may k declared u rel.0 (omega arith) (subst (λ (l : List Place). IsLiveIn key.carried l declared u e) (sym same) (subst (λ (z : ℕ). IsLiveIn key.carried (take k d.log) declared u z) q live)))
      (i.covers j d at_d c k declared entry u cursor snapshot live is)

  abbrev pub cut_world : World
  cut_world = record w { chains = set_in w.chains table bucket (without e (w.chains table bucket)); linked = set_in w.linked table e false; begun = h.place + 1; mark = None }

  hands_after : (j : ℕ) (d : View) → get_elem? views j ≡ some d → Holds key (m CODE) nexts' w.uses w.stamps (set_in w.linked table e false) j d
  hands_after j d at_d n x there_x = let f = i.hands j d at_d n x there_x in record {
    inside = f.inside;
    use_is = f.use_is;
    unborn = f.unborn;
    code = f.code;
    tables = λ t small. set_in_away w.linked table e t x.entry false (λ p q. not_in_hand j n withdrawn (sym f.use_is ∙ (ap w.uses q ∙ held_here))) ∙ f.tables t small;
    written = f.written;
    ready = λ l is. let r = f.ready l is in (r.0, past.nexts_else l.table x.entry f.inside (λ p listed. not_of_chain x.entry (f.tables table may.table_is ∙ subst (λ (t : ℕ). is_in t x.linked ≡ false) p r.0) listed) ∙ r.1);
  }

  -- what the other seats say: none of them holds the sweep
  others_cut : (j : ℕ) (d : View) → get_elem? views j ≡ some d → j ≢ id → Fits key m' cut_world j d
  others_cut j d at_d apart = let f = fits_of key m w views i j d at_d in
      let begins = none_begins key m' cut_world j d (others_free key m w id j d ((i.is_holder id v at).0 (ap is_some may.seeking.holding)) apart f) in record {
        knows = f.knows;
        owns = f.owns;
        saw = f.saw;
        has_sessions = f.has_sessions;
        rows = f.rows;
        found = f.found;
        exchanges = f.exchanges;
        fits_pin = f.fits_pin;
        pinned = f.pinned;
        above_floor = f.above_floor;
        helps = f.helps;
        hands = hands_after j d at_d;
        cursors = cursors_after j d at_d;
        covers = covers_after j d at_d;
        takes = f.takes;
        found_empty = f.found_empty;
        stopped = f.stopped;
        last_word = f.last_word;
        is_holder = f.is_holder;
        at_word = begins.at_word;
        idles = begins.idles;
        scans = begins.scans;
        cuts = begins.cuts;
        gives = begins.gives;
        victims = begins.victims;
        meets = meets_after j d at_d;
        costs = f.costs;
      }

  abbrev after_cut : View
  after_cut = record v { holding = Some (cut_from table h); made = did v kind }

  shared_cut : Shared key m' cut_world (set views id after_cut)
  shared_cut = record {
    key_part = i.key_part;
    log = i.log;
    notes = i.notes;
    accounts = i.accounts;
    uses = i.uses;
    stamps = i.stamps;
    codes = i.codes;
    counts = subst (CountsPart key (m TAKE) (m PUT) w.log w.returned w.taken w.put) (sym (total_set (λ x. length x.hands) views id v after_cut at refl)) i.counts;
    ring = i.ring;
    chains = chains_after;
    links = links_after key m w views id v i at knows h table withdrawn e unit may;
    sweep = sweep_after key m w views id v i at knows h table withdrawn e unit may (m SWEEP) refl;
    reclaimed = reclaimed_after key m w views id v i at knows h table withdrawn e unit may;
    floors = floors_after key m w views id v i at knows h table withdrawn e unit may;
    sessions = total_set (λ x. length x.accounts) views id v after_cut at refl ∙ i.sessions;
    in_hands = set_in_hands w.uses views id v after_cut refl at i.in_hands;
    sweeper = set_is_seat w.holder views id v after_cut at i.sweeper;
  }

  own_cut : Fits key m' cut_world id after_cut
  own_cut = let f = fits_of key m w views i id v at in let has = may.seeking.holding in let room = at_inside v.log h.place _ may.seeking.withdraws in
      let h' : Holding = cut_from table h in let one : is_some v.holding ≡ true = ap is_some has in
      let lo = kept in let o = f.at_word h has in let g = f.gives h has in record {
        knows = f.knows;
        owns = f.owns;
        saw = f.saw;
        has_sessions = record { hands_most = f.has_sessions.hands_most; holding = λ _. f.has_sessions.holding one; spent = f.has_sessions.spent };
        rows = f.rows;
        found = f.found;
        exchanges = let c = count_more (λ k. eqb k 2) v.made kind plain in let x = f.exchanges in omega arith;
        fits_pin = f.fits_pin;
        pinned = f.pinned;
        above_floor = f.above_floor;
        helps = f.helps;
        hands = hands_after id v at;
        cursors = cursors_after id v at;
        covers = covers_after id v at;
        takes = f.takes;
        found_empty = f.found_empty;
        stopped = f.stopped;
        last_word = f.last_word;
        is_holder = ((λ x. f.is_holder.0 one), (λ x. refl));
        at_word = λ x is. subst (λ (z : Holding). WordFits w.log w.word z.word z.place) (some_same h' x is) o;
        idles = λ x is. subst (λ (z : Holding). length v.log ≤ z.place → (z.stamped ≡ false) × (z.cut ≡ []) × (z.way ≡ None) × (z.behind ≡ None) × (z.gave ≡ false)) (some_same h' x is) (λ big. absurd (omega arith));
        scans = λ x is. subst (λ (z : Holding). ScansFit w.floor w.freed z.place z.clear z.freed) (some_same h' x is) (f.scans h has);
        cuts = λ x is. subst (λ (z : Holding). CutsFit (h.place + 1) w.returned (length v.log) None z.word.limbo z.stamped z.place z.cut z.marked) (some_same h' x is) record {
          uncut = λ l nothing. absurd (some_cut table h.cut nothing);
          cut = λ l c. (refl, lo, may.seeking.stamped, room);
          unmarked = λ l nothing c. refl;
          mark_is = λ k l bad. absurd (cc);
        };
        gives = λ x is. subst (λ (z : Holding). GivesFit key (m GIVE) v.log w.returned w.put z.word.limbo z.place z.put z.gave z.paid) (some_same h' x is) g;
        victims = λ x j y u is. subst (λ (z : Holding). IsWd v.log z.place j y → Declares key.carried v.log j u y → VictimFits key nexts' w.stamps cut_world.chains cut_world.linked w.returned z.word.limbo z.stamped z.place z.cut z.behind z.way j y u) (some_same h' x is)
            (λ wd' dec'. let old = i.victims id v at h j y u has wd' dec' in let same = wd_same v.log h.place j withdrawn y e wd' may.seeking.withdraws in record {
              dead = old.dead;
              tables = λ t small l. dite (ℕ_discrete t table)
                  (λ p. ((λ _. in_more-here t table h.cut (sym p)), (λ _. set_in_here w.linked table e t y false p same.1)))
                  (λ n. let away = set_in_away w.linked table e t y false (λ p q. n p) in let listed = in_more-else t table h.cut (λ q. n (sym q)) in let was = old.tables t small l in
                  ((λ z. listed ∙ was.0 (sym away ∙ z)), (λ z. away ∙ was.1 (sym listed ∙ z))));
              behind = λ l bad. absurd (cc);
              way = λ l bad. absurd (cc);
            });
        meets = meets_after id v at;
        costs = f.costs;
      }

  -- the rule after the exchange that wins
  cut_inv : Inv key m' cut_world (set views id after_cut)
  cut_inv = inv_of key m' cut_world (set views id after_cut) shared_cut
      (each_moves (λ j d. get_elem? views j ≡ some d) (Fits key m' cut_world) views id after_cut (λ j d e. e) (λ j d apart e. others_cut j d e apart) own_cut)

  -- the same of the words as they are written, and of the view as it is told
  pub cut_told : (words : ℕ → ℕ → ℕ) → ((a : ℕ) → m' a ≡ words a) → Inv key words cut_world (set views id (holder_did (cut_from table) v kind))
  cut_told words are = let e : Some (cut_from table h) ≡ on_holding (cut_from table) v.holding = sym (ap (on_holding (cut_from table)) may.seeking.holding) in
      subst (λ (z : (ℕ → ℕ → ℕ) × Option Holding). Inv key z.0 cut_world (set views id (record v { holding = z.1; made = did v kind }))) (λ j. ((λ a. are a j), e j)) cut_inv
