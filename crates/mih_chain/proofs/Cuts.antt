-- The holder's way to the entry that it unlinks, and the cut.
use Rattle.std.proofs.Common.{◌≡◌, ◌≢◌, ℕ, ◌+◌, ◌-◌, ◌<◌, ◌≤◌, inl, inr, List, [], ◌∷◌, ◌++◌, length, append_assoc, append-nil, None, Some, sym, refl, ap, ◌∙◌, subst, arith}
use Rattle.std.proofs.lemmas.List.Elements.{All-append, All-cons, All-nil}
use mathlib.Core.Logic.{dite}
use native.Mathlib.Decide.{ℕ_discrete}
use Rattle.iscc_header.specs.declared.unit.Unit64.{Unit64}
use Rattle.mih_plan.specs.Buckets.{bucket_of}
use Rattle.reg_words.specs.declared.word.SweepWord.{SweepWord}
use Rattle.reg_rule.specs.declared.told.Told.TheVariants.{Sweeps}
use Rattle.reg_rule.specs.declared.view.Holding.{Holding}
use Rattle.reg_rule.specs.declared.view.View.{View}
use Rattle.reg_rule.specs.Chains.{Avoids}
use Rattle.reg_rule.specs.Tables.{is_in}
use Rattle.reg_rule.specs.Log.{IsWd}
use Rattle.reg_rule.specs.Conditions.{MayCut, MayCutNext, MayLoadNext, MayCutHead}
use Rattle.reg_rule.specs.Moves.{holder_did, on_holding, on_way, at_head, behind_at, cut_from}
use Rattle.reg_rule.specs.Steps.{NextTells, WayMoves, HeadTells, HeadSought, HeadCut}
use Rattle.mih_chain.specs.Linking.{MayUnlink, IsUnlinking, Unlinked}
use Rattle.mih_chain.specs.inner.Ways.{way, behind_link, IsOnWay, GoesOn, HasDone, IsFollowing, way_length, left_of, ahead_of}

-- ---- notes

pub done_none : (v : View) (h : Holding) → v.holding ≡ Some h → HasDone v v h
done_none v h has = record { steps = []; kinds = All-nil IsUnlinking; view = λ j. record v { holding = has j; made = sym (append-nil v.made) j } }

pub done_more : (v w x : View) (h : Holding) (f : Holding → Holding) (kind : ℕ) → IsUnlinking kind → HasDone v w h → x ≡ holder_did f w kind → HasDone v x (f h)
done_more v w x h f kind is d told = record {
  steps = d.steps ++ kind ∷ [];
  kinds = All-append IsUnlinking d.steps (kind ∷ []) d.kinds (All-cons IsUnlinking kind [] is (All-nil IsUnlinking));
  view = told ∙ (ap (λ (z : View). holder_did f z kind) d.view ∙ (λ j. record v { holding = Some (f h); made = append_assoc v.made d.steps (kind ∷ []) j }));
}

-- what a cut asks stays, as long as these notes do
may_still : (table : ℕ) (v w : View) (h h' : Holding) (id entry : ℕ) (unit : Unit64) → HasDone v w h' → h'.word ≡ h.word → h'.place ≡ h.place → h'.stamped ≡ h.stamped → h'.clear ≡ h.clear → h'.cut ≡ h.cut
    → MayCut table v h id entry unit → MayCut table w h' id entry unit
may_still table v w h h' id entry unit d word place stamped clear cut may = let s = may.seeking in subst (λ (z : View). MayCut table z h' id entry unit) (sym d.view) record {
  seeking = record {
    holding = refl;
    unmoved = ap (λ (x : SweepWord). x.limbo) word ∙ s.unmoved;
    stamped = stamped ∙ s.stamped;
    uncut = ap (is_in table) cut ∙ s.uncut;
    withdraws = subst (λ (n : ℕ). IsWd v.log n id entry) (sym place) s.withdraws;
    declares = s.declares;
  };
  table_is = may.table_is;
  scanned = clear ∙ may.scanned;
}

pub unlinked_of : (v w : View) (table : ℕ) (h : Holding) → v.holding ≡ Some h → HasDone v w (cut_from table h) → Unlinked table v w
unlinked_of v w table h has d = record {
  steps = d.steps;
  kinds = d.kinds;
  view = d.view ∙ (λ j. record v { holding = ap (on_holding (cut_from table)) (sym has) j; made = v.made ++ d.steps });
}

-- ---- the next word on the way

module _ (v w : View) (table entry at behind found : ℕ) (ahead : List ℕ) (on : IsOnWay v table entry at behind ahead) (told : NextTells Sweeps table at v found w) where
  moves : WayMoves table at entry ahead v found w
  moves = (told on.holding on.id entry on.may.seeking.holding on.may.seeking.withdraws).way on.apart on.holding ahead on.may.seeking.holding on.way_is

  pub next_low : (1 ≤ found) × (found ≤ entry + 1 + v.key.entries)
  next_low = by_ahead ahead moves where
    by_ahead : (ahead : List ℕ) → WayMoves table at entry ahead v found w → (1 ≤ found) × (found ≤ entry + 1 + v.key.entries)
    by_ahead [] m = let f = m.0 in (omega arith, omega arith)
    by_ahead (e ∷ rest) m = let f = m.0 in let low = m.1 in (omega arith, omega arith)

  pub way_ends : found ≡ entry + 1 → (ahead ≡ []) × (w ≡ holder_did (on_way table at []) v 16)
  way_ends same = by_ahead ahead on.avoids moves where
    by_ahead : (ahead : List ℕ) → Avoids entry ahead → WayMoves table at entry ahead v found w → (ahead ≡ []) × (w ≡ holder_did (on_way table at []) v 16)
    by_ahead [] a m = (refl, m.1)
    by_ahead (e ∷ rest) a m = absurd (a.0 (let f = m.0 in omega arith))

  pub way_goes : found ≢ entry + 1 → GoesOn (Some (found - 1)) table at ahead v w
  way_goes other = by_ahead ahead moves where
    by_ahead : (ahead : List ℕ) → WayMoves table at entry ahead v found w → GoesOn (Some (found - 1)) table at ahead v w
    by_ahead [] m = absurd (other m.0)
    by_ahead (e ∷ rest) m =
        let one : e ≡ found - 1 = (let f = m.0 in omega arith) in
        (rest, ap (λ (n : ℕ). n ∷ rest) one, subst (λ (n : ℕ). n < v.key.entries) one m.1, m.2 ∙ ap (λ (n : ℕ). holder_did (on_way table n rest) v 16) one)

-- ---- along the way

seeks : IsUnlinking 16
seeks = inr (inl refl)

pub follows_none : (v : View) (table entry at behind : ℕ) (ahead : List ℕ) → IsOnWay v table entry at behind ahead → IsFollowing v v table entry at behind
follows_none v table entry at behind ahead on = record {
  ahead = ahead;
  on = on;
  holding = on.holding;
  has = on.may.seeking.holding;
  done = done_none v (record (on.holding) { way = Some (way table at ahead) }) (on.may.seeking.holding ∙ (λ j. Some (record (on.holding) { way = on.way_is j })));
}

module _ (v x w : View) (table entry at behind : ℕ) (f : IsFollowing v x table entry at behind) where
  one_step : (g : Holding → Holding) (kind : ℕ) → IsUnlinking kind → w ≡ holder_did g x kind → HasDone x w (g f.on.holding)
  one_step g kind is told = done_more x x w f.on.holding g kind is (done_none x f.on.holding f.on.may.seeking.holding) told

  pub follows_more : (e : ℕ) → GoesOn (Some e) table at f.ahead x w → IsFollowing v w table entry e behind
  follows_more e g =
      let avoids : Avoids entry (e ∷ g.0) = subst (Avoids entry) g.1 f.on.avoids in
      record {
        ahead = g.0;
        on = record {
          holding = on_way table e g.0 f.on.holding;
          id = f.on.id;
          unit = f.on.unit;
          may = may_still table x w f.on.holding (on_way table e g.0 f.on.holding) f.on.id entry f.on.unit (one_step (on_way table e g.0) 16 seeks g.3) refl refl refl refl refl f.on.may;
          way_is = refl;
          behind_is = f.on.behind_is;
          apart = avoids.0;
          avoids = avoids.1;
          inside = subst (λ (z : View). e < z.key.entries) (sym g.3) g.2;
        };
        holding = f.holding;
        has = f.has;
        done = done_more v x w (record (f.holding) { way = Some (way table at f.ahead) }) (on_way table e g.0) 16 seeks f.done g.3;
      }

  pub fewer_ahead : (e : ℕ) → GoesOn (Some e) table at f.ahead x w → ahead_of w < ahead_of x
  fewer_ahead e g =
      let before : ahead_of x ≡ length f.ahead = ap left_of f.on.may.seeking.holding ∙ ap way_length f.on.way_is in
      let after : ahead_of w ≡ length g.0 = ap ahead_of (one_step (on_way table e g.0) 16 seeks g.3).view in
      let long : length f.ahead ≡ length (e ∷ g.0) = ap length g.1 in omega arith

  module _ (g : GoesOn None table at f.ahead x w) where
    abbrev last : Holding
    last = on_way table at [] f.on.holding

    pub may_cut : (old new : ℕ) → old ≡ entry + 1 → new ≡ behind → MayCutNext table at old new w
    may_cut old new old_is new_is = (
      subst (λ (z : View). at < z.key.entries) (sym g.1) f.on.inside,
      (
        last,
        f.on.id,
        entry,
        f.on.unit,
        may_still table x w f.on.holding last f.on.id entry f.on.unit (one_step (on_way table at []) 16 seeks g.1) refl refl refl refl refl f.on.may,
        refl,
        old_is,
        f.on.behind_is ∙ (λ j. Some (behind_link table (sym new_is j))),
      ),
    )

    pub cut_at_last : (y : View) → y ≡ holder_did (cut_from table) w 21 → Unlinked table v y
    cut_at_last y told =
        let before = done_more v x w (record (f.holding) { way = Some (way table at f.ahead) }) (on_way table at []) 16 seeks f.done g.1 in
        unlinked_of v y table f.holding f.has (done_more v w y (record (f.holding) { way = Some (way table at []) }) (cut_from table) 21 (inr (inr (inr refl))) before told)

-- ---- the search, from the head on

compose : (v w x : View) (table : ℕ) (h g : Holding) → v.holding ≡ Some h → HasDone v w g → cut_from table g ≡ cut_from table h → Unlinked table w x → Unlinked table v x
compose v w x table h g has d same u = record {
  steps = d.steps ++ u.steps;
  kinds = All-append IsUnlinking d.steps u.steps d.kinds u.kinds;
  view = u.view ∙ (λ j. record (d.view j) { holding = notes j; made = made j });
} where
  notes : on_holding (cut_from table) w.holding ≡ on_holding (cut_from table) v.holding
  notes = ap (λ (z : View). on_holding (cut_from table) z.holding) d.view ∙ (ap Some same ∙ ap (on_holding (cut_from table)) (sym has))

  made : w.made ++ u.steps ≡ v.made ++ (d.steps ++ u.steps)
  made = ap (λ (z : View). z.made ++ u.steps) d.view ∙ append_assoc v.made d.steps u.steps

module _ (table bucket entry : ℕ) (v : View) (may : MayUnlink table bucket entry v) where
  abbrev h : Holding
  h = may.0

  has : v.holding ≡ Some h
  has = may.3.seeking.holding

  abbrev wd : IsWd v.log h.place may.1 entry
  wd = may.3.seeking.withdraws

  after_one : (w : View) (g : Holding → Holding) (kind : ℕ) → IsUnlinking kind → w ≡ holder_did g v kind → HasDone v w (g h)
  after_one w g kind is told = done_more v v w h g kind is (done_none v h has) told

  -- the head was loaded: the entry is the first, or lies ahead
  module _ (found : ℕ) (w : View) (loaded : HeadTells Sweeps table bucket v found w) where
    sought : HeadSought table entry v found w
    sought = loaded h may.1 entry has wd

    pub head_low : (1 ≤ found) × (found ≤ entry + 1 + v.key.entries)
    head_low = dite (ℕ_discrete found (entry + 1))
        (λ first. (omega arith, omega arith))
        (λ other. let a = sought.ahead other in let f = a.2 in let low = a.3 in (omega arith, omega arith))

    -- what may be asked of the view after the load
    abbrev Noted : Type 0
    Noted = (g : Holding) × HasDone v w g × MayCut table w g may.1 entry may.2 × (cut_from table g ≡ cut_from table h)

    pub noted : Noted
    noted = dite (ℕ_discrete found (entry + 1))
        (λ first. let d = after_one w at_head 13 (inl refl) (sought.first first) in (at_head h, d, may_still table v w h (at_head h) may.1 entry may.2 d refl refl refl refl refl may.3, refl))
        (λ other. let a = sought.ahead other in let d = after_one w (on_way table a.0 a.1) 13 (inl refl) a.5 in
        (on_way table a.0 a.1 h, d, may_still table v w h (on_way table a.0 a.1 h) may.1 entry may.2 d refl refl refl refl refl may.3, refl))

    pub may_look : entry < v.key.entries → MayLoadNext Sweeps table entry w
    may_look inside = let n = noted in
        (n.2.table_is, subst (λ (z : View). entry < z.key.entries) (sym n.1.view) inside, (n.0, may.1, entry, may.2, n.2.seeking, inl refl))

    -- and then what comes behind the entry
    module _ (behind : ℕ) (x : View) (looked : NextTells Sweeps table entry w behind x) where
      told_of : (g : Holding) → w.holding ≡ Some g → IsWd w.log g.place may.1 entry → x ≡ holder_did (behind_at table behind) w 16
      told_of g holds d = (looked g may.1 entry holds d).behind refl

      pub first_there : found ≡ entry + 1 → HasDone v x (behind_at table behind (at_head h)) × MayCut table x (behind_at table behind (at_head h)) may.1 entry may.2
      first_there first =
          let d = after_one w at_head 13 (inl refl) (sought.first first) in
          let m = may_still table v w h (at_head h) may.1 entry may.2 d refl refl refl refl refl may.3 in
          let e = done_more v w x (at_head h) (behind_at table behind) 16 seeks d (told_of (at_head h) m.seeking.holding m.seeking.withdraws) in
          (e, may_still table v x h (behind_at table behind (at_head h)) may.1 entry may.2 e refl refl refl refl refl may.3)

      pub ahead_there : found ≢ entry + 1 → (ahead : List ℕ) × IsOnWay x table entry (found - 1) behind ahead
      ahead_there other =
          let a = sought.ahead other in let g : Holding = on_way table a.0 a.1 h in
          let d = after_one w (on_way table a.0 a.1) 13 (inl refl) a.5 in
          let m = may_still table v w h g may.1 entry may.2 d refl refl refl refl refl may.3 in
          let e = done_more v w x g (behind_at table behind) 16 seeks d (told_of g m.seeking.holding m.seeking.withdraws) in
          let one : a.0 ≡ found - 1 = (let f = a.2 in omega arith) in (
            a.1,
            record {
              holding = behind_at table behind g;
              id = may.1;
              unit = may.2;
              may = may_still table v x h (behind_at table behind g) may.1 entry may.2 e refl refl refl refl refl may.3;
              way_is = ap (λ (n : ℕ). Some (way table n a.1)) one;
              behind_is = refl;
              apart = λ same. other (let f = a.2 in omega arith);
              avoids = a.6;
              inside = subst (λ (n : ℕ). n < x.key.entries) one (subst (λ (z : View). a.0 < z.key.entries) (sym e.view) a.3);
            },
          )

      pub ahead_cut : found ≢ entry + 1 → (y : View) → Unlinked table x y → Unlinked table v y
      ahead_cut other y u =
          let a = sought.ahead other in let g : Holding = on_way table a.0 a.1 h in
          let d = after_one w (on_way table a.0 a.1) 13 (inl refl) a.5 in
          let m = may_still table v w h g may.1 entry may.2 d refl refl refl refl refl may.3 in
          let e = done_more v w x g (behind_at table behind) 16 seeks d (told_of g m.seeking.holding m.seeking.withdraws) in
          compose v x y table h (behind_at table behind g) has e refl u

      module _ (first : found ≡ entry + 1) where
        abbrev there : HasDone v x (behind_at table behind (at_head h)) × MayCut table x (behind_at table behind (at_head h)) may.1 entry may.2
        there = first_there first

        pub may_cut_head : MayCutHead table bucket (entry + 1) behind x
        may_cut_head = (behind_at table behind (at_head h), may.1, entry, may.2, there.1, may.4 ∙ ap (λ (z : View). bucket_of (may.2).body table z.key.sizes.bits) (sym there.0.view), refl, refl)

        -- the cut was lost: another push came between
        module _ (seen : ℕ) (y : View) (cut : HeadCut table (entry + 1) x seen y) where
          pub won_there : seen ≡ entry + 1 → Unlinked table v y
          won_there won = unlinked_of v y table h has (done_more v x y (behind_at table behind (at_head h)) (cut_from table) 20 (inr (inr (inl refl))) there.0 (cut.won won))

          pub lost_low : seen ≢ entry + 1 → (1 ≤ seen) × (seen ≤ x.key.entries)
          lost_low other = let a = cut.lost other in let f = a.2 in let low = a.3 in (omega arith, omega arith)

          after_lost : (other : seen ≢ entry + 1) → HasDone v y (on_way table (cut.lost other).0 (cut.lost other).1 (behind_at table behind (at_head h)))
          after_lost other = let a = cut.lost other in done_more v x y (behind_at table behind (at_head h)) (on_way table a.0 a.1) 20 (inr (inr (inl refl))) there.0 a.5

          pub lost_there : (start : ℕ) → start ≡ seen - 1 → seen ≢ entry + 1 → (ahead : List ℕ) × IsOnWay y table entry start behind ahead
          lost_there start start_is other =
              let a = cut.lost other in let g : Holding = on_way table a.0 a.1 (behind_at table behind (at_head h)) in let e = after_lost other in
              let one : a.0 ≡ start = (let f = a.2 in omega arith) in (
                a.1,
                record {
                  holding = g;
                  id = may.1;
                  unit = may.2;
                  may = may_still table v y h g may.1 entry may.2 e refl refl refl refl refl may.3;
                  way_is = ap (λ (n : ℕ). Some (way table n a.1)) one;
                  behind_is = refl;
                  apart = λ same. other (let f = a.2 in omega arith);
                  avoids = a.6 entry refl;
                  inside = subst (λ (n : ℕ). n < y.key.entries) one (subst (λ (z : View). a.0 < z.key.entries) (sym a.5) a.3);
                },
              )

          pub lost_cut : seen ≢ entry + 1 → (z : View) → Unlinked table y z → Unlinked table v z
          lost_cut other z u = let a = cut.lost other in compose v y z table h (on_way table a.0 a.1 (behind_at table behind (at_head h))) has (after_lost other) refl u
