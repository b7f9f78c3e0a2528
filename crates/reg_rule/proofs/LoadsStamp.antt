-- Kind 7: a load of the stamp of an entry.
use Rattle.std.proofs.Common.{◌≡◌, ℕ, ◌+◌, ◌<◌, ◌≤◌, true, false, true≢false, List, [], length, get_or, set, Option, None, Some, sym, refl, ap, ◌∙◌, subst, arith}
use Rattle.std.proofs.Math.Decide.{dec_lt}
use mathlib.Core.Logic.{dite}
use mathlib.Core.Option.{none, some}
use lib.ListN.{get_elem?}
use Rattle.atomic_table.specs.Table.{step, keeps, Allows}
use Rattle.iscc_header.specs.declared.unit.Unit64.{Unit64}
use Rattle.reg_model.specs.declared.reply.Hit.{Hit}
use Rattle.reg_words.specs.declared.word.StampWord.{StampWord}
use Rattle.reg_words.specs.declared.word.StampWord.TheVariants.{Unborn, Live, Dead}
use Rattle.reg_words.specs.Memory.{STAMP, LOG, CODE, NEXT, start, mem}
use Rattle.reg_words.proofs.Memory.{mem-read}
use Rattle.reg_rule.specs.declared.told.Told.{Told}
use Rattle.reg_rule.specs.declared.told.Told.TheVariants.{Row as RowOf, Hits, Examines}
use Rattle.reg_rule.specs.declared.view.Key.{Key}
use Rattle.reg_rule.specs.declared.view.Place.{Place}
use Rattle.reg_rule.specs.declared.view.Found.{Found}
use Rattle.reg_rule.specs.declared.view.Met.{Met}
use Rattle.reg_rule.specs.declared.view.Holding.{Holding}
use Rattle.reg_rule.specs.declared.view.View.{View}
use Rattle.reg_rule.specs.Log.{IsWd, Declares, NoneWithdrawn}
use Rattle.reg_rule.specs.Tables.{is_in}
use Rattle.reg_rule.specs.Helping.{HasHelped}
use Rattle.reg_rule.specs.Conditions.{MayLoadStamp, MayExamine, MayTellLook}
use Rattle.reg_rule.specs.Moves.{with_step, replied, standing, stamp_reply, with_hits, AreHitsOf, TellsHits, found_at, met_at, is_dead, examining, looked}
use Rattle.reg_rule.specs.Steps.{StampLoaded}
use Rattle.reg_rule.specs.inner.World.{holds, World}
use Rattle.reg_rule.specs.inner.PinParts.{FoundLive}
use Rattle.reg_rule.specs.inner.HolderParts.{VictimFits}
use Rattle.reg_rule.specs.inner.Queries.{Meets}
use Rattle.reg_rule.specs.inner.Plays.{Sat, Stays, seated}
use Rattle.reg_rule.specs.inner.Rule.{Inv, Kept, sizes}
use Rattle.reg_rule.proofs.Counted.{set_at_own}
use Rattle.reg_rule.proofs.Once.{wd_same, wd_once, wd_later}
use Rattle.reg_rule.proofs.Shows.{at_inside}
use Rattle.reg_rule.proofs.StampsMoved.{held_still}
use Rattle.reg_rule.proofs.WordKept.{at_shorter}
use Rattle.reg_rule.proofs.Fronted.{set_twice}
use Rattle.reg_rule.proofs.Tells.{stamp_bits}
use Rattle.reg_rule.proofs.LooksTell.{look_told, tell_counted, stamp_decides}
use Rattle.reg_rule.proofs.LoadsCode.{seen_in, declares_in, look_stays}
use Rattle.reg_rule.proofs.StampSeen.{seen_low, shows, found_live, met_live, last_helped, holds_fits}
use Rattle.reg_rule.proofs.Fits.{Fits, fits_of}
use Rattle.reg_rule.proofs.Sets.{fits_set, counted_inv}
use Rattle.reg_rule.proofs.Doors.{load_keeps}
use Rattle.reg_rule.proofs.Holder.{noted_fits}

-- what the look found and met
abbrev pub with_look : View → Option Found → List Met → View
with_look v found met = record v { found = found; met = met }

look_fits : (key : Key) (m : ℕ → ℕ → ℕ) (w : World) (id : ℕ) (v : View) (found : Option Found) (met : List Met) → FoundLive key id (with_look v found met) → Meets key (m CODE) w.log w.uses w.linked id (with_look v found met) → Fits key m w id v → Fits key m w id (with_look v found met)
look_fits key m w id v found met f_ok m_ok f = record {
  knows = f.knows;
  owns = f.owns;
  saw = f.saw;
  has_sessions = f.has_sessions;
  rows = f.rows;
  found = f_ok;
  exchanges = f.exchanges;
  fits_pin = f.fits_pin;
  pinned = f.pinned;
  above_floor = f.above_floor;
  helps = f.helps;
  hands = f.hands;
  cursors = f.cursors;
  covers = f.covers;
  takes = f.takes;
  found_empty = f.found_empty;
  stopped = f.stopped;
  last_word = f.last_word;
  is_holder = f.is_holder;
  at_word = f.at_word;
  idles = f.idles;
  scans = f.scans;
  cuts = f.cuts;
  gives = f.gives;
  victims = f.victims;
  meets = m_ok;
  costs = f.costs;
}

-- the holder goes on to a place
abbrev pub moved : Holding → ℕ → StampWord → Holding
moved h place s = record h { place = place; stamped = is_dead s; clear = 0; way = None; behind = None; freed = 0; gave = false }

abbrev pub with_holding : View → Holding → View
with_holding v h = record v { holding = Some h }

exam_fits : (key : Key) (m : ℕ → ℕ → ℕ) (w : World) (id : ℕ) (v : View) (h : Holding) (place : ℕ) (s : StampWord) → v.holding ≡ Some h → h.word.limbo ≡ false → h.cut ≡ [] → h.place ≤ place → place < length v.log → place ≤ length w.log → NoneWithdrawn w.log h.place place
    → ((x e : ℕ) (un : Unit64) → IsWd v.log place x e → Declares key.carried v.log x un e → VictimFits key (m NEXT) w.stamps w.chains w.linked w.returned h.word.limbo (is_dead s) place h.cut None None x e un)
    → Fits key m w id v → Fits key m w id (with_holding v (moved h place s))
exam_fits key m w id v h place s has out cut from inside within clear victim f = let o = f.at_word h has in let c = f.cuts h has in let g = f.gives h has in noted_fits key m w id v h (moved h place s) has record {
  at_word = let lower = o.from in record {
    word_is = o.word_is;
    held = o.held;
    from = omega arith;
    within = omega arith;
    between = λ out d x en a b wd. dite (dec_lt d h.place) (λ l. o.between out d x en a l wd) (λ past. clear d x en (omega arith) b wd);
    limbo = λ on. absurd (true≢false (sym on ∙ out));
  };
  idles = λ late. absurd (omega arith);
  scans = record { clear_of = λ n l. absurd (omega arith); free_of = λ n l. absurd (omega arith) };
  cuts = record { uncut = c.uncut; cut = λ _ some_cut. absurd (some_cut cut); unmarked = λ _ _ some_cut. absurd (some_cut cut); mark_is = c.mark_is };
  gives = record { put_is = g.put_is; given = λ gave. absurd (true≢false (sym gave)); back = λ paid. absurd (true≢false (sym (g.back paid).0 ∙ out)); kept = λ _ on. absurd (true≢false (sym on ∙ out)) };
  victims = victim;
} f

-- what is looked at, where it isn't examined
looked_is : (told : Told) (entry : ℕ) (s : StampWord) (v : View) (hits : List Hit) → ((place : ℕ) → told ≡ Examines place → ⊥)
    → with_hits told hits (looked told entry s v) ≡ with_look (with_hits told hits (replied stamp_reply told (with_step v 7) (standing v))) (found_at v.front entry s v) (met_at v.cursor entry s v.met)
looked_is (RowOf call) entry s v hits other = refl
looked_is (Hits unit radius looks) entry s v hits other = refl
looked_is (Examines place) entry s v hits other = absurd (other place refl)
looked_is told entry s v hits other = refl

hits_same : (told : Told) (entry : ℕ) (s : StampWord) (v : View) (hits : List Hit) → AreHitsOf told (replied stamp_reply told (with_step v 7) (standing v)) hits → AreHitsOf told (looked told entry s v) hits
hits_same (Hits unit radius looks) entry s v hits are = are
hits_same told entry s v hits are = tt

-- what is left of the step
abbrev pub Looks : Key → (ℕ → ℕ → ℕ) → List View → ℕ → Told → ℕ → StampWord → View → Type 0
Looks key m views id told entry s v = (u : View) × (w' : World) × Inv key m w' (set views id u) × TellsHits told (looked told entry s v) u × Stays v u

module _ (key : Key) (m : ℕ → ℕ → ℕ) (w : World) (views : List View) (id : ℕ) (v : View) (i : Inv key m w views) (at : get_elem? views id ≡ some v) (knows : v.key ≡ key) (live : v.live ≡ true) (one : 0 < length v.accounts) (entry : ℕ) (room : entry < key.entries) where
  abbrev s : StampWord
  s = w.stamps entry

  looks_told : (told : Told) → ((place : ℕ) → told ≡ Examines place → ⊥) → MayTellLook told v → Looks key m views id told entry s v
  looks_told told other may =
      let u : View = with_step v 7 in
      let r = look_told stamp_reply stamp_decides key m w (set views id u) id u told (counted_inv key m w views id v 7 refl at i) (set_at_own views id v u at) live one (tell_counted told v 7 may) in
      let x : View = with_hits told r.0 (replied stamp_reply told u (standing v)) in let w1 : World = record w { accounts = r.2.0 } in let is = looked_is told entry s v r.0 other in
      let after : View = with_hits told r.0 (looked told entry s v) in let met : View = with_look x (found_at v.front entry s v) (met_at v.cursor entry s v.met) in
      let in_x : get_elem? (set (set views id u) id x) id ≡ some x = set_at_own (set views id u) id u x (set_at_own views id v u at) in
      let j = fits_set key m w1 (set (set views id u) id x) id x met r.2.1 in_x refl refl (look_fits key m w1 id x (found_at v.front entry s v) (met_at v.cursor entry s v.met)
      (λ f e. found_live key m w views id v i at knows entry room f e) (λ l k y opened there. met_live key m w views id v i at knows entry room l k y opened there) (fits_of key m w1 (set (set views id u) id x) r.2.1 id x in_x)) in
      let stays = look_stays stamp_reply told u (standing v) r.0 in (
        after,
        w1,
        subst (Inv key m w1) (set_twice (set views id u) id x met ∙ (set_twice views id u met ∙ ap (set views id) (sym is))) j,
        (r.0, hits_same told entry s v r.0 r.1, refl),
        subst (λ (z : View). Stays v z) (sym is) record { live = stays.live; key = stays.key; sessions = stays.sessions; seen = stays.seen; hand = stays.hand; remembered = stays.remembered },
      )

  -- ---- the holder examines the place

  module _ (place withdrawn : ℕ) (h : Holding) (has : v.holding ≡ Some h) (out : h.word.limbo ≡ false) (cut : h.cut ≡ []) (from : h.place ≤ place) (clear : NoneWithdrawn v.log h.place place) (wd : IsWd v.log place withdrawn entry) where
    there : IsWd w.log place withdrawn entry
    there = seen_in key m w views id v i at knows place _ wd

    in_front : w.returned ≤ place
    in_front = let o = i.at_word id v at h has in let start_at = o.from in let same : w.word.place ≡ h.word.place = ap (λ z. z.place) o.word_is in
        dite (dec_lt place w.returned) (λ l. let a = i.sweep.ahead place withdrawn entry (omega arith) l there in absurd (true≢false (sym a.0 ∙ (ap (λ z. z.limbo) o.word_is ∙ out)))) (λ g. omega arith)

    held : w.uses entry ≡ holds withdrawn
    held = held_still key m w views i place withdrawn entry there in_front

    victim : (x e : ℕ) (un : Unit64) → IsWd v.log place x e → Declares key.carried v.log x un e → VictimFits key (m NEXT) w.stamps w.chains w.linked w.returned h.word.limbo (is_dead s) place h.cut None None x e un
    victim x e un wd' dec = let same = wd_same v.log place x withdrawn e entry wd' wd in
        let dec' : Declares key.carried w.log withdrawn un entry = subst (λ (z : ℕ × ℕ). Declares key.carried w.log z.0 un z.1) (λ k. (same.0 k, same.1 k)) (declares_in key m w views id v i at knows x e un (subst (λ (z : Key). Declares z.carried v.log x un e) (sym knows) dec)) in
        subst (λ (z : ℕ × ℕ). VictimFits key (m NEXT) w.stamps w.chains w.linked w.returned h.word.limbo (is_dead s) place h.cut None None z.0 z.1 un) (λ k. (sym same.0 k, sym same.1 k)) record {
          dead = λ stamped low. dead_as un dec' s refl stamped;
          tables = λ table small _. (
            (λ gone. absurd (true≢false (sym (linked table small) ∙ gone))),
            (λ is. let off : is_in table h.cut ≡ false = ap (is_in table) cut in absurd (true≢false (sym is ∙ off))),
          );
          behind = λ l e. absurd (cc);
          way = λ y e. absurd (cc);
        } where
          dead_as : (un : Unit64) → Declares key.carried w.log withdrawn un entry → (t : StampWord) → s ≡ t → is_dead t ≡ true → s ≡ Dead un.kind withdrawn place
          dead_as un dec Unborn is e = absurd (cc)
          dead_as un dec (Live kind y) is e = absurd (cc)
          dead_as un dec (Dead kind y d) is e = let f = holds_fits key m w views id v i at knows entry room withdrawn (Dead kind y d) held is in let k = f.1 un dec in let same = wd_once key.carried w.log d place withdrawn entry entry i.log.lawful f.2 there in
              is ∙ (λ j. Dead (k j) (f.0 j) (same j))

          linked : (table : ℕ) → table < 4 → w.linked table entry ≡ true
          linked table small = let uncut = (i.cuts id v at h has).uncut out cut in let low = in_front in
              i.links.held table withdrawn entry small room held (λ d f w'. let same = wd_once key.carried w.log d place withdrawn f entry i.log.lawful w' there in omega arith)

    pub examines : Looks key m views id (Examines place) entry s v
    examines =
        let u : View = with_step v 7 in let x : View = with_look u (found_at v.front entry s v) (met_at v.cursor entry s v.met) in let after : View = with_holding x (moved h place s) in
        let i1 = counted_inv key m w views id v 7 refl at i in let at1 = set_at_own views id v u at in
        let f1 = look_fits key m w id u (found_at v.front entry s v) (met_at v.cursor entry s v.met) (λ f e. found_live key m w views id v i at knows entry room f e) (λ l k y opened met_there. met_live key m w views id v i at knows entry room l k y opened met_there) (fits_of key m w (set views id u) i1 id u at1) in
        let inside = at_inside v.log place _ wd in let reach = at_inside w.log place _ there in
        let f2 = exam_fits key m w id x h place s has out cut from inside (omega arith)
        (λ d y e a b w'. let saw = i.saw id v at in clear d y e a b (shorter d y e (omega arith) w')) victim f1 in
        let is : looked (Examines place) entry s v ≡ after = ap (λ (o : Option Holding). record x { holding = examining o place s }) has in (
          after,
          w,
          subst (Inv key m w) (set_twice views id u after) (fits_set key m w (set views id u) id u after i1 at1 refl refl f2),
          ([], tt, sym is),
          record { live = refl; key = refl; sessions = refl; seen = omega arith; hand = refl; remembered = refl },
        ) where
          shorter : (d y e : ℕ) → d < length v.log → IsWd w.log d y e → IsWd v.log d y e
          shorter d y e low w' = let saw = i.saw id v at in at_shorter v.log saw.0 d _ low (subst (λ (l : List Place). IsWd l d y e) saw.1 w')

    -- what is not yet dead is at the last place, which was not helped
    pub not_dead : is_dead s ≡ false → (length v.log ≡ place + 1) × (HasHelped v (place + 1) → ⊥)
    not_dead alive = by_stamp s refl alive where
      by_stamp : (t : StampWord) → s ≡ t → is_dead t ≡ false → (length v.log ≡ place + 1) × (HasHelped v (place + 1) → ⊥)
      by_stamp (Dead kind y d) is e = absurd (cc)
      by_stamp Unborn is e = let f = holds_fits key m w views id v i at knows entry room withdrawn Unborn held is in let a = f.1 in let b = f.2 in
          let later = wd_later key.carried w.log f.0 place entry i.key_part.opening i.log.lawful (subst (λ (z : ℕ). IsWd w.log place z entry) a there) in let reach = at_inside w.log place _ there in absurd (omega arith)
      by_stamp (Live kind y) is e = let f = holds_fits key m w views id v i at knows entry room withdrawn (Live kind y) held is in let last = f.2 place entry there in
          let inside = at_inside v.log place _ wd in let low = seen_low key m w views id v i at knows entry room in (
            omega arith,
            (λ has. (last_helped key m w views id v i at knows entry room (place + 1) place has refl last).dead withdrawn entry kind there held (is ∙ ap (Live kind) f.0)),
          )

-- ---- the step

looks_all : (key : Key) (m : ℕ → ℕ → ℕ) (w : World) (views : List View) (id : ℕ) (v : View) → Inv key m w views → get_elem? views id ≡ some v → v.key ≡ key → v.live ≡ true → 0 < length v.accounts → (entry : ℕ) → entry < key.entries
    → (told : Told) → MayExamine told entry v → Looks key m views id told entry (w.stamps entry) v
looks_all key m w views id v i at knows live one entry room (Examines place) may = examines key m w views id v i at knows live one entry room place may.1 may.0 may.2 may.3 may.4 may.5 may.6 may.7
looks_all key m w views id v i at knows live one entry room told may = looks_told key m w views id v i at knows live one entry room told (λ place e. absurd (cc)) may.1

pub loads_stamp : (key : Key) (slots id : ℕ) (me : Sat) (told : Told) (entry : ℕ) → MayLoadStamp told entry me.0 → me.0.live ≡ true → 0 < length me.0.accounts
    → Allows (Kept key) slots id me (start (sizes key) STAMP + entry) (λ x. x) (seated (StampLoaded told entry) (step slots (start (sizes key) STAMP + entry) 0 0 none) me)
loads_stamp key slots id me told entry may live one st k wide at small =
    let v : View = me.0 in let m : ℕ → ℕ → ℕ = mem (sizes key) st.words in let i = k.inv in let w : World = k.world in let knows : v.key ≡ key = i.knows id v at live in let a : ℕ = start (sizes key) STAMP + entry in
    let room : entry < key.entries = subst (λ (z : Key). entry < z.entries) knows may.inside in
    let read : m STAMP entry ≡ get_or st.words a 0 = mem-read (sizes key) st.words STAMP entry room in
    let r = looks_all key m w st.views id v i at knows live one entry room told may.by in (
      r.0,
      keeps,
      tt,
      load_keeps key st k a id me r.0 r.1 r.2,
      (
        record {
          stamp = w.stamps entry;
          word = sym read ∙ i.stamps.words entry room;
          bits = stamp_bits key (m STAMP) (m LOG) w.log w.returned entry w.uses w.stamps i.key_part i.log i.uses i.stamps room;
          view = r.3;
          shows = shows key m w st.views id v i at knows entry room;
          swept = λ place is alive. let e = subst (λ (t : Told). MayExamine t entry v) is may.by in not_dead key m w st.views id v i at knows live one entry room place e.1 e.0 e.2 e.3 e.4 e.5 e.6 e.7 alive;
        },
        r.4,
        refl,
      ),
    )

-- the same at an address that the code has computed
pub loads_stamp_at : (key : Key) (slots id : ℕ) (me : Sat) (told : Told) (entry a : ℕ) → a ≡ start (sizes key) STAMP + entry → MayLoadStamp told entry me.0 → me.0.live ≡ true → 0 < length me.0.accounts
    → Allows (Kept key) slots id me a (λ x. x) (seated (StampLoaded told entry) (step slots a 0 0 none) me)
loads_stamp_at key slots id me told entry a is may live one = subst (λ (z : ℕ). Allows (Kept key) slots id me z (λ x. x) (seated (StampLoaded told entry) (step slots z 0 0 none) me)) (sym is) (loads_stamp key slots id me told entry may live one)
