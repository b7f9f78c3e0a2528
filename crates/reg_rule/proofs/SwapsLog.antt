-- Kind 2: an exchange of the next place of the log, from empty to a record.
use Rattle.std.proofs.Common.{◌≡◌, ◌≢◌, ℕ, zero, suc, ◌+◌, ◌<◌, ◌≤◌, ◌==◌, cond, Bool, true, ◌⊎◌, inl, inr, ⊎_elim, List, [], ◌∷◌, ◌++◌, length, take, drop, set, Option, None, Some, sym, refl, ap, ◌∙◌, subst, arith, append-nil, is_some, if◌then◌else◌, eq-eqb, ne_eqb}
use Rattle.std.proofs.lemmas.List.{length-map}
use Rattle.std.proofs.Math.Seq.{take-length}
use mathlib.Core.Logic.{dite}
use native.Mathlib.Decide.{ℕ_discrete}
use mathlib.Core.Option.{none, some, some-injective, some-ne-none}
use lib.ListN.{get_elem?}
use Rattle.atomic_table.specs.Table.{step, Allows}
use Rattle.atomic_table.proofs.Lists.{set_else, at_longer}
use Rattle.iscc_header.specs.declared.unit.Unit64.{Unit64}
use Rattle.reg_model.specs.declared.update.Update.{Update}
use Rattle.reg_model.specs.declared.update.Update.TheVariants.{Decl, Wd}
use Rattle.reg_model.specs.declared.call.Call.TheVariants as calls
use Rattle.reg_model.specs.declared.reply.Reply.TheVariants as replies
use Rattle.reg_model.specs.declared.reply.Row.{Row}
use Rattle.reg_model.specs.Replies.{Replies}
use Rattle.reg_model.specs.Rows.{is_accepted, update_of}
use Rattle.reg_words.specs.Memory.{LOG, NOTE, CODE, NEXT, TAKE, PUT, GIVE, start, mem, set_at, write}
use Rattle.reg_rule.specs.declared.view.Key.{Key}
use Rattle.reg_rule.specs.declared.view.Place.{Place}
use Rattle.reg_rule.specs.declared.view.Account.{Account}
use Rattle.reg_rule.specs.declared.view.Hand.{Hand}
use Rattle.reg_rule.specs.declared.view.View.{View}
use Rattle.reg_rule.specs.Log.{At, updates, place_of, place_word, IsLiveIn}
use Rattle.reg_rule.specs.Seats.{hand_of, first_entry}
use Rattle.reg_rule.specs.Helping.{HasHelped}
use Rattle.reg_rule.specs.inner.AccountParts.{IsAnswered, AccountsPart}
use Rattle.reg_rule.specs.Conditions.{MaySwapLog, MayCommit}
use Rattle.reg_rule.specs.Moves.{head_number, head_rows, row_placed, committed, passed}
use Rattle.reg_rule.specs.Steps.{SeenFits, LogSwapped}
use Rattle.reg_rule.specs.inner.World.{Use, free, in_hand, holds, World}
use Rattle.reg_rule.specs.inner.SeatParts.{total, InHands}
use Rattle.reg_rule.specs.inner.Entries.{CodesPart, RingPart}
use Rattle.reg_rule.specs.inner.ChainParts.{LinksPart}
use Rattle.reg_rule.specs.inner.HandParts.{HandFits}
use Rattle.reg_rule.specs.inner.HelpParts.{IsComplete}
use Rattle.reg_rule.specs.inner.Queries.{IsYoung}
use Rattle.reg_rule.specs.inner.Plays.{Sat, hand_left, seated_past}
use Rattle.reg_rule.specs.inner.Remembering.{remembered_of, counting, log_swapped}
use Rattle.reg_rule.specs.inner.Rule.{Inv, Kept, sizes}
use Rattle.reg_rule.proofs.Counted.{set_at_own, set_in_hands}
use Rattle.reg_rule.proofs.Shows.{at_inside}
use Rattle.reg_rule.proofs.Once.{length_one_more, declares_one_more, declared_below}
use Rattle.reg_rule.proofs.StampsKept.{set_here, set_away, fits_declared, fits_withdrawn}
use Rattle.reg_rule.proofs.UsesKept.{uses_declared, uses_withdrawn}
use Rattle.reg_rule.proofs.CountsKept.{counts_declared, counts_withdrawn}
use Rattle.reg_rule.proofs.AccountsKept.{accounts_committed}
use Rattle.reg_rule.proofs.Floors.{last_complete}
use Rattle.reg_rule.proofs.Balance.{few_live}
use Rattle.reg_rule.proofs.Bridge.{live_listed}
use Rattle.reg_rule.proofs.Tells.{rows_served, seen_fits}
use Rattle.reg_rule.proofs.Fits.{Fits}
use Rattle.reg_rule.proofs.Passed.{passed_inv}
use Rattle.reg_rule.proofs.RowsEnter.{with_row, has_head, length_grown}
use Rattle.reg_rule.proofs.Fronted.{all_in}
use Rattle.reg_rule.proofs.LoadsLog.{log_word-some, at_place}
use Rattle.reg_rule.proofs.LogGrows.{log_longer}
use Rattle.reg_rule.proofs.Commits.{commit_inv}
use Rattle.reg_rule.proofs.Doors.{St, Loses, swap_keeps}
use Rattle.reg_rule.proofs.Variants.{hand_seat, holds_same}
use Rattle.reg_rule.proofs.Remembering.{grown_rest, passed_rest, tells_declaration, swapped_won, swapped_lost}

front_updates : (l : List Place) (p : Place) → take (length l) (updates (l ++ p ∷ [])) ≡ updates l
front_updates [] p = refl
front_updates (x ∷ l) p = ap (λ (us : List Update). x.update ∷ us) (front_updates l p)

total_own : (f : View → ℕ) (views : List View) (id : ℕ) (v : View) → get_elem? views id ≡ some v → f v ≤ total f views
total_own f [] id v at = absurd (some-ne-none v (sym at))
total_own f (x ∷ views) zero v at = let h : f x ≡ f v = ap f (some-injective x v at) in omega arith
total_own f (x ∷ views) (suc id) v at = let h = total_own f views id v at in omega arith

held_free : (a b : ℕ) → holds a ≡ free b → ⊥
held_free a b e = cc

hand_free : (a b c : ℕ) → in_hand a b ≡ free c → ⊥
hand_free a b c e = cc

held_hand : (a b c : ℕ) → holds a ≡ in_hand b c → ⊥
held_hand a b c e = cc

is_first : (h x : Hand) (l : ℕ) → At (h ∷ []) l x → h ≡ x
is_first h x zero e = some-injective h x e
is_first h x (suc l) e = absurd (some-ne-none x (sym e))

module _ (key : Key) (m : ℕ → ℕ → ℕ) (w : World) (views : List View) (id : ℕ) (v : View) (i : Inv key m w views) (at : get_elem? views id ≡ some v) (knows : v.key ≡ key) (one : 0 < length v.accounts)
    (place old new : ℕ) (p : Place) (may : MaySwapLog place old new p v) (empty : m LOG place ≡ 0) where
  -- the place is empty, so it is the front
  all : w.log ≡ v.log
  all = by_more (i.saw id v at).0 (i.saw id v at).1 where
    by_more : (more : List Place) → w.log ≡ v.log ++ more → w.log ≡ v.log
    by_more [] is = is ∙ append-nil v.log
    by_more (q ∷ more) is = absurd (log_word-some key.carried.base place q (sym (i.log.filled place q (subst (λ (z : List Place × ℕ). At z.0 z.1 q) (λ j. (sym is j, sym may.next j)) (at_place v.log more q))) ∙ empty))

  long : length w.log ≡ length v.log
  long = ap length all

  end : place ≡ length w.log
  end = may.next ∙ sym long

  base : v.key.carried.base ≡ key.carried.base
  base = ap (λ (k : Key). k.carried.base) knows

  done : (n : ℕ) → n + 1 ≡ length w.log → IsComplete key.carried.base (m NOTE) w.uses w.stamps w.log n
  done = last_complete key (m NOTE) w.log w.uses w.stamps id v (i.helps id v at) (sym long) (subst (HasHelped v) end may.helped)

  inside : length w.log < key.sizes.log
  inside = subst (λ (k : Key). length w.log < k.sizes.log) knows (let a = may.inside in let b = end in omega arith)

  word : new ≡ place_word key.carried.base (length w.log) p
  word = may.word ∙ (λ j. place_word (base j) (end j) p)

  abbrev row : Row
  row = row_placed v p.update

  abbrev n : ℕ
  n = head_number v.accounts

  head : (a : Account) × At v.accounts 0 a × (head_number v.accounts ≡ a.number) × (head_rows v.accounts ≡ a.rows)
  head = has_head v.accounts one

  small : n < key.sizes.callers
  small = subst (λ (k : ℕ). k < key.sizes.callers) (sym head.2) (i.owns id v at 0 head.0 head.1).below

  rows_are : w.accounts n ≡ head.0.rows
  rows_are = ap w.accounts head.2 ∙ (i.owns id v at 0 head.0 head.1).rows_are

  -- the reply is that at the place
  answered_here : row.point ≡ v.key.carried.base + (length v.log + 1) → update_of row.call row.reply ≡ Some p.update → Replies key.sizes key.carried (updates w.log) row.call row.reply → IsAnswered key.sizes key.carried (updates (w.log ++ p ∷ [])) row
  answered_here point update reply = record {
    place = length w.log;
    within = (let a : length (updates (w.log ++ p ∷ [])) ≡ length (w.log ++ p ∷ []) = length-map (w.log ++ p ∷ []) (λ (q : Place). q.update) in let b = length_one_more w.log p in omega arith);
    point = (let loud : if◌then◌else◌ {A = ℕ} (is_accepted row) 1 0 ≡ 1 = ap (λ (x : Option Update). if◌then◌else◌ {A = ℕ} (is_some x) 1 0) update in let a = long in let b = base in omega arith);
    reply = subst (λ (l : List Update). Replies key.sizes key.carried l row.call row.reply) (sym (front_updates w.log p)) reply;
  }

  accounts_part : row.session ≡ n → row.number ≡ length (head_rows v.accounts) → row.point ≡ v.key.carried.base + (length v.log + 1) → update_of row.call row.reply ≡ Some p.update
      → Replies key.sizes key.carried (updates w.log) row.call row.reply → AccountsPart key (w.log ++ p ∷ []) (with_row w.accounts n row)
  accounts_part session number point update reply = accounts_committed key w.log w.accounts i.accounts p n row small session (number ∙ ap length (head.3 ∙ sym rows_are))
      (let a = long in let b = base in omega arith) update (answered_here point update reply)
      (λ k r there. let b = (i.rows id v at).below 0 k head.0 r head.1 (subst (λ (l : List Row). At l k r) rows_are there) in let a = long in omega arith)

-- ---- a declaration

module _ (key : Key) (m : ℕ → ℕ → ℕ) (w : World) (views : List View) (id : ℕ) (v : View) (i : Inv key m w views) (at : get_elem? views id ≡ some v) (knows : v.key ≡ key) (one : 0 < length v.accounts)
    (place old new : ℕ) (unit : Unit64) (e : ℕ) (may : MaySwapLog place old new (place_of (Decl unit) e) v) (empty : m LOG place ≡ 0) where
  abbrev p : Place
  p = place_of (Decl unit) e

  record_is : MayCommit v (Decl unit) e
  record_is = may.record_is

  abbrev h : Hand
  h = record_is.0

  mine : HandFits key (m CODE) (m NEXT) w.uses w.stamps w.linked id 0 h
  mine = i.hands id v at 0 h (ap (λ (z : List Hand). get_elem? z 0) record_is.1)

  held : w.uses e ≡ in_hand id 0
  held = ap w.uses (sym record_is.2) ∙ mine.use_is

  room : e < key.entries
  room = subst (λ (z : ℕ). z < key.entries) record_is.2 mine.inside

  abbrev newid : ℕ
  newid = key.carried.base + length w.log

  abbrev uses' : ℕ → Use
  uses' = set_at w.uses e (holds newid)

  whole : w.log ≡ v.log
  whole = all key m w views id v i at knows one place old new p may empty

  held_was : (f x : ℕ) → uses' f ≡ holds x → (w.uses f ≡ holds x) ⊎ (x ≡ newid)
  held_was f x is = dite (ℕ_discrete f e)
      (λ same. inr (sym (holds_same newid x (sym (set_here w.uses e (holds newid)) ∙ (ap uses' (sym same) ∙ is)))))
      (λ apart. inl (sym (set_away w.uses e f (holds newid) apart) ∙ is))

  young : (k f : ℕ) → k ≤ length w.log → IsYoung key.carried.base k (w.uses f) → IsYoung key.carried.base k (uses' f)
  young k f low y = dite (ℕ_discrete f e)
      (λ same. inr (newid, ap uses' same ∙ set_here w.uses e (holds newid), omega arith))
      (λ apart. subst (IsYoung key.carried.base k) (sym (set_away w.uses e f (holds newid) apart)) y)

  others : (j : ℕ) (d : View) → j ≢ id → Fits key m w j d → (l : ℕ) (x : Hand) → At d.hands l x → uses' x.entry ≡ w.uses x.entry
  others j d ne f l x there = set_away w.uses e x.entry (holds newid) (λ same. ne (hand_seat j l id 0 (sym (f.hands l x there).use_is ∙ (ap w.uses same ∙ held))))

  none_left : (l : ℕ) (x : Hand) → At (drop 1 v.hands) l x → ⊥
  none_left l x there = some-ne-none x (sym (ap (λ (z : List Hand). get_elem? (drop 1 z) l) (sym record_is.1) ∙ there))

  -- another entry
  else_where : (f : ℕ) (x : Use) → uses' f ≡ x → (holds newid ≡ x → ⊥) → (f ≢ e) × (w.uses f ≡ x)
  else_where f x is not = let apart : f ≢ e = λ same. not (sym (set_here w.uses e (holds newid)) ∙ (ap uses' (sym same) ∙ is)) in (apart, sym (set_away w.uses e f (holds newid) apart) ∙ is)

  codes_part : CodesPart key (m CODE) (w.log ++ p ∷ []) uses'
  codes_part = record {
    bodies = λ x f un is dec. dite (ℕ_discrete f e)
        (λ same. let new_id : newid ≡ x = holds_same newid x (sym (set_here w.uses e (holds newid)) ∙ (ap uses' (sym same) ∙ is)) in ⊎_elim
        (λ was. let low = declared_below key.carried w.log x f un i.key_part.opening was in absurd (omega arith))
        (λ t. ap (m CODE) (same ∙ sym record_is.2) ∙ (mine.code unit.body record_is.4 ∙ ap body_of (ap (λ (q : Place). q.update) t.1)))
        (declares_one_more key.carried w.log p x f un dec))
        (λ apart. ⊎_elim
        (λ was. i.codes.bodies x f un (sym (set_away w.uses e f (holds newid) apart) ∙ is) was)
        (λ t. absurd (apart (sym (ap (λ (q : Place). q.entry) t.1))))
        (declares_one_more key.carried w.log p x f un dec));
  } where
    body_of : Update → ℕ
    body_of (Decl un) = un.body
    body_of (Wd x) = 0

  ring_part : RingPart key (m GIVE) uses' w.taken w.put w.ring
  ring_part = record {
    named = i.ring.named;
    rests = λ j a b. let r = i.ring.rests j a b in (r.0, set_away w.uses e (w.ring j) (holds newid) (λ same. hand_free id 0 j (sym held ∙ (ap w.uses (sym same) ∙ r.1))) ∙ r.1);
    none_else = λ f j low is. i.ring.none_else f j low (else_where f (free j) is (held_free newid j)).1;
  }

  links_part : LinksPart key (w.log ++ p ∷ []) w.begun uses' w.linked
  links_part = record {
    held = λ table x f low inside is kept. dite (ℕ_discrete f e)
        (λ same. ap (w.linked table) (same ∙ sym record_is.2) ∙ (mine.tables table low ∙ all_in h.linked table low record_is.5))
        (λ apart. i.links.held table x f low inside (sym (set_away w.uses e f (holds newid) apart) ∙ is) (λ d g wd. kept d g (at_longer w.log (p ∷ []) d _ wd)));
    ring = λ table f j low inside is. i.links.ring table f j low inside (else_where f (free j) is (held_free newid j)).1;
  }

  hands_part : InHands uses' (set views id (committed v p))
  hands_part f seat j is = let was = else_where f (in_hand seat j) is (held_hand newid seat j) in let o = i.in_hands f seat j was.1 in
      let other : seat ≢ id = (λ same. let here : o.0 ≡ v = some-injective o.0 v (sym o.2 ∙ (ap (λ z. get_elem? views z) same ∙ at)) in
      let own : h ≡ o.1 = is_first h o.1 j (subst (λ (l : List Hand). At l j o.1) record_is.1 (subst (λ (u : View). At u.hands j o.1) here o.3)) in
      was.0 (sym o.4 ∙ (ap (λ (x : Hand). x.entry) (sym own) ∙ record_is.2))) in
      (o.0, o.1, set_else views id seat (committed v p) other ∙ o.2, o.3, o.4)

  some_hand : 0 < total (λ u. length u.hands) views
  some_hand = let a = total_own (λ u. length u.hands) views id v at in let b : length v.hands ≡ 1 = ap length record_is.1 in omega arith

  low_returned : w.returned ≤ length w.log
  low_returned = let a = i.sweep.order in let b = i.sweep.seen in omega arith

  abbrev pub declared_world : World
  declared_world = record w { log = w.log ++ p ∷ []; uses = uses'; accounts = with_row w.accounts (head_number v.accounts) (row_placed v (Decl unit)) }

  pub declared_inv : Inv key (write m LOG place new) declared_world (set views id (committed v p))
  declared_inv = let ended = end key m w views id v i at knows one place old new p may empty in let same = base key m w views id v i at knows one place old new p may empty in let l = long key m w views id v i at knows one place old new p may empty in
      let finish = done key m w views id v i at knows one place old new p may empty in
      let reply : Replies key.sizes key.carried (updates w.log) (calls.Declare unit) (replies.Id (v.key.carried.base + length v.log)) = (
        (let a : length (updates w.log) ≡ length w.log = length-map w.log (λ (q : Place). q.update) in omega arith),
        few_live key (m TAKE) (m PUT) w.log w.returned w.taken w.put (total (λ u. length u.hands) views) i.key_part i.log.lawful i.counts some_hand,
      ) in
      subst (λ (z : ℕ). Inv key (write m LOG z new) declared_world (set views id (committed v p))) (sym ended)
      (commit_inv key m w views id v i at one p whole may.pinned may.unopened same new finish uses' held_was young others (λ l x there. absurd (none_left l x there)) (drop_less v.hands) (λ l x there. absurd (none_left l x there))
      (log_longer key m w views i p new (inside key m w views id v i at knows one place old new p may empty) (word key m w views id v i at knows one place old new p may empty) room
      (λ un is. subst (λ (z : Unit64). z.kind < 13) (unit_same unit un is) record_is.6) (λ x is. absurd (decl_wd unit x is)))
      (accounts_part key m w views id v i at knows one place old new p may empty refl refl refl refl reply)
      (uses_declared key w.log w.returned w.uses i.key_part.opening i.log.lawful i.uses unit e id 0 room held)
      (fits_declared key w.log w.returned w.uses w.stamps i.key_part.opening i.log.lawful i.stamps.fits (m NOTE) unit e (λ x f low is. (i.uses.holding x f low is).0) finish (ap w.stamps (sym record_is.2) ∙ mine.unborn record_is.3))
      codes_part (counts_declared key (m TAKE) (m PUT) w.log w.returned w.taken w.put views id v unit e h at record_is.1 low_returned i.counts) ring_part links_part hands_part refl) where
        drop_less : (l : List Hand) → length (drop 1 l) ≤ length l
        drop_less [] = omega arith
        drop_less (x ∷ l) = omega arith

        unit_same : (a b : Unit64) → Decl a ≡ Decl b → a ≡ b
        unit_same a b is = cc

        decl_wd : (a : Unit64) (x : ℕ) → Decl a ≡ Wd x → ⊥
        decl_wd a x is = cc

-- ---- a withdrawal

module _ (key : Key) (m : ℕ → ℕ → ℕ) (w : World) (views : List View) (id : ℕ) (v : View) (i : Inv key m w views) (at : get_elem? views id ≡ some v) (knows : v.key ≡ key) (one : 0 < length v.accounts)
    (place old new : ℕ) (x : ℕ) (e : ℕ) (may : MaySwapLog place old new (place_of (Wd x) e) v) (empty : m LOG place ≡ 0) where
  abbrev q : Place
  q = place_of (Wd x) e

  whole' : w.log ≡ v.log
  whole' = all key m w views id v i at knows one place old new q may empty

  live : (unit : Unit64) × IsLiveIn key.carried w.log x unit e
  live = let f = i.found id v at (record { id = x; entry = e; place = length v.log }) may.record_is in
      (f.1.0, subst (λ (l : List Place). IsLiveIn key.carried l x f.1.0 e) (take-length v.log ∙ sym whole') f.1.1)

  room' : e < key.entries
  room' = ⊎_elim (λ (c : At key.carried.list e (record { id = x; unit = live.0 })). let a = at_inside key.carried.list e _ c in let b = i.key_part.room in let d = i.key_part.entries in omega arith)
      (λ t. i.log.entries t.0 _ t.2) live.1.declares

  abbrev pub withdrawn_world : World
  withdrawn_world = record w { log = w.log ++ q ∷ []; accounts = with_row w.accounts (head_number v.accounts) (row_placed v (Wd x)) }

  low_returned' : w.returned ≤ length w.log
  low_returned' = let a = i.sweep.order in let b = i.sweep.seen in omega arith

  pub withdrawn_inv : Inv key (write m LOG place new) withdrawn_world (set views id (committed v q))
  withdrawn_inv = let ended = end key m w views id v i at knows one place old new q may empty in let same = base key m w views id v i at knows one place old new q may empty in
      let finish = done key m w views id v i at knows one place old new q may empty in
      let reply : Replies key.sizes key.carried (updates w.log) (calls.Withdraw x) (replies.Withdrawn x) = (refl, ap is_some (live_listed key.carried w.log x e live.0 i.key_part.opening live.1)) in
      let hands : length v.hands ≤ length v.hands = omega arith in
      subst (λ (z : ℕ). Inv key (write m LOG z new) withdrawn_world (set views id (committed v q))) (sym ended)
      (commit_inv key m w views id v i at one q whole' may.pinned may.unopened same new finish w.uses (λ f y is. inl is) (λ k f low y. y) (λ j d ne f l y there. refl) (λ l y there. refl) hands (i.hands id v at)
      (log_longer key m w views i q new (inside key m w views id v i at knows one place old new q may empty) (word key m w views id v i at knows one place old new q may empty) room'
      (λ un is. absurd (wd_decl x un is)) (λ y is. subst (λ (z : ℕ). (unit : Unit64) × IsLiveIn key.carried w.log z unit e) (id_same x y is) live))
      (accounts_part key m w views id v i at knows one place old new q may empty refl refl refl refl reply)
      (uses_withdrawn key w.log w.returned w.uses i.key_part.opening i.log.lawful i.uses x e low_returned')
      (fits_withdrawn key w.log w.returned w.uses w.stamps i.key_part.opening i.log.lawful i.stamps.fits (m NOTE) x e (λ y f low is. (i.uses.holding y f low is).0) finish)
      (record { bodies = λ y f un is dec. ⊎_elim (λ was. i.codes.bodies y f un is was) (λ t. absurd (wd_decl x un (ap (λ (z : Place). z.update) t.1))) (declares_one_more key.carried w.log q y f un dec) })
      (counts_withdrawn key (m TAKE) (m PUT) w.log w.returned w.taken w.put views id v x e at low_returned' i.counts) i.ring
      (record { held = λ table y f low inside is kept. i.links.held table y f low inside is (λ d g wd. kept d g (at_longer w.log (q ∷ []) d _ wd)); ring = i.links.ring })
      (set_in_hands w.uses views id v (committed v q) refl at i.in_hands) refl) where
        wd_decl : (y : ℕ) (a : Unit64) → Wd y ≡ Decl a → ⊥
        wd_decl y a is = cc

        id_same : (a b : ℕ) → Wd a ≡ Wd b → a ≡ b
        id_same a b is = cc

-- ---- the step

committed_inv : (key : Key) (m : ℕ → ℕ → ℕ) (w : World) (views : List View) (id : ℕ) (v : View) → Inv key m w views → get_elem? views id ≡ some v → v.key ≡ key → 0 < length v.accounts
    → (place old new : ℕ) (update : Update) (e : ℕ) → MaySwapLog place old new (place_of update e) v → m LOG place ≡ 0 → (w' : World) × Inv key (write m LOG place new) w' (set views id (committed v (place_of update e)))
committed_inv key m w views id v i at knows one place old new (Decl unit) e may empty = (declared_world key m w views id v i at knows one place old new unit e may empty, declared_inv key m w views id v i at knows one place old new unit e may empty)
committed_inv key m w views id v i at knows one place old new (Wd x) e may empty = (withdrawn_world key m w views id v i at knows one place old new x e may empty, withdrawn_inv key m w views id v i at knows one place old new x e may empty)

-- what a seat may take for granted of the places that it has seen
seen_after : (key : Key) (m : ℕ → ℕ → ℕ) (w : World) (views : List View) (id : ℕ) (v u : View) → Inv key m w (set views id u) → get_elem? views id ≡ some v → u.key ≡ key → SeenFits u.key u.log
seen_after key m w views id v u i at knows = subst (λ (k : Key). SeenFits k u.log) (sym knows) (seen_fits key (m LOG) w.log id u i.key_part i.log (i.saw id u (set_at_own views id v u at)))

left_won : (v : View) (update : Update) (e found : ℕ) → MayCommit v update e → found ≡ 0 → hand_of (committed v (place_of update e)) ≡ hand_left update found v
left_won v (Decl unit) e found may none_found = ap (λ (l : List Hand). first_entry (drop 1 l)) may.1 ∙ sym (ap (λ (b : Bool). cond b None (hand_of v)) (eq-eqb found 0 none_found))
left_won v (Wd x) e found may none_found = refl

left_lost : (v : View) (update : Update) (found : ℕ) → found ≢ 0 → hand_of v ≡ hand_left update found v
left_lost v (Decl unit) found some_found = sym (ap (λ (b : Bool). cond b None (hand_of v)) (ne_eqb found 0 some_found))
left_lost v (Wd x) found some_found = refl

won_rest : (v : View) (r : Place) (found : ℕ) → found ≡ 0 → remembered_of (committed v r) ≡ log_swapped r.update found (remembered_of v)
won_rest v r found none_found = grown_rest (passed v 2 r) (Some (row_placed v r.update)) ∙ (passed_rest v 2 r ∙ swapped_won r.update found (remembered_of v) none_found)

lost_rest : (v : View) (update : Update) (found place : ℕ) (q : Place) → found ≡ place_word v.key.carried.base place q → found ≢ 0 → remembered_of (passed v 2 q) ≡ log_swapped update found (remembered_of v)
lost_rest v update found place q word some_found =
    passed_rest v 2 q ∙ (ap (λ (b : Bool). counting b (remembered_of v)) (sym (tells_declaration v.key.carried.base place found q word)) ∙ swapped_lost update found (remembered_of v) some_found)

loses_log : (key : Key) (s : St) (k : Kept key s) (slots id : ℕ) (me : Sat) (place old new : ℕ) (update : Update) (e : ℕ) → MaySwapLog place old new (place_of update e) me.0 → me.0.live ≡ true → 0 < length me.0.accounts → get_elem? s.views id ≡ some me.0
    → mem (sizes key) s.words LOG place ≢ 0 → (more : List Place) → k.world.log ≡ me.0.log ++ more
    → Loses key s LOG place id me (seated_past update (LogSwapped place (place_of update e)) (step slots (start (sizes key) LOG + place) old new none) me)
loses_log key s k slots id me place old new update e may live one at some_found [] is =
    let v : View = me.0 in let long : length k.world.log ≡ length v.log = ap length (is ∙ append-nil v.log) in let next = may.next in absurd (some_found (k.inv.log.empty place (omega arith)))
loses_log key s k slots id me place old new update e may live one at some_found (q ∷ more) is =
    let v : View = me.0 in let m : ℕ → ℕ → ℕ = mem (sizes key) s.words in let i = k.inv in let w : World = k.world in let knows : v.key ≡ key = i.knows id v at live in
    let inv = passed_inv key m w s.views id v 2 q more one i at is in
    let word : m LOG place ≡ place_word v.key.carried.base place q = i.log.filled place q (subst (λ (z : List Place × ℕ). At z.0 z.1 q) (λ j. (sym is j, sym may.next j)) (at_place v.log more q)) ∙ ap (λ (z : Key). place_word z.carried.base place q) (sym knows) in (
      passed v 2 q,
      w,
      inv,
      (
        record { won = λ none_found. absurd (some_found none_found); lost = λ _. (q, word, refl); seen = seen_after key m w s.views id v (passed v 2 q) inv at knows; rows = rows_served key m w (set s.views id (passed v 2 q)) id (passed v 2 q) inv (set_at_own s.views id v (passed v 2 q) at) knows one },
        record { live = refl; key = refl; sessions = refl; seen = length_one_more v.log q; hand = left_lost v update (m LOG place) some_found; remembered = lost_rest v update (m LOG place) place q word some_found },
        refl,
      ),
    )

pub swaps_log : (key : Key) (slots id : ℕ) (me : Sat) (place old new : ℕ) (update : Update) (e : ℕ) → MaySwapLog place old new (place_of update e) me.0 → me.0.live ≡ true → 0 < length me.0.accounts
    → Allows (Kept key) slots id me (start (sizes key) LOG + place) (λ n. cond (n == old) new n) (seated_past update (LogSwapped place (place_of update e)) (step slots (start (sizes key) LOG + place) old new none) me)
swaps_log key slots id me place old new update e may live one s k wide at _ =
    let v : View = me.0 in let m : ℕ → ℕ → ℕ = mem (sizes key) s.words in let i = k.inv in let w : World = k.world in let knows : v.key ≡ key = i.knows id v at live in let r : Place = place_of update e in
    let room : place < key.sizes.log = subst (λ (z : Key). place < z.sizes.log) knows may.inside in
    swap_keeps key s k LOG place old new id me (seated_past update (LogSwapped place r) (step slots (start (sizes key) LOG + place) old new none) me) room
    (λ same. let none_found : m LOG place ≡ 0 = same ∙ may.empty in let inv = committed_inv key m w s.views id v i at knows one place old new update e may none_found in (
      committed v r,
      inv.0,
      inv.1,
      (
        record { won = λ _. refl; lost = λ some_found. absurd (some_found none_found); seen = seen_after key (write m LOG place new) inv.0 s.views id v (committed v r) inv.1 at knows; rows = rows_served key (write m LOG place new) inv.0 (set s.views id (committed v r)) id (committed v r) inv.1 (set_at_own s.views id v (committed v r) at) knows (let g = length_grown v.accounts (Some (row_placed v update)) in omega arith) },
        record { live = refl; key = refl; sessions = length_grown v.accounts (Some (row_placed v update)); seen = length_one_more v.log r; hand = left_won v update e (m LOG place) may.record_is none_found; remembered = won_rest v r (m LOG place) none_found },
        refl,
      ),
    ))
    (λ other. loses_log key s k slots id me place old new update e may live one at (λ z. other (z ∙ sym may.empty)) (i.saw id v at).0 (i.saw id v at).1)

-- the same at an address that the code has computed, of a record that a type tells
pub swaps_log_at : (key : Key) (slots id : ℕ) (me : Sat) (place old new a : ℕ) (r : Place) → a ≡ start (sizes key) LOG + place → MaySwapLog place old new r me.0 → me.0.live ≡ true → 0 < length me.0.accounts
    → Allows (Kept key) slots id me a (λ n. cond (n == old) new n) (seated_past r.update (LogSwapped place r) (step slots a old new none) me)
swaps_log_at key slots id me place old new a r is may live one = subst (λ (z : ℕ). Allows (Kept key) slots id me z (λ n. cond (n == old) new n) (seated_past r.update (LogSwapped place r) (step slots z old new none) me)) (sym is) (swaps_log key slots id me place old new r.update r.entry may live one)
