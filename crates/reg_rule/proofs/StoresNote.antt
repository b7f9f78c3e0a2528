-- Kind 4: a store of the note of a place. Whoever helps the place stores the same.
use Rattle.std.proofs.Common.{◌≡◌, ◌≢◌, ℕ, ◌+◌, ◌<◌, true, List, length, set, Option, Some, sym, ap, ◌∙◌, refl, subst, arith, eqb}
use mathlib.Core.Logic.{dite}
use native.Mathlib.Decide.{ℕ_discrete}
use mathlib.Core.Option.{none, some, some-injective}
use lib.ListN.{get_elem?}
use Rattle.atomic_table.specs.Table.{step, keeps, Allows}
use Rattle.atomic_table.proofs.Lists.{at_longer}
use Rattle.iscc_header.specs.declared.unit.Unit64.{Unit64}
use Rattle.reg_model.specs.declared.update.Update.TheVariants.{Decl}
use Rattle.reg_words.specs.Memory.{TAKE, PUT, NOTE, start, mem, set_at, write}
use Rattle.reg_words.proofs.Memory.{set_at-here, set_at-else}
use Rattle.reg_rule.specs.declared.view.Key.{Key}
use Rattle.reg_rule.specs.declared.view.Place.{Place}
use Rattle.reg_rule.specs.declared.view.View.{View}
use Rattle.reg_rule.specs.inner.World.{Use, World}
use Rattle.reg_words.specs.declared.word.StampWord.{StampWord}
use Rattle.reg_rule.specs.Log.{IsDecl}
use Rattle.reg_rule.specs.inner.Entries.{CountsPart}
use Rattle.reg_rule.specs.inner.HelpParts.{HelpsFit}
use Rattle.reg_rule.specs.inner.Rule.{Kept, sizes}
use Rattle.reg_rule.specs.Moves.{noted}
use Rattle.reg_rule.specs.Conditions.{MayStoreNote}
use Rattle.reg_rule.specs.Steps.{NoteStored}
use Rattle.reg_rule.specs.inner.Plays.{Sat, seated}
use Rattle.reg_rule.proofs.Views.{each_moves}
use Rattle.reg_rule.proofs.Counted.{total_set, set_is_seat, count_more, set_in_hands}
use Rattle.reg_rule.proofs.Shows.{at_inside}
use Rattle.reg_rule.proofs.Fits.{Shared, Fits, shared_of, fits_of, inv_of}
use Rattle.reg_rule.proofs.Doors.{write_keeps}

one_unit : (log : List Place) (n entry entry' : ℕ) (unit unit' : Unit64) → IsDecl log n unit entry → IsDecl log n unit' entry' → unit ≡ unit'
one_unit log n entry entry' unit unit' a b = let same : Decl unit ≡ Decl unit' = ap (λ (p : Place). p.update) (some-injective _ _ (sym a ∙ b)) in cc

-- the note of each declaration is its body still
still_noted : (log : List Place) (notes : ℕ → ℕ) (place new entry : ℕ) (unit : Unit64) → IsDecl log place unit entry → new ≡ unit.body → (n entry' : ℕ) (unit' : Unit64) → IsDecl log n unit' entry' → (n ≢ place → notes n ≡ unit'.body) → set_at notes place new n ≡ unit'.body
still_noted log notes place new entry unit decl is n entry' unit' decl' old = dite (ℕ_discrete n place)
    (λ same. ap (set_at notes place new) same ∙ (set_at-here notes place new ∙ (is ∙ ap (λ (u : Unit64). u.body) (one_unit log place entry entry' unit unit' decl (subst (λ (k : ℕ). IsDecl log k unit' entry') same decl')))))
    (λ apart. set_at-else notes place new n apart ∙ old apart)

helps_still : (base : ℕ) (notes : ℕ → ℕ) (log : List Place) (uses : ℕ → Use) (stamps : ℕ → StampWord) (seen : ℕ) (last_noted last_helped now : Option ℕ) (place new entry : ℕ) (unit : Unit64) → IsDecl log place unit entry → new ≡ unit.body
    → ((n : ℕ) → now ≡ Some n → n ≢ place → last_noted ≡ Some n) → ((n : ℕ) → now ≡ Some n → n < seen) → HelpsFit base notes log uses stamps seen last_noted last_helped → HelpsFit base (set_at notes place new) log uses stamps seen now last_helped
helps_still base notes log uses stamps seen last_noted last_helped now place new entry unit decl is keeps_it seen_is h = record {
  noted = λ n unit' entry' e decl'. still_noted log notes place new entry unit decl is n entry' unit' decl' (λ apart. h.noted n unit' entry' (keeps_it n e apart) decl');
  noted_seen = seen_is;
  helped = λ n e. let o = h.helped n e in (o.0, record { noted = λ unit' entry' decl'. still_noted log notes place new entry unit decl is n entry' unit' decl' (λ apart. o.1.noted unit' entry' decl'); born = o.1.born; dead = o.1.dead });
}

noted_fits : (key : Key) (m : ℕ → ℕ → ℕ) (w : World) (place new entry : ℕ) (unit : Unit64) → IsDecl w.log place unit entry → new ≡ unit.body → (id : ℕ) (v : View) → Fits key m w id v → Fits key (write m NOTE place new) w id v
noted_fits key m w place new entry unit decl is id v f = record {
  knows = f.knows;
  owns = f.owns;
  saw = f.saw;
  has_sessions = f.has_sessions;
  rows = f.rows;
  found = f.found;
  exchanges = f.exchanges;
  fits_pin = f.fits_pin;
  pinned = f.pinned;
  above_floor = f.above_floor;
  helps = helps_still key.carried.base (m NOTE) w.log w.uses w.stamps (length v.log) v.noted v.helped v.noted place new entry unit decl is (λ n e apart. e) f.helps.noted_seen f.helps;
  hands = f.hands;
  cursors = f.cursors;
  covers = f.covers;
  takes = f.takes;
  found_empty = f.found_empty;
  stopped = f.stopped;
  last_word = f.last_word;
  is_holder = f.is_holder;
  at_word = f.at_word;
  idles = f.idles;
  scans = f.scans;
  cuts = f.cuts;
  gives = f.gives;
  victims = f.victims;
  meets = f.meets;
  costs = f.costs;
}

own_fits : (key : Key) (m : ℕ → ℕ → ℕ) (w : World) (place new entry : ℕ) (unit : Unit64) → IsDecl w.log place unit entry → new ≡ unit.body → (id : ℕ) (v : View) → length v.log ≡ place + 1 → Fits key m w id v → Fits key (write m NOTE place new) w id (noted v place)
own_fits key m w place new entry unit decl is id v last f = record {
  knows = f.knows;
  owns = f.owns;
  saw = f.saw;
  has_sessions = f.has_sessions;
  rows = f.rows;
  found = f.found;
  exchanges = let c = count_more (λ k. eqb k 2) v.made 4 refl in let e = f.exchanges in omega arith;
  fits_pin = f.fits_pin;
  pinned = f.pinned;
  above_floor = f.above_floor;
  helps = helps_still key.carried.base (m NOTE) w.log w.uses w.stamps (length v.log) v.noted v.helped (Some place) place new entry unit decl is (λ n e apart. let same : place ≡ n = cc in absurd (apart (sym same))) (λ n e. let same : place ≡ n = cc in omega arith) f.helps;
  hands = f.hands;
  cursors = f.cursors;
  covers = f.covers;
  takes = f.takes;
  found_empty = f.found_empty;
  stopped = f.stopped;
  last_word = f.last_word;
  is_holder = f.is_holder;
  at_word = f.at_word;
  idles = f.idles;
  scans = f.scans;
  cuts = f.cuts;
  gives = f.gives;
  victims = f.victims;
  meets = f.meets;
  costs = f.costs;
}

noted_shared : (key : Key) (m : ℕ → ℕ → ℕ) (w : World) (views : List View) (id : ℕ) (v : View) (place new entry : ℕ) (unit : Unit64) → IsDecl w.log place unit entry → new ≡ unit.body → get_elem? views id ≡ some v → Shared key m w views → Shared key (write m NOTE place new) w (set views id (noted v place))
noted_shared key m w views id v place new entry unit decl is at s = let u : View = noted v place in record {
  key_part = s.key_part;
  log = s.log;
  notes = record { noted = λ n unit' entry' low decl'. still_noted w.log (m NOTE) place new entry unit decl is n entry' unit' decl' (λ apart. s.notes.noted n unit' entry' low decl') };
  accounts = s.accounts;
  uses = s.uses;
  stamps = s.stamps;
  codes = s.codes;
  counts = subst (CountsPart key (m TAKE) (m PUT) w.log w.returned w.taken w.put) (sym (total_set (λ x. length x.hands) views id v u at refl)) s.counts;
  ring = s.ring;
  chains = s.chains;
  links = s.links;
  sweep = s.sweep;
  reclaimed = s.reclaimed;
  floors = s.floors;
  sessions = total_set (λ x. length x.accounts) views id v u at refl ∙ s.sessions;
  in_hands = set_in_hands w.uses views id v u refl at s.in_hands;
  sweeper = set_is_seat w.holder views id v u at s.sweeper;
}

pub stores_note : (key : Key) (slots id : ℕ) (me : Sat) (place new : ℕ) → MayStoreNote place new me.0 → me.0.live ≡ true → Allows (Kept key) slots id me (start (sizes key) NOTE + place) (λ _. new) (λ _. seated (λ v r w. NoteStored place v w) (step slots (start (sizes key) NOTE + place) new 0 none) me new)
stores_note key slots id me place new may live s k wide at small =
    let v : View = me.0 in let i = k.inv in let w : World = k.world in let m : ℕ → ℕ → ℕ = mem (sizes key) s.words in let saw = i.saw id v at in let b = may.body in
    let decl : IsDecl w.log place b.0 b.1 = subst (λ (l : List Place). IsDecl l place b.0 b.1) (sym saw.1) (at_longer v.log saw.0 place _ b.2) in
    let low = at_inside w.log place _ decl in let short = i.log.short in let inside : place < key.sizes.log = omega arith in
    let u : View = noted v place in
    let inv = inv_of key (write m NOTE place new) w (set s.views id u) (noted_shared key m w s.views id v place new b.1 b.0 decl b.3 at (shared_of key m w s.views i))
    (each_moves (Fits key m w) (Fits key (write m NOTE place new) w) s.views id u (fits_of key m w s.views i) (λ j d ne f. noted_fits key m w place new b.1 b.0 decl b.3 j d f) (own_fits key m w place new b.1 b.0 decl b.3 id v may.helps.0 (fits_of key m w s.views i id v at))) in
    (u, keeps, tt, write_keeps key s k NOTE place new id me u w inside inv, (refl, record { live = refl; key = refl; sessions = refl; hand = refl; seen = omega arith; remembered = refl }, refl))

pub stores_note_at : (key : Key) (slots id : ℕ) (me : Sat) (place new a : ℕ) → a ≡ start (sizes key) NOTE + place → MayStoreNote place new me.0 → me.0.live ≡ true → Allows (Kept key) slots id me a (λ _. new) (λ _. seated (λ v r w. NoteStored place v w) (step slots a new 0 none) me new)
stores_note_at key slots id me place new a is may live = subst (λ (z : ℕ). Allows (Kept key) slots id me z (λ _. new) (λ _. seated (λ v r w. NoteStored place v w) (step slots z new 0 none) me new)) (sym is) (stores_note key slots id me place new may live)
