-- What the tests know of the rounds that they play: their keys, and what a seat knows after a few steps.
use Rattle.std.specs.Prelude.{ℕ, zero, suc, true, false, List, [], ◌∷◌, ◌++◌, None, Some}
use Rattle.reg_model.specs.declared.update.Update.TheVariants.{Decl, Wd}
use Rattle.reg_words.specs.declared.word.SweepWord.{SweepWord}
use Rattle.reg_words.specs.declared.word.StampWord.TheVariants.{Live, Dead}
use Rattle.reg_rule.specs.declared.told.Told.{Told}
use Rattle.reg_rule.specs.declared.told.Told.TheVariants.{Nothing, Opens, Examines}
use Rattle.reg_rule.specs.declared.view.Key.{Key}
use Rattle.reg_rule.specs.declared.view.Place.{Place}
use Rattle.reg_rule.specs.declared.view.Hand.{Hand}
use Rattle.reg_rule.specs.declared.view.Holding.{Holding}
use Rattle.reg_rule.specs.declared.view.Taking.TheVariants.{Idle}
use Rattle.reg_rule.specs.declared.view.View.{View}
use Rattle.reg_rule.specs.Log.{place_of}
use Rattle.reg_rule.specs.Fresh.{fresh, unswept}
use Rattle.reg_rule.specs.Moves.{with_step, fronted, at_front, filled, again, passed, committed, noted, helped, looked, pinned, unpinned, holding_of, seized, swept_to, put_stored}

-- two callers, with nothing carried
abbrev pub two_callers : ℕ → ℕ → Key
two_callers entries log = record {
  sizes = record { entries = entries; log = log; bits = 4; callers = 2 };
  carried = record { base = 0; list = [] };
  entries = entries;
}

-- a declaration of the kind META
abbrev pub meta_place : ℕ → ℕ → Place
meta_place body entry = place_of (Decl (record { kind = 0; body = body })) entry

-- steps of these kinds, one after another
abbrev pub all_counted : View → List ℕ → View
all_counted v [] = v
all_counted v (kind ∷ kinds) = all_counted (with_step v kind) kinds

abbrev pub tables_below : ℕ → List ℕ
tables_below zero = []
tables_below (suc n) = tables_below n ++ n ∷ []

-- an entry in hand that was written, and linked in the first tables
abbrev pub written_hand : ℕ → ℕ → ℕ → Hand
written_hand entry code tables = record { entry = entry; unborn = true; code = Some code; linked = tables_below tables; ready = None }

-- an entry was written
abbrev pub wrote : View → ℕ → ℕ → View
wrote v entry code = record (all_counted v (8 ∷ 8 ∷ [])) { hands = written_hand entry code 0 ∷ [] }

-- it was linked in one table more
abbrev pub linked_once : View → ℕ → ℕ → ℕ → View
linked_once v entry code table = record (all_counted v (13 ∷ 14 ∷ 15 ∷ [])) { hands = written_hand entry code (suc table) ∷ [] }

-- an entry was taken, written and linked in all four tables
abbrev pub entered : View → ℕ → ℕ → View
entered v entry code = record (all_counted v (9 ∷ 10 ∷ 11 ∷ 12 ∷ 8 ∷ 8 ∷ 13 ∷ 14 ∷ 15 ∷ 13 ∷ 14 ∷ 15 ∷ 13 ∷ 14 ∷ 15 ∷ 13 ∷ 14 ∷ 15 ∷ [])) { taking = Idle; hands = written_hand entry code 4 ∷ [] }

-- ---- a round in which two seats declare

abbrev pub declaring : Key
declaring = two_callers 4 2

-- a seat has found the front 0, has an entry in hand that is linked in all tables, and is pinned
abbrev pub ready : ℕ → ℕ → View
ready log seat = record (fresh (two_callers 4 log) seat 1) {
  pin = 1;
  hands = written_hand seat 0 4 ∷ [];
  made = 1 ∷ 9 ∷ 10 ∷ 11 ∷ 12 ∷ 8 ∷ 8 ∷ 13 ∷ 14 ∷ 15 ∷ 13 ∷ 14 ∷ 15 ∷ 13 ∷ 14 ∷ 15 ∷ 13 ∷ 14 ∷ 15 ∷ 17 ∷ [];
}

-- the second one was too late for the first place, and knows the kind and the entry that are declared there
abbrev pub late : ℕ → View
late body = passed (ready 2 1) 2 (meta_place body 0)

-- it has found the front behind that place, and the body 0
abbrev pub met : View
met = with_step (fronted (with_step (late 0) 1) 1) 3

-- the first one has declared, and has completed its place
abbrev pub first_ends : View
first_ends = unpinned Nothing (looked Nothing 0 (Live 0 0) (helped (noted (committed (ready 2 0) (meta_place 0 0)) 0) 5))

-- the second one has completed the first place, and has declared at the other
abbrev pub second_ends : View
second_ends = unpinned Nothing (again Nothing (helped (noted (committed (helped (noted met 0) 5) (meta_place 0 1)) 1) 5))

-- ---- a round in which a declaration is withdrawn and given back

abbrev pub sweeping : Key
sweeping = two_callers 4 16

-- the first place declares the body 0 in entry 0, and the second withdraws it
abbrev pub swept_log : List Place
swept_log = meta_place 0 0 ∷ place_of (Wd 0) 0 ∷ []

-- the holder has made a step, and knows this after it
abbrev pub holds : View → Holding → ℕ → View
holds v h kind = record (with_step v kind) { holding = Some h }

-- it has found the withdrawal stamped, the first sessions free of its place, and has unlinked the entry from the first tables
abbrev pub seeking : ℕ → ℕ → Holding
seeking clear tables = record (holding_of unswept) { place = 1; stamped = true; clear = clear; cut = tables_below tables }

-- the entry is in limbo, and the mark is 2
abbrev pub limbo_word : SweepWord
limbo_word = record { held = false; limbo = true; place = 1; mark = 2 }

-- the first sessions were found free of it
abbrev pub in_limbo : ℕ → Holding
in_limbo freed = record (holding_of limbo_word) { freed = freed }

-- the sweep goes on to the next place
abbrev pub next_word : SweepWord
next_word = record { held = false; limbo = false; place = 2; mark = 0 }

-- the first seat has declared, and has found its declaration live
abbrev pub seen_live : View
seen_live = looked Nothing 0 (Live 0 0) (at_front Nothing (with_step (helped (noted (committed (ready 16 0) (meta_place 0 0)) 0) 5) 1) 1)

-- it has withdrawn it
abbrev pub withdrawn : View
withdrawn = committed seen_live (place_of (Wd 0) 0)

-- it has completed the withdrawal, and is unpinned
abbrev pub buried : View
buried = unpinned Nothing (helped withdrawn 6)

-- the second seat has seen both places, and has opened a snapshot behind them
abbrev pub opened_at : Place → Place → View
opened_at p q = at_front Opens (with_step (filled Nothing (filled Nothing (pinned (fresh sweeping 1 1)) p) q) 1) 2

-- it unlinked the entry in all tables
abbrev pub unlinked : View → View
unlinked v = record (all_counted v (13 ∷ 16 ∷ 20 ∷ 13 ∷ 16 ∷ 20 ∷ 13 ∷ 16 ∷ 20 ∷ 13 ∷ 16 ∷ 20 ∷ [])) { holding = Some (seeking 2 4) }

-- it took the sweep, unlinked the entry, and found the mark
abbrev pub marked_out : View → View
marked_out v = at_front Nothing (with_step (unlinked (holds (holds (looked (Examines 1) 0 (Dead 0 0 1) (seized v)) (seeking 1 0) 18) (seeking 2 0) 18)) 1) 2

-- it took the sweep, found the second session pinned, and gave the sweep back
abbrev pub waited : Told → View → View
waited told v = swept_to told (holds (holds (seized v) (in_limbo 1) 18) (in_limbo 1) 18) limbo_word

-- it took the sweep, found all sessions free, and gave the entry back
abbrev pub gave_back : Told → View → View
gave_back told v = swept_to told (holds (record (all_counted (seized v) (18 ∷ 18 ∷ 10 ∷ 22 ∷ [])) { holding = Some (in_limbo 2) }) (put_stored (in_limbo 2)) 22) next_word
