-- The entry in hand is written, and linked in each table.
use Rattle.std.proofs.Common.{◌≡◌, ℕ, ◌+◌, ◌<◌, true, false, List, [], ◌∷◌, ◌++◌, length, Option, None, Some, refl, sym, ap, ◌∙◌, subst, arith}
use Rattle.atomic_table.specs.Seated.{TableId}
use Rattle.iscc_header.specs.declared.unit.Unit64.{Unit64}
use Rattle.reg_rule.specs.declared.view.Hand.{Hand}
use Rattle.reg_rule.specs.declared.view.Key.{Key}
use Rattle.reg_rule.specs.declared.view.View.{View}
use Rattle.reg_rule.specs.Conditions.{MayStoreHeld}
use Rattle.reg_rule.specs.Moves.{new_hand, written, on_hand, pinned, stored_held, did}
use Rattle.reg_rule.specs.Rounds.{IsWordsPass}
use Rattle.reg_rule.specs.Tables.{is_in}
use Rattle.mih_chain.specs.Linking.{IsUnlinkedHand, Linked, linked_in}
use Rattle.reg_free.specs.inner.Between.{Rests, IsLinked}

-- these steps have pinned the pass, and left this hand
pub record IsEntering (v : View) (hand : Hand) (w : View) : Type 0 where
  pub made : List ℕ
  pub view : w ≡ record v { pin = length v.log + 1; front = None; cursor = None; hands = hand ∷ []; made = made }

pub pins : (v : View) (hand : Hand) (words : TableId) (pass : TableId × View) → v.hands ≡ hand ∷ [] → pass ≡ (words, pinned v) → IsEntering v hand pass.1
pins v hand words pass has told = record { made = did v 17; view = ap (λ (p : TableId × View). p.1) told ∙ (λ j. record v { pin = length v.log + 1; front = None; cursor = None; hands = has j; made = did v 17 }) }

pub writes : (v w x : View) (hand : Hand) (new : Option ℕ) → IsEntering v hand w → x ≡ stored_held w new → IsEntering v (written new hand) x
writes v w x hand new e told = record { made = e.made ++ 8 ∷ []; view = told ∙ ap (λ (z : View). stored_held z new) e.view }

pub links : (v w x : View) (hand : Hand) (table : ℕ) → IsEntering v hand w → Linked w table x → IsEntering v (linked_in table hand) x
links v w x hand table e l = record { made = e.made ++ l.steps; view = l.view ∙ ap (λ (z : View). record z { hands = on_hand (linked_in table) z.hands; made = z.made ++ l.steps }) e.view }

pub may_write : (v w : View) (hand : Hand) → IsEntering v hand w → hand.entry < v.key.entries → hand.linked ≡ [] → MayStoreHeld w
may_write v w hand e inside unlinked = (hand, ap (λ (z : View). z.hands) e.view, subst (λ (z : View). hand.entry < z.key.entries) (sym e.view) inside, unlinked)

pub may_link : (v w : View) (hand : Hand) (entry code table : ℕ) → IsEntering v hand w → entry < v.key.entries → hand.entry ≡ entry → hand.unborn ≡ true → hand.code ≡ Some code → is_in table hand.linked ≡ false → IsUnlinkedHand w entry code table
may_link v w hand entry code table e inside same unborn written_so unlinked = (hand, ap (λ (z : View). z.hands) e.view, same, subst (λ (z : View). entry < z.key.entries) (sym e.view) inside, unborn, written_so, unlinked)

-- the hand that is written
abbrev pub written_hand : ℕ → ℕ → Hand
written_hand entry code = written (Some code) (written None (new_hand entry))

pub is_linked : (words : TableId × Key) (unit : Unit64) (entry : ℕ) (old new : TableId × View) → Rests words old → entry < old.1.key.entries → IsWordsPass words new
    → IsEntering old.1 (linked_in 3 (linked_in 2 (linked_in 1 (linked_in 0 (written_hand entry unit.body))))) new.1 → IsLinked words unit entry new
is_linked words unit entry old new r inside own e = subst Whole (sym e.view) (λ mine. record {
  own = mine;
  one = r.one;
  unheld = r.unheld;
  unopened = r.unopened;
  pinned = omega arith;
  helped = r.helped;
  inside = inside;
  hand = (linked_in 3 (linked_in 2 (linked_in 1 (linked_in 0 (written_hand entry unit.body)))), refl, refl, refl, refl, refl);
  seen = r.seen;
}) own where
  Whole : View → Type 0
  Whole w = IsWordsPass words (new.0, w) → IsLinked words unit entry (new.0, w)

-- what each step of the call asks
module _ (v : View) (entry code : ℕ) (words : TableId) (inside : entry < v.key.entries) (has : v.hands ≡ new_hand entry ∷ []) (p : TableId × View) (pinned_is : p ≡ (words, pinned v)) where
  pub may_first : MayStoreHeld p.1
  may_first = may_write v p.1 (new_hand entry) (pins v (new_hand entry) words p has pinned_is) inside refl

  module _ (a : View) (first : a ≡ stored_held p.1 None) where
    pub may_second : MayStoreHeld a
    may_second = may_write v a (written None (new_hand entry)) (writes v p.1 a (new_hand entry) None (pins v (new_hand entry) words p has pinned_is) first) inside refl

    module _ (b : View) (second : b ≡ stored_held a (Some code)) where
      pub written_there : IsEntering v (written_hand entry code) b
      written_there = writes v a b (written None (new_hand entry)) (Some code) (writes v p.1 a (new_hand entry) None (pins v (new_hand entry) words p has pinned_is) first) second

      pub may_link_0 : IsUnlinkedHand b entry code 0
      may_link_0 = may_link v b (written_hand entry code) entry code 0 written_there inside refl refl refl refl

      module _ (l : View) (in_0 : Linked b 0 l) where
        pub linked_0 : IsEntering v (linked_in 0 (written_hand entry code)) l
        linked_0 = links v b l (written_hand entry code) 0 written_there in_0

        pub may_link_1 : IsUnlinkedHand l entry code 1
        may_link_1 = may_link v l (linked_in 0 (written_hand entry code)) entry code 1 linked_0 inside refl refl refl refl

        module _ (m : View) (in_1 : Linked l 1 m) where
          pub linked_1 : IsEntering v (linked_in 1 (linked_in 0 (written_hand entry code))) m
          linked_1 = links v l m (linked_in 0 (written_hand entry code)) 1 linked_0 in_1

          pub may_link_2 : IsUnlinkedHand m entry code 2
          may_link_2 = may_link v m (linked_in 1 (linked_in 0 (written_hand entry code))) entry code 2 linked_1 inside refl refl refl refl

          module _ (n : View) (in_2 : Linked m 2 n) where
            pub linked_2 : IsEntering v (linked_in 2 (linked_in 1 (linked_in 0 (written_hand entry code)))) n
            linked_2 = links v m n (linked_in 1 (linked_in 0 (written_hand entry code))) 2 linked_1 in_2

            pub may_link_3 : IsUnlinkedHand n entry code 3
            may_link_3 = may_link v n (linked_in 2 (linked_in 1 (linked_in 0 (written_hand entry code)))) entry code 3 linked_2 inside refl refl refl refl

            pub linked_3 : (o : View) → Linked n 3 o → IsEntering v (linked_in 3 (linked_in 2 (linked_in 1 (linked_in 0 (written_hand entry code))))) o
            linked_3 o in_3 = links v n o (linked_in 2 (linked_in 1 (linked_in 0 (written_hand entry code)))) 3 linked_2 in_3
