-- A push, turn by turn.
use Rattle.std.proofs.Common.{◌≡◌, ℕ, ◌+◌, ◌<◌, inl, inr, List, [], ◌∷◌, ◌++◌, append_assoc, append-nil, All, IsSome, Option, None, Some, sym, refl, ap, ◌∙◌, subst}
use Rattle.std.proofs.lemmas.List.Elements.{All-append, All-cons, All-nil}
use Rattle.mih_plan.specs.Buckets.{bucket_of}
use Rattle.reg_rule.specs.declared.view.Hand.{Hand}
use Rattle.reg_rule.specs.declared.view.Link.{Link}
use Rattle.reg_rule.specs.declared.view.View.{View}
use Rattle.reg_rule.specs.Conditions.{MayStoreNext, MaySwapHead}
use Rattle.reg_rule.specs.Moves.{with_step, made_ready, pushed, on_hand}
use Rattle.mih_chain.specs.Linking.{IsUnlinkedHand, IsPushing, Linked, linked_in}
use Rattle.mih_chain.specs.inner.Turns.{push_steps, readied, linked_once, tried_once, IsLinking}

module _ (v : View) (entry code table : ℕ) (low : table < 4) (is : IsUnlinkedHand v entry code table) where
  abbrev hand : Hand
  hand = is.0

  inside : hand.entry < v.key.entries
  inside = subst (λ (e : ℕ). e < v.key.entries) (sym is.2) is.3

  pub may_store : (u : View) → u ≡ with_step v 13 → MayStoreNext table u
  may_store u loaded = record {
    table_is = low;
    hand = (hand, ap (λ (z : View). z.hands) loaded ∙ is.1, subst (λ (z : View). hand.entry < z.key.entries) (sym loaded) inside, is.4, subst (λ (c : Option ℕ). IsSome c) (sym is.5) refl, is.6);
  }

  -- the view after the load and the store
  stored : (u x : View) (word : ℕ) → u ≡ with_step v 13 → x ≡ made_ready u table word → x ≡ made_ready (with_step v 13) table word
  stored u x word loaded told = told ∙ ap (λ (z : View). made_ready z table word) loaded

  pub may_swap : (u x : View) (word bucket old new : ℕ) → u ≡ with_step v 13 → x ≡ made_ready u table word → bucket ≡ bucket_of code table v.key.sizes.bits → old ≡ word → new ≡ entry + 1 → MaySwapHead table bucket old new x
  may_swap u x word bucket old new loaded told bucket_is old_is new_is =
      let here = stored u x word loaded told in
      record {
        table_is = low;
        hand = (
          readied (Some (record { table = table; word = word })) hand,
          code,
          ap (λ (z : View). z.hands) here ∙ ap (on_hand (readied (Some (record { table = table; word = word })))) is.1,
          is.4,
          is.5,
          is.6,
          (λ j. Some (record { table = table; word = sym old_is j })),
          bucket_is ∙ ap (λ (z : View). bucket_of code table z.key.sizes.bits) (sym here),
          new_is ∙ ap (λ (n : ℕ). n + 1) (sym is.2),
        );
      }

  steps_are : ((v.made ++ 13 ∷ []) ++ 14 ∷ []) ++ 15 ∷ [] ≡ v.made ++ push_steps
  steps_are = simp append_assoc

  pub turn_won : (u x w : View) (word : ℕ) → u ≡ with_step v 13 → x ≡ made_ready u table word → w ≡ pushed x table → w ≡ linked_once v table
  turn_won u x w word loaded told won =
      let here = stored u x word loaded told in
      won ∙ (ap (λ (z : View). pushed z table) here ∙ (λ j. record v { hands = one_hand v.hands word j; made = steps_are j })) where
        one_hand : (hands : List Hand) (word : ℕ) → on_hand (λ h. record h { linked = h.linked ++ table ∷ []; ready = None }) (on_hand (readied (Some (record { table = table; word = word }))) hands) ≡ on_hand (linked_in table) hands
        one_hand [] word = refl
        one_hand (h ∷ hands) word = refl

  pub turn_lost : (u x w : View) (word : ℕ) → u ≡ with_step v 13 → x ≡ made_ready u table word → w ≡ with_step x 15 → w ≡ tried_once v (Some (record { table = table; word = word }))
  turn_lost u x w word loaded told lost =
      let here = stored u x word loaded told in
      lost ∙ (ap (λ (z : View). with_step z 15) here ∙ (λ j. record v { hands = on_hand (readied (Some (record { table = table; word = word }))) v.hands; made = steps_are j }))

pushing : All IsPushing push_steps
pushing = All-cons IsPushing 13 (14 ∷ 15 ∷ []) (inl refl) (All-cons IsPushing 14 (15 ∷ []) (inr (inl refl)) (All-cons IsPushing 15 [] (inr (inr refl)) (All-nil IsPushing)))

more_steps : (made steps : List ℕ) → (made ++ steps) ++ push_steps ≡ made ++ (steps ++ push_steps)
more_steps made steps = append_assoc made steps push_steps

-- no turn yet
pub none_tried : (v : View) (entry code table : ℕ) → IsUnlinkedHand v entry code table → IsLinking v v
none_tried v entry code table is = record { steps = []; kinds = All-nil IsPushing; ready = is.0.ready; view = λ j. record v { hands = same j; made = sym (append-nil v.made) j } } where
  same : v.hands ≡ on_hand (readied is.0.ready) v.hands
  same = is.1 ∙ ap (on_hand (readied is.0.ready)) (sym is.1)

-- the hand is as at first, but for the next word
pub still_unlinked : (v w : View) (entry code table : ℕ) → IsUnlinkedHand v entry code table → IsLinking v w → IsUnlinkedHand w entry code table
still_unlinked v w entry code table is l =
    (readied l.ready is.0, ap (λ (z : View). z.hands) l.view ∙ ap (on_hand (readied l.ready)) is.1, is.2, subst (λ (z : View). entry < z.key.entries) (sym l.view) is.3, is.4, is.5, is.6)

pub lost_more : (v w x : View) (ready : Option Link) → IsLinking v w → x ≡ tried_once w ready → IsLinking v x
lost_more v w x ready l told = record {
  steps = l.steps ++ push_steps;
  kinds = All-append IsPushing l.steps push_steps l.kinds pushing;
  ready = ready;
  view = told ∙ (ap (λ (z : View). tried_once z ready) l.view ∙ (λ j. record v { hands = last v.hands l.ready j; made = more_steps v.made l.steps j }));
} where
  last : (hands : List Hand) (before : Option Link) → on_hand (readied ready) (on_hand (readied before) hands) ≡ on_hand (readied ready) hands
  last [] before = refl
  last (h ∷ hands) before = refl

pub won_at_last : (v w x : View) (table : ℕ) → IsLinking v w → x ≡ linked_once w table → Linked v table x
won_at_last v w x table l told = record {
  steps = l.steps ++ push_steps;
  kinds = All-append IsPushing l.steps push_steps l.kinds pushing;
  view = told ∙ (ap (λ (z : View). linked_once z table) l.view ∙ (λ j. record v { hands = last v.hands l.ready j; made = more_steps v.made l.steps j }));
} where
  last : (hands : List Hand) (before : Option Link) → on_hand (linked_in table) (on_hand (readied before) hands) ≡ on_hand (linked_in table) hands
  last [] before = refl
  last (h ∷ hands) before = refl
