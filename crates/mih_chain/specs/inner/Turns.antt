-- One turn of a push, and the turns so far.
use Rattle.std.specs.Prelude.{◌≡◌, ℕ, List, [], ◌∷◌, ◌++◌, All, Option}
use Rattle.reg_rule.specs.declared.view.Hand.{Hand}
use Rattle.reg_rule.specs.declared.view.Link.{Link}
use Rattle.reg_rule.specs.declared.view.View.{View}
use Rattle.reg_rule.specs.Moves.{on_hand}
use Rattle.mih_chain.specs.Linking.{linked_in, IsPushing}

-- a load of the head, a store of the next word, an exchange of the head
abbrev pub push_steps : List ℕ
push_steps = 13 ∷ 14 ∷ 15 ∷ []

abbrev pub readied : Option Link → Hand → Hand
readied ready h = record h { ready = ready }

-- the entry in hand was linked by this turn
abbrev pub linked_once : View → ℕ → View
linked_once v table = record v { hands = on_hand (linked_in table) v.hands; made = v.made ++ push_steps }

-- another push came between
abbrev pub tried_once : View → Option Link → View
tried_once v ready = record v { hands = on_hand (readied ready) v.hands; made = v.made ++ push_steps }

-- All turns so far were lost.
pub record IsLinking (v w : View) : Type 0 where
  pub steps : List ℕ
  pub kinds : All IsPushing steps
  pub ready : Option Link
  pub view : w ≡ record v { hands = on_hand (readied ready) v.hands; made = v.made ++ steps }
