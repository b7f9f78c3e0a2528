-- Entries in hands.
use Rattle.std.specs.Prelude.{◌≡◌, ℕ, ◌<◌, Bool, true, false, Some, IsSome}
use Rattle.reg_words.specs.declared.word.StampWord.{StampWord}
use Rattle.reg_words.specs.declared.word.StampWord.TheVariants.{Unborn}
use Rattle.reg_rule.specs.declared.view.Key.{Key}
use Rattle.reg_rule.specs.declared.view.Link.{Link}
use Rattle.reg_rule.specs.declared.view.Hand.{Hand}
use Rattle.reg_rule.specs.declared.view.View.{View}
use Rattle.reg_rule.specs.Log.{At}
use Rattle.reg_rule.specs.inner.World.{Use, in_hand}
use Rattle.reg_rule.specs.inner.ChainParts.{next_in}
use Rattle.reg_rule.specs.Tables.{is_in}

pub record HandFits (key : Key) (codes nexts : ℕ → ℕ) (uses : ℕ → Use) (stamps : ℕ → StampWord) (linked : ℕ → ℕ → Bool) (id i : ℕ) (h : Hand) : Type 0 where
  pub inside : h.entry < key.entries
  -- it is in this hand and nowhere else
  pub use_is : uses h.entry ≡ in_hand id i
  -- its stamp and its code are those that were stored
  pub unborn : h.unborn ≡ true → stamps h.entry ≡ Unborn
  pub code : (x : ℕ) → h.code ≡ Some x → codes h.entry ≡ x
  -- it is linked in just the tables that the hand says
  pub tables : (table : ℕ) → table < 4 → linked table h.entry ≡ is_in table h.linked
  -- it was written before it was linked
  pub written : (table : ℕ) → is_in table h.linked ≡ true → (h.unborn ≡ true) × IsSome h.code
  -- its next word is the one that was stored for the push to come
  pub ready : (l : Link) → h.ready ≡ Some l → (is_in l.table h.linked ≡ false) × (next_in key.entries nexts l.table h.entry ≡ l.word)

-- What a seat says of the entries in its hand.
abbrev pub Holds : Key → (ℕ → ℕ) → (ℕ → ℕ) → (ℕ → Use) → (ℕ → StampWord) → (ℕ → ℕ → Bool) → ℕ → View → Type 0
Holds key codes nexts uses stamps linked id v = (i : ℕ) (h : Hand) → At v.hands i h → HandFits key codes nexts uses stamps linked id i h
