-- Where entries are is another, but for those that hold something or are in a hand: what the seats say of them is so still.
use Rattle.std.proofs.Common.{◌≡◌, ℕ}
use Rattle.reg_words.specs.declared.word.StampWord.{StampWord}
use Rattle.reg_rule.specs.declared.view.Key.{Key}
use Rattle.reg_rule.specs.declared.view.Place.{Place}
use Rattle.reg_rule.specs.declared.view.View.{View}
use Rattle.reg_rule.specs.inner.World.{Use, in_hand, holds}
use Rattle.reg_rule.specs.inner.HelpParts.{IsComplete, Helps}
use Rattle.reg_rule.specs.inner.HandParts.{Holds}
use Rattle.std.specs.Prelude.{List, Bool}

module _ (key : Key) (uses moved : ℕ → Use) (stamps : ℕ → StampWord) where
  -- no entry holds an id that it did not hold before
  pub complete_moved : (notes : ℕ → ℕ) (log : List Place) (n : ℕ) → ((x y : ℕ) → moved x ≡ holds y → uses x ≡ holds y) → IsComplete key.carried.base notes uses stamps log n → IsComplete key.carried.base notes moved stamps log n
  complete_moved notes log n before c = record {
    noted = c.noted;
    born = λ unit e d is. c.born unit e d (before e _ is);
    dead = λ id e kind d is. c.dead id e kind d (before e id is);
  }

  pub helps_moved : (notes : ℕ → ℕ) (log : List Place) (id : ℕ) (v : View) → ((x y : ℕ) → moved x ≡ holds y → uses x ≡ holds y) → Helps key notes log uses stamps id v → Helps key notes log moved stamps id v
  helps_moved notes log id v before f = record { noted = f.noted; noted_seen = f.noted_seen; helped = λ n e. let y = f.helped n e in (y.0, complete_moved notes log n before y.1) }

  -- each entry in a hand stays there
  pub hands_moved : (codes nexts : ℕ → ℕ) (linked : ℕ → ℕ → Bool) (id : ℕ) (v : View) → ((x y z : ℕ) → uses x ≡ in_hand y z → moved x ≡ in_hand y z) → Holds key codes nexts uses stamps linked id v → Holds key codes nexts moved stamps linked id v
  hands_moved codes nexts linked id v still f l h there = let y = f l h there in record {
    inside = y.inside;
    use_is = still h.entry id l y.use_is;
    unborn = y.unborn;
    code = y.code;
    tables = y.tables;
    written = y.written;
    ready = y.ready;
  }
