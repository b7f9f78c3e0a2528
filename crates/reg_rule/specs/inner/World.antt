-- What the words and the views stand for. It exists in the rule alone.
use Rattle.std.specs.Prelude.{ℕ, List, Bool, Option}
use Rattle.reg_model.specs.declared.reply.Row.{Row}
use Rattle.reg_words.specs.declared.word.StampWord.{StampWord}
use Rattle.reg_words.specs.declared.word.SweepWord.{SweepWord}
use Rattle.reg_rule.specs.declared.view.Place.{Place}

-- Where an entry is: in the ring, under this count of entries put; in a hand of this seat, at this place of its hands;
-- or with the declaration of this id, until it is given back.
pub data Use : Type 0 where
  free : ℕ → Use
  in_hand : ℕ → ℕ → Use
  holds : ℕ → Use

pub record World : Type 0 where
  -- ---- the log and the accounts
  pub log : List Place
  -- by session
  pub accounts : ℕ → List Row
  -- the seat of a session, and the place of its account among that seat's accounts
  pub owner : ℕ → ℕ × ℕ
  -- ---- entries
  pub uses : ℕ → Use
  pub stamps : ℕ → StampWord
  -- how many entries were taken from the ring and put into it, and which was put under each count
  pub taken : ℕ
  pub put : ℕ
  pub ring : ℕ → ℕ
  -- ---- chains
  -- by table and bucket
  pub chains : ℕ → ℕ → List ℕ
  -- by table and entry
  pub linked : ℕ → ℕ → Bool
  -- ---- reclamation
  pub word : SweepWord
  -- the seat that holds the sweep
  pub holder : Option ℕ
  -- the unlinking has begun for just the withdrawals below, and the entries of just these were given back
  pub begun : ℕ
  pub returned : ℕ
  -- the front found after the entry was unlinked from all tables
  pub mark : Option ℕ
  -- by session: no front that its seat has found since it was pinned is lower, and no later one will be
  pub floor : ℕ → ℕ
  -- by session: its seat has no cursor at an entry whose unlinking began below this number
  pub freed : ℕ → ℕ
