-- What a seat knows that has done nothing yet.
use Rattle.std.specs.Prelude.{ℕ, zero, suc, false, List, [], ◌∷◌, true, None}
use Rattle.reg_words.specs.declared.word.SweepWord.{SweepWord}
use Rattle.reg_rule.specs.declared.view.Key.{Key}
use Rattle.reg_rule.specs.declared.view.Account.{Account}
use Rattle.reg_rule.specs.declared.view.Taking.TheVariants.{Idle}
use Rattle.reg_rule.specs.declared.view.View.{View}

abbrev pub newcomers : ℕ → ℕ → List Account
newcomers from zero = []
newcomers from (suc n) = record { number = from; rows = [] } ∷ newcomers (suc from) n

abbrev pub unswept : SweepWord
unswept = record { held = false; limbo = false; place = 0; mark = 0 }

-- a seat that has done nothing yet
abbrev pub blank : Key → List Account → View
blank key accounts = record {
  live = true;
  key = key;
  log = [];
  pin = 0;
  front = None;
  snapshot = None;
  committed = None;
  helped = None;
  noted = None;
  found = None;
  cursor = None;
  visited = [];
  met = [];
  costs = [];
  hands = [];
  taking = Idle;
  empty = None;
  last_word = unswept;
  holding = None;
  stopped = 0;
  sweeps = [];
  accounts = accounts;
  made = [];
  sealed = [];
}

-- with the accounts of n sessions from `from` on
abbrev pub fresh : Key → ℕ → ℕ → View
fresh key from n = blank key (newcomers from n)
