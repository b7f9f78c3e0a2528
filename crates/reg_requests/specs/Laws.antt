-- What files tell.
use Rattle.std.specs.Prelude.{◌≡◌, ℕ, List}
use Rattle.reg_requests.specs.declared.items.Item.{Item}
use Rattle.reg_requests.specs.Requests.{AreItems}

-- a file has one list of items
abbrev pub FileTellsItems : Type 0
FileTellsItems = (file : List ℕ) (a b : List Item) → AreItems file a → AreItems file b → a ≡ b
