-- Places of rows in the accounts of several sessions, and the order that merges them.
use Rattle.std.specs.Prelude.{◌≡◌, List, slice_get, Option, IfSome, IsSome, All}
use Rattle.std.specs.List.{filter_map}
use Rattle.std.specs.Option.{option_and_then}
use Rattle.reg_model.specs.declared.reply.Row.{Row}
use Rattle.reg_model.specs.declared.merging.Place.{Place}
use Rattle.reg_model.specs.Rows.{IsMerge}

-- the row with this number in the account of this session
abbrev pub row_at : List (List Row) → Place → Option Row
row_at accounts place = option_and_then (λ rows. slice_get rows place.number) (slice_get accounts place.session)

-- The accounts of the sessions 0, 1, 2, ..: each row stands at the place of its session and its number.
pub record AreAccounts (accounts : List (List Row)) : Type 0 where
  pub session : (place : Place) → IfSome (row_at accounts place) (λ row. row.session ≡ place.session)
  pub number : (place : Place) → IfSome (row_at accounts place) (λ row. row.number ≡ place.number)

-- Each place has a row, and the rows at these places, in order, are the merge of the accounts.
pub record IsMergeOrder (accounts : List (List Row)) (order : List Place) : Type 0 where
  pub filled : All (λ place. IsSome (row_at accounts place)) order
  pub merge : IsMerge accounts (filter_map (row_at accounts) order)
