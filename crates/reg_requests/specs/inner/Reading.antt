-- What the parts of the reading tell each other.
use Rattle.std.specs.Prelude.{◌≡◌, ◌≤◌, ℕ, List, [], ◌∷◌, ◌++◌, length, All, Result, Err}
use Rattle.arrayvec.specs.ArrayVec.{ArrayVec}
use Rattle.reg_model.specs.declared.call.Call.{Call}
use Rattle.reg_requests.specs.declared.items.BadLine.{BadLine}
use Rattle.reg_requests.specs.declared.items.BadLine.TheVariants as bad
use Rattle.reg_requests.specs.declared.items.Line.{Line}
use Rattle.reg_requests.specs.declared.items.Item.{Item}
use Rattle.reg_requests.specs.Requests.{NumberMeans, ReadsLine, items_of, calls_of}
use Rattle.reg_model.specs.Calls.{IsRequest}

-- calls that a line may ask for, and no more than an ISCC has units
abbrev pub AreRequests : ArrayVec Call → Type 0
AreRequests list = All IsRequest list.items × (length list.items ≤ 5)

-- the number that the only word stands for, or why the words are refused
abbrev pub OnlyNumberMeans : List (List ℕ) → Result ℕ BadLine → Type 0
OnlyNumberMeans (word ∷ []) answer = NumberMeans word answer
OnlyNumberMeans words answer = answer ≡ Err bad.Line

-- a line adds its items to a list
pub record AddsLine (line : List ℕ) (old new : List Item) : Type 0 where
  pub read : Line
  pub reads : ReadsLine line read
  pub items : new ≡ old ++ items_of read
  pub requests : All IsRequest (calls_of (items_of read))
  pub few : length (calls_of (items_of read)) ≤ length line
