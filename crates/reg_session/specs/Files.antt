-- What a shelf gives, what a put leaves, and what a sink takes.
use Rattle.std.specs.Prelude.{◌≡◌, ◌≢◌, ℕ, ◌<◌, ◌≤◌, List, [], ◌++◌, length, take, Option, Some, None, IfSome, IsSomeAnd, Result, Ok, Err}
use Rattle.reg_session.specs.declared.shelf.FetchFault.{FetchFault}
use Rattle.reg_session.specs.declared.shelf.FetchFault.TheVariants as faults
use Rattle.reg_session.specs.declared.shelf.PutFault.{PutFault}
use Rattle.reg_session.specs.declared.shelf.PutFault.TheVariants as puts
use Rattle.reg_session.specs.declared.sink.Failed.{Failed}

-- a map from names to bytes
abbrev pub Files : Type 0
Files = List ℕ → Option (List ℕ)

-- what a fetch of a file answers, where the file is told: `held` is what the map has at the name
abbrev pub FetchTells : Option (List ℕ) → ℕ → Result (Unit {0}) FetchFault → List ℕ → Type 0
FetchTells held limit (Ok _) bytes = held ≡ Some bytes
FetchTells held limit (Err faults.Missing) bytes = held ≡ None
FetchTells held limit (Err faults.TooLong) bytes = IsSomeAnd held (λ whole. limit < length whole)
FetchTells held limit (Err faults.Failed) bytes = Unit {0}
FetchTells held limit (Err faults.NoMemory) bytes = Unit {0}

-- after a refusal there are no bytes, and after Ok at most `limit`
abbrev pub FetchLeaves : ℕ → Result (Unit {0}) FetchFault → List ℕ → Type 0
FetchLeaves limit (Ok _) bytes = length bytes ≤ limit
FetchLeaves limit (Err fault) bytes = bytes ≡ []

pub record FetchGives (files : Option Files) (name : List ℕ) (limit : ℕ) (result : Result (Unit {0}) FetchFault) (bytes : List ℕ) : Type 0 where
  pub told : IfSome files (λ (map : Files). FetchTells (map name) limit result bytes)
  pub left : FetchLeaves limit result bytes

-- two maps have the same at every name but this one
abbrev pub Elsewhere : Files → Files → List ℕ → Type 0
Elsewhere before after name = (other : List ℕ) → other ≢ name → after other ≡ before other

-- What a put leaves. After Ok the name has the bytes, and every other name what it had; after Failed every other name has what it had,
-- and what this one has isn't told; where memory is wanting, all is as it was.
abbrev pub PutTells : Option Files → Option Files → List ℕ → List ℕ → Result (Unit {0}) PutFault → Type 0
PutTells before after name bytes (Ok _) =
    IfSome before (λ (map : Files). IsSomeAnd after (λ (left : Files). (left name ≡ Some bytes) × Elsewhere map left name))
PutTells before after name bytes (Err puts.Failed) = IfSome before (λ (map : Files). IsSomeAnd after (λ (left : Files). Elsewhere map left name))
PutTells before after name bytes (Err puts.NoMemory) = after ≡ before

-- a sink that answers Ok took at least one byte of a piece, the first ones; one that fails took none
abbrev pub TakesFront : Option (List ℕ) → Option (List ℕ) → List ℕ → Result ℕ Failed → Type 0
TakesFront before after piece (Ok n) = (0 < n) × (n ≤ length piece) × IfSome before (λ bytes. after ≡ Some (bytes ++ take n piece))
TakesFront before after piece (Err _) = after ≡ before
