-- What a contract sees of a hasher: the bytes so far.
use Rattle.std.specs.Prelude.{ℕ, List}
use Rattle.iscc_instance.specs.declared.hasher.Hasher.{Hasher}
use Rattle.iscc_instance.specs.inner.State.{HasBytes, state_len}

-- how many bytes the hasher has taken
unfoldable pub hasher_len : Hasher → ℕ
hasher_len h = state_len h.state

-- the hasher has taken these bytes
unfoldable pub HasTaken : Hasher → List ℕ → Type 0
HasTaken h bytes = HasBytes h.state bytes
