-- Passes that have made no call.
use Rattle.std.proofs.Common.{◌≡◌, ℕ, zero, suc, ◌+◌, List, map, refl, subst, sym}
use Rattle.std.specs.Prelude.{All}
use Rattle.std.specs.List.{AllByRecursion, range_with_len}
use Rattle.std.proofs.lemmas.List.Elements.{All-from_recursion}
use Rattle.reg_model.specs.Desks.{PassView, new_pass, new_passes, HasNoSnapshot}

none_open : (base a n : ℕ) → AllByRecursion HasNoSnapshot (map (new_pass base) (range_with_len a n))
none_open base a zero = tt
none_open base a (suc n) = (refl, none_open base (a + 1) n)

-- none of them has a snapshot
pub new_passes_ended : (base callers : ℕ) (passes : List PassView) → passes ≡ new_passes base callers → All HasNoSnapshot passes
new_passes_ended base callers passes are = subst (All HasNoSnapshot) (sym are) (All-from_recursion HasNoSnapshot (new_passes base callers) (none_open base 0 callers))
