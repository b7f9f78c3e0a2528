-- Marks: which of some ids a log withdraws.
use Rattle.std.specs.Prelude.{ℕ, Bool, cond, List, [], ◌∷◌, map}
use Rattle.reg_model.specs.declared.update.Update.{Update}
use Rattle.reg_model.specs.declared.update.Declared.{Declared}
use Rattle.reg_model.specs.Live.{is_withdrawn}

abbrev pub ids_of : List Declared → List ℕ
ids_of list = map (λ d. d.id) list

-- whether the log withdraws each of the ids
abbrev pub marks : List Update → List ℕ → List Bool
marks log ids = map (is_withdrawn log) ids

-- the declarations that are not marked
abbrev pub unmarked : List Declared → List Bool → List Declared
unmarked [] marks = []
unmarked (d ∷ list) [] = []
unmarked (d ∷ list) (mark ∷ marks) = cond mark (unmarked list marks) (d ∷ unmarked list marks)
