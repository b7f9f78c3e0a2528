-- What completing a record does.
use Rattle.std.specs.Prelude.{ℕ, nat_lt, cond, List, [], ◌∷◌, ◌++◌, Option, Some}
use Rattle.reg_model.specs.declared.update.Update.{Update}
use Rattle.reg_model.specs.declared.update.Update.TheVariants.{Decl, Wd}
use Rattle.reg_rule.specs.declared.told.Told.TheVariants.{Nothing}
use Rattle.reg_rule.specs.declared.view.Place.{Place}
use Rattle.reg_rule.specs.declared.view.View.{View}
use Rattle.reg_rule.specs.Moves.{again}

-- the kinds of its steps, behind the load of the record: the code, the note and the birth of a declaration; the death of what is withdrawn,
-- and before it the record that declared it, if it isn't carried
abbrev pub help_steps : ℕ → Update → List ℕ
help_steps base (Decl unit) = 3 ∷ 4 ∷ 5 ∷ []
help_steps base (Wd id) = cond (nat_lt id base) (6 ∷ []) (1 ∷ 6 ∷ [])

abbrev pub noted_by : Update → ℕ → Option ℕ → Option ℕ
noted_by (Decl unit) place before = Some place
noted_by (Wd id) place before = before

-- the place, which has this record, is complete
abbrev pub completed : View → ℕ → Place → View
completed v place p =
    let u = again Nothing v in
    record u { noted = noted_by p.update place v.noted; helped = Some place; made = u.made ++ help_steps v.key.carried.base p.update }
