-- What of a row its place in the merge depends on.
use Rattle.std.specs.Prelude.{not}
use Rattle.reg_model.specs.declared.reply.Row.{Row}
use Rattle.reg_model.specs.declared.merging.Place.{Place}
use Rattle.reg_model.specs.declared.merging.Key.{Key}
use Rattle.reg_model.specs.Rows.{is_accepted}

abbrev pub row_place : Row → Place
row_place row = record { session = row.session; number = row.number }

abbrev pub row_key : Row → Key
row_key row = record { point = row.point; refused = not (is_accepted row); place = row_place row }

abbrev pub key_place : Key → Place
key_place key = key.place
