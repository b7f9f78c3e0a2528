-- How seats are split and joined.
use Rattle.std.specs.Prelude.{nat_le, cond, [], ◌++◌, length, take, drop, false}
use Rattle.reg_rule.specs.declared.view.Key.{Key}
use Rattle.reg_rule.specs.declared.view.View.{View}
use Rattle.reg_rule.specs.Fresh.{blank}

-- a seat keeps its first account, and a new seat has the others
abbrev pub head_part : View → View
head_part v = record v { accounts = take 1 v.accounts }

abbrev pub tail_part : View → View
tail_part v = blank v.key (drop 1 v.accounts)

-- a seat takes in another's accounts, entries and costs, and keeps the greater number of places seen
abbrev pub joined : View → View → View
joined v w = record v { log = cond (nat_le (length w.log) (length v.log)) v.log w.log; hands = v.hands ++ w.hands; costs = v.costs ++ w.costs; accounts = v.accounts ++ w.accounts }

abbrev pub no_key : Key
no_key = record { sizes = record { entries = 0; log = 0; bits = 0; callers = 0 }; carried = record { base = 0; list = [] }; entries = 0 }

-- a seat that was joined into another
abbrev pub nobody : View
nobody = record (blank no_key []) { live = false }

-- a view that only keeps the key and the accounts
abbrev pub sealing : View → View
sealing v = record nobody { key = v.key; sealed = v.accounts }
