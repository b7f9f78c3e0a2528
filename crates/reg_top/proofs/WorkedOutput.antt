-- The output of a small run, from the bytes of its file on.
use Rattle.std.proofs.Common.{◌≡◌, ℕ, zero, suc, List, [], ◌∷◌, ◌++◌, length, Some, Option, unwrap_or, refl, ap, lit<, lit≤, arith}
use Rattle.std.specs.Prelude.{All, codes, bytes_eq, if◌then◌else◌, None}
use Rattle.std.specs.Fmt.{digits}
use Rattle.std.proofs.lemmas.List.Elements.{All-nil, All-from_recursion}
use Rattle.iscc_header.specs.Bits.{bits_of}
use Rattle.iscc_text.specs.UnitText.{unit_text}
use Rattle.reg_model.specs.Runs.{RoundRows, IsHistory, nothing}
use Rattle.reg_model.proofs.WorkedRows.{usual, hit, two_units, two_units_lawful}
use Rattle.reg_requests.specs.Lines.{line}
use Rattle.reg_requests.proofs.WorkedLines.{file, wanted, file_items}
use Rattle.reg_history.specs.History.{history_text}
use Rattle.reg_model.specs.Rows.{AsksLogFirst}
use Rattle.reg_top.specs.Fetches.{RoundPlan, Plan}
use Rattle.reg_top.specs.commands.Run.{IsRunOutput, MakesCalls}
use Rattle.reg_history.specs.lines.Values.{IsDeclaredValue, IsHitValue, IsRowValue, IsRunValue}

abbrev pub output : List ℕ
output =
    line (codes "replies 0 0")
    ++ line (codes "id 0")
    ++ line (codes "id 1")
    ++ line (codes "hits 2 0,0,ISCC:AAAQAAAAAAAAAAAA 1,1,ISCC:AAAQAAAAAAAAAAAB")
    ++ line (codes "iscc-history 1")
    ++ line (codes "round 0 base 0 entries 4096 log 65536 callers 1")
    ++ line (codes "0.0 @1 declare ISCC:AAAQAAAAAAAAAAAA = id 0")
    ++ line (codes "0.1 @2 declare ISCC:AAAQAAAAAAAAAAAB = id 1")
    ++ line (codes "0.2 @2 near ISCC:AAAQAAAAAAAAAAAA 1 = hits 2 0,0,ISCC:AAAQAAAAAAAAAAAA 1,1,ISCC:AAAQAAAAAAAAAAAB")
    ++ line (codes "end 3 live 2")

abbrev pub round : RoundRows
round = record { limits = usual; rows = two_units }

abbrev pub files : List ℕ → Option (List ℕ)
files name = if bytes_eq name (codes "a.txt") then Some file else None

pub history : history_text nothing (round ∷ []) ≡
    line (codes "iscc-history 1")
    ++ line (codes "round 0 base 0 entries 4096 log 65536 callers 1")
    ++ line (codes "0.0 @1 declare ISCC:AAAQAAAAAAAAAAAA = id 0")
    ++ line (codes "0.1 @2 declare ISCC:AAAQAAAAAAAAAAAB = id 1")
    ++ line (codes "0.2 @2 near ISCC:AAAQAAAAAAAAAAAA 1 = hits 2 0,0,ISCC:AAAQAAAAAAAAAAAA 1,1,ISCC:AAAQAAAAAAAAAAAB")
    ++ line (codes "end 3 live 2")
unfolding history_text unit_text bits_of digits
history = refl

abbrev pub plan : Plan
plan = record { load = None; save = None; rounds = record { limits = usual; names = codes "a.txt" ∷ [] } ∷ [] }

made : MakesCalls (wanted ∷ []) round
made zero list e = rw (← ap (λ o. unwrap_or o wanted) e) refl
made (suc k) list e = absurd (cc)

pub lawful : IsHistory nothing (round ∷ [])
lawful = record {
  opens = record { base = lit≤ tt; rising = λ i j d lt low. absurd (omega arith); below = λ k d low. absurd (omega arith) };
  some = lit≤ tt;
  few = lit≤ tt;
  lawful = (
    record {
      sizes = record { entries = (lit≤ tt, lit≤ tt); log = (lit≤ tt, lit≤ tt); bits = (lit≤ tt, lit≤ tt); callers = (lit≤ tt, lit≤ tt) };
      room = lit≤ tt;
      ids = lit≤ tt;
      rows = two_units_lawful;
    },
    tt,
  );
}

-- each number of the three rows is in range
pub values : IsRunValue nothing (round ∷ [])
values = record {
  carried = All-nil IsDeclaredValue;
  rows = All-from_recursion (λ (r : RoundRows). All IsRowValue r.rows) (round ∷ []) (
    All-from_recursion IsRowValue two_units (
      record { session = lit< tt; number = lit< tt; call = record { kind = lit< tt; body = lit< tt }; point = lit< tt; reply = lit< tt },
      (
        record { session = lit< tt; number = lit< tt; call = record { kind = lit< tt; body = lit< tt }; point = lit< tt; reply = lit< tt },
        (
          record {
            session = lit< tt;
            number = lit< tt;
            call = (record { kind = lit< tt; body = lit< tt }, lit< tt);
            point = lit< tt;
            reply = All-from_recursion IsHitValue (hit 0 0 0 ∷ hit 1 1 1 ∷ []) (
              record { id = lit< tt; body = lit< tt; distance = lit< tt },
              (record { id = lit< tt; body = lit< tt; distance = lit< tt }, tt),
            );
          },
          tt,
        ),
      ),
    ),
    tt,
  );
}

asks : All (AsksLogFirst usual nothing) two_units
asks = All-from_recursion (AsksLogFirst usual nothing) two_units ((λ given full. cc), ((λ given full. cc), ((λ given full. cc), tt)))

pub run_output : IsRunOutput plan files (round ∷ []) output
unfolding history_text unit_text bits_of digits
run_output = record {
  opening = nothing;
  opens = refl;
  is = record {
    made = record {
      items = (wanted ∷ []) ∷ [];
      callers = All-from_recursion (λ (p : RoundPlan). p.limits.callers ≡ length p.names) plan.rounds (refl, tt);
      read = (((file, refl, file_items), tt), tt);
      sizes = refl;
      calls = (made, tt);
      alone = (λ _. asks, tt);
      values = values;
    };
    lawful = lawful;
    text = refl;
  };
}
