use Rattle.std.proofs.Common.{◌≡◌, Some, None, inr, refl, subst}
use Rattle.iscc_code.specs.Composites.{compose_fault, IsComposite}
use Rattle.reg_top.proofs.Compositions.{no_fault}
use Rattle.reg_top.proofs.commands.compose.composite.Goals as goal

pub returns-in-Ok-compose-clause-composed : goal.returns-in-Ok-compose-clause-composed
returns-in-Ok-compose-clause-composed c =
    let units = c.in-Ok.units.items in
    record {
      units = units;
      read = c.in-Ok.ensures.read;
      faultless = subst (λ us. compose_fault us ≡ None) c.as_slice.ensures.value
          (no_fault (compose_fault c.as_slice.result.now) c.in-Ok-compose.code (λ fault is. let either = c.in-Ok-compose.ensures.fault fault in either.1 is));
      composite = subst (λ us. IsComposite us c.in-Ok-compose.code) c.as_slice.ensures.value c.in-Ok-compose.ensures.found;
    }

pub returns-clause-declines : goal.returns-clause-declines
returns-clause-declines c =
    let either = c.in-Err-compose.ensures.fault c.in-Err-compose.fault in
    inr (record {
      units = c.in-Ok.units.items;
      read = c.in-Ok.ensures.read;
      fault = c.in-Err-compose.fault;
      has = subst (λ us. compose_fault us ≡ Some c.in-Err-compose.fault) c.as_slice.ensures.value (either.0 refl);
      is = refl;
    })
