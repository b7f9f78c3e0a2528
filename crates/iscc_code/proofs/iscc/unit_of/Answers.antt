use Rattle.std.proofs.Common.{◌≡◌, ◌+◌, ◌-◌, ◌*◌, ◌/◌, length, arith, ◌∙◌, ap}
use Rattle.iscc_header.specs.Kinds.{main_of, sub_of}
use Rattle.iscc_code.specs.Units.{UnitParts, unit_header}
use Rattle.iscc_code.proofs.CodeFaults.{sub_fault, short_fault, long_fault, no_fault, unit_header_from, unit_sub, unit_body_len, same_numbers_of}
use Rattle.iscc_code.proofs.iscc.unit_of.Goals as goal

pub returns-in_default : goal.returns-in_default
returns-in_default c =
    let h = c.args.header.now in
    record {
      behind = tt;
      first = sub_fault h c.args.body.now (omega arith) c.requires.version c.requires.len (unit_sub h.main h.sub h.len c.requires.main ∙ c.in_default.ensures.none);
    }

pub returns-then-body-width : goal.returns-then-body-width
returns-then-body-width c =
    let h = c.args.header.now in
    record { behind = tt; first = short_fault h c.args.body.now (unit_header_from h c.requires.main c.requires.version c.requires.len c.in-Some.ensures.found.3) (omega (arith, unit_body_len h.main h.len c.requires.main)) }

pub returns-then-body-width-2 : goal.returns-then-body-width-2
returns-then-body-width-2 c =
    let h = c.args.header.now in
    record { behind = tt; first = long_fault h c.args.body.now (unit_header_from h c.requires.main c.requires.version c.requires.len c.in-Some.ensures.found.3) (omega (arith, unit_body_len h.main h.len c.requires.main)) }

pub returns : goal.returns
returns c =
    let h = c.args.header.now in
    let body = c.args.body.now in
    let unit = c.in-Some-new.unit in
    let whole : length body ≡ 4 * (h.len + 1) = omega arith in
    let kind : unit.kind ≡ c.in-Some.kind = ap (λ (u : UnitParts). u.kind) c.in-Some-new.ensures.found in
    let body_is : unit.body ≡ body = ap (λ (u : UnitParts). u.body) c.in-Some-new.ensures.found in
    let len : length unit.body / 4 - 1 ≡ h.len = omega (arith, ap length body_is) in
    let version : 0 ≡ h.version = omega arith in
    record {
      valid = c.in-Some-new.ensures.range;
      its_header = same_numbers_of (unit_header unit) h (ap main_of kind ∙ c.in-Some.ensures.found.1) (ap sub_of kind ∙ c.in-Some.ensures.found.2) version len;
      its_body = body_is;
      faultless = no_fault h body (unit_header_from h c.requires.main c.requires.version c.requires.len c.in-Some.ensures.found.3) (omega (arith, whole, unit_body_len h.main h.len c.requires.main));
    }
