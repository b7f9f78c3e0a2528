use Rattle.std.proofs.Common.{◌≡◌, true, arith, sym, ◌∙◌, ap₂}
use Rattle.iscc_code.specs.Composites.{is_code_sub}
use Rattle.iscc_code.proofs.CodeFaults.{sub_fault, short_fault, long_fault, no_fault, composite_header_from, composite_sub, composite_body_len, same_numbers_of}
use Rattle.iscc_code.proofs.iscc.code_of.Goals as goal

pub returns-then-not-may_have_sub : goal.returns-then-not-may_have_sub
returns-then-not-may_have_sub c =
    let h = c.args.header.now in
    record {
      behind = tt;
      first = sub_fault h c.args.body.now (omega arith) c.requires.version c.requires.len
          (composite_sub h.main h.sub h.len c.requires.main ∙ ap₂ is_code_sub (sym c.length.ensures) (sym c.sub.ensures) ∙ sym c.may_have_sub.ensures ∙ c.if-not-may_have_sub.true);
    }

pub returns-then-body-width : goal.returns-then-body-width
returns-then-body-width c =
    let h = c.args.header.now in
    let sub : is_code_sub h.len h.sub ≡ true = ap₂ is_code_sub (sym c.length.ensures) (sym c.sub.ensures) ∙ sym c.may_have_sub.ensures ∙ c.if-not-may_have_sub.false in
    let header = composite_header_from h c.requires.main c.requires.version c.requires.len sub in
    record { behind = tt; first = short_fault h c.args.body.now header (omega (arith, composite_body_len h.main h.len c.requires.main, c.length-2.ensures, c.units_in-width.ensures)) }

pub returns-then-body-width-2 : goal.returns-then-body-width-2
returns-then-body-width-2 c =
    let h = c.args.header.now in
    let sub : is_code_sub h.len h.sub ≡ true = ap₂ is_code_sub (sym c.length.ensures) (sym c.sub.ensures) ∙ sym c.may_have_sub.ensures ∙ c.if-not-may_have_sub.false in
    let header = composite_header_from h c.requires.main c.requires.version c.requires.len sub in
    record { behind = tt; first = long_fault h c.args.body.now header (omega (arith, composite_body_len h.main h.len c.requires.main, c.length-2.ensures, c.units_in-width.ensures)) }

pub returns : goal.returns
returns c =
    let h = c.args.header.now in
    let sub : is_code_sub h.len h.sub ≡ true = ap₂ is_code_sub (sym c.length.ensures) (sym c.sub.ensures) ∙ sym c.may_have_sub.ensures ∙ c.if-not-may_have_sub.false in
    let header = composite_header_from h c.requires.main c.requires.version c.requires.len sub in
    let code = c.code_from.ensures in
    record {
      valid = code.range;
      its_header = code.header ∙ same_numbers_of _ h (sym c.requires.main) c.sub-2.ensures (sym c.requires.version) c.length-3.ensures;
      its_body = code.body;
      faultless = no_fault h c.args.body.now header (omega (arith, composite_body_len h.main h.len c.requires.main, c.length-2.ensures, c.units_in-width.ensures));
    }
