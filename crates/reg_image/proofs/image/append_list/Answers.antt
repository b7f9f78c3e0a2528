use Rattle.std.proofs.Common.{◌++◌, ap, ◌∙◌, subst, sym, append-nil, arith}
use Rattle.std.specs.List.{flat_map}
use Rattle.std.proofs.lemmas.List.{take_all}
use Rattle.std.proofs.lemmas.List.Elements.{All-nil}
use Rattle.iscc_header.specs.Unit64s.{IsUnit64}
use Rattle.reg_model.specs.declared.update.Declared.{Declared}
use Rattle.reg_image.specs.Images.{declared_bytes}
use Rattle.reg_image.proofs.Listed.{AreUnits, more_written, more_units}
use Rattle.reg_image.proofs.image.append_list.Goals as goal

pub loop-declared-init : goal.loop-declared-init
loop-declared-init c = record {
  bytes = sym (append-nil c.args.out.now.items);
  units = All-nil (λ (d : Declared). IsUnit64 d.unit);
}

pub loop-declared-preserved : goal.loop-declared-preserved
loop-declared-preserved c =
    let list = c.args.list.now in
    let i = c.loop-declared.declared-index in
    record {
      bytes = more_written list i c.args.out.now.items c.loop-declared.out.items c.append_declared.new.out.items c.declared-item.result (omega arith) c.declared-item.is
          c.loop-declared.invariant.bytes c.in_ok-append_declared.ensures.bytes;
      units = more_units list i c.declared-item.result (omega arith) c.declared-item.is c.append_declared.ensures.unit c.loop-declared.invariant.units;
    }

pub returns-clause-bytes : goal.returns-clause-bytes
returns-clause-bytes c =
    let list = c.args.list.now in
    c.loop-declared.invariant.bytes ∙ ap (λ ds. c.args.out.now.items ++ flat_map declared_bytes ds) (take_all c.loop-declared.declared-index list c.loop-declared-test.false)

pub returns-clause-units : goal.returns-clause-units
returns-clause-units c =
    let list = c.args.list.now in
    subst AreUnits (take_all c.loop-declared.declared-index list c.loop-declared-test.false) c.loop-declared.invariant.units
