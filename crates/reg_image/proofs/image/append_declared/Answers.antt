use Rattle.std.proofs.Common.{◌∙◌, ap, arith}
use Rattle.std.specs.Int.{to_be_bytes, w64}
use Rattle.reg_image.proofs.Listed.{three_pieces}
use Rattle.reg_image.proofs.image.append_declared.Goals as goal

pub returns-clause-bytes : goal.returns-clause-bytes
returns-clause-bytes c =
    three_pieces c.args.declared c.args.out.now.items c.extend_from_slice.new.self.items c.push.new.self.items _ c.to_be_bytes.result c.to_be_bytes-2.result c.number.result
    c.in_ok-extend_from_slice.ensures.items c.in_ok-push.ensures.items c.in_ok-extend_from_slice-2.ensures.items
    (c.to_be_bytes.ensures ∙ ap (to_be_bytes w64) (omega arith)) c.number.ensures.value (c.to_be_bytes-2.ensures ∙ ap (to_be_bytes w64) (omega arith))
