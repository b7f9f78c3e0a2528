use Rattle.std.proofs.Common.{◌∙◌, ◌++◌, ap₂, arith}
use Rattle.reg_image.specs.Images.{front_bytes}
use Rattle.reg_image.proofs.OneImage.{written}
use Rattle.reg_image.proofs.image.write_image.Goals as goal

pub returns : goal.returns
returns c =
    written c.args.carried.now c.list-list.result.now c.base.result c.in_ok-bytes.bytes.items c.append_front.new.out.items c.append_list.new.out.items c.as_slice-summed.result.now c.sum_of-sum.result c.extend_from_slice.new.self.items
    c.list-list.ensures.opening c.list-list.ensures.list c.base.ensures c.in_ok-append_list.ensures.units c.requires c.in_ok-bytes.ensures.items
    (c.in_ok-append_front.ensures ∙ ap₂ (λ base count. c.in_ok-bytes.bytes.items ++ front_bytes base count) (omega arith) (omega arith))
    c.in_ok-append_list.ensures.bytes c.as_slice-summed.ensures.value c.sum_of-sum.ensures c.in_ok-extend_from_slice.ensures.items
