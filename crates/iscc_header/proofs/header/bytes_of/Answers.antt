use Rattle.std.proofs.Common.{◌≡◌, ◌+◌, ◌-◌, ◌*◌, ◌/◌, ◌%◌, ◌^◌, ◌++◌, [], ◌∷◌, sym, ◌∙◌, ap, append-nil, arith, rules, lit<}
use Rattle.std.proofs.Math.Nat.{mod-lt}
use Rattle.std.proofs.lemmas.List.Elements.{All-same, All-nil, All-push}
use Rattle.iscc_header.specs.Bits.{bits_of, byte_bits, IsByte}
use Rattle.iscc_header.proofs.HeaderSteps.{byte_written}
use Rattle.iscc_header.proofs.header.bytes_of.Goals as goal

pub loop-i-init : goal.loop-i-init
unfolding byte_bits
loop-i-init c =
    let value = c.args.bits.value in
    let all : 8 * (c.args.bits.count / 2 - 0) ≡ 4 * c.args.bits.count = omega arith in (
      ap (λ items. byte_bits items ++ bits_of (8 * (c.args.bits.count / 2 - 0)) value) c.new-bytes.ensures ∙ ap (λ w. bits_of w value) all,
      search rules,
      All-same IsByte c.new-bytes.result.items [] c.new-bytes.ensures (All-nil IsByte),
    )

pub loop-i-preserved : goal.loop-i-preserved
loop-i-preserved c =
    let count = c.args.bits.count / 2 in
    let w = 8 * (count - 1 - c.loop-i.i) in
    let value = c.args.bits.value in
    let byte = value / 2 ^ w % 256 in
    let left : w ≡ 8 * (count - (c.loop-i.i + 1)) = omega arith in (
      ap (λ k. byte_bits c.push.new.self.items ++ bits_of k value) (sym left)
          ∙ byte_written c.loop-i.bytes.items c.push.new.self.items _ value (8 * (count - c.loop-i.i)) w (omega arith) c.loop-i.invariant.0 c.push.ensures.items,
      omega (arith, c.push.ensures.len, c.loop-i.invariant.1),
      All-same IsByte c.push.new.self.items (c.loop-i.bytes.items ++ byte ∷ []) c.push.ensures.items (All-push IsByte c.loop-i.bytes.items byte c.loop-i.invariant.2 (mod-lt (value / 2 ^ w) (lit< tt))),
    )

pub returns-clause-encoded : goal.returns-clause-encoded
unfolding bits_of
returns-clause-encoded c =
    let none : 8 * (c.args.bits.count / 2 - c.loop-i.i) ≡ 0 = omega arith in
    sym (append-nil (byte_bits c.loop-i.bytes.items))
    ∙ ap (λ w. byte_bits c.loop-i.bytes.items ++ bits_of w c.args.bits.value) (sym none)
    ∙ c.loop-i.invariant.0
