use Rattle.std.proofs.Common.{◌≡◌, ◌+◌, ◌-◌, ◌*◌, ◌%◌, ◌^◌, ◌++◌, ℕ, sym, subst, arith}
use Rattle.std.proofs.lemmas.Nat.{one_shl}
use Rattle.iscc_header.specs.Bits.{bits_of}
use Rattle.iscc_text.specs.inner.Gathering.{Gathers}
use Rattle.iscc_text.proofs.GatheredBits.{gathers_few, gathers_byte, byte_fits}
use Rattle.iscc_text.proofs.gather.push.Goals as goal

pub returns-then-bits-lt3-clause-gathers : goal.returns-then-bits-lt3-clause-gathers
returns-then-bits-lt3-clause-gathers c = λ all g. gathers_few c.args.bits.now c.args.digit all c.if-bits-lt3.true c.requires.digit g

pub overflow_cast-pending-2 : goal.overflow_cast-pending-2
overflow_cast-pending-2 c =
    let bits = c.args.bits.now in
    omega (arith, byte_fits bits.width bits.pending c.args.digit c.if-bits-lt3.false c.requires.narrow c.requires.fits c.requires.digit)

pub returns-clause-gathers : goal.returns-clause-gathers
returns-clause-gathers c = λ all g.
    let bits = c.args.bits.now in
    let w = bits.width - 3 in
    let one : 1 * 2 ^ w % 2 ^ 32 ≡ 2 ^ w = one_shl w 32 (omega (arith, c.requires.narrow)) in
    let P : ℕ → Type 0 = λ n. Gathers (record { kept = c.keep.new.kept; count = bits.count + 1; width = w; pending = (bits.pending * 32 + c.args.digit) % n }) (all ++ bits_of 5 c.args.digit) in
    subst P (sym one) (gathers_byte bits c.args.digit all c.keep.new.kept c.if-bits-lt3.false c.requires.digit c.keep.ensures g)
