use Rattle.std.proofs.Common.{◌≡◌, false, ◌∙◌, sym}
use Rattle.std.specs.Result.{is_err}
use Rattle.reg_requests.proofs.HexDigits.{decoded}
use Rattle.reg_requests.proofs.digits.take_piece.Goals as goal

pub returns-clause-taken : goal.returns-clause-taken
returns-clause-taken c =
    let fine : is_err c.decode_to_slice.result ≡ false = sym c.is_err.ensures.value ∙ c.if-is_err.false in
    let value = c.decode_to_slice.ensures.value in
    λ yes. (c.decode_to_slice.new.out, decoded c.args.digits.now c.decode_to_slice.new.out _ c.decode_to_slice.result value fine, c.update.ensures.bytes)
