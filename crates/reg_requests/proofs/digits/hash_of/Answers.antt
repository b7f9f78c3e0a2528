use Rattle.std.proofs.Common.{◌≡◌, ◌%◌, List, ℕ, [], ◌++◌, length, take, drop, Ok, sym, ◌∙◌, ap, arith, rules, append_assoc, append-nil}
use Rattle.std.proofs.lemmas.List.{take-append-drop}
use Rattle.hex.specs.Hex.{decode_of}
use Rattle.reg_requests.proofs.HexDigits.{joined, parted, nothing}
use Rattle.reg_requests.proofs.digits.hash_of.Goals as goal

-- the digits of a piece and those behind it
whole : (rest piece behind : List ℕ) (n : ℕ) → piece ≡ take n rest → behind ≡ drop n rest → piece ++ behind ≡ rest
whole rest piece behind n front back = ap (λ t. t ++ behind) front ∙ ap (λ t. take n rest ++ t) back ∙ take-append-drop n rest

pub returns-then-not-take_piece-clause-none : goal.returns-then-not-take_piece-clause-none
returns-then-not-take_piece-clause-none c = λ all reads.
    let pieces = c.split_at.ensures in
    let even : length c.split_at.result.0.now % 2 ≡ 0 = omega (arith, pieces.front_len, c.min.ensures, c.loop-rest.invariant.even) in
    let rest = c.loop-rest.invariant.parted all reads in
    let parts = parted c.split_at.result.0.now c.split_at.result.1.now rest.0 even (ap decode_of (whole c.loop-rest.rest.now _ _ _ pieces.front pieces.back) ∙ rest.1) in
    c.take_piece.ensures.refused c.if-not-take_piece.true parts.0 parts.2

pub loop-rest-preserved : goal.loop-rest-preserved
loop-rest-preserved c =
    let old = c.loop-rest.invariant in
    let pieces = c.split_at.ensures in
    let taken = c.take_piece.ensures.taken c.if-not-take_piece.false in
    let same = whole c.loop-rest.rest.now _ _ _ pieces.front pieces.back in
    let even : length c.split_at.result.0.now % 2 ≡ 0 = omega (arith, pieces.front_len, c.min.ensures, old.even) in
    record {
      bytes = old.bytes ++ taken.0;
      taken = taken.2 old.bytes old.taken;
      joined = λ more reads.
          old.joined (taken.0 ++ more) (ap decode_of (sym same) ∙ joined c.split_at.result.0.now c.split_at.result.1.now taken.0 more taken.1 reads)
          ∙ ap Ok (sym (append_assoc old.bytes taken.0 more));
      parted = λ all reads.
          let rest = old.parted all reads in
          let parts = parted c.split_at.result.0.now c.split_at.result.1.now rest.0 even (ap decode_of same ∙ rest.1) in
          (parts.1, parts.3);
      even = omega (arith, pieces.front_len, pieces.back_len, c.min.ensures, old.even);
      room = omega (arith, pieces.front_len, pieces.back_len, c.take_piece.ensures.len, old.room);
    }

pub returns-clause-found : goal.returns-clause-found
returns-clause-found c =
    let last = c.loop-rest.invariant in
    let empty : length c.loop-rest.rest.now ≡ 0 = search rules in (
      last.bytes,
      last.joined [] (nothing c.loop-rest.rest.now empty) ∙ ap Ok (append-nil last.bytes),
      c.finalize.ensures.hash last.bytes last.taken,
    )
