use Rattle.std.proofs.Common.{◌∙◌, ap, arith}
use Rattle.iscc_header.specs.Bits.{bits_of}
use Rattle.iscc_header.proofs.NumberEncodings.{nibbles_1, nibbles_2, nibbles_3, nibbles_4}
use Rattle.iscc_header.proofs.number.put_nibbles.Goals as goal

-- each row says which number the nibbles are, whatever form its sum has
pub returns-in-0-to-7-clause-found : goal.returns-in-0-to-7-clause-found
returns-in-0-to-7-clause-found c = ap (bits_of 4) (omega arith) ∙ nibbles_1 c.args.n (omega arith)

pub returns-in-8-to-71-clause-found : goal.returns-in-8-to-71-clause-found
returns-in-8-to-71-clause-found c = ap (bits_of 8) (omega arith) ∙ nibbles_2 c.args.n (omega arith) (omega arith)

pub returns-in-72-to-583-clause-found : goal.returns-in-72-to-583-clause-found
returns-in-72-to-583-clause-found c = ap (bits_of 12) (omega arith) ∙ nibbles_3 c.args.n (omega arith) (omega arith)

pub returns-in-584-to-4679-clause-found : goal.returns-in-584-to-4679-clause-found
returns-in-584-to-4679-clause-found c = ap (bits_of 16) (omega arith) ∙ nibbles_4 c.args.n (omega arith) (omega arith)
