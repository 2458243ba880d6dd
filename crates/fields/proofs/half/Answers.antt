-- `fields::half` meets its contract. Assumes nothing.
use Rattle.std.proofs.Common.{arith}
use Rattle.fields.proofs.Parts.{two_bytes, number_past}
use Rattle.fields.proofs.half.Goals as goal

pub returns-then-at-p : goal.returns-then-at-p
returns-then-at-p c = omega (arith, c.from_le_bytes.ensures, c.byte.ensures, c.byte-then-at-p.ensures, two_bytes c.args.at c.args.p.now)

pub returns : goal.returns
returns c = number_past 2 c.args.at c.args.p.now c.if-at-p.false
