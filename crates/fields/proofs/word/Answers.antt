-- `fields::word` meets its contract. Assumes nothing.
use Rattle.std.proofs.Common.{arith}
use Rattle.fields.proofs.Parts.{four_bytes, number_past}
use Rattle.fields.proofs.word.Goals as goal

pub returns-then-at-p : goal.returns-then-at-p
returns-then-at-p c = omega (arith, c.from_le_bytes.ensures, c.byte.ensures, c.byte-then-at-p.ensures, c.byte-then-at-p-2.ensures, c.byte-then-at-p-3.ensures, four_bytes c.args.at c.args.p.now)

pub returns : goal.returns
returns c = number_past 4 c.args.at c.args.p.now c.if-at-p.false
