-- `fields::fill` meets its contract. Assumes nothing.
use native.Mathlib.Omega.{arith}
use Rattle.fields.proofs.Parts.{not_filled, fills}
use Rattle.fields.proofs.fill.Goals as goal

pub returns-then-p-n : goal.returns-then-p-n
returns-then-p-n c = not_filled _ _ _ (omega arith)

pub returns-then-p-n-2 : goal.returns-then-p-n-2
returns-then-p-n-2 c = not_filled _ _ _ (omega arith)

pub returns : goal.returns
returns c = fills _ _ _ _ _ (omega arith) c.put.ensures
