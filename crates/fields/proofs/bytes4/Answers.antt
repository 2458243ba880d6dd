-- `fields::bytes4` meets its contract. Assumes nothing.
use mathlib.Core.Path.{◌∙◌}
use Rattle.fields.proofs.Parts.{four_little}
use Rattle.fields.proofs.bytes4.Goals as goal

pub returns : goal.returns
returns c = c.to_le_bytes.ensures ∙ four_little c.args.n
