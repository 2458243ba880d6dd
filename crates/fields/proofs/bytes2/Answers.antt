-- `fields::bytes2` meets its contract. Assumes nothing.
use mathlib.Core.Path.{◌∙◌}
use Rattle.fields.proofs.Parts.{two_little}
use Rattle.fields.proofs.bytes2.Goals as goal

pub returns : goal.returns
returns c = c.to_le_bytes.ensures ∙ two_little c.args.n
