-- `fields::array` meets its contract. Assumes nothing.
use Rattle.octets.specs.Octets.{zeros}
use Rattle.fields.proofs.array.Goals as goal

pub returns : goal.returns
unfolding zeros
returns g c = c.fill.ensures
