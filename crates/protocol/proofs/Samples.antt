-- Every row of the table holds, by one computed test over it. Assumes nothing.
use mathlib.Core.Path.{◌≡◌, refl}
use mathlib.Core.List.{map}
use Rattle.octets.specs.Octets.{flip, zeros}
use Rattle.address.specs.Identity.{decode_of as address_of}
use Rattle.features.specs.Features.{decode_of}
use Rattle.protocol.specs.Plan.{runs}
use Rattle.protocol.specs.Parts.{accept_of, verdict_of}
use Rattle.protocol.specs.Values.{from}
use Rattle.protocol.specs.Samples.{made, said, rows}

pub rows_hold : map made rows ≡ map said rows
unfolding rows from runs accept_of decode_of address_of verdict_of flip zeros
rows_hold = refl
