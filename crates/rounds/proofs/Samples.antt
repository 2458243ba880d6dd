-- The sample passkeys have the z that the scope gives, by one computed test over the table; and nineteen rounds do not tell all
-- passkeys apart. Assumes nothing.
use mathlib.Core.Path.{◌≡◌, refl}
use mathlib.Core.List.{map}
use mathlib.Core.Bool.{true}
use lib.ListN.{take}
use Rattle.rounds.specs.Rounds.{z_of, in_range}
use Rattle.rounds.specs.Samples.{twenty, made, samples}

-- P7 and P8
pub samples_hold : map made samples ≡ map (λ s. s.zs) samples
unfolding samples
samples_hold = refl

-- 0 and 524,288 are passkeys that agree in rounds 0 to 18: a box that tests 19 bits takes one for the other
pub nineteen_fall_short : map (z_of 0) (take 19 twenty) ≡ map (z_of 524288) (take 19 twenty)
nineteen_fall_short = refl

pub nineteenth_tells : (in_range 524288 ≡ true) × (z_of 524288 19 ≡ 0x81)
nineteenth_tells = (refl, refl)
