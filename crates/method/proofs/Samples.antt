-- P5 and P6 hold, by one computed test over the table. Assumes nothing.
use mathlib.Core.Path.{◌≡◌, refl}
use mathlib.Core.List.{map}
use Rattle.method.specs.Method.{method_of}
use Rattle.method.specs.Samples.{made, said, samples}

pub samples_hold : map made samples ≡ map said samples
unfolding samples method_of
samples_hold = refl
