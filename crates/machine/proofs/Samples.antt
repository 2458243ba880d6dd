-- P1 to P10 hold, by one computed test over the table. Assumes nothing.
use mathlib.Core.Path.{◌≡◌, refl}
use mathlib.Core.List.{List, [], ◌∷◌, map, Memᴰ}
use Rattle.octets.specs.Octets.{flip, zeros, all_zero}
use Rattle.features.specs.Features.{decode_of}
use Rattle.method.specs.Method.{method_of}
use Rattle.frames.specs.Packets.{frame}
use Rattle.protocol.specs.Plan.{runs}
use Rattle.protocol.specs.Parts.{accept_of}
use Rattle.protocol.specs.Role.{step}
use Rattle.machine.specs.Request.{own_features}
use Rattle.machine.specs.Samples.{Row, made, said, rows}

pub rows_hold : map made rows ≡ map said rows
unfolding rows step runs accept_of own_features decode_of method_of frame flip zeros all_zero
rows_hold = refl

-- so each of them does
each : {A B : Type 0} (f g : A → B) (l : List A) → map f l ≡ map g l → (x : A) → Memᴰ x l → f x ≡ g x
each {A = A} {B = B} f g [] e x m = elim m [ ]
each f g (y ∷ l) e x (Memᴰ.head p) = cc
each f g (y ∷ l) e x (Memᴰ.tail i) = each f g l (cc) x i

pub each_row : (r : Row) → Memᴰ r rows → made r ≡ said r
each_row = each made said rows rows_hold
