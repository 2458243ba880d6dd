-- Laws of yes-or-no bytes. Assumes nothing.
use mathlib.Core.Path.{◌≡◌, refl}
use mathlib.Core.Bool.{Bool, true, false}
use Prim.Native.Nat.{ℕ, zero, suc, ◌≤◌}
use native.Mathlib.Omega.{arith}
use lib.Dec.{eqb}
use Rattle.std.specs.Int.{from_bool}
use Rattle.fields.specs.Fields.{flag_number}

-- as `u8::from` gives it
pub flag_byte : (b : Bool) → from_bool b ≡ flag_number b
flag_byte true = refl
flag_byte false = refl

pub flag_back : (b : Bool) → eqb (flag_number b) 1 ≡ b
flag_back true = refl
flag_back false = refl

pub flag_small : (b : Bool) → flag_number b ≤ 1
flag_small true = omega arith
flag_small false = omega arith

pub flag_number_lem : (n : ℕ) → n ≤ 1 → flag_number (eqb n 1) ≡ n
flag_number_lem zero h = refl
flag_number_lem (suc zero) h = refl
flag_number_lem (suc (suc n)) h = absurd (omega arith)
