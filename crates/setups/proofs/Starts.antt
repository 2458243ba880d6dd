-- What a number's reading gives where a default stands in for an unknown number. Assumes nothing.
use mathlib.Core.Path.{◌≡◌, refl}
use Prim.Native.Nat.{ℕ, zero, suc}
use native.Mathlib.Omega.{arith}
use borrow.Author.Tests.{ne_eqb, lt-leb}
use Rattle.std.specs.Result.{result_unwrap_or}
use Rattle.setups.specs.declared.StartKind.TheVariants.{NotByUser}
use Rattle.address.specs.Identity.{kind_from}
use Rattle.address.specs.declared.AddressKind.TheVariants.{Random}
use Rattle.method.specs.Method.{numbered_level}
use Rattle.method.specs.declared.SecurityLevel.TheVariants.{EncryptedAuthenticated}
use Rattle.setups.specs.Setup.{kind_of, start_of, numbered_start, level_of}

pub start_told : (n : ℕ) → result_unwrap_or (numbered_start n) NotByUser ≡ start_of n
start_told zero = refl
start_told (suc zero) = refl
start_told (suc (suc zero)) = refl
start_told (suc (suc (suc n))) =
    let k = suc (suc (suc n)) in
    rw (ne_eqb k 0 (λ e. omega arith), ne_eqb k 1 (λ e. omega arith), lt-leb k 2 (omega arith))

pub kind_told : (n : ℕ) → result_unwrap_or (kind_from n) Random ≡ kind_of n
kind_told zero = refl
kind_told (suc zero) = refl
kind_told (suc (suc n)) =
    let k = suc (suc n) in
    rw (ne_eqb k 0 (λ e. omega arith), ne_eqb k 1 (λ e. omega arith))

pub level_told : (n : ℕ) → result_unwrap_or (numbered_level n) EncryptedAuthenticated ≡ level_of n
level_told zero = refl
level_told (suc zero) = refl
level_told (suc (suc zero)) = refl
level_told (suc (suc (suc n))) =
    let k = suc (suc (suc n)) in
    rw (ne_eqb k 0 (λ e. omega arith), ne_eqb k 1 (λ e. omega arith), ne_eqb k 2 (λ e. omega arith))
