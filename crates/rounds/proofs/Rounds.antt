-- Laws on rounds and bits, for both roles: what z can be, which round follows, and that twenty rounds tell any two passkeys apart.
-- Assumes nothing.
use mathlib.Core.Path.{◌≡◌, sym, ◌∙◌}
use mathlib.Core.Bool.{true}
use Prim.Native.Nat.{ℕ, zero, suc, ◌+◌, ◌/◌, ◌%◌, ◌^◌, ◌<◌, ◌≤◌}
use native.Mathlib.Omega.{arith}
use native.Mathlib.Nat.{mod-lt, div-eq_of_lt, zero-mod, lt_of_lt_of_le, pow-le-pow_right, pow-suc, pow-succ', div-one, div-div-eq-div-mul, div-lt_iff_lt-mul, div-add-mod'}
use borrow.Author.Tests.{lt-ltb, le-ltb, leb-true}
use Rattle.std.specs.Prelude.{Some, None}
use Rattle.rounds.specs.Rounds.{bit, z_of, after_of, in_range}

pub bit_below : (n r : ℕ) → bit n r < 2
bit_below n r = mod-lt (n / 2 ^ r) (omega arith)

-- a number below 2 ^ k has no bit from k on
pub bit_high : (n k r : ℕ) → n < 2 ^ k → k ≤ r → bit n r ≡ 0
bit_high n k r h g =
    let b : 2 ^ k ≤ 2 ^ r = pow-le-pow_right (omega arith) g in
    let e : n / 2 ^ r ≡ 0 = div-eq_of_lt (lt_of_lt_of_le h b) in
    rw e (zero-mod 2)

pub z_high : (passkey r : ℕ) → passkey < 2 ^ 32 → 32 ≤ r → 128 ≡ z_of passkey r
z_high passkey r h g = omega (arith, bit_high passkey 32 r h g)

-- z is 0x80 or 0x81
pub z_low : (passkey r : ℕ) → 128 ≤ z_of passkey r
z_low passkey r = omega arith

pub z_top : (passkey r : ℕ) → z_of passkey r ≤ 129
z_top passkey r = omega (arith, bit_below passkey r)

-- which round follows
pub after_round : (r : ℕ) → r < 19 → after_of r ≡ Some (r + 1)
after_round r h = rw (lt-ltb r 19 h)

pub after_last : (r : ℕ) → 19 ≤ r → after_of r ≡ None
after_last r h = rw (le-ltb r 19 h)

-- bit r + 1 of a number is bit r of its half
bit_half : (n r : ℕ) → bit (n / 2) r ≡ bit n (suc r)
bit_half n r = rw (div-div-eq-div-mul n 2 (2 ^ r), ← pow-succ' 2 r)

half_below : (n k : ℕ) → n < 2 ^ suc k → n / 2 < 2 ^ k
half_below n k h = (div-lt_iff_lt-mul {k = 2} {x = n} {y = 2 ^ k} (omega arith)).1 (rw (pow-suc 2 k) at h)

-- two numbers below 2 ^ k with the same k bits are one
pub bits_decide : (k n m : ℕ) → n < 2 ^ k → m < 2 ^ k → ((r : ℕ) → r < k → bit n r ≡ bit m r) → n ≡ m
bits_decide zero n m hn hm same = omega arith
bits_decide (suc k) n m hn hm same =
    let half : n / 2 ≡ m / 2 = bits_decide k (n / 2) (m / 2) (half_below n k hn) (half_below m k hm)
    (λ r h. bit_half n r ∙ same (suc r) (omega arith) ∙ sym (bit_half m r)) in
    let low : n / 1 % 2 ≡ m / 1 % 2 = same 0 (omega arith) in
    let low' : n % 2 ≡ m % 2 = rw (div-one n, div-one m) at low in
    omega (arith, div-add-mod' n 2, div-add-mod' m 2)

pub range_below : (passkey : ℕ) → in_range passkey ≡ true → passkey < 2 ^ 20
range_below passkey h = omega (arith, leb-true passkey 999999 h)

-- Twenty rounds are enough: two passkeys with the same z in rounds 0 to 19 are one passkey
pub twenty_rounds : (p q : ℕ) → in_range p ≡ true → in_range q ≡ true → ((r : ℕ) → r < 20 → z_of p r ≡ z_of q r) → p ≡ q
twenty_rounds p q hp hq same =
    bits_decide 20 p q (range_below p hp) (range_below q hq) (λ r h. omega (arith, same r h))
