-- Passkey entry: the rounds, their bits, and the passkey as a secret.
use Rattle.std.specs.Prelude.{ℕ, ◌+◌, ◌/◌, ◌%◌, ◌^◌, List, [], ◌∷◌, ◌++◌, Option, Some, None, Bool, cond, replicate, ltb, leb}

-- bit r of a number
abbrev pub bit : ℕ → ℕ → ℕ
bit n r = n / 2 ^ r % 2

-- Part H 2.3.5.6.3, 2.2.6: z of round r, 0x80 plus bit r of the passkey
abbrev pub z_of : ℕ → ℕ → ℕ
z_of passkey r = 128 + bit passkey r

-- Part H 2.3.5.6.3: the round after r. There are twenty, 0 to 19, and then comes authentication stage 2
abbrev pub after_of : ℕ → Option ℕ
after_of r = cond (ltb r 19) (Some (r + 1)) None

-- Part H 2.3.5.6.3: a passkey is a number of six decimal digits
abbrev pub in_range : ℕ → Bool
in_range passkey = leb passkey 999999

-- Part H 2.3.5.6.5: our secret and the peer's in the check are the passkey, a number of 128 bits
abbrev pub secret_of : ℕ → List ℕ
secret_of passkey = replicate 12 0 ++ (passkey / 2 ^ 24 ∷ passkey / 2 ^ 16 % 256 ∷ passkey / 2 ^ 8 % 256 ∷ passkey % 256 ∷ [])
