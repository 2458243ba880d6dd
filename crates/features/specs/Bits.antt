-- The bits of AuthReq and of the key distribution octets.
use Rattle.std.specs.Prelude.{ℕ, ◌+◌, ◌/◌, ◌%◌, Bool, cond, eqb}

-- Part H 3.5.1: Bonding_Flags, bits 0 and 1 of AuthReq; 01 is bonding, 10 and 11 are reserved
abbrev pub bonding_bits : ℕ → Bool
bonding_bits a = eqb (a % 4) 1

-- Part H 3.5.1: MITM, bit 2 of AuthReq
abbrev pub mitm_bit : ℕ → Bool
mitm_bit a = eqb (a / 4 % 2) 1

-- Part H 3.5.1: SC, bit 3 of AuthReq
abbrev pub secure_connections_bit : ℕ → Bool
secure_connections_bit a = eqb (a / 8 % 2) 1

-- Part H 3.6.1: IdKey, bit 1 of a key distribution octet
abbrev pub identity_bit : ℕ → Bool
identity_bit k = eqb (k / 2 % 2) 1

-- our AuthReq: SC, and the bits that are asked
abbrev pub our_auth_req : Bool → Bool → ℕ
our_auth_req bonding mitm = 8 + cond bonding 1 0 + cond mitm 4 0
