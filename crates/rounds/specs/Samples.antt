-- The sample passkeys of the scope: P7 and P8, z of every round.
use Rattle.std.specs.Prelude.{ℕ, List, [], ◌∷◌, map}
use Rattle.rounds.specs.Rounds.{z_of}

-- the twenty rounds
abbrev pub twenty : List ℕ
twenty = 0 ∷ 1 ∷ 2 ∷ 3 ∷ 4 ∷ 5 ∷ 6 ∷ 7 ∷ 8 ∷ 9 ∷ 10 ∷ 11 ∷ 12 ∷ 13 ∷ 14 ∷ 15 ∷ 16 ∷ 17 ∷ 18 ∷ 19 ∷ []

pub record Sample : Type 0 where
  pub passkey : ℕ
  pub zs : List ℕ

abbrev sample : ℕ → List ℕ → Sample
sample p l = record { passkey = p; zs = l }

-- z by the rule
abbrev pub made : Sample → List ℕ
made s = map (z_of s.passkey) twenty

unfoldable pub samples : List Sample
samples =
    -- P7, passkey 5: 81 in rounds 0 and 2, else 80
    sample 5 (0x81 ∷ 0x80 ∷ 0x81 ∷ 0x80 ∷ 0x80 ∷ 0x80 ∷ 0x80 ∷ 0x80 ∷ 0x80 ∷ 0x80 ∷ 0x80 ∷ 0x80 ∷ 0x80 ∷ 0x80 ∷ 0x80 ∷ 0x80 ∷ 0x80 ∷ 0x80 ∷ 0x80 ∷ 0x80 ∷ [])
    -- P8, passkey 999,999: 81 in rounds 0 to 5, 9, 14 and 16 to 19
    ∷ sample 999999 (0x81 ∷ 0x81 ∷ 0x81 ∷ 0x81 ∷ 0x81 ∷ 0x81 ∷ 0x80 ∷ 0x80 ∷ 0x80 ∷ 0x81 ∷ 0x80 ∷ 0x80 ∷ 0x80 ∷ 0x80 ∷ 0x81 ∷ 0x80 ∷ 0x81 ∷ 0x81 ∷ 0x81 ∷ 0x81 ∷ [])
    ∷ []
