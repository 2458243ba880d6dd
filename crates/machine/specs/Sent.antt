-- What a call may send: when a Pairing Random leaves.
use Rattle.std.specs.Prelude.{ℕ, ◌≡◌, List, [], ◌∷◌, Bool, true, not, ◌&&◌, eqb}
use Rattle.frames.specs.Packets.{Packet, code_of, random_code, pairing_random}
use Rattle.protocol.specs.Role.{Call}
use Rattle.machine.specs.declared.Phase.TheVariants as P
use Rattle.machine.specs.declared.State.{State}
use Rattle.machine.specs.Passed.{Value, Matching}

-- none of the packets is a Pairing Random
abbrev pub no_random : List Packet → Bool
no_random [] = true
no_random (p ∷ ps) = not (eqb (code_of p) random_code) && no_random ps

-- what a call of passkey entry sends: no Pairing Random; or our nonce alone, in a round whose confirm matches
pub data Discloses (m : State) (c : Call) : List Packet → Type 0 where
  hidden : {ps : List Packet} → no_random ps ≡ true → Discloses m c ps
  matched : {r : ℕ} {w : List ℕ} → m.phase ≡ P.WaitingPassKeyEntryRandom r → Matching m.secrets.confirm w c
      → Discloses m c (pairing_random m.secrets.ownnonce ∷ [])

-- what a call of any method sends
pub data Sends (m : State) (c : Call) : List Packet → Type 0 where
  passkey : {ps : List Packet} → Discloses m c ps → Sends m c ps
  comparison : {w : List ℕ} → m.phase ≡ P.WaitingNumericComparisonRandom → Value random_code w c → Sends m c (pairing_random m.secrets.ownnonce ∷ [])
  out_of_band : {w : List ℕ} → m.phase ≡ P.WaitingOobRandom → Value random_code w c → Sends m c (pairing_random c.supplied.nonce ∷ [])
