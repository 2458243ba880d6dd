-- A timeout finishes the machine, and only an encrypted link has a level. Assumes nothing.
use Rattle.std.specs.Option.{option_map_or}
use mathlib.Core.Path.{◌≡◌, refl}
use mathlib.Core.List.{[], ◌∷◌, map}
use mathlib.Core.Bool.{true, false}
use lib.ListN.{replicate}
use Rattle.method.specs.declared.SecurityLevel.TheVariants.{NoEncryption}
use Rattle.protocol.specs.Role.{timed_out}
use Rattle.protocol.specs.declared.Failure.TheVariants as F
use Rattle.protocol.proofs.Ends.{timeout_ends, timeout_finished, timeout_twice}
use Rattle.machine.specs.declared.Phase.{Phase}
use Rattle.machine.specs.declared.Phase.TheVariants as P
use Rattle.machine.specs.declared.State.{State}
use Rattle.machine.specs.State.{at, finished_phase}
use Rattle.machine.specs.Responder.{responder}
use Rattle.machine.specs.Level.{security_level}

-- Marking a timeout: the machine is finished then, and a second mark changes nothing. (The rest is as in any role)

pub timed_out_finished : (m : State) → finished_phase (timed_out responder m).phase ≡ true
timed_out_finished m = timeout_finished responder m refl

-- Error 18, and nothing else of the state changes
pub timed_out_error : (m : State) → finished_phase m.phase ≡ false → timed_out responder m ≡ at m (P.Error F.Timeout)
timed_out_error m u = timeout_ends responder m u

pub timed_out_twice : (m : State) → timed_out responder (timed_out responder m) ≡ timed_out responder m
timed_out_twice m = timeout_twice responder m refl

-- The level

unencrypted : (m : State) (p : Phase) → (p ≡ P.WaitingIdentitityInformation → ⊥) → (p ≡ P.WaitingIdentitityAddressInformation → ⊥) → (p ≡ P.Success → ⊥)
    → security_level (at m p) ≡ NoEncryption
unfolding security_level
unencrypted m P.WaitingPairingRequest i a s = refl
unencrypted m P.WaitingPublicKey i a s = refl
unencrypted m P.WaitingNumericComparisonRandom i a s = refl
unencrypted m (P.WaitingNumericComparisonResult held) i a s = refl
unencrypted m (P.WaitingPassKeyInput held) i a s = refl
unencrypted m (P.WaitingPassKeyEntryConfirm round) i a s = refl
unencrypted m (P.WaitingPassKeyEntryRandom round) i a s = refl
unencrypted m P.WaitingOobData i a s = refl
unencrypted m P.WaitingOobRandom i a s = refl
unencrypted m P.WaitingDHKeyEa i a s = refl
unencrypted m P.WaitingLinkEncrypted i a s = refl
unencrypted m P.WaitingIdentitityInformation i a s = absurd (i refl)
unencrypted m P.WaitingIdentitityAddressInformation i a s = absurd (a refl)
unencrypted m P.Success i a s = absurd (s refl)
unencrypted m (P.Error f) i a s = refl

-- no level in any phase but the two identity phases and Success
pub no_level : (m : State) → (m.phase ≡ P.WaitingIdentitityInformation → ⊥) → (m.phase ≡ P.WaitingIdentitityAddressInformation → ⊥)
    → (m.phase ≡ P.Success → ⊥) → security_level m ≡ NoEncryption
no_level m = unencrypted m m.phase

-- in those three, the bond's, if there is one
pub bond_level : (m : State) → map (λ p. security_level (at m p)) (P.WaitingIdentitityInformation ∷ P.WaitingIdentitityAddressInformation ∷ P.Success ∷ [])
    ≡ replicate 3 (option_map_or (λ b. b.level) m.bond NoEncryption)
unfolding security_level
bond_level m = refl
