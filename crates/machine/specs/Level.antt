-- The security level of the link.
use Rattle.std.specs.Prelude.{Bool, true, false, cond}
use Rattle.std.specs.Option.{option_map_or}
use Rattle.method.specs.declared.SecurityLevel.{SecurityLevel}
use Rattle.method.specs.declared.SecurityLevel.TheVariants.{NoEncryption}
use Rattle.machine.specs.declared.Phase.{Phase}
use Rattle.machine.specs.declared.Phase.TheVariants as P
use Rattle.machine.specs.declared.State.{State}

-- the link counts as encrypted in the two identity phases and in Success
abbrev pub encrypted : Phase → Bool
encrypted P.WaitingPairingRequest = false
encrypted P.WaitingPublicKey = false
encrypted P.WaitingNumericComparisonRandom = false
encrypted (P.WaitingNumericComparisonResult held) = false
encrypted (P.WaitingPassKeyInput held) = false
encrypted (P.WaitingPassKeyEntryConfirm round) = false
encrypted (P.WaitingPassKeyEntryRandom round) = false
encrypted P.WaitingOobData = false
encrypted P.WaitingOobRandom = false
encrypted P.WaitingDHKeyEa = false
encrypted P.WaitingLinkEncrypted = false
encrypted P.WaitingIdentitityInformation = true
encrypted P.WaitingIdentitityAddressInformation = true
encrypted P.Success = true
encrypted (P.Error f) = false

-- the bond's level where the link is encrypted and there is a bond
unfoldable pub security_level : State → SecurityLevel
security_level m = cond (encrypted m.phase) (option_map_or (λ b. b.level) m.bond NoEncryption) NoEncryption
