-- What the last arm of a match takes: a phase that waits isn't finished. Assumes nothing.
-- `finished` is proved without it; it stands so that a case added to `Phase` is asked for here.
use Rattle.protocol.specs.declared.Failure.{Failure}
use mathlib.Core.Path.{◌≡◌, refl}
use mathlib.Core.Bool.{false}
use Rattle.machine.specs.declared.Phase.{Phase}
use Rattle.machine.specs.declared.Phase.TheVariants as P
use Rattle.machine.specs.State.{finished_phase}

pub waiting_other : (p : Phase) → (p ≡ P.Success → ⊥) → ((f : Failure) → p ≡ P.Error f → ⊥) → finished_phase p ≡ false
waiting_other P.WaitingPairingRequest n1 n2 = refl
waiting_other P.WaitingPublicKey n1 n2 = refl
waiting_other P.WaitingNumericComparisonRandom n1 n2 = refl
waiting_other (P.WaitingNumericComparisonResult held) n1 n2 = refl
waiting_other (P.WaitingPassKeyInput held) n1 n2 = refl
waiting_other (P.WaitingPassKeyEntryConfirm round) n1 n2 = refl
waiting_other (P.WaitingPassKeyEntryRandom round) n1 n2 = refl
waiting_other P.WaitingOobData n1 n2 = refl
waiting_other P.WaitingOobRandom n1 n2 = refl
waiting_other P.WaitingDHKeyEa n1 n2 = refl
waiting_other P.WaitingLinkEncrypted n1 n2 = refl
waiting_other P.WaitingIdentitityInformation n1 n2 = refl
waiting_other P.WaitingIdentitityAddressInformation n1 n2 = refl
waiting_other P.Success n1 n2 = absurd (n1 refl)
waiting_other (P.Error f) n1 n2 = absurd (n2 f refl)
