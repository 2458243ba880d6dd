-- What the last arm of a match takes: a phase in which the link isn't encrypted, or the pairing hasn't ended. Assumes nothing.
-- `encrypted_in` and `result_of` are proved without them; they stand so that a case added to `Phase` is asked for here.
use Rattle.protocol.specs.declared.Failure.{Failure}
use mathlib.Core.Path.{◌≡◌, refl}
use mathlib.Core.Bool.{false}
use Rattle.machine.specs.declared.Phase.{Phase}
use Rattle.machine.specs.declared.Phase.TheVariants as P
use Rattle.machine.specs.Level.{encrypted}
use Rattle.queries.specs.declared.PairingResult.TheVariants as R
use Rattle.queries.specs.Result.{result_of}

pub plain_other : (p : Phase) → (p ≡ P.WaitingIdentitityInformation → ⊥) → (p ≡ P.WaitingIdentitityAddressInformation → ⊥) → (p ≡ P.Success → ⊥) → encrypted p ≡ false
plain_other P.WaitingPairingRequest n1 n2 n3 = refl
plain_other P.WaitingPublicKey n1 n2 n3 = refl
plain_other P.WaitingNumericComparisonRandom n1 n2 n3 = refl
plain_other (P.WaitingNumericComparisonResult held) n1 n2 n3 = refl
plain_other (P.WaitingPassKeyInput held) n1 n2 n3 = refl
plain_other (P.WaitingPassKeyEntryConfirm round) n1 n2 n3 = refl
plain_other (P.WaitingPassKeyEntryRandom round) n1 n2 n3 = refl
plain_other P.WaitingOobData n1 n2 n3 = refl
plain_other P.WaitingOobRandom n1 n2 n3 = refl
plain_other P.WaitingDHKeyEa n1 n2 n3 = refl
plain_other P.WaitingLinkEncrypted n1 n2 n3 = refl
plain_other P.WaitingIdentitityInformation n1 n2 n3 = absurd (n1 refl)
plain_other P.WaitingIdentitityAddressInformation n1 n2 n3 = absurd (n2 refl)
plain_other P.Success n1 n2 n3 = absurd (n3 refl)
plain_other (P.Error f) n1 n2 n3 = refl

pub waiting_other : (p : Phase) → (p ≡ P.Success → ⊥) → ((f : Failure) → p ≡ P.Error f → ⊥) → result_of p ≡ R.Running
waiting_other P.WaitingPairingRequest n1 n2 = refl
waiting_other P.WaitingPublicKey n1 n2 = refl
waiting_other P.WaitingNumericComparisonRandom n1 n2 = refl
waiting_other (P.WaitingNumericComparisonResult held) n1 n2 = refl
waiting_other (P.WaitingPassKeyInput held) n1 n2 = refl
waiting_other (P.WaitingPassKeyEntryConfirm round) n1 n2 = refl
waiting_other (P.WaitingPassKeyEntryRandom round) n1 n2 = refl
waiting_other P.WaitingOobData n1 n2 = refl
waiting_other P.WaitingOobRandom n1 n2 = refl
waiting_other P.WaitingDHKeyEa n1 n2 = refl
waiting_other P.WaitingLinkEncrypted n1 n2 = refl
waiting_other P.WaitingIdentitityInformation n1 n2 = refl
waiting_other P.WaitingIdentitityAddressInformation n1 n2 = refl
waiting_other P.Success n1 n2 = absurd (n1 refl)
waiting_other (P.Error f) n1 n2 = absurd (n2 f refl)
