-- How a pairing ended.
use Rattle.machine.specs.declared.Phase.{Phase}
use Rattle.machine.specs.declared.Phase.TheVariants as P
use Rattle.queries.specs.declared.PairingResult.{PairingResult}
use Rattle.queries.specs.declared.PairingResult.TheVariants as R

-- how a pairing ended, if it has
abbrev pub result_of : Phase → PairingResult
result_of P.WaitingPairingRequest = R.Running
result_of P.WaitingPublicKey = R.Running
result_of P.WaitingNumericComparisonRandom = R.Running
result_of (P.WaitingNumericComparisonResult held) = R.Running
result_of (P.WaitingPassKeyInput held) = R.Running
result_of (P.WaitingPassKeyEntryConfirm round) = R.Running
result_of (P.WaitingPassKeyEntryRandom round) = R.Running
result_of P.WaitingOobData = R.Running
result_of P.WaitingOobRandom = R.Running
result_of P.WaitingDHKeyEa = R.Running
result_of P.WaitingLinkEncrypted = R.Running
result_of P.WaitingIdentitityInformation = R.Running
result_of P.WaitingIdentitityAddressInformation = R.Running
result_of P.Success = R.Succeeded
result_of (P.Error f) = R.Failed f
