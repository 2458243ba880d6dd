-- `names::state` meets its contract: the octets of each arm are those of its word. Assumes nothing.
use Rattle.names.specs.Names.{octets, padded}
use Rattle.names.proofs.state.Goals as goal

pub returns-in-WaitingPairingRequest : goal.returns-in-WaitingPairingRequest
unfolding octets padded
returns-in-WaitingPairingRequest c = rw c.in-WaitingPairingRequest.is

pub returns-in-WaitingPublicKey : goal.returns-in-WaitingPublicKey
unfolding octets padded
returns-in-WaitingPublicKey c = rw c.in-WaitingPublicKey.is

pub returns-in-WaitingNumericComparisonRandom : goal.returns-in-WaitingNumericComparisonRandom
unfolding octets padded
returns-in-WaitingNumericComparisonRandom c = rw c.in-WaitingNumericComparisonRandom.is

pub returns-in-WaitingNumericComparisonResult : goal.returns-in-WaitingNumericComparisonResult
unfolding octets padded
returns-in-WaitingNumericComparisonResult c = rw c.in-WaitingNumericComparisonResult.is

pub returns-in-WaitingPassKeyInput : goal.returns-in-WaitingPassKeyInput
unfolding octets padded
returns-in-WaitingPassKeyInput c = rw c.in-WaitingPassKeyInput.is

pub returns-in-WaitingPassKeyEntryConfirm : goal.returns-in-WaitingPassKeyEntryConfirm
unfolding octets padded
returns-in-WaitingPassKeyEntryConfirm c = rw c.in-WaitingPassKeyEntryConfirm.is

pub returns-in-WaitingPassKeyEntryRandom : goal.returns-in-WaitingPassKeyEntryRandom
unfolding octets padded
returns-in-WaitingPassKeyEntryRandom c = rw c.in-WaitingPassKeyEntryRandom.is

pub returns-in-WaitingOobData : goal.returns-in-WaitingOobData
unfolding octets padded
returns-in-WaitingOobData c = rw c.in-WaitingOobData.is

pub returns-in-WaitingOobRandom : goal.returns-in-WaitingOobRandom
unfolding octets padded
returns-in-WaitingOobRandom c = rw c.in-WaitingOobRandom.is

pub returns-in-WaitingDHKeyEa : goal.returns-in-WaitingDHKeyEa
unfolding octets padded
returns-in-WaitingDHKeyEa c = rw c.in-WaitingDHKeyEa.is

pub returns-in-WaitingLinkEncrypted : goal.returns-in-WaitingLinkEncrypted
unfolding octets padded
returns-in-WaitingLinkEncrypted c = rw c.in-WaitingLinkEncrypted.is

pub returns-in-WaitingIdentitityInformation : goal.returns-in-WaitingIdentitityInformation
unfolding octets padded
returns-in-WaitingIdentitityInformation c = rw c.in-WaitingIdentitityInformation.is

pub returns-in-WaitingIdentitityAddressInformation : goal.returns-in-WaitingIdentitityAddressInformation
unfolding octets padded
returns-in-WaitingIdentitityAddressInformation c = rw c.in-WaitingIdentitityAddressInformation.is

pub returns-in-Success : goal.returns-in-Success
unfolding octets padded
returns-in-Success c = rw c.in-Success.is

pub returns-in-Error : goal.returns-in-Error
unfolding octets padded
returns-in-Error c = rw c.in-Error.is
