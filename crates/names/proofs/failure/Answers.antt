-- `names::failure` meets its contract: the octets of each arm are those of its word. Assumes nothing.
use Rattle.names.specs.Names.{octets, padded}
use Rattle.names.proofs.failure.Goals as goal

pub returns-in-InvalidState : goal.returns-in-InvalidState
unfolding octets padded
returns-in-InvalidState c = rw c.in-InvalidState.is

pub returns-in-InvalidValue : goal.returns-in-InvalidValue
unfolding octets padded
returns-in-InvalidValue c = rw c.in-InvalidValue.is

pub returns-in-Timeout : goal.returns-in-Timeout
unfolding octets padded
returns-in-Timeout c = rw c.in-Timeout.is

pub returns-in-PasskeyEntryFailed : goal.returns-in-PasskeyEntryFailed
unfolding octets padded
returns-in-PasskeyEntryFailed c = rw c.in-PasskeyEntryFailed.is

pub returns-in-AuthenticationRequirements : goal.returns-in-AuthenticationRequirements
unfolding octets padded
returns-in-AuthenticationRequirements c = rw c.in-AuthenticationRequirements.is

pub returns-in-ConfirmValueFailed : goal.returns-in-ConfirmValueFailed
unfolding octets padded
returns-in-ConfirmValueFailed c = rw c.in-ConfirmValueFailed.is

pub returns-in-EncryptionKeySize : goal.returns-in-EncryptionKeySize
unfolding octets padded
returns-in-EncryptionKeySize c = rw c.in-EncryptionKeySize.is

pub returns-in-InvalidParameters : goal.returns-in-InvalidParameters
unfolding octets padded
returns-in-InvalidParameters c = rw c.in-InvalidParameters.is

pub returns-in-DHKeyCheckFailed : goal.returns-in-DHKeyCheckFailed
unfolding octets padded
returns-in-DHKeyCheckFailed c = rw c.in-DHKeyCheckFailed.is

pub returns-in-NumericComparisonFailed : goal.returns-in-NumericComparisonFailed
unfolding octets padded
returns-in-NumericComparisonFailed c = rw c.in-NumericComparisonFailed.is

pub returns-in-KeyRejected : goal.returns-in-KeyRejected
unfolding octets padded
returns-in-KeyRejected c = rw c.in-KeyRejected.is
