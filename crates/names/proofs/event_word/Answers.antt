-- `names::event_word` meets its contract: the octets of each arm are those of its word. Assumes nothing.
use Rattle.names.specs.Names.{octets, padded}
use Rattle.names.proofs.event_word.Goals as goal

pub returns-in-None : goal.returns-in-None
unfolding octets padded
returns-in-None c = rw c.in-None.is

pub returns-in-Some-BondLost : goal.returns-in-Some-BondLost
unfolding octets padded
returns-in-Some-BondLost c = rw (c.in-Some-BondLost.is, rw c.in-Some-BondLost.is at c.in-Some-BondLost.field-0-is)

pub returns-in-Some-OobRequest : goal.returns-in-Some-OobRequest
unfolding octets padded
returns-in-Some-OobRequest c = rw (c.in-Some-OobRequest.is, rw c.in-Some-OobRequest.is at c.in-Some-OobRequest.field-0-is)

pub returns-in-Some-PassKeyDisplay : goal.returns-in-Some-PassKeyDisplay
unfolding octets padded
returns-in-Some-PassKeyDisplay c = rw (c.in-Some-PassKeyDisplay.is, rw c.in-Some-PassKeyDisplay.is at c.in-Some-PassKeyDisplay.field-0-is)

pub returns-in-Some-PassKeyInput : goal.returns-in-Some-PassKeyInput
unfolding octets padded
returns-in-Some-PassKeyInput c = rw (c.in-Some-PassKeyInput.is, rw c.in-Some-PassKeyInput.is at c.in-Some-PassKeyInput.field-0-is)

pub returns-in-Some-PassKeyConfirm : goal.returns-in-Some-PassKeyConfirm
unfolding octets padded
returns-in-Some-PassKeyConfirm c = rw (c.in-Some-PassKeyConfirm.is, rw c.in-Some-PassKeyConfirm.is at c.in-Some-PassKeyConfirm.field-0-is)

pub returns-in-Some-PairingComplete : goal.returns-in-Some-PairingComplete
unfolding octets padded
returns-in-Some-PairingComplete c = rw (c.in-Some-PairingComplete.is, rw c.in-Some-PairingComplete.is at c.in-Some-PairingComplete.field-0-is)

pub returns-in-Some-PairingFailed : goal.returns-in-Some-PairingFailed
unfolding octets padded
returns-in-Some-PairingFailed c = rw (c.in-Some-PairingFailed.is, rw c.in-Some-PairingFailed.is at c.in-Some-PairingFailed.field-0-is)
