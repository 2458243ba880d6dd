-- `names::event` meets its contract: the octets of each arm are those of its word. Assumes nothing.
use Rattle.names.specs.Names.{octets}
use Rattle.names.proofs.event.Goals as goal

pub returns-in-BondLost : goal.returns-in-BondLost
unfolding octets
returns-in-BondLost c = rw c.in-BondLost.is

pub returns-in-OobRequest : goal.returns-in-OobRequest
unfolding octets
returns-in-OobRequest c = rw c.in-OobRequest.is

pub returns-in-PassKeyDisplay : goal.returns-in-PassKeyDisplay
unfolding octets
returns-in-PassKeyDisplay c = rw c.in-PassKeyDisplay.is

pub returns-in-PassKeyInput : goal.returns-in-PassKeyInput
unfolding octets
returns-in-PassKeyInput c = rw c.in-PassKeyInput.is

pub returns-in-PassKeyConfirm : goal.returns-in-PassKeyConfirm
unfolding octets
returns-in-PassKeyConfirm c = rw c.in-PassKeyConfirm.is

pub returns-in-PairingComplete : goal.returns-in-PairingComplete
unfolding octets
returns-in-PairingComplete c = rw c.in-PairingComplete.is

pub returns-in-PairingFailed : goal.returns-in-PairingFailed
unfolding octets
returns-in-PairingFailed c = rw c.in-PairingFailed.is
