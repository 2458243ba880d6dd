-- `names::question` meets its contract: the octets of each arm are those of its word. Assumes nothing.
use Rattle.names.specs.Names.{octets}
use Rattle.names.proofs.question.Goals as goal

pub returns-in-DH : goal.returns-in-DH
unfolding octets
returns-in-DH c = rw c.in-DH.is

pub returns-in-OwnConfirm : goal.returns-in-OwnConfirm
unfolding octets
returns-in-OwnConfirm c = rw c.in-OwnConfirm.is

pub returns-in-PeerConfirm : goal.returns-in-PeerConfirm
unfolding octets
returns-in-PeerConfirm c = rw c.in-PeerConfirm.is

pub returns-in-G2 : goal.returns-in-G2
unfolding octets
returns-in-G2 c = rw c.in-G2.is

pub returns-in-F5 : goal.returns-in-F5
unfolding octets
returns-in-F5 c = rw c.in-F5.is

pub returns-in-PeerCheck : goal.returns-in-PeerCheck
unfolding octets
returns-in-PeerCheck c = rw c.in-PeerCheck.is

pub returns-in-OwnCheck : goal.returns-in-OwnCheck
unfolding octets
returns-in-OwnCheck c = rw c.in-OwnCheck.is
