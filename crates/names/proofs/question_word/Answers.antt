-- `names::question_word` meets its contract: the octets of each arm are those of its word. Assumes nothing.
use Rattle.names.specs.Names.{octets, padded}
use Rattle.names.proofs.question_word.Goals as goal

pub returns-in-None : goal.returns-in-None
unfolding octets padded
returns-in-None c = rw c.in-None.is

pub returns-in-Some-DH : goal.returns-in-Some-DH
unfolding octets padded
returns-in-Some-DH c = rw (c.in-Some-DH.is, rw c.in-Some-DH.is at c.in-Some-DH.field-0-is)

pub returns-in-Some-OwnConfirm : goal.returns-in-Some-OwnConfirm
unfolding octets padded
returns-in-Some-OwnConfirm c = rw (c.in-Some-OwnConfirm.is, rw c.in-Some-OwnConfirm.is at c.in-Some-OwnConfirm.field-0-is)

pub returns-in-Some-PeerConfirm : goal.returns-in-Some-PeerConfirm
unfolding octets padded
returns-in-Some-PeerConfirm c = rw (c.in-Some-PeerConfirm.is, rw c.in-Some-PeerConfirm.is at c.in-Some-PeerConfirm.field-0-is)

pub returns-in-Some-G2 : goal.returns-in-Some-G2
unfolding octets padded
returns-in-Some-G2 c = rw (c.in-Some-G2.is, rw c.in-Some-G2.is at c.in-Some-G2.field-0-is)

pub returns-in-Some-F5 : goal.returns-in-Some-F5
unfolding octets padded
returns-in-Some-F5 c = rw (c.in-Some-F5.is, rw c.in-Some-F5.is at c.in-Some-F5.field-0-is)

pub returns-in-Some-PeerCheck : goal.returns-in-Some-PeerCheck
unfolding octets padded
returns-in-Some-PeerCheck c = rw (c.in-Some-PeerCheck.is, rw c.in-Some-PeerCheck.is at c.in-Some-PeerCheck.field-0-is)

pub returns-in-Some-OwnCheck : goal.returns-in-Some-OwnCheck
unfolding octets padded
returns-in-Some-OwnCheck c = rw (c.in-Some-OwnCheck.is, rw c.in-Some-OwnCheck.is at c.in-Some-OwnCheck.field-0-is)
