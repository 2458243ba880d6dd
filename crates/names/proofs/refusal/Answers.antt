-- `names::refusal` meets its contract: the octets of each arm are those of its word. Assumes nothing.
use Rattle.names.specs.Names.{octets, padded}
use Rattle.names.proofs.refusal.Goals as goal

pub returns-in-Finished : goal.returns-in-Finished
unfolding octets padded
returns-in-Finished c = rw c.in-Finished.is

pub returns-in-OutboxShort : goal.returns-in-OutboxShort
unfolding octets padded
returns-in-OutboxShort c = rw c.in-OutboxShort.is

pub returns-in-PasskeyRange : goal.returns-in-PasskeyRange
unfolding octets padded
returns-in-PasskeyRange c = rw c.in-PasskeyRange.is
