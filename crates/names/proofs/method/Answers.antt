-- `names::method` meets its contract: the octets of each arm are those of its word. Assumes nothing.
use Rattle.names.specs.Names.{octets, padded}
use Rattle.names.proofs.method.Goals as goal

pub returns-in-JustWorks : goal.returns-in-JustWorks
unfolding octets padded
returns-in-JustWorks c = rw c.in-JustWorks.is

pub returns-in-NumericComparison : goal.returns-in-NumericComparison
unfolding octets padded
returns-in-NumericComparison c = rw c.in-NumericComparison.is

pub returns-in-PassKeyEntry : goal.returns-in-PassKeyEntry
unfolding octets padded
returns-in-PassKeyEntry c = rw c.in-PassKeyEntry.is c.passkey_entry.ensures

pub returns-in-OutOfBand : goal.returns-in-OutOfBand
unfolding octets padded
returns-in-OutOfBand c = rw c.in-OutOfBand.is
