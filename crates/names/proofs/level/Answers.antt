-- `names::level` meets its contract: the octets of each arm are those of its word. Assumes nothing.
use Rattle.names.specs.Names.{octets, padded}
use Rattle.names.proofs.level.Goals as goal

pub returns-in-NoEncryption : goal.returns-in-NoEncryption
unfolding octets padded
returns-in-NoEncryption c = rw c.in-NoEncryption.is

pub returns-in-Encrypted : goal.returns-in-Encrypted
unfolding octets padded
returns-in-Encrypted c = rw c.in-Encrypted.is

pub returns-in-EncryptedAuthenticated : goal.returns-in-EncryptedAuthenticated
unfolding octets padded
returns-in-EncryptedAuthenticated c = rw c.in-EncryptedAuthenticated.is
