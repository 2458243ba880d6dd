-- `names::passkey_entry` meets its contract: the octets of each arm are those of its word. Assumes nothing.
use Rattle.names.specs.Names.{octets, padded}
use Rattle.names.proofs.passkey_entry.Goals as goal

pub returns-in-Display-Display : goal.returns-in-Display-Display
unfolding octets padded
returns-in-Display-Display c = rw (c.in-Display-Display.is-0, c.in-Display-Display.is-1)

pub returns-in-Display-Input : goal.returns-in-Display-Input
unfolding octets padded
returns-in-Display-Input c = rw (c.in-Display-Input.is-0, c.in-Display-Input.is-1)

pub returns-in-Input-Display : goal.returns-in-Input-Display
unfolding octets padded
returns-in-Input-Display c = rw (c.in-Input-Display.is-0, c.in-Input-Display.is-1)

pub returns-in-Input-Input : goal.returns-in-Input-Input
unfolding octets padded
returns-in-Input-Input c = rw (c.in-Input-Input.is-0, c.in-Input-Input.is-1)
