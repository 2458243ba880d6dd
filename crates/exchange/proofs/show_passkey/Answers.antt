-- `exchange::show_passkey` meets its contract. Assumes nothing.
use Rattle.exchange.proofs.show_passkey.Goals as goal

pub returns : goal.returns
returns c = rw (← c.with_passkey.ensures) c.send_key.ensures
