-- `keys::encrypted_event` meets its contract. Assumes nothing.
use Rattle.protocol.proofs.Follows.{failing}
use Rattle.keys.proofs.Other.{encrypted_other}
use Rattle.keys.proofs.encrypted_event.Goals as goal

pub returns-in_default : goal.returns-in_default
returns-in_default c = rw (encrypted_other _ _ c.in_default.not-LinkEncryptedResult) (λ a. failing c.failed.ensures)
