-- `exchange::public_key` meets its contract. Assumes nothing.
use mathlib.Core.Path.{◌∙◌}
use Rattle.protocol.proofs.Follows.{wrong, awaited, awaited_size, read_x}
use Rattle.exchange.proofs.public_key.Goals as goal

pub returns-in-Ok : goal.returns-in-Ok
returns-in-Ok c =
    let verdict = c.public_key.ensures in
    let told = c.in-Ok.is in
    awaited _ verdict told (rw (← (c.peer_x.ensures ∙ read_x c.args.payload.now (awaited_size _ _ _ _ verdict told))) (c.keyed.ensures _))

pub returns-in-Err : goal.returns-in-Err
returns-in-Err c = wrong _ c.public_key.ensures c.in-Err.is c.failed.ensures
