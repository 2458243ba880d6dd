-- `keys::identity_information` meets its contract. Assumes nothing.
use Rattle.protocol.proofs.Follows.{wrong, awaited, awaited_value}
use Rattle.keys.proofs.identity_information.Goals as goal

pub returns-in-Ok : goal.returns-in-Ok
returns-in-Ok c =
    λ a out. awaited _ c.value.ensures c.in-Ok.is (rw (← awaited_value _ _ _ c.value.ensures c.in-Ok.is) (c.keep_irk.ensures a out))

pub returns-in-Err : goal.returns-in-Err
returns-in-Err c = λ a out. wrong _ c.value.ensures c.in-Err.is c.failed.ensures
