-- `numeric::comparison_random` meets its contract. Assumes nothing.
use Rattle.protocol.proofs.Follows.{wrong, awaited, awaited_value}
use Rattle.numeric.proofs.comparison_random.Goals as goal

pub returns-in-Ok : goal.returns-in-Ok
returns-in-Ok c = awaited _ c.random.ensures c.in-Ok.is (rw (← awaited_value _ _ _ c.random.ensures c.in-Ok.is) c.compare.ensures)

pub returns-in-Err : goal.returns-in-Err
returns-in-Err c = wrong _ c.random.ensures c.in-Err.is c.failed.ensures
