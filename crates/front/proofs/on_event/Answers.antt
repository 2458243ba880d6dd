-- `front::on_event` meets its contract. Assumes nothing.
use Rattle.protocol.proofs.Gates.{shut, admitted}
use Rattle.front.proofs.on_event.Goals as goal

pub returns-in-Ok : goal.returns-in-Ok
returns-in-Ok c = admitted (rw (← c.in_range.ensures) c.admit.ensures) c.in-Ok.is c.by_event.ensures

pub returns-in-Err : goal.returns-in-Err
returns-in-Err c = shut (rw (← c.in_range.ensures) c.admit.ensures) c.in-Err.is c.refused.ensures
