-- `front::on_command` meets its contract. Assumes nothing.
use Rattle.protocol.proofs.Gates.{shut, admitted}
use Rattle.front.proofs.on_command.Goals as goal

pub returns-in-Ok : goal.returns-in-Ok
returns-in-Ok c = admitted c.admit.ensures c.in-Ok.is c.take_command.ensures

pub returns-in-Err : goal.returns-in-Err
returns-in-Err c = shut c.admit.ensures c.in-Err.is c.refused.ensures
