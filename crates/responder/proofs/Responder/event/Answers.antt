-- `responder::Responder::event` meets its contract. Assumes nothing.
use Rattle.responder.proofs.Handed.{handed}
use Rattle.responder.proofs.Responder.event.Goals as goal

pub returns : goal.returns
returns c = handed _ _ c.handed_back.ensures c.on_event.ensures
