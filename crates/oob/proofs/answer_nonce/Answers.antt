-- `oob::answer_nonce` meets its contract. Assumes nothing.
use Rattle.protocol.proofs.Follows.{moving, drawing}
use Rattle.oob.proofs.answer_nonce.Goals as goal

pub returns : goal.returns
returns c = drawing (moving c.goes.ensures c.random-sent.ensures)
