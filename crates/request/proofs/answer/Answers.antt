-- `request::answer` meets its contract. Assumes nothing.
use Rattle.protocol.proofs.Follows.{moving}
use Rattle.request.proofs.answer.Goals as goal

pub returns : goal.returns
returns c =
    rw (← c.own_features-own.ensures)
    (λ a. moving (rw (c.choose_pairing_method.ensures, c.lost_bond.ensures, c.at.ensures)) c.pairing_response-sent.ensures)
