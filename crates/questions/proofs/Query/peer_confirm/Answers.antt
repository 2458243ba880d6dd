-- `questions::Query::peer_confirm` meets its contract. Assumes nothing.
use mathlib.Core.Path.{refl}
use Rattle.protocol.proofs.Next.{asks_nothing, asks_last, either}
use Rattle.questions.proofs.Query.peer_confirm.Goals as goal

pub returns : goal.returns
returns c = asks_last (either (asks_nothing refl) (asks_nothing refl)) (rw c.z.ensures at c.unless.ensures)
