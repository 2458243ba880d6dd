-- `questions::Query::comparing` meets its contract. Assumes nothing.
use mathlib.Core.Path.{refl}
use Rattle.protocol.proofs.Next.{asks_nothing, asks_last, draws}
use Rattle.questions.proofs.Query.comparing.Goals as goal

pub returns : goal.returns
returns c = draws (asks_last (asks_nothing refl) c.own_confirm.ensures)
