-- `questions::Query::number` meets its contract. Assumes nothing.
use mathlib.Core.Path.{refl}
use Rattle.protocol.proofs.Next.{asks_nothing, asks_last}
use Rattle.questions.proofs.Query.number.Goals as goal

pub returns : goal.returns
returns c = asks_last (asks_nothing refl) c.unless.ensures
