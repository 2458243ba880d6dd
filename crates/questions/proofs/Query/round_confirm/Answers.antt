-- `questions::Query::round_confirm` meets its contract. Assumes nothing.
use mathlib.Core.Path.{refl}
use Rattle.protocol.proofs.Next.{asks_nothing, asks_last, draws}
use Rattle.questions.proofs.Query.round_confirm.Goals as goal

pub returns : goal.returns
returns c = λ v. draws (asks_last (asks_nothing refl) (rw c.z.ensures at c.own_confirm.ensures))
