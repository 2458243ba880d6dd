-- `questions::Query::peer_data` meets its contract. Assumes nothing.
use mathlib.Core.Path.{refl, sym, ◌∙◌}
use Rattle.protocol.proofs.Next.{asks_nothing, asks_last, passed, stopped, either}
use Rattle.questions.proofs.Query.peer_data.Goals as goal

pub returns-then-absent : goal.returns-then-absent
returns-then-absent c = passed (sym c.absent.ensures ∙ c.if-absent.true) (asks_nothing refl)

pub returns : goal.returns
returns c = stopped (sym c.absent.ensures ∙ c.if-absent.false) (asks_last (either (asks_nothing refl) (asks_nothing refl)) c.unless.ensures)
