-- `questions::Query::received` meets its contract. Assumes nothing.
use mathlib.Core.Path.{refl}
use Rattle.questions.proofs.Other.{received_other}
use Rattle.questions.proofs.Query.received.Goals as goal

pub returns-in_default : goal.returns-in_default
returns-in_default c = let a = c.args in received_other _ _ _ refl a.self.state a.came c.in_default.not-OobDataReceived
