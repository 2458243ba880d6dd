-- `questions::Query::by_event` meets its contract. Assumes nothing.
use mathlib.Core.Path.{refl}
use Rattle.questions.proofs.Other.{event_other}
use Rattle.questions.proofs.Query.by_event.Goals as goal

pub returns-in_default : goal.returns-in_default
returns-in_default c = let a = c.args in event_other _ _ _ refl a.self.state.phase a.self.state a.came c.in_default.not-WaitingNumericComparisonResult c.in_default.not-WaitingPassKeyInput c.in_default.not-WaitingOobData
