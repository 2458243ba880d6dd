-- `questions::Query::by_command` meets its contract. Assumes nothing.
use mathlib.Core.Path.{refl}
use Rattle.questions.proofs.Other.{command_other}
use Rattle.questions.proofs.Query.by_command.Goals as goal

pub returns-in_default : goal.returns-in_default
returns-in_default c = let a = c.args in command_other _ _ _ refl a.self.state.phase a.self.state a.code a.payload.now c.in_default.not-WaitingPublicKey c.in_default.not-WaitingNumericComparisonRandom c.in_default.not-WaitingPassKeyEntryConfirm c.in_default.not-WaitingPassKeyEntryRandom c.in_default.not-WaitingDHKeyEa
