-- `questions::Query::compared` meets its contract. Assumes nothing.
use mathlib.Core.Path.{refl}
use Rattle.protocol.proofs.Next.{asks_nothing}
use Rattle.questions.proofs.Other.{comparison_other}
use Rattle.questions.proofs.Query.compared.Goals as goal

pub returns-in_err-held-in-PassKeyConfirm : goal.returns-in_err-held-in-PassKeyConfirm
returns-in_err-held-in-PassKeyConfirm c = rw (c.in-PassKeyConfirm.is, c.in_err-held-in-PassKeyConfirm.was) (asks_nothing c.from_residual.ensures)

pub returns-in_default : goal.returns-in_default
returns-in_default c = let a = c.args in comparison_other _ _ _ refl a.self.state a.held a.came c.in_default.not-PassKeyConfirm
