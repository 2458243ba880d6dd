-- `questions::Query::typed` meets its contract. Assumes nothing.
use mathlib.Core.Path.{refl}
use Rattle.protocol.proofs.Next.{asks_nothing}
use Rattle.questions.proofs.Other.{typing_other}
use Rattle.questions.proofs.Query.typed.Goals as goal

pub returns-in_err-held-in-PassKeyInput : goal.returns-in_err-held-in-PassKeyInput
returns-in_err-held-in-PassKeyInput c = rw (c.in-PassKeyInput.is, c.in_err-held-in-PassKeyInput.was) (asks_nothing c.from_residual.ensures)

pub returns-in_ok-held-in-PassKeyInput : goal.returns-in_ok-held-in-PassKeyInput
returns-in_ok-held-in-PassKeyInput c = rw (c.in-PassKeyInput.is, c.in_ok-held-in-PassKeyInput.was) (rw c.with_passkey-keyed.ensures at (c.round_confirm.ensures c.in_ok-held-in-PassKeyInput.field-0))

pub returns-in_default : goal.returns-in_default
returns-in_default c = let a = c.args in typing_other _ _ _ refl a.self.state a.held a.came c.in_default.not-PassKeyInput
