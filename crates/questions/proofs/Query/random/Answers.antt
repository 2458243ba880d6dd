-- `questions::Query::random` meets its contract. Assumes nothing.
use mathlib.Core.Path.{sym, ◌∙◌}
use Rattle.questions.proofs.Asks.{heard, heard_value, unheard}
use Rattle.questions.proofs.Query.random.Goals as goal

pub returns-in_err-nonce : goal.returns-in_err-nonce
returns-in_err-nonce c = unheard _ c.random.ensures (sym c.ok.ensures.value ∙ rw c.in_err-nonce.is at c.branch-nonce.ensures) c.from_residual.ensures

pub returns : goal.returns
returns c = heard _ c.random.ensures (sym c.ok.ensures.value ∙ rw c.in_ok-nonce.is at c.branch-nonce.ensures) (rw (← heard_value _ _ _ c.random.ensures (sym c.ok.ensures.value ∙ rw c.in_ok-nonce.is at c.branch-nonce.ensures)) c.peer_confirm.ensures)
