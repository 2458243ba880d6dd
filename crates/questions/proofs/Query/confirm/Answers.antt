-- `questions::Query::confirm` meets its contract. Assumes nothing.
use mathlib.Core.Path.{sym, ◌∙◌}
use Rattle.questions.proofs.Asks.{heard, unheard}
use Rattle.questions.proofs.Query.confirm.Goals as goal

pub returns-in_err-ok : goal.returns-in_err-ok
returns-in_err-ok c = unheard _ c.confirm.ensures (sym c.ok.ensures.value ∙ rw c.in_err-ok.is at c.branch-ok.ensures) c.from_residual.ensures

pub returns : goal.returns
returns c = heard _ c.confirm.ensures (sym c.ok.ensures.value ∙ rw c.in_ok-ok.is at c.branch-ok.ensures) (c.round_confirm.ensures _)
