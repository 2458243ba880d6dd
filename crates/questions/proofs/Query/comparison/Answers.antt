-- `questions::Query::comparison` meets its contract. Assumes nothing.
use mathlib.Core.Path.{refl, sym, ◌∙◌}
use Rattle.protocol.proofs.Next.{asks_nothing}
use Rattle.questions.proofs.Asks.{heard, heard_value, unheard}
use Rattle.questions.proofs.Other.{compare_other}
use Rattle.questions.proofs.Query.comparison.Goals as goal

pub returns-in_err-nonce : goal.returns-in_err-nonce
returns-in_err-nonce c = unheard _ c.random.ensures (sym c.ok.ensures.value ∙ rw c.in_err-nonce.is at c.branch-nonce.ensures) c.from_residual.ensures

pub returns-in-JustWorks : goal.returns-in-JustWorks
returns-in-JustWorks c = heard _ c.random.ensures (sym c.ok.ensures.value ∙ rw c.in_ok-nonce.is at c.branch-nonce.ensures) (rw c.in-JustWorks.is (asks_nothing refl))

pub returns-in_default : goal.returns-in_default
returns-in_default c =
    heard _ c.random.ensures (sym c.ok.ensures.value ∙ rw c.in_ok-nonce.is at c.branch-nonce.ensures) (rw (← heard_value _ _ _ c.random.ensures (sym c.ok.ensures.value ∙ rw c.in_ok-nonce.is at c.branch-nonce.ensures), compare_other c.args.self.state.method c.args.self.state _ c.in_default.not-JustWorks) c.number.ensures)
