-- `questions::Query::check_value` meets its contract. Assumes nothing.
use mathlib.Core.Bool.{true}
use mathlib.Core.Path.{refl, sym, ◌∙◌}
use Rattle.questions.proofs.Asks.{asked_check, right_check, wrong_check}
use Rattle.questions.proofs.Query.check_value.Goals as goal

pub returns-in-Some : goal.returns-in-Some
returns-in-Some c = asked_check c.args.self.state c.peer_check.ensures c.args.value c.in-Some.is (sym c.in-Some.is)

pub returns-then-equal : goal.returns-then-equal
returns-then-equal c = right_check c.args.self.state c.peer_check.ensures c.args.value (sym c.equal.ensures ∙ c.if-equal.true) (rw c.in-None.is (rw c.ask_own_check.ensures at c.unless.ensures))

pub returns-else-equal : goal.returns-else-equal
returns-else-equal c = wrong_check c.args.self.state c.peer_check.ensures true c.args.value (sym c.equal.ensures ∙ c.if-equal.false) (sym c.in-None.is)
