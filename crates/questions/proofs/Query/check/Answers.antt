-- `questions::Query::check` meets its contract. Assumes nothing.
use mathlib.Core.Bool.{false}
use Rattle.octets.specs.Octets.{flip}
use mathlib.Core.Path.{refl, sym, ◌∙◌}
use borrow.Author.Tests.{eqb-true, eq-eqb, ne_eqb}
use Rattle.octets.proofs.Octets.{turned_whole}
use Rattle.protocol.proofs.Next.{asks_nothing, passed, stopped}
use Rattle.questions.proofs.Asks.{wrong_check}
use Rattle.questions.proofs.Query.check.Goals as goal

pub returns-then-code-ne-DHKEY_CHECK : goal.returns-then-code-ne-DHKEY_CHECK
returns-then-code-ne-DHKEY_CHECK c = stopped (ne_eqb _ _ c.if-code-ne-DHKEY_CHECK.true) (asks_nothing refl)

pub returns-then-is_value : goal.returns-then-is_value
returns-then-is_value c =
    let whole = sym c.is_value.ensures ∙ c.if-is_value.true in
    passed (eq-eqb _ _ c.if-code-ne-DHKEY_CHECK.false) (rw (whole, ← (c.reversed.ensures ∙ turned_whole 16 _ (eqb-true _ 16 whole))) c.check_value.ensures)

pub returns : goal.returns
returns c =
    let whole = sym c.is_value.ensures ∙ c.if-is_value.false in
    passed (eq-eqb _ _ c.if-code-ne-DHKEY_CHECK.false) (rw whole (wrong_check c.args.self.state c.peer_check.ensures false (flip c.args.payload.now) refl refl))
