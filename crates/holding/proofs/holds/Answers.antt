-- `holding::holds` meets its contract. Assumes nothing.
use mathlib.Core.Path.{sym, ap, ◌∙◌}
use mathlib.Core.Bool.{not}
use borrow.Author.Tests.{eqb-true, eq-eqb, ne_eqb}
use Rattle.octets.proofs.Octets.{turned_whole}
use Rattle.protocol.proofs.Follows.{failing, moving_silent, passes, stops}
use Rattle.holding.proofs.holds.Goals as goal
use Rattle.holding.proofs.holds.Goals.{then-code-awaited-via-then-code-awaited, then-code-awaited-via-else-code-awaited+then-is_some}

pub returns-then-code-awaited : goal.returns-then-code-awaited
returns-then-code-awaited c =
    λ p e a out. elim c.then-code-awaited.branch [
      | then-code-awaited-via-then-code-awaited w ↦ stops (ne_eqb _ _ w.if-code-awaited.true) (failing c.failed.ensures)
      | then-code-awaited-via-else-code-awaited+then-is_some w ↦
          passes (eq-eqb _ _ w.if-code-awaited.false) (stops (ap not (sym w.is_some.ensures ∙ w.if-is_some.true)) (failing c.failed.ensures))
    ]

pub returns-then-is_value : goal.returns-then-is_value
returns-then-is_value c =
    let whole = sym c.is_value.ensures ∙ c.if-is_value.true in
    λ p e a out. passes (eq-eqb _ _ c.if-code-awaited.false) (passes (ap not (sym c.is_some.ensures ∙ c.if-is_some.false)) (passes whole
    (rw (← turned_whole 16 _ (eqb-true _ 16 whole), ← e) (moving_silent c.goes.ensures))))

pub returns : goal.returns
returns c =
    λ p e a out. passes (eq-eqb _ _ c.if-code-awaited.false) (passes (ap not (sym c.is_some.ensures ∙ c.if-is_some.false))
    (stops (sym c.is_value.ensures ∙ c.if-is_value.false) (failing c.failed-2.ensures)))
