-- `holding::check` meets its contract. Assumes nothing.
use mathlib.Core.Path.{ap}
use Rattle.std.specs.Prelude.{Some}
use Rattle.machine.specs.declared.Phase.TheVariants.{WaitingNumericComparisonResult}
use Rattle.holding.proofs.check.Goals as goal

pub returns : goal.returns
returns c = c.holds.ensures WaitingNumericComparisonResult (ap (λ v. WaitingNumericComparisonResult (Some v)) c.reversed-early.ensures)
