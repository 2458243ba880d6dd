-- `holding::confirm` meets its contract. Assumes nothing.
use mathlib.Core.Path.{ap}
use Rattle.std.specs.Prelude.{Some}
use Rattle.machine.specs.declared.Phase.TheVariants.{WaitingPassKeyInput}
use Rattle.holding.proofs.confirm.Goals as goal

pub returns : goal.returns
returns c = c.holds.ensures WaitingPassKeyInput (ap (λ v. WaitingPassKeyInput (Some v)) c.reversed-early.ensures)
