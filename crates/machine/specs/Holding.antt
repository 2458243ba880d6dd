-- Holding an early payload: one value, in the phases that wait for the user.
use Rattle.std.specs.Prelude.{ℕ, List, [], Option, Some, None}
use Rattle.protocol.specs.Plan.{Plan, ends, goes}
use Rattle.protocol.specs.Parts.{early}
use Rattle.machine.specs.declared.Phase.{Phase}
use Rattle.machine.specs.declared.State.{State}
use Rattle.machine.specs.State.{at}

-- a command of the code k is held, once, in the phase p
abbrev pub holds : State → Option (List ℕ) → ℕ → ℕ → List ℕ → (Option (List ℕ) → Phase) → Plan State
holds m held k code body p = early held k code body λ v. ends (goes (at m (p (Some v))) [] None)
