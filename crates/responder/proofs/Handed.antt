-- A step, handed back by a method. Assumes nothing.
use Prim.Native.Nat.{ℕ}
use mathlib.Core.Path.{◌≡◌, sym, ap, ◌∙◌}
use mathlib.Core.List.{List}
use Rattle.frames.specs.Packets.{channel}
use Rattle.protocol.specs.Role.{Call, Outcome, plan, step}
use Rattle.protocol.specs.Met.{Met}
use Rattle.machine.specs.declared.State.{State}
use Rattle.machine.specs.declared.Step.{Step}
use Rattle.machine.specs.Responder.{responder, Follows}
use Rattle.machine.proofs.Kept.{joined_kept}
use Rattle.responder.specs.declared.Stepped.{Stepped}
use Rattle.responder.specs.Calls.{stepped_of, handed_of}

-- with the setup that no step changes, the whole of the next state
pub handed : (m : State) (c : Call) {r : Step} {s : Stepped} {before after : List ℕ} → s ≡ handed_of m.setup r
    → Follows m c.supplied (plan responder m c.input c.room) r before after → Met stepped_of channel (step responder m c) s before after
unfolding step
handed m c e h = record { step = e ∙ ap (handed_of m.setup) h.met.step ∙ rw (joined_kept m c); out = h.met.out }

-- no second answer, and no second outbox, stands for an outcome
pub only_met : {o : Outcome State} {r r' : Stepped} {before after after' : List ℕ} → Met stepped_of channel o r before after → Met stepped_of channel o r' before after'
    → (r ≡ r') × (after ≡ after')
only_met p q = (p.step ∙ sym q.step, p.out ∙ sym q.out)
