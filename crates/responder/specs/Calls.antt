-- A call as the responder's methods have it, and what they give back.
use Rattle.std.specs.Prelude.{ℕ, List}
use Rattle.protocol.specs.declared.Event.{Event}
use Rattle.protocol.specs.declared.Setup.{Setup}
use Rattle.protocol.specs.declared.Supplied.{Supplied}
use Rattle.protocol.specs.Role.{Call, command, event, Outcome}
use Rattle.machine.specs.declared.State.{State}
use Rattle.machine.specs.declared.Step.{Step}
use Rattle.machine.specs.State.{joined_of}
use Rattle.responder.specs.declared.Responder.{Responder}
use Rattle.responder.specs.declared.Stepped.{Stepped}

-- a command's octets with what is supplied, and an event, to an outbox of n octets
abbrev pub command_call : List ℕ → Supplied → ℕ → Call
command_call cmd a n = record { input = command cmd; supplied = a; room = n }

abbrev pub event_call : Event → Supplied → ℕ → Call
event_call e a n = record { input = event e; supplied = a; room = n }

-- a state, as a responder
abbrev pub responder_of : State → Responder
responder_of m = record { state = m }

-- an outcome as the responder gives it back, with n octets in the outbox
abbrev pub stepped_of : Outcome State → ℕ → Stepped
stepped_of o n = record { responder = responder_of o.next; sent = n; first = o.first; second = o.second; action = o.action; answer = o.answer }

-- a step of a state with this setup, as the responder gives it back
abbrev pub handed_of : Setup → Step → Stepped
handed_of s d =
    record { responder = responder_of (joined_of s d.progress); sent = d.sent; first = d.first; second = d.second; action = d.action; answer = d.answer }
