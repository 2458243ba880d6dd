-- `front::by_command` meets its contract. Assumes nothing.
use mathlib.Core.Path.{ap}
use Rattle.protocol.proofs.Follows.{refusing, failing}
use Rattle.machine.specs.Responder.{on_command}
use Rattle.front.proofs.Other.{command_ended}
use Rattle.front.proofs.by_command.Goals as goal

pub returns-in-WaitingOobData : goal.returns-in-WaitingOobData
returns-in-WaitingOobData c =
    rw (ap (λ x. on_command x c.args.state c.args.code c.args.payload.now) c.in-WaitingOobData.is) (failing c.failed.ensures)

pub returns-in-WaitingLinkEncrypted : goal.returns-in-WaitingLinkEncrypted
returns-in-WaitingLinkEncrypted c =
    rw (ap (λ x. on_command x c.args.state c.args.code c.args.payload.now) c.in-WaitingLinkEncrypted.is)
    (failing c.failed-in-WaitingLinkEncrypted.ensures)

pub returns-in-Success : goal.returns-in-Success
returns-in-Success c = rw (command_ended _ _ _ _ c.in-Success.is) (refusing c.refused.ensures)
