-- `questions::of_command` meets its contract. Assumes nothing.
use mathlib.Core.Path.{refl, sym, ◌∙◌}
use Rattle.protocol.specs.Plan.{asked}
use Rattle.protocol.specs.Role.{questions}
use Rattle.protocol.specs.Next.{next_of}
use Rattle.protocol.proofs.Walk.{no_octets, some_octets}
use Rattle.machine.specs.Responder.{responder}
use Rattle.questions.proofs.of_command.Goals as goal

pub returns-then-finished : goal.returns-then-finished
unfolding questions asked next_of
returns-then-finished c = rw (sym c.finished.ensures ∙ c.if-finished.true) refl

pub returns-then-cmd-eq0 : goal.returns-then-cmd-eq0
unfolding questions asked next_of
returns-then-cmd-eq0 c =
    let args = c.args in
    rw (sym c.finished.ensures ∙ c.if-finished.false, no_octets responder args.state args.cmd.now c.if-cmd-eq0.true) refl

pub returns : goal.returns
unfolding questions asked
returns c =
    let args = c.args in
    rw (sym c.finished.ensures ∙ c.if-finished.false, some_octets responder args.state args.cmd.now c.if-cmd-eq0.false) c.by_command.ensures.next
