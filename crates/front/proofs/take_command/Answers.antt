-- `front::take_command` meets its contract. Assumes nothing.
use mathlib.Core.Path.{sym, ◌∙◌}
use borrow.Author.Tests.{eqb-true}
use Rattle.protocol.proofs.Follows.{failing}
use Rattle.protocol.proofs.Walk.{no_octets}
use Rattle.front.proofs.take_command.Goals as goal

pub returns-then-is_empty : goal.returns-then-is_empty
returns-then-is_empty c = rw (no_octets _ _ _ (eqb-true _ 0 (sym c.is_empty.ensures ∙ c.if-is_empty.true))) (failing c.failed.ensures)
