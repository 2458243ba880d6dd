-- `questions::of_event` meets its contract. Assumes nothing.
use mathlib.Core.Path.{refl, sym, ◌∙◌}
use Rattle.protocol.specs.Plan.{asked}
use Rattle.protocol.specs.Role.{questions}
use Rattle.protocol.specs.Next.{next_of}
use Rattle.questions.proofs.of_event.Goals as goal

pub returns-then-finished : goal.returns-then-finished
unfolding questions asked next_of
returns-then-finished c = rw (sym c.finished.ensures ∙ c.if-finished.true) refl

pub returns-then-in_range : goal.returns-then-in_range
unfolding questions asked
returns-then-in_range c = rw (sym c.finished.ensures ∙ c.if-finished.false, sym c.in_range.ensures ∙ c.if-in_range.true) c.by_event.ensures.next

pub returns : goal.returns
unfolding questions asked next_of
returns c = rw (sym c.finished.ensures ∙ c.if-finished.false, sym c.in_range.ensures ∙ c.if-in_range.false) refl
