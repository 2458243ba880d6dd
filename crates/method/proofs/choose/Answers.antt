-- `method::choose` meets its contract. Assumes nothing.
use mathlib.Core.Path.{sym, ◌∙◌}
use Rattle.method.proofs.Method.{by_oob, initiator_asks, responder_asks, neither_asks}
use Rattle.method.proofs.choose.Goals as goal
use Rattle.method.proofs.choose.Goals.{then-man_in_the_middle-via-then-man_in_the_middle, then-man_in_the_middle-via-else-man_in_the_middle+then-man_in_the_middle-2}

pub returns-then-uses_oob : goal.returns-then-uses_oob
returns-then-uses_oob c = by_oob _ _ _ (sym c.uses_oob.ensures ∙ c.if-uses_oob.true)

pub returns-then-man_in_the_middle : goal.returns-then-man_in_the_middle
returns-then-man_in_the_middle c =
    c.by_io.ensures ∙ elim c.then-man_in_the_middle.branch [
      | then-man_in_the_middle-via-then-man_in_the_middle w ↦
          initiator_asks _ _ _ (sym c.uses_oob.ensures ∙ c.if-uses_oob.false) (sym c.man_in_the_middle.ensures ∙ w.if-man_in_the_middle.true)
      | then-man_in_the_middle-via-else-man_in_the_middle+then-man_in_the_middle-2 w ↦
          responder_asks _ _ _ (sym c.uses_oob.ensures ∙ c.if-uses_oob.false) (sym c.man_in_the_middle.ensures ∙ w.if-man_in_the_middle.false)
          (sym w.man_in_the_middle-else-man_in_the_middle.ensures ∙ w.if-man_in_the_middle-2.true)
    ]

pub returns : goal.returns
returns c =
    neither_asks _ _ _ (sym c.uses_oob.ensures ∙ c.if-uses_oob.false) (sym c.man_in_the_middle.ensures ∙ c.if-man_in_the_middle.false)
    (sym c.man_in_the_middle-else-man_in_the_middle.ensures ∙ c.if-man_in_the_middle-2.false)
