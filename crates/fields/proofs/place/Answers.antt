-- `fields::place` meets its contract. Assumes nothing.
use Rattle.fields.proofs.Parts.{not_placed, places}
use Rattle.fields.proofs.place.Goals as goal

pub returns-then-out-at : goal.returns-then-out-at
returns-then-out-at c = not_placed _ _ _ c.if-out-at.true

pub returns : goal.returns
returns c = places _ _ _ _ _ c.if-out-at.false c.put.ensures
