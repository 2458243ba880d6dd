-- `frames::header` meets its contract. Assumes nothing.
use Rattle.frames.proofs.Frames.{head_over}
use borrow.Author.Rules.{rules}
use Rattle.frames.proofs.header.Goals as goal

pub returns : goal.returns
returns c = head_over _ _ _ _ (search rules) c.copy_from_slice.ensures.after
