-- `frames::security_request` meets its contract. Assumes nothing.
use mathlib.Core.Path.{refl}
use Rattle.frames.proofs.Frames.{no_frame, whole_frame}
use Rattle.frames.proofs.security_request.Goals as goal

pub returns-then-out-lt6 : goal.returns-then-out-lt6
returns-then-out-lt6 c = no_frame _ 1 _ _ refl c.if-out-lt6.true

pub returns : goal.returns
returns c = whole_frame _ 1 _ _ refl _ c.if-out-lt6.false c.header_and.ensures
