-- `frames::pairing_response` meets its contract. Assumes nothing.
use mathlib.Core.Path.{refl, ap}
use lib.ListN.{length}
use mathlib.Core.Path.{refl}
use Rattle.octets.proofs.Write.{then_part}
use Rattle.frames.proofs.Frames.{no_frame, whole_frame}
use Rattle.frames.proofs.pairing_response.Goals as goal

pub returns-then-out-lt11 : goal.returns-then-out-lt11
returns-then-out-lt11 c = no_frame _ 6 _ _ refl c.if-out-lt11.true

pub returns : goal.returns
returns c =
    whole_frame _ 6 _ _ refl _ c.if-out-lt11.false
    (rw (← c.encode.ensures)
    (then_part _ _ 5 refl _ _ _ 6 _ (ap length c.encode.ensures) c.if-out-lt11.false c.header.ensures c.put.ensures))
