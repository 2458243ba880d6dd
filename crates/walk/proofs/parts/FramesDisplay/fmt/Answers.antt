-- Each turn passes one frame, which ends within the octets and is not empty.
use Rattle.std.proofs.Common.{arith}
use Rattle.std.proofs.lemmas.Bool.Decides.{nat_tests}
use Rattle.walk.proofs.Frames.{end_most, end_some}
use Rattle.walk.proofs.parts.FramesDisplay.fmt.Goals as goal

pub split_at-requires : goal.split_at-requires
split_at-requires g c = omega (arith, end_most _ c.frame_end.ensures)

pub loop-rest-smaller : goal.loop-rest-smaller
loop-rest-smaller g c = omega (arith, end_some _ c.frame_end.ensures (grind (arith, nat_tests, c.loop-rest-test.ensures)))
