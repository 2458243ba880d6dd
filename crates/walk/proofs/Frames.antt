-- The first frame ends within the octets, and is not empty. Assumes nothing.
use Rattle.std.proofs.Common.{◌≡◌, ℕ, ◌<◌, ◌≤◌, List, length, arith}
use Rattle.walk.specs.Frames.{frame_end}

pub end_most : (xs : List ℕ) {r : ℕ} → r ≡ frame_end xs → r ≤ length xs
unfolding frame_end
end_most xs e = omega arith

pub end_some : (xs : List ℕ) {r : ℕ} → r ≡ frame_end xs → 0 < length xs → 0 < r
unfolding frame_end
end_some xs e h = omega arith
