-- Frames in the outbox.
use Rattle.std.specs.Prelude.{ℕ, ◌+◌, ◌*◌, min, List, length, slice_index}

-- where the first frame ends: behind a header of four octets and as many more as its first two say; at the latest where the octets end
unfoldable pub frame_end : List ℕ → ℕ
frame_end xs = min (length xs) (4 + (slice_index xs 0 + 256 * slice_index xs 1))
