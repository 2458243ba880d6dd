-- The octets of one packet and of two, by their payloads; the longest step of any role fills an outbox that is long enough. Assumes nothing.
use Prim.Native.Nat.{ℕ, ◌+◌}
use mathlib.Core.Path.{◌≡◌}
use mathlib.Core.List.{List, [], ◌∷◌}
use native.Mathlib.Omega.{arith}
use lib.ListN.{length, length-append}
use Rattle.frames.specs.Packets.{Packet, public_key, pairing_confirm, code_of, payload_of, frame, framed, channel}
use Rattle.frames.proofs.Frames.{length_frame, length_value, length_key}
use Rattle.protocol.specs.Role.{enough}

pub one_packet : (p : Packet) (n : ℕ) → length (payload_of p) ≡ n → length (framed channel (p ∷ [])) ≡ 5 + n
one_packet p n e = length_frame (code_of p) (payload_of p) n e

pub two_packets : (p q : Packet) (n k : ℕ) → length (payload_of p) ≡ n → length (payload_of q) ≡ k → length (framed channel (p ∷ q ∷ [])) ≡ 10 + n + k
two_packets p q n k e d =
    omega (arith, length-append (frame channel (code_of p) (payload_of p)) (framed channel (q ∷ [])), one_packet p n e, one_packet q k d)

-- a public key and a confirm
pub longest : (x y v : List ℕ) → length x ≡ 32 → length y ≡ 32 → length v ≡ 16 → length (framed channel (public_key x y ∷ pairing_confirm v ∷ [])) ≡ enough
longest x y v e d h = two_packets (public_key x y) (pairing_confirm v) 64 16 (length_key x y e d) (length_value v 16 h)
