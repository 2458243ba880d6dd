-- Laws of frames: their lengths, and the two ends of every writer. Assumes nothing.
use mathlib.Core.Path.{◌≡◌, refl, ◌∙◌}
use mathlib.Core.List.{List, [], ◌∷◌, ◌++◌}
use Prim.Native.Nat.{ℕ, ◌+◌, ◌-◌, ◌≤◌, ◌<◌}
use native.Mathlib.Omega.{arith}
use native.Mathlib.Nat.{mod-eq_of_lt, div-eq_of_lt}
use lib.ListN.{length, take, drop, length-append}
use Rattle.octets.specs.Octets.{flip}
use Rattle.octets.specs.Write.{over, Wrote}
use Rattle.octets.proofs.Octets.{length_flip}
use Rattle.octets.proofs.Write.{too_short, written, whole, then_part}
use Rattle.frames.specs.Packets.{channel, head, frame}

-- one octet holds a size below 256, so a header is these five octets over the start of an outbox
pub head_over : (size code : ℕ) (out first : List ℕ) → size < 256 → first ≡ size ∷ 0 ∷ 6 ∷ 0 ∷ code ∷ [] → first ++ drop 5 out ≡ over (head channel size code) out
unfolding over
head_over size code out first h e = rw (e, mod-eq_of_lt h, div-eq_of_lt h) refl

pub length_frame : (code : ℕ) (p : List ℕ) (n : ℕ) → length p ≡ n → length (frame channel code p) ≡ 5 + n
unfolding frame
length_frame code p n e = length-append (head channel (length p + 1) code) p ∙ omega arith

-- A writer of a payload of n octets: too short an outbox, and a frame written behind its header
module _ (code n : ℕ) (p out : List ℕ) (e : length p ≡ n) where
  pub no_frame : length out < 5 + n → Wrote (frame channel code p) out 0 out
  no_frame h = too_short (frame channel code p) out (5 + n) (length_frame code p n e) h

  pub whole_frame : (after : List ℕ) → 5 + n ≤ length out → after ≡ over (head channel (n + 1) code ++ p) out → Wrote (frame channel code p) out (5 + n) after
  unfolding frame
  whole_frame after h t = written (frame channel code p) out (5 + n) (length_frame code p n e) after h (rw e t)

-- The payloads' lengths
pub length_value : (v : List ℕ) (n : ℕ) → length v ≡ n → length (flip v) ≡ n
length_value v n e = length_flip v ∙ e

pub length_head_value : (size code : ℕ) (v : List ℕ) (n : ℕ) → length v ≡ n → length (head channel size code ++ flip v) ≡ 5 + n
length_head_value size code v n e = length-append (head channel size code) (flip v) ∙ omega (arith, length_flip v)

pub length_key : (x y : List ℕ) → length x ≡ 32 → length y ≡ 32 → length (flip x ++ flip y) ≡ 64
length_key x y e f = length-append (flip x) (flip y) ∙ omega (arith, length_flip x, length_flip y)

-- Two frames, the second in the part of the outbox behind the first
module _ (f g out : List ℕ) (n m : ℕ) (e : length f ≡ n) (d : length g ≡ m) where
  length_both : length (f ++ g) ≡ n + m
  length_both = length-append f g ∙ omega arith

  pub no_frames : length out < n + m → Wrote (f ++ g) out 0 out
  no_frames h = too_short (f ++ g) out (n + m) length_both h

  pub both_framed : (first part : List ℕ) (r s : ℕ) → n + m ≤ length out → Wrote f out r first → Wrote g (take (length first - n) (drop n first)) s part
      → Wrote (f ++ g) out (n + m) (take n first ++ (part ++ drop (length first - n) (drop n first)))
  both_framed first part r s h w p = written (f ++ g) out (n + m) length_both _ h (then_part f out n e g first part m s d h (whole w (omega arith)) p)
