-- What the tests of a peer's features come to. Assumes nothing.
use Rattle.std.specs.Prelude.{Option, Some, None, Result, Ok, Err}
use Prim.Native.Nat.{ℕ, ◌≤◌, ◌<◌}
use mathlib.Core.Path.{◌≡◌, refl}
use mathlib.Core.List.{List}
use mathlib.Core.Bool.{Bool, true, false, cond}
use lib.Dec.{ltb}
use borrow.Author.Tests.{ltb-true, ltb-false}
use Rattle.features.specs.declared.PairingFeatures.{PairingFeatures}
use Rattle.features.specs.Features.{decode_of}
use Rattle.features.specs.Bits.{secure_connections_bit}
use Rattle.protocol.specs.declared.Failure.{Failure}
use Rattle.protocol.specs.declared.Failure.TheVariants as F
use Rattle.protocol.specs.Parts.{accept_of}

-- octets are rejected for the first that is wrong, or taken as the features that they are
pub data Heard (body : List ℕ) : Result PairingFeatures Failure → Type 0 where
  malformed : decode_of body ≡ None → Heard body (Err F.InvalidParameters)
  insecure : {f : PairingFeatures} → decode_of body ≡ Some f → secure_connections_bit f.authreq ≡ false → Heard body (Err F.AuthenticationRequirements)
  small : {f : PairingFeatures} → decode_of body ≡ Some f → f.keysize < 16 → Heard body (Err F.EncryptionKeySize)
  right : {f : PairingFeatures} → decode_of body ≡ Some f → secure_connections_bit f.authreq ≡ true → 16 ≤ f.keysize → Heard body (Ok f)

pub heard : (body : List ℕ) → Heard body (accept_of body)
unfolding accept_of
heard body = go (decode_of body) refl
  where
    sized : (f : PairingFeatures) → decode_of body ≡ Some f → (s t : Bool) → secure_connections_bit f.authreq ≡ s → ltb f.keysize 16 ≡ t
        → Heard body (cond s (cond t (Err F.EncryptionKeySize) (Ok f)) (Err F.AuthenticationRequirements))
    sized f e false t p q = insecure e p
    sized f e true true p q = small e (ltb-true f.keysize 16 q)
    sized f e true false p q = right e p (ltb-false f.keysize 16 q)

    go : (d : Option PairingFeatures) → decode_of body ≡ d → Heard body (accept_of body)
    go None e = rw e (malformed e)
    go (Some f) e = rw e (sized f e _ _ refl refl)
