-- The parts that plans are made of: how a packet that comes is read, which passkey is shown, and what is asked. Of any type S of states.
use Rattle.std.specs.Prelude.{ℕ, List, Bool, cond, not, length, take, drop, eqb, ltb, Option, Some, None, is_some, unwrap_or, Result, Ok, Err}
use Rattle.octets.specs.Octets.{flip}
use Rattle.address.specs.declared.Address.{Address}
use Rattle.address.specs.Identity.{decode_of as address_of}
use Rattle.features.specs.declared.PairingFeatures.{PairingFeatures}
use Rattle.features.specs.Features.{decode_of}
use Rattle.features.specs.Bits.{secure_connections_bit}
use Rattle.rounds.specs.Rounds.{in_range}
use Rattle.frames.specs.Packets.{public_key_code, check_code, identity_address_code}
use Rattle.protocol.specs.declared.Check.{Check}
use Rattle.protocol.specs.declared.Commitment.{Commitment}
use Rattle.protocol.specs.declared.ConnectionEvent.{ConnectionEvent}
use Rattle.protocol.specs.declared.Failure.{Failure}
use Rattle.protocol.specs.declared.Failure.TheVariants as F
use Rattle.protocol.specs.declared.Question.{Question}
use Rattle.protocol.specs.declared.Question.TheVariants as Q
use Rattle.protocol.specs.declared.Refusal.TheVariants as R
use Rattle.protocol.specs.Plan.{Plan, ends, draws_passkey, tests, refuses, fails, needs, nowhere}

-- Features

-- the tests of a peer's features, in their order
abbrev tested : Option PairingFeatures → Result PairingFeatures Failure
tested None = Err F.InvalidParameters
tested (Some f) =
    cond (secure_connections_bit f.authreq)
    (cond (ltb f.keysize 16) (Err F.EncryptionKeySize) (Ok f))
    (Err F.AuthenticationRequirements)

unfoldable pub accept_of : List ℕ → Result PairingFeatures Failure
accept_of body = tested (decode_of body)

-- What comes

-- a payload that is one value, Part H 3.5.3, 3.5.4, 3.5.7, 3.6.4
abbrev pub is_value : List ℕ → Bool
is_value body = eqb (length body) 16

-- one that is a public key, Part H 3.5.6: x, then y
abbrev pub is_key : List ℕ → Bool
is_key body = eqb (length body) 64

abbrev pub key_x : List ℕ → List ℕ
key_x body = flip (take 32 body)

abbrev pub key_y : List ℕ → List ℕ
key_y body = flip (drop 32 body)

-- the tests of a code and of a length, in this order, and what is read where they pass
unfoldable pub verdict_of : {A : Type 0} → Bool → Bool → Failure → A → Result A Failure
verdict_of code size f x = cond code (cond size (Ok x) (Err f)) (Err F.InvalidState)

module _ {S : Type 0} where
  -- features by the code k; an event is raised first, whether or not they are acceptable
  abbrev pub accepting : Option ConnectionEvent → Result PairingFeatures Failure → (PairingFeatures → Plan S) → Plan S
  accepting e (Err f) p = ends (fails e f)
  accepting e (Ok x) p = p x

  abbrev pub features : ℕ → Option ConnectionEvent → ℕ → List ℕ → (PairingFeatures → Plan S) → Plan S
  features k e code body p = needs (eqb code k) F.InvalidState (accepting e (accept_of body) p)

  -- a public key
  abbrev pub key : ℕ → List ℕ → (List ℕ → List ℕ → Plan S) → Plan S
  key code body p = needs (eqb code public_key_code) F.InvalidState (needs (is_key body) F.InvalidParameters (p (key_x body) (key_y body)))

  -- one value by the code k; another length is the failure f
  abbrev pub value : ℕ → Failure → ℕ → List ℕ → (List ℕ → Plan S) → Plan S
  value k f code body p = needs (eqb code k) F.InvalidState (needs (is_value body) f (p (flip body)))

  -- one value by the code k that comes early, with what is held already: a second one fails before its length is looked at
  abbrev pub early : Option (List ℕ) → ℕ → ℕ → List ℕ → (List ℕ → Plan S) → Plan S
  early held k code body p =
      needs (eqb code k) F.InvalidState (needs (not (is_some held)) F.InvalidState (needs (is_value body) F.InvalidValue (p (flip body))))

  -- a DHKey check: whether it has the right length is tested with its value
  abbrev pub check : ℕ → List ℕ → (Bool → List ℕ → Plan S) → Plan S
  check code body p = needs (eqb code check_code) F.InvalidState (p (is_value body) (flip body))

  -- an identity address
  abbrev pub identity : ℕ → List ℕ → (Address → Plan S) → Plan S
  identity code body p =
      needs (eqb code identity_address_code) F.InvalidState (needs (is_some (address_of body)) F.InvalidValue (p (unwrap_or (address_of body) nowhere)))

  -- the passkey that is shown: the configured one, or the drawn one, which the call is refused for where it is out of range
  abbrev pub shown : Option ℕ → (ℕ → Plan S) → Plan S
  shown None p = draws_passkey λ n. tests (in_range n) (p n) (ends (refuses R.PasskeyRange))
  shown (Some n) p = p n

-- What is asked

-- the DHKey of a public key (Part H 2.3.5.6.1)
abbrev pub ask_dh : List ℕ → List ℕ → Question
ask_dh x y = Q.DH x y

-- f4(U, V, X, Z), Part H 2.2.6, for our confirm or for the peer's
abbrev pub ask_f4 : (Commitment → Question) → List ℕ → List ℕ → List ℕ → ℕ → Question
ask_f4 whose u v x z = whose (record { u = u; v = v; x = x; z = z })

-- f5(W, N1, N2, A1, A2), Part H 2.2.7
abbrev pub ask_f5 : List ℕ → List ℕ → List ℕ → Address → Address → Question
ask_f5 w n1 n2 a1 a2 = Q.F5 w n1 n2 a1 a2

-- f6(W, N1, N2, R, IOcap, A1, A2), Part H 2.2.8, for the peer's check or for ours
abbrev pub ask_f6 : (Check → Question) → List ℕ → List ℕ → List ℕ → List ℕ → List ℕ → Address → Address → Question
ask_f6 whose w n1 n2 r iocap a1 a2 = whose (record { w = w; n1 = n1; n2 = n2; r = r; iocap = iocap; a1 = a1; a2 = a2 })

-- g2(U, V, X, Y), Part H 2.2.9
abbrev pub ask_g2 : List ℕ → List ℕ → List ℕ → List ℕ → Question
ask_g2 u v x y = Q.G2 u v x y
