-- Passkey entry as a history of calls: what was taken, from the request to the last of the twenty rounds.
use Rattle.std.specs.Prelude.{ℕ, zero, suc, ◌≡◌, List, [], ◌∷◌, Bool, true, false, Option, Some, None, Ok}
use Rattle.octets.specs.Octets.{flip}
use Rattle.features.specs.declared.PairingFeatures.{PairingFeatures}
use Rattle.method.specs.declared.Kind.TheVariants.{SecureConnections}
use Rattle.method.specs.declared.PairingMethod.{PairingMethod}
use Rattle.method.specs.declared.PairingMethod.TheVariants.{JustWorks, NumericComparison, PassKeyEntry, OutOfBand}
use Rattle.method.specs.declared.PassKeyEntryAction.{PassKeyEntryAction}
use Rattle.method.specs.declared.PassKeyEntryAction.TheVariants as W
use Rattle.method.specs.Method.{method_of}
use Rattle.rounds.specs.Rounds.{in_range}
use Rattle.frames.specs.Packets.{request_code, public_key_code, confirm_code, random_code}
use Rattle.protocol.specs.declared.Event.{Event}
use Rattle.protocol.specs.declared.Event.TheVariants as I
use Rattle.protocol.specs.declared.Setup.{Setup}
use Rattle.protocol.specs.Parts.{accept_of, is_value, is_key}
use Rattle.protocol.specs.Role.{Call, command, event}
use Rattle.machine.specs.declared.Phase.TheVariants as P
use Rattle.machine.specs.declared.State.{State}
use Rattle.machine.specs.Request.{own_features}

-- The calls

-- the call brings the command of code k with the payload w
abbrev pub Brings : ℕ → List ℕ → Call → Type 0
Brings k w c = c.input ≡ command (k ∷ w)

-- the call brings the event e
abbrev pub Raises : Event → Call → Type 0
Raises e c = c.input ≡ event e

-- one value by the code k
pub record Value (k : ℕ) (w : List ℕ) (c : Call) : Type 0 where
  pub brings : Brings k w c
  pub whole : is_value w ≡ true

-- a request that is acceptable (in octets: `Acceptable`, protocol/proofs/Acceptable.antt) and says f; the method is x
pub record Request (s : Setup) (f : PairingFeatures) (x : PairingMethod) (c : Call) : Type 0 where
  pub payload : List ℕ
  pub brings : Brings request_code payload c
  pub says : accept_of payload ≡ Ok f
  pub chooses : method_of SecureConnections f (own_features s f) ≡ x

-- a valid key: the supplied DH is not marked invalid
pub record Key (w : List ℕ) (c : Call) : Type 0 where
  pub brings : Brings public_key_code w c
  pub whole : is_key w ≡ true
  pub valid : c.supplied.dhvalid ≡ true

-- the number p that is shown: the configured one, or, where none is, the drawn one, which is in range
pub data Shows : Option ℕ → ℕ → ℕ → Type 0 where
  configured : (p drawn : ℕ) → Shows (Some p) drawn p
  drawn : (p : ℕ) → in_range p ≡ true → Shows None p p

-- the passkey, typed here
pub record Typed (p : ℕ) (c : Call) : Type 0 where
  pub brings : Raises (I.PassKeyInput p) c
  pub range : in_range p ≡ true

-- a random whose supplied `peerconfirm` is the confirm v, both most significant octet first
pub record Matching (v w : List ℕ) (c : Call) : Type 0 where
  pub random : Value random_code w c
  pub equal : v ≡ c.supplied.peerconfirm

-- The history

-- n rounds in order, each a confirm and then a random that matches it
pub data Rounds : ℕ → List Call → Type 0 where
  none : Rounds zero []
  round : {n : ℕ} {v w : List ℕ} {c d : Call} {h : List Call} → Value confirm_code v c → Matching (flip v) w d → Rounds n h → Rounds (suc n) (c ∷ d ∷ h)

-- a request that chooses passkey entry, a key, the passkey where it is typed here, and twenty rounds; round 0's confirm may come before the passkey
pub data Passed (s : Setup) : List Call → Type 0 where
  shown : {f : PairingFeatures} {x : PassKeyEntryAction} {u : List ℕ} {p : ℕ} {q k : Call} {h : List Call}
      → Request s f (PassKeyEntry x W.Display) q → Key u k → Shows s.passkey k.supplied.passkey p → Rounds 20 h → Passed s (q ∷ k ∷ h)
  typed : {f : PairingFeatures} {x : PassKeyEntryAction} {u : List ℕ} {p : ℕ} {q k t : Call} {h : List Call}
      → Request s f (PassKeyEntry x W.Input) q → Key u k → Typed p t → Rounds 20 h → Passed s (q ∷ k ∷ t ∷ h)
  late : {f : PairingFeatures} {x : PassKeyEntryAction} {u v w : List ℕ} {p : ℕ} {q k c t d : Call} {h : List Call}
      → Request s f (PassKeyEntry x W.Input) q → Key u k → Value confirm_code v c → Typed p t → Matching (flip v) w d → Rounds 19 h
      → Passed s (q ∷ k ∷ c ∷ t ∷ d ∷ h)

-- the passkey of that history
abbrev pub number : {s : Setup} {h : List Call} → Passed s h → ℕ
number (shown {p} a b d r) = p
number (typed {p} a b t r) = p
number (late {p} a b c t d r) = p

-- The phase after it

-- the method is passkey entry
abbrev pub is_passkey : PairingMethod → Bool
is_passkey (PassKeyEntry central peripheral) = true
is_passkey JustWorks = false
is_passkey NumericComparison = false
is_passkey OutOfBand = false

-- the machine stands in WaitingDHKeyEa with a passkey method
abbrev pub Reached : State → Type 0
Reached m = (m.phase ≡ P.WaitingDHKeyEa) × (is_passkey m.method ≡ true)
