-- What Success means: the call that completes a pairing, and how a history ends that is complete.
use Rattle.std.specs.Prelude.{ℕ, ◌≡◌, List, [], ◌∷◌, true, false, Some, is_some}
use Rattle.octets.specs.Octets.{flip}
use Rattle.address.specs.Identity.{decode_of as address_of}
use Rattle.features.specs.declared.PairingFeatures.{PairingFeatures}
use Rattle.features.specs.Bits.{identity_bit}
use Rattle.method.specs.declared.PairingMethod.{PairingMethod}
use Rattle.frames.specs.Packets.{check_code, identity_information_code, identity_address_code}
use Rattle.protocol.specs.declared.Action.TheVariants as X
use Rattle.protocol.specs.declared.Bond.{Bond}
use Rattle.protocol.specs.declared.Event.TheVariants as I
use Rattle.protocol.specs.declared.Setup.{Setup}
use Rattle.protocol.specs.Role.{Call, Outcome}
use Rattle.machine.specs.declared.Phase.TheVariants as P
use Rattle.machine.specs.declared.State.{State}
use Rattle.machine.specs.Passed.{Brings, Raises, Value, Request}

-- One call

-- the link is encrypted
abbrev pub Encrypts : Call → Type 0
Encrypts c = Raises (I.LinkEncryptedResult true) c

-- an identity address that decodes (in octets: `address_iff`, protocol/proofs/Acceptable.antt)
pub record Identity (w : List ℕ) (c : Call) : Type 0 where
  pub brings : Brings identity_address_code w c
  pub valid : is_some (address_of w) ≡ true

-- an encrypted link, after a pairing or with no request
pub data Links (m : State) (c : Call) : Type 0 where
  linked : m.phase ≡ P.WaitingLinkEncrypted → Encrypts c → Links m c
  bonded : m.phase ≡ P.WaitingPairingRequest → Encrypts c → Links m c

-- what reaches Success: the identity address; or an encrypted link where the peer's initiator bit is not set
pub data Completes (m : State) (c : Call) : Type 0 where
  address : {w : List ℕ} → m.phase ≡ P.WaitingIdentitityAddressInformation → Identity w c → Completes m c
  link : Links m c → identity_bit m.features.initiator ≡ false → Completes m c

-- what reaches WaitingIdentitityAddressInformation: identity information
pub data Informs (m : State) (c : Call) : Type 0 where
  information : {w : List ℕ} → m.phase ≡ P.WaitingIdentitityInformation → Value identity_information_code w c → Informs m c

-- what reaches WaitingIdentitityInformation: an encrypted link, where the peer's initiator bit is set
abbrev pub Encrypted : State → Call → Type 0
Encrypted m c = Links m c × (identity_bit m.features.initiator ≡ true)

-- a DHKey check, arriving or held, that equals the f6 supplied with the call
pub data Checks (m : State) (c : Call) : Type 0 where
  arrived : {w : List ℕ} → m.phase ≡ P.WaitingDHKeyEa → Value check_code w c → flip w ≡ c.supplied.peercheck → Checks m c
  held : {v : List ℕ} → m.phase ≡ P.WaitingNumericComparisonResult (Some v) → Raises I.PassKeyConfirm c → v ≡ c.supplied.peercheck → Checks m c

-- what reaches WaitingLinkEncrypted: such a check; the outcome enables encryption with a bond that is kept, and its key is the link key of f5 that is
-- supplied with the same call
pub record Enables (m : State) (c : Call) (o : Outcome State) : Type 0 where
  pub check : Checks m c
  pub bond : Bond
  pub action : o.action ≡ Some (X.EnableEncryption bond)
  pub key : bond.ltk ≡ c.supplied.ltk
  pub kept : o.next.bond ≡ Some bond

-- A history

-- the peer's identity: its identity information, then its identity address
pub data Identified : List Call → Type 0 where
  identified : {w v : List ℕ} {i a : Call} → Value identity_information_code w i → Identity v a → Identified (i ∷ a ∷ [])

-- the link is encrypted; the peer's identity follows where its initiator bit is set
pub data Linked (f : PairingFeatures) : List Call → Type 0 where
  plain : {e : Call} → identity_bit f.initiator ≡ false → Encrypts e → Linked f (e ∷ [])
  keyed : {e : Call} {h : List Call} → identity_bit f.initiator ≡ true → Encrypts e → Identified h → Linked f (e ∷ h)

-- a DHKey check equal to the f6 supplied with it; then the link
pub data Checked (f : PairingFeatures) : List Call → Type 0 where
  checked : {w : List ℕ} {c : Call} {h : List Call} → Value check_code w c → flip w ≡ c.supplied.peercheck → Linked f h → Checked f (c ∷ h)

-- the end: such a check, or one that was held and equals the f6 supplied with the user's yes
pub data Ends (f : PairingFeatures) : List Call → Type 0 where
  arrived : {h : List Call} → Checked f h → Ends f h
  held : {w : List ℕ} {c d : Call} {h : List Call} → Value check_code w c → Raises I.PassKeyConfirm d → flip w ≡ d.supplied.peercheck → Linked f h → Ends f (c ∷ d ∷ h)
  later : {c : Call} {h : List Call} → Ends f h → Ends f (c ∷ h)

-- a pairing: an acceptable request that says f, and that end; or a bonded link, and no request
pub data Completed (s : Setup) : List Call → Type 0 where
  paired : {f : PairingFeatures} {x : PairingMethod} {q : Call} {h : List Call} → Request s f x q → Ends f h → Completed s (q ∷ h)
  bonded : {e : Call} → Encrypts e → Completed s (e ∷ [])
