-- WaitingLinkEncrypted, WaitingIdentitityInformation and WaitingIdentitityAddressInformation. Part H 2.4.3.2, 3.6.1.
use Rattle.std.specs.Prelude.{ℕ, List, [], ◌∷◌, Bool, cond, ◌&&◌, Option, None, option_map}
use Rattle.address.specs.declared.Address.{Address}
use Rattle.features.specs.Bits.{bonding_bits, identity_bit}
use Rattle.frames.specs.Packets.{Packet, identity_information_code, identity_information, identity_address}
use Rattle.protocol.specs.declared.Action.{Action}
use Rattle.protocol.specs.declared.Action.TheVariants as X
use Rattle.protocol.specs.declared.Bond.{Bond}
use Rattle.protocol.specs.declared.ConnectionEvent.{ConnectionEvent}
use Rattle.protocol.specs.declared.ConnectionEvent.TheVariants as E
use Rattle.protocol.specs.declared.Event.{Event}
use Rattle.protocol.specs.declared.Event.TheVariants as I
use Rattle.protocol.specs.declared.Failure.TheVariants as F
use Rattle.protocol.specs.Plan.{Plan, Ending, ends, tests, moves, goes, needs, unlisted}
use Rattle.protocol.specs.Parts.{value, identity}
use Rattle.machine.specs.declared.Phase.TheVariants as P
use Rattle.machine.specs.declared.State.{State}
use Rattle.machine.specs.State.{at, bonded}
use Rattle.machine.specs.Request.{own_features}

-- Success

-- whether both AuthReqs ask bonding; ours asks it where the setup does
abbrev pub wants_bonding : State → Bool
wants_bonding m = m.setup.bonding && bonding_bits m.features.authreq

-- with a bond: PairingComplete with its level; stored and reported only if both ask bonding. Without a bond: no event
abbrev pub completing : Option Bond → Bool → Option ConnectionEvent
completing b w = option_map (λ x. E.PairingComplete x.level w) b

abbrev pub storing : Option Bond → Bool → Option Action
storing b w = cond w (option_map (λ x. X.StoreBond x) b) None

abbrev pub succeeds : State → List Packet → Ending State
succeeds m ps = moves (at m P.Success) ps None (completing m.bond (wants_bonding m)) (storing m.bond (wants_bonding m))

-- The encrypted link

-- our identity keys, where our responder identity bit is set
abbrev pub own_identity : State → List Packet
own_identity m =
    cond (identity_bit (own_features m.setup m.features).responder) (identity_information m.setup.irk ∷ identity_address m.setup.identity ∷ []) []

-- our keys go, and the peer's are waited for where its initiator bit is set
abbrev pub encrypting : State → Plan State
encrypting m =
    tests (identity_bit m.features.initiator) (ends (goes (at m P.WaitingIdentitityInformation) (own_identity m) None))
    (ends (succeeds m (own_identity m)))

-- an event in WaitingPairingRequest: the known bond, or none, is the bond
abbrev pub on_bonded_link : State → Event → Plan State
on_bonded_link m (I.LinkEncryptedResult ok) = needs ok F.KeyRejected (encrypting (bonded m m.setup.known))
on_bonded_link m I.PassKeyConfirm = unlisted
on_bonded_link m I.PassKeyCancel = unlisted
on_bonded_link m (I.PassKeyInput p) = unlisted
on_bonded_link m (I.OobDataReceived o) = unlisted

-- an event in WaitingLinkEncrypted
abbrev pub on_encrypted : State → Event → Plan State
on_encrypted m (I.LinkEncryptedResult ok) = needs ok F.KeyRejected (encrypting m)
on_encrypted m I.PassKeyConfirm = unlisted
on_encrypted m I.PassKeyCancel = unlisted
on_encrypted m (I.PassKeyInput p) = unlisted
on_encrypted m (I.OobDataReceived o) = unlisted

-- The peer's identity

-- a bond, if there is one, with the peer's IRK
abbrev pub with_irk : Option Bond → List ℕ → Option Bond
with_irk b irk = option_map (λ x. record { ltk = x.ltk; level = x.level; address = x.address; irk = irk }) b

-- it is kept, and the identity address waited for
abbrev pub informed : State → List ℕ → Ending State
informed m irk = goes (at (bonded m (with_irk m.bond irk)) P.WaitingIdentitityAddressInformation) [] None

-- a command in WaitingIdentitityInformation
abbrev pub on_information : State → ℕ → List ℕ → Plan State
on_information m code body = value identity_information_code F.InvalidValue code body λ irk. ends (informed m irk)

-- a bond, if there is one, with the peer's identity address
abbrev pub with_address : Option Bond → Address → Option Bond
with_address b a = option_map (λ x. record { ltk = x.ltk; level = x.level; address = a; irk = x.irk }) b

-- it becomes the peer address
abbrev pub addressed : State → Address → State
addressed m a =
    record { phase = m.phase; setup = m.setup; features = m.features; method = m.method; secrets = m.secrets; bond = with_address m.bond a; peer = a }

-- a command in WaitingIdentitityAddressInformation
abbrev pub on_address : State → ℕ → List ℕ → Plan State
on_address m code body = identity code body λ a. ends (succeeds (addressed m a) [])
