-- WaitingOobData and WaitingOobRandom. Part H 2.3.5.6.4.
use Rattle.std.specs.Prelude.{ℕ, List, [], ◌∷◌, Bool, cond, ◌&&◌, None}
use Rattle.octets.specs.Octets.{zeros, same, all_zero}
use Rattle.method.specs.Method.{set}
use Rattle.frames.specs.Packets.{random_code, pairing_random}
use Rattle.protocol.specs.declared.Event.{Event}
use Rattle.protocol.specs.declared.Event.TheVariants as I
use Rattle.protocol.specs.declared.Failure.TheVariants as F
use Rattle.protocol.specs.declared.OobData.{OobData}
use Rattle.protocol.specs.declared.Question.TheVariants as Q
use Rattle.protocol.specs.Plan.{Plan, Ending, ends, asks, draws_nonce, tests, goes, needs, unlisted}
use Rattle.protocol.specs.Parts.{value, ask_f4}
use Rattle.protocol.specs.Exchanged.{set_secrets, set_nonces}
use Rattle.machine.specs.declared.Phase.TheVariants as P
use Rattle.machine.specs.declared.State.{State}
use Rattle.machine.specs.State.{to}

-- random and confirm all zero: no data of the peer's has come
abbrev pub absent : OobData → Bool
absent o = all_zero o.peerrandom && all_zero o.peerconfirm

-- the peer's random is its secret; ours counts only where the peer has our data
abbrev pub received : State → OobData → Ending State
received m o =
    goes (to m P.WaitingOobRandom (set_secrets m.secrets o.peerrandom (cond (set m.features.oob) o.ownrandom (zeros 16)))) [] None

-- the data: the peer's confirm is f4(peer x, peer x, peer random, 0)
abbrev pub receiving : State → OobData → Plan State
receiving m o =
    tests (absent o) (ends (received m o))
    (asks (ask_f4 Q.PeerConfirm m.secrets.peerx m.secrets.peerx o.peerrandom 0) λ confirm.
    needs (same o.peerconfirm confirm) F.ConfirmValueFailed (ends (received m o)))

-- an event in WaitingOobData
abbrev pub on_oob_data : State → Event → Plan State
on_oob_data m (I.LinkEncryptedResult ok) = unlisted
on_oob_data m I.PassKeyConfirm = unlisted
on_oob_data m I.PassKeyCancel = unlisted
on_oob_data m (I.PassKeyInput p) = unlisted
on_oob_data m (I.OobDataReceived o) = receiving m o

-- a fresh nonce answers the peer's
abbrev pub answering : State → List ℕ → Plan State
answering m peer = draws_nonce λ own. ends (goes (to m P.WaitingDHKeyEa (set_nonces m.secrets peer own)) (pairing_random own ∷ []) None)

-- a command in WaitingOobRandom
abbrev pub on_oob_random : State → ℕ → List ℕ → Plan State
on_oob_random m code body = value random_code F.InvalidValue code body λ peer. answering m peer
