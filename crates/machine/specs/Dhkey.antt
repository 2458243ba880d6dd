-- WaitingDHKeyEa. Part H 2.3.5.6.5. f5 and f6 take the connection's addresses.
use Rattle.std.specs.Prelude.{ℕ, List, [], ◌∷◌, Bool, ◌&&◌, Some, None}
use Rattle.octets.specs.Octets.{zeros, same}
use Rattle.features.specs.Features.{io_cap_of}
use Rattle.method.specs.Method.{level_of}
use Rattle.frames.specs.Packets.{dhkey_check}
use Rattle.protocol.specs.declared.Action.TheVariants as X
use Rattle.protocol.specs.declared.Bond.{Bond}
use Rattle.protocol.specs.declared.Failure.TheVariants as F
use Rattle.protocol.specs.declared.Question.{Question}
use Rattle.protocol.specs.declared.Question.TheVariants as Q
use Rattle.protocol.specs.Plan.{Plan, Ending, ends, asks, moves, needs}
use Rattle.protocol.specs.Parts.{check, ask_f5, ask_f6}
use Rattle.machine.specs.declared.Phase.TheVariants as P
use Rattle.machine.specs.declared.State.{State}
use Rattle.machine.specs.State.{at, bonded}
use Rattle.machine.specs.Request.{own_features}

-- f5(DHKey, peer nonce, our nonce, peer address, our address): MAC key and link key
abbrev pub ask_keys : State → Question
ask_keys m = ask_f5 m.secrets.dhkey m.secrets.peernonce m.secrets.ownnonce m.setup.peer m.setup.own

-- f6(MAC key, peer nonce, our nonce, our secret, peer IOcap, peer address, our address): what the peer's check must be
abbrev pub ask_peer_check : State → List ℕ → Question
ask_peer_check m k =
    ask_f6 Q.PeerCheck k m.secrets.peernonce m.secrets.ownnonce m.secrets.ownsecret (io_cap_of m.features) m.setup.peer m.setup.own

-- f6(MAC key, our nonce, peer nonce, peer secret, our IOcap, our address, peer address): our check
abbrev pub ask_own_check : State → List ℕ → Question
ask_own_check m k =
    ask_f6 Q.OwnCheck k m.secrets.ownnonce m.secrets.peernonce m.secrets.peersecret (io_cap_of (own_features m.setup m.features)) m.setup.own m.setup.peer

-- the link key, the method's level, the peer address, and no IRK
abbrev pub new_bond : State → List ℕ → Bond
new_bond m ltk = record { ltk = ltk; level = level_of m.method; address = m.peer; irk = zeros 16 }

-- a right check: ours answers it, and encryption is enabled with the link key
abbrev pub checked : State → List ℕ → List ℕ → Ending State
checked m ltk own =
    moves (at (bonded m (Some (new_bond m ltk))) P.WaitingLinkEncrypted) (dhkey_check own ∷ []) None None (Some (X.EnableEncryption (new_bond m ltk)))

-- a check, and whether it has the right length: any wrong length fails as a wrong check does
abbrev pub checking : State → Bool → List ℕ → Plan State
checking m whole v =
    asks (ask_keys m) λ keys.
    asks (ask_peer_check m keys.0) λ right.
    needs (whole && same v right) F.DHKeyCheckFailed
    (asks (ask_own_check m keys.0) λ own.
    ends (checked m keys.1 own))

-- a command in WaitingDHKeyEa
abbrev pub on_check : State → ℕ → List ℕ → Plan State
on_check m code body = check code body λ whole v. checking m whole v
