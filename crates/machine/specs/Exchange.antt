-- WaitingPublicKey: the two public keys, and the first move of each method. Part H 2.3.5.6.1, 2.3.5.6.2.
use Rattle.std.specs.Prelude.{ℕ, List, [], ◌∷◌, Some, None}
use Rattle.method.specs.declared.PairingMethod.{PairingMethod}
use Rattle.method.specs.declared.PairingMethod.TheVariants.{JustWorks, NumericComparison, PassKeyEntry, OutOfBand}
use Rattle.method.specs.declared.PassKeyEntryAction.TheVariants as W
use Rattle.frames.specs.Packets.{Packet, public_key, pairing_confirm}
use Rattle.protocol.specs.declared.ConnectionEvent.TheVariants as E
use Rattle.protocol.specs.declared.Failure.TheVariants as F
use Rattle.protocol.specs.declared.Secrets.{Secrets}
use Rattle.protocol.specs.Plan.{Plan, Ending, ends, asks, draws_nonce, goes, needs}
use Rattle.protocol.specs.Parts.{key, shown, ask_dh}
use Rattle.protocol.specs.Exchanged.{fresh, set_own_nonce, set_passkey, own_confirm}
use Rattle.machine.specs.declared.Phase.TheVariants as P
use Rattle.machine.specs.declared.State.{State}
use Rattle.machine.specs.State.{to}

abbrev pub own_key : State → Packet
own_key m = public_key m.setup.keyx m.setup.keyy

-- Just Works and numeric comparison: our nonce is drawn, and our confirm f4(our x, peer x, our nonce, 0) goes with our key
abbrev pub comparing : State → Secrets → Plan State
comparing m s =
    draws_nonce λ n. asks (own_confirm m.setup s n 0) λ confirm.
    ends (goes (to m P.WaitingNumericComparisonRandom (set_own_nonce s n)) (own_key m ∷ pairing_confirm confirm ∷ []) None)

-- the passkey is shown here: it becomes both secrets
abbrev pub showing : State → Secrets → ℕ → Ending State
showing m s p = goes (to m (P.WaitingPassKeyEntryConfirm 0) (set_passkey s p)) (own_key m ∷ []) (Some (E.PassKeyDisplay p))

-- by the method
abbrev pub begins : PairingMethod → State → Secrets → Plan State
begins OutOfBand m s = ends (goes (to m P.WaitingOobData s) (own_key m ∷ []) (Some E.OobRequest))
begins (PassKeyEntry central W.Display) m s = shown m.setup.passkey λ p. ends (showing m s p)
begins (PassKeyEntry central W.Input) m s = ends (goes (to m (P.WaitingPassKeyInput None) s) (own_key m ∷ []) (Some E.PassKeyInput))
begins JustWorks m s = comparing m s
begins NumericComparison m s = comparing m s

-- the peer's key by its coordinates: whether it is valid, and the DHKey that comes of it
abbrev pub keyed : State → List ℕ → List ℕ → Plan State
keyed m x y = asks (ask_dh x y) λ dh. needs dh.0 F.DHKeyCheckFailed (begins m.method m (fresh x dh.1))

-- a command in WaitingPublicKey
abbrev pub on_key : State → ℕ → List ℕ → Plan State
on_key m code body = key code body λ x y. keyed m x y
