-- WaitingPassKeyInput, WaitingPassKeyEntryConfirm and WaitingPassKeyEntryRandom. Part H 2.3.5.6.3.
use Rattle.std.specs.Prelude.{ℕ, List, [], ◌∷◌, Option, Some, None}
use Rattle.octets.specs.Octets.{same}
use Rattle.rounds.specs.Rounds.{after_of, z_of}
use Rattle.frames.specs.Packets.{confirm_code, random_code, pairing_confirm, pairing_random}
use Rattle.protocol.specs.declared.Event.{Event}
use Rattle.protocol.specs.declared.Event.TheVariants as I
use Rattle.protocol.specs.declared.Failure.TheVariants as F
use Rattle.protocol.specs.declared.Secrets.{Secrets}
use Rattle.protocol.specs.Plan.{Plan, Ending, ends, asks, draws_nonce, fails, goes, needs, unlisted}
use Rattle.protocol.specs.Parts.{value}
use Rattle.protocol.specs.Exchanged.{set_confirm, set_peer_nonce, set_passkey, own_confirm, peer_confirm}
use Rattle.machine.specs.declared.Phase.{Phase}
use Rattle.machine.specs.declared.Phase.TheVariants as P
use Rattle.machine.specs.declared.State.{State}
use Rattle.machine.specs.Holding.{holds}
use Rattle.machine.specs.State.{to}

-- round r's confirm: it is kept, our nonce is drawn, and f4(our x, peer x, our nonce, z) answers it
abbrev pub confirming : State → Secrets → ℕ → List ℕ → Plan State
confirming m s r v =
    draws_nonce λ n. asks (own_confirm m.setup s n (z_of s.passkey r)) λ confirm.
    ends (goes (to m (P.WaitingPassKeyEntryRandom r) (set_confirm s v n)) (pairing_confirm confirm ∷ []) None)

-- a command in WaitingPassKeyInput: an early confirm is held
abbrev pub on_early_confirm : State → Option (List ℕ) → ℕ → List ℕ → Plan State
on_early_confirm m held code body = holds m held confirm_code code body P.WaitingPassKeyInput

-- the passkey is typed: a held confirm is round 0's
abbrev pub typed : State → Option (List ℕ) → ℕ → Plan State
typed m (Some v) p = confirming m (set_passkey m.secrets p) 0 v
typed m None p = ends (goes (to m (P.WaitingPassKeyEntryConfirm 0) (set_passkey m.secrets p)) [] None)

-- an event in WaitingPassKeyInput
abbrev pub on_typing : State → Option (List ℕ) → Event → Plan State
on_typing m held (I.LinkEncryptedResult ok) = unlisted
on_typing m held I.PassKeyConfirm = unlisted
on_typing m held I.PassKeyCancel = ends (fails None F.PasskeyEntryFailed)
on_typing m held (I.PassKeyInput p) = typed m held p
on_typing m held (I.OobDataReceived o) = unlisted

-- a command in WaitingPassKeyEntryConfirm, round r
abbrev pub on_confirm : State → ℕ → ℕ → List ℕ → Plan State
on_confirm m r code body = value confirm_code F.InvalidParameters code body λ v. confirming m m.secrets r v

-- what is waited for after a round
abbrev pub waits : Option ℕ → Phase
waits (Some r) = P.WaitingPassKeyEntryConfirm r
waits None = P.WaitingDHKeyEa

-- round r's random that was compared: our nonce answers it
abbrev pub matched : State → ℕ → List ℕ → Ending State
matched m r n = goes (to m (waits (after_of r)) (set_peer_nonce m.secrets n)) (pairing_random m.secrets.ownnonce ∷ []) None

-- the kept confirm against f4(peer x, our x, peer nonce, z)
abbrev pub testing : State → ℕ → List ℕ → Plan State
testing m r n =
    asks (peer_confirm m.setup m.secrets n (z_of m.secrets.passkey r)) λ confirm.
    needs (same m.secrets.confirm confirm) F.ConfirmValueFailed (ends (matched m r n))

-- a command in WaitingPassKeyEntryRandom, round r
abbrev pub on_random : State → ℕ → ℕ → List ℕ → Plan State
on_random m r code body = value random_code F.InvalidParameters code body λ n. testing m r n
