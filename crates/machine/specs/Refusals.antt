-- When a call is refused: R1, R2 and R3 of the scope.
use Rattle.std.specs.Prelude.{ℕ, ◌<◌, ◌≤◌, ◌≡◌, List, ◌∷◌, true, false, None}
use Rattle.method.specs.declared.PassKeyEntryAction.{PassKeyEntryAction}
use Rattle.method.specs.declared.PassKeyEntryAction.TheVariants as W
use Rattle.method.specs.declared.PairingMethod.TheVariants.{PassKeyEntry}
use Rattle.frames.specs.Packets.{public_key_code}
use Rattle.protocol.specs.declared.Event.TheVariants as I
use Rattle.protocol.specs.declared.Refusal.{Refusal}
use Rattle.protocol.specs.declared.Refusal.TheVariants as R
use Rattle.protocol.specs.declared.Supplied.{Supplied}
use Rattle.protocol.specs.Parts.{is_key}
use Rattle.protocol.specs.Role.{Input, command, event, Call, enough}
use Rattle.machine.specs.declared.Phase.TheVariants as P
use Rattle.machine.specs.declared.State.{State}
use Rattle.machine.specs.State.{finished_phase}

-- the call reads the drawn passkey: a public key comes, DH is valid, the passkey is shown here, and none is configured
pub data ReadsPasskey (m : State) (a : Supplied) : Input → Type 0 where
  reads : {code : ℕ} {body : List ℕ} (central : PassKeyEntryAction) → m.phase ≡ P.WaitingPublicKey → code ≡ public_key_code → is_key body ≡ true → a.dhvalid ≡ true
      → m.method ≡ PassKeyEntry central W.Display → m.setup.passkey ≡ None → ReadsPasskey m a (command (code ∷ body))

-- a passkey event, or a drawn passkey that this call reads, above 999,999
pub data Outside (m : State) (a : Supplied) : Input → Type 0 where
  typed : {p : ℕ} → 999999 < p → Outside m a (event (I.PassKeyInput p))
  drawn : {i : Input} → ReadsPasskey m a i → 999999 < a.passkey → Outside m a i

-- R1, R2 and R3, each where those before it are not given
abbrev pub Refuses : State → Call → Refusal → Type 0
Refuses m c R.Finished = finished_phase m.phase ≡ true
Refuses m c R.OutboxShort = (finished_phase m.phase ≡ false) × (c.room < enough)
Refuses m c R.PasskeyRange = (finished_phase m.phase ≡ false) × (enough ≤ c.room) × Outside m c.supplied c.input
