-- What a failed call has asked, what may come before its end, and what a call comes to that goes on.
use Rattle.std.specs.Prelude.{ℕ, ◌≤◌, ◌≡◌, ◌⊎◌, List, [], ◌∷◌, map, Bool, true, false, Option, Some, None, IsSome}
use Rattle.frames.specs.Packets.{request_code}
use Rattle.protocol.specs.declared.Action.{Action}
use Rattle.protocol.specs.declared.Action.TheVariants as X
use Rattle.protocol.specs.declared.ConnectionEvent.{ConnectionEvent}
use Rattle.protocol.specs.declared.ConnectionEvent.TheVariants as E
use Rattle.protocol.specs.declared.Failure.{Failure}
use Rattle.protocol.specs.declared.Failure.TheVariants as F
use Rattle.protocol.specs.declared.Question.{Question}
use Rattle.protocol.specs.declared.QuestionKind.{QuestionKind}
use Rattle.protocol.specs.declared.QuestionKind.TheVariants as K
use Rattle.protocol.specs.Plan.{kind_of}
use Rattle.protocol.specs.Role.{Input, command, Call, enough}
use Rattle.machine.specs.declared.Phase.TheVariants as P
use Rattle.machine.specs.declared.State.{State}
use Rattle.machine.specs.State.{finished_phase}
use Rattle.machine.specs.Keys.{wants_bonding, completing, storing}

-- a request while a bond is known: the peer has lost it
pub data Loses (m : State) : Input → Type 0 where
  loses : {code : ℕ} {body : List ℕ} → m.phase ≡ P.WaitingPairingRequest → code ≡ request_code → IsSome m.setup.known → Loses m (command (code ∷ body))

-- the event that may come first: BondLost, where the bond is lost and the outbox is long enough
abbrev pub Before : State → Call → Option ConnectionEvent → Type 0
Before m c first = (first ≡ None) ⊎ ((first ≡ Some E.BondLost) × (enough ≤ c.room) × Loses m c.input)

-- the failures that an answer decides: a wrong confirm, an invalid key or a wrong check
abbrev pub by_answer : Failure → Bool
by_answer F.InvalidState = false
by_answer F.InvalidValue = false
by_answer F.Timeout = false
by_answer F.PasskeyEntryFailed = false
by_answer F.AuthenticationRequirements = false
by_answer F.ConfirmValueFailed = true
by_answer F.EncryptionKeySize = false
by_answer F.InvalidParameters = false
by_answer F.DHKeyCheckFailed = true
by_answer F.NumericComparisonFailed = false
by_answer F.KeyRejected = false

-- what a failing call has asked: the last question is the one whose answer failed it, and any other failure comes before all questions.
-- (A check of a wrong size has asked what a wrong check asks)
pub data Asked : Failure → List QuestionKind → Type 0 where
  nothing : {f : Failure} → by_answer f ≡ false → Asked f []
  key : Asked F.DHKeyCheckFailed (K.DH ∷ [])
  confirm : Asked F.ConfirmValueFailed (K.PeerConfirm ∷ [])
  check : Asked F.DHKeyCheckFailed (K.F5 ∷ K.PeerCheck ∷ [])

-- the kinds of the questions, in order
abbrev pub kinds : List Question → List QuestionKind
kinds qs = map kind_of qs

-- A call that goes on

-- the pairing is complete; the bond is to be stored
abbrev pub complete : Option ConnectionEvent → Bool
complete None = false
complete (Some E.BondLost) = false
complete (Some E.OobRequest) = false
complete (Some (E.PassKeyDisplay p)) = false
complete (Some E.PassKeyInput) = false
complete (Some (E.PassKeyConfirm n)) = false
complete (Some (E.PairingComplete level stored)) = true
complete (Some (E.PairingFailed f)) = false

abbrev pub stored : Option Action → Bool
stored None = false
stored (Some (X.EnableEncryption b)) = false
stored (Some (X.StoreBond b)) = true

-- a call that is taken comes to an unfinished phase, or to Success, which alone completes the pairing
pub data Onward : State → Option ConnectionEvent → Option Action → Type 0 where
  goes : {s : State} {e : Option ConnectionEvent} {x : Option Action} → finished_phase s.phase ≡ false → complete e ≡ false → stored x ≡ false → Onward s e x
  succeeds : {s : State} → s.phase ≡ P.Success → Onward s (completing s.bond (wants_bonding s)) (storing s.bond (wants_bonding s))
