-- How a pairing begins: awaiting a request, or asking for one with a Security Request (Part H 2.4.6, 3.6.7).
use Rattle.std.specs.Prelude.{ℕ, ◌≡◌, List, [], ◌∷◌, Bool, true, false, cond, ltb, Option, Some, None, Result, Ok, Err, ⊤}
use Rattle.std.specs.Option.{option_map_or}
use Rattle.octets.specs.Write.{laid, wrote}
use Rattle.rounds.specs.Rounds.{in_range}
use Rattle.features.specs.Bits.{our_auth_req}
use Rattle.method.specs.declared.SecurityLevel.{SecurityLevel}
use Rattle.method.specs.declared.SecurityLevel.TheVariants.{NoEncryption, Encrypted, EncryptedAuthenticated}
use Rattle.frames.specs.Packets.{Packet, security_request, framed, channel}
use Rattle.protocol.specs.declared.Refusal.{Refusal}
use Rattle.protocol.specs.declared.Refusal.TheVariants as R
use Rattle.protocol.specs.declared.Failure.TheVariants as F
use Rattle.protocol.specs.declared.Setup.{Setup}
use Rattle.machine.specs.declared.Phase.TheVariants as P
use Rattle.machine.specs.declared.State.{State}
use Rattle.protocol.specs.Role.{enough}
use Rattle.machine.specs.State.{at, fresh_state}
use Rattle.machine.specs.Request.{interactive}
use Rattle.responder.specs.Calls.{responder_of}
use Rattle.wrapper.specs.declared.Begun.{Begun}

-- what a start comes to
pub record Beginning : Type 0 where
  pub next : State
  pub packets : List Packet
  pub answer : Result ⊤ Refusal

-- as it is given back, with n octets in the outbox
abbrev pub begun_of : Beginning → ℕ → Begun
begun_of b n = record { responder = responder_of b.next; sent = n; answer = b.answer }

-- the contract of a start that is lent an outbox
pub record Opened (b : Beginning) (r : Begun) (before after : List ℕ) : Type 0 where
  pub begun : r ≡ begun_of b (wrote (framed channel b.packets) before)
  pub out : after ≡ laid (framed channel b.packets) before

-- a machine that was started
abbrev pub started_of : State → ℕ → Begun
started_of m n = record { responder = responder_of m; sent = n; answer = Ok tt }

-- a configured passkey is in range
abbrev pub suits : Option ℕ → Bool
suits None = true
suits (Some p) = in_range p

-- a fresh machine, with packets
abbrev pub started : Setup → List Packet → Beginning
started s ps = record { next = fresh_state s; packets = ps; answer = Ok tt }

-- a refused start: a machine in Error 16, and nothing sent
unfoldable pub start_refused : Setup → Refusal → Beginning
start_refused s x = record { next = at (fresh_state s) (P.Error F.InvalidState); packets = []; answer = Err x }

-- a start with packets: R3 for a configured passkey out of range
unfoldable pub starting : Setup → List Packet → Beginning
starting s ps = cond (suits s.passkey) (started s ps) (start_refused s R.PasskeyRange)

-- a start that awaits a request
abbrev pub start_of : Setup → Beginning
start_of s = starting s []

abbrev pub authenticated : SecurityLevel → Bool
authenticated NoEncryption = false
authenticated Encrypted = false
authenticated EncryptedAuthenticated = true

-- MITM is asked when we can show or take anything; when the user did not start it and a bond is known, exactly when that bond is authenticated
abbrev pub asks_mitm : Setup → Bool → Bool
asks_mitm s true = interactive s.io
asks_mitm s false = option_map_or (λ b. authenticated b.level) s.known (interactive s.io)

-- a start with a Security Request: R2, then as a plain one
unfoldable pub initiate_of : Setup → Bool → ℕ → Beginning
initiate_of s user room =
    cond (ltb room enough) (start_refused s R.OutboxShort) (starting s (security_request (our_auth_req s.bonding (asks_mitm s user)) ∷ []))
