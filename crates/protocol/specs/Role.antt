-- A role is what it plans for each input. Step, questions, run and history are the same for every role.
use Rattle.std.specs.Prelude.{ℕ, ◌<◌, List, [], ◌∷◌, Bool, true, false, cond, ltb, Option, Some, None, Result, Ok, Err, ⊤}
use Rattle.rounds.specs.Rounds.{in_range}
use Rattle.frames.specs.Packets.{Packet}
use Rattle.protocol.specs.declared.Action.{Action}
use Rattle.protocol.specs.declared.Answer.{Answer}
use Rattle.protocol.specs.declared.Answer.TheVariants as A
use Rattle.protocol.specs.declared.ConnectionEvent.{ConnectionEvent}
use Rattle.protocol.specs.declared.ConnectionEvent.TheVariants as E
use Rattle.protocol.specs.declared.Event.{Event}
use Rattle.protocol.specs.declared.Event.TheVariants as I
use Rattle.protocol.specs.declared.Failure.{Failure}
use Rattle.protocol.specs.declared.Failure.TheVariants as F
use Rattle.protocol.specs.declared.Question.{Question}
use Rattle.protocol.specs.declared.Refusal.{Refusal}
use Rattle.protocol.specs.declared.Refusal.TheVariants as R
use Rattle.protocol.specs.declared.Supplied.{Supplied}
use Rattle.protocol.specs.Plan.{Plan, Ending, ends, tests, refuses, fails, moves, runs, asked}

-- Calls

-- what a call brings: a command's octets, or an event
pub data Input : Type 0 where
  command : List ℕ → Input
  event : Event → Input

-- a call: an input, what is supplied with it, and the outbox's length
pub record Call : Type 0 where
  pub input : Input
  pub supplied : Supplied
  pub room : ℕ

-- the passkey of an event is in range
abbrev pub ranged : Input → Bool
ranged (command cmd) = true
ranged (event (I.LinkEncryptedResult ok)) = true
ranged (event I.PassKeyConfirm) = true
ranged (event I.PassKeyCancel) = true
ranged (event (I.PassKeyInput p)) = in_range p
ranged (event (I.OobDataReceived o)) = true

-- the longest step sends a public key and a confirm
abbrev pub enough : ℕ
enough = 90

-- R1, R2 and R3, in this order, by their tests: finished, the outbox too short, the passkey in range
unfoldable pub gate_of : Bool → Bool → Bool → Result ⊤ Refusal
gate_of finished short range = cond finished (Err R.Finished) (cond short (Err R.OutboxShort) (cond range (Ok tt) (Err R.PasskeyRange)))

-- Roles

pub record Role (S : Type 0) : Type 0 where
  pub finished : S → Bool
  -- the state after a failure
  pub failed : S → Failure → S
  -- the plans for a command's code and payload, and for an event
  pub commanded : S → ℕ → List ℕ → Plan S
  pub raised : S → Event → Plan S

-- what a call comes to
pub record Outcome (S : Type 0) : Type 0 where
  pub next : S
  pub packets : List Packet
  pub first : Option ConnectionEvent
  pub second : Option ConnectionEvent
  pub action : Option Action
  pub answer : Answer

module _ {S : Type 0} (role : Role S) where
  -- a refusal changes nothing; a failure sends nothing, does nothing, and raises PairingFailed last
  abbrev pub said : S → Ending S → Outcome S
  said m (refuses r) = record { next = m; packets = []; first = None; second = None; action = None; answer = A.Refused r }
  said m (fails e f) = record { next = role.failed m f; packets = []; first = e; second = Some (E.PairingFailed f); action = None; answer = A.Failed f }
  said m (moves s ps e e' a) = record { next = s; packets = ps; first = e; second = e'; action = a; answer = A.Taken }

  -- an empty command fails
  abbrev pub taking : S → Input → Plan S
  taking m (command []) = ends (fails None F.InvalidParameters)
  taking m (command (code ∷ body)) = role.commanded m code body
  taking m (event e) = role.raised m e

  -- R1, R2 and R3, in this order, before the plan. (A drawn passkey is tested where it is drawn)
  abbrev pub plan : S → Input → ℕ → Plan S
  plan m i room =
      tests (role.finished m) (ends (refuses R.Finished))
      (tests (ltb room enough) (ends (refuses R.OutboxShort))
      (tests (ranged i) (taking m i) (ends (refuses R.PasskeyRange))))

  unfoldable pub step : S → Call → Outcome S
  step m c = said m (runs c.supplied (plan m c.input c.room))

  -- what a call asks, whatever its outbox
  unfoldable pub questions : S → Input → Supplied → List Question
  questions m i a = asked a (plan m i enough)

  -- marking a timeout: no input, and nothing where the machine is finished
  unfoldable pub timed_out : S → S
  timed_out m = cond (role.finished m) m (role.failed m F.Timeout)

-- Runs

-- every input that is not refused is taken, a failing one too
abbrev pub is_taken : Answer → Bool
is_taken A.Taken = true
is_taken (A.Failed f) = true
is_taken (A.Refused r) = false

abbrev pub keep : Bool → Call → List Call → List Call
keep true c h = c ∷ h
keep false c h = h

module _ {S : Type 0} (role : Role S) where
  -- the machine after a call, and after a list of calls
  abbrev pub after : S → Call → S
  after m c = (step role m c).next

  unfoldable pub run : S → List Call → S
  run m [] = m
  run m (c ∷ cs) = run (after m c) cs

  -- the calls of a run that were taken
  unfoldable pub history : S → List Call → List Call
  history m [] = []
  history m (c ∷ cs) = keep (is_taken (step role m c).answer) c (history (after m c) cs)

-- every taken call lowers the rank
abbrev pub Lower : {S : Type 0} → Role S → (S → ℕ) → S → Ending S → Type 0
Lower role rank m (refuses r) = Unit {0}
Lower role rank m (fails e f) = rank (role.failed m f) < rank m
Lower role rank m (moves s ps e e' a) = rank s < rank m
