-- The payloads of commands and events, rows and offsets as in docs/CALLS.md. Both begin with the outbox's length and the supplied values,
-- 156 bytes. The supplied values' offsets are two more than in their own table.
use Rattle.std.specs.Prelude.{ℕ, ◌+◌, ◌*◌, ◌/◌, ◌%◌, List, [], ◌∷◌, ◌++◌, Bool, true, false, cond, Option, Some, None, length, get_or, eqb, leb}
use Rattle.protocol.specs.declared.Event.{Event}
use Rattle.protocol.specs.declared.Event.TheVariants as I
use Rattle.protocol.specs.declared.OobData.{OobData}
use Rattle.protocol.specs.declared.Given.{Given}
use Rattle.protocol.specs.declared.Supplied.{Supplied}
use Rattle.inputs.specs.declared.Call.{Call}
use Rattle.inputs.specs.declared.Came.{Came}
use Rattle.inputs.specs.declared.Came.TheVariants.{LinkEncryptedResult, PassKeyConfirm, PassKeyCancel, PassKeyInput, OobDataReceived}
use Rattle.inputs.specs.declared.EventCall.{EventCall}
use Rattle.octets.specs.Octets.{zeros}
use Rattle.fields.specs.Fields.{little, number_at, field, flag_number, flag_at, one, join, every, at_most}

-- which answers are given: a bit each
abbrev pub given_number : Given → ℕ
given_number g =
    flag_number g.dh
    + 2 * flag_number g.ownconfirm
    + 4 * flag_number g.peerconfirm
    + 8 * flag_number g.g2
    + 16 * flag_number g.f5
    + 32 * flag_number g.peercheck
    + 64 * flag_number g.owncheck

abbrev pub given_of : ℕ → Given
given_of n =
    record {
      dh = eqb (n % 2) 1;
      ownconfirm = eqb (n / 2 % 2) 1;
      peerconfirm = eqb (n / 4 % 2) 1;
      g2 = eqb (n / 8 % 2) 1;
      f5 = eqb (n / 16 % 2) 1;
      peercheck = eqb (n / 32 % 2) 1;
      owncheck = eqb (n / 64 % 2) 1;
    }

-- the rows of the first 156 bytes, with their offsets
abbrev pub call_rows : Call → List (List ℕ)
call_rows c =
    little 2 c.outbox  -- 0
    ∷ one (given_number c.given)  -- 2
    ∷ c.supplied.nonce  -- 3
    ∷ little 4 c.supplied.passkey  -- 19
    ∷ one (flag_number c.supplied.dhvalid)  -- 23
    ∷ c.supplied.dhkey  -- 24
    ∷ c.supplied.ownconfirm  -- 56
    ∷ c.supplied.peerconfirm  -- 72
    ∷ little 4 c.supplied.g2  -- 88
    ∷ c.supplied.mackey  -- 92
    ∷ c.supplied.ltk  -- 108
    ∷ c.supplied.peercheck  -- 124
    ∷ c.supplied.owncheck  -- 140
    ∷ []

-- what they say
abbrev pub supplied_at : List ℕ → Supplied
supplied_at l =
    record {
      nonce = field 16 3 l;
      passkey = number_at 4 19 l;
      dhvalid = flag_at 23 l;
      dhkey = field 32 24 l;
      ownconfirm = field 16 56 l;
      peerconfirm = field 16 72 l;
      g2 = number_at 4 88 l;
      mackey = field 16 92 l;
      ltk = field 16 108 l;
      peercheck = field 16 124 l;
      owncheck = field 16 140 l;
    }

unfoldable pub call_at : List ℕ → Call
call_at l = record { outbox = number_at 2 0 l; given = given_of (get_or l 2 0); supplied = supplied_at l }

-- their length and ranges
unfoldable pub call_fits : List ℕ → Bool
call_fits l = every (leb 156 (length l) ∷ leb (number_at 2 0 l) 512 ∷ at_most 2 127 l ∷ at_most 23 1 l ∷ [])

-- A command: the rows, and the command behind them

-- the payload; none where the outbox's length is above 512 or the payload would be
unfoldable pub command_octets : Call → List ℕ → List ℕ
command_octets c cmd = cond (leb c.outbox 512) (cond (leb (length cmd) 356) (join (call_rows c) ++ cmd) []) []

unfoldable pub command_fits : List ℕ → Bool
command_fits l = cond (leb (length l) 512) (call_fits l) false

-- nothing in a payload that doesn't fit
unfoldable pub read_command : List ℕ → Option Call
read_command l = cond (command_fits l) (Some (call_at l)) None

-- An event: its byte, its number and the out-of-band values

abbrev pub event_number : Came → ℕ
event_number (LinkEncryptedResult encrypted) = 1
event_number PassKeyConfirm = 2
event_number PassKeyCancel = 3
event_number (PassKeyInput passkey) = 4
event_number OobDataReceived = 5

abbrev pub event_value : Came → ℕ
event_value (LinkEncryptedResult encrypted) = flag_number encrypted
event_value PassKeyConfirm = 0
event_value PassKeyCancel = 0
event_value (PassKeyInput passkey) = passkey
event_value OobDataReceived = 0

abbrev pub event_of : ℕ → ℕ → Came
event_of k n =
    cond (eqb k 1) (LinkEncryptedResult (eqb n 1))
    (cond (eqb k 2) PassKeyConfirm
    (cond (eqb k 3) PassKeyCancel
    (cond (eqb k 4) (PassKeyInput n)
    OobDataReceived)))

-- whether there is such an event, and its number is in range
abbrev pub number_fits : ℕ → ℕ → Bool
number_fits k n =
    cond (eqb k 1) (leb n 1)
    (cond (eqb k 2) (eqb n 0)
    (cond (eqb k 3) (eqb n 0)
    (cond (eqb k 4) true
    (cond (eqb k 5) (eqb n 0)
    false))))

-- the event, with the out-of-band values where they are its own
abbrev pub event_in : Came → OobData → Event
event_in (LinkEncryptedResult encrypted) o = I.LinkEncryptedResult encrypted
event_in PassKeyConfirm o = I.PassKeyConfirm
event_in PassKeyCancel o = I.PassKeyCancel
event_in (PassKeyInput passkey) o = I.PassKeyInput passkey
event_in OobDataReceived o = I.OobDataReceived o

-- which event it is, and its out-of-band values: zeros where it has none
abbrev pub came_of : Event → Came
came_of (I.LinkEncryptedResult encrypted) = LinkEncryptedResult encrypted
came_of I.PassKeyConfirm = PassKeyConfirm
came_of I.PassKeyCancel = PassKeyCancel
came_of (I.PassKeyInput passkey) = PassKeyInput passkey
came_of (I.OobDataReceived o) = OobDataReceived

abbrev pub no_values : OobData
no_values = record { ownrandom = zeros 16; peerrandom = zeros 16; peerconfirm = zeros 16 }

abbrev pub values_of : Event → OobData
values_of (I.LinkEncryptedResult encrypted) = no_values
values_of I.PassKeyConfirm = no_values
values_of I.PassKeyCancel = no_values
values_of (I.PassKeyInput passkey) = no_values
values_of (I.OobDataReceived o) = o

-- the call of an event
abbrev pub event_call_of : Call → Event → EventCall
event_call_of c e = record { call = c; came = came_of e; values = values_of e }

-- the rows behind the first 156 bytes, with their offsets
abbrev pub event_rows : EventCall → List (List ℕ)
event_rows c =
    one (event_number c.came)  -- 156
    ∷ little 4 (event_value c.came)  -- 157
    ∷ c.values.ownrandom  -- 161
    ∷ c.values.peerrandom  -- 177
    ∷ c.values.peerconfirm  -- 193
    ∷ []

-- the payload; none where the outbox's length is above 512
unfoldable pub event_octets : EventCall → List ℕ
event_octets c = cond (leb c.call.outbox 512) (join (call_rows c.call) ++ join (event_rows c)) []

unfoldable pub event_call : List ℕ → EventCall
event_call l =
    record {
      call = call_at l;
      came = event_of (get_or l 156 0) (number_at 4 157 l);
      values = record { ownrandom = field 16 161 l; peerrandom = field 16 177 l; peerconfirm = field 16 193 l };
    }

unfoldable pub event_fits : List ℕ → Bool
event_fits l = cond (eqb (length l) 209) (cond (call_fits l) (number_fits (get_or l 156 0) (number_at 4 157 l)) false) false

-- nothing in a payload that doesn't fit
unfoldable pub read_event : List ℕ → Option EventCall
read_event l = cond (event_fits l) (Some (event_call l)) None
