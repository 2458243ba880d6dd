-- Sample runs: for each method a pairing that takes as many calls as that method can take, and some that meet the other premises.
use Rattle.std.specs.Prelude.{ℕ, zero, suc, ◌-◌, List, [], ◌∷◌, ◌++◌, map, Bool, true, false, length, replicate, None}
use Rattle.octets.specs.Octets.{zeros}
use Rattle.features.specs.declared.IoCapabilities.{IoCapabilities}
use Rattle.features.specs.declared.IoCapabilities.TheVariants.{DisplayOnly, DisplayYesNo, KeyboardOnly, NoInputNoOutput}
use Rattle.features.specs.declared.UseOutOfBand.{UseOutOfBand}
use Rattle.features.specs.declared.UseOutOfBand.TheVariants.{NotPresent, Present}
use Rattle.method.specs.declared.PairingMethod.{PairingMethod}
use Rattle.method.specs.declared.PairingMethod.TheVariants.{JustWorks, NumericComparison, PassKeyEntry, OutOfBand}
use Rattle.method.specs.declared.PassKeyEntryAction.TheVariants as W
use Rattle.frames.specs.Packets.{request_code, public_key_code, confirm_code, random_code, check_code, identity_information_code, identity_address_code}
use Rattle.protocol.specs.declared.Event.{Event}
use Rattle.protocol.specs.declared.Event.TheVariants as I
use Rattle.protocol.specs.declared.OobData.{OobData}
use Rattle.protocol.specs.declared.Setup.{Setup}
use Rattle.protocol.specs.declared.Supplied.{Supplied}
use Rattle.protocol.specs.Plan.{nowhere}
use Rattle.protocol.specs.Role.{Call, command, event, enough}
use Rattle.machine.specs.declared.Phase.{Phase}
use Rattle.machine.specs.declared.Phase.TheVariants as P
use Rattle.machine.specs.State.{finished_phase, fresh_state}
use Rattle.machine.specs.Run.{begun, taken, trace}

-- a box, by its IO and OOB
abbrev pub box : IoCapabilities → UseOutOfBand → Setup
box io oob =
    record { io = io; oob = oob; bonding = true; passkey = None; keyx = zeros 32; keyy = zeros 32; irk = zeros 16; own = nowhere; identity = nowhere; peer = nowhere; known = None }

-- a value as it travels, and as it is supplied
abbrev pub sixteen : List ℕ
sixteen = 0 ∷ 1 ∷ 2 ∷ 3 ∷ 4 ∷ 5 ∷ 6 ∷ 7 ∷ 8 ∷ 9 ∷ 10 ∷ 11 ∷ 12 ∷ 13 ∷ 14 ∷ 15 ∷ []

abbrev pub turned : List ℕ
turned = 15 ∷ 14 ∷ 13 ∷ 12 ∷ 11 ∷ 10 ∷ 9 ∷ 8 ∷ 7 ∷ 6 ∷ 5 ∷ 4 ∷ 3 ∷ 2 ∷ 1 ∷ 0 ∷ []

-- what is supplied, with what the peer's confirm must be
abbrev pub given : List ℕ → Supplied
given v =
    record { nonce = turned; passkey = 999999; dhvalid = true; dhkey = zeros 32; ownconfirm = zeros 16; peerconfirm = v; g2 = 0; mackey = zeros 16; ltk = turned; peercheck = turned; owncheck = zeros 16 }

abbrev pub tell : ℕ → List ℕ → Call
tell k w = record { input = command (k ∷ w); supplied = given turned; room = enough }

abbrev pub raise : Event → Call
raise e = record { input = event e; supplied = given turned; room = enough }

-- a request of a peer with a keyboard and a display that asks MITM, with its initiator key bits
abbrev pub asking : ℕ → Call
asking bits = tell request_code (4 ∷ 0 ∷ 0x0D ∷ 16 ∷ bits ∷ 2 ∷ [])

abbrev pub key : Call
key = tell public_key_code (zeros 64)

-- n rounds, and what follows
unfoldable pub rounds : ℕ → List Call → List Call
rounds zero rest = rest
rounds (suc n) rest = tell confirm_code sixteen ∷ tell random_code sixteen ∷ rounds n rest

-- the link is encrypted, and the peer's identity comes; the same after the DHKey check
abbrev pub identity : List Call
identity = raise (I.LinkEncryptedResult true) ∷ tell identity_information_code sixteen ∷ tell identity_address_code (1 ∷ zeros 6) ∷ []

abbrev pub ending : List Call
ending = tell check_code sixteen ∷ identity

-- passkey typed here, round 0's confirm after it or before it: 47 calls
abbrev pub typed_run : List Call
typed_run = asking 2 ∷ key ∷ raise (I.PassKeyInput 123456) ∷ rounds 20 ending

abbrev pub late_run : List Call
late_run = asking 2 ∷ key ∷ tell confirm_code sixteen ∷ raise (I.PassKeyInput 123456) ∷ tell random_code sixteen ∷ rounds 19 ending

-- passkey shown here: 46
abbrev pub shown_run : List Call
shown_run = asking 2 ∷ key ∷ rounds 20 ending

-- numeric comparison, the check after the user's yes or before it: 8
abbrev pub compared_run : List Call
compared_run = asking 2 ∷ key ∷ tell random_code sixteen ∷ raise I.PassKeyConfirm ∷ ending

abbrev pub held_run : List Call
held_run = asking 2 ∷ key ∷ tell random_code sixteen ∷ tell check_code sixteen ∷ raise I.PassKeyConfirm ∷ identity

-- out of band, with no data of the peer's: 8
abbrev pub absent_data : OobData
absent_data = record { ownrandom = zeros 16; peerrandom = zeros 16; peerconfirm = zeros 16 }

abbrev pub oob_run : List Call
oob_run = asking 2 ∷ key ∷ raise (I.OobDataReceived absent_data) ∷ tell random_code sixteen ∷ ending

-- Just Works: 7, and 5 where the peer's initiator bit is not set
abbrev pub works_run : List Call
works_run = asking 2 ∷ key ∷ tell random_code sixteen ∷ ending

abbrev pub bare_run : List Call
bare_run = asking 0 ∷ key ∷ tell random_code sixteen ∷ tell check_code sixteen ∷ raise (I.LinkEncryptedResult true) ∷ []

-- a bonded link, no pairing: 1
abbrev pub bonded_run : List Call
bonded_run = raise (I.LinkEncryptedResult true) ∷ []

-- a random of round 0 with another peerconfirm than the confirm that came
abbrev pub wrong_run : List Call
wrong_run = asking 2 ∷ key ∷ tell confirm_code sixteen ∷ record { input = command (random_code ∷ sixteen); supplied = given sixteen; room = enough } ∷ []

-- three refused calls among those of a bonded link: an outbox too short, a passkey out of range, and one after the end
abbrev pub refused_run : List Call
refused_run = record { input = command (request_code ∷ []); supplied = given turned; room = enough - 1 } ∷ raise (I.PassKeyInput 1000000) ∷ raise (I.LinkEncryptedResult true) ∷ key ∷ []

-- a run of a box, its method, and how many calls it takes
pub record Sample : Type 0 where
  pub setup : Setup
  pub calls : List Call
  pub method : PairingMethod
  pub takes : ℕ

-- what comes of a sample: the method, how many calls were taken, after each call whether the machine is finished, and its last phase
abbrev pub Came : Type 0
Came = PairingMethod × ℕ × List Bool × Phase

abbrev pub made : Sample → Came
made s =
    let m = begun s.setup s.calls in
    (m.method, length (taken s.setup s.calls), map finished_phase (trace (fresh_state s.setup) s.calls), m.phase)

-- every call is taken, and the last one finishes the machine
abbrev pub said : Sample → Came
said s = (s.method, s.takes, replicate (s.takes - 1) false ++ (true ∷ []), P.Success)

-- the first seven take as many calls as their method can
unfoldable pub samples : List Sample
samples =
    record { setup = box KeyboardOnly NotPresent; calls = typed_run; method = PassKeyEntry W.Display W.Input; takes = 47 }
    ∷ record { setup = box KeyboardOnly NotPresent; calls = late_run; method = PassKeyEntry W.Display W.Input; takes = 47 }
    ∷ record { setup = box DisplayOnly NotPresent; calls = shown_run; method = PassKeyEntry W.Input W.Display; takes = 46 }
    ∷ record { setup = box DisplayYesNo NotPresent; calls = compared_run; method = NumericComparison; takes = 8 }
    ∷ record { setup = box DisplayYesNo NotPresent; calls = held_run; method = NumericComparison; takes = 8 }
    ∷ record { setup = box DisplayOnly Present; calls = oob_run; method = OutOfBand; takes = 8 }
    ∷ record { setup = box NoInputNoOutput NotPresent; calls = works_run; method = JustWorks; takes = 7 }
    ∷ record { setup = box NoInputNoOutput NotPresent; calls = bare_run; method = JustWorks; takes = 5 }
    ∷ record { setup = box NoInputNoOutput NotPresent; calls = bonded_run; method = JustWorks; takes = 1 }
    ∷ []
