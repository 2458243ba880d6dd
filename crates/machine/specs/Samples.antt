-- The scope's sample pairings, P1 to P10, as one table: what comes in, and what comes of it.
use Rattle.std.specs.Prelude.{ℕ, List, [], ◌∷◌, ◌++◌, map, Bool, true, false, replicate, None}
use Rattle.octets.specs.Octets.{zeros}
use Rattle.features.specs.declared.IoCapabilities.{IoCapabilities}
use Rattle.features.specs.declared.IoCapabilities.TheVariants.{DisplayOnly, DisplayYesNo}
use Rattle.features.specs.declared.PairingFeatures.{PairingFeatures}
use Rattle.features.specs.declared.UseOutOfBand.{UseOutOfBand}
use Rattle.features.specs.declared.UseOutOfBand.TheVariants.{NotPresent, Present}
use Rattle.features.specs.Bits.{our_auth_req}
use Rattle.rounds.specs.Rounds.{z_of}
use Rattle.rounds.specs.Samples.{twenty}
use Rattle.method.specs.declared.Kind.TheVariants.{Legacy, SecureConnections}
use Rattle.method.specs.declared.PairingMethod.{PairingMethod}
use Rattle.method.specs.declared.PairingMethod.TheVariants.{JustWorks, NumericComparison, PassKeyEntry, OutOfBand}
use Rattle.method.specs.declared.PassKeyEntryAction.TheVariants as W
use Rattle.method.specs.Method.{method_of}
use Rattle.frames.specs.Packets.{public_key_code, framed, channel}
use Rattle.protocol.specs.declared.Answer.{Answer}
use Rattle.protocol.specs.declared.Answer.TheVariants as A
use Rattle.protocol.specs.declared.Event.TheVariants as I
use Rattle.protocol.specs.declared.Failure.TheVariants as F
use Rattle.protocol.specs.declared.Setup.{Setup}
use Rattle.protocol.specs.declared.Supplied.{Supplied}
use Rattle.protocol.specs.Numbers.{failure_number, refusal_number}
use Rattle.protocol.specs.Plan.{nowhere}
use Rattle.protocol.specs.Role.{Input, command, event, step}
use Rattle.machine.specs.declared.Phase.{Phase}
use Rattle.machine.specs.declared.Phase.TheVariants as P
use Rattle.machine.specs.declared.State.{State}
use Rattle.machine.specs.State.{fresh_state}
use Rattle.machine.specs.Responder.{responder}

-- An answer, by the scope's number
pub data Number : Type 0 where
  taken : Number
  failure refusal : ℕ → Number

abbrev number_of : Answer → Number
number_of A.Taken = taken
number_of (A.Failed f) = failure (failure_number f)
number_of (A.Refused r) = refusal (refusal_number r)

-- A sample: an input to a machine, with a drawn passkey and the outbox's length; a choice of the method; or a passkey
pub data Sample : Type 0 where
  call : State → Input → ℕ → ℕ → Sample
  choice : PairingFeatures → PairingFeatures → Sample
  passkey : ℕ → Sample

-- what comes of it: the phase, the outbox's octets, the method and the number; the LESC and the legacy method; z of the twenty rounds
pub data Result : Type 0 where
  came : Phase → List ℕ → PairingMethod → Number → Result
  methods : PairingMethod → PairingMethod → Result
  rounds : List ℕ → Result

pub data Row : Type 0 where
  row : Sample → Result → Row

-- what is supplied: DH is valid, a passkey is drawn, and all else is zero
abbrev supplied : ℕ → Supplied
supplied drawn =
    record { nonce = zeros 16; passkey = drawn; dhvalid = true; dhkey = zeros 32; ownconfirm = zeros 16; peerconfirm = zeros 16; g2 = 0; mackey = zeros 16; ltk = zeros 16; peercheck = zeros 16; owncheck = zeros 16 }

abbrev comes : Sample → Result
comes (call m i drawn room) =
    let o = step responder m (record { input = i; supplied = supplied drawn; room = room }) in
    came o.next.phase (framed channel o.packets) o.next.method (number_of o.answer)
comes (choice i r) = methods (method_of SecureConnections i r) (method_of Legacy i r)
comes (passkey p) = rounds (map (z_of p) twenty)

-- what a row's sample comes to, and what the row says
abbrev pub made : Row → Result
made (row s r) = comes s

abbrev pub said : Row → Result
said (row s r) = r

-- The samples' parts

-- a DisplayOnly, bonding box without OOB data and with an IRK
abbrev box : Setup
box =
    record { io = DisplayOnly; oob = NotPresent; bonding = true; passkey = None; keyx = zeros 32; keyy = zeros 32; irk = replicate 16 1; own = nowhere; identity = nowhere; peer = nowhere; known = None }

-- it, in a phase and with a method
abbrev standing : Phase → PairingMethod → State
standing p w =
    let m = fresh_state box in
    record { phase = p; setup = m.setup; features = m.features; method = w; secrets = m.secrets; bond = m.bond; peer = m.peer }

-- a command to it, fresh, and with 90 octets of outbox
abbrev asked : List ℕ → Sample
asked cmd = call (fresh_state box) (command cmd) 0 90

-- P1's request, and P1's response
abbrev request : List ℕ
request = 0x01 ∷ 0x04 ∷ 0x00 ∷ 0x0D ∷ 0x10 ∷ 0x02 ∷ 0x02 ∷ []

abbrev response : List ℕ
response = 0x07 ∷ 0x00 ∷ 0x06 ∷ 0x00 ∷ 0x02 ∷ 0x00 ∷ 0x00 ∷ 0x0D ∷ 0x10 ∷ 0x02 ∷ 0x02 ∷ []

-- the passkey is shown here; the passkey is typed here
abbrev shown : PairingMethod
shown = PassKeyEntry W.Input W.Display

abbrev typed : PairingMethod
typed = PassKeyEntry W.Display W.Input

-- a public key to the box, with a method and a drawn passkey
abbrev keyed : PairingMethod → ℕ → ℕ → Sample
keyed w drawn room = call (standing P.WaitingPublicKey w) (command (public_key_code ∷ replicate 64 0)) drawn room

-- its public key, of zeros, and its confirm
abbrev key : List ℕ
key = 0x41 ∷ 0x00 ∷ 0x06 ∷ 0x00 ∷ 0x0C ∷ replicate 64 0

abbrev confirm : List ℕ
confirm = 0x11 ∷ 0x00 ∷ 0x06 ∷ 0x00 ∷ 0x03 ∷ replicate 16 0

-- a passkey typed at the box
abbrev entered : ℕ → Sample
entered p = call (standing (P.WaitingPassKeyInput None) typed) (event (I.PassKeyInput p)) 0 90

-- features of which the choice reads IO, OOB and MITM
abbrev features : IoCapabilities → UseOutOfBand → Bool → PairingFeatures
features io oob mitm = record { io = io; oob = oob; authreq = our_auth_req false mitm; keysize = 16; initiator = 0; responder = 0 }

unfoldable pub rows : List Row
rows =
    -- P1
    row (asked request) (came P.WaitingPublicKey response shown taken)
    -- P2: key size 0F
    ∷ row (asked (0x01 ∷ 0x04 ∷ 0x00 ∷ 0x0D ∷ 0x0F ∷ 0x02 ∷ 0x02 ∷ [])) (came (P.Error F.EncryptionKeySize) [] JustWorks (failure 38))
    -- P3: key size 11
    ∷ row (asked (0x01 ∷ 0x04 ∷ 0x00 ∷ 0x0D ∷ 0x11 ∷ 0x02 ∷ 0x02 ∷ [])) (came P.WaitingPublicKey response shown taken)
    -- P4: IO 05 with size 07; no secure connections with size 07
    ∷ row (asked (0x01 ∷ 0x05 ∷ 0x00 ∷ 0x0D ∷ 0x07 ∷ 0x02 ∷ 0x02 ∷ [])) (came (P.Error F.InvalidParameters) [] JustWorks (failure 42))
    ∷ row (asked (0x01 ∷ 0x04 ∷ 0x00 ∷ 0x05 ∷ 0x07 ∷ 0x02 ∷ 0x02 ∷ [])) (came (P.Error F.AuthenticationRequirements) [] JustWorks (failure 35))
    -- P5: OOB on one side, no MITM
    ∷ row (choice (features DisplayYesNo Present false) (features DisplayYesNo NotPresent false)) (methods OutOfBand JustWorks)
    ∷ row (choice (features DisplayYesNo NotPresent false) (features DisplayYesNo Present false)) (methods OutOfBand JustWorks)
    -- P6: DisplayYesNo twice, MITM
    ∷ row (choice (features DisplayYesNo NotPresent true) (features DisplayYesNo NotPresent true)) (methods NumericComparison JustWorks)
    -- P7: 81 in rounds 0 and 2
    ∷ row (passkey 5)
    (rounds (0x81 ∷ 0x80 ∷ 0x81 ∷ 0x80 ∷ 0x80 ∷ 0x80 ∷ 0x80 ∷ 0x80 ∷ 0x80 ∷ 0x80 ∷ 0x80 ∷ 0x80 ∷ 0x80 ∷ 0x80 ∷ 0x80 ∷ 0x80 ∷ 0x80 ∷ 0x80 ∷ 0x80 ∷ 0x80 ∷ []))
    -- P8: 81 in rounds 0 to 5, 9, 14 and 16 to 19
    ∷ row (passkey 999999)
    (rounds (0x81 ∷ 0x81 ∷ 0x81 ∷ 0x81 ∷ 0x81 ∷ 0x81 ∷ 0x80 ∷ 0x80 ∷ 0x80 ∷ 0x81 ∷ 0x80 ∷ 0x80 ∷ 0x80 ∷ 0x80 ∷ 0x81 ∷ 0x80 ∷ 0x81 ∷ 0x81 ∷ 0x81 ∷ 0x81 ∷ []))
    -- P9: outbox of 89 octets, and of 90: for the request, and for the longest step
    ∷ row (call (fresh_state box) (command request) 0 89) (came P.WaitingPairingRequest [] JustWorks (refusal 2))
    ∷ row (call (fresh_state box) (command request) 0 90) (came P.WaitingPublicKey response shown taken)
    ∷ row (keyed NumericComparison 0 89) (came P.WaitingPublicKey [] NumericComparison (refusal 2))
    ∷ row (keyed NumericComparison 0 90) (came P.WaitingNumericComparisonRandom (key ++ confirm) NumericComparison taken)
    -- P10: passkey 1,000,000 and 999,999, typed and drawn
    ∷ row (entered 1000000) (came (P.WaitingPassKeyInput None) [] typed (refusal 3))
    ∷ row (entered 999999) (came (P.WaitingPassKeyEntryConfirm 0) [] typed taken)
    ∷ row (keyed shown 1000000 90) (came P.WaitingPublicKey [] shown (refusal 3))
    ∷ row (keyed shown 999999 90) (came (P.WaitingPassKeyEntryConfirm 0) key shown taken)
    ∷ []
