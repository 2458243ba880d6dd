-- The words of docs/CALLS.md for what a line shows.
use Rattle.std.specs.Prelude.{ℕ, ◌-◌, List, [], ◌∷◌, ◌++◌, replicate, Option, None, Some}
use Prim.Native.Char.{code}
use Prim.Native.String.{String, count, [] as none, ◌∷◌ as ◌then◌}
use Rattle.protocol.specs.declared.ConnectionEvent.{ConnectionEvent}
use Rattle.protocol.specs.declared.ConnectionEvent.TheVariants as E
use Rattle.protocol.specs.declared.Failure.{Failure}
use Rattle.protocol.specs.declared.Failure.TheVariants as F
use Rattle.protocol.specs.declared.QuestionKind.{QuestionKind}
use Rattle.protocol.specs.declared.QuestionKind.TheVariants as Q
use Rattle.protocol.specs.declared.Refusal.{Refusal}
use Rattle.protocol.specs.declared.Refusal.TheVariants as R
use Rattle.machine.specs.declared.Phase.{Phase}
use Rattle.machine.specs.declared.Phase.TheVariants as P
use Rattle.method.specs.declared.PairingMethod.{PairingMethod}
use Rattle.method.specs.declared.PairingMethod.TheVariants as M
use Rattle.method.specs.declared.PassKeyEntryAction.{PassKeyEntryAction}
use Rattle.method.specs.declared.PassKeyEntryAction.TheVariants as A
use Rattle.method.specs.declared.SecurityLevel.{SecurityLevel}
use Rattle.method.specs.declared.SecurityLevel.TheVariants as L

-- the characters of a word, an octet for each
unfoldable pub octets : String → List ℕ
octets none = []
octets (c then word) = code c ∷ octets word

-- the word in 36 octets, with spaces behind it
unfoldable pub padded : String → List ℕ
unfolding octets
padded word = octets word ++ replicate (36 - count word) 32

-- behind `failed`, `Error` and `PairingFailed`
abbrev pub failure_name : Failure → String
failure_name F.InvalidState = ":16:InvalidState"
failure_name F.InvalidValue = ":17:InvalidValue"
failure_name F.Timeout = ":18:Timeout"
failure_name F.PasskeyEntryFailed = ":33:PasskeyEntryFailed"
failure_name F.AuthenticationRequirements = ":35:AuthenticationRequirements"
failure_name F.ConfirmValueFailed = ":36:ConfirmValueFailed"
failure_name F.EncryptionKeySize = ":38:EncryptionKeySize"
failure_name F.InvalidParameters = ":42:InvalidParameters"
failure_name F.DHKeyCheckFailed = ":43:DHKeyCheckFailed"
failure_name F.NumericComparisonFailed = ":44:NumericComparisonFailed"
failure_name F.KeyRejected = ":47:KeyRejected"

abbrev pub refusal_name : Refusal → String
refusal_name R.Finished = "refused:1:Finished"
refusal_name R.OutboxShort = "refused:2:OutboxShort"
refusal_name R.PasskeyRange = "refused:3:PasskeyRange"

abbrev pub level_name : SecurityLevel → String
level_name L.NoEncryption = "NoEncryption"
level_name L.Encrypted = "Encrypted"
level_name L.EncryptedAuthenticated = "EncryptedAuthenticated"

-- that both display is a role of no table, and no method that is chosen
abbrev pub entry_name : PassKeyEntryAction → PassKeyEntryAction → String
entry_name A.Display A.Display = "PassKeyEntry:BothDisplay"
entry_name A.Display A.Input = "PassKeyEntry:CentralDisplays"
entry_name A.Input A.Display = "PassKeyEntry:PeripheralDisplays"
entry_name A.Input A.Input = "PassKeyEntry:BothInput"

abbrev pub method_name : PairingMethod → String
method_name M.JustWorks = "JustWorks"
method_name M.NumericComparison = "NumericComparison"
method_name (M.PassKeyEntry central peripheral) = entry_name central peripheral
method_name M.OutOfBand = "OutOfBand"

abbrev pub state_name : Phase → String
state_name P.WaitingPairingRequest = "WaitingPairingRequest"
state_name P.WaitingPublicKey = "WaitingPublicKey"
state_name P.WaitingNumericComparisonRandom = "WaitingNumericComparisonRandom"
state_name (P.WaitingNumericComparisonResult held) = "WaitingNumericComparisonResult"
state_name (P.WaitingPassKeyInput held) = "WaitingPassKeyInput"
state_name (P.WaitingPassKeyEntryConfirm round) = "WaitingPassKeyEntryConfirm"
state_name (P.WaitingPassKeyEntryRandom round) = "WaitingPassKeyEntryRandom"
state_name P.WaitingOobData = "WaitingOobData"
state_name P.WaitingOobRandom = "WaitingOobRandom"
state_name P.WaitingDHKeyEa = "WaitingDHKeyEa"
state_name P.WaitingLinkEncrypted = "WaitingLinkEncrypted"
state_name P.WaitingIdentitityInformation = "WaitingIdentitityInformation"
state_name P.WaitingIdentitityAddressInformation = "WaitingIdentitityAddressInformation"
state_name P.Success = "Success"
state_name (P.Error failure) = "Error"

-- nothing is written for no event
abbrev pub event_name : Option ConnectionEvent → String
event_name None = ""
event_name (Some E.BondLost) = "BondLost"
event_name (Some E.OobRequest) = "OobRequest"
event_name (Some (E.PassKeyDisplay passkey)) = "PassKeyDisplay"
event_name (Some E.PassKeyInput) = "PassKeyInput"
event_name (Some (E.PassKeyConfirm shown)) = "PassKeyConfirm"
event_name (Some (E.PairingComplete level reported)) = "PairingComplete"
event_name (Some (E.PairingFailed failure)) = "PairingFailed"

abbrev pub question_name : Option QuestionKind → String
question_name None = "-"
question_name (Some Q.DH) = "DH"
question_name (Some Q.OwnConfirm) = "f4own"
question_name (Some Q.PeerConfirm) = "f4peer"
question_name (Some Q.G2) = "g2"
question_name (Some Q.F5) = "f5"
question_name (Some Q.PeerCheck) = "f6peer"
question_name (Some Q.OwnCheck) = "f6own"
