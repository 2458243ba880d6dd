-- The responder's state: parts of it set anew, what is left of it without its setup, and the state before anything has come.
use Rattle.std.specs.Prelude.{Bool, true, false, Option, None}
use Rattle.octets.specs.Octets.{zeros}
use Rattle.features.specs.declared.IoCapabilities.TheVariants.{NoInputNoOutput}
use Rattle.features.specs.declared.PairingFeatures.{PairingFeatures}
use Rattle.features.specs.declared.UseOutOfBand.TheVariants.{NotPresent}
use Rattle.method.specs.declared.PairingMethod.TheVariants.{JustWorks}
use Rattle.protocol.specs.declared.Bond.{Bond}
use Rattle.protocol.specs.declared.Secrets.{Secrets}
use Rattle.protocol.specs.declared.Setup.{Setup}
use Rattle.protocol.specs.Exchanged.{fresh}
use Rattle.machine.specs.declared.Phase.{Phase}
use Rattle.machine.specs.declared.Phase.TheVariants as P
use Rattle.machine.specs.declared.Progress.{Progress}
use Rattle.machine.specs.declared.State.{State}

-- in another phase
abbrev pub at : State → Phase → State
at m p = record { phase = p; setup = m.setup; features = m.features; method = m.method; secrets = m.secrets; bond = m.bond; peer = m.peer }

-- and with other secrets
abbrev pub to : State → Phase → Secrets → State
to m p s = record { phase = p; setup = m.setup; features = m.features; method = m.method; secrets = s; bond = m.bond; peer = m.peer }

-- with another bond
abbrev pub bonded : State → Option Bond → State
bonded m b = record { phase = m.phase; setup = m.setup; features = m.features; method = m.method; secrets = m.secrets; bond = b; peer = m.peer }

-- all but the setup, and a state again
abbrev pub progress_of : State → Progress
progress_of m = record { phase = m.phase; features = m.features; method = m.method; secrets = m.secrets; bond = m.bond; peer = m.peer }

abbrev pub joined_of : Setup → Progress → State
joined_of s p = record { phase = p.phase; setup = s; features = p.features; method = p.method; secrets = p.secrets; bond = p.bond; peer = p.peer }

-- the machine is in Success or Error
abbrev pub finished_phase : Phase → Bool
finished_phase P.Success = true
finished_phase (P.Error f) = true
finished_phase P.WaitingPairingRequest = false
finished_phase P.WaitingPublicKey = false
finished_phase P.WaitingNumericComparisonRandom = false
finished_phase (P.WaitingNumericComparisonResult held) = false
finished_phase (P.WaitingPassKeyInput held) = false
finished_phase (P.WaitingPassKeyEntryConfirm round) = false
finished_phase (P.WaitingPassKeyEntryRandom round) = false
finished_phase P.WaitingOobData = false
finished_phase P.WaitingOobRandom = false
finished_phase P.WaitingDHKeyEa = false
finished_phase P.WaitingLinkEncrypted = false
finished_phase P.WaitingIdentitityInformation = false
finished_phase P.WaitingIdentitityAddressInformation = false

-- Before anything has come

-- no features of a peer: no bit is set, and the key size is 16
abbrev pub no_features : PairingFeatures
no_features = record { io = NoInputNoOutput; oob = NotPresent; authreq = 0; keysize = 16; initiator = 0; responder = 0 }

-- a fresh machine awaits a request, with method JustWorks
abbrev pub fresh_state : Setup → State
fresh_state s =
    record {
      phase = P.WaitingPairingRequest;
      setup = s;
      features = no_features;
      method = JustWorks;
      secrets = fresh (zeros 32) (zeros 32);
      bond = None;
      peer = s.peer;
    }
