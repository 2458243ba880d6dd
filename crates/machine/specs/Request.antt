-- WaitingPairingRequest: what we answer, and which method follows. Part H 2.3.5.1, 3.5.1, 3.5.2.
use Rattle.std.specs.Prelude.{ℕ, List, [], ◌∷◌, Bool, true, false, cond, not, ◌&&◌, Option, None, option_map}
use Rattle.octets.specs.Octets.{all_zero}
use Rattle.features.specs.declared.IoCapabilities.{IoCapabilities}
use Rattle.features.specs.declared.IoCapabilities.TheVariants.{DisplayOnly, DisplayYesNo, KeyboardOnly, NoInputNoOutput, KeyboardDisplay}
use Rattle.features.specs.declared.PairingFeatures.{PairingFeatures}
use Rattle.features.specs.Bits.{identity_bit, our_auth_req}
use Rattle.method.specs.declared.Kind.TheVariants.{SecureConnections}
use Rattle.method.specs.Method.{method_of}
use Rattle.frames.specs.Packets.{request_code, pairing_response}
use Rattle.protocol.specs.declared.ConnectionEvent.{ConnectionEvent}
use Rattle.protocol.specs.declared.ConnectionEvent.TheVariants as E
use Rattle.protocol.specs.declared.Setup.{Setup}
use Rattle.protocol.specs.Plan.{Plan, Ending, ends, moves}
use Rattle.protocol.specs.Parts.{features}
use Rattle.machine.specs.declared.Phase.TheVariants as P
use Rattle.machine.specs.declared.State.{State}

-- whether we can show or take anything: MITM is then asked
abbrev pub interactive : IoCapabilities → Bool
interactive DisplayOnly = true
interactive DisplayYesNo = true
interactive KeyboardOnly = true
interactive NoInputNoOutput = false
interactive KeyboardDisplay = true

-- our features, for a peer's: its identity bits set ours, the responder's only if we have an IRK
unfoldable pub own_features : Setup → PairingFeatures → PairingFeatures
own_features s f =
    record {
      io = s.io;
      oob = s.oob;
      authreq = our_auth_req s.bonding (interactive s.io);
      keysize = 16;
      initiator = cond (identity_bit f.initiator) 2 0;
      responder = cond (identity_bit f.responder && not (all_zero s.irk)) 2 0;
    }

-- a request while a bond is known says that the peer lost it
abbrev pub lost : State → Option ConnectionEvent
lost m = option_map (λ b. E.BondLost) m.setup.known

-- the peer's features are kept, the method follows from both
abbrev pub requested : State → PairingFeatures → State
requested m f =
    record {
      phase = P.WaitingPublicKey;
      setup = m.setup;
      features = f;
      method = method_of SecureConnections f (own_features m.setup f);
      secrets = m.secrets;
      bond = m.bond;
      peer = m.peer;
    }

-- acceptable features are answered with ours
abbrev pub responding : State → PairingFeatures → Ending State
responding m f = moves (requested m f) (pairing_response (own_features m.setup f) ∷ []) (lost m) None None

-- a command in WaitingPairingRequest: BondLost comes first, whether or not the request is acceptable
abbrev pub on_request : State → ℕ → List ℕ → Plan State
on_request m code body = features request_code (lost m) code body λ f. ends (responding m f)
