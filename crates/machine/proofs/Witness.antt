-- The premises of the theorems on runs are met: runs that take 47 calls and no fewer, and one for each way of pairing. Assumes nothing.
use Rattle.std.specs.Prelude.{Some, None}
use mathlib.Core.Path.{◌≡◌, refl}
use mathlib.Core.List.{[], ◌∷◌, map}
use lib.ListN.{take}
use Rattle.octets.specs.Octets.{flip, zeros, same, all_zero}
use Rattle.address.specs.Identity.{decode_of as address_of}
use Rattle.features.specs.declared.IoCapabilities.TheVariants.{DisplayOnly, DisplayYesNo, KeyboardOnly, NoInputNoOutput}
use Rattle.features.specs.declared.UseOutOfBand.TheVariants.{NotPresent}
use Rattle.features.specs.Features.{decode_of}
use Rattle.method.specs.Method.{method_of}
use Rattle.frames.specs.Packets.{pairing_random}
use Rattle.protocol.specs.declared.Failure.TheVariants as F
use Rattle.protocol.specs.declared.Setup.{Setup}
use Rattle.protocol.specs.Plan.{runs, asked}
use Rattle.protocol.specs.Parts.{accept_of}
use Rattle.protocol.specs.Role.{step, questions, run, history}
use Rattle.machine.specs.declared.Phase.TheVariants as P
use Rattle.machine.specs.State.{fresh_state}
use Rattle.machine.specs.Request.{own_features}
use Rattle.machine.specs.Run.{begun, taken, trace, sent_in}
use Rattle.machine.specs.Passed.{Reached}
use Rattle.machine.specs.Tested.{tested}
use Rattle.machine.specs.Witnesses.{box, turned, rounds, typed_run, late_run, shown_run, held_run, bare_run, bonded_run, wrong_run, refused_run, samples, made, said}

-- each sample takes all its calls, is finished by the last of them and not before, and ends in Success
pub samples_hold : map made samples ≡ map said samples
unfolding samples rounds run history trace step runs accept_of own_features decode_of method_of address_of flip zeros same all_zero
samples_hold = refl

-- boxes that show the passkey, and that have it typed
abbrev pub shows : Setup
shows = box DisplayOnly NotPresent

abbrev pub types : Setup
types = box KeyboardOnly NotPresent

pub record Premises : Type 0 where
  -- passkey entry stands before the DHKey check: typed here, typed after a held confirm, and shown here; before the last random it does not
  pub typed : Reached (begun types (take 43 typed_run))
  pub late : Reached (begun types (take 43 late_run))
  pub shown : Reached (begun shows (take 42 shown_run))
  pub waits : (begun shows (take 41 shown_run)).phase ≡ P.WaitingPassKeyEntryRandom 19
  -- its twenty rounds test 999,999, bit by bit (P8)
  pub bits : tested (fresh_state shows) shown_run
      ≡ 0x81 ∷ 0x81 ∷ 0x81 ∷ 0x81 ∷ 0x81 ∷ 0x81 ∷ 0x80 ∷ 0x80 ∷ 0x80 ∷ 0x81 ∷ 0x80 ∷ 0x80 ∷ 0x80 ∷ 0x80 ∷ 0x81 ∷ 0x80 ∷ 0x81 ∷ 0x81 ∷ 0x81 ∷ 0x81 ∷ []
  -- each round sends its nonce, and there is no round 20
  pub nonces : map (λ r. sent_in r (fresh_state shows) shown_run) (0 ∷ 1 ∷ 7 ∷ 18 ∷ 19 ∷ 20 ∷ [])
      ≡ (pairing_random turned ∷ []) ∷ (pairing_random turned ∷ []) ∷ (pairing_random turned ∷ []) ∷ (pairing_random turned ∷ []) ∷ (pairing_random turned ∷ []) ∷ [] ∷ []
  -- a mismatch fails, and sends no nonce
  pub fails : (begun shows wrong_run).phase ≡ P.Error F.ConfirmValueFailed
  pub hides : sent_in 0 (fresh_state shows) wrong_run ≡ []
  -- each phase from the check to Success is entered: after a held check with the peer's identity, and after an arriving one without
  pub held : trace (fresh_state (box DisplayYesNo NotPresent)) held_run
      ≡ P.WaitingPublicKey ∷ P.WaitingNumericComparisonRandom ∷ P.WaitingNumericComparisonResult None ∷ P.WaitingNumericComparisonResult (Some turned)
      ∷ P.WaitingLinkEncrypted ∷ P.WaitingIdentitityInformation ∷ P.WaitingIdentitityAddressInformation ∷ P.Success ∷ []
  pub arrived : trace (fresh_state (box NoInputNoOutput NotPresent)) bare_run
      ≡ P.WaitingPublicKey ∷ P.WaitingNumericComparisonRandom ∷ P.WaitingDHKeyEa ∷ P.WaitingLinkEncrypted ∷ P.Success ∷ []
  -- of four calls three are refused, and do not count
  pub refuses : taken shows refused_run ≡ bonded_run

pub premises_met : Premises
unfolding rounds run history trace sent_in tested questions step runs asked accept_of own_features decode_of method_of address_of flip zeros same all_zero
premises_met =
    record { typed = (refl, refl); late = (refl, refl); shown = (refl, refl); waits = refl; bits = refl; nonces = refl; fails = refl; hides = refl; held = refl; arrived = refl; refuses = refl }
