-- The responder: which plan a phase has for a command and for an event, and the contract of the code that follows a plan.
use Rattle.std.specs.Prelude.{ℕ, List}
use Rattle.frames.specs.Packets.{channel}
use Rattle.protocol.specs.declared.Event.{Event}
use Rattle.protocol.specs.declared.Refusal.TheVariants as R
use Rattle.protocol.specs.declared.Supplied.{Supplied}
use Rattle.protocol.specs.Plan.{Plan, ends, refuses, unlisted}
use Rattle.protocol.specs.Role.{Role, Outcome}
use Rattle.protocol.specs.Met.{Followed}
use Rattle.machine.specs.declared.Phase.{Phase}
use Rattle.machine.specs.declared.Phase.TheVariants as P
use Rattle.machine.specs.declared.State.{State}
use Rattle.machine.specs.declared.Step.{Step}
use Rattle.machine.specs.State.{at, progress_of, finished_phase}
use Rattle.machine.specs.Request.{on_request}
use Rattle.machine.specs.Exchange.{on_key}
use Rattle.machine.specs.Numeric.{on_comparison_random, on_early_check, on_comparison}
use Rattle.machine.specs.Passkey.{on_early_confirm, on_typing, on_confirm, on_random}
use Rattle.machine.specs.Oob.{on_oob_data, on_oob_random}
use Rattle.machine.specs.Dhkey.{on_check}
use Rattle.machine.specs.Keys.{on_bonded_link, on_encrypted, on_information, on_address}

-- a command's code and payload, by the phase. (In Success and Error every call is refused before)
abbrev pub on_command : Phase → State → ℕ → List ℕ → Plan State
on_command P.WaitingPairingRequest m code body = on_request m code body
on_command P.WaitingPublicKey m code body = on_key m code body
on_command P.WaitingNumericComparisonRandom m code body = on_comparison_random m code body
on_command (P.WaitingNumericComparisonResult held) m code body = on_early_check m held code body
on_command (P.WaitingPassKeyInput held) m code body = on_early_confirm m held code body
on_command (P.WaitingPassKeyEntryConfirm round) m code body = on_confirm m round code body
on_command (P.WaitingPassKeyEntryRandom round) m code body = on_random m round code body
on_command P.WaitingOobData m code body = unlisted
on_command P.WaitingOobRandom m code body = on_oob_random m code body
on_command P.WaitingDHKeyEa m code body = on_check m code body
on_command P.WaitingLinkEncrypted m code body = unlisted
on_command P.WaitingIdentitityInformation m code body = on_information m code body
on_command P.WaitingIdentitityAddressInformation m code body = on_address m code body
on_command P.Success m code body = ends (refuses R.Finished)
on_command (P.Error f) m code body = ends (refuses R.Finished)

-- an event, by the phase
abbrev pub on_event : Phase → State → Event → Plan State
on_event P.WaitingPairingRequest m e = on_bonded_link m e
on_event P.WaitingPublicKey m e = unlisted
on_event P.WaitingNumericComparisonRandom m e = unlisted
on_event (P.WaitingNumericComparisonResult held) m e = on_comparison m held e
on_event (P.WaitingPassKeyInput held) m e = on_typing m held e
on_event (P.WaitingPassKeyEntryConfirm round) m e = unlisted
on_event (P.WaitingPassKeyEntryRandom round) m e = unlisted
on_event P.WaitingOobData m e = on_oob_data m e
on_event P.WaitingOobRandom m e = unlisted
on_event P.WaitingDHKeyEa m e = unlisted
on_event P.WaitingLinkEncrypted m e = on_encrypted m e
on_event P.WaitingIdentitityInformation m e = unlisted
on_event P.WaitingIdentitityAddressInformation m e = unlisted
on_event P.Success m e = ends (refuses R.Finished)
on_event (P.Error f) m e = ends (refuses R.Finished)

abbrev pub responder : Role State
responder =
    record {
      finished = λ m. finished_phase m.phase;
      failed = λ m f. at m (P.Error f);
      commanded = λ m code body. on_command m.phase m code body;
      raised = λ m e. on_event m.phase m e;
    }

-- Contracts

-- an outcome as a step gives it back, with n octets in the outbox
abbrev pub step_of : Outcome State → ℕ → Step
step_of o n = record { progress = progress_of o.next; sent = n; first = o.first; second = o.second; action = o.action; answer = o.answer }

-- a step of the state m, handed a, that follows the plan p
abbrev pub Follows : State → Supplied → Plan State → Step → List ℕ → List ℕ → Type 0
Follows m a p r before after = Followed responder step_of channel m a p r before after

-- one that is lent no outbox
abbrev pub Quiet : State → Supplied → Plan State → Step → Type 0
Quiet m a p r = (out : List ℕ) → Follows m a p r out out
