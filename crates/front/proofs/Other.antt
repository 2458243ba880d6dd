-- What the last arms of a match take: a phase in which no event is listed, and the two in which a machine is finished. Assumes nothing.
use Rattle.protocol.specs.declared.Failure.{Failure}
use Prim.Native.Nat.{ℕ}
use Rattle.std.specs.Prelude.{Option}
use mathlib.Core.List.{List}
use mathlib.Core.Logic.{◌⊎◌, inl, inr}
use mathlib.Core.Path.{◌≡◌, refl}
use Rattle.protocol.specs.declared.Event.{Event}
use Rattle.machine.specs.declared.State.{State}
use Rattle.machine.specs.declared.Phase.{Phase}
use Rattle.machine.specs.declared.Phase.TheVariants as P
use Rattle.protocol.specs.declared.Refusal.TheVariants as R
use Rattle.protocol.specs.Plan.{ends, refuses, unlisted}
use Rattle.machine.specs.Responder.{on_command, on_event}

pub event_other : (x : Phase) (m : State) (e : Event) → (x ≡ P.WaitingPairingRequest → ⊥) → ((held : Option (List ℕ)) → x ≡ P.WaitingNumericComparisonResult held → ⊥) → ((held : Option (List ℕ)) → x ≡ P.WaitingPassKeyInput held → ⊥) → (x ≡ P.WaitingOobData → ⊥) → (x ≡ P.WaitingLinkEncrypted → ⊥) → (x ≡ P.Success → ⊥) → ((f : Failure) → x ≡ P.Error f → ⊥) → on_event x m e ≡ unlisted
event_other P.WaitingPairingRequest m e n1 n2 n3 n4 n5 n6 n7 = absurd (n1 refl)
event_other P.WaitingPublicKey m e n1 n2 n3 n4 n5 n6 n7 = refl
event_other P.WaitingNumericComparisonRandom m e n1 n2 n3 n4 n5 n6 n7 = refl
event_other (P.WaitingNumericComparisonResult held) m e n1 n2 n3 n4 n5 n6 n7 = absurd (n2 held refl)
event_other (P.WaitingPassKeyInput held) m e n1 n2 n3 n4 n5 n6 n7 = absurd (n3 held refl)
event_other (P.WaitingPassKeyEntryConfirm round) m e n1 n2 n3 n4 n5 n6 n7 = refl
event_other (P.WaitingPassKeyEntryRandom round) m e n1 n2 n3 n4 n5 n6 n7 = refl
event_other P.WaitingOobData m e n1 n2 n3 n4 n5 n6 n7 = absurd (n4 refl)
event_other P.WaitingOobRandom m e n1 n2 n3 n4 n5 n6 n7 = refl
event_other P.WaitingDHKeyEa m e n1 n2 n3 n4 n5 n6 n7 = refl
event_other P.WaitingLinkEncrypted m e n1 n2 n3 n4 n5 n6 n7 = absurd (n5 refl)
event_other P.WaitingIdentitityInformation m e n1 n2 n3 n4 n5 n6 n7 = refl
event_other P.WaitingIdentitityAddressInformation m e n1 n2 n3 n4 n5 n6 n7 = refl
event_other P.Success m e n1 n2 n3 n4 n5 n6 n7 = absurd (n6 refl)
event_other (P.Error f) m e n1 n2 n3 n4 n5 n6 n7 = absurd (n7 f refl)

pub command_ended : (x : Phase) (m : State) (code : ℕ) (body : List ℕ) → (x ≡ P.Success) ⊎ ((f : Failure) × (x ≡ P.Error f)) → on_command x m code body ≡ ends (refuses R.Finished)
command_ended x m code body (inl e) = rw e
command_ended x m code body (inr (f, e)) = rw e

pub event_ended : (x : Phase) (m : State) (e : Event) → (x ≡ P.Success) ⊎ ((f : Failure) × (x ≡ P.Error f)) → on_event x m e ≡ ends (refuses R.Finished)
event_ended x m e (inl h) = rw h
event_ended x m e (inr (f, h)) = rw h
