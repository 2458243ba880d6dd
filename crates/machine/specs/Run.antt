-- Whole runs of the responder: the most calls that a run takes, the phases that it comes to, and what it sends and tests in the rounds of passkey entry.
use Rattle.std.specs.Prelude.{ℕ, List, [], ◌∷◌, ◌++◌, cond, eqb}
use Rattle.method.specs.declared.PairingMethod.{PairingMethod}
use Rattle.method.specs.declared.PairingMethod.TheVariants.{JustWorks, NumericComparison, PassKeyEntry, OutOfBand}
use Rattle.method.specs.declared.PassKeyEntryAction.TheVariants as W
use Rattle.frames.specs.Packets.{Packet}
use Rattle.protocol.specs.declared.Setup.{Setup}
use Rattle.protocol.specs.Role.{Call, step, after, run, history}
use Rattle.machine.specs.declared.Phase.{Phase}
use Rattle.machine.specs.declared.Phase.TheVariants as P
use Rattle.machine.specs.declared.State.{State}
use Rattle.machine.specs.State.{fresh_state}
use Rattle.machine.specs.Responder.{responder}

-- a responder that was started, after a list of calls; and those of the calls that were taken
abbrev pub begun : Setup → List Call → State
begun s cs = run responder (fresh_state s) cs

abbrev pub taken : Setup → List Call → List Call
taken s cs = history responder (fresh_state s) cs

-- the most calls that a run takes, by the method: for passkey entry by whether the passkey is shown or typed here
abbrev pub longest : PairingMethod → ℕ
longest JustWorks = 7
longest NumericComparison = 8
longest OutOfBand = 8
longest (PassKeyEntry central W.Display) = 46
longest (PassKeyEntry central W.Input) = 47

-- the phases that a run comes to, one for each call
unfoldable pub trace : State → List Call → List Phase
trace m [] = []
trace m (c ∷ cs) = (after responder m c).phase ∷ trace (after responder m c) cs

-- f of the round in WaitingPassKeyEntryRandom, and x in any other phase
abbrev pub in_round : {A : Type 0} → Phase → (ℕ → A) → A → A
in_round (P.WaitingPassKeyEntryRandom round) f x = f round
in_round P.WaitingPairingRequest f x = x
in_round P.WaitingPublicKey f x = x
in_round P.WaitingNumericComparisonRandom f x = x
in_round (P.WaitingNumericComparisonResult held) f x = x
in_round (P.WaitingPassKeyInput held) f x = x
in_round (P.WaitingPassKeyEntryConfirm round) f x = x
in_round P.WaitingOobData f x = x
in_round P.WaitingOobRandom f x = x
in_round P.WaitingDHKeyEa f x = x
in_round P.WaitingLinkEncrypted f x = x
in_round P.WaitingIdentitityInformation f x = x
in_round P.WaitingIdentitityAddressInformation f x = x
in_round P.Success f x = x
in_round (P.Error failure) f x = x

-- the packets that a run sends in answer to what comes in WaitingPassKeyEntryRandom, round r
unfoldable pub sent_in : ℕ → State → List Call → List Packet
sent_in r m [] = []
sent_in r m (c ∷ cs) = in_round m.phase (λ k. cond (eqb k r) (step responder m c).packets []) [] ++ sent_in r (after responder m c) cs
