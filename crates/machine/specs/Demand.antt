-- The owner's third demand, and what Success means: the statements, in the owner's order, of every setup and every list of calls, of any kind
-- and in any order, with no timeout marked. Each is the type of the theorem that proves it: exact, first and twenty_bits in proofs/Exact.antt;
-- match, mismatch, one_nonce and only_match in Sent.antt; at_most_47 and by_method in Bound.antt; success, from_check and to_link in Success.antt.
use Rattle.std.specs.Prelude.{ℕ, ◌≤◌, ◌≡◌, List, [], ◌∷◌, ◌++◌, map, true, ◌↔◌, ◌⊎◌, length, None}
use Rattle.octets.specs.Octets.{flip}
use Rattle.rounds.specs.Rounds.{after_of, z_of}
use Rattle.frames.specs.Packets.{Packet, random_code, pairing_random}
use Rattle.protocol.specs.declared.Failure.TheVariants as F
use Rattle.protocol.specs.declared.Setup.{Setup}
use Rattle.protocol.specs.Plan.{fails, goes}
use Rattle.protocol.specs.Exchanged.{set_peer_nonce}
use Rattle.protocol.specs.Role.{Call, enough, said, step, is_taken, after, run, history}
use Rattle.machine.specs.declared.Phase.TheVariants as P
use Rattle.machine.specs.declared.State.{State}
use Rattle.machine.specs.State.{to, finished_phase, fresh_state}
use Rattle.machine.specs.Passkey.{waits}
use Rattle.machine.specs.Responder.{responder}
use Rattle.machine.specs.Run.{begun, taken, longest, sent_in}
use Rattle.machine.specs.Passed.{Value, Passed, Reached, is_passkey}
use Rattle.machine.specs.Completed.{Completed, Checked, Enables}
use Rattle.machine.specs.Sent.{Discloses}
use Rattle.machine.specs.Tested.{tested, up_from}

-- Twenty rounds

-- the machine stands before the DHKey check of passkey entry exactly when its taken history is `Passed`
abbrev pub Exactly : Type 0
Exactly = (s : Setup) (cs : List Call) → Reached (begun s cs) ↔ Passed s (taken s cs)

-- the call c, after the calls cs, is the one by which it first comes to stand there
abbrev pub Enters : Setup → List Call → Call → Type 0
Enters s cs c = ¬ (Reached (begun s cs)) × Reached (begun s (cs ++ (c ∷ [])))

-- that is so exactly when c is taken and the history with it is `Passed`
abbrev pub First : Type 0
First = (s : Setup) (cs : List Call) (c : Call) → Enters s cs c ↔ ((is_taken (step responder (begun s cs) c).answer ≡ true) × Passed s (taken s (cs ++ (c ∷ []))))

-- by then z was tested of bits 0 to 19 of the passkey, in order, and of no other
abbrev pub TwentyBits : Type 0
TwentyBits = (s : Setup) (cs : List Call) → Reached (begun s cs) → tested (fresh_state s) cs ≡ map (z_of (begun s cs).secrets.passkey) (up_from 20 0)

-- Match and mismatch

-- a random in round r whose stored confirm equals the supplied `peerconfirm`: the round's nonce, alone, and the next round or the check
abbrev pub Match : Type 0
Match =
    (m : State) (r : ℕ) (c : Call) (w : List ℕ) → m.phase ≡ P.WaitingPassKeyEntryRandom r → Value random_code w c → enough ≤ c.room
    → m.secrets.confirm ≡ c.supplied.peerconfirm
    → step responder m c ≡ said responder m (goes (to m (waits (after_of r)) (set_peer_nonce m.secrets (flip w))) (pairing_random m.secrets.ownnonce ∷ []) None)

-- and one whose stored confirm does not: ConfirmValueFailed, which sends nothing
abbrev pub Mismatch : Type 0
Mismatch =
    (m : State) (r : ℕ) (c : Call) (w : List ℕ) → m.phase ≡ P.WaitingPassKeyEntryRandom r → Value random_code w c → enough ≤ c.room
    → ¬ (m.secrets.confirm ≡ c.supplied.peerconfirm) → step responder m c ≡ said responder m (fails None F.ConfirmValueFailed)

-- nothing, or one Pairing Random
abbrev pub AtMostOne : List Packet → Type 0
AtMostOne ps = (ps ≡ []) ⊎ ((nonce : List ℕ) × (ps ≡ pairing_random nonce ∷ []))

-- along a run, what comes in round r's WaitingPassKeyEntryRandom is answered by at most one
abbrev pub OneNonce : Type 0
OneNonce = (r : ℕ) (cs : List Call) (m : State) → AtMostOne (sent_in r m cs)

-- and in passkey entry no Pairing Random leaves in any other way
abbrev pub OnlyMatch : Type 0
OnlyMatch =
    (s : Setup) (cs : List Call) (c : Call) → is_passkey (after responder (begun s cs) c).method ≡ true
    → Discloses (begun s cs) c (step responder (begun s cs) c).packets

-- The bound

-- by any method, a run takes at most 47 inputs, and is finished by then
abbrev pub AtMost47 : Type 0
AtMost47 = (s : Setup) (cs : List Call) → (length (taken s cs) ≤ 47) × (length (taken s cs) ≡ 47 → finished_phase (begun s cs).phase ≡ true)

-- and no more than its method's
abbrev pub ByMethod : Type 0
ByMethod = (s : Setup) (cs : List Call) → length (taken s cs) ≤ longest (begun s cs).method

-- Success

-- a run that ends in Success is a complete pairing, or a bonded link
abbrev pub SuccessMeans : Type 0
SuccessMeans = (s : Setup) (cs : List Call) → (begun s cs).phase ≡ P.Success → Completed s (taken s cs)

-- from the wait for the DHKey check on, exactly: a right check, the encrypted link and, where the peer's initiator bit is set, its identity
abbrev pub FromCheck : Type 0
FromCheck =
    (m : State) (cs : List Call) → m.phase ≡ P.WaitingDHKeyEa → ((run responder m cs).phase ≡ P.Success) ↔ Checked m.features (history responder m cs)

-- the link key handed to encryption is f5's, supplied in the step that took the check
abbrev pub LinkKey : Type 0
LinkKey =
    (m : State) (c : Call) → ¬ (m.phase ≡ P.WaitingLinkEncrypted) → (after responder m c).phase ≡ P.WaitingLinkEncrypted → Enables m c (step responder m c)
