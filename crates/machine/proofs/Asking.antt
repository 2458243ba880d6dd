-- What a call asks: DH alone with R3 of a drawn passkey, nothing after a failure; the IO triples of f6; and the next question reads only answers that were
-- given. (R1 and R3 of an event ask nothing, as in any role.) Assumes nothing.
use Rattle.std.specs.Prelude.{Ok}
use Prim.Native.Nat.{ℕ, ◌≤◌}
use mathlib.Core.Path.{◌≡◌, refl}
use mathlib.Core.List.{List, [], ◌∷◌, Memᴰ}
use mathlib.Core.Bool.{true, false, true≢false, ◌&&◌}
use native.Mathlib.Omega.{arith}
use lib.ListN.{get_or}
use borrow.Author.Tests.{eq-eqb, le-ltb}
use Rattle.octets.specs.Octets.{flip, same}
use Rattle.features.specs.declared.PairingFeatures.{PairingFeatures}
use Rattle.features.specs.Features.{io_cap_of}
use Rattle.features.proofs.Features.{encode_decode}
use Rattle.frames.specs.Packets.{request_code, public_key_code, check_code, pairing_response, frame, framed, channel}
use Rattle.protocol.specs.declared.Answer.TheVariants as A
use Rattle.protocol.specs.declared.Check.{Check}
use Rattle.protocol.specs.declared.Failure.{Failure}
use Rattle.protocol.specs.declared.Given.{Given}
use Rattle.protocol.specs.declared.Question.{Question}
use Rattle.protocol.specs.declared.Question.TheVariants as Q
use Rattle.protocol.specs.declared.QuestionKind.{QuestionKind}
use Rattle.protocol.specs.declared.Supplied.{Supplied}
use Rattle.protocol.specs.Plan.{runs, asked}
use Rattle.protocol.specs.Draws.{Draw, drawn}
use Rattle.protocol.specs.Parts.{accept_of, is_key, is_value, key_x, key_y, ask_dh}
use Rattle.protocol.specs.Next.{next_of}
use Rattle.protocol.specs.Role.{Input, command, Call, enough, step, questions, plan}
use Rattle.protocol.proofs.Ends.{either}
use Rattle.protocol.proofs.Parts.{Heard, right, heard}
use Rattle.protocol.proofs.Reading.{next_reads}
use Rattle.protocol.proofs.Trace.{among}
use Rattle.machine.specs.declared.Phase.TheVariants as P
use Rattle.machine.specs.declared.State.{State}
use Rattle.machine.specs.State.{at}
use Rattle.machine.specs.Request.{own_features}
use Rattle.machine.specs.Dhkey.{ask_keys, ask_peer_check}
use Rattle.machine.specs.Responder.{responder}
use Rattle.machine.specs.Refusals.{ReadsPasskey, reads}
use Rattle.machine.specs.Failures.{by_answer, Asked, kinds}
use Rattle.machine.specs.Reading.{Sofar}
use Rattle.machine.proofs.Reading.{sofar}
use Rattle.machine.proofs.Ends.{Triple, bring, end}
use Rattle.machine.proofs.Failures.{asks_no_more}

-- the call that reads the drawn passkey, R3 or not: it asks DH first, and nothing else
pub drawn_asks_dh : (m : State) (a : Supplied) (code : ℕ) (body : List ℕ) → ReadsPasskey m a (command (code ∷ body))
    → questions responder m (command (code ∷ body)) a ≡ ask_dh (key_x body) (key_y body) ∷ []
unfolding questions asked
drawn_asks_dh m a code body (reads central p e k v w d) = rw (p, eq-eqb code public_key_code e, k, v, w, d, either)

-- Failures

none : {f : Failure} {ks : List QuestionKind} → Asked f ks → by_answer f ≡ false → ks ≡ []
none (Asked.nothing u) h = refl
none Asked.key h = absurd (true≢false h)
none Asked.confirm h = absurd (true≢false h)
none Asked.check h = absurd (true≢false h)

unasked : (qs : List Question) → kinds qs ≡ [] → qs ≡ []
unasked [] e = refl
unasked (q ∷ qs) e = let z : ◌≡◌ {A = ℕ} 0 1 = cc in absurd (omega arith)

-- a wrong code, a wrong size of any command but the check, an unlisted event, a request that is refused: no question at all
pub failure_asks_nothing : (m : State) (c : Call) (f : Failure) → (step responder m c).answer ≡ A.Failed f → by_answer f ≡ false
    → questions responder m c.input c.supplied ≡ []
failure_asks_nothing m c f e h = unasked _ (none (asks_no_more m c f e) h)

module _ (m : State) (a : Supplied) (body : List ℕ) where
  -- DH alone where it is not valid
  pub invalid_asks_dh : is_key body ≡ true → a.dhvalid ≡ false
      → questions responder (at m P.WaitingPublicKey) (command (public_key_code ∷ body)) a ≡ ask_dh (key_x body) (key_y body) ∷ []
  unfolding questions asked
  invalid_asks_dh k v = rw (k, v)

  -- f5 and the peer's f6 alone where the check is not one value, or not the right one
  pub wrong_asks_two : is_value body && same (flip body) a.peercheck ≡ false
      → questions responder (at m P.WaitingDHKeyEa) (command (check_code ∷ body)) a ≡ ask_keys m ∷ ask_peer_check m a.mackey ∷ []
  unfolding questions asked
  wrong_asks_two h = rw h

-- The IO triples of f6

module _ (m : State) (i : Input) (a : Supplied) (q : Question) (asks : Memᴰ q (questions responder m i a)) where
  triple : Triple m q
  unfolding questions
  triple = among (Triple m) (questions responder m i a) (end m (bring i a enough)).triples q asks

  -- whatever the call, the peer's is that of its features, and ours that of the features that we answered them with
  pub triple_as_received : (c : Check) → q ≡ Q.PeerCheck c → c.iocap ≡ io_cap_of m.features
  triple_as_received c k = rw k at triple

  pub triple_as_sent : (c : Check) → q ≡ Q.OwnCheck c → c.iocap ≡ io_cap_of (own_features m.setup m.features)
  triple_as_sent c k = rw k at triple

-- those features are a request's, and these went in the response to it
pub request_kept : (m : State) (a : Supplied) (n : ℕ) (body : List ℕ) (f : PairingFeatures) → m.phase ≡ P.WaitingPairingRequest → enough ≤ n → accept_of body ≡ Ok f
    → let o = step responder m (bring (command (request_code ∷ body)) a n) in (o.next.features ≡ f) × (o.packets ≡ pairing_response (own_features m.setup f) ∷ [])
unfolding step runs
request_kept m a n body f p h e = rw (p, le-ltb n enough h, e) (refl, refl)

-- octet for octet: AuthReq with all its bits, OOB, IO
received : {body : List ℕ} {f : PairingFeatures} → Heard body (Ok f) → io_cap_of f ≡ get_or body 2 0 ∷ get_or body 1 0 ∷ get_or body 0 0 ∷ []
received {body} {f} (right e s k) = rw (← encode_decode body f e)

pub octets_received : (body : List ℕ) (f : PairingFeatures) → accept_of body ≡ Ok f → io_cap_of f ≡ get_or body 2 0 ∷ get_or body 1 0 ∷ get_or body 0 0 ∷ []
octets_received body f h = received (rw h at (heard body))

pub octets_sent : (f : PairingFeatures) → let sent = framed channel (pairing_response f ∷ []) in io_cap_of f ≡ get_or sent 7 0 ∷ get_or sent 6 0 ∷ get_or sent 5 0 ∷ []
unfolding frame
octets_sent f = refl

-- The next question

-- an answer that was not given plays no part in it
pub next_reads_given : (m : State) (i : Input) (a b : Supplied) (g : Given) → Sofar g a b
    → ((d : Draw) → drawn a d ≡ drawn b d) → next_of g (questions responder m i a) ≡ next_of g (questions responder m i b)
unfolding questions
next_reads_given m i a b g told alike = next_reads a b g (sofar g a b told) alike (plan responder m i enough)
