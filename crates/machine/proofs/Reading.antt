-- A call reads the answers to the questions that it asks and the values that it draws, and it draws a nonce or a passkey exactly where the scope names
-- one. Assumes nothing.
use Prim.Native.Nat.{◌≤◌}
use mathlib.Core.Path.{◌≡◌, refl}
use mathlib.Core.Logic.{◌↔◌, inl, inr}
use mathlib.Core.List.{Memᴰ}
use mathlib.Core.Bool.{true}
use lib.ListN.{length}
use borrow.Author.Tests.{eq-eqb, leb-true}
use Rattle.frames.specs.Packets.{public_key_code, confirm_code, random_code}
use Rattle.protocol.specs.declared.Given.{Given}
use Rattle.protocol.specs.declared.Question.{Question}
use Rattle.protocol.specs.declared.QuestionKind.{QuestionKind}
use Rattle.protocol.specs.declared.QuestionKind.TheVariants as K
use Rattle.protocol.specs.declared.Supplied.{Supplied}
use Rattle.protocol.specs.Plan.{kind_of, reply}
use Rattle.protocol.specs.Draws.{Draw, nonce, passkey, drawn, draws, drawings, Alike}
use Rattle.protocol.specs.Next.{known}
use Rattle.protocol.specs.Role.{Input, enough, questions}
use Rattle.protocol.proofs.Reading.{call_reads_asked}
use Rattle.protocol.proofs.Trace.{among}
use Rattle.machine.specs.declared.State.{State}
use Rattle.machine.specs.Responder.{responder}
use Rattle.machine.specs.Refusals.{ReadsPasskey, reads}
use Rattle.machine.specs.Reading.{Reads, key, confirm, typed, oob, Told, Sofar}
use Rattle.machine.proofs.Ends.{bring, end}

module _ (m : State) (a : Supplied) where
  drawing : (i : Input) (d : Draw) → Reads m a i d → Memᴰ d (drawings responder m i a)
  unfolding drawings draws
  drawing i nonce (key {code} p e k v (inl w)) = rw (p, eq-eqb code public_key_code e, k, v, w) (Memᴰ.head refl)
  drawing i nonce (key {code} p e k v (inr w)) = rw (p, eq-eqb code public_key_code e, k, v, w) (Memᴰ.head refl)
  drawing i nonce (confirm {code} r p e k) = rw (p, eq-eqb code confirm_code e, k) (Memᴰ.head refl)
  drawing i nonce (typed p r) = rw (p, r) (Memᴰ.head refl)
  drawing i nonce (oob {code} p e k) = rw (p, eq-eqb code random_code e, k) (Memᴰ.head refl)
  drawing i passkey (reads {code} central p e k v w d) = rw (p, eq-eqb code public_key_code e, k, v, w, d) (Memᴰ.head refl)

  -- a value is drawn where the scope names it, and no call draws two
  pub draws_iff : (i : Input) (d : Draw) → Memᴰ d (drawings responder m i a) ↔ Reads m a i d
  unfolding drawings
  draws_iff i d = (among (Reads m a i) (drawings responder m i a) (end m (bring i a enough)).drew d, drawing i d)

  pub draws_one : (i : Input) → length (drawings responder m i a) ≤ 1
  unfolding drawings
  draws_one i = leb-true (length (drawings responder m i a)) 1 (end m (bring i a enough)).once

  -- the case of R3
  pub passkey_iff : (i : Input) → Memᴰ passkey (drawings responder m i a) ↔ ReadsPasskey m a i
  passkey_iff i = draws_iff i passkey

told : (a b : Supplied) (k : QuestionKind) → Told k a b → reply a k ≡ reply b k
told a b K.DH h = rw (h.0, h.1)
told a b K.OwnConfirm h = h
told a b K.PeerConfirm h = h
told a b K.G2 h = h
told a b K.F5 h = rw (h.0, h.1)
told a b K.PeerCheck h = h
told a b K.OwnCheck h = h

-- an answer to a question that it does not ask, and a drawn value that the scope does not name, play no part in a call
pub reads_only : (m : State) (i : Input) (a b : Supplied) → ((q : Question) → Memᴰ q (questions responder m i a) → Told (kind_of q) a b)
    → ((d : Draw) → Reads m a i d → drawn a d ≡ drawn b d) → Alike responder m i a b
reads_only m i a b h k = call_reads_asked responder m i a b (λ q x. told a b (kind_of q) (h q x)) (λ d x. k d ((draws_iff m a i d).0 x))

-- what has been given so far is known, kind by kind
pub sofar : (g : Given) (a b : Supplied) → Sofar g a b → (k : QuestionKind) → known g k ≡ true → reply a k ≡ reply b k
sofar g a b h K.DH e = told a b K.DH (h.dh e)
sofar g a b h K.OwnConfirm e = h.ownconfirm e
sofar g a b h K.PeerConfirm e = h.peerconfirm e
sofar g a b h K.G2 e = h.g2 e
sofar g a b h K.F5 e = told a b K.F5 (h.f5 e)
sofar g a b h K.PeerCheck e = h.peercheck e
sofar g a b h K.OwnCheck e = h.owncheck e
