-- A step as a plan: what it asks and draws, in order, and how it ends. Of any type S of states.
use Rattle.std.specs.Prelude.{ℕ, ◌≡◌, List, [], ◌∷◌, Bool, true, false, cond, Option, None}
use Rattle.octets.specs.Octets.{zeros}
use Rattle.address.specs.declared.Address.{Address}
use Rattle.address.specs.declared.AddressKind.TheVariants.{Public}
use Rattle.frames.specs.Packets.{Packet}
use Rattle.protocol.specs.declared.Action.{Action}
use Rattle.protocol.specs.declared.ConnectionEvent.{ConnectionEvent}
use Rattle.protocol.specs.declared.Failure.{Failure}
use Rattle.protocol.specs.declared.Failure.TheVariants as F
use Rattle.protocol.specs.declared.Question.{Question}
use Rattle.protocol.specs.declared.Question.TheVariants as Q
use Rattle.protocol.specs.declared.QuestionKind.{QuestionKind}
use Rattle.protocol.specs.declared.QuestionKind.TheVariants as K
use Rattle.protocol.specs.declared.Refusal.{Refusal}
use Rattle.protocol.specs.declared.Supplied.{Supplied}

-- Ends

-- a call is refused; it fails, after an event or none; or it moves on to a state, with packets to send, at most two events in order, and at most one action
pub data Ending (S : Type 0) : Type 0 where
  refuses : Refusal → Ending S
  fails : Option ConnectionEvent → Failure → Ending S
  moves : S → List Packet → Option ConnectionEvent → Option ConnectionEvent → Option Action → Ending S

abbrev pub nowhere : Address
nowhere = record { kind = Public; octets = zeros 6 }

-- Plans

abbrev pub kind_of : Question → QuestionKind
kind_of (Q.DH x y) = K.DH
kind_of (Q.OwnConfirm c) = K.OwnConfirm
kind_of (Q.PeerConfirm c) = K.PeerConfirm
kind_of (Q.G2 u v x y) = K.G2
kind_of (Q.F5 w n1 n2 a1 a2) = K.F5
kind_of (Q.PeerCheck c) = K.PeerCheck
kind_of (Q.OwnCheck c) = K.OwnCheck

-- what answers a kind of question: of DH whether the key is valid, and the DHKey; of f5 the MAC key and the link key
abbrev pub Reply : QuestionKind → Type 0
Reply K.DH = Bool × List ℕ
Reply K.OwnConfirm = List ℕ
Reply K.PeerConfirm = List ℕ
Reply K.G2 = ℕ
Reply K.F5 = List ℕ × List ℕ
Reply K.PeerCheck = List ℕ
Reply K.OwnCheck = List ℕ

-- a plan ends; asks a question and goes by the answer; draws a nonce or a passkey; or tests, and goes one way or the other
pub data Plan (S : Type 0) : Type 0 where
  ends : Ending S → Plan S
  asks : (q : Question) → (Reply (kind_of q) → Plan S) → Plan S
  draws_nonce : (List ℕ → Plan S) → Plan S
  draws_passkey : (ℕ → Plan S) → Plan S
  tests : Bool → Plan S → Plan S → Plan S

module _ {S : Type 0} where
  -- goes on with at most one event, and nothing to do
  abbrev pub goes : S → List Packet → Option ConnectionEvent → Ending S
  goes s ps e = moves s ps None e None

  -- anything not listed
  abbrev pub unlisted : Plan S
  unlisted = ends (fails None F.InvalidState)

  -- the rest where the test passes, the failure where it doesn't
  abbrev pub needs : Bool → Failure → Plan S → Plan S
  needs b f p = tests b p (ends (fails None f))

-- The caller's answers

abbrev pub reply : Supplied → (k : QuestionKind) → Reply k
reply a K.DH = (a.dhvalid, a.dhkey)
reply a K.OwnConfirm = a.ownconfirm
reply a K.PeerConfirm = a.peerconfirm
reply a K.G2 = a.g2
reply a K.F5 = (a.mackey, a.ltk)
reply a K.PeerCheck = a.peercheck
reply a K.OwnCheck = a.owncheck

module _ {S : Type 0} where
  -- what a plan comes to, handed a
  unfoldable pub runs : Supplied → Plan S → Ending S
  runs a (ends e) = e
  runs a (asks q k) = runs a (k (reply a (kind_of q)))
  runs a (draws_nonce k) = runs a (k a.nonce)
  runs a (draws_passkey k) = runs a (k a.passkey)
  runs a (tests b p q) = cond b (runs a p) (runs a q)

  -- what it asks, in order
  unfoldable pub asked : Supplied → Plan S → List Question
  asked a (ends e) = []
  asked a (asks q k) = q ∷ asked a (k (reply a (kind_of q)))
  asked a (draws_nonce k) = asked a (k a.nonce)
  asked a (draws_passkey k) = asked a (k a.passkey)
  asked a (tests b p q) = cond b (asked a p) (asked a q)

  -- a and b are the same where a plan looks: at the answers to what it asks, and at what it draws
  unfoldable pub Agree : Supplied → Supplied → Plan S → Type 0
  Agree a b (ends e) = Unit {0}
  Agree a b (asks q k) = (reply a (kind_of q) ≡ reply b (kind_of q)) × Agree a b (k (reply a (kind_of q)))
  Agree a b (draws_nonce k) = (a.nonce ≡ b.nonce) × Agree a b (k a.nonce)
  Agree a b (draws_passkey k) = (a.passkey ≡ b.passkey) × Agree a b (k a.passkey)
  Agree a b (tests t p q) = (t ≡ true → Agree a b p) × (t ≡ false → Agree a b q)

  -- P holds of the end that a plan comes to, handed a, by the tests on the way to it
  unfoldable pub Along : Supplied → (Ending S → Type 0) → Plan S → Type 0
  Along a P (ends e) = P e
  Along a P (asks q k) = Along a P (k (reply a (kind_of q)))
  Along a P (draws_nonce k) = Along a P (k a.nonce)
  Along a P (draws_passkey k) = Along a P (k a.passkey)
  Along a P (tests b p q) = (b ≡ true → Along a P p) × (b ≡ false → Along a P q)

-- The toolbox's answers, Part H 2.2.6 to 2.2.9

pub record Toolbox : Type 0 where
  pub f4 : List ℕ → List ℕ → List ℕ → ℕ → List ℕ
  pub f5 : List ℕ → List ℕ → List ℕ → Address → Address → List ℕ × List ℕ
  pub f6 : List ℕ → List ℕ → List ℕ → List ℕ → List ℕ → Address → Address → List ℕ
  pub g2 : List ℕ → List ℕ → List ℕ → List ℕ → ℕ

-- only DH stays with the caller
abbrev pub computed : Toolbox → Supplied → (q : Question) → Reply (kind_of q)
computed t a (Q.DH x y) = (a.dhvalid, a.dhkey)
computed t a (Q.OwnConfirm c) = t.f4 c.u c.v c.x c.z
computed t a (Q.PeerConfirm c) = t.f4 c.u c.v c.x c.z
computed t a (Q.G2 u v x y) = t.g2 u v x y
computed t a (Q.F5 w n1 n2 a1 a2) = t.f5 w n1 n2 a1 a2
computed t a (Q.PeerCheck c) = t.f6 c.w c.n1 c.n2 c.r c.iocap c.a1 c.a2
computed t a (Q.OwnCheck c) = t.f6 c.w c.n1 c.n2 c.r c.iocap c.a1 c.a2

module _ {S : Type 0} where
  -- what a plan comes to that answers its questions by the toolbox
  unfoldable pub answered : Toolbox → Supplied → Plan S → Ending S
  answered t a (ends e) = e
  answered t a (asks q k) = answered t a (k (computed t a q))
  answered t a (draws_nonce k) = answered t a (k a.nonce)
  answered t a (draws_passkey k) = answered t a (k a.passkey)
  answered t a (tests b p q) = cond b (answered t a p) (answered t a q)

  -- a holds the toolbox's answers to all that a plan asks
  unfoldable pub Holds : Toolbox → Supplied → Plan S → Type 0
  Holds t a (ends e) = Unit {0}
  Holds t a (asks q k) = (reply a (kind_of q) ≡ computed t a q) × Holds t a (k (reply a (kind_of q)))
  Holds t a (draws_nonce k) = Holds t a (k a.nonce)
  Holds t a (draws_passkey k) = Holds t a (k a.passkey)
  Holds t a (tests b p q) = (b ≡ true → Holds t a p) × (b ≡ false → Holds t a q)
