-- Which calls read the drawn nonce, and which the drawn passkey.
use Rattle.std.specs.Prelude.{ℕ, ◌≡◌, ◌⊎◌, List, ◌∷◌, Some, true}
use Rattle.method.specs.declared.PairingMethod.TheVariants.{JustWorks, NumericComparison}
use Rattle.rounds.specs.Rounds.{in_range}
use Rattle.frames.specs.Packets.{public_key_code, confirm_code, random_code}
use Rattle.protocol.specs.declared.Event.TheVariants as I
use Rattle.protocol.specs.declared.Supplied.{Supplied}
use Rattle.protocol.specs.declared.Given.{Given}
use Rattle.protocol.specs.declared.QuestionKind.{QuestionKind}
use Rattle.protocol.specs.declared.QuestionKind.TheVariants as K
use Rattle.protocol.specs.Draws.{Draw, nonce, passkey}
use Rattle.protocol.specs.Parts.{is_key, is_value}
use Rattle.protocol.specs.Role.{Input, command, event}
use Rattle.machine.specs.declared.Phase.TheVariants as P
use Rattle.machine.specs.declared.State.{State}
use Rattle.machine.specs.Refusals.{ReadsPasskey}

-- a public key whose DH is valid, by Just Works or numeric comparison; a round's confirm; the passkey typed after round 0's confirm; the out-of-band random
pub data ReadsNonce (m : State) (a : Supplied) : Input → Type 0 where
  key : {code : ℕ} {body : List ℕ} → m.phase ≡ P.WaitingPublicKey → code ≡ public_key_code → is_key body ≡ true → a.dhvalid ≡ true
      → (m.method ≡ JustWorks) ⊎ (m.method ≡ NumericComparison) → ReadsNonce m a (command (code ∷ body))
  confirm : {code : ℕ} {body : List ℕ} (round : ℕ) → m.phase ≡ P.WaitingPassKeyEntryConfirm round → code ≡ confirm_code → is_value body ≡ true → ReadsNonce m a (command (code ∷ body))
  typed : {p : ℕ} {v : List ℕ} → m.phase ≡ P.WaitingPassKeyInput (Some v) → in_range p ≡ true → ReadsNonce m a (event (I.PassKeyInput p))
  oob : {code : ℕ} {body : List ℕ} → m.phase ≡ P.WaitingOobRandom → code ≡ random_code → is_value body ≡ true → ReadsNonce m a (command (code ∷ body))

-- which calls read a drawn value
abbrev pub Reads : State → Supplied → Input → Draw → Type 0
Reads m a i nonce = ReadsNonce m a i
Reads m a i passkey = ReadsPasskey m a i

-- a and b have the same answer to a kind of question, slot by slot
abbrev pub Told : QuestionKind → Supplied → Supplied → Type 0
Told K.DH a b = (a.dhvalid ≡ b.dhvalid) × (a.dhkey ≡ b.dhkey)
Told K.OwnConfirm a b = a.ownconfirm ≡ b.ownconfirm
Told K.PeerConfirm a b = a.peerconfirm ≡ b.peerconfirm
Told K.G2 a b = a.g2 ≡ b.g2
Told K.F5 a b = (a.mackey ≡ b.mackey) × (a.ltk ≡ b.ltk)
Told K.PeerCheck a b = a.peercheck ≡ b.peercheck
Told K.OwnCheck a b = a.owncheck ≡ b.owncheck

-- and to all that have been given so far
pub record Sofar (g : Given) (a b : Supplied) : Type 0 where
  pub dh : g.dh ≡ true → Told K.DH a b
  pub ownconfirm : g.ownconfirm ≡ true → Told K.OwnConfirm a b
  pub peerconfirm : g.peerconfirm ≡ true → Told K.PeerConfirm a b
  pub g2 : g.g2 ≡ true → Told K.G2 a b
  pub f5 : g.f5 ≡ true → Told K.F5 a b
  pub peercheck : g.peercheck ≡ true → Told K.PeerCheck a b
  pub owncheck : g.owncheck ≡ true → Told K.OwnCheck a b
