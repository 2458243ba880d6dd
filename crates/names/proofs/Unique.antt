-- No second answer meets a contract of this crate; of `event` and `question`, which lend a text, none with other octets. Assumes nothing.
use Rattle.std.proofs.Common.{ℕ, ◌≡◌, List, Bor}
use Rattle.octets.proofs.Settles.{Unique, only}
use Rattle.names.proofs.failure.Reads as failure
use Rattle.names.proofs.refusal.Reads as refusal
use Rattle.names.proofs.level.Reads as level
use Rattle.names.proofs.method.Reads as method
use Rattle.names.proofs.state.Reads as state
use Rattle.names.proofs.event_word.Reads as event_word
use Rattle.names.proofs.question_word.Reads as question_word
use Rattle.names.proofs.event.Reads as event
use Rattle.names.proofs.question.Reads as question

pub failure_unique : Unique failure.Post
failure_unique κs a z z' e e' p q = only p q

pub refusal_unique : Unique refusal.Post
refusal_unique κs a z z' e e' p q = only p q

pub level_unique : Unique level.Post
level_unique κs a z z' e e' p q = only p q

pub method_unique : Unique method.Post
method_unique κs a z z' e e' p q = only p q

pub state_unique : Unique state.Post
state_unique κs a z z' e e' p q = only p q

pub event_word_unique : Unique event_word.Post
event_word_unique κs a z z' e e' p q = only p q

pub question_word_unique : Unique question_word.Post
question_word_unique κs a z z' e e' p q = only p q

-- two calls on the same argument give the same octets; where a lent text lies no contract can say
abbrev pub Spelled {ℓ₁ ℓ₂ ℓ₃} : {L : Type ℓ₁} {D : L → Type ℓ₂} {E : L → Type ℓ₃} → ((κs : L) → D κs → Bor (List ℕ) → E κs → Type 0) → Type (ℓ₁ ⊔ ℓ₂ ⊔ ℓ₃)
Spelled {L = L} {D} {E} P = (κs : L) (a : D κs) (z z' : Bor (List ℕ)) (e e' : E κs) → P κs a z e → P κs a z' e' → z.now ≡ z'.now

pub event_unique : Spelled event.Post
event_unique κs a z z' e e' p q = only p q

pub question_unique : Spelled question.Post
question_unique κs a z z' e e' p q = only p q
