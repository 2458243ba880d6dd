-- Numbers, both ways, and the kind of each question: a case is the one that its number gives. Assumes nothing.
use mathlib.Core.Path.{◌≡◌, refl}
use mathlib.Core.List.{List, [], ◌∷◌, map}
use Prim.Native.Nat.{ℕ}
use Rattle.std.specs.Prelude.{Ok}
use Rattle.address.specs.declared.Address.{Address}
use Rattle.protocol.specs.declared.Failure.{Failure}
use Rattle.protocol.specs.declared.Failure.TheVariants as F
use Rattle.protocol.specs.declared.Question.TheVariants as Q
use Rattle.protocol.specs.declared.QuestionKind.TheVariants as K
use Rattle.protocol.specs.declared.Refusal.{Refusal}
use Rattle.protocol.specs.declared.Refusal.TheVariants as R
use Rattle.protocol.specs.Numbers.{failure_number, failure_of, numbered_failure, refusal_number, refusal_of, numbered_refusal}
use Rattle.protocol.specs.Parts.{ask_dh, ask_f4, ask_f5, ask_f6, ask_g2}
use Rattle.protocol.specs.Plan.{kind_of}

pub numbered_failure_number : (f : Failure) → numbered_failure (failure_number f) ≡ Ok f
unfolding failure_of
numbered_failure_number F.InvalidState = refl
numbered_failure_number F.InvalidValue = refl
numbered_failure_number F.Timeout = refl
numbered_failure_number F.PasskeyEntryFailed = refl
numbered_failure_number F.AuthenticationRequirements = refl
numbered_failure_number F.ConfirmValueFailed = refl
numbered_failure_number F.EncryptionKeySize = refl
numbered_failure_number F.InvalidParameters = refl
numbered_failure_number F.DHKeyCheckFailed = refl
numbered_failure_number F.NumericComparisonFailed = refl
numbered_failure_number F.KeyRejected = refl

pub numbered_refusal_number : (r : Refusal) → numbered_refusal (refusal_number r) ≡ Ok r
unfolding refusal_of
numbered_refusal_number R.Finished = refl
numbered_refusal_number R.OutboxShort = refl
numbered_refusal_number R.PasskeyRange = refl

-- what is asked, each kind once
pub kinds_asked : (x y n m : List ℕ) (z : ℕ) (a b : Address)
    → map kind_of (ask_dh x y ∷ ask_f4 Q.OwnConfirm x y n z ∷ ask_f4 Q.PeerConfirm x y n z ∷ ask_g2 x y n m ∷ ask_f5 x n m a b ∷ ask_f6 Q.PeerCheck x n m y x a b ∷ ask_f6 Q.OwnCheck x n m y x a b ∷ [])
    ≡ K.DH ∷ K.OwnConfirm ∷ K.PeerConfirm ∷ K.G2 ∷ K.F5 ∷ K.PeerCheck ∷ K.OwnCheck ∷ []
kinds_asked x y n m z a b = refl
