-- The scope's numbers: what is given back where a pairing fails or a call is refused.
use Rattle.std.specs.Prelude.{ℕ, cond, Result, Ok, Err, eqb}
use Rattle.protocol.specs.declared.Failure.{Failure}
use Rattle.protocol.specs.declared.Failure.TheVariants as F
use Rattle.protocol.specs.declared.UnknownNumber.{UnknownNumber}
use Rattle.protocol.specs.declared.Refusal.{Refusal}
use Rattle.protocol.specs.declared.Refusal.TheVariants as R

-- from 33 on: 32 plus the reason of Part H 3.5.5
abbrev pub failure_number : Failure → ℕ
failure_number F.InvalidState = 16
failure_number F.InvalidValue = 17
failure_number F.Timeout = 18
failure_number F.PasskeyEntryFailed = 33
failure_number F.AuthenticationRequirements = 35
failure_number F.ConfirmValueFailed = 36
failure_number F.EncryptionKeySize = 38
failure_number F.InvalidParameters = 42
failure_number F.DHKeyCheckFailed = 43
failure_number F.NumericComparisonFailed = 44
failure_number F.KeyRejected = 47

-- R1 to R3
abbrev pub refusal_number : Refusal → ℕ
refusal_number R.Finished = 1
refusal_number R.OutboxShort = 2
refusal_number R.PasskeyRange = 3

-- the failure and the refusal of a number; of another number it is one whose own number differs
unfoldable pub failure_of : ℕ → Failure
failure_of n =
    cond (eqb n 16) F.InvalidState
    (cond (eqb n 17) F.InvalidValue
    (cond (eqb n 18) F.Timeout
    (cond (eqb n 33) F.PasskeyEntryFailed
    (cond (eqb n 35) F.AuthenticationRequirements
    (cond (eqb n 36) F.ConfirmValueFailed
    (cond (eqb n 38) F.EncryptionKeySize
    (cond (eqb n 42) F.InvalidParameters
    (cond (eqb n 43) F.DHKeyCheckFailed
    (cond (eqb n 44) F.NumericComparisonFailed
    F.KeyRejected)))))))))

unfoldable pub refusal_of : ℕ → Refusal
refusal_of n = cond (eqb n 1) R.Finished (cond (eqb n 2) R.OutboxShort R.PasskeyRange)

-- the failure and the refusal that have a number; no other number is one
abbrev pub numbered_failure : ℕ → Result Failure UnknownNumber
numbered_failure n = cond (eqb (failure_number (failure_of n)) n) (Ok (failure_of n)) (Err record { 0 = n })

abbrev pub numbered_refusal : ℕ → Result Refusal UnknownNumber
numbered_refusal n = cond (eqb (refusal_number (refusal_of n)) n) (Ok (refusal_of n)) (Err record { 0 = n })
