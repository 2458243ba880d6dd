-- The payload of an answer: two bytes, its class and its number.
use Rattle.std.specs.Prelude.{ℕ, List, [], ◌∷◌, cond, Option, Some, None, length, get_or, eqb}
use Rattle.protocol.specs.Numbers.{failure_number, failure_of, refusal_number, refusal_of}
use Rattle.protocol.specs.declared.Answer.{Answer}
use Rattle.protocol.specs.declared.Answer.TheVariants.{Taken, Failed, Refused}

-- 0 taken, 1 failed, 2 refused
abbrev pub answer_octets : Answer → List ℕ
answer_octets Taken = 0 ∷ 0 ∷ []
answer_octets (Failed failure) = 1 ∷ failure_number failure ∷ []
answer_octets (Refused refusal) = 2 ∷ refusal_number refusal ∷ []

-- the number of a class, 0 alone, a failure's or a refusal's
abbrev pub taken_of : ℕ → Option Answer
taken_of n = cond (eqb n 0) (Some Taken) None

unfoldable pub failed_of : ℕ → Option Answer
failed_of n = cond (eqb (failure_number (failure_of n)) n) (Some (Failed (failure_of n))) None

unfoldable pub refused_of : ℕ → Option Answer
refused_of n = cond (eqb (refusal_number (refusal_of n)) n) (Some (Refused (refusal_of n))) None

-- what two bytes say
unfoldable pub read_answer : List ℕ → Option Answer
read_answer l =
    cond (eqb (length l) 2)
    (cond (eqb (get_or l 0 0) 0) (taken_of (get_or l 1 0))
    (cond (eqb (get_or l 0 0) 1) (failed_of (get_or l 1 0))
    (cond (eqb (get_or l 0 0) 2) (refused_of (get_or l 1 0))
    None)))
    None
