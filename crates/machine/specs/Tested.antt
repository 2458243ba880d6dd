-- Which bits of the passkey a run tests: z of the f4 that each round's random is compared with.
use Rattle.std.specs.Prelude.{ℕ, zero, suc, ◌+◌, List, [], ◌∷◌, ◌++◌, map, cond}
use Rattle.protocol.specs.declared.Question.{Question}
use Rattle.protocol.specs.declared.Question.TheVariants as Q
use Rattle.protocol.specs.Role.{Call, step, questions, is_taken, after}
use Rattle.machine.specs.declared.State.{State}
use Rattle.machine.specs.Responder.{responder}
use Rattle.machine.specs.Run.{in_round}

-- z of f4; 0 where a question takes none
abbrev pub asked_z : Question → ℕ
asked_z (Q.DH x y) = 0
asked_z (Q.OwnConfirm c) = c.z
asked_z (Q.PeerConfirm c) = c.z
asked_z (Q.G2 u v x y) = 0
asked_z (Q.F5 w n1 n2 a1 a2) = 0
asked_z (Q.PeerCheck c) = 0
asked_z (Q.OwnCheck c) = 0

-- z of each question that a taken call asks in WaitingPassKeyEntryRandom, along a run
unfoldable pub tested : State → List Call → List ℕ
tested m [] = []
tested m (c ∷ cs) =
    cond (is_taken (step responder m c).answer) (in_round m.phase (λ r. map asked_z (questions responder m c.input c.supplied)) []) []
    ++ tested (after responder m c) cs

-- n numbers from r on
unfoldable pub up_from : ℕ → ℕ → List ℕ
up_from zero r = []
up_from (suc n) r = r ∷ up_from n (r + 1)
