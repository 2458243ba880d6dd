-- The query: the first question of a plan whose answer has not been given.
use Rattle.std.specs.Prelude.{◌≡◌, List, [], ◌∷◌, Bool, cond, Option, Some, None}
use Rattle.protocol.specs.declared.Given.{Given}
use Rattle.protocol.specs.declared.Question.{Question}
use Rattle.protocol.specs.declared.QuestionKind.{QuestionKind}
use Rattle.protocol.specs.declared.QuestionKind.TheVariants as K
use Rattle.protocol.specs.declared.Supplied.{Supplied}
use Rattle.protocol.specs.Plan.{Plan, kind_of, asked}

-- whether a kind of question has its answer
abbrev pub known : Given → QuestionKind → Bool
known g K.DH = g.dh
known g K.OwnConfirm = g.ownconfirm
known g K.PeerConfirm = g.peerconfirm
known g K.G2 = g.g2
known g K.F5 = g.f5
known g K.PeerCheck = g.peercheck
known g K.OwnCheck = g.owncheck

unfoldable pub next_of : Given → List Question → Option Question
next_of g [] = None
next_of g (q ∷ qs) = cond (known g (kind_of q)) (next_of g qs) (Some q)

-- r is the next question of the plan p, or none, handed a, where the answers g are given
pub record Queried {S : Type 0} (g : Given) (a : Supplied) (p : Plan S) (r : Option Question) : Type 0 where
  pub next : r ≡ next_of g (asked a p)
