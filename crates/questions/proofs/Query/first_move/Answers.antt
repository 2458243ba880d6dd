-- `questions::Query::first_move` meets its contract. Assumes nothing.
use mathlib.Core.Path.{refl}
use Rattle.std.proofs.lemmas.Bool.{not-true, not-false}
use Rattle.protocol.specs.Exchanged.{fresh}
use Rattle.protocol.proofs.Next.{asks_nothing, passed, stopped}
use Rattle.questions.proofs.Other.{key_comparing, key_other}
use Rattle.questions.proofs.Query.first_move.Goals as goal

pub returns-then-not-self : goal.returns-then-not-self
returns-then-not-self c = stopped (not-true _ c.if-not-self.true) (asks_nothing refl)

pub returns-in-JustWorks : goal.returns-in-JustWorks
returns-in-JustWorks c =
    let a = c.args in
    passed (not-false _ c.if-not-self.false) (key_comparing a.self.state.method a.self.state (fresh a.x a.self.supplied.dhkey) c.in-JustWorks.is c.comparing.ensures)

pub returns-in_default : goal.returns-in_default
returns-in_default c =
    let a = c.args in
    passed (not-false _ c.if-not-self.false) (key_other _ _ _ refl a.self.state.method a.self.state (fresh a.x a.self.supplied.dhkey) c.in_default.not-JustWorks c.in_default.not-NumericComparison)
