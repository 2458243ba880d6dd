-- `questions::Query::peer_check` meets its contract. Assumes nothing.
use mathlib.Core.Path.{refl}
use Rattle.machine.specs.Dhkey.{ask_keys, ask_peer_check}
use Rattle.questions.proofs.Asks.{asks_first, asks_second}
use Rattle.questions.proofs.Query.peer_check.Goals as goal

pub returns-then-self : goal.returns-then-self
returns-then-self c = let a = c.args.self in asks_second a.given (ask_keys a.state) (ask_peer_check a.state a.supplied.mackey) c.if-self.true (rw c.ask_peer_check.ensures at c.unless.ensures)

pub returns : goal.returns
returns c = let a = c.args.self in asks_first a.given (ask_keys a.state) _ c.if-self.false (rw c.ask_keys.ensures refl)
