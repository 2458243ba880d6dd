-- `rounds::z` meets its contract. Assumes nothing.
use Rattle.rounds.proofs.Rounds.{z_high}
use borrow.Author.Rules.{rules}
use Rattle.rounds.proofs.z.Goals as goal

pub returns-then-round-ge32 : goal.returns-then-round-ge32
returns-then-round-ge32 c = z_high _ _ (search rules) c.if-round-ge32.true
