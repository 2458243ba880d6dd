-- `octets::all_zero16` meets its contract. Assumes nothing.
use mathlib.Core.Path.{◌≡◌, ◌∙◌}
use lib.ListN.{length}
use Rattle.octets.specs.Octets.{zeros}
use Rattle.octets.proofs.Octets.{zero_same}
use borrow.Author.Rules.{rules}
use Rattle.octets.proofs.all_zero16.Goals as goal

pub returns : goal.returns
unfolding zeros
returns c = let n : length c.args.a ≡ 16 = search rules in c.equal.ensures ∙ zero_same 16 _ n
