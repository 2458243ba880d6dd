-- `calls::put_header` meets its contract. Assumes nothing.
use borrow.Author.Tests.{le-leb, lt-leb}
use Rattle.calls.specs.Header.{header_octets}
use Rattle.fields.proofs.Parts.{nothing}
use Rattle.calls.proofs.put_header.Goals as goal

pub returns-then-header-gt512 : goal.returns-then-header-gt512
unfolding header_octets
returns-then-header-gt512 c = rw (lt-leb _ _ c.if-header-gt512.true) (nothing _)

pub returns-in_default : goal.returns-in_default
unfolding header_octets
returns-in_default c = rw (le-leb _ _ c.if-header-gt512.false, c.in_default.is) (nothing _)
