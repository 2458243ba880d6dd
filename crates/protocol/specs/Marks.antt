-- Runs with timeout marks anywhere in them, of any role.
use Rattle.std.specs.Prelude.{List, [], ◌∷◌}
use Rattle.protocol.specs.Role.{Role, Call, step, timed_out, is_taken, keep, after}

-- what is done to a machine: a call, or marking a timeout
pub data Deed : Type 0 where
  call : Call → Deed
  mark : Deed

module _ {S : Type 0} (role : Role S) where
  -- the machine after a deed, and after a list of deeds
  abbrev pub done : S → Deed → S
  done m (call c) = after role m c
  done m mark = timed_out role m

  unfoldable pub ran : S → List Deed → S
  ran m [] = m
  ran m (d ∷ ds) = ran (done m d) ds

  -- the calls among them that were taken: a mark is no input
  unfoldable pub inputs : S → List Deed → List Call
  inputs m [] = []
  inputs m (call c ∷ ds) = keep (is_taken (step role m c).answer) c (inputs (after role m c) ds)
  inputs m (mark ∷ ds) = inputs (timed_out role m) ds
