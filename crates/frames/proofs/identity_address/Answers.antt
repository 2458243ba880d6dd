-- `frames::identity_address` meets its contract. Assumes nothing.
use mathlib.Core.Path.{◌≡◌, refl, ap}
use Prim.Native.Nat.{suc}
use lib.ListN.{length}
use Rattle.octets.proofs.Write.{then_part}
use Rattle.frames.proofs.Frames.{length_value, no_frame, whole_frame}
use borrow.Author.Rules.{rules}
use Rattle.frames.proofs.identity_address.Goals as goal

pub returns-then-out-lt12 : goal.returns-then-out-lt12
returns-then-out-lt12 c =
    let v : length c.args.address.octets ≡ 6 = search rules in
    no_frame _ 7 _ _ (ap suc (length_value _ 6 v)) c.if-out-lt12.true

pub returns : goal.returns
returns c =
    let v : length c.args.address.octets ≡ 6 = search rules in
    whole_frame _ 7 _ _ (ap suc (length_value _ 6 v)) _ c.if-out-lt12.false
    (rw (← c.from.ensures)
    (then_part _ _ 6 refl _ _ _ 6 _ (length_value _ 6 v) c.if-out-lt12.false c.header_and.ensures c.put_reversed.ensures))
