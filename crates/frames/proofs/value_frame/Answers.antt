-- `frames::value_frame` meets its contract. Assumes nothing.
use mathlib.Core.Path.{◌≡◌, refl}
use lib.ListN.{length}
use Rattle.octets.proofs.Write.{then_part}
use Rattle.frames.proofs.Frames.{length_value, no_frame, whole_frame}
use borrow.Author.Rules.{rules}
use Rattle.frames.proofs.value_frame.Goals as goal

pub returns-then-out-lt21 : goal.returns-then-out-lt21
returns-then-out-lt21 c =
    let v : length c.args.value ≡ 16 = search rules in
    no_frame _ 16 _ _ (length_value _ 16 v) c.if-out-lt21.true

pub returns : goal.returns
returns c =
    let v : length c.args.value ≡ 16 = search rules in
    whole_frame _ 16 _ _ (length_value _ 16 v) _ c.if-out-lt21.false
    (then_part _ _ 5 refl _ _ _ 16 _ (length_value _ 16 v) c.if-out-lt21.false c.header.ensures c.put_reversed.ensures)
