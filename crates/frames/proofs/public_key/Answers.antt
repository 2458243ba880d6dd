-- `frames::public_key` meets its contract: x behind the header, y behind x. Assumes nothing.
use mathlib.Core.Path.{◌≡◌, refl}
use Prim.Native.Nat.{◌≤◌}
use native.Mathlib.Omega.{arith}
use lib.ListN.{length}
use Rattle.octets.proofs.Write.{then_part}
use Rattle.frames.proofs.Frames.{length_value, length_key, length_head_value, no_frame, whole_frame}
use borrow.Author.Rules.{rules}
use Rattle.frames.proofs.public_key.Goals as goal

pub returns-then-out-lt69 : goal.returns-then-out-lt69
returns-then-out-lt69 c =
    let x : length c.args.x ≡ 32 = search rules in
    let y : length c.args.y ≡ 32 = search rules in
    no_frame _ 64 _ _ (length_key _ _ x y) c.if-out-lt69.true

pub returns : goal.returns
returns c =
    let x : length c.args.x ≡ 32 = search rules in
    let y : length c.args.y ≡ 32 = search rules in
    let room : 37 ≤ length c.args.out.now = omega (arith, c.if-out-lt69.false) in
    whole_frame _ 64 _ _ (length_key _ _ x y) _ c.if-out-lt69.false
    (then_part _ _ 37 (length_head_value 65 12 _ 32 x) _ _ _ 32 _ (length_value _ 32 y) c.if-out-lt69.false
    (then_part _ _ 5 refl _ _ _ 32 _ (length_value _ 32 x) room c.header.ensures c.put_reversed.ensures)
    c.put_reversed-2.ensures)
