-- `frames::public_key_confirm` meets its contract. Assumes nothing.
use mathlib.Core.List.{[], ◌∷◌}
use mathlib.Core.Path.{◌≡◌}
use lib.ListN.{length}
use Rattle.frames.specs.Packets.{channel, framed, public_key, pairing_confirm}
use Rattle.frames.proofs.Frames.{length_frame, length_value, length_key, no_frames, both_framed}
use borrow.Author.Rules.{rules}
use Rattle.frames.proofs.public_key_confirm.Goals as goal

pub returns-then-out-lt90 : goal.returns-then-out-lt90
returns-then-out-lt90 c =
    let args = c.args in
    let x : length args.x ≡ 32 = search rules in
    let y : length args.y ≡ 32 = search rules in
    let v : length args.value ≡ 16 = search rules in
    no_frames (framed channel (public_key args.x args.y ∷ [])) (framed channel (pairing_confirm args.value ∷ [])) _ 69 21 (length_frame _ _ 64 (length_key _ _ x y)) (length_frame _ _ 16 (length_value _ 16 v)) c.if-out-lt90.true

pub returns : goal.returns
returns c =
    let args = c.args in
    let x : length args.x ≡ 32 = search rules in
    let y : length args.y ≡ 32 = search rules in
    let v : length args.value ≡ 16 = search rules in
    both_framed _ _ _ 69 21 (length_frame _ _ 64 (length_key _ _ x y)) (length_frame _ _ 16 (length_value _ 16 v)) _ _ _ _ c.if-out-lt90.false c.public_key.ensures c.confirm.ensures
