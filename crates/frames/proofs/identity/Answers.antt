-- `frames::identity` meets its contract. Assumes nothing.
use mathlib.Core.List.{[], ◌∷◌}
use mathlib.Core.Path.{◌≡◌, ap}
use Prim.Native.Nat.{suc}
use lib.ListN.{length}
use Rattle.frames.specs.Packets.{channel, framed, identity_information, identity_address}
use Rattle.frames.proofs.Frames.{length_frame, length_value, no_frames, both_framed}
use borrow.Author.Rules.{rules}
use Rattle.frames.proofs.identity.Goals as goal

pub returns-then-out-lt33 : goal.returns-then-out-lt33
returns-then-out-lt33 c =
    let args = c.args in
    let v : length args.irk ≡ 16 = search rules in
    let a : length args.address.octets ≡ 6 = search rules in
    no_frames (framed channel (identity_information args.irk ∷ [])) (framed channel (identity_address args.address ∷ [])) _ 21 12 (length_frame _ _ 16 (length_value _ 16 v)) (length_frame _ _ 7 (ap suc (length_value _ 6 a))) c.if-out-lt33.true

pub returns : goal.returns
returns c =
    let args = c.args in
    let v : length args.irk ≡ 16 = search rules in
    let a : length args.address.octets ≡ 6 = search rules in
    both_framed _ _ _ 21 12 (length_frame _ _ 16 (length_value _ 16 v)) (length_frame _ _ 7 (ap suc (length_value _ 6 a))) _ _ _ _ c.if-out-lt33.false c.identity_information.ensures c.identity_address.ensures
