-- `inputs::put_command` meets its contract. Assumes nothing.
use Rattle.std.proofs.Common.{rules, length, sym, ap, ◌∙◌, ◌≡◌, refl}
use borrow.Author.Tests.{le-leb, lt-leb}
use Rattle.frames.proofs.Frames.{no_frames, both_framed}
use Rattle.fields.specs.Fields.{join}
use Rattle.inputs.specs.Input.{call_rows, command_octets}
use Rattle.fields.proofs.Parts.{nothing, wrote_as}
use Rattle.inputs.proofs.put_command.Goals as goal

pub returns-then-call-gt512 : goal.returns-then-call-gt512
unfolding command_octets
returns-then-call-gt512 c = rw (lt-leb _ _ c.if-call-gt512.true) (nothing _)

pub returns-then-n-gt356 : goal.returns-then-n-gt356
unfolding command_octets
returns-then-n-gt356 c = rw (le-leb _ _ c.if-call-gt512.false, lt-leb _ _ c.if-n-gt356.true) (nothing _)

pub returns-then-out-n : goal.returns-then-out-n
unfolding command_octets
returns-then-out-n c =
    let head : length c.call_octets-head.result ≡ 156 = search rules in
    rw (le-leb _ _ c.if-call-gt512.false, le-leb _ _ c.if-n-gt356.false)
    (no_frames (join (call_rows c.args.call)) c.args.cmd.now _ 156 _ (ap length (sym c.call_octets-head.ensures) ∙ head) refl c.if-out-n.true)

pub returns : goal.returns
unfolding command_octets
returns c =
    let head : length c.call_octets-head.result ≡ 156 = search rules in
    rw (le-leb _ _ c.if-call-gt512.false, le-leb _ _ c.if-n-gt356.false)
    (both_framed (join (call_rows c.args.call)) c.args.cmd.now _ 156 _ (ap length (sym c.call_octets-head.ensures) ∙ head) refl _ _ _ _ c.if-out-n.false (wrote_as _ c.call_octets-head.ensures c.put.ensures) c.put-2.ensures)
