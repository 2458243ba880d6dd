-- `setups::setup_head` meets its contract. Assumes nothing.
use Rattle.std.specs.Prelude.{is_some}
use Rattle.fields.specs.Fields.{little, join}
use Rattle.fields.proofs.Flags.{flag_byte}
use Rattle.setups.proofs.setup_head.Goals as goal

pub returns : goal.returns
unfolding little join
returns c =
    let call = c.args.call in
    rw (
      c.from-5.ensures,
      c.is_some.ensures,
      flag_byte (is_some call.passkey),
      c.from-4.ensures,
      flag_byte call.bonding,
      c.from-3.ensures,
      c.from-2.ensures,
      c.from.ensures,
      c.bytes4-digits.ensures,
      c.unwrap_or.ensures,
      c.bytes2-outbox.ensures,
    )
