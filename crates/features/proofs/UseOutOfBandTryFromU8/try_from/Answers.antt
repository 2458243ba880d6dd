-- `UseOutOfBand::try_from` meets its contract. Assumes nothing.
use Rattle.std.proofs.Common.{rules, ◌<◌}
use Rattle.features.proofs.Features.{oob_reserved}
use Rattle.features.proofs.UseOutOfBandTryFromU8.try_from.Goals as goal

pub returns-in_default : goal.returns-in_default
returns-in_default c = let h : 1 < c.args.oob = search rules in oob_reserved _ h
