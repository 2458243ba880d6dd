-- `IoCapabilities::try_from` meets its contract. Assumes nothing.
use Rattle.std.proofs.Common.{rules, ◌<◌}
use Rattle.features.proofs.Features.{io_reserved}
use Rattle.features.proofs.IoCapabilitiesTryFromU8.try_from.Goals as goal

pub returns-in_default : goal.returns-in_default
returns-in_default c = let h : 4 < c.args.io = search rules in io_reserved _ h
