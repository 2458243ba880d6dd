-- `exchange::show` meets its contract. Assumes nothing.
use mathlib.Core.Path.{sym, ap, ◌∙◌}
use Rattle.protocol.specs.Plan.{ends}
use Rattle.protocol.specs.Parts.{shown}
use Rattle.protocol.proofs.Follows.{refusing, drawing_passkey, passes, stops}
use Rattle.machine.specs.Exchange.{showing}
use Rattle.exchange.proofs.show.Goals as goal

pub returns-in-Some : goal.returns-in-Some
returns-in-Some c = rw (ap (λ o. shown o λ p. ends (showing c.args.state c.args.secrets p)) c.in-Some.is) (c.show_passkey.ensures _)

pub returns-then-in_range : goal.returns-then-in_range
returns-then-in_range c =
    rw (ap (λ o. shown o λ p. ends (showing c.args.state c.args.secrets p)) c.in_default.is)
    (drawing_passkey (passes (sym c.in_range.ensures ∙ c.if-in_range.true) (c.show_passkey-then-in_range.ensures _)))

pub returns : goal.returns
returns c =
    rw (ap (λ o. shown o λ p. ends (showing c.args.state c.args.secrets p)) c.in_default.is)
    (drawing_passkey (stops (sym c.in_range.ensures ∙ c.if-in_range.false) (refusing c.refused.ensures)))
