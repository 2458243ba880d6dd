-- `address::decode` meets its contract. Assumes nothing.
use Rattle.std.proofs.Common.{◌∙◌, sym, ap}
use Rattle.std.specs.Result.{result_ok}
use Rattle.address.proofs.Identity.{too_short, typed, untyped}
use Rattle.address.proofs.decode.Goals as goal

pub returns-then-payload-lt7 : goal.returns-then-payload-lt7
returns-then-payload-lt7 c = too_short _ c.if-payload-lt7.true

pub returns-in_err-ok : goal.returns-in_err-ok
returns-in_err-ok c =
    c.from_residual.ensures ∙ untyped _ c.if-payload-lt7.false (sym (c.ok.ensures.value ∙ ap result_ok c.try_from.ensures) ∙ c.in_err-ok.was)

pub returns : goal.returns
returns c = rw (c.reversed.ensures) (typed _ c.if-payload-lt7.false _ (sym (c.ok.ensures.value ∙ ap result_ok c.try_from.ensures) ∙ c.in_ok-ok.was))
