-- `wrapper::initiate_peripheral` meets its contract. Assumes nothing.
use mathlib.Core.Path.{ap, ◌∙◌}
use Rattle.features.specs.Bits.{our_auth_req}
use Rattle.wrapper.proofs.Starting.{short_start, unfit_start, opens}
use Rattle.wrapper.proofs.initiate_peripheral.Goals as goal

pub returns-then-out-lt-ENOUGH : goal.returns-then-out-lt-ENOUGH
returns-then-out-lt-ENOUGH c = short_start _ _ _ c.if-out-lt-ENOUGH.true c.refused.ensures

pub returns-in-Ok : goal.returns-in-Ok
returns-in-Ok c =
    let bonding = c.args.setup.bonding in
    opens _ _ _ c.if-out-lt-ENOUGH.false c.new_peripheral-begun.ensures c.in-Ok.is _
    (c.auth_req-authreq.ensures ∙ ap (our_auth_req bonding) c.asks_mitm.ensures) c.security_request.ensures

pub returns-in-Err : goal.returns-in-Err
returns-in-Err c = unfit_start _ _ _ c.if-out-lt-ENOUGH.false c.new_peripheral-begun.ensures c.in-Err.is
