-- `method::by_io` meets its contract: each arm is a cell of Table 2.8. Assumes nothing.
use Rattle.method.proofs.Method.{no_input}
use Rattle.method.proofs.by_io.Goals as goal

pub returns-in-KeyboardOnly-peripheral : goal.returns-in-KeyboardOnly-peripheral
returns-in-KeyboardOnly-peripheral c = rw (c.in-DisplayOnly.is, c.in-KeyboardOnly-peripheral.is)

pub returns-in-KeyboardDisplay-peripheral : goal.returns-in-KeyboardDisplay-peripheral
returns-in-KeyboardDisplay-peripheral c = rw (c.in-DisplayOnly.is, c.in-KeyboardDisplay-peripheral.is)

pub returns-in-DisplayYesNo-peripheral-2 : goal.returns-in-DisplayYesNo-peripheral-2
returns-in-DisplayYesNo-peripheral-2 c = rw (c.in-DisplayYesNo.is, c.in-DisplayYesNo-peripheral-2.is) c.numeric_or.ensures

pub returns-in-KeyboardOnly-peripheral-2 : goal.returns-in-KeyboardOnly-peripheral-2
returns-in-KeyboardOnly-peripheral-2 c = rw (c.in-DisplayYesNo.is, c.in-KeyboardOnly-peripheral-2.is)

pub returns-in-KeyboardDisplay-peripheral-2 : goal.returns-in-KeyboardDisplay-peripheral-2
returns-in-KeyboardDisplay-peripheral-2 c = rw (c.in-DisplayYesNo.is, c.in-KeyboardDisplay-peripheral-2.is) c.numeric_or-in-KeyboardDisplay-peripheral-2.ensures

pub returns-in-DisplayOnly-peripheral-3 : goal.returns-in-DisplayOnly-peripheral-3
returns-in-DisplayOnly-peripheral-3 c = rw (c.in-KeyboardOnly.is, c.in-DisplayOnly-peripheral-3.is)

pub returns-in-DisplayYesNo-peripheral-3 : goal.returns-in-DisplayYesNo-peripheral-3
returns-in-DisplayYesNo-peripheral-3 c = rw (c.in-KeyboardOnly.is, c.in-DisplayYesNo-peripheral-3.is)

pub returns-in-KeyboardOnly-peripheral-3 : goal.returns-in-KeyboardOnly-peripheral-3
returns-in-KeyboardOnly-peripheral-3 c = rw (c.in-KeyboardOnly.is, c.in-KeyboardOnly-peripheral-3.is)

pub returns-in-KeyboardDisplay-peripheral-3 : goal.returns-in-KeyboardDisplay-peripheral-3
returns-in-KeyboardDisplay-peripheral-3 c = rw (c.in-KeyboardOnly.is, c.in-KeyboardDisplay-peripheral-3.is)

pub returns-in-NoInputNoOutput : goal.returns-in-NoInputNoOutput
returns-in-NoInputNoOutput c = rw c.in-NoInputNoOutput.is (no_input c.args.peripheral c.args.kind)

pub returns-in-DisplayOnly-peripheral-4 : goal.returns-in-DisplayOnly-peripheral-4
returns-in-DisplayOnly-peripheral-4 c = rw (c.in-KeyboardDisplay.is, c.in-DisplayOnly-peripheral-4.is)

pub returns-in-DisplayYesNo-peripheral-4 : goal.returns-in-DisplayYesNo-peripheral-4
returns-in-DisplayYesNo-peripheral-4 c = rw (c.in-KeyboardDisplay.is, c.in-DisplayYesNo-peripheral-4.is) c.numeric_or-in-DisplayYesNo-peripheral-4.ensures

pub returns-in-KeyboardOnly-peripheral-4 : goal.returns-in-KeyboardOnly-peripheral-4
returns-in-KeyboardOnly-peripheral-4 c = rw (c.in-KeyboardDisplay.is, c.in-KeyboardOnly-peripheral-4.is)

pub returns-in-KeyboardDisplay-peripheral-4 : goal.returns-in-KeyboardDisplay-peripheral-4
returns-in-KeyboardDisplay-peripheral-4 c = rw (c.in-KeyboardDisplay.is, c.in-KeyboardDisplay-peripheral-4.is) c.numeric_or-in-KeyboardDisplay-peripheral-4.ensures
