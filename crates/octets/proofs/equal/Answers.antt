-- `octets::equal` meets its contract: after i turns `alike` says whether the first i octets agree. Assumes nothing.
use mathlib.Core.Path.{sym, ap, ◌∙◌}
use Prim.Native.Nat.{◌<◌}
use native.Mathlib.Omega.{arith}
use lib.ListN.{length}
use Rattle.octets.proofs.Octets as octets
use Rattle.octets.proofs.equal.Goals as goal
use Rattle.octets.proofs.equal.Goals.{then-a-i, else-a-i}

pub returns-then-a-b : goal.returns-then-a-b
returns-then-a-b c = sym (octets.ne_same _ _ (λ e. c.if-a-b.true (ap length e)))

pub loop-i-init : goal.loop-i-init
loop-i-init c = sym (octets.alike_none _ _)

pub loop-i-preserved : goal.loop-i-preserved
loop-i-preserved c =
    let i = c.loop-i.i in
    let a = c.args.a.now in
    let b = c.args.b.now in
    let ha : i < length a = omega arith in
    let hb : i < length b = omega arith in
    elim c.if-a-i.branch [
      | then-a-i w ↦ w.alike-is ∙ octets.alike_differ a b i ha hb w.if-a-i.true
      | else-a-i w ↦ w.alike-is ∙ octets.alike_agree a b i ha hb _ c.loop-i.invariant w.if-a-i.false
    ]

pub returns : goal.returns
returns c = c.loop-i.invariant ∙ octets.alike_all _ _ _ (omega arith) (omega arith)
