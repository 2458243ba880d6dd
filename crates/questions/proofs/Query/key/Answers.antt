-- `questions::Query::key` meets its contract. Assumes nothing.
use mathlib.Core.Path.{refl, sym, ◌∙◌}
use Rattle.protocol.proofs.Follows.{read_x, read_y}
use Rattle.protocol.proofs.Next.{asks_now, asks_later}
use Rattle.questions.proofs.Asks.{heard, heard_size, unheard}
use Rattle.questions.proofs.Query.key.Goals as goal

pub returns-in_err-ok : goal.returns-in_err-ok
returns-in_err-ok c = unheard _ c.public_key.ensures (sym c.ok.ensures.value ∙ rw c.in_err-ok.is at c.branch-ok.ensures) c.from_residual.ensures

pub returns-then-self : goal.returns-then-self
returns-then-self c =
    let told = sym c.ok.ensures.value ∙ rw c.in_ok-ok.is at c.branch-ok.ensures in
    heard _ c.public_key.ensures told
    (asks_later c.if-self.true (rw (← (c.peer_x-x.ensures ∙ read_x c.args.payload.now (heard_size _ _ _ _ c.public_key.ensures told))) c.first_move.ensures))

pub returns : goal.returns
returns c =
    let told = sym c.ok.ensures.value ∙ rw c.in_ok-ok.is at c.branch-ok.ensures in
    let size = heard_size _ _ _ _ c.public_key.ensures told in
    heard _ c.public_key.ensures told
    (rw (← (c.peer_x-x.ensures ∙ read_x c.args.payload.now size), ← (c.peer_y-y.ensures ∙ read_y c.args.payload.now size))
    (asks_now c.if-self.false refl))
