-- `features::decode` meets its contract. Assumes nothing.
use Rattle.std.proofs.Common.{◌≡◌, ◌∙◌, sym, ap, leb}
use Rattle.std.proofs.lemmas.Bool.{leb-false, leb-true}
use Rattle.std.specs.Result.{result_ok}
use Rattle.features.proofs.Features.{wrong_length, io_above, oob_above, decodes, refused, taken}
use Rattle.features.proofs.decode.Goals as goal

pub returns-then-payload-ne6 : goal.returns-then-payload-ne6
returns-then-payload-ne6 c = wrong_length _ c.if-payload-ne6.true

pub returns-in_err-ok : goal.returns-in_err-ok
returns-in_err-ok c =
    let no = refused _ _ _ (sym (c.ok.ensures.value ∙ ap result_ok c.try_from.ensures) ∙ c.in_err-ok.was) in
    c.from_residual.ensures ∙ io_above _ c.if-payload-ne6.false (leb-false _ _ no)

pub returns-in_err-ok-2 : goal.returns-in_err-ok-2
returns-in_err-ok-2 c =
    let io = taken _ _ _ (sym (c.ok.ensures.value ∙ ap result_ok c.try_from.ensures) ∙ c.in_ok-ok.was) in
    let no = refused _ _ _ (sym (c.ok-2.ensures.value ∙ ap result_ok c.try_from-2.ensures) ∙ c.in_err-ok-2.was) in
    c.from_residual-in_err-ok-2.ensures ∙ oob_above _ c.if-payload-ne6.false (leb-true _ _ io.0) (leb-false _ _ no)

pub returns : goal.returns
returns c =
    let io = taken _ _ _ (sym (c.ok.ensures.value ∙ ap result_ok c.try_from.ensures) ∙ c.in_ok-ok.was) in
    let oob = taken _ _ _ (sym (c.ok-2.ensures.value ∙ ap result_ok c.try_from-2.ensures) ∙ c.in_ok-ok-2.was) in
    rw (io.1, oob.1) (decodes _ c.if-payload-ne6.false (leb-true _ _ io.0) (leb-true _ _ oob.0))
