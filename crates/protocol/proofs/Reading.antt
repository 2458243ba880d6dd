-- What a plan reads of what it is handed: the answers to what it asks and the values that it draws; and its next question only answers that were
-- given. Assumes nothing.
use Rattle.std.specs.Prelude.{Some}
use mathlib.Core.Path.{◌≡◌, refl, ap, ◌∙◌}
use mathlib.Core.List.{Memᴰ}
use mathlib.Core.Bool.{Bool, true, false, true≢false, false≢true, cond}
use Rattle.protocol.specs.declared.Given.{Given}
use Rattle.protocol.specs.declared.Question.{Question}
use Rattle.protocol.specs.declared.QuestionKind.{QuestionKind}
use Rattle.protocol.specs.declared.Supplied.{Supplied}
use Rattle.protocol.specs.Plan.{Plan, ends, asks, draws_nonce, draws_passkey, tests, kind_of, reply, asked, Agree}
use Rattle.protocol.specs.Draws.{Draw, nonce, passkey, drawn, draws, drawings, Alike}
use Rattle.protocol.specs.Role.{Role, Input, enough, said, plan, step, questions}
use Rattle.protocol.specs.Next.{known, next_of}
use Rattle.protocol.proofs.Plan.{reads_only}

module _ {S : Type 0} (a b : Supplied) where
  -- the answers to what is asked, and the drawn values, are all that a plan looks at
  pub agree : (p : Plan S) → ((q : Question) → Memᴰ q (asked a p) → reply a (kind_of q) ≡ reply b (kind_of q))
      → ((d : Draw) → Memᴰ d (draws a p) → drawn a d ≡ drawn b d) → Agree a b p
  unfolding asked draws Agree
  agree (ends e) h i = tt
  agree (asks q k) h i = (h q (Memᴰ.head refl), agree (k (reply a (kind_of q))) (λ x y. h x (Memᴰ.tail y)) i)
  agree (draws_nonce k) h i = (i nonce (Memᴰ.head refl), agree (k a.nonce) h (λ x y. i x (Memᴰ.tail y)))
  agree (draws_passkey k) h i = (i passkey (Memᴰ.head refl), agree (k a.passkey) h (λ x y. i x (Memᴰ.tail y)))
  agree (tests true p q) h i = (λ _. agree p h i, λ e. absurd (true≢false e))
  agree (tests false p q) h i = (λ e. absurd (false≢true e), λ _. agree q h i)

  -- the next question looks at the answers that were given, and at the drawn values
  module _ (g : Given) (told : (k : QuestionKind) → known g k ≡ true → reply a k ≡ reply b k) (alike : (d : Draw) → drawn a d ≡ drawn b d) where
    pub next_reads : (p : Plan S) → next_of g (asked a p) ≡ next_of g (asked b p)
    unfolding asked next_of
    next_reads (ends e) = refl
    next_reads (asks q k) = go (known g (kind_of q)) refl (next_reads (k (reply a (kind_of q))))
      where
        go : (t : Bool) → known g (kind_of q) ≡ t → next_of g (asked a (k (reply a (kind_of q)))) ≡ next_of g (asked b (k (reply a (kind_of q))))
            → cond t (next_of g (asked a (k (reply a (kind_of q))))) (Some q) ≡ cond t (next_of g (asked b (k (reply b (kind_of q))))) (Some q)
        go true e h = h ∙ ap (λ x. next_of g (asked b (k x))) (told (kind_of q) e)
        go false e h = refl
    next_reads (draws_nonce k) = next_reads (k a.nonce) ∙ ap (λ x. next_of g (asked b (k x))) (alike nonce)
    next_reads (draws_passkey k) = next_reads (k a.passkey) ∙ ap (λ x. next_of g (asked b (k x))) (alike passkey)
    next_reads (tests true p q) = next_reads p
    next_reads (tests false p q) = next_reads q

-- A call of any role
module _ {S : Type 0} (role : Role S) (m : S) (i : Input) (a b : Supplied) where
  -- what its plan does not look at plays no part
  pub call_reads : Agree a b (plan role m i enough) → Alike role m i a b
  unfolding step questions Agree
  call_reads h = record {
    step = λ n. ap (said role m) (reads_only a b (plan role m i n) (λ u. tt, λ u. (λ s. tt, λ s. (h.1 u).1 refl))).0;
    questions = (reads_only a b (plan role m i enough) h).1;
  }

  -- nor does an answer that it does not ask, or a value that it does not draw
  pub call_reads_asked : ((q : Question) → Memᴰ q (questions role m i a) → reply a (kind_of q) ≡ reply b (kind_of q))
      → ((d : Draw) → Memᴰ d (drawings role m i a) → drawn a d ≡ drawn b d) → Alike role m i a b
  unfolding questions drawings
  call_reads_asked h k = call_reads (agree a b (plan role m i enough) h k)
