-- Reading a header or an answer that was written gives it again, and writing what was read gives the same bytes. Assumes nothing.
use mathlib.Core.Path.{◌≡◌, refl, sym, ap, ◌∙◌}
use mathlib.Core.List.{List, [], ◌∷◌}
use mathlib.Core.Bool.{Bool, true, false, cond}
use mathlib.Core.Logic.{◌⊎◌, inl, inr, ⊎_elim}
use Prim.Native.Nat.{ℕ, zero, suc, ◌≤◌, ◌<◌}
use native.Mathlib.Omega.{arith}
use lib.ListN.{length, get_or}
use lib.Seq.{take_all}
use lib.Dec.{eqb}
use borrow.Author.Tests.{eq-eqb, ne_eqb, le-leb, eqb-true}
use Rattle.std.specs.Prelude.{Option, Some, None}
use Rattle.protocol.specs.Numbers.{failure_number, failure_of, refusal_number, refusal_of}
use Rattle.protocol.specs.declared.Failure.TheVariants as F
use Rattle.protocol.specs.declared.Refusal.TheVariants as R
use Rattle.protocol.specs.declared.Answer.{Answer}
use Rattle.protocol.specs.declared.Answer.TheVariants.{Taken, Failed, Refused}
use Rattle.fields.specs.Fields.{little, number, number_at, join}
use Rattle.fields.proofs.Cut.{row_eq, join_cut, number_two, Below, number_row}
use Rattle.calls.specs.declared.Kind.{Kind}
use Rattle.calls.specs.declared.Kind.TheVariants as K
use Rattle.calls.specs.declared.Header.{Header}
use Rattle.calls.specs.Header.{record_number, record_of, header_octets, read_header}
use Rattle.calls.specs.Answer.{answer_octets, taken_of, failed_of, refused_of, read_answer}

-- Headers: of a known kind, and a length of at most 512

read_kind : (n : ℕ) (k : Option Kind) → n ≤ 512 → (record_number k ≡ 0 → ⊥) → read_header (header_octets (record { length = n; kind = k })) ≡ record { length = n; kind = k }
unfolding read_header header_octets join little number
read_kind n (Some K.Setup) h d = rw (le-leb n 512 h) (ap (λ (m : ℕ). record { length = m; kind = Some K.Setup }) (number_two n (omega arith)))
read_kind n (Some K.Command) h d = rw (le-leb n 512 h) (ap (λ (m : ℕ). record { length = m; kind = Some K.Command }) (number_two n (omega arith)))
read_kind n (Some K.Event) h d = rw (le-leb n 512 h) (ap (λ (m : ℕ). record { length = m; kind = Some K.Event }) (number_two n (omega arith)))
read_kind n (Some K.Timeout) h d = rw (le-leb n 512 h) (ap (λ (m : ℕ). record { length = m; kind = Some K.Timeout }) (number_two n (omega arith)))
read_kind n (Some K.Answer) h d = rw (le-leb n 512 h) (ap (λ (m : ℕ). record { length = m; kind = Some K.Answer }) (number_two n (omega arith)))
read_kind n None h d = absurd (d refl)

pub read_put_header : (h : Header) → h.length ≤ 512 → (record_number h.kind ≡ 0 → ⊥) → read_header (header_octets h) ≡ h
read_put_header h n d = read_kind h.length h.kind n d

no_record : (n : ℕ) → 5 < n → record_number (record_of n) ≡ 0
no_record n h =
    rw (ne_eqb n 1 (λ e. omega arith), ne_eqb n 2 (λ e. omega arith), ne_eqb n 3 (λ e. omega arith), ne_eqb n 4 (λ e. omega arith), ne_eqb n 5 (λ e. omega arith))

record_number_lem : (n : ℕ) → (record_number (record_of n) ≡ 0 → ⊥) → record_number (record_of n) ≡ n
record_number_lem zero d = refl
record_number_lem (suc zero) d = refl
record_number_lem (suc (suc zero)) d = refl
record_number_lem (suc (suc (suc zero))) d = refl
record_number_lem (suc (suc (suc (suc zero)))) d = refl
record_number_lem (suc (suc (suc (suc (suc zero))))) d = refl
record_number_lem (suc (suc (suc (suc (suc (suc n)))))) d = absurd (d (no_record (suc (suc (suc (suc (suc (suc n)))))) (omega arith)))

pub put_read_header : (l : List ℕ) → Below l → length l ≡ 4 → number_at 2 0 l ≤ 512 → (record_number (record_of (number_at 2 2 l)) ≡ 0 → ⊥) → header_octets (read_header l) ≡ l
unfolding read_header header_octets
put_read_header l b s h d =
    let k = record_number_lem (number_at 2 2 l) d in
    rw (eq-eqb (length l) 4 s, le-leb (number_at 2 0 l) 512 h, ne_eqb (record_number (record_of (number_at 2 2 l))) 0 d)
    (ap join (row_eq (number_row 2 0 l b (omega arith)) (row_eq (ap (little 2) k ∙ number_row 2 2 l b (omega arith)) refl))
    ∙ join_cut (2 ∷ 2 ∷ []) l 0
    ∙ take_all 4 l (omega arith))

-- Answers

pub read_put_answer : (a : Answer) → read_answer (answer_octets a) ≡ Some a
unfolding read_answer failed_of refused_of failure_of refusal_of
read_put_answer Taken = refl
read_put_answer (Failed F.InvalidState) = refl
read_put_answer (Failed F.InvalidValue) = refl
read_put_answer (Failed F.Timeout) = refl
read_put_answer (Failed F.PasskeyEntryFailed) = refl
read_put_answer (Failed F.AuthenticationRequirements) = refl
read_put_answer (Failed F.ConfirmValueFailed) = refl
read_put_answer (Failed F.EncryptionKeySize) = refl
read_put_answer (Failed F.InvalidParameters) = refl
read_put_answer (Failed F.DHKeyCheckFailed) = refl
read_put_answer (Failed F.NumericComparisonFailed) = refl
read_put_answer (Failed F.KeyRejected) = refl
read_put_answer (Refused R.Finished) = refl
read_put_answer (Refused R.OutboxShort) = refl
read_put_answer (Refused R.PasskeyRange) = refl

-- which way a test went
went : (t : Bool) (x y : Option Answer) (a : Answer) → cond t x y ≡ Some a → ((t ≡ true) × (x ≡ Some a)) ⊎ (y ≡ Some a)
went true x y a h = inl (refl, h)
went false x y a h = inr h

-- a misfit is no answer
fitting : (t : Bool) (x : Option Answer) (a : Answer) → cond t x None ≡ Some a → (t ≡ true) × (x ≡ Some a)
fitting true x a h = (refl, h)
fitting false x a h = absurd (let z : ◌≡◌ {A = ℕ} 0 1 = cc in omega arith)

two : (l : List ℕ) → length l ≡ 2 → l ≡ get_or l 0 0 ∷ get_or l 1 0 ∷ []
two (a ∷ b ∷ []) h = refl
two [] h = absurd (omega arith)
two (a ∷ []) h = absurd (omega arith)
two (a ∷ b ∷ c ∷ l) h = absurd (omega arith)

taken_number : (n : ℕ) (a : Answer) → taken_of n ≡ Some a → answer_octets a ≡ 0 ∷ n ∷ []
taken_number n a h =
    let f = fitting (eqb n 0) (Some Taken) a h in
    let e : n ≡ 0 = eqb-true n 0 f.0 in
    let t : a ≡ Taken = cc f.1 in
    rw (t, e)

failed_number : (n : ℕ) (a : Answer) → failed_of n ≡ Some a → answer_octets a ≡ 1 ∷ n ∷ []
unfolding failed_of
failed_number n a h =
    let f = fitting (eqb (failure_number (failure_of n)) n) (Some (Failed (failure_of n))) a h in
    let t : a ≡ Failed (failure_of n) = cc f.1 in
    rw t (ap (λ (m : ℕ). 1 ∷ m ∷ []) (eqb-true (failure_number (failure_of n)) n f.0))

refused_number : (n : ℕ) (a : Answer) → refused_of n ≡ Some a → answer_octets a ≡ 2 ∷ n ∷ []
unfolding refused_of
refused_number n a h =
    let f = fitting (eqb (refusal_number (refusal_of n)) n) (Some (Refused (refusal_of n))) a h in
    let t : a ≡ Refused (refusal_of n) = cc f.1 in
    rw t (ap (λ (m : ℕ). 2 ∷ m ∷ []) (eqb-true (refusal_number (refusal_of n)) n f.0))

pub put_read_answer : (l : List ℕ) (a : Answer) → read_answer l ≡ Some a → answer_octets a ≡ l
unfolding read_answer
put_read_answer l a h =
    let s = fitting (eqb (length l) 2) _ a h in
    let w : l ≡ get_or l 0 0 ∷ get_or l 1 0 ∷ [] = two l (eqb-true (length l) 2 s.0) in
    let class : (k : ℕ) → eqb (get_or l 0 0) k ≡ true → answer_octets a ≡ k ∷ get_or l 1 0 ∷ [] → answer_octets a ≡ l = λ k e o. o ∙ ap (λ (m : ℕ). m ∷ get_or l 1 0 ∷ []) (sym (eqb-true (get_or l 0 0) k e)) ∙ sym w in
    ⊎_elim
    (λ t. class 0 t.0 (taken_number (get_or l 1 0) a t.1))
    (λ u. ⊎_elim
    (λ t. class 1 t.0 (failed_number (get_or l 1 0) a t.1))
    (λ v. let t = fitting (eqb (get_or l 0 0) 2) (refused_of (get_or l 1 0)) a v in class 2 t.0 (refused_number (get_or l 1 0) a t.1))
    (went (eqb (get_or l 0 0) 1) (failed_of (get_or l 1 0)) _ a u))
    (went (eqb (get_or l 0 0) 0) (taken_of (get_or l 1 0)) _ a s.1)
