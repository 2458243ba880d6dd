-- What every plan has: it reads only what it asks and draws, and answering by the toolbox is being handed the toolbox's answers. Assumes nothing.
use mathlib.Core.Path.{◌≡◌, refl, sym, ap, ◌∙◌}
use Prim.Native.Nat.{ℕ}
use mathlib.Core.List.{List, ◌∷◌}
use mathlib.Core.Bool.{true, false}
use Rattle.address.specs.declared.Address.{Address}
use Rattle.protocol.specs.declared.Question.TheVariants as Q
use Rattle.protocol.specs.declared.Supplied.{Supplied}
use Rattle.protocol.specs.Plan.{Plan, Ending, ends, asks, draws_nonce, draws_passkey, tests, kind_of, reply, runs, asked, Agree, Along, Toolbox, computed, answered, Holds}
use Rattle.protocol.specs.Parts.{ask_dh, ask_f4, ask_f5, ask_f6, ask_g2}

module _ {S : Type 0} where
  pub reads_only : (a b : Supplied) (p : Plan S) → Agree a b p → (runs a p ≡ runs b p) × (asked a p ≡ asked b p)
  unfolding runs asked Agree
  reads_only a b (ends e) h = (refl, refl)
  reads_only a b (asks q k) h =
      let i = reads_only a b (k (reply a (kind_of q))) h.1 in
      (i.0 ∙ ap (λ x. runs b (k x)) h.0, ap (λ qs. q ∷ qs) (i.1 ∙ ap (λ x. asked b (k x)) h.0))
  reads_only a b (draws_nonce k) h =
      let i = reads_only a b (k a.nonce) h.1 in
      (i.0 ∙ ap (λ x. runs b (k x)) h.0, i.1 ∙ ap (λ x. asked b (k x)) h.0)
  reads_only a b (draws_passkey k) h =
      let i = reads_only a b (k a.passkey) h.1 in
      (i.0 ∙ ap (λ x. runs b (k x)) h.0, i.1 ∙ ap (λ x. asked b (k x)) h.0)
  reads_only a b (tests true p q) h = reads_only a b p (h.0 refl)
  reads_only a b (tests false p q) h = reads_only a b q (h.1 refl)

  pub by_itself : (t : Toolbox) (a : Supplied) (p : Plan S) → Holds t a p → answered t a p ≡ runs a p
  unfolding runs answered Holds
  by_itself t a (ends e) h = refl
  by_itself t a (asks q k) h = ap (λ x. answered t a (k x)) (sym h.0) ∙ by_itself t a (k (reply a (kind_of q))) h.1
  by_itself t a (draws_nonce k) h = by_itself t a (k a.nonce) h
  by_itself t a (draws_passkey k) h = by_itself t a (k a.passkey) h
  by_itself t a (tests true p q) h = by_itself t a p (h.0 refl)
  by_itself t a (tests false p q) h = by_itself t a q (h.1 refl)

  -- what holds along a plan holds of the end that it comes to
  pub along : (a : Supplied) (P : Ending S → Type 0) (p : Plan S) → Along a P p → P (runs a p)
  unfolding runs Along
  along a P (ends e) h = h
  along a P (asks q k) h = along a P (k (reply a (kind_of q))) h
  along a P (draws_nonce k) h = along a P (k a.nonce) h
  along a P (draws_passkey k) h = along a P (k a.passkey) h
  along a P (tests true p q) h = along a P p (h.0 refl)
  along a P (tests false p q) h = along a P q (h.1 refl)

-- The toolbox's answer to a question is the function of its kind at the arguments that the question was made of
module _ (t : Toolbox) (a : Supplied) where
  pub computes_f4 : (u v x : List ℕ) (z : ℕ)
      → (computed t a (ask_f4 Q.OwnConfirm u v x z) ≡ t.f4 u v x z) × (computed t a (ask_f4 Q.PeerConfirm u v x z) ≡ t.f4 u v x z)
  computes_f4 u v x z = (refl, refl)

  pub computes_f5 : (w n1 n2 : List ℕ) (a1 a2 : Address) → computed t a (ask_f5 w n1 n2 a1 a2) ≡ t.f5 w n1 n2 a1 a2
  computes_f5 w n1 n2 a1 a2 = refl

  pub computes_f6 : (w n1 n2 r io : List ℕ) (a1 a2 : Address)
      → (computed t a (ask_f6 Q.PeerCheck w n1 n2 r io a1 a2) ≡ t.f6 w n1 n2 r io a1 a2)
      × (computed t a (ask_f6 Q.OwnCheck w n1 n2 r io a1 a2) ≡ t.f6 w n1 n2 r io a1 a2)
  computes_f6 w n1 n2 r io a1 a2 = (refl, refl)

  pub computes_g2 : (u v x y : List ℕ) → computed t a (ask_g2 u v x y) ≡ t.g2 u v x y
  computes_g2 u v x y = refl

  -- DH stays with the caller
  pub computes_dh : (x y : List ℕ) → computed t a (ask_dh x y) ≡ (a.dhvalid, a.dhkey)
  computes_dh x y = refl
