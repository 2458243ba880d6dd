-- What acceptable features and an identity address are in octets, both ways. Assumes nothing.
use Rattle.std.specs.Prelude.{Option, Some, None, is_some, Ok, Err}
use Prim.Native.Nat.{ℕ, zero, suc, ◌≤◌}
use mathlib.Core.Path.{◌≡◌, refl, ap, ◌∙◌}
use mathlib.Core.List.{List}
use mathlib.Core.Bool.{Bool, true, false, cond}
use mathlib.Core.Logic.{◌↔◌}
use native.Mathlib.Omega.{arith}
use lib.ListN.{length, get_or}
use lib.Dec.{eqb, ltb, leb}
use borrow.Author.Tests.{eqb-true, leb-true, le-leb, ltb-false, le-ltb}
use Rattle.address.specs.Identity.{decode_of as address_of, received_of, body}
use Rattle.address.specs.declared.AddressKind.TheVariants.{Public, Random}
use Rattle.features.specs.declared.PairingFeatures.{PairingFeatures}
use Rattle.features.specs.Bits.{secure_connections_bit}
use Rattle.features.specs.Features.{decode_of, features_of}
use Rattle.features.proofs.Features.{accepted, decodes}
use Rattle.features.proofs.Features as Codec
use Rattle.protocol.specs.declared.Failure.TheVariants as F
use Rattle.protocol.specs.Parts.{accept_of}

-- six octets: IO at most 4, OOB at most 1, secure connections, key size 16 or above; they say f
pub record Acceptable (q : List ℕ) (f : PairingFeatures) : Type 0 where
  pub size : length q ≡ 6
  pub io : get_or q 0 0 ≤ 4
  pub oob : get_or q 1 0 ≤ 1
  pub secure : secure_connections_bit (get_or q 2 0) ≡ true
  pub keysize : 16 ≤ get_or q 3 0
  pub says : features_of q ≡ f

clash : {A : Type 0} → ◌≡◌ {A = ℕ} 0 1 → A
clash e = absurd (omega arith)

pub acceptable_iff : (q : List ℕ) (f : PairingFeatures) → (accept_of q ≡ Ok f) ↔ Acceptable q f
unfolding accept_of
acceptable_iff q f = (λ h. there (decode_of q) refl h, λ a. rw (← decodes q a.size a.io a.oob, a.secure, le-ltb (get_or q 3 0) 16 a.keysize, a.says))
  where
    passed : (g : PairingFeatures) → Codec.Accepted q g → (b d : Bool) → secure_connections_bit g.authreq ≡ b → ltb g.keysize 16 ≡ d
        → cond b (cond d (Err F.EncryptionKeySize) (Ok g)) (Err F.AuthenticationRequirements) ≡ Ok f → Acceptable q f
    passed g a false d s t h = clash (cc)
    passed g a true true s t h = clash (cc)
    passed g a true false s t h =
        let same : g ≡ f = cc in
        let keysize : get_or q 3 0 ≡ g.keysize = ap (λ (x : PairingFeatures). x.keysize) a.says in
        let bits : get_or q 2 0 ≡ g.authreq = ap (λ (x : PairingFeatures). x.authreq) a.says in
        record { size = a.size; io = a.io; oob = a.oob; secure = rw bits s; keysize = omega (arith, keysize, ltb-false g.keysize 16 t); says = a.says ∙ same }

    there : (d : Option PairingFeatures) → decode_of q ≡ d → accept_of q ≡ Ok f → Acceptable q f
    there None e h = let k = rw e at h in clash (cc)
    there (Some g) e h = passed g (accepted q g e) _ _ refl refl (rw e at h)

-- seven octets or more, the first of them 0 or 1
pub address_iff : (w : List ℕ) → (is_some (address_of w) ≡ true) ↔ ((7 ≤ length w) × (get_or w 0 0 ≤ 1))
unfolding address_of
address_iff w = (λ h. there (leb 7 (length w)) (eqb (get_or w 0 0) 0) (eqb (get_or w 0 0) 1) refl refl refl h, λ p. rw (le-leb 7 (length w) p.0) (back (get_or w 0 0) p.1))
  where
    there : (a b d : Bool) → leb 7 (length w) ≡ a → eqb (get_or w 0 0) 0 ≡ b → eqb (get_or w 0 0) 1 ≡ d
        → is_some (cond a (cond b (received_of Public (body w)) (cond d (received_of Random (body w)) None)) None) ≡ true → (7 ≤ length w) × (get_or w 0 0 ≤ 1)
    there true true d e f g k = (leb-true _ _ e, omega (arith, eqb-true (get_or w 0 0) 0 f))
    there true false true e f g k = (leb-true _ _ e, omega (arith, eqb-true (get_or w 0 0) 1 g))
    there true false false e f g k = clash (cc)
    there false b d e f g k = clash (cc)

    back : (t : ℕ) → t ≤ 1 → is_some (cond (eqb t 0) (received_of Public (body w)) (cond (eqb t 1) (received_of Random (body w)) None)) ≡ true
    back zero h = refl
    back (suc zero) h = refl
    back (suc (suc t)) h = absurd (omega arith)
