-- Laws of the codec: what each payload decodes to, and that decoding and encoding undo each other. Assumes nothing.
use mathlib.Core.Path.{◌≡◌, refl, sym, ◌∙◌}
use mathlib.Core.List.{List, [], ◌∷◌}
use mathlib.Core.Bool.{Bool, true, false, cond}
use Prim.Native.Nat.{ℕ, zero, suc, ◌≤◌, ◌<◌}
use native.Mathlib.Omega.{arith}
use lib.ListN.{length, get_or}
use lib.Dec.{eqb, leb}
use borrow.Author.Tests.{eq-eqb, ne_eqb, le-leb, lt-leb, eqb-true, leb-true}
use Rattle.features.specs.declared.IoCapabilities.{IoCapabilities}
use Rattle.features.specs.declared.IoCapabilities.TheVariants.{DisplayOnly, DisplayYesNo, KeyboardOnly, NoInputNoOutput, KeyboardDisplay}
use Rattle.features.specs.declared.UseOutOfBand.{UseOutOfBand}
use Rattle.features.specs.declared.UseOutOfBand.TheVariants.{NotPresent, Present}
use Rattle.features.specs.declared.PairingFeatures.{PairingFeatures}
use Rattle.std.specs.Prelude.{Option, Some, None, Ok, Err}
use Rattle.std.specs.Result.{result_ok}
use Rattle.std.proofs.lemmas.Bool.{leb-false}
use Rattle.features.specs.Features.{reserved, io_number, io_from, io_of, oob_number, oob_from, oob_of, encode_of, features_of, decode_of}

-- What a payload decodes to, by the tests in their order
module _ (l : List ℕ) where
  pub wrong_length : (length l ≡ 6 → ⊥) → None ≡ decode_of l
  unfolding decode_of
  wrong_length h = rw (ne_eqb (length l) 6 h)

  module _ (n : length l ≡ 6) where
    pub io_above : 4 < get_or l 0 0 → None ≡ decode_of l
    unfolding decode_of
    io_above h = rw (eq-eqb (length l) 6 n, lt-leb (get_or l 0 0) 4 h)

    pub oob_above : get_or l 0 0 ≤ 4 → 1 < get_or l 1 0 → None ≡ decode_of l
    unfolding decode_of
    oob_above h g = rw (eq-eqb (length l) 6 n, le-leb (get_or l 0 0) 4 h, lt-leb (get_or l 1 0) 1 g)

    pub decodes : get_or l 0 0 ≤ 4 → get_or l 1 0 ≤ 1 → Some (features_of l) ≡ decode_of l
    unfolding decode_of
    decodes h g = rw (eq-eqb (length l) 6 n, le-leb (get_or l 0 0) 4 h, le-leb (get_or l 1 0) 1 g)

-- Numbers and cases
pub io_back : (io : IoCapabilities) → io_of (io_number io) ≡ io
io_back DisplayOnly = refl
io_back DisplayYesNo = refl
io_back KeyboardOnly = refl
io_back NoInputNoOutput = refl
io_back KeyboardDisplay = refl

pub io_small : (io : IoCapabilities) → io_number io ≤ 4
io_small DisplayOnly = omega arith
io_small DisplayYesNo = omega arith
io_small KeyboardOnly = omega arith
io_small NoInputNoOutput = omega arith
io_small KeyboardDisplay = omega arith

pub oob_back : (oob : UseOutOfBand) → oob_of (oob_number oob) ≡ oob
oob_back NotPresent = refl
oob_back Present = refl

pub oob_small : (oob : UseOutOfBand) → oob_number oob ≤ 1
oob_small NotPresent = omega arith
oob_small Present = omega arith

pub io_number_lem : (n : ℕ) → n ≤ 4 → io_number (io_of n) ≡ n
io_number_lem zero h = refl
io_number_lem (suc zero) h = refl
io_number_lem (suc (suc zero)) h = refl
io_number_lem (suc (suc (suc zero))) h = refl
io_number_lem (suc (suc (suc (suc zero)))) h = refl
io_number_lem (suc (suc (suc (suc (suc n))))) h = absurd (omega arith)

pub oob_number_lem : (n : ℕ) → n ≤ 1 → oob_number (oob_of n) ≡ n
oob_number_lem zero h = refl
oob_number_lem (suc zero) h = refl
oob_number_lem (suc (suc n)) h = absurd (omega arith)

-- and a case is the one that its number gives
pub io_from_number : (io : IoCapabilities) → io_from (io_number io) ≡ Ok io
io_from_number DisplayOnly = refl
io_from_number DisplayYesNo = refl
io_from_number KeyboardOnly = refl
io_from_number NoInputNoOutput = refl
io_from_number KeyboardDisplay = refl

pub oob_from_number : (oob : UseOutOfBand) → oob_from (oob_number oob) ≡ Ok oob
oob_from_number NotPresent = refl
oob_from_number Present = refl

-- A number above the last one is reserved
pub io_reserved : (n : ℕ) → 4 < n → Err (reserved n) ≡ io_from n
io_reserved n h = rw (lt-leb n 4 h)

pub oob_reserved : (n : ℕ) → 1 < n → Err (reserved n) ≡ oob_from n
oob_reserved n h = rw (lt-leb n 1 h)

-- A number that stands for something passed its test, and no other one did
module _ {A E : Type 0} (x : A) (e : E) where
  pub refused : (b : Bool) → result_ok (cond b (Ok x) (Err e)) ≡ None → b ≡ false
  refused true h = absurd (let z : ◌≡◌ {A = ℕ} 0 1 = cc in omega arith)
  refused false h = refl

  pub taken : (b : Bool) {y : A} → result_ok (cond b (Ok x) (Err e)) ≡ Some y → (b ≡ true) × (y ≡ x)
  taken true h = (refl, cc)
  taken false {y} h = absurd (let z : ◌≡◌ {A = ℕ} 0 1 = cc in omega arith)

-- What encodes decodes to the same features
pub decode_encode : (f : PairingFeatures) → decode_of (encode_of f) ≡ Some f
decode_encode f =
    sym (decodes (encode_of f) refl (io_small f.io) (oob_small f.oob))
    ∙ rw (io_back f.io, oob_back f.oob)

-- What decodes passed every test, and encodes to the same octets
passed : (b : Bool) (o : Option PairingFeatures) (f : PairingFeatures) → cond b o None ≡ Some f → (b ≡ true) × (o ≡ Some f)
passed true o f h = (refl, h)
passed false o f h = absurd (let z : ◌≡◌ {A = ℕ} 0 1 = cc in omega arith)

pub record Accepted (l : List ℕ) (f : PairingFeatures) : Type 0 where
  pub size : length l ≡ 6
  pub io : get_or l 0 0 ≤ 4
  pub oob : get_or l 1 0 ≤ 1
  pub says : features_of l ≡ f

pub accepted : (l : List ℕ) (f : PairingFeatures) → decode_of l ≡ Some f → Accepted l f
unfolding decode_of
accepted l f h =
    let a = passed (eqb (length l) 6) _ f h in
    let b = passed (leb (get_or l 0 0) 4) _ f a.1 in
    let d = passed (leb (get_or l 1 0) 1) _ f b.1 in
    record { size = eqb-true _ _ a.0; io = leb-true _ _ b.0; oob = leb-true _ _ d.0; says = cc d.1 }

six : (l : List ℕ) → length l ≡ 6 → l ≡ get_or l 0 0 ∷ get_or l 1 0 ∷ get_or l 2 0 ∷ get_or l 3 0 ∷ get_or l 4 0 ∷ get_or l 5 0 ∷ []
six (a ∷ b ∷ c ∷ d ∷ e ∷ g ∷ []) h = refl
six [] h = absurd (omega arith)
six (a ∷ []) h = absurd (omega arith)
six (a ∷ b ∷ []) h = absurd (omega arith)
six (a ∷ b ∷ c ∷ []) h = absurd (omega arith)
six (a ∷ b ∷ c ∷ d ∷ []) h = absurd (omega arith)
six (a ∷ b ∷ c ∷ d ∷ e ∷ []) h = absurd (omega arith)
six (a ∷ b ∷ c ∷ d ∷ e ∷ g ∷ k ∷ l) h = absurd (omega arith)

pub encode_decode : (l : List ℕ) (f : PairingFeatures) → decode_of l ≡ Some f → encode_of f ≡ l
encode_decode l f h =
    let a = accepted l f h in
    rw (← a.says, io_number_lem (get_or l 0 0) a.io, oob_number_lem (get_or l 1 0) a.oob) (sym (six l a.size))
