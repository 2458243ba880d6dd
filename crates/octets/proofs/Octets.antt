-- Laws on octet strings, at any length. Assumes nothing.
use mathlib.Core.Path.{◌≡◌, refl, sym, ◌∙◌}
use mathlib.Core.List.{List, [], ◌∷◌, ◌++◌, reverse, reverse-cons}
use mathlib.Core.Bool.{Bool, true, false, ◌&&◌}
use Prim.Native.Nat.{ℕ, suc, ◌+◌, ◌-◌, ◌≤◌, ◌<◌}
use native.Mathlib.Omega.{arith}
use native.Mathlib.Numerals.{add-one}
use lib.Dec.{eqb}
use lib.ListN.{length, take, drop, get_or, set, replicate, length-reverse, length-drop, length-replicate}
use lib.Seq.{take-suc, drop-cons, set_at, append_snoc, drop-length, take_all, length-take-le}
use borrow.Author.Tests.{eqb-true, eq-eqb, ne_eqb}
use Rattle.octets.specs.Octets.{flip, zeros, turned, same, all_zero}
use Rattle.octets.specs.Write.{over, Wrote}
use Rattle.octets.proofs.Write.{whole, over_whole}

-- Turning round

pub length_flip : (xs : List ℕ) → length (flip xs) ≡ length xs
unfolding flip
length_flip xs = length-reverse xs

pub length_zeros : (n : ℕ) → length (zeros n) ≡ n
unfolding zeros
length_zeros n = length-replicate n 0

-- what has n octets is turned round whole
pub turned_whole : (n : ℕ) (xs : List ℕ) → length xs ≡ n → turned n xs ≡ flip xs
unfolding turned
turned_whole n xs e = rw (eq-eqb (length xs) n e)

pub turned_other : (n : ℕ) (xs : List ℕ) → (length xs ≡ n → ⊥) → turned n xs ≡ zeros n
unfolding turned
turned_other n xs h = rw (ne_eqb (length xs) n h)

-- a writer's octets over a value of n are the n octets turned round
pub turned_put : (n : ℕ) (xs : List ℕ) {out after : List ℕ} {r : ℕ} → Wrote (flip xs) out r after → length out ≡ n → length xs ≡ n → after ≡ turned n xs
turned_put n xs {out} {after} w f e =
    let l : length (flip xs) ≡ length out = length_flip xs ∙ e ∙ sym f in
    over_whole (flip xs) out after (whole w (omega arith)) l ∙ sym (turned_whole n xs e)

pub length_turned : (n : ℕ) (xs : List ℕ) → length (turned n xs) ≡ n
unfolding turned
length_turned n xs = go (eqb (length xs) n) refl
  where
    go : (b : Bool) → eqb (length xs) n ≡ b → length (turned n xs) ≡ n
    go true e = rw e (length_flip xs ∙ eqb-true (length xs) n e)
    go false e = rw e (length_zeros n)

-- dst once i octets of src, last first, stand at its start
unfoldable pub turning : List ℕ → List ℕ → ℕ → List ℕ
turning src dst i = reverse (drop (length src - i) src) ++ drop i dst

pub turning_none : (src dst : List ℕ) → dst ≡ turning src dst 0
unfolding turning
turning_none src dst =
    let e : length src - 0 ≡ length src = omega arith in
    rw (e, drop-length src)

turn : (src dst : List ℕ) (k i : ℕ) → suc k + i ≡ length src → i < length dst
    → set (reverse (drop (suc k) src) ++ drop i dst) i (get_or src k 0) ≡ reverse (drop k src) ++ drop (suc i) dst
turn src dst k i hs hd =
    let p = reverse (drop (suc k) src) in
    let e : length p ≡ i = length-reverse (drop (suc k) src) ∙ length-drop (suc k) src ∙ omega arith in
    rw (drop-cons dst i 0 hd, drop-cons src k 0 (omega arith), reverse-cons)
    (set_at p (get_or dst i 0) (drop (suc i) dst) (get_or src k 0) i e ∙ sym (append_snoc p (get_or src k 0) (drop (suc i) dst)))

pub turning_more : (src dst now : List ℕ) (i : ℕ) → now ≡ turning src dst i → i < length src → length src ≤ length dst
    → set now i (get_or src (length src - 1 - i) 0) ≡ turning src dst (i + 1)
unfolding turning
turning_more src dst now i t h g =
    let k = length src - 1 - i in
    let e : length src - i ≡ suc k = omega arith in
    let f : length src - (i + 1) ≡ k = omega arith in
    rw (t, e, f, add-one i) (turn src dst k i (omega arith) (omega arith))

pub turning_all : (src dst now : List ℕ) (i : ℕ) → now ≡ turning src dst i → i ≡ length src → now ≡ over (flip src) dst
unfolding turning over flip
turning_all src dst now i t e =
    let z : length src - i ≡ 0 = omega arith in
    rw (t, z, e, length-reverse src)

-- Comparing: `same` says true of equal strings, and of no others

and_left : (s t : Bool) → (s && t) ≡ true → s ≡ true
and_left true t h = refl
and_left false t h = h

and_right : (s t : Bool) → (s && t) ≡ true → t ≡ true
and_right true t h = h
and_right false t h = absurd (let z : ◌≡◌ {A = ℕ} 0 1 = cc in omega arith)

pub same_refl : (a : List ℕ) → same a a ≡ true
unfolding same
same_refl [] = refl
same_refl (x ∷ xs) = rw (eq-eqb x x refl) (same_refl xs)

pub same_eq : (a b : List ℕ) → same a b ≡ true → a ≡ b
unfolding same
same_eq [] [] h = refl
same_eq [] (y ∷ ys) h = absurd (let z : ◌≡◌ {A = ℕ} 0 1 = cc in omega arith)
same_eq (x ∷ xs) [] h = absurd (let z : ◌≡◌ {A = ℕ} 0 1 = cc in omega arith)
same_eq (x ∷ xs) (y ∷ ys) h =
    let p : x ≡ y = eqb-true x y (and_left (eqb x y) (same xs ys) h) in
    let q : xs ≡ ys = same_eq xs ys (and_right (eqb x y) (same xs ys) h) in
    cc

pub ne_same : (a b : List ℕ) → (a ≡ b → ⊥) → same a b ≡ false
ne_same a b h = go (same a b) refl
  where
    go : (t : Bool) → same a b ≡ t → t ≡ false
    go true e = absurd (h (same_eq a b e))
    go false e = refl

-- one octet more on both
and_assoc : (s t u : Bool) → (s && (t && u)) ≡ ((s && t) && u)
and_assoc true t u = refl
and_assoc false t u = refl

and_true : (s : Bool) → (s && true) ≡ s
and_true true = refl
and_true false = refl

same_snoc : (a b : List ℕ) (x y : ℕ) → length a ≡ length b → same (a ++ (x ∷ [])) (b ++ (y ∷ [])) ≡ (same a b && eqb x y)
unfolding same
same_snoc [] [] x y e = and_true (eqb x y)
same_snoc [] (w ∷ b) x y e = absurd (omega arith)
same_snoc (v ∷ a) [] x y e = absurd (omega arith)
same_snoc (v ∷ a) (w ∷ b) x y e = rw (same_snoc a b x y (omega arith)) (and_assoc (eqb v w) (same a b) (eqb x y))

-- whether a and b agree in their first i octets: what the loop knows after i turns
unfoldable pub alike : List ℕ → List ℕ → ℕ → Bool
alike a b i = same (take i a) (take i b)

pub alike_none : (a b : List ℕ) → alike a b 0 ≡ true
unfolding alike same
alike_none a b = refl

module _ (a b : List ℕ) (i : ℕ) (ha : i < length a) (hb : i < length b) where
  alike_more : alike a b (i + 1) ≡ (alike a b i && eqb (get_or a i 0) (get_or b i 0))
  unfolding alike
  alike_more =
      rw (add-one i, take-suc a i 0 ha, take-suc b i 0 hb)
      (same_snoc (take i a) (take i b) (get_or a i 0) (get_or b i 0) (length-take-le i a (omega arith) ∙ sym (length-take-le i b (omega arith))))

  pub alike_differ : (get_or a i 0 ≡ get_or b i 0 → ⊥) → false ≡ alike a b (i + 1)
  alike_differ h = rw (alike_more, ne_eqb (get_or a i 0) (get_or b i 0) h) (go (alike a b i))
    where
      go : (t : Bool) → false ≡ (t && false)
      go true = refl
      go false = refl

  pub alike_agree : (t : Bool) → t ≡ alike a b i → get_or a i 0 ≡ get_or b i 0 → t ≡ alike a b (i + 1)
  alike_agree t e h = rw (alike_more, eq-eqb (get_or a i 0) (get_or b i 0) h, and_true (alike a b i)) e

pub alike_all : (a b : List ℕ) (i : ℕ) → length a ≤ i → length b ≤ i → alike a b i ≡ same a b
unfolding alike
alike_all a b i ha hb = rw (take_all i a ha, take_all i b hb)

-- all zero is the same as that many zeros
pub zero_same : (n : ℕ) (a : List ℕ) → length a ≡ n → same a (zeros n) ≡ all_zero a
unfolding zeros same all_zero
zero_same n a e = rw (← e) (go a)
  where
    go : (a : List ℕ) → same a (replicate (length a) 0) ≡ all_zero a
    go [] = refl
    go (x ∷ xs) = rw (go xs)
