-- Rows put together and cut apart again; numbers and their bytes; range tests one by one. Assumes nothing.
use mathlib.Core.Path.{◌≡◌, refl, sym, ap, ◌∙◌}
use mathlib.Core.List.{List, [], ◌∷◌, ◌++◌, append_assoc}
use mathlib.Core.Bool.{Bool, true, false}
use Prim.Native.Nat.{ℕ, zero, suc, ◌+◌, ◌*◌, ◌-◌, ◌/◌, ◌%◌, ◌≤◌, ◌<◌}
use native.Mathlib.Omega.{arith}
use lib.ListN.{length, take, drop, get_or, length-append, length-take, length-drop, get_or-eq_default}
use lib.Seq.{drop-cons, drop-drop, take-add, take_at, drop_at, get_or-take, get_or-drop, length-take-le}
use lib.Dec.{ltb}
use borrow.Author.Tests.{ltb-true, ltb-false}
use Rattle.octets.specs.Octets.{zeros}
use Rattle.octets.proofs.Octets.{length_zeros}
use Rattle.fields.specs.Fields.{little, number, number_at, field, one, join, every}
use Rattle.fields.proofs.Parts.{filled_there, byte_number}

-- Rows

-- a string cut at sizes, from an offset on
abbrev pub cut_at : ℕ → List ℕ → List ℕ → List (List ℕ)
cut_at at [] l = []
cut_at at (n ∷ ns) l = take n (drop at l) ∷ cut_at (at + n) ns l

abbrev pub lengths : List (List ℕ) → List ℕ
lengths [] = []
lengths (r ∷ rs) = length r ∷ lengths rs

abbrev pub total : List ℕ → ℕ
total [] = 0
total (n ∷ ns) = n + total ns

pub row_eq : {a b : List ℕ} {r s : List (List ℕ)} → a ≡ b → r ≡ s → a ∷ r ≡ b ∷ s
row_eq p q = cc

-- rows that were put together are cut apart again, whatever stands around them
pub cut_join : (rs : List (List ℕ)) (pre post : List ℕ) (at : ℕ) → length pre ≡ at → cut_at at (lengths rs) (pre ++ (join rs ++ post)) ≡ rs
unfolding join
cut_join [] pre post at e = refl
cut_join (r ∷ rs) pre post at e =
    let g : pre ++ ((r ++ join rs) ++ post) ≡ (pre ++ r) ++ (join rs ++ post) = simp append_assoc in
    let d : drop at (pre ++ ((r ++ join rs) ++ post)) ≡ (r ++ join rs) ++ post = drop_at pre ((r ++ join rs) ++ post) at e in
    let t : take (length r) ((r ++ join rs) ++ post) ≡ r = ap (take (length r)) (append_assoc r (join rs) post) ∙ take_at r (join rs ++ post) (length r) refl in
    let h : length (pre ++ r) ≡ at + length r = length-append pre r ∙ omega arith in
    row_eq (ap (take (length r)) d ∙ t) (ap (cut_at (at + length r) (lengths rs)) g ∙ cut_join rs (pre ++ r) post (at + length r) h)

-- and what was cut goes together again
pub join_cut : (ns l : List ℕ) (at : ℕ) → join (cut_at at ns l) ≡ take (total ns) (drop at l)
unfolding join
join_cut [] l at = refl
join_cut (n ∷ ns) l at =
    ap (λ (t : List ℕ). take n (drop at l) ++ t) (join_cut ns l (at + n) ∙ ap (take (total ns)) (sym (drop-drop n at l)))
    ∙ sym (take-add n (total ns) (drop at l))

-- the length of rows
pub length_join : (rs : List (List ℕ)) → length (join rs) ≡ total (lengths rs)
unfolding join
length_join [] = refl
length_join (r ∷ rs) = length-append r (join rs) ∙ ap (λ (n : ℕ). length r + n) (length_join rs)

-- Bytes and byte strings

pub field_there : (n at : ℕ) (l : List ℕ) → at + n ≤ length l → field n at l ≡ take n (drop at l)
field_there n at l h =
    let z : length (zeros n) ≡ n = length_zeros n in
    filled_there (zeros n) at l (omega arith) ∙ ap (λ (k : ℕ). take k (drop at l)) z

-- a row of one byte
pub byte_of : (at : ℕ) (l : List ℕ) (x : ℕ) → take 1 (drop at l) ≡ one x → get_or l at 0 ≡ x
unfolding number
byte_of at l x e = sym (byte_number at l) ∙ ap number e ∙ omega arith

pub byte_row : (at : ℕ) (l : List ℕ) → at < length l → one (get_or l at 0) ≡ take 1 (drop at l)
byte_row at l h = rw (drop-cons l at 0 h)

-- a byte before n others
pub cons_row : (n at : ℕ) (l : List ℕ) → at < length l → get_or l at 0 ∷ take n (drop (at + 1) l) ≡ take (suc n) (drop at l)
cons_row n at l h =
    let s : at + 1 ≡ suc at = omega arith in
    rw (drop-cons l at 0 h, s)

-- Numbers and their bytes

pub number_two : (n : ℕ) → n < 65536 → number (little 2 n) ≡ n
unfolding number little
number_two n h = omega arith

pub number_four : (n : ℕ) → n < 4294967296 → number (little 4 n) ≡ n
unfolding number little
number_four n h = omega arith

-- every octet is below 256
abbrev pub Below : List ℕ → Type 0
Below l = (i : ℕ) → get_or l i 0 < 256

pub little_number : (l : List ℕ) → Below l → little (length l) (number l) ≡ l
unfolding number little
little_number [] h = refl
little_number (x ∷ xs) h =
    let b : x < 256 = h 0 in
    let m : (x + 256 * number xs) % 256 ≡ x = omega arith in
    let d : (x + 256 * number xs) / 256 ≡ number xs = omega arith in
    rw (m, d) (ap (λ (l : List ℕ). x ∷ l) (little_number xs (λ i. h (suc i))))

below_part : (n at : ℕ) (l : List ℕ) → Below l → Below (take n (drop at l))
below_part n at l h i = go (ltb i n) refl
  where
    go : (b : Bool) → ltb i n ≡ b → get_or (take n (drop at l)) i 0 < 256
    go true e =
        let lt : i < n = ltb-true _ _ e in
        rw (get_or-take n (drop at l) i 0 lt, get_or-drop at l i 0) (h (at + i))
    go false e =
        let ge : n ≤ i = ltb-false _ _ e in
        let s : length (take n (drop at l)) ≤ i = omega (arith, length-take n (drop at l)) in
        rw (get_or-eq_default (take n (drop at l)) 0 s) (omega arith)

pub number_row : (n at : ℕ) (l : List ℕ) → Below l → at + n ≤ length l → little n (number_at n at l) ≡ take n (drop at l)
number_row n at l b h =
    let d : length (drop at l) ≡ length l - at = length-drop at l in
    let e : length (take n (drop at l)) ≡ n = length-take-le n (drop at l) (omega arith) in
    ap (λ (k : ℕ). little k (number_at n at l)) (sym e) ∙ little_number (take n (drop at l)) (below_part n at l b)

-- Range tests

pub test_none : every [] ≡ true
unfolding every
test_none = refl

pub test_first : (t : Bool) (ts : List Bool) → t ≡ true → every ts ≡ true → every (t ∷ ts) ≡ true
unfolding every
test_first t ts p q = rw (p, q)

pub test_at : (i : ℕ) (ts : List Bool) → every ts ≡ true → get_or ts i true ≡ true
unfolding every
test_at i [] h = refl
test_at zero (true ∷ ts) h = refl
test_at (suc i) (true ∷ ts) h = test_at i ts h
test_at i (false ∷ ts) h = absurd (let z : ◌≡◌ {A = ℕ} 0 1 = cc in omega arith)
