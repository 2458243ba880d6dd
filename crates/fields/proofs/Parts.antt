-- Laws of fields: numbers byte by byte, byte strings out of a payload, and parts written one behind the other. Assumes nothing.
use mathlib.Core.Path.{◌≡◌, refl, sym, ap, ◌∙◌}
use mathlib.Core.List.{List, [], ◌∷◌, ◌++◌, append-nil, append_assoc}
use mathlib.Core.Bool.{Bool, true, false}
use Prim.Native.Nat.{ℕ, suc, ◌+◌, ◌*◌, ◌-◌, ◌/◌, ◌%◌, ◌≤◌, ◌<◌}
use native.Mathlib.Omega.{arith}
use native.Mathlib.Numerals.{add-one}
use lib.ListN.{length, take, drop, get_or, length-append, length-drop, drop_of_length-le, get_or-eq_default}
use lib.Seq.{drop-cons, take-nil, drop-drop, take_all, length-take-le, take_at, drop_at}
use lib.Dec.{leb, ltb}
use borrow.Author.Tests.{le-leb, lt-leb, leb-true, ltb-true, ltb-false}
use Rattle.octets.specs.Write.{over, laid, Wrote}
use Rattle.octets.proofs.Write.{laid_room, over_whole, whole, written}
use Rattle.std.specs.Int.{w16, w32, to_le_bytes}
use Rattle.fields.specs.Fields.{little, number, number_at, filled, join, placed, Placed}

-- Bytes and numbers

pub byte_past : (l : List ℕ) (at : ℕ) → length l ≤ at → 0 ≡ get_or l at 0
byte_past l at h = sym (get_or-eq_default l 0 h)

-- one byte more
number_more : (n at : ℕ) (l : List ℕ) → number_at (suc n) at l ≡ get_or l at 0 + 256 * number_at n (suc at) l
unfolding number
number_more n at l = go (ltb at (length l)) refl
  where
    go : (b : Bool) → ltb at (length l) ≡ b → number_at (suc n) at l ≡ get_or l at 0 + 256 * number_at n (suc at) l
    go true e = rw (drop-cons l at 0 (ltb-true _ _ e))
    go false e =
        let h : length l ≤ at = ltb-false _ _ e in
        let s : length l ≤ suc at = omega arith in
        rw (drop_of_length-le l h, drop_of_length-le l s, get_or-eq_default l 0 h, take-nil n)

pub number_past : (n at : ℕ) (l : List ℕ) → length l ≤ at → 0 ≡ number_at n at l
unfolding number
number_past n at l h = rw (drop_of_length-le l h, take-nil n)

number_none : (at : ℕ) (l : List ℕ) → number_at 0 at l ≡ 0
unfolding number
number_none at l = refl

pub byte_number : (at : ℕ) (l : List ℕ) → number_at 1 at l ≡ get_or l at 0
byte_number at l =
    let n = number_none (suc at) l in
    omega (arith, number_more 0 at l)

pub two_bytes : (at : ℕ) (l : List ℕ) → get_or l at 0 + 256 * get_or l (at + 1) 0 ≡ number_at 2 at l
two_bytes at l =
    let n = number_none (suc (suc at)) l in
    rw (add-one at) (omega (arith, number_more 1 at l, number_more 0 (suc at) l))

pub four_bytes : (at : ℕ) (l : List ℕ)
    → get_or l at 0 + 256 * (get_or l (at + 1) 0 + 256 * (get_or l (at + 2) 0 + 256 * get_or l (at + 3) 0)) ≡ number_at 4 at l
four_bytes at l =
    let n = number_none (suc (suc (suc (suc at)))) l in
    let a : at + 1 ≡ suc at = omega arith in
    let b : at + 2 ≡ suc (suc at) = omega arith in
    let d : at + 3 ≡ suc (suc (suc at)) = omega arith in
    rw (a, b, d)
    (omega (arith, number_more 3 at l, number_more 2 (suc at) l, number_more 1 (suc (suc at)) l, number_more 0 (suc (suc (suc at))) l))

-- the bytes of a number, as `to_le_bytes` gives them
pub two_little : (n : ℕ) → to_le_bytes w16 (n % 65536) ≡ little 2 n
unfolding little
two_little n =
    let a : n % 65536 % 256 ≡ n % 256 = omega arith in
    let b : n % 65536 / 256 % 256 ≡ n / 256 % 256 = omega arith in
    rw (a, b) refl

pub four_little : (n : ℕ) → to_le_bytes w32 n ≡ little 4 n
unfolding little
four_little n =
    let a : n / 65536 % 256 ≡ n / 256 / 256 % 256 = omega arith in
    let b : n / 16777216 % 256 ≡ n / 256 / 256 / 256 % 256 = omega arith in
    rw (a, b) refl

-- Byte strings

from_byte : (l : List ℕ) (i : ℕ) (r : List ℕ) → i < length l → drop (suc i) l ≡ r → drop i l ≡ get_or l i 0 ∷ r
from_byte l i r h t = drop-cons l i 0 h ∙ ap (λ (k : List ℕ). get_or l i 0 ∷ k) t

pub six_bytes : (l : List ℕ) → length l ≡ 6 → l ≡ get_or l 0 0 ∷ get_or l 1 0 ∷ get_or l 2 0 ∷ get_or l 3 0 ∷ get_or l 4 0 ∷ get_or l 5 0 ∷ []
six_bytes l e =
    let h : length l ≤ 6 = omega arith in
    from_byte l 0 _ (omega arith)
    (from_byte l 1 _ (omega arith)
    (from_byte l 2 _ (omega arith)
    (from_byte l 3 _ (omega arith)
    (from_byte l 4 _ (omega arith)
    (from_byte l 5 _ (omega arith)
    (drop_of_length-le l h))))))

pub not_filled : (r : List ℕ) (at : ℕ) (l : List ℕ) → length l < at + length r → r ≡ filled r at l
unfolding filled
not_filled r at l h = rw (lt-leb (at + length r) (length l) h)

pub filled_there : (r : List ℕ) (at : ℕ) (l : List ℕ) → at + length r ≤ length l → filled r at l ≡ take (length r) (drop at l)
unfolding filled
filled_there r at l h = rw (le-leb (at + length r) (length l) h)

pub fills : (r : List ℕ) (at : ℕ) (l : List ℕ) (k : ℕ) (after : List ℕ) → at + length r ≤ length l
    → Wrote (take (at + length r - at) (drop at l)) r k after → after ≡ filled r at l
fills r at l k after h w =
    let n : at + length r - at ≡ length r = omega arith in
    let d : length (drop at l) ≡ length l - at = length-drop at l in
    let e : length (take (at + length r - at) (drop at l)) ≡ length r = length-take-le (at + length r - at) (drop at l) (omega arith) ∙ n in
    over_whole _ r after (whole w (omega arith)) e ∙ ap (λ (m : ℕ). take m (drop at l)) n ∙ sym (filled_there r at l h)

-- Parts written at an offset

pub not_placed : (at : ℕ) (xs out : List ℕ) → length out < at → out ≡ placed at xs out
unfolding placed laid over
not_placed at xs out h =
    let t : length out ≤ at = omega arith in
    rw (take_all at out t, drop_of_length-le out t) (go xs)
  where
    go : (xs : List ℕ) → out ≡ out ++ laid xs []
    go [] = sym (append-nil out)
    go (x ∷ xs) = rw (lt-leb (suc (length xs)) 0 (omega arith)) (sym (append-nil out))

pub places : (at : ℕ) (xs out part : List ℕ) (r : ℕ) → at ≤ length out → Wrote xs (take (length out - at) (drop at out)) r part
    → take at out ++ (part ++ drop (length out - at) (drop at out)) ≡ placed at xs out
unfolding placed
places at xs out part r h w =
    let ld : length (drop at out) ≡ length out - at = length-drop at out in
    let tk : take (length out - at) (drop at out) ≡ drop at out = take_all (length out - at) (drop at out) (omega arith) in
    let dn : drop (length out - at) (drop at out) ≡ [] = drop_of_length-le (drop at out) {i = length out - at} (omega arith) in
    let p : part ≡ laid xs (drop at out) = w.octets ∙ ap (laid xs) tk in
    rw (dn, append-nil part, p)

-- xs at an offset, where there is room for them
pub placed_room : (at n : ℕ) (xs out : List ℕ) → length xs ≡ n → at + n ≤ length out → placed at xs out ≡ take at out ++ (xs ++ drop (at + n) out)
unfolding placed over
placed_room at n xs out e h =
    let ld : length (drop at out) ≡ length out - at = length-drop at out in
    rw (laid_room xs (drop at out) (omega arith), e, drop-drop n at out)

-- at the start of the buffer it is a whole write
pub whole_placed : {n : ℕ} {xs out after : List ℕ} → Placed n 0 xs out after → n ≤ length out → Wrote xs out n after
unfolding placed
whole_placed {n} {xs} {out} p h = written xs out n p.size _ h (p.octets ∙ laid_room xs out (omega (arith, p.size)))

-- The parts of a buffer so far: n bytes behind an offset, of N that there is room for
pub record Filled (at n N : ℕ) (xs out now : List ℕ) : Type 0 where
  pub room : at + N ≤ length out
  pub placed : Placed n at xs out now

pub piece : {at : ℕ} {out now : List ℕ} (n : ℕ) (xs : List ℕ) → now ≡ placed at xs out → length xs ≡ n → Placed n at xs out now
piece n xs p e = record { size = e; octets = p }

pub first : {at n : ℕ} (N : ℕ) {xs out now : List ℕ} → Placed n at xs out now → at + N ≤ length out → Filled at n N xs out now
first N p h = record { room = h; placed = p }

next_placed : (at n m : ℕ) (xs ys out : List ℕ) → length xs ≡ n → length ys ≡ m → at + n + m ≤ length out
    → placed (at + n) ys (placed at xs out) ≡ placed at (xs ++ ys) out
next_placed at n m xs ys out e d h =
    let lt : length (take at out) ≡ at = length-take-le at out (omega arith) in
    let p : placed at xs out ≡ (take at out ++ xs) ++ drop (at + n) out = placed_room at n xs out e (omega arith) ∙ sym (append_assoc (take at out) xs (drop (at + n) out)) in
    let lf : length (take at out ++ xs) ≡ at + n = length-append (take at out) xs ∙ omega arith in
    let ld : length (drop (at + n) out) ≡ length out - (at + n) = length-drop (at + n) out in
    let l : length ((take at out ++ xs) ++ drop (at + n) out) ≡ length out = length-append (take at out ++ xs) (drop (at + n) out) ∙ omega arith in
    let s : length (xs ++ ys) ≡ n + m = length-append xs ys ∙ omega arith in
    rw (p, placed_room (at + n) m ys ((take at out ++ xs) ++ drop (at + n) out) d (omega arith), placed_room at (n + m) (xs ++ ys) out s (omega arith))
    (go lf)
  where
    go : length (take at out ++ xs) ≡ at + n
        → take (at + n) ((take at out ++ xs) ++ drop (at + n) out) ++ (ys ++ drop (at + n + m) ((take at out ++ xs) ++ drop (at + n) out))
        ≡ take at out ++ ((xs ++ ys) ++ drop (at + (n + m)) out)
    go lf =
        let k : at + n + m ≡ at + (n + m) = omega arith in
        let b : drop (at + n + m) ((take at out ++ xs) ++ drop (at + n) out) ≡ drop (at + (n + m)) out =
        sym (drop-drop m (at + n) ((take at out ++ xs) ++ drop (at + n) out)) ∙ ap (drop m) (drop_at (take at out ++ xs) (drop (at + n) out) (at + n) lf) ∙ drop-drop m (at + n) out ∙ ap (λ (i : ℕ). drop i out) k in
        rw (take_at (take at out ++ xs) (drop (at + n) out) (at + n) lf, b) (simp append_assoc)

-- one part more
pub more : {at n m N : ℕ} {xs ys out now after : List ℕ} → Filled at n N xs out now → Placed m (at + n) ys now after → leb (n + m) N ≡ true → Filled at (n + m) N (xs ++ ys) out after
more {at} {n} {m} {N} {xs} {ys} {out} f p t =
    let h : n + m ≤ N = leb-true _ _ t in
    let r : at + N ≤ length out = f.room in
    let s : length (xs ++ ys) ≡ n + m = length-append xs ys ∙ omega (arith, f.placed.size, p.size) in
    record {
      room = r;
      placed = record {
        size = s;
        octets = p.octets ∙ ap (placed (at + n) ys) f.placed.octets ∙ next_placed at n m xs ys out f.placed.size p.size (omega arith);
      };
    }

-- the same bytes by another name
pub as_rows : {at n : ℕ} {xs out now : List ℕ} (ys : List ℕ) → Placed n at xs out now → xs ≡ ys → Placed n at ys out now
as_rows ys p e = rw (← e) p

-- a buffer that they fill
pub all_placed : {n : ℕ} {xs out now : List ℕ} → Placed n 0 xs out now → length out ≡ n → now ≡ xs
all_placed {n} {xs} {out} {now} p e = over_whole xs out now (whole (whole_placed p (omega arith)) (omega (arith, p.size))) (p.size ∙ sym e)

-- What a writer leaves

pub wrote_as : {xs out after : List ℕ} {r : ℕ} (ys : List ℕ) → xs ≡ ys → Wrote xs out r after → Wrote ys out r after
wrote_as ys e w = rw (← e) w

pub nothing : (out : List ℕ) → Wrote [] out 0 out
unfolding over
nothing out = written [] out 0 refl out (omega arith) refl

-- Rows one behind the other

pub join_append : (rs ts : List (List ℕ)) → join rs ++ join ts ≡ join (rs ++ ts)
unfolding join
join_append [] ts = refl
join_append (r ∷ rs) ts = rw (append_assoc r (join rs) (join ts), join_append rs ts)

pub five : (a b c d e : List ℕ) → a ++ b ++ c ++ d ++ e ≡ join (a ∷ b ∷ c ∷ d ∷ e ∷ [])
unfolding join
five a b c d e = simp (append_assoc, append-nil)
