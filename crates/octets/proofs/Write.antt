-- Laws on what a writer leaves of a slice, for every width and for frames within frames. Assumes nothing.
use mathlib.Core.Path.{◌≡◌, refl, sym, ap, ◌∙◌}
use mathlib.Core.List.{List, [], ◌∷◌, ◌++◌, append-nil, append_assoc}
use Prim.Native.Nat.{ℕ, suc, ◌+◌, ◌-◌, ◌≤◌, ◌<◌}
use native.Mathlib.Omega.{arith}
use native.Mathlib.Numerals.{add-one}
use lib.ListN.{length, take, drop, get_or, set, length-drop, length-append, drop_of_length-le}
use lib.Seq.{drop-cons, set_at, append_snoc, drop-length, drop-drop, take_all, take_at, take-length, drop_at, sets, sets-eq}
use borrow.Author.Tests.{le-leb, lt-leb}
use Rattle.octets.specs.Write.{over, laid, wrote, Wrote}

pub length_over : (xs out : List ℕ) → length xs ≤ length out → length (over xs out) ≡ length out
unfolding over
length_over xs out h = length-append xs (drop (length xs) out) ∙ ap (λ (k : ℕ). length xs + k) (length-drop (length xs) out) ∙ omega arith

-- over as many octets nothing is left of them
pub over_whole : (xs out now : List ℕ) → now ≡ over xs out → length xs ≡ length out → now ≡ xs
unfolding over
over_whole xs out now t e = rw (t, e, drop-length out, append-nil xs)

-- stores from the start on
pub over_sets : (vs out : List ℕ) → length vs ≤ length out → sets out 0 vs ≡ over vs out
unfolding over
over_sets vs out h =
    let e : 0 + length vs ≡ length vs = omega arith in
    rw (sets-eq vs out 0 (omega arith), e)

pub laid_room : (xs out : List ℕ) → length xs ≤ length out → laid xs out ≡ over xs out
unfolding laid
laid_room xs out h = rw (le-leb (length xs) (length out) h)

pub wrote_room : (xs out : List ℕ) → length xs ≤ length out → wrote xs out ≡ length xs
unfolding wrote
wrote_room xs out h = rw (le-leb (length xs) (length out) h)

-- The two ends of every writer of n octets: too short a slice, and a whole write
module _ (xs out : List ℕ) (n : ℕ) (e : length xs ≡ n) where
  pub too_short : length out < n → Wrote xs out 0 out
  unfolding laid wrote
  too_short h = record { count = rw (lt-leb (length xs) (length out) (omega arith)); octets = rw (lt-leb (length xs) (length out) (omega arith)) }

  pub written : (after : List ℕ) → n ≤ length out → after ≡ over xs out → Wrote xs out n after
  written after h t =
      record { count = sym (wrote_room xs out (omega arith) ∙ e); octets = t ∙ sym (laid_room xs out (omega arith)) }

-- a whole string, by the kit's copy
pub copied : (xs out after : List ℕ) (r : ℕ) → r ≡ length xs → after ≡ take (length xs) xs ++ drop (length xs) out → length xs ≤ length out → Wrote xs out r after
unfolding over
copied xs out after r e t h = rw e (written xs out (length xs) refl after h (rw (t, take-length xs)))

-- and what a caller that has the room learns
pub whole : {xs out after : List ℕ} {r : ℕ} → Wrote xs out r after → length xs ≤ length out → after ≡ over xs out
whole {xs} {out} w h = w.octets ∙ laid_room xs out h

-- What comes behind xs, which were written over the start of `out`: a store, and `f(&mut out[n..], ..)`
module _ (xs out : List ℕ) (n : ℕ) (e : length xs ≡ n) where
  front : take n (over xs out) ≡ xs
  unfolding over
  front = take_at xs (drop (length xs) out) n e

  behind : drop n (over xs out) ≡ drop n out
  unfolding over
  behind = drop_at xs (drop (length xs) out) n e ∙ ap (λ (k : ℕ). drop k out) e

  joined : (ys : List ℕ) → xs ++ over ys (drop n out) ≡ over (xs ++ ys) out
  unfolding over
  joined ys = rw (drop-drop (length ys) n out, ← e, ← length-append xs ys, append_assoc)

  -- one octet more
  pub then_store : (v : ℕ) (whole : List ℕ) → n < length out → whole ≡ over xs out → set whole n v ≡ over (xs ++ (v ∷ [])) out
  unfolding over
  then_store v whole h w =
      rw (w, e, drop-cons out n 0 h, set_at xs (get_or out n 0) (drop (suc n) out) v n e, length-append xs (v ∷ []), e, ← add-one n, append_snoc xs v (drop (n + 1) out))

  -- a string that another writer put in the part behind xs
  pub then_part : (ys whole part : List ℕ) (m r : ℕ) → length ys ≡ m → n + m ≤ length out → whole ≡ over xs out
      → Wrote ys (take (length whole - n) (drop n whole)) r part
      → take n whole ++ (part ++ drop (length whole - n) (drop n whole)) ≡ over (xs ++ ys) out
  then_part ys whole part m r f h w p =
      let lw : length whole ≡ length out = ap length w ∙ length_over xs out (omega arith) in
      let ld : length (drop n whole) ≡ length whole - n = length-drop n whole in
      let tk : take (length whole - n) (drop n whole) ≡ drop n whole = take_all (length whole - n) (drop n whole) (omega arith) in
      let dn : drop (length whole - n) (drop n whole) ≡ [] = drop_of_length-le (drop n whole) {i = length whole - n} (omega arith) in
      let dw : drop n whole ≡ drop n out = ap (drop n) w ∙ behind in
      let tw : take n whole ≡ xs = ap (take n) w ∙ front in
      let lo : length (drop n out) ≡ length out - n = length-drop n out in
      let pt : part ≡ over ys (drop n out) = p.octets ∙ ap (laid ys) (tk ∙ dw) ∙ laid_room ys (drop n out) (omega arith) in
      rw (tw, dn, append-nil part, pt) (joined ys)
