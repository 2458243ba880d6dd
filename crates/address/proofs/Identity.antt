-- What each payload of an Identity Address Information comes to, by the tests in their order. Assumes nothing.
use mathlib.Core.Path.{◌≡◌, refl}
use mathlib.Core.List.{List}
use mathlib.Core.Bool.{Bool, true, false, cond}
use Prim.Native.Nat.{ℕ, ◌≤◌, ◌<◌}
use native.Mathlib.Omega.{arith}
use lib.Dec.{eqb}
use lib.ListN.{length, take, drop, get_or, length-drop}
use lib.Seq.{length-take-le}
use borrow.Author.Tests.{le-leb, lt-leb}
use Rattle.std.specs.Prelude.{Option, Some, None, Ok, Err}
use Rattle.std.specs.Result.{result_ok}
use Rattle.octets.specs.Octets.{turned}
use Rattle.octets.proofs.Octets.{turned_whole}
use Rattle.address.specs.declared.Address.{Address}
use Rattle.address.specs.declared.AddressKind.{AddressKind}
use Rattle.address.specs.declared.AddressKind.TheVariants.{Public, Random}
use Rattle.address.specs.declared.UnknownKind.{UnknownKind}
use Rattle.address.specs.Identity.{kind_number, kind_from, received_of, body, decode_of}

-- what the type octet's two tests come to
abbrev by_kind : Bool → Bool → List ℕ → Option Address
by_kind public random octets = cond public (received_of Public octets) (cond random (received_of Random octets) None)

module _ (l : List ℕ) where
  pub too_short : length l < 7 → None ≡ decode_of l
  unfolding decode_of
  too_short h = rw (lt-leb 7 (length l) h)

  module _ (h : 7 ≤ length l) where
    whole_body : turned 6 (take 6 (drop 1 l)) ≡ body l
    whole_body = turned_whole 6 (take 6 (drop 1 l)) (length-take-le 6 (drop 1 l) (omega (arith, length-drop 1 l)))

    long : by_kind (eqb (get_or l 0 0) 0) (eqb (get_or l 0 0) 1) (body l) ≡ decode_of l
    unfolding decode_of
    long = rw (le-leb 7 (length l) h)

    pub typed : (k : AddressKind) → result_ok (kind_from (get_or l 0 0)) ≡ Some k → received_of k (turned 6 (take 6 (drop 1 l))) ≡ decode_of l
    typed k e = rw (whole_body, ← long) (go (eqb (get_or l 0 0) 0) (eqb (get_or l 0 0) 1) e)
      where
        go : (p r : Bool) → result_ok {E = UnknownKind} (cond p (Ok Public) (cond r (Ok Random) (Err record { 0 = get_or l 0 0 }))) ≡ Some k → received_of k (body l) ≡ by_kind p r (body l)
        go true r e = cc
        go false true e = cc
        go false false e = absurd (let z : ◌≡◌ {A = ℕ} 0 1 = cc in omega arith)

    pub untyped : result_ok (kind_from (get_or l 0 0)) ≡ None → None ≡ decode_of l
    untyped e = rw (← long) (go (eqb (get_or l 0 0) 0) (eqb (get_or l 0 0) 1) e)
      where
        go : (p r : Bool) → result_ok {E = UnknownKind} (cond p (Ok Public) (cond r (Ok Random) (Err record { 0 = get_or l 0 0 }))) ≡ None → None ≡ by_kind p r (body l)
        go true r e = absurd (let z : ◌≡◌ {A = ℕ} 0 1 = cc in omega arith)
        go false true e = absurd (let z : ◌≡◌ {A = ℕ} 0 1 = cc in omega arith)
        go false false e = refl

-- a kind is the one that its type octet gives
pub kind_from_number : (k : AddressKind) → kind_from (kind_number k) ≡ Ok k
kind_from_number Public = refl
kind_from_number Random = refl
