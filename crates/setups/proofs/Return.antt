-- Reading a setup that was written gives the setup again, and writing what was read gives the same payload. Assumes nothing.
use mathlib.Core.Path.{◌≡◌, refl, sym, ap, ◌∙◌}
use Rattle.std.specs.Prelude.{Option, Some, None}
use mathlib.Core.List.{List, [], ◌∷◌, append-nil}
use mathlib.Core.Bool.{true, cond}
use Prim.Native.Nat.{ℕ, zero, suc, ◌+◌, ◌≤◌, ◌<◌}
use native.Mathlib.Omega.{arith}
use lib.ListN.{length, take, drop, get_or}
use lib.Seq.{take_all}
use lib.Dec.{eqb, leb}
use borrow.Author.Tests.{eq-eqb, le-leb, eqb-true, leb-true}
use Rattle.address.specs.declared.Address.{Address}
use Rattle.address.specs.declared.AddressKind.{AddressKind}
use Rattle.address.specs.declared.AddressKind.TheVariants.{Public, Random}
use Rattle.address.specs.Identity.{kind_number}
use Rattle.features.specs.Features.{io_number, oob_number}
use Rattle.features.proofs.Features.{io_back, io_small, io_number_lem, oob_back, oob_small, oob_number_lem}
use Rattle.method.specs.declared.SecurityLevel.{SecurityLevel}
use Rattle.method.specs.declared.SecurityLevel.TheVariants.{NoEncryption, Encrypted, EncryptedAuthenticated}
use Rattle.method.specs.Method.{level_number}
use Rattle.fields.specs.Fields.{little, number, number_at, field, flag_number, one, join}
use Rattle.fields.proofs.Cut.{cut_at, lengths, total, row_eq, cut_join, join_cut, length_join, field_there, byte_of, byte_row, cons_row, number_two, number_four, Below, number_row, test_none, test_first, test_at}
use Rattle.fields.proofs.Flags.{flag_back, flag_small, flag_number_lem}
use Rattle.setups.specs.declared.StartKind.{StartKind}
use Rattle.setups.specs.declared.StartKind.TheVariants.{Plain, ByUser, NotByUser}
use Rattle.protocol.specs.declared.Bond.{Bond}
use Rattle.protocol.specs.declared.Setup.{Setup}
use Rattle.setups.specs.declared.SetupCall.{SetupCall}
use Rattle.setups.specs.Setup.{address_octets, kind_of, address_at, start_number, start_of, level_of, configured_number, configured_passkey, configured_of, setup_rows, setup_octets, setup_in, call_of, setup_call, setup_fits, read_setup}

-- Numbers and cases

start_back : (s : StartKind) → start_of (start_number s) ≡ s
start_back Plain = refl
start_back ByUser = refl
start_back NotByUser = refl

start_small : (s : StartKind) → start_number s ≤ 2
start_small Plain = omega arith
start_small ByUser = omega arith
start_small NotByUser = omega arith

start_number_lem : (n : ℕ) → n ≤ 2 → start_number (start_of n) ≡ n
start_number_lem zero h = refl
start_number_lem (suc zero) h = refl
start_number_lem (suc (suc zero)) h = refl
start_number_lem (suc (suc (suc n))) h = absurd (omega arith)

level_back : (s : SecurityLevel) → level_of (level_number s) ≡ s
level_back NoEncryption = refl
level_back Encrypted = refl
level_back EncryptedAuthenticated = refl

level_small : (s : SecurityLevel) → level_number s ≤ 2
level_small NoEncryption = omega arith
level_small Encrypted = omega arith
level_small EncryptedAuthenticated = omega arith

level_number_lem : (n : ℕ) → n ≤ 2 → level_number (level_of n) ≡ n
level_number_lem zero h = refl
level_number_lem (suc zero) h = refl
level_number_lem (suc (suc zero)) h = refl
level_number_lem (suc (suc (suc n))) h = absurd (omega arith)

kind_back : (k : AddressKind) → kind_of (kind_number k) ≡ k
kind_back Public = refl
kind_back Random = refl

kind_small : (k : AddressKind) → kind_number k ≤ 1
kind_small Public = omega arith
kind_small Random = omega arith

kind_number_lem : (n : ℕ) → n ≤ 1 → kind_number (kind_of n) ≡ n
kind_number_lem zero h = refl
kind_number_lem (suc zero) h = refl
kind_number_lem (suc (suc n)) h = absurd (omega arith)

configured_back : (k : Option ℕ) → configured_of (configured_number k) (configured_passkey k) ≡ k
configured_back None = refl
configured_back (Some n) = refl

configured_small : (k : Option ℕ) → configured_number k ≤ 1
configured_small None = omega arith
configured_small (Some n) = omega arith

configured_fits : (k : Option ℕ) → cond (eqb (configured_number k) 0) (eqb (configured_passkey k) 0) true ≡ true
configured_fits None = refl
configured_fits (Some n) = refl

configured_number_lem : (k n : ℕ) → k ≤ 1 → configured_number (configured_of k n) ≡ k
configured_number_lem zero n h = refl
configured_number_lem (suc zero) n h = refl
configured_number_lem (suc (suc k)) n h = absurd (omega arith)

configured_passkey_lem : (k n : ℕ) → k ≤ 1 → cond (eqb k 0) (eqb n 0) true ≡ true → configured_passkey (configured_of k n) ≡ n
configured_passkey_lem zero n h t = sym (eqb-true n 0 t)
configured_passkey_lem (suc zero) n h t = refl
configured_passkey_lem (suc (suc k)) n h t = absurd (omega arith)

-- Addresses

record Told (at : ℕ) (l : List ℕ) (a : Address) : Type 0 where
  kind : get_or l at 0 ≡ kind_number a.kind
  says : address_at at l ≡ a

address_back : (at : ℕ) (l : List ℕ) (a : Address) → at + 7 ≤ length l → take 7 (drop at l) ≡ address_octets a → Told at l a
address_back at l a h e =
    let s : get_or l at 0 ∷ take 6 (drop (at + 1) l) ≡ kind_number a.kind ∷ a.octets = cons_row 6 at l (omega arith) ∙ e in
    let k : get_or l at 0 ≡ kind_number a.kind = cc in
    let o : take 6 (drop (at + 1) l) ≡ a.octets = cc in
    let f : field 6 (at + 1) l ≡ a.octets = field_there 6 (at + 1) l (omega arith) ∙ o in
    record { kind = k; says = rw (k, f, kind_back a.kind) }

address_row : (at : ℕ) (l : List ℕ) → at + 7 ≤ length l → leb (get_or l at 0) 1 ≡ true → address_octets (address_at at l) ≡ take 7 (drop at l)
address_row at l h t =
    let k : kind_number (kind_of (get_or l at 0)) ≡ get_or l at 0 = kind_number_lem (get_or l at 0) (leb-true _ _ t) in
    let f : field 6 (at + 1) l ≡ take 6 (drop (at + 1) l) = field_there 6 (at + 1) l (omega arith) in
    rw (k, f) (cons_row 6 at l (omega arith))

-- the sizes of the rows
abbrev pub setup_sizes : List ℕ
setup_sizes = 1 ∷ 2 ∷ 1 ∷ 1 ∷ 1 ∷ 1 ∷ 4 ∷ 32 ∷ 32 ∷ 16 ∷ 7 ∷ 7 ∷ 7 ∷ 1 ∷ 16 ∷ 1 ∷ 7 ∷ 16 ∷ []

-- a call whose arrays have their lengths and whose numbers are in range
pub record Sound (c : SetupCall) : Type 0 where
  pub sizes : lengths (setup_rows c) ≡ setup_sizes
  pub outbox : c.outbox ≤ 512
  pub passkey : configured_passkey c.passkey < 4294967296

-- Reading what was written
module _ (c : SetupCall) (s : Sound c) where
  abbrev payload : List ℕ
  payload = join (setup_rows c)

  size : length payload ≡ 153
  size = length_join (setup_rows c) ∙ ap total s.sizes

  cut : cut_at 0 setup_sizes payload ≡ setup_rows c
  cut =
      ap (λ (ns : List ℕ). cut_at 0 ns payload) (sym s.sizes)
      ∙ ap (cut_at 0 (lengths (setup_rows c))) (sym (append-nil payload))
      ∙ cut_join (setup_rows c) [] [] 0 refl

  row : (i : ℕ) → get_or (cut_at 0 setup_sizes payload) i [] ≡ get_or (setup_rows c) i []
  row i = ap (λ (rs : List (List ℕ)). get_or rs i []) cut

  start : get_or payload 0 0 ≡ start_number c.start
  start = byte_of 0 payload _ (row 0)

  outbox : number_at 2 1 payload ≡ c.outbox
  outbox = ap number (row 1) ∙ number_two c.outbox (omega (arith, s.outbox))

  io : get_or payload 3 0 ≡ io_number c.io
  io = byte_of 3 payload _ (row 2)

  oob : get_or payload 4 0 ≡ oob_number c.oob
  oob = byte_of 4 payload _ (row 3)

  bonding : get_or payload 5 0 ≡ flag_number c.bonding
  bonding = byte_of 5 payload _ (row 4)

  configured : get_or payload 6 0 ≡ configured_number c.passkey
  configured = byte_of 6 payload _ (row 5)

  passkey : number_at 4 7 payload ≡ configured_passkey c.passkey
  passkey = ap number (row 6) ∙ number_four (configured_passkey c.passkey) s.passkey

  own : Told 91 payload c.own
  own = address_back 91 payload c.own (omega (arith, size)) (row 10)

  identity : Told 98 payload c.identity
  identity = address_back 98 payload c.identity (omega (arith, size)) (row 11)

  peer : Told 105 payload c.peer
  peer = address_back 105 payload c.peer (omega (arith, size)) (row 12)

  there : get_or payload 112 0 ≡ flag_number c.there
  there = byte_of 112 payload _ (row 13)

  level : get_or payload 129 0 ≡ level_number c.bond.level
  level = byte_of 129 payload _ (row 15)

  bonded : Told 130 payload c.bond.address
  bonded = address_back 130 payload c.bond.address (omega (arith, size)) (row 16)

  string : (n at : ℕ) (v : List ℕ) → at + n ≤ 153 → take n (drop at payload) ≡ v → field n at payload ≡ v
  string n at v h e = field_there n at payload (omega (arith, size)) ∙ e

  says : setup_call payload ≡ c
  unfolding setup_call
  says =
      rw (
        start,
        start_back c.start,
        outbox,
        io,
        io_back c.io,
        oob,
        oob_back c.oob,
        bonding,
        flag_back c.bonding,
        configured,
        passkey,
        configured_back c.passkey,
        string 32 11 _ (omega arith) (row 7),
        string 32 43 _ (omega arith) (row 8),
        string 16 75 _ (omega arith) (row 9),
        own.says,
        identity.says,
        peer.says,
        there,
        flag_back c.there,
        string 16 113 _ (omega arith) (row 14),
        level,
        level_back c.bond.level,
        bonded.says,
        string 16 137 _ (omega arith) (row 17),
      )

  small : (at n m : ℕ) → get_or payload at 0 ≡ n → n ≤ m → leb (get_or payload at 0) m ≡ true
  small at n m e h = le-leb (get_or payload at 0) m (omega arith)

  fits : setup_fits payload ≡ true
  unfolding setup_fits
  fits =
      test_first _ _ (eq-eqb _ _ size)
      (test_first _ _ (le-leb (number_at 2 1 payload) 512 (omega (arith, outbox, s.outbox)))
      (test_first _ _ (small 0 _ 2 start (start_small c.start))
      (test_first _ _ (small 3 _ 4 io (io_small c.io))
      (test_first _ _ (small 4 _ 1 oob (oob_small c.oob))
      (test_first _ _ (small 5 _ 1 bonding (flag_small c.bonding))
      (test_first _ _ (small 6 _ 1 configured (configured_small c.passkey))
      (test_first _ _ (rw (configured, passkey) (configured_fits c.passkey))
      (test_first _ _ (small 91 _ 1 own.kind (kind_small c.own.kind))
      (test_first _ _ (small 98 _ 1 identity.kind (kind_small c.identity.kind))
      (test_first _ _ (small 105 _ 1 peer.kind (kind_small c.peer.kind))
      (test_first _ _ (small 112 _ 1 there (flag_small c.there))
      (test_first _ _ (small 129 _ 2 level (level_small c.bond.level))
      (test_first _ _ (small 130 _ 1 bonded.kind (kind_small c.bond.address.kind))
      test_none)))))))))))))

  pub read_put : read_setup (setup_octets c) ≡ Some c
  unfolding read_setup setup_octets
  read_put = rw (le-leb c.outbox 512 s.outbox, fits, says)

-- Writing what was read: of a payload of octets that fits
module _ (l : List ℕ) (b : Below l) (f : setup_fits l ≡ true) where
  whole : length l ≡ 153
  unfolding setup_fits
  whole = eqb-true _ _ (test_at 0 _ f)

  rows : setup_rows (setup_call l) ≡ cut_at 0 setup_sizes l
  unfolding setup_fits setup_call
  rows =
      let s : length l ≡ 153 = whole in
      let one-row : (at n : ℕ) → at < 153 → n ≡ get_or l at 0 → one n ≡ take 1 (drop at l) = λ at n h e. ap one e ∙ byte_row at l (omega arith) in
      row_eq (one-row 0 _ (omega arith) (start_number_lem _ (leb-true _ _ (test_at 2 _ f))))
      (row_eq (number_row 2 1 l b (omega arith))
      (row_eq (one-row 3 _ (omega arith) (io_number_lem _ (leb-true _ _ (test_at 3 _ f))))
      (row_eq (one-row 4 _ (omega arith) (oob_number_lem _ (leb-true _ _ (test_at 4 _ f))))
      (row_eq (one-row 5 _ (omega arith) (flag_number_lem _ (leb-true _ _ (test_at 5 _ f))))
      (row_eq (one-row 6 _ (omega arith) (configured_number_lem _ (number_at 4 7 l) (leb-true _ _ (test_at 6 _ f))))
      (row_eq (ap (little 4) (configured_passkey_lem (get_or l 6 0) (number_at 4 7 l) (leb-true _ _ (test_at 6 _ f)) (test_at 7 _ f)) ∙ number_row 4 7 l b (omega arith))
      (row_eq (field_there 32 11 l (omega arith))
      (row_eq (field_there 32 43 l (omega arith))
      (row_eq (field_there 16 75 l (omega arith))
      (row_eq (address_row 91 l (omega arith) (test_at 8 _ f))
      (row_eq (address_row 98 l (omega arith) (test_at 9 _ f))
      (row_eq (address_row 105 l (omega arith) (test_at 10 _ f))
      (row_eq (one-row 112 _ (omega arith) (flag_number_lem _ (leb-true _ _ (test_at 11 _ f))))
      (row_eq (field_there 16 113 l (omega arith))
      (row_eq (one-row 129 _ (omega arith) (level_number_lem _ (leb-true _ _ (test_at 12 _ f))))
      (row_eq (address_row 130 l (omega arith) (test_at 13 _ f))
      (row_eq (field_there 16 137 l (omega arith))
      refl)))))))))))))))))

  pub put_read : setup_octets (setup_call l) ≡ l
  unfolding setup_fits setup_octets setup_call
  put_read = rw (test_at 1 _ f) (ap join rows ∙ join_cut setup_sizes l 0 ∙ take_all 153 l (omega (arith, whole)))

-- every setup is that of a payload, whatever bytes stand where it has no known bond
pub setup_called : (start : StartKind) (outbox : ℕ) (s : Setup) (b : Bond) → setup_in (call_of start outbox s b) ≡ s
setup_called start outbox s b = go s.known refl
  where
    go : (k : Option Bond) → s.known ≡ k → setup_in (call_of start outbox s b) ≡ s
    go None e = rw e (cc)
    go (Some x) e = rw e (cc)
