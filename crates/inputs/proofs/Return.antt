-- Reading a command or an event that was written gives the call again, and writing what was read gives the same payload. Assumes nothing.
use mathlib.Core.Path.{◌≡◌, refl, sym, ap, ◌∙◌}
use mathlib.Core.List.{List, [], ◌∷◌, ◌++◌, append-nil}
use mathlib.Core.Bool.{Bool, true, false, cond}
use Prim.Native.Nat.{ℕ, zero, suc, ◌+◌, ◌*◌, ◌/◌, ◌%◌, ◌≤◌, ◌<◌}
use native.Mathlib.Omega.{arith}
use lib.ListN.{length, take, drop, get_or, length-append, length-drop, take-append-drop}
use lib.Seq.{take_all, take-add, drop_at}
use lib.Dec.{eqb, leb}
use borrow.Author.Tests.{eq-eqb, ne_eqb, le-leb, eqb-true, leb-true}
use Rattle.protocol.specs.declared.Event.{Event}
use Rattle.protocol.specs.declared.Event.TheVariants as I
use Rattle.protocol.specs.declared.OobData.{OobData}
use Rattle.inputs.specs.declared.Came.{Came}
use Rattle.inputs.specs.declared.Came.TheVariants.{LinkEncryptedResult, PassKeyConfirm, PassKeyCancel, PassKeyInput, OobDataReceived}
use Rattle.protocol.specs.declared.Given.{Given}
use Rattle.std.specs.Prelude.{Some}
use Rattle.fields.specs.Fields.{little, number, number_at, field, flag_number, one, join}
use Rattle.fields.proofs.Cut.{cut_at, lengths, total, row_eq, cut_join, join_cut, length_join, field_there, byte_of, byte_row, number_two, number_four, Below, number_row, test_none, test_first, test_at}
use Rattle.fields.proofs.Flags.{flag_back, flag_small, flag_number_lem}
use Rattle.inputs.specs.declared.Call.{Call}
use Rattle.inputs.specs.declared.EventCall.{EventCall}
use Rattle.inputs.specs.Input.{
  event_in,
  came_of,
  values_of,
  event_call_of,
  given_number,
  given_of,
  call_rows,
  call_at,
  call_fits,
  command_octets,
  command_fits,
  read_command,
  event_number,
  event_value,
  event_of,
  number_fits,
  event_rows,
  event_octets,
  event_call,
  event_fits,
  read_event,
}

-- The bits of the answers given

module _ (g : Given) where
  abbrev bits : ℕ
  bits = given_number g

  record Bits : Type 0 where
    dh : bits % 2 ≡ flag_number g.dh
    ownconfirm : bits / 2 % 2 ≡ flag_number g.ownconfirm
    peerconfirm : bits / 4 % 2 ≡ flag_number g.peerconfirm
    g2 : bits / 8 % 2 ≡ flag_number g.g2
    f5 : bits / 16 % 2 ≡ flag_number g.f5
    peercheck : bits / 32 % 2 ≡ flag_number g.peercheck
    owncheck : bits / 64 % 2 ≡ flag_number g.owncheck
    most : bits ≤ 127

  each_bit : Bits
  each_bit =
      let a = flag_small g.dh in
      let b = flag_small g.ownconfirm in
      let c = flag_small g.peerconfirm in
      let d = flag_small g.g2 in
      let e = flag_small g.f5 in
      let f = flag_small g.peercheck in
      let h = flag_small g.owncheck in
      record {
        dh = omega arith;
        ownconfirm = omega arith;
        peerconfirm = omega arith;
        g2 = omega arith;
        f5 = omega arith;
        peercheck = omega arith;
        owncheck = omega arith;
        most = omega arith;
      }

  given_back : given_of (given_number g) ≡ g
  given_back =
      let b = each_bit in
      rw (
        b.dh,
        b.ownconfirm,
        b.peerconfirm,
        b.g2,
        b.f5,
        b.peercheck,
        b.owncheck,
        flag_back g.dh,
        flag_back g.ownconfirm,
        flag_back g.peerconfirm,
        flag_back g.g2,
        flag_back g.f5,
        flag_back g.peercheck,
        flag_back g.owncheck,
      )

halves : (n a b c d e f g p q r s t u : ℕ) → a + 2 * p ≡ n → b + 2 * q ≡ p → c + 2 * r ≡ q → d + 2 * s ≡ r → e + 2 * t ≡ s → f + 2 * u ≡ t → g ≡ u
    → a + 2 * b + 4 * c + 8 * d + 16 * e + 32 * f + 64 * g ≡ n
halves n a b c d e f g p q r s t u h₁ h₂ h₃ h₄ h₅ h₆ h₇ = omega arith

given_number_lem : (n : ℕ) → n ≤ 127 → given_number (given_of n) ≡ n
given_number_lem n h =
    rw (
      flag_number_lem (n % 2) (omega arith),
      flag_number_lem (n / 2 % 2) (omega arith),
      flag_number_lem (n / 4 % 2) (omega arith),
      flag_number_lem (n / 8 % 2) (omega arith),
      flag_number_lem (n / 16 % 2) (omega arith),
      flag_number_lem (n / 32 % 2) (omega arith),
      flag_number_lem (n / 64 % 2) (omega arith),
    )
    (halves n (n % 2) (n / 2 % 2) (n / 4 % 2) (n / 8 % 2) (n / 16 % 2) (n / 32 % 2) (n / 64 % 2) (n / 2) (n / 4) (n / 8) (n / 16) (n / 32) (n / 64)
    (omega arith) (omega arith) (omega arith) (omega arith) (omega arith) (omega arith) (omega arith))

-- Events and their numbers

event_back : (e : Came) → event_of (event_number e) (event_value e) ≡ e
event_back (LinkEncryptedResult b) = ap LinkEncryptedResult (flag_back b)
event_back PassKeyConfirm = refl
event_back PassKeyCancel = refl
event_back (PassKeyInput n) = refl
event_back OobDataReceived = refl

event_fits_lem : (e : Came) → number_fits (event_number e) (event_value e) ≡ true
event_fits_lem (LinkEncryptedResult b) = le-leb (flag_number b) 1 (flag_small b)
event_fits_lem PassKeyConfirm = refl
event_fits_lem PassKeyCancel = refl
event_fits_lem (PassKeyInput n) = refl
event_fits_lem OobDataReceived = refl

no_event : (k n : ℕ) → 5 < k → number_fits k n ≡ false
no_event k n h =
    rw (ne_eqb k 1 (λ e. omega arith), ne_eqb k 2 (λ e. omega arith), ne_eqb k 3 (λ e. omega arith), ne_eqb k 4 (λ e. omega arith), ne_eqb k 5 (λ e. omega arith))

event_number_lem : (k n : ℕ) → number_fits k n ≡ true → (event_number (event_of k n) ≡ k) × (event_value (event_of k n) ≡ n)
event_number_lem zero n h = absurd (let z : ◌≡◌ {A = ℕ} 0 1 = cc in omega arith)
event_number_lem (suc zero) n h = (refl, flag_number_lem n (leb-true n 1 h))
event_number_lem (suc (suc zero)) n h = (refl, sym (eqb-true n 0 h))
event_number_lem (suc (suc (suc zero))) n h = (refl, sym (eqb-true n 0 h))
event_number_lem (suc (suc (suc (suc zero)))) n h = (refl, refl)
event_number_lem (suc (suc (suc (suc (suc zero))))) n h = (refl, sym (eqb-true n 0 h))
event_number_lem (suc (suc (suc (suc (suc (suc k)))))) n h =
    let f = no_event (suc (suc (suc (suc (suc (suc k)))))) n (omega arith) in
    absurd (let z : ◌≡◌ {A = ℕ} 0 1 = cc in omega arith)

-- the sizes of the rows
abbrev pub call_sizes : List ℕ
call_sizes = 2 ∷ 1 ∷ 16 ∷ 4 ∷ 1 ∷ 32 ∷ 16 ∷ 16 ∷ 4 ∷ 16 ∷ 16 ∷ 16 ∷ 16 ∷ []

abbrev pub event_sizes : List ℕ
event_sizes = 1 ∷ 4 ∷ 16 ∷ 16 ∷ 16 ∷ []

-- a call whose arrays have their lengths and whose numbers are in range
pub record Sound (c : Call) : Type 0 where
  pub sizes : lengths (call_rows c) ≡ call_sizes
  pub outbox : c.outbox ≤ 512
  pub passkey : c.supplied.passkey < 4294967296
  pub g2 : c.supplied.g2 < 4294967296

-- Reading the first 156 bytes, whatever stands behind them
module _ (c : Call) (s : Sound c) (post : List ℕ) where
  abbrev payload : List ℕ
  payload = join (call_rows c) ++ post

  size : length (join (call_rows c)) ≡ 156
  size = length_join (call_rows c) ∙ ap total s.sizes

  long : 156 ≤ length payload
  long = omega (arith, length-append (join (call_rows c)) post, size)

  row : (i : ℕ) → get_or (cut_at 0 call_sizes payload) i [] ≡ get_or (call_rows c) i []
  row i = ap (λ (rs : List (List ℕ)). get_or rs i []) (ap (λ (ns : List ℕ). cut_at 0 ns payload) (sym s.sizes) ∙ cut_join (call_rows c) [] post 0 refl)

  outbox : number_at 2 0 payload ≡ c.outbox
  outbox = ap number (row 0) ∙ number_two c.outbox (omega (arith, s.outbox))

  given : get_or payload 2 0 ≡ given_number c.given
  given = byte_of 2 payload _ (row 1)

  valid : get_or payload 23 0 ≡ flag_number c.supplied.dhvalid
  valid = byte_of 23 payload _ (row 4)

  string : (n at : ℕ) (v : List ℕ) → at + n ≤ 156 → take n (drop at payload) ≡ v → field n at payload ≡ v
  string n at v h e = field_there n at payload (omega (arith, long)) ∙ e

  says : call_at payload ≡ c
  unfolding call_at
  says =
      rw (
        outbox,
        given,
        given_back c.given,
        string 16 3 _ (omega arith) (row 2),
        ap number (row 3) ∙ number_four c.supplied.passkey s.passkey,
        valid,
        flag_back c.supplied.dhvalid,
        string 32 24 _ (omega arith) (row 5),
        string 16 56 _ (omega arith) (row 6),
        string 16 72 _ (omega arith) (row 7),
        ap number (row 8) ∙ number_four c.supplied.g2 s.g2,
        string 16 92 _ (omega arith) (row 9),
        string 16 108 _ (omega arith) (row 10),
        string 16 124 _ (omega arith) (row 11),
        string 16 140 _ (omega arith) (row 12),
      )

  fits : call_fits payload ≡ true
  unfolding call_fits
  fits =
      test_first _ _ (le-leb 156 (length payload) long)
      (test_first _ _ (le-leb (number_at 2 0 payload) 512 (omega (arith, outbox, s.outbox)))
      (test_first _ _ (le-leb (get_or payload 2 0) 127 (omega (arith, given, (each_bit c.given).most)))
      (test_first _ _ (le-leb (get_or payload 23 0) 1 (omega (arith, valid, flag_small c.supplied.dhvalid)))
      test_none)))

-- and writing them
module _ (l : List ℕ) (b : Below l) (f : call_fits l ≡ true) where
  rows : join (call_rows (call_at l)) ≡ take 156 l
  unfolding call_fits call_at
  rows =
      let s : 156 ≤ length l = leb-true _ _ (test_at 0 _ f) in
      let one-row : (at n : ℕ) → at < 156 → n ≡ get_or l at 0 → one n ≡ take 1 (drop at l) = λ at n h e. ap one e ∙ byte_row at l (omega arith) in
      ap join
      (row_eq (number_row 2 0 l b (omega arith))
      (row_eq (one-row 2 _ (omega arith) (given_number_lem _ (leb-true _ _ (test_at 2 _ f))))
      (row_eq (field_there 16 3 l (omega arith))
      (row_eq (number_row 4 19 l b (omega arith))
      (row_eq (one-row 23 _ (omega arith) (flag_number_lem _ (leb-true _ _ (test_at 3 _ f))))
      (row_eq (field_there 32 24 l (omega arith))
      (row_eq (field_there 16 56 l (omega arith))
      (row_eq (field_there 16 72 l (omega arith))
      (row_eq (number_row 4 88 l b (omega arith))
      (row_eq (field_there 16 92 l (omega arith))
      (row_eq (field_there 16 108 l (omega arith))
      (row_eq (field_there 16 124 l (omega arith))
      (row_eq (field_there 16 140 l (omega arith))
      refl)))))))))))))
      ∙ join_cut call_sizes l 0

  in_range : leb (call_at l).outbox 512 ≡ true
  unfolding call_fits call_at
  in_range = test_at 1 _ f

  enough : 156 ≤ length l
  unfolding call_fits
  enough = leb-true _ _ (test_at 0 _ f)

-- Commands
module _ (c : Call) (s : Sound c) (cmd : List ℕ) (h : length cmd ≤ 356) where
  pub read_put_command : read_command (command_octets c cmd) ≡ Some c
  unfolding read_command command_octets command_fits
  read_put_command =
      let n : length (join (call_rows c) ++ cmd) ≤ 512 = omega (arith, length-append (join (call_rows c)) cmd, size c s cmd) in
      rw (le-leb c.outbox 512 s.outbox, le-leb (length cmd) 356 h, le-leb (length (join (call_rows c) ++ cmd)) 512 n, fits c s cmd, says c s cmd)

  -- and the command stands behind offset 156
  pub command_behind : drop 156 (command_octets c cmd) ≡ cmd
  unfolding command_octets
  command_behind =
      rw (le-leb c.outbox 512 s.outbox, le-leb (length cmd) 356 h) (drop_at (join (call_rows c)) cmd 156 (size c s cmd))

both_true : (t : Bool) (u : Bool) → cond t u false ≡ true → (t ≡ true) × (u ≡ true)
both_true true u h = (refl, h)
both_true false u h = absurd (let z : ◌≡◌ {A = ℕ} 0 1 = cc in omega arith)

pub put_read_command : (l : List ℕ) → Below l → command_fits l ≡ true → command_octets (call_at l) (drop 156 l) ≡ l
unfolding command_fits command_octets
put_read_command l b f =
    let p = both_true (leb (length l) 512) (call_fits l) f in
    let most : length l ≤ 512 = leb-true _ _ p.0 in
    let least : 156 ≤ length l = enough l b p.1 in
    let n : length (drop 156 l) ≤ 356 = omega (arith, length-drop 156 l) in
    rw (in_range l b p.1, le-leb (length (drop 156 l)) 356 n, rows l b p.1) (take-append-drop 156 l)

-- Events
module _ (c : EventCall) (s : Sound c.call) (z : lengths (event_rows c) ≡ event_sizes) (v : event_value c.came < 4294967296) where
  abbrev whole : List ℕ
  whole = join (call_rows c.call) ++ join (event_rows c)

  behind : (i : ℕ) → get_or (cut_at 156 event_sizes whole) i [] ≡ get_or (event_rows c) i []
  behind i =
      ap (λ (rs : List (List ℕ)). get_or rs i [])
      (ap (λ (ns : List ℕ). cut_at 156 ns whole) (sym z)
      ∙ ap (λ (t : List ℕ). cut_at 156 (lengths (event_rows c)) (join (call_rows c.call) ++ t)) (sym (append-nil (join (event_rows c))))
      ∙ cut_join (event_rows c) (join (call_rows c.call)) [] 156 (size c.call s []))

  event_size : length whole ≡ 209
  event_size =
      let e : length (join (event_rows c)) ≡ 53 = length_join (event_rows c) ∙ ap total z in
      length-append (join (call_rows c.call)) (join (event_rows c)) ∙ omega (arith, size c.call s [])

  kind : get_or whole 156 0 ≡ event_number c.came
  kind = byte_of 156 whole _ (behind 0)

  value : number_at 4 157 whole ≡ event_value c.came
  value = ap number (behind 1) ∙ number_four (event_value c.came) v

  at_end : (n at : ℕ) (x : List ℕ) → at + n ≤ 209 → take n (drop at whole) ≡ x → field n at whole ≡ x
  at_end n at x h e = field_there n at whole (omega (arith, event_size)) ∙ e

  event_says : event_call whole ≡ c
  unfolding event_call
  event_says =
      rw (
        says c.call s (join (event_rows c)),
        kind,
        value,
        event_back c.came,
        at_end 16 161 _ (omega arith) (behind 2),
        at_end 16 177 _ (omega arith) (behind 3),
        at_end 16 193 _ (omega arith) (behind 4),
      )

  pub read_put_event : read_event (event_octets c) ≡ Some c
  unfolding read_event event_octets event_fits
  read_put_event =
      rw (le-leb c.call.outbox 512 s.outbox, eq-eqb _ _ event_size, fits c.call s (join (event_rows c)), kind, value, event_fits_lem c.came, event_says)

pub put_read_event : (l : List ℕ) → Below l → event_fits l ≡ true → event_octets (event_call l) ≡ l
unfolding event_fits event_octets event_call
put_read_event l b f =
    let p = both_true (eqb (length l) 209) _ f in
    let q = both_true (call_fits l) _ p.1 in
    let n : length l ≡ 209 = eqb-true _ _ p.0 in
    let e = event_number_lem (get_or l 156 0) (number_at 4 157 l) q.1 in
    let t : join (event_rows (event_call l)) ≡ take 53 (drop 156 l) =
    ap join
    (row_eq (ap one e.0 ∙ byte_row 156 l (omega arith))
    (row_eq (ap (little 4) e.1 ∙ number_row 4 157 l b (omega arith))
    (row_eq (field_there 16 161 l (omega arith))
    (row_eq (field_there 16 177 l (omega arith))
    (row_eq (field_there 16 193 l (omega arith))
    refl)))))
    ∙ join_cut event_sizes l 156 in
    rw (in_range l b q.0, rows l b q.0, t) (sym (take-add 156 53 l) ∙ take_all 209 l (omega arith))

-- every event is that of a payload, whatever values stand beside it where they are not its own
pub event_came : (e : Event) (o : OobData) → ((d : OobData) → e ≡ I.OobDataReceived d → d ≡ o) → event_in (came_of e) o ≡ e
event_came (I.LinkEncryptedResult ok) o h = refl
event_came I.PassKeyConfirm o h = refl
event_came I.PassKeyCancel o h = refl
event_came (I.PassKeyInput p) o h = refl
event_came (I.OobDataReceived d) o h = ap I.OobDataReceived (sym (h d refl))

pub event_called : (c : Call) (e : Event) → event_in (event_call_of c e).came (event_call_of c e).values ≡ e
event_called c e = event_came e (values_of e) (λ d p. sym (ap values_of p))
