-- Single fields are exact: bytes, and numbers of each width.
use Rattle.std.proofs.Common.{◌≡◌, ℕ, ◌^◌, ◌<◌, ◌≤◌, false, ltb, List, ◌∷◌, [], ◌++◌, length, take, drop, refl, sym, ap}
use Rattle.std.proofs.Common.{arith}
use Rattle.std.specs.Int.{Width, w8, w16, w32, w64, byte_len, from_be_bytes, to_be_bytes}
use Rattle.std.proofs.lemmas.Bool.{ltb-false, ltb-true, le-ltb, lt-ltb}
use Rattle.std.proofs.lemmas.List.{take_at, drop_at, take-append-drop, length-append, length-take}
use Rattle.std.proofs.lemmas.Nat.{be_bytes_2, be_bytes_4, be_bytes_8, from_be_bytes-to_be_bytes_2}
use Rattle.std.proofs.lemmas.Nat.{from_be_bytes-to_be_bytes_4, from_be_bytes-to_be_bytes_8}
use Rattle.byte_layout.specs.declared.fault.Break.TheVariants.{Cut}
use Rattle.byte_layout.specs.Layout.{raw, number}
use Rattle.byte_layout.specs.Exact.{IsBytes, IsExact}
use Rattle.byte_layout.proofs.Steps.{barred_ok, barred_err, are_bytes-take}

pub raw_exact : (n : ℕ) → IsExact (raw n)
unfolding raw
raw_exact n = record {
  taken = λ bytes fits a rest e.
      let g = barred_ok (ltb (length bytes) n) Cut (take n bytes, drop n bytes) (a, rest) e in
      let long : n ≤ length bytes = ltb-false (length bytes) n g.0 in
      let front : take n bytes ≡ a = ap (λ x. x.0) g.1 in
      let behind : drop n bytes ≡ rest = ap (λ x. x.1) g.1 in
      (rw (← front) (omega (arith, length-take n bytes)), rw (← front, ← behind) (sym (take-append-drop n bytes)));
  again = λ a rest good.
      let long : ltb (length (a ++ rest)) n ≡ false =
      le-ltb (length (a ++ rest)) n (omega (arith, length-append a rest)) in
      rw (long, take_at a rest n good, drop_at a rest n good) refl;
  broken = λ bytes fits b e.
      let g = barred_err (ltb (length bytes) n) Cut b (take n bytes, drop n bytes) e in
      (ltb-true (length bytes) n g.0, g.1);
  refused = λ bytes b h. rw (lt-ltb (length bytes) n h.0, h.1) refl;
  within = λ bytes b h. rw h.1 (omega arith);
}

-- numbers of a width and lists of its length stand for one another
pub record IsWide (w : Width) : Type 0 where
  pub len : (n : ℕ) → length (to_be_bytes w n) ≡ byte_len w
  pub back : (bytes : List ℕ) → length bytes ≡ byte_len w → IsBytes bytes
      → to_be_bytes w (from_be_bytes w bytes) ≡ bytes
  pub again : (n : ℕ) → n < 256 ^ byte_len w → from_be_bytes w (to_be_bytes w n) ≡ n
  pub below : (bytes : List ℕ) → IsBytes bytes → from_be_bytes w bytes < 256 ^ byte_len w

one_byte : (bytes : List ℕ) → length bytes ≡ 1 → IsBytes bytes → to_be_bytes w8 (from_be_bytes w8 bytes) ≡ bytes
one_byte [] len fits = absurd (omega arith)
one_byte (b ∷ []) len fits = ap (λ x. x ∷ []) (omega (arith, fits 0))
one_byte (b ∷ c ∷ bytes) len fits = absurd (omega arith)

pub wide8 : IsWide w8
wide8 = record {
  len = λ n. refl;
  back = one_byte;
  again = λ n lt. omega arith;
  below = λ bytes fits. omega (arith, fits 0);
}

pub wide16 : IsWide w16
wide16 = record {
  len = λ n. refl;
  back = λ bytes len fits. be_bytes_2 bytes _ len fits refl;
  again = λ n lt. from_be_bytes-to_be_bytes_2 n lt;
  below = λ bytes fits. omega (arith, fits 0, fits 1);
}

pub wide32 : IsWide w32
wide32 = record {
  len = λ n. refl;
  back = λ bytes len fits. be_bytes_4 bytes _ len fits refl;
  again = λ n lt. from_be_bytes-to_be_bytes_4 n lt;
  below = λ bytes fits. omega (arith, fits 0, fits 1, fits 2, fits 3);
}

pub wide64 : IsWide w64
wide64 = record {
  len = λ n. refl;
  back = λ bytes len fits. be_bytes_8 bytes _ len fits refl;
  again = λ n lt. from_be_bytes-to_be_bytes_8 n lt;
  below = λ bytes fits. omega (arith, fits 0, fits 1, fits 2, fits 3, fits 4, fits 5, fits 6, fits 7);
}

pub number_exact : (w : Width) → IsWide w → IsExact (number w)
unfolding number
number_exact w wide = record {
  taken = λ bytes fits n rest e.
      let k = byte_len w in
      let g = barred_ok (ltb (length bytes) k) Cut (from_be_bytes w (take k bytes), drop k bytes) (n, rest) e in
      let long : k ≤ length bytes = ltb-false (length bytes) k g.0 in
      let value : from_be_bytes w (take k bytes) ≡ n = ap (λ x. x.0) g.1 in
      let behind : drop k bytes ≡ rest = ap (λ x. x.1) g.1 in
      let front : to_be_bytes w n ≡ take k bytes =
      rw (← value) (wide.back (take k bytes) (omega (arith, length-take k bytes)) (are_bytes-take k bytes fits)) in (
        rw (← value) (wide.below (take k bytes) (are_bytes-take k bytes fits)),
        rw (front, ← behind) (sym (take-append-drop k bytes)),
      );
  again = λ n rest good.
      let k = byte_len w in
      let len = wide.len n in
      let long : ltb (length (to_be_bytes w n ++ rest)) k ≡ false =
      le-ltb (length (to_be_bytes w n ++ rest)) k (omega (arith, length-append (to_be_bytes w n) rest)) in
      rw (long, take_at (to_be_bytes w n) rest k len, drop_at (to_be_bytes w n) rest k len, wide.again n good) refl;
  broken = λ bytes fits b e.
      let k = byte_len w in
      let g = barred_err (ltb (length bytes) k) Cut b (from_be_bytes w (take k bytes), drop k bytes) e in
      (ltb-true (length bytes) k g.0, g.1);
  refused = λ bytes b h. rw (lt-ltb (length bytes) (byte_len w) h.0, h.1) refl;
  within = λ bytes b h. rw h.1 (omega arith);
}

pub byte_exact : IsExact (number w8)
byte_exact = number_exact w8 wide8

pub short_exact : IsExact (number w16)
short_exact = number_exact w16 wide16

pub long_exact : IsExact (number w32)
long_exact = number_exact w32 wide32

-- a number that fits its width is good
pub number_good : (w : Width) (n : ℕ) → n < 256 ^ byte_len w → (number w).Good n
unfolding number
number_good w n lt = lt

pub number_below : (w : Width) (n : ℕ) → (number w).Good n → n < 256 ^ byte_len w
unfolding number
number_below w n good = good

pub raw_good : (n : ℕ) (bytes : List ℕ) → length bytes ≡ n → (raw n).Good bytes
unfolding raw
raw_good n bytes len = len

pub raw_length : (n : ℕ) (bytes : List ℕ) → (raw n).Good bytes → length bytes ≡ n
unfolding raw
raw_length n bytes good = good
