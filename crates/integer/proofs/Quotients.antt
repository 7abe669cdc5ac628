-- The quotients that code computes are those of the numbers: no step of a division with rounding overflows, at any number that an `i64` holds.
use Rattle.std.proofs.Common.{◌≡◌, ◌∙◌, ℕ, suc, ◌+◌, ◌/◌, ◌≤◌, ◌<◌, ◌^◌, ℤ, pos, negsuc, nat_abs, ◌+ℤ◌, ◌<ℤ◌, SFits, to_z, of_z, w64, div-le_self, arith}
use Rattle.std.specs.Int.Signed.{quot_z}
use Rattle.std.proofs.lemmas.Int.{ints, to_z-of_z, quot_is, quot_fits}
use Rattle.integer.specs.Parts.{up, down, add_parts, neg-up, neg-down, one-part, lt_in}
use Rattle.integer.specs.Size.{Within}

-- a quotient q is the model's f, which is no larger than n
rounded : {n : ℕ} {q f : ℤ} → q ≡ f → nat_abs f ≤ n → (q ≡ f) × Within n q
rounded e h = (e, record { within = rw e h })

-- what code computes: of a number, of z / d, and of (z + x) / d + y
abbrev held : ℤ → ℤ
held z = to_z w64 (of_z w64 z)

abbrev quotient : ℤ → ℕ → ℤ
quotient z d = held (quot_z (held z) (to_z w64 d))

module _ (z : ℤ) (d : ℕ) (h : SFits w64 z) (p : 0 < d) (l : d < 2 ^ 63) where
  plain : quotient z d ≡ quot_z z (pos d)
  plain = quot_is w64 z (pos d) h (record { sfits = l }) (quot_fits w64 z (pos d) h (omega (arith, ints)))

  pub is-rounded : {f : ℤ} → quot_z z (pos d) ≡ f → nat_abs f ≤ nat_abs z → (quotient z d ≡ f) × Within (nat_abs z) (quotient z d)
  is-rounded e s = rounded (plain ∙ e) s

-- a quotient lies between 0 and its dividend
quot-nearer : (z : ℤ) (d : ℕ) → (up (quot_z z (pos d)) ≤ up z) × (down (quot_z z (pos d)) ≤ down z)
quot-nearer (pos a) d = (div-le_self a d, omega arith)
quot-nearer (negsuc a) d = let q = pos (suc a / d) in (omega (arith, neg-up q), omega (arith, neg-down q, div-le_self (suc a) d))

-- ---- (z + x) / d + y, where z + x is nearer to 0 than z by the size of y, which takes the step x back
abbrev Steps : ℤ → ℤ → ℤ → Type 0
Steps z x y = (up (z +ℤ x) + up y ≤ up z) × (down (z +ℤ x) + down y ≤ down z)

pub up-and-back : (z : ℤ) → z <ℤ pos 0 → Steps z (pos 1) (negsuc 0)
up-and-back z l =
    let a = add_parts z (pos 1) in
    let b = one-part (z +ℤ pos 1) in
    (omega (arith, lt_in z (pos 0) l.lt, one-part z), omega (arith, lt_in z (pos 0) l.lt, one-part z))

pub down-and-back : (z : ℤ) → pos 0 <ℤ z → Steps z (negsuc 0) (pos 1)
down-and-back z l =
    let a = add_parts z (negsuc 0) in
    let b = one-part (z +ℤ negsuc 0) in
    (omega (arith, lt_in (pos 0) z l.lt, one-part z), omega (arith, lt_in (pos 0) z l.lt, one-part z))

module _ (z x y : ℤ) (d : ℕ) (h : SFits w64 z) (p : 0 < d) (l : d < 2 ^ 63) (s : Steps z x y) where
  nearer-fits : (w : ℤ) → up w ≤ up z → down w ≤ down z → SFits w64 w
  nearer-fits w i j = omega (arith, ints, h.sfits)

  stepped : held (quotient (held z +ℤ x) d +ℤ y) ≡ quot_z (z +ℤ x) (pos d) +ℤ y
  stepped =
      let q = quot_z (z +ℤ x) (pos d) in
      let fits : SFits w64 (z +ℤ x) = nearer-fits (z +ℤ x) (omega arith) (omega arith) in
      let n = quot-nearer (z +ℤ x) d in
      let a = add_parts q y in
      let b = one-part (q +ℤ y) in
      let back : SFits w64 (q +ℤ y) = nearer-fits (q +ℤ y) (omega (arith, one-part q, one-part y)) (omega (arith, one-part q, one-part y)) in
      rw (to_z-of_z w64 z h, plain (z +ℤ x) d fits p l) (to_z-of_z w64 (q +ℤ y) back)

  pub is-rounded-back : {f : ℤ} → quot_z (z +ℤ x) (pos d) +ℤ y ≡ f → nat_abs f ≤ nat_abs z → (held (quotient (held z +ℤ x) d +ℤ y) ≡ f) × Within (nat_abs z) (held (quotient (held z +ℤ x) d +ℤ y))
  is-rounded-back e b = rounded (stepped ∙ e) b
