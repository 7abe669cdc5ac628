-- `linear::divisibility::is_indivisible` meets its contract: g and sum are the divisor and the rest's value of the variables from i on. Assumes nothing.
use Prim.Native.Nat.{ℕ, ◌<◌, ◌≤◌, ◌-◌, ◌*◌}
use native.Mathlib.Omega.{arith}
use native.Mathlib.Nat.{pos_of_dvd_of_pos}
use mathlib.Core.List.{List}
use mathlib.Core.Path.{◌∙◌}
use mir.Syntax.{w64}
use mir.Val.{to_z}
use mir.Facts.{to_z-of_z}
use lib.Dec.{lit<}
use lib.IntN.{ℤ, ◌+ℤ◌, ◌*ℤ◌}
use Rattle.integer.specs.Divisor.{gcd-right}
use Rattle.integer.specs.Size.{Within, weaken, fits, add-within, mul-within}
use Rattle.layout.specs.Rows.{number_in, cell}
use Rattle.linear.specs.Ranges.{RowFits, BoxFits, widest_term, widest_activity}
use Rattle.linear.proofs.Ranges.{constant-back, coefficient-back, lower-back, upper-back}
use Rattle.linear.proofs.Dividing.{open_none, fixed-none, open_more, fixed_same, open-same, fixed_more, indivisible-one, indivisible-end}
use Rattle.linear.proofs.divisibility.is_indivisible.Goals as goal

pub loop-i-init : goal.loop-i-init
loop-i-init c =
    let a = c.args in
    record {
      divisor = open_none a.n a.rows.now a.start a.lower.now a.upper.now a.q;
      value = fixed-none a.n a.rows.now a.start a.lower.now a.upper.now;
      size = record { within = omega arith };
      nonzero = c.requires.q_nonzero.0;
    }

pub returns-then-g-eq1 : goal.returns-then-g-eq1
returns-then-g-eq1 c = indivisible-one _ _ _ _ _ _ c.loop-i.i c.loop-i.g c.requires.q_nonzero.0 c.loop-i.auto.i c.loop-i.invariant.divisor c.if-g-eq1.true

pub loop-i-preserved-then-low-upper : goal.loop-i-preserved-then-low-upper
unfolding cell number_in
loop-i-preserved-then-low-upper c =
    let a = c.args in
    let r = c.requires in
    let i = c.loop-i.i in
    let v = c.loop-i.invariant in
    let p : 0 < i = c.loop-i-test.true in
    let l : i ≤ a.n = c.loop-i.auto.i in
    let h : i - 1 < a.n = omega arith in
    let o = rw (lower-back r.box_fits (i - 1) h, upper-back r.box_fits (i - 1) h) at c.if-low-upper.true in
    let e = rw (coefficient-back r.row_fits (i - 1) h) at c.unsigned_abs.ensures.value in
    record {
      divisor = c.gcd-g.ensures ∙ rw (e, v.divisor) (open_more a.n a.rows.now a.start a.lower.now a.upper.now i p l o a.q);
      value = v.value ∙ fixed_same _ _ _ _ _ i p l o;
      size = weaken (omega arith) v.size;
      nonzero = rw c.gcd-g.ensures (pos_of_dvd_of_pos (gcd-right _ _) v.nonzero);
    }

-- the variable is fixed: its term, and the sum with it
module _ {n start : ℕ} (i : ℕ) {rows lower upper : List ℤ} (r : RowFits n rows start) (b : BoxFits n lower upper) (p : 0 < i) (l : i ≤ n) where
  term-within : Within widest_term (cell rows start (i - 1) *ℤ number_in lower (i - 1))
  term-within = mul-within (r.coefficients (i - 1) (omega arith)) (b.low (i - 1) (omega arith))

  sum-within : {sum : ℤ} → Within ((n - i) * widest_term) sum → Within ((n - (i - 1)) * widest_term) (sum +ℤ cell rows start (i - 1) *ℤ number_in lower (i - 1))
  sum-within s = weaken (omega arith) (add-within s term-within)

pub overflow_mul-sum : goal.overflow_mul-sum
unfolding cell number_in
overflow_mul-sum c =
    let r = c.requires.row_fits in
    let b = c.requires.box_fits in
    let h : c.loop-i.i - 1 < c.args.n = omega (arith, c.loop-i.auto.i, c.loop-i-test.true) in
    rw (coefficient-back r (c.loop-i.i - 1) h, lower-back b (c.loop-i.i - 1) h) (fits (lit< tt) (term-within c.loop-i.i r b c.loop-i-test.true c.loop-i.auto.i))

pub overflow_add-sum : goal.overflow_add-sum
unfolding cell number_in
overflow_add-sum c =
    let r = c.requires.row_fits in
    let b = c.requires.box_fits in
    let i = c.loop-i.i in
    let p = c.loop-i-test.true in
    let l = c.loop-i.auto.i in
    let h : i - 1 < c.args.n = omega (arith, l, p) in
    rw (coefficient-back r (i - 1) h, lower-back b (i - 1) h, to_z-of_z (fits (lit< tt) (term-within i r b p l)))
    (fits (omega (arith, r.few)) (sum-within i r b p l c.loop-i.invariant.size))

pub loop-i-preserved : goal.loop-i-preserved
unfolding cell number_in
loop-i-preserved c =
    let r = c.requires.row_fits in
    let b = c.requires.box_fits in
    let i = c.loop-i.i in
    let v = c.loop-i.invariant in
    let p : 0 < i = c.loop-i-test.true in
    let l : i ≤ c.args.n = c.loop-i.auto.i in
    let h : i - 1 < c.args.n = omega arith in
    let t = sum-within i r b p l v.size in
    let o = rw (lower-back b (i - 1) h, upper-back b (i - 1) h) at c.if-low-upper.false in
    rw (coefficient-back r (i - 1) h, lower-back b (i - 1) h, to_z-of_z (fits (lit< tt) (term-within i r b p l)), to_z-of_z (fits (omega (arith, r.few)) t))
    (record { divisor = v.divisor ∙ open-same _ _ _ _ _ i p l o _; value = rw v.value (fixed_more _ _ _ _ _ i p l o); size = t; nonzero = v.nonzero })

-- the rest's value
value-within : {n start : ℕ} (i : ℕ) {rows : List ℤ} {sum : ℤ} → RowFits n rows start → Within ((n - i) * widest_term) sum → Within widest_activity (number_in rows start +ℤ sum)
value-within i r s = weaken (omega (arith, r.few)) (add-within r.constant s)

pub overflow_add-rows : goal.overflow_add-rows
unfolding number_in
overflow_add-rows c = rw (constant-back c.requires.row_fits) (fits (lit< tt) (value-within _ c.requires.row_fits c.loop-i.invariant.size))

pub returns : goal.returns
unfolding number_in
returns c =
    let r = c.requires in
    let v = c.loop-i.invariant in
    let m = rw (constant-back r.row_fits, to_z-of_z (fits (lit< tt) (value-within _ r.row_fits v.size))) at c.unsigned_abs-2.ensures.value in
    rw m (indivisible-end _ _ _ _ _ _ c.loop-i.i c.loop-i.g (to_z w64 c.loop-i.sum-bits) r.q_nonzero.0 (omega (arith, c.loop-i-test.false)) v.divisor v.value)
