-- `linear::activity::min_activity` meets its contract: the sum, and what the variables left add, is the activity. Assumes nothing.
use Prim.Native.Nat.{ℕ, ◌+◌, ◌≤◌, ◌<◌, ◌*◌}
use native.Mathlib.Omega.{arith}
use mathlib.Core.List.{List}
use mathlib.Core.Path.{◌≡◌, ap, sym, ◌∙◌}
use lib.Dec.{lit<}
use lib.IntN.{ℤ, ◌+ℤ◌}
use mir.Syntax.{w64}
use mir.Val.{SFits, to_z, of_z}
use mir.Facts.{to_z-of_z}
use Rattle.model_problems.specs.Ranges.{max_coefficient, max_variables}
use Rattle.model_problems.specs.Constraint.{term}
use Rattle.integer.specs.Size.{Within, weaken, fits, add-within}
use Rattle.layout.specs.Rows.{number_in, cell, bounds_at}
use Rattle.linear.specs.Ranges.{BoxFits, widest_bound, widest_term}
use Rattle.linear.proofs.Ranges.{term_fits, change-fits, constant-back, coefficient-back, lower-back, upper-back}
use Rattle.linear.proofs.Terms.{rest, rest-start, rest-step, rest_end}
use Rattle.linear.proofs.activity.min_activity.Goals as goal

pub loop-i-init : goal.loop-i-init
unfolding number_in
loop-i-init c =
    let a = c.args in
    rw (constant-back c.requires.row_fits)
    (record { all = rest-start a.n a.rows.now a.start a.lower.now a.upper.now; size = weaken (omega arith) c.requires.row_fits.constant })

pub term-sum-requires : goal.term-sum-requires
unfolding cell number_in
term-sum-requires c =
    let p = c.requires in
    let i = c.loop-i.i in
    let h : i < c.args.n = c.loop-i-test.true in
    rw (coefficient-back p.row_fits i h, lower-back p.box_fits i h, upper-back p.box_fits i h) (change-fits (term_fits p.row_fits p.box_fits i h))

-- variable i's term
sized : {n : ℕ} (i : ℕ) {lower upper : List ℤ} {x : ℤ} → BoxFits n lower upper → i < n →
    ((w : ℕ) → Within w (to_z w64 (of_z w64 (number_in lower i))) → Within w (to_z w64 (of_z w64 (number_in upper i))) → Within (max_coefficient * w) x) →
    Within widest_term x
sized i b h s = s widest_bound (rw (lower-back b i h) (b.low i h)) (rw (upper-back b i h) (b.high i h))

-- the sum after variable i
added : (i : ℕ) {sum x : ℤ} → Within (max_coefficient + i * widest_term) sum → Within widest_term x → Within (max_coefficient + (i + 1) * widest_term) (sum +ℤ x)
added i s t = weaken (omega arith) (add-within s t)

fitting : {n : ℕ} (i : ℕ) {sum x : ℤ} → n ≤ max_variables → i < n → Within (max_coefficient + i * widest_term) sum → Within widest_term x → SFits w64 (sum +ℤ x)
fitting i few h s t = fits (omega arith) (added i s t)

pub overflow_add-sum : goal.overflow_add-sum
unfolding number_in
overflow_add-sum c =
    let t = sized _ c.requires.box_fits c.loop-i-test.true c.term-sum.ensures.by_index in
    rw (to_z-of_z (fits (lit< tt) t)) (fitting _ c.requires.row_fits.few c.loop-i-test.true c.loop-i.invariant.size t)

pub loop-i-preserved : goal.loop-i-preserved
unfolding cell number_in bounds_at
loop-i-preserved c =
    let a = c.args in
    let p = c.requires in
    let i = c.loop-i.i in
    let h : i < a.n = c.loop-i-test.true in
    let e : c.term-sum.result ≡ term (cell a.rows.now a.start i) (bounds_at a.lower.now a.upper.now i) =
    rw (coefficient-back p.row_fits i h, lower-back p.box_fits i h, upper-back p.box_fits i h) at c.term-sum.ensures.value in
    let t = sized _ p.box_fits h c.term-sum.ensures.by_index in
    rw (to_z-of_z (fits (lit< tt) t), to_z-of_z (fitting _ p.row_fits.few h c.loop-i.invariant.size t)) (record {
      all = ap (λ (z : ℤ). ((to_z w64 c.loop-i.sum-bits) +ℤ z) +ℤ rest a.n a.rows.now a.start a.lower.now a.upper.now (i + 1)) e
          ∙ sym (rest-step a.n a.rows.now a.start a.lower.now a.upper.now (to_z w64 c.loop-i.sum-bits) i h) ∙ c.loop-i.invariant.all;
      size = added _ c.loop-i.invariant.size t;
    })

pub returns : goal.returns
returns c =
    let a = c.args in
    let i = c.loop-i.i in
    record {
      value = sym (rest_end a.n a.rows.now a.start a.lower.now a.upper.now (to_z w64 c.loop-i.sum-bits) i c.loop-i-test.false) ∙ c.loop-i.invariant.all;
      within = weaken (omega (arith, c.requires.row_fits.few)) c.loop-i.invariant.size;
    }
