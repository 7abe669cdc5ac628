-- `derivation::resolving::combine_at` meets its contract. Assumes nothing.
use Rattle.std.proofs.Common.{◌≡◌, ◌∙◌, ap, ap₂, sym, ℕ, ◌+◌, ◌/◌, ◌<◌, ◌≤◌, ◌^◌, ℤ, pos, nat_abs, List, length, get_or, arith}
use Rattle.std.specs.Int.Signed.{mag}
use Rattle.std.specs.List.{between}
use Rattle.std.proofs.lemmas.List.Edits.{length-between}
use Rattle.model_problems.specs.Ranges.{max_coefficient}
use Rattle.model_problems.specs.Division.{gcd}
use Rattle.model_problems.specs.Constraint.{Constraint, coefficient_at, combination}
use Rattle.integer.specs.Divisor.{gcd-pos}
use Rattle.layout.specs.Rows.{row_length, number_in, cell, constraint_at}
use Rattle.layout.proofs.Rows.{coefficient-at}
use Rattle.layout.proofs.Elements.{back, number_read}
use Rattle.derivation.specs.Resolvable.{Combinable, Resolvable, Combined}
use Rattle.derivation.proofs.Sizes.{multiplier-most, combination-sized}
use Rattle.layout.proofs.Slices.{number-between, constraint-between}
use Rattle.derivation.proofs.ResolvingLaws.{opposite-not-zero, resolvent-of}
use Rattle.derivation.proofs.resolving.combine_at.Goals as goal

-- the row that starts at `start`
abbrev row_in : List ℤ → ℕ → List ℤ
row_in xs start = between start (start + row_length) xs

-- a and b are the sizes of F's and J's coefficients
size_is : (n : ℕ) (xs : List ℤ) (start i r : ℕ) → i < n → n < row_length → mag (get_or (row_in xs start) (1 + i) (pos 0)) < 2 ^ 63 →
    r ≡ nat_abs (back (get_or (row_in xs start) (1 + i) (pos 0))) → r ≡ nat_abs (coefficient_at (constraint_at n xs start) i)
unfolding cell
size_is n xs start i r l m f e =
    e ∙ ap nat_abs
    (number_read (row_in xs start) (1 + i) f ∙ number-between xs start (start + row_length) (1 + i) (omega arith) ∙ ap (number_in xs) (omega arith) ∙
    sym (coefficient-at n xs start i l))

-- the divisor is not 0, and the multipliers are in range
module _ (i n : ℕ) (f : List ℤ) (at : ℕ) (rows : List ℤ) (start a b g : ℕ) (h : Resolvable i n f at rows start)
    (a-is : a ≡ nat_abs (coefficient_at (constraint_at n f at) i)) (b-is : b ≡ nat_abs (coefficient_at (constraint_at n rows start) i)) where
  divisor-positive : g ≡ gcd a b → 0 < g
  divisor-positive e = rw e (gcd-pos _ _ (rw a-is (opposite-not-zero _ _ h.signs)))

  in-range : (b / g ≤ max_coefficient) × (a / g ≤ max_coefficient)
  in-range =
      (rw b-is (multiplier-most (constraint_at n rows start) i g h.combinable.second_range), rw a-is (multiplier-most (constraint_at n f at) i g h.combinable.first_range))

  combined-is : (r : List ℤ) → g ≡ gcd a b → constraint_at n r 0 ≡ combination (b / g) (constraint_at n (row_in f at) 0) (a / g) (constraint_at n (row_in rows start) 0) →
      length r ≡ row_length → Combined i (constraint_at n f at) (constraint_at n rows start) n r
  combined-is r e k l =
      let v : n < row_length = omega (arith, h.combinable.variables) in
      let c = k ∙ ap₂ (λ (x y : Constraint). combination (b / g) x (a / g) y) (constraint-between n f at (at + row_length) (omega arith)) (constraint-between n rows start (start + row_length) (omega arith)) in
      record {
        outcome = rw c (resolvent-of _ (constraint_at n f at) (constraint_at n rows start) _ _ _ a-is b-is e);
        sized = rw c (combination-sized _ _ _ _ in-range.0 in-range.1 h.combinable.first_range h.combinable.second_range);
        size = l;
      }

slices-combinable : (n : ℕ) (f : List ℤ) (at : ℕ) (rows : List ℤ) (start : ℕ) → Combinable n f at rows start → Combinable n (row_in f at) 0 (row_in rows start) 0
slices-combinable n f at rows start h =
    let v : n < row_length = omega (arith, h.variables) in
    record {
      variables = h.variables;
      first-row = omega (arith, length-between f at (at + row_length) h.first-row);
      second-row = omega (arith, length-between rows start (start + row_length) h.second-row);
      first_range = rw (constraint-between n f at (at + row_length) (omega arith)) h.first_range;
      second_range = rw (constraint-between n rows start (start + row_length) (omega arith)) h.second_range;
    }

pub nonzero_div-b : goal.nonzero_div-b
nonzero_div-b c =
    let s = c.args in
    let h = c.requires.0 in
    let a = size_is s.n s.f.now s.at s.i _ h.variable (omega arith) (omega arith) c.magnitude-a.ensures in
    let b = size_is s.n s.rows.now s.start s.i _ h.variable (omega arith) (omega arith) c.magnitude-b.ensures in
    divisor-positive s.i s.n s.f.now s.at s.rows.now s.start _ _ _ h a b c.gcd-g.ensures

pub nonzero_div-a : goal.nonzero_div-a
nonzero_div-a c = nonzero_div-b c

pub combine-requires-clause-combinable : goal.combine-requires-clause-combinable
combine-requires-clause-combinable c = let s = c.args in slices-combinable s.n s.f.now s.at s.rows.now s.start c.requires.0.combinable

pub combine-requires-clause-multipliers : goal.combine-requires-clause-multipliers
combine-requires-clause-multipliers c =
    let s = c.args in
    let h = c.requires.0 in
    let a = size_is s.n s.f.now s.at s.i _ h.variable (omega arith) (omega arith) c.magnitude-a.ensures in
    let b = size_is s.n s.rows.now s.start s.i _ h.variable (omega arith) (omega arith) c.magnitude-b.ensures in
    in-range s.i s.n s.f.now s.at s.rows.now s.start _ _ c.gcd-g.result h a b

pub returns : goal.returns
returns c =
    let s = c.args in
    let h = c.requires.0 in
    let a = size_is s.n s.f.now s.at s.i _ h.variable (omega arith) (omega arith) c.magnitude-a.ensures in
    let b = size_is s.n s.rows.now s.start s.i _ h.variable (omega arith) (omega arith) c.magnitude-b.ensures in
    combined-is s.i s.n s.f.now s.at s.rows.now s.start _ _ c.gcd-g.result h a b _ c.gcd-g.ensures c.combine.ensures (omega arith)
