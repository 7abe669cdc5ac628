-- A conflict in an input with a divisor: nothing is learned, and the record has zeros for the cut.
use Prim.Native.Nat.{ℕ, ◌+◌, ◌*◌, ◌≤◌, ◌<◌}
use native.Mathlib.Omega.{arith}
use borrow.Author.Tests.{lt-ltb, le-ltb}
use mathlib.Core.Bool.{Bool, true}
use mathlib.Core.List.{List}
use mathlib.Core.Logic.{⊎_elim}
use mathlib.Core.Path.{◌≡◌, refl, sym, ap, ◌∙◌}
use lib.IntN.{ℤ, pos}
use mir.Facts.{to_z-of_z}
use mir.Syntax.{w64}
use mir.Val.{SFits, to_z, of_z}
use Rattle.integer.specs.Tests.{same, fits_lit}
use lib.ListN.{replicate}
use Rattle.model_problems.specs.Ranges.{max_variables}
use Rattle.model_problems.specs.Constraint.{Constraint, falsified, in_range}
use Rattle.lists.proofs.Bools.{lt-or-le}
use Rattle.lists.proofs.Tab.{get_d-const}
use Rattle.layout.specs.Rows.{number_in, cell, constraint_at, divided_at, input_at}
use Rattle.layout.specs.Copies.{Copied}
use Rattle.linear.specs.Ranges.{RowFits, DivisorFits}
use Rattle.linear.proofs.Ranges.{row_fits}
use Rattle.record.specs.Written.{CutFits}
use Rattle.propagate.proofs.Warning.{over-input}
use Rattle.state.specs.View.{divisor_for}
use Rattle.state.specs.declared.Level.{Level}
use Rattle.conflict.specs.Counting.{Countable, DismissedAt}
use Rattle.conflict.specs.Learning.{NothingLearned}
use Rattle.conflict.specs.declared.learn.Learned.{Learned}
use Rattle.levels.specs.Level.{box_at, LevelsNested, LeastFalsifying}
use Rattle.layout.specs.Rows.{row_length, row_at}
use Rattle.conflict.proofs.Learning.{within-zero}

-- ---- the zeros
pub zero-at : (count i : ℕ) → number_in (replicate count (pos 0)) i ≡ pos 0
unfolding number_in
zero-at count i = get_d-const (pos 0) count i

pub zeros-fit : (cut : List ℤ) → ((i : ℕ) → number_in cut i ≡ pos 0) → CutFits cut
unfolding cell
zeros-fit cut z = record { constant = within-zero _ (z 0); coefficients = λ i h. within-zero _ (z (0 + 1 + i)) }

-- ---- the line copied
module _ (n : ℕ) (lines : List ℤ) (start : ℕ) (row : List ℤ) (c : Copied n lines start row) where
  pub divided-same : (q : ℤ) → divided_at n row 0 q ≡ divided_at n lines start q
  unfolding constraint_at divided_at
  divided-same q = ap (λ (k : Constraint). record { constant = k.constant; coefficients = k.coefficients; divisor = q }) c.same

  -- and where the divisor comes back from its bits
  pub line-same : (q : ℤ) → SFits w64 q → divided_at n row 0 (to_z w64 (of_z w64 q)) ≡ divided_at n lines start q
  line-same q f = ap (divided_at n row 0) (to_z-of_z f) ∙ divided-same q

  pub copy-fits : n ≤ max_variables → in_range (constraint_at n lines start) ≡ true → RowFits n row 0
  copy-fits few e = row_fits n row 0 few (omega (arith, c.size)) (ap in_range c.same ∙ e)

-- a row with divisor 0 is the row by itself
pub undivided : (n : ℕ) (rows : List ℤ) (start : ℕ) → divided_at n rows start (pos 0) ≡ constraint_at n rows start
unfolding constraint_at divided_at
undivided n rows start = refl

-- ---- the divisor, as it is read and tested
module _ {q : ℤ} (f : SFits w64 q) where
  pub divisor-back : to_z w64 (of_z w64 q) ≡ q
  divisor-back = to_z-of_z f

  pub no-divisor : of_z w64 q ≡ 0 → q ≡ pos 0
  no-divisor = same f (fits_lit (pos 0) tt)

  pub some-divisor : (of_z w64 q ≡ 0 → ⊥) → q ≡ pos 0 → ⊥
  some-divisor h e = h (ap (of_z w64) e)

-- ---- the constraint whose level is sought: a row with its divisor, which the deepest level falsifies
pub record Sought (n depth : ℕ) (row : List ℤ) (q : ℤ) (levels : List Level) : Type 0 where
  pub fits : DivisorFits q
  pub row_fits : RowFits n row 0
  pub nested : LevelsNested n depth levels
  pub false : falsified (divided_at n row 0 q) (box_at n levels depth) ≡ true

-- ---- at an input with a divisor
module _ {n m made j depth count done : ℕ} {keep : Bool} {rows : List ℤ} {numbers : List ℕ} {levels : List Level} {lines divisors : List ℤ} {masks buffer : List ℕ}
    (p : Countable n m made j depth count done keep rows numbers levels lines divisors masks buffer) {q : ℤ} (e : q ≡ divisor_for m divisors j) (d : q ≡ pos 0 → ⊥) where
  -- a divisor that is not 0 is an input's
  divided-input : (j < m) × (q ≡ number_in divisors j)
  unfolding divisor_for
  divided-input = ⊎_elim (λ (l : j < m). (l, e ∙ rw (lt-ltb j m l))) (λ (l : m ≤ j). absurd (d (e ∙ rw (le-ltb j m l)))) (lt-or-le j m)

  pub input-place : j < m
  input-place = divided-input.0

  module _ {row : List ℤ} (c : Copied n lines (row_length * j) row) (f : SFits w64 q) where
    input-is : divided_at n row 0 (to_z w64 (of_z w64 q)) ≡ input_at n lines divisors j
    unfolding input_at
    input-is = line-same n _ _ _ c q f ∙ ap (divided_at n lines (row_length * j)) divided-input.1

    pub input-sought : Sought n depth row (to_z w64 (of_z w64 q)) levels
    unfolding row_at
    input-sought =
        let i = divided-input in
        record {
          fits = rw (to_z-of_z f, i.1) (p.apart.fits j i.0);
          row_fits = copy-fits n _ _ _ c p.learnable.variables (p.apart.range j i.0);
          nested = p.nested;
          false = rw input-is (ap (λ (k : Constraint). falsified k (box_at n levels depth)) (sym (over-input n m made rows lines divisors j i.0)) ∙ p.false);
        }

    pub dismissed-at : {r : Learned} {back : ℕ} → NothingLearned r → LeastFalsifying (divided_at n row 0 (to_z w64 (of_z w64 q))) n depth levels back →
        DismissedAt n m made j depth rows numbers levels lines divisors r.cut r.used r.number back made rows numbers
    dismissed-at z l =
        let i = divided-input in
        record {
          position = i.0;
          divided = λ h. d (i.1 ∙ h);
          cut_zero = z.cut_zero;
          used_zero = z.used_zero;
          nothing = z.number_zero;
          same_made = refl;
          same_rows = refl;
          same_numbers = refl;
          jump = rw input-is at l;
        }
