-- Move 1 over constraints of both sorts: the first falsified one, from the first falsified inequality and the first falsified divisor constraint.
use Prim.Native.Nat.{ℕ, zero, suc, ◌+◌, ◌-◌, ◌*◌, ◌≤◌, ◌<◌, ◌^◌}
use native.Mathlib.Nat.{eq-or-lt_of_le}
use native.Mathlib.Omega.{arith}
use mathlib.Core.Bool.{true, false}
use mathlib.Core.List.{List, [], ◌∷◌, ◌++◌}
use mathlib.Core.Logic.{◌⊎◌, inl, inr, ⊎_elim}
use mathlib.Core.Option.{none, some}
use mathlib.Core.Path.{◌≡◌, refl, sym, ap, ◌∙◌}
use borrow.Author.Tests.{lt-ltb, le-ltb}
use lib.IntN.{ℤ, pos, negsuc, nat_abs}
use lib.ListN.{get_or, length, length-append, get_or-append}
use lib.Seq.{get_or-append-add}
use lib.Signed.{◌≤ℤ◌}
use Rattle.model_problems.specs.Lists.{tab}
use Rattle.model_problems.specs.Ranges.{max_variables, max_constraints}
use Rattle.model_problems.specs.Constraint.{Constraint, Box, modulus, coefficient_at, set_lower, set_upper, activity, falsified_by, falsified}
use Rattle.model_files.specs.File.{no_constraint}
use Rattle.model_walk.specs.Move.{conflict, first_falsified, first_improvement}
use Rattle.integer.specs.Tests.{lt-lt_z, le-lt_z, lt_z-false}
use Rattle.lists.proofs.Bools.{lt-or-le, clash}
use Rattle.lists.proofs.Tab.{length-tab, get_d-tab, get_d-tab-from, get_d-const, tab-append}
use Rattle.linear.specs.Ranges.{BoxFits}
use Rattle.layout.specs.Rows.{row_length, number_in, cell, constraint_at, row_at, divided_at, input_at, box_of}
use Rattle.state.specs.View.{kept_cuts, divisor_for}
use Rattle.validity.proofs.Every.{Every}
use Rattle.validity.proofs.Constraints.{Inequality, lower-unseen, upper-unseen}
use Rattle.validity.proofs.Blank.{Blank, blank-clear, BlankOf, whole, blank, Blanked, blanked-same, blanked-append, improvement-blanked}
use Rattle.linear.specs.declared.activity.Bound.{Bound}
use Rattle.linear.specs.declared.activity.Bound.TheVariants.{Lower, Upper}
use Rattle.layout.proofs.Rows.{box-lower, box-upper}
use Rattle.state.specs.declared.Level.{Level}
use Rattle.propagate.specs.Bounds.{bounded}
use Rattle.propagate.specs.Moves.{hit_at}
use Rattle.propagate.specs.Ready.{kept_rows}
use Rattle.propagate.specs.Tracked.{Told}
use Rattle.bits.specs.Divided.{Due, Testable, FirstIndivisible}
use Rattle.propagate.specs.Apart.{kept_over, blank_row, Apart, Warned}

-- ---- the first falsified constraint of a list
first-hit : (ks : List Constraint) (box : Box) (p r : ℕ) → r < length ks → ((j : ℕ) → j < r → falsified (get_or ks j no_constraint) box ≡ false) →
    falsified (get_or ks r no_constraint) box ≡ true → some (conflict (p + r)) ≡ first_falsified p ks box
unfolding first_falsified
first-hit [] box p r h before here = absurd (omega arith)
first-hit (k ∷ ks) box p zero h before here = let e : p + 0 ≡ p = omega arith in rw (here, e)
first-hit (k ∷ ks) box p (suc r) h before here =
    let e : p + suc r ≡ suc p + r = omega arith in
    rw (before 0 (omega arith), e) (first-hit ks box (suc p) r (omega arith) (λ j l. before (suc j) (omega arith)) here)

first-none : (ks : List Constraint) (box : Box) (p : ℕ) → ((j : ℕ) → j < length ks → falsified (get_or ks j no_constraint) box ≡ false) → none ≡ first_falsified p ks box
unfolding first_falsified
first-none [] box p clear = refl
first-none (k ∷ ks) box p clear = rw (clear 0 (omega arith)) (first-none ks box (suc p) (λ j l. clear (suc j) (omega arith)))

pub warned-first : (ks : List Constraint) (n : ℕ) (rows lower upper activities reaches : List ℤ) (kept r : ℕ) → length ks ≡ kept → Warned ks n rows lower upper activities reaches kept r →
    hit_at conflict kept r ≡ first_falsified 0 ks (box_of n lower upper)
unfolding hit_at
warned-first ks n rows lower upper activities reaches kept r e w =
    let box = box_of n lower upper in
    let z : 0 + r ≡ r = omega arith in
    ⊎_elim
    (λ (h : r < kept). rw (lt-ltb r kept h, ← z) (first-hit ks box 0 r (omega arith) w.before (w.here h)))
    (λ (h : kept ≤ r). rw (le-ltb r kept h) (first-none ks box 0 (λ j l. w.before j (omega arith))))
    (lt-or-le r kept)

-- ---- zero or not
pub zero_or : (z : ℤ) → (z ≡ pos 0) ⊎ (z ≡ pos 0 → ⊥)
zero_or (pos zero) = inl refl
zero_or (pos (suc a)) = inr (λ e. let q : ◌≡◌ {A = ℕ} 0 (suc a) = cc in omega arith)
zero_or (negsuc a) = inr (λ e. let q : ◌≡◌ {A = ℕ} 0 1 = cc in omega arith)

abs-zero : (z : ℤ) → nat_abs z ≡ 0 → z ≡ pos 0
abs-zero (pos zero) e = refl
abs-zero (pos (suc a)) e = absurd (omega arith)
abs-zero (negsuc a) e = absurd (omega arith)

-- ---- the inputs with their divisors, and the rows with blanks
blank-row : (n : ℕ) → Blank (blank_row n)
unfolding coefficient_at
blank-row n = record { constant = refl; coefficients = λ i. get_d-const (pos 0) n i; divisor = refl }

-- an input with no divisor is its row
plain-input : (n : ℕ) (lines divisors : List ℤ) (j : ℕ) → number_in divisors j ≡ pos 0 → input_at n lines divisors j ≡ row_at n lines j
unfolding input_at divided_at row_at constraint_at
plain-input n lines divisors j e = rw e

pub divided-input : (n : ℕ) (lines divisors : List ℤ) (j : ℕ) → (number_in divisors j ≡ pos 0 → ⊥) → Inequality (input_at n lines divisors j) → ⊥
unfolding input_at divided_at modulus
divided-input n lines divisors j h i = h (abs-zero (number_in divisors j) i)

pub plain_row : (n : ℕ) (rows : List ℤ) (j : ℕ) → Inequality (row_at n rows j)
unfolding row_at constraint_at modulus
plain_row n rows j = refl

blanked-tab : (f g : ℕ → Constraint) (i c : ℕ) → ((j : ℕ) → i ≤ j → j < i + c → BlankOf (f j) (g j)) → Blanked (tab f i c) (tab g i c)
unfolding tab
blanked-tab f g i zero h = tt
blanked-tab f g i (suc c) h = (h i (omega arith) (omega arith), blanked-tab f g (suc i) c (λ j l m. h j (omega arith) (omega arith)))

plain_rows : (n : ℕ) (rows : List ℤ) (i c : ℕ) → Every Inequality (tab (row_at n rows) i c)
unfolding tab
plain_rows n rows i zero = tt
plain_rows n rows i (suc c) = (plain_row n rows i, plain_rows n rows (suc i) c)

module _ (n m : ℕ) (rows lines divisors : List ℤ) (a : Apart n m rows lines divisors) where
  blank_of : (j : ℕ) → j < m → BlankOf (input_at n lines divisors j) (row_at n rows j)
  blank_of j h =
      ⊎_elim
      (λ e. let p = plain-input n lines divisors j e in whole (rw p (plain_row n lines j)) (a.same j h e ∙ sym p))
      (λ d. blank (divided-input n lines divisors j d) (rw (a.blank j h d) (blank-row n)))
      (zero_or (number_in divisors j))

  pub inputs-blanked : Blanked (tab (input_at n lines divisors) 0 m) (tab (row_at n rows) 0 m)
  inputs-blanked = blanked-tab (input_at n lines divisors) (row_at n rows) 0 m (λ j l h. blank_of j (omega arith))

  -- the same bounds are implied
  pub improvement-over : (made : ℕ) (box : Box) → first_improvement 0 (kept_over n m made rows lines divisors) box ≡ first_improvement 0 (kept_rows n m made rows) box
  improvement-over made box =
      let z : 0 + m ≡ m = omega arith in
      improvement-blanked 0 (kept_over n m made rows lines divisors) (tab (row_at n rows) 0 m ++ tab (row_at n rows) m (kept_cuts made)) box
      (blanked-append (tab (input_at n lines divisors) 0 m) (tab (row_at n rows) 0 m) (tab (row_at n rows) m (kept_cuts made)) (tab (row_at n rows) m (kept_cuts made)) inputs-blanked
      (blanked-same (tab (row_at n rows) m (kept_cuts made)) (plain_rows n rows m (kept_cuts made)))) ∙
      ap (λ (ks : List Constraint). first_improvement 0 ks box) (sym (tab-append (row_at n rows) 0 m (kept_cuts made) ∙ rw z))

-- ---- the kept constraints by position
module _ (n m made : ℕ) (rows lines divisors : List ℤ) where
  pub length_over : length (kept_over n m made rows lines divisors) ≡ m + kept_cuts made
  length_over = simp (length-append, length-tab)

  pub over-input : (j : ℕ) → j < m → get_or (kept_over n m made rows lines divisors) j no_constraint ≡ input_at n lines divisors j
  over-input j h =
      get_or-append (tab (input_at n lines divisors) 0 m) (tab (row_at n rows) m (kept_cuts made)) no_constraint j (omega (arith, length-tab (input_at n lines divisors) 0 m)) ∙
      get_d-tab (input_at n lines divisors) m j no_constraint h

  pub over-cut : (j : ℕ) → m ≤ j → j < m + kept_cuts made → get_or (kept_over n m made rows lines divisors) j no_constraint ≡ row_at n rows j
  over-cut j h l =
      let e : j ≡ length (tab (input_at n lines divisors) 0 m) + (j - m) = omega (arith, length-tab (input_at n lines divisors) 0 m) in
      let d : m + (j - m) ≡ j = omega arith in
      ap (λ (k : ℕ). get_or (kept_over n m made rows lines divisors) k no_constraint) e ∙
      get_or-append-add (tab (input_at n lines divisors) 0 m) (tab (row_at n rows) m (kept_cuts made)) (j - m) no_constraint ∙
      get_d-tab-from (row_at n rows) m (kept_cuts made) (j - m) no_constraint (omega arith) ∙ ap (row_at n rows) d

-- one that carries no divisor is its row
pub kept-plain : (n m made : ℕ) (rows lines divisors : List ℤ) → Apart n m rows lines divisors → (j : ℕ) → j < m + kept_cuts made → divisor_for m divisors j ≡ pos 0 →
    get_or (kept_over n m made rows lines divisors) j no_constraint ≡ row_at n rows j
unfolding divisor_for
kept-plain n m made rows lines divisors a j l e =
    ⊎_elim
    (λ (h : j < m). let q = rw (lt-ltb j m h) at e in over-input n m made rows lines divisors j h ∙ plain-input n lines divisors j q ∙ sym (a.same j h q))
    (λ (h : m ≤ j). over-cut n m made rows lines divisors j h l)
    (lt-or-le j m)

-- ---- what the test of a mask asks
pub testable : (n m : ℕ) (rows lines divisors lower upper : List ℤ) (mask : ℕ) → Apart n m rows lines divisors → n ≤ max_variables → m ≤ max_constraints → BoxFits n lower upper → mask < 2 ^ m →
    Testable n m lines divisors lower upper mask
testable n m rows lines divisors lower upper mask a few most box h =
    record { few = few; most = most; lines_long = a.lines_long; divisors_long = a.divisors_long; range = a.range; fits = a.fits; box = box; inside = h }

-- ---- the first falsified constraint of either sort
module _ (n m made : ℕ) (rows lines divisors lower upper activities reaches : List ℤ) (a : Apart n m rows lines divisors) (mask limit r : ℕ) (Spared : ℕ → Type 0)
    (t : Told n rows lower upper activities reaches (m + kept_cuts made) limit) (f : FirstIndivisible n m lines divisors lower upper mask limit r) (d : Due m divisors Spared mask)
    (spared : (j : ℕ) → j < m → Spared j → falsified (input_at n lines divisors j) (box_of n lower upper) ≡ false) where
  row-clear : (j : ℕ) → j < limit → falsified (row_at n rows j) (box_of n lower upper) ≡ false
  unfolding falsified falsified_by modulus row_at constraint_at
  row-clear j h = le-lt_z (t.before j h)

  row_here : limit < m + kept_cuts made → falsified (row_at n rows limit) (box_of n lower upper) ≡ true
  unfolding falsified falsified_by modulus row_at constraint_at
  row_here h = lt-lt_z (t.here h)

  input-clear : (j : ℕ) → j < m → j < r → falsified (input_at n lines divisors j) (box_of n lower upper) ≡ false
  input-clear j h l =
      ⊎_elim
      (λ (e : number_in divisors j ≡ pos 0). rw (plain-input n lines divisors j e, ← a.same j h e) (row-clear j (omega (arith, f.most))))
      (λ (e : number_in divisors j ≡ pos 0 → ⊥).
      ⊎_elim (λ z. ⊎_elim (λ (q : number_in divisors j ≡ pos 0). absurd (e q)) (λ (q : Spared j). spared j h q) (d.rest j h z)) (λ q. q) (f.before j l))
      (zero_or (number_in divisors j))

  input-here : limit < m → falsified (input_at n lines divisors limit) (box_of n lower upper) ≡ true
  input-here h =
      let here = row_here (omega arith) in
      ⊎_elim
      (λ (e : number_in divisors limit ≡ pos 0). rw (plain-input n lines divisors limit e, ← a.same limit h e) here)
      (λ (e : number_in divisors limit ≡ pos 0 → ⊥). clash (rw (a.blank limit h e) at here) (blank-clear (blank_row n) (box_of n lower upper) (blank-row n)))
      (zero_or (number_in divisors limit))

  clear_at : (j : ℕ) → j < r → falsified (get_or (kept_over n m made rows lines divisors) j no_constraint) (box_of n lower upper) ≡ false
  clear_at j l =
      ⊎_elim
      (λ (h : j < m). rw (over-input n m made rows lines divisors j h) (input-clear j h l))
      (λ (h : m ≤ j). rw (over-cut n m made rows lines divisors j h (omega (arith, f.most, t.most))) (row-clear j (omega (arith, f.most))))
      (lt-or-le j m)

  limit-here : limit < m + kept_cuts made → falsified (get_or (kept_over n m made rows lines divisors) limit no_constraint) (box_of n lower upper) ≡ true
  limit-here l =
      ⊎_elim
      (λ (h : limit < m). rw (over-input n m made rows lines divisors limit h) (input-here h))
      (λ (h : m ≤ limit). rw (over-cut n m made rows lines divisors limit h l) (row_here l))
      (lt-or-le limit m)

  pub warned : Warned (kept_over n m made rows lines divisors) n rows lower upper activities reaches (m + kept_cuts made) r
  warned =
      record {
        lengths = t.lengths;
        most = omega (arith, f.most, t.most);
        before = clear_at;
        here = λ h.
            ⊎_elim
            (λ (e : r ≡ limit). rw e (limit-here (rw e at h)))
            (λ (l : r < limit). rw (over-input n m made rows lines divisors r (f.here l).0) (f.here l).1)
            (eq-or-lt_of_le f.most);
        tracked = λ e. t.tracked (omega (arith, f.most, t.most));
      }

-- ---- where nothing is falsified, no row's activity is above 0
module _ (n m made : ℕ) (rows lines divisors lower upper activities reaches : List ℤ) (a : Apart n m rows lines divisors)
    (w : Warned (kept_over n m made rows lines divisors) n rows lower upper activities reaches (m + kept_cuts made) (m + kept_cuts made)) where
  row_of : (k r : Constraint) → BlankOf k r → falsified k (box_of n lower upper) ≡ false → falsified r (box_of n lower upper) ≡ false
  row_of k r (whole i e) h = rw e h
  row_of k r (blank i b) h = blank-clear r (box_of n lower upper) b

  row-holds : (j : ℕ) → j < m + kept_cuts made → falsified (row_at n rows j) (box_of n lower upper) ≡ false
  row-holds j l =
      ⊎_elim
      (λ (h : j < m). row_of _ _ (blank_of n m rows lines divisors a j h) (rw (over-input n m made rows lines divisors j h) at (w.before j l)))
      (λ (h : m ≤ j). rw (over-cut n m made rows lines divisors j h l) at (w.before j l))
      (lt-or-le j m)

  pub row_low : (j : ℕ) → j < m + kept_cuts made → activity (row_at n rows j) (box_of n lower upper) ≤ℤ pos 0
  unfolding row_at constraint_at
  row_low j l = lt_z-false (unfold falsified falsified_by modulus row_at constraint_at in row-holds j l)

-- ---- where nothing is falsified, a bound set at variable i leaves the divisor constraints that do not mention it as they are
input-coefficient : (n : ℕ) (lines divisors : List ℤ) (j i : ℕ) → i < n → coefficient_at (input_at n lines divisors j) i ≡ cell lines (row_length * j) i
unfolding coefficient_at input_at divided_at
input-coefficient n lines divisors j i h = get_d-tab (cell lines (row_length * j)) n i (pos 0) h

pub all-clear : (n m made : ℕ) (rows lines divisors lower upper activities reaches : List ℤ) →
    Warned (kept_over n m made rows lines divisors) n rows lower upper activities reaches (m + kept_cuts made) (m + kept_cuts made) →
    (j : ℕ) → j < m → falsified (input_at n lines divisors j) (box_of n lower upper) ≡ false
all-clear n m made rows lines divisors lower upper activities reaches w j l = rw (over-input n m made rows lines divisors j l) at (w.before j (omega arith))

module _ (n m : ℕ) (lines divisors lower upper : List ℤ) (clear : (j : ℕ) → j < m → falsified (input_at n lines divisors j) (box_of n lower upper) ≡ false) (i : ℕ) (v : ℤ) (h : i < n) where
  pub raise-spared : (j : ℕ) → j < m → cell lines (row_length * j) i ≡ pos 0 → falsified (input_at n lines divisors j) (set_lower i v (box_of n lower upper)) ≡ false
  raise-spared j l e = lower-unseen (input_at n lines divisors j) i v (box_of n lower upper) (input-coefficient n lines divisors j i h ∙ e) ∙ clear j l

  pub lower-spared : (j : ℕ) → j < m → cell lines (row_length * j) i ≡ pos 0 → falsified (input_at n lines divisors j) (set_upper i v (box_of n lower upper)) ≡ false
  lower-spared j l e = upper-unseen (input_at n lines divisors j) i v (box_of n lower upper) (input-coefficient n lines divisors j i h ∙ e) ∙ clear j l

-- on either side
pub bounded-spared : (n m : ℕ) (lines divisors : List ℤ) (l : Level) (i k : ℕ) (b : Bound) → i < n → n ≤ length l.lower → n ≤ length l.upper →
    ((j : ℕ) → j < m → falsified (input_at n lines divisors j) (box_of n l.lower l.upper) ≡ false) →
    (j : ℕ) → j < m → cell lines (row_length * j) i ≡ pos 0 → falsified (input_at n lines divisors j) (box_of n (bounded l i b k).lower (bounded l i b k).upper) ≡ false
bounded-spared n m lines divisors l i k (Lower v) h p q clear j d e =
    rw (box-lower n l.lower l.upper i v h (omega arith)) (raise-spared n m lines divisors l.lower l.upper clear i v h j d e)
bounded-spared n m lines divisors l i k (Upper v) h p q clear j d e =
    rw (box-upper n l.lower l.upper i v h (omega arith)) (lower-spared n m lines divisors l.lower l.upper clear i v h j d e)
