-- What `learn` gives, from what its parts give.
use Prim.Native.Nat.{ℕ, ◌+◌, ◌≤◌, ◌<◌}
use native.Mathlib.Omega.{arith}
use mathlib.Core.Bool.{Bool, true}
use mathlib.Core.List.{List, []}
use mathlib.Core.Logic.{⊎_elim}
use mathlib.Core.Path.{◌≡◌, sym, ap, subst, ◌∙◌}
use lib.Dec.{T, lit≤}
use lib.IntN.{ℤ, pos}
use lib.ListN.{get_or}
use Rattle.model_problems.specs.Lists.{tab}
use Rattle.model_problems.specs.Ranges.{max_variables, max_coefficient}
use Rattle.model_problems.specs.Constraint.{Constraint, falsified}
use Rattle.model_files.specs.File.{no_constraint}
use Rattle.model_walk.specs.Search as model
use Rattle.model_walk.specs.Conflict.{analyze, first_equal}
use Rattle.model_walk.specs.Conflict as model-conflict
use Rattle.integer.specs.Size.{Within}
use Rattle.lists.proofs.Bools.{true_of, lt-or-le}
use Rattle.lists.proofs.Tab.{get_d-tab}
use Rattle.layout.specs.Rows.{cell, constraint_at, row_at, box_of}
use Rattle.linear.specs.Ranges.{RowFits}
use Rattle.linear.proofs.Ranges.{row_fits}
use Rattle.record.specs.Written.{CutFits}
use Rattle.validity.proofs.Conflicts.{analyze-false}
use Rattle.state.specs.View.{no_level, level_of, kept_cuts, number_for, divisor_for, core_over, core_with}
use Rattle.state.specs.declared.Level.{Level}
use Rattle.state.proofs.Cores.{kept-rows, number-at}
use Rattle.analyze.specs.Analyzed.{Analyzed, analysis_of}
use Rattle.cuts.specs.Storing.{RowKept, NumberKept, found_at}
use Rattle.std.specs.Prelude.{Option, None, Some}
use Rattle.analyze.specs.declared.analysis.Analysis.{Analysis}
use Rattle.cuts.proofs.Numbering.{numbered-equal, numbered-kept}
use Rattle.levels.specs.Level.{box_at}
use Rattle.state.proofs.Moved.{rows_stay}
use Rattle.propagate.proofs.Warning.{kept-plain}
use Rattle.conflict.specs.Counting.{Countable}
use Rattle.conflict.proofs.Keeping.{rows-kept}
use Rattle.conflict.specs.Learning.{Learnable, LearnedFrom}
use Rattle.conflict.specs.declared.learn.Learned.{Learned}

-- the constraint in position j is that of row j
pub kept_row : (n m made : ℕ) (rows : List ℤ) (numbers : List ℕ) (level : Level) (outer : List model.Level) (j : ℕ) → j < m + kept_cuts made → get_or (model.kept (core_with n m made rows numbers (level_of n level) outer)) j no_constraint ≡ row_at n rows j
kept_row n m made rows numbers level outer j h = rw (kept-rows n m made rows numbers (level_of n level) outer) (get_d-tab (row_at n rows) (m + kept_cuts made) j no_constraint h)

module _ (n m made : ℕ) (rows : List ℤ) (numbers : List ℕ) (level : Level) (j : ℕ) (l : Learnable n m made rows numbers level j)
    (a : Analysis) (z : Analyzed n m made rows level.lower level.upper level.below level.above j a) where
  analyzed : (outer : List model.Level) →
      analyze (core_with n m made rows numbers (level_of n level) outer) (get_or (model.kept (core_with n m made rows numbers (level_of n level) outer)) j no_constraint) ≡
      record { cut = constraint_at n a.cut 0; used = tab (λ i. get_or a.used i 0) 0 n }
  unfolding level_of analysis_of
  analyzed outer =
      ap (analyze (core_with n m made rows numbers (level_of n level) outer)) (kept_row n m made rows numbers level outer j l.position) ∙ z.analysis numbers level.decided outer

  pub learned-equal : (found : Option ℕ) (p number : ℕ) → first_equal 0 (tab (row_at n rows) 0 (m + kept_cuts made)) (constraint_at n a.cut 0) ≡ found_at found → found ≡ Some p →
      number ≡ number_for m made p →
      LearnedFrom n m made rows numbers level j (record { cut = a.cut; used = a.used; number = number }) made rows numbers
  learned-equal found p number e h f =
      record {
        learns = λ outer.
            record {
              analysis = analyzed outer;
              numbering = numbered-equal n m made rows numbers (level_of n level) outer (constraint_at n a.cut 0) found e p h ∙
                  ap (λ (k : ℕ). record { number = k; core = core_with n m made rows numbers (level_of n level) outer }) (ap (λ (g : ℕ → ℕ). g p) (number-at n m made rows numbers (level_of n level) outer) ∙ sym f);
            };
        range = z.range;
        cut_size = z.cut-size;
        cut_rest = z.cut-rest;
        used_rest = z.used-rest;
        rows_long = l.rows_long;
        numbers_long = l.numbers_long;
        count = omega arith;
        moved = rows_stay n m made rows;
      }

  pub learned-kept : (found : Option ℕ) (rows₁ : List ℤ) (numbers₁ : List ℕ) →
      first_equal 0 (tab (row_at n rows) 0 (m + kept_cuts made)) (constraint_at n a.cut 0) ≡ found_at found → found ≡ None →
      RowKept m made rows a.cut rows₁ → NumberKept made (m + made + 1) numbers numbers₁ →
      LearnedFrom n m made rows numbers level j (record { cut = a.cut; used = a.used; number = m + made + 1 }) (made + 1) rows₁ numbers₁
  learned-kept found rows₁ numbers₁ e h r k =
      record {
        learns = λ outer.
            record {
              analysis = analyzed outer;
              numbering = numbered-kept n m made rows a.cut rows₁ numbers numbers₁ (level_of n level) outer found e h l.variables r k;
            };
        range = z.range;
        cut_size = z.cut-size;
        cut_rest = z.cut-rest;
        used_rest = z.used-rest;
        rows_long = r.size ∙ l.rows_long;
        numbers_long = k.size ∙ l.numbers_long;
        count = omega arith;
        moved = rows-kept n m made rows a.cut rows₁ l.variables r;
      }

-- ---- the cut that was learned: its numbers are in range, those past its last variable too
pub within-zero : (z : ℤ) → z ≡ pos 0 → Within max_coefficient z
within-zero z q = rw q (record { within = lit≤ tt })

module _ {n m made : ℕ} {rows : List ℤ} {numbers : List ℕ} {level : Level} {j : ℕ} {x : Learned} {made₁ : ℕ} {rows₁ : List ℤ} {numbers₁ : List ℕ}
    (few : n ≤ max_variables) (l : LearnedFrom n m made rows numbers level j x made₁ rows₁ numbers₁) where
  pub cut-row : RowFits n x.cut 0
  cut-row = row_fits n x.cut 0 few (omega (arith, l.cut_size)) l.range

  -- it is falsified where the constraint was
  pub cut-false : j < m + kept_cuts made → T (falsified (row_at n rows j) (box_of n level.lower level.upper)) → T (falsified (constraint_at n x.cut 0) (box_of n level.lower level.upper))
  unfolding core_over level_of
  cut-false h f =
      let c = core_with n m made rows numbers (level_of n level) [] in
      let k : T (falsified (get_or (model.kept c) j no_constraint) c.deepest.box) = subst (λ (k : Constraint). T (falsified k c.deepest.box)) (sym (kept_row n m made rows numbers level [] j h)) f in
      subst (λ (a : model-conflict.Analysis). T (falsified a.cut c.deepest.box)) (l.learns []).analysis (analyze-false c _ k)

  pub cut_fits : CutFits x.cut
  unfolding cell
  cut_fits =
      record {
        constant = cut-row.constant;
        coefficients = λ i h. ⊎_elim (λ b. cut-row.coefficients i b) (λ b. within-zero _ (l.cut_rest (0 + 1 + i) (omega arith))) (lt-or-le i n);
      }

-- the cut of a conflict that is counted, at the deepest level
pub deepest-false : {n m made j depth count done : ℕ} {keep : Bool} {rows : List ℤ} {numbers : List ℕ} {levels : List Level} {lines divisors : List ℤ} {masks buffer : List ℕ} →
    Countable n m made j depth count done keep rows numbers levels lines divisors masks buffer → divisor_for m divisors j ≡ pos 0 →
    {x : Learned} {made₁ : ℕ} {rows₁ : List ℤ} {numbers₁ : List ℕ} → LearnedFrom n m made rows numbers (get_or levels depth no_level) j x made₁ rows₁ numbers₁ →
    falsified (constraint_at n x.cut 0) (box_at n levels depth) ≡ true
unfolding box_at
deepest-false {n = n} {m = m} {made = made} {j = j} {depth = depth} {rows = rows} {levels = levels} {lines = lines} {divisors = divisors} p e l =
    let own = kept-plain n m made rows lines divisors p.apart j p.learnable.position e in
    let f : falsified (row_at n rows j) (box_at n levels depth) ≡ true = ap (λ (k : Constraint). falsified k (box_at n levels depth)) (sym own) ∙ p.false in
    true_of _ (cut-false p.learnable.variables l p.learnable.position (subst T (sym f) tt))
