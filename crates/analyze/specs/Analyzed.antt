-- What the analysis of a conflict says of the state's arrays.
use Rattle.std.specs.Prelude.{ℕ, ◌≤◌, ◌<◌, true, List, ◌≡◌, ℤ, pos, get_or, length}
use Rattle.model_problems.specs.Lists.{tab}
use Rattle.model_problems.specs.Ranges.{max_variables}
use Rattle.model_problems.specs.Constraint.{in_range}
use Rattle.model_walk.specs.Search.{Level}
use Rattle.model_walk.specs.Conflict as model
use Rattle.layout.specs.Rows.{row_length, number_in, constraint_at, row_at}
use Rattle.analyze.specs.Analyzable.{core_at}
use Rattle.analyze.specs.declared.analysis.Analysis.{Analysis}

unfoldable pub analysis_of : ℕ → Analysis → model.Analysis
analysis_of n r = record { cut = constraint_at n r.cut 0; used = tab (λ i. get_or r.used i 0) 0 n }

-- the cut and the constraints taken in from row j on, whatever the stored numbers, the decision and the other levels are; 0 past n
pub record Analyzed (n m made : ℕ) (rows lower upper : List ℤ) (below above : List ℕ) (j : ℕ) (r : Analysis) : Type 0 where
  pub analysis : (numbers : List ℕ) (decided : ℕ) (outer : List Level) →
      model.analyze (core_at n m made rows lower upper below above numbers decided outer) (row_at n rows j) ≡ analysis_of n r
  pub range : in_range (constraint_at n r.cut 0) ≡ true
  pub cut-size : length r.cut ≡ row_length
  pub cut-rest : (i : ℕ) → n < i → number_in r.cut i ≡ pos 0
  pub used-size : length r.used ≡ max_variables
  pub used-rest : (i : ℕ) → n ≤ i → get_or r.used i 0 ≡ 0
