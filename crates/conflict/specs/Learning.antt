-- What learning from a conflict asks and gives.
use Rattle.std.specs.Prelude.{ℕ, suc, ◌+◌, ◌≤◌, ◌<◌, true, List, ◌≡◌, T, ℤ, pos, get_or, length}
use Rattle.model_problems.specs.Lists.{tab, all_of}
use Rattle.model_problems.specs.Ranges.{max_variables, max_constraints, max_cuts, max_budget}
use Rattle.model_problems.specs.Constraint.{Constraint, in_range}
use Rattle.model_files.specs.File.{no_constraint}
use Rattle.model_problems.specs.Problem.{bounds_in_range}
use Rattle.model_walk.specs.Search as model
use Rattle.model_walk.specs.Conflict.{analyze, numbered}
use Rattle.layout.specs.Rows.{row_length, number_in, constraint_at, row_at, box_of}
use Rattle.state.specs.View.{level_of, kept_cuts, core_with}
use Rattle.state.specs.Change.{Whole}
use Rattle.state.specs.declared.Level.{Level}
use Rattle.state.specs.Moved.{RowsMoved}
use Rattle.conflict.specs.declared.learn.Learned.{Learned}

-- learning from the constraint in position j of a core: the cut, what it used, its number, and the core that keeps it
pub record Learns (c : model.Core) (j : ℕ) (cut : Constraint) (used : List ℕ) (number : ℕ) (kept : model.Core) : Type 0 where
  pub analysis : analyze c (get_or (model.kept c) j no_constraint) ≡ record { cut = cut; used = used }
  pub numbering : numbered c cut ≡ record { number = number; core = kept }

pub record Learnable (n m made : ℕ) (rows : List ℤ) (numbers : List ℕ) (level : Level) (j : ℕ) : Type 0 where
  pub variables : n ≤ max_variables
  pub inputs : m ≤ max_constraints
  pub cuts : made ≤ max_budget
  pub rows_long : length rows ≡ 4224
  pub numbers_long : length numbers ≡ max_cuts
  pub whole : Whole level
  pub constraints : T (all_of in_range (tab (row_at n rows) 0 (m + kept_cuts made)))
  pub bounds : T (all_of bounds_in_range (box_of n level.lower level.upper))
  pub position : j < m + kept_cuts made

pub record LearnedFrom (n m made : ℕ) (rows : List ℤ) (numbers : List ℕ) (level : Level) (j : ℕ) (r : Learned) (made₁ : ℕ) (rows₁ : List ℤ) (numbers₁ : List ℕ) : Type 0 where
  pub learns : (outer : List model.Level) →
      Learns (core_with n m made rows numbers (level_of n level) outer) j (constraint_at n r.cut 0) (tab (λ i. get_or r.used i 0) 0 n) r.number
      (core_with n m made₁ rows₁ numbers₁ (level_of n level) outer)
  pub range : in_range (constraint_at n r.cut 0) ≡ true
  pub cut_size : length r.cut ≡ row_length
  pub cut_rest : (i : ℕ) → n < i → number_in r.cut i ≡ pos 0
  pub used_rest : (i : ℕ) → n ≤ i → get_or r.used i 0 ≡ 0
  pub rows_long : length rows₁ ≡ 4224
  pub numbers_long : length numbers₁ ≡ max_cuts
  pub count : made₁ ≤ suc made
  pub moved : RowsMoved n m made made₁ rows rows₁

-- zeros in place of a cut
pub record NothingLearned (r : Learned) : Type 0 where
  pub cut_zero : (i : ℕ) → number_in r.cut i ≡ pos 0
  pub used_zero : (i : ℕ) → get_or r.used i 0 ≡ 0
  pub number_zero : r.number ≡ 0
