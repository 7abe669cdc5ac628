-- What the arrays of a problem say, and the arrays of a problem: the code's `Problem` beside the model's.
use Rattle.std.specs.Prelude.{ℕ, ◌/◌, ◌%◌, List, ℤ, get_or, length, Result}
use Rattle.model_problems.specs.Constraint.{Constraint, lower_at, upper_at}
use Rattle.model_problems.specs.Threshold.{threshold_at}
use Rattle.model_files.specs.File.{no_constraint}
use Rattle.model_problems.specs.Lists.{tab}
use Rattle.model_problems.specs.Problem as model
use Rattle.model_problems.specs.Problem.{variables}
use Rattle.layout.specs.Rows.{row_length, input_at, box_of, thresholds_of}
use Rattle.fields.specs.Fields.{room, cells, divisor_room, in_row}
use Rattle.problem.specs.declared.Problem.{Problem}
use Rattle.problem.specs.declared.Refusal.{Refusal}
use Rattle.problem.specs.Answer.{seen_by, shown_by}

-- What a problem's arrays say. Its n and m stay visible as lengths, whatever they are.
unfoldable pub problem_of : Problem → model.Problem
problem_of p =
    record {
      domain = box_of p.n p.lower p.upper;
      thresholds = thresholds_of p.n p.thresholds;
      constraints = tab (input_at p.n p.constraints p.divisors) 0 p.m;
      budget = p.budget;
    }

-- ---- and the arrays of a problem: zeros past its last variable and its last constraint
unfoldable pub in_rows : List Constraint → ℕ → ℤ
in_rows ks c = in_row (get_or ks (c / row_length) no_constraint) (c % row_length)

unfoldable pub divisor_at : List Constraint → ℕ → ℤ
divisor_at ks j = (get_or ks j no_constraint).divisor

unfoldable pub packed : model.Problem → Problem
packed p =
    record {
      n = variables p;
      m = length p.constraints;
      budget = p.budget;
      lower = tab (lower_at p.domain) 0 room;
      upper = tab (upper_at p.domain) 0 room;
      constraints = tab (in_rows p.constraints) 0 cells;
      divisors = tab (divisor_at p.constraints) 0 divisor_room;
      thresholds = tab (threshold_at p.thresholds) 0 room;
    }

-- ---- what reading shows: the problem's arrays, or the number of the refusal
unfoldable pub seen_read : Result Problem Refusal → model.Result Problem
seen_read r = seen_by (λ p. p) r

unfoldable pub reading_of : model.Result model.Problem → model.Result Problem
reading_of r = shown_by packed r
