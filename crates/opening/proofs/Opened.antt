-- The opened state is the model's.
use Prim.Native.Nat.{ℕ}
use mathlib.Core.List.{List, [], map}
use mathlib.Core.Path.{◌≡◌, sym, ap, ◌∙◌}
use lib.IntN.{ℤ}
use lib.ListN.{get_or, replicate}
use Rattle.model_problems.specs.Lists.{tab}
use Rattle.model_problems.specs.Constraint.{rounded}
use Rattle.model_problems.specs.Problem.{variables}
use Rattle.model_walk.specs.Search as model
use Rattle.lists.proofs.Tab.{tab-ext-0, tab-const, get_d-const}
use Rattle.layout.specs.Rows.{input_at, box_of, thresholds_of}
use Rattle.layout.proofs.Rows.{length-box}
use Rattle.problem.specs.declared.Problem.{Problem}
use Rattle.problem.specs.View.{problem_of}
use Rattle.state.specs.View.{domain_reason, reason_of, reasons_in, level_of, no_level, level_at, levels_from, status_of, kept_cuts, inputs_of, core_over, core_of, view}
use Rattle.state.specs.declared.Level.{Level}
use Rattle.state.specs.declared.Status.TheVariants.{Undecided}

-- ---- level 0
abbrev domains : List ℕ
domains = replicate 32 domain_reason

reasons-domain : (n : ℕ) → tab (reasons_in domains domains) 0 n ≡ replicate n model.no_reasons
unfolding reasons_in reason_of
reasons-domain n = tab-ext-0 (reasons_in domains domains) (λ i. model.no_reasons) n (λ i l. rw (get_d-const {A = ℕ} domain_reason 32 i)) ∙ tab-const model.no_reasons 0 n

module _ (p : Problem) where
  variables-are : p.n ≡ variables (problem_of p)
  unfolding variables problem_of
  variables-are = sym (length-box p.n p.lower p.upper)

  pub level-opened : level_of p.n (record { lower = p.lower; upper = p.upper; below = domains; above = domains; decided = 0 }) ≡ model.level_of (problem_of p)
  unfolding level_of model.level_of problem_of
  level-opened = rw (← variables-are) (ap (λ (rs : List model.Reasons). record { box = box_of p.n p.lower p.upper; reasons = rs; decided = 0 }) (reasons-domain p.n))

  -- ---- the state
  pub opened : (rows : List ℤ) (numbers : List ℕ) (levels : List Level) → tab (input_at p.n rows p.divisors) 0 p.m ≡ map rounded (problem_of p).constraints →
      level_of p.n (get_or levels 0 no_level) ≡ model.level_of (problem_of p) →
      view (record { n = p.n; m = p.m; budget = p.budget; conflicts = 0; propagations = 0; made = 0; depth = 0; status = Undecided; thresholds = p.thresholds; rows = rows; divisors = p.divisors; numbers = numbers; levels = levels }) ≡ model.open_problem (problem_of p)
  unfolding view core_of core_over inputs_of level_at levels_from kept_cuts tab status_of model.open_problem model.core_of problem_of
  opened rows numbers levels r l =
      λ i.
      record {
        core = record { variables = variables-are i; thresholds = thresholds_of p.n p.thresholds; inputs = r i; cuts = []; numbers = []; made = 0; deepest = l i; outer = [] };
        budget = p.budget;
        conflicts = 0;
        propagations = 0;
        status = model.undecided;
      }
