-- The constraints that a mask keeps, one after the other: what the loop of `keep` has put in.
use Prim.Native.Nat.{ℕ, ◌+◌, ◌*◌, ◌≤◌}
use native.Mathlib.Omega.{arith}
use mathlib.Core.Bool.{Bool, true, false, cond}
use mathlib.Core.List.{List, [], ◌∷◌, ◌++◌, append-nil}
use mathlib.Core.Path.{◌≡◌, refl, sym, ap, ap₂, ◌∙◌}
use lib.IntN.{ℤ}
use lib.ListN.{get_or, length}
use Rattle.model_problems.specs.Lists.{tab}
use Rattle.model_problems.specs.Constraint.{Constraint}
use Rattle.model_problems.specs.Problem as model
use Rattle.model_problems.specs.Problem.{variables}
use Rattle.lists.proofs.Tab.{length-tab, tab-more}
use Rattle.layout.specs.Rows.{row_length, number_in, constraint_at, divided_at, input_at}
use Rattle.problem.specs.declared.Problem.{Problem}
use Rattle.problem.specs.View.{problem_of}
use Rattle.problem.proofs.Checking.{variable-count, constraint-count}
use Rattle.modify.specs.Changed.{with_constraints, appended, chosen, reduced}
use Rattle.modify.specs.Stored.{with_rows}
use Rattle.modify.proofs.Solutions.{chosen-part}
use Rattle.modify.proofs.Acceptability.{part-shorter}
use Rattle.modify.proofs.Rows.{divided-same}
use Rattle.modify.proofs.Views.{input_in, view-with}

-- ---- one constraint more
chosen_none : (mask : List Bool) → chosen mask [] ≡ []
unfolding chosen
chosen_none [] = refl
chosen_none (b ∷ mask) = refl

chosen-snoc : (mask : List Bool) (ks : List Constraint) (k : Constraint) →
    chosen mask (ks ++ (k ∷ [])) ≡ chosen mask ks ++ cond (get_or mask (length ks) false) (k ∷ []) []
unfolding chosen
chosen-snoc [] ks k = refl
chosen-snoc (true ∷ mask) [] k = ap (λ (r : List Constraint). k ∷ r) (chosen_none mask)
chosen-snoc (false ∷ mask) [] k = chosen_none mask
chosen-snoc (true ∷ mask) (l ∷ ks) k = ap (λ (r : List Constraint). l ∷ r) (chosen-snoc mask ks k)
chosen-snoc (false ∷ mask) (l ∷ ks) k = chosen-snoc mask ks k

chosen_more : (mask : List Bool) (f : ℕ → Constraint) (j : ℕ) →
    chosen mask (tab f 0 (j + 1)) ≡ chosen mask (tab f 0 j) ++ cond (get_or mask j false) (f j ∷ []) []
chosen_more mask f j = ap (chosen mask) (tab-more f j) ∙ chosen-snoc mask (tab f 0 j) (f j) ∙ rw (length-tab f 0 j)

-- ---- s is the problem with those of its first j constraints that the mask keeps
abbrev pub Keeps : Problem → List Bool → ℕ → Problem → Type 0
Keeps p mask j s = problem_of s ≡ with_constraints (problem_of p) (chosen mask (tab (input_in p p) 0 j))

module _ (p : Problem) (mask : List Bool) where
  pub keep-none : (rows divisors : List ℤ) → Keeps p mask 0 (with_rows p 0 rows divisors)
  unfolding tab
  keep-none rows divisors = view-with p 0 rows divisors (chosen mask []) (sym (chosen_none mask))

  module _ (s : Problem) (j : ℕ) (h : Keeps p mask j s) where
    -- it has the problem's variables, and room for one more
    pub keep-variables : s.n ≡ p.n
    unfolding variables with_constraints
    keep-variables = sym (variable-count s) ∙ ap variables h ∙ variable-count p

    pub keep-room : s.m ≤ j
    unfolding with_constraints
    keep-room =
        let counts = ap (λ (q : model.Problem). length q.constraints) h in
        omega (arith, counts, constraint-count s, part-shorter (chosen-part mask (tab (input_in p p) 0 j)), length-tab (input_in p p) 0 j)

    -- the next one is left out, or put in; and the end
    pub keep-skip : get_or mask j false ≡ false → Keeps p mask (j + 1) s
    keep-skip b = h ∙ ap (with_constraints (problem_of p)) (sym (chosen_more mask (input_in p p) j ∙ rw (b, append-nil)))

    pub keep-more : (t : Problem) (row : List ℤ) (q : ℤ) → get_or mask j false ≡ true →
        constraint_at p.n row 0 ≡ constraint_at p.n p.constraints (row_length * j) → q ≡ number_in p.divisors j →
        problem_of t ≡ appended (problem_of s) (divided_at s.n row 0 q) → Keeps p mask (j + 1) t
    unfolding appended with_constraints input_at
    keep-more t row q b c d e =
        let k : divided_at s.n row 0 q ≡ input_in p p j = rw keep-variables (divided-same p.n row p.constraints 0 (row_length * j) c d) in
        e ∙ ap₂ appended h k ∙ ap (with_constraints (problem_of p)) (sym (chosen_more mask (input_in p p) j ∙ rw b))

    pub keep-end : p.m ≤ j → j ≤ p.m → problem_of s ≡ reduced mask (problem_of p)
    unfolding reduced problem_of
    keep-end l g = let e : j ≡ p.m = omega arith in rw e at h
