-- Sums.
use Prim.Native.Nat.{ℕ, ◌+◌}
use native.Mathlib.Omega.{arith}
use mathlib.Core.Path.{◌≡◌, ap, ◌∙◌}
use mathlib.Core.List.{List, [], ◌∷◌, ◌++◌}
use Rattle.model_problems.specs.Lists.{tab, sum}
use Rattle.lists.proofs.Tab.{tab-more}

pub sum-append : (xs ys : List ℕ) → sum (xs ++ ys) ≡ sum xs + sum ys
unfolding sum
sum-append [] ys = omega arith
sum-append (x ∷ xs) ys = omega (arith, sum-append xs ys)

-- a loop's sum, one more at the end
pub sum_more : (f : ℕ → ℕ) (n : ℕ) → sum (tab f 0 (n + 1)) ≡ sum (tab f 0 n) + f n
unfolding sum
sum_more f n = ap sum (tab-more f n) ∙ sum-append (tab f 0 n) (f n ∷ []) ∙ omega arith
