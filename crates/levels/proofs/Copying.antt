-- Numbers copied into a list, as a whole.
use Prim.Native.Nat.{ℕ, ◌+◌, ◌-◌, ◌≤◌}
use native.Mathlib.Omega.{arith}
use mathlib.Core.List.{List, ◌++◌}
use mathlib.Core.Path.{◌≡◌, sym, ap, ap₂, ◌∙◌}
use lib.IntN.{ℤ, pos}
use lib.ListN.{length, take, drop}
use Rattle.model_problems.specs.Lists.{tab}
use Rattle.lists.proofs.Tab.{tab-append, tab-drop, tab-take, tab-ext, tab-ext-0, tab-shift, tab-of}
use Rattle.layout.specs.Rows.{number_in}
use Rattle.levels.specs.Copied.{Copied}

-- as a whole: what stands before them, they, and what stands after them
module _ (n at : ℕ) (from before after : List ℤ) (fits : at + n ≤ length before) (c : Copied n at from before after) where
  pub copied-list : after ≡ take at before ++ (tab (number_in from) 0 n ++ drop (at + n) before)
  unfolding number_in
  copied-list =
      let f = number_in after in
      let g = number_in before in
      let r = length before - (at + n) in
      let join : List ℤ → List ℤ → List ℤ = λ a b. a ++ b in
      let all : tab g 0 (length before) ≡ before = tab-of before (pos 0) in
      let first : tab f 0 at ≡ take at before = tab-ext-0 f g at c.below ∙ sym (tab-take g 0 at (length before) (omega arith)) ∙ ap (take at) all in
      let middle : tab f (0 + at) n ≡ tab (number_in from) 0 n =
      tab-shift f (number_in from) (0 + at) 0 n (λ k l. ap f (omega arith) ∙ c.inside k l ∙ ap (number_in from) (omega arith)) in
      let last : tab f (0 + at + n) r ≡ drop (at + n) before =
      tab-ext f g (0 + at + n) r (λ k a b. c.above k (omega arith)) ∙ ap (λ (i : ℕ). tab g i r) (omega arith) ∙ sym (tab-drop g 0 (at + n) (length before)) ∙ ap (drop (at + n)) all in
      let size : length after ≡ at + (n + r) = omega (arith, c.size) in
      sym (tab-of after (pos 0)) ∙ ap (tab f 0) size ∙ tab-append f 0 at (n + r) ∙ ap₂ join first (tab-append f (0 + at) n r ∙ ap₂ join middle last)
