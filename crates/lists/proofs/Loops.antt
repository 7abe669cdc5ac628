-- Loops that go up while a test passes at every element of a table.
use Prim.Native.Nat.{ℕ, ◌+◌, ◌<◌, ◌≤◌}
use native.Mathlib.Omega.{arith}
use mathlib.Core.Bool.{Bool, true, false}
use mathlib.Core.Path.{◌≡◌, sym, ◌∙◌}
use Rattle.model_problems.specs.Lists.{tab, all, all_of}
use Rattle.lists.proofs.All.{all_none, all-at, all_more, all-fails}
use Rattle.lists.proofs.AllOf.{all_of-tab}

-- ---- at every element
module _ {A : Type 0} (t : A → Bool) (f : ℕ → A) where
  same : (n : ℕ) → all_of t (tab f 0 n) ≡ all (tab (λ k. t (f k)) 0 n)
  same n = all_of-tab t f 0 n

  pub every-none : all_of t (tab f 0 0) ≡ true
  every-none = same 0 ∙ all_none (λ k. t (f k))

  pub every_more : (i : ℕ) → all_of t (tab f 0 i) ≡ true → t (f i) ≡ true → all_of t (tab f 0 (i + 1)) ≡ true
  every_more i a e = same (i + 1) ∙ all_more (λ k. t (f k)) i (sym (same i) ∙ a) e

  pub every-end : (n i : ℕ) → n ≤ i → i ≤ n → all_of t (tab f 0 i) ≡ true → true ≡ all_of t (tab f 0 n)
  every-end n i l h a = let z : i ≡ n = omega arith in sym (rw z at a)

  pub every-fails : (n i : ℕ) → i < n → t (f i) ≡ false → false ≡ all_of t (tab f 0 n)
  every-fails n i l e = sym (same n ∙ all-fails (λ k. t (f k)) n i l e)

  pub every-at : (n i : ℕ) → all_of t (tab f 0 n) ≡ true → i < n → t (f i) ≡ true
  every-at n i a l = all-at (λ k. t (f k)) n i (sym (same n) ∙ a) l
