-- A row copied.
use Prim.Native.Nat.{ℕ, ◌+◌, ◌-◌, ◌≤◌, ◌<◌}
use native.Mathlib.Omega.{arith}
use mathlib.Core.List.{List, ◌++◌}
use mathlib.Core.Path.{◌≡◌, ap, ◌∙◌}
use lib.IntN.{ℤ, pos}
use lib.ListN.{length, take, drop, replicate, length-append, length-drop}
use Rattle.std.proofs.lemmas.List.{length-take-le, get_or_append_left, get_or-append_right, get_or-take, get_or-drop}
use Rattle.model_problems.specs.Ranges.{max_variables}
use Rattle.lists.proofs.Tab.{get_d-const}
use Rattle.layout.specs.Rows.{row_length, number_in}
use Rattle.layout.specs.Copies.{Copied}
use Rattle.layout.proofs.Rows.{row_same}

module _ (n : ℕ) (few : n ≤ max_variables) (rows : List ℤ) (start c : ℕ) (inside : start + n < length rows) (e : c ≡ n + 1) where
  long : length (take c (drop start rows)) ≡ n + 1
  long = length-take-le c (drop start rows) (omega (arith, length-drop start rows)) ∙ e

  pub copied : Copied n rows start (take c (drop start rows) ++ drop (n + 1) (replicate row_length (pos 0)))
  unfolding number_in
  copied =
      let part = take c (drop start rows) in
      let rest = drop (n + 1) (replicate row_length (pos 0)) in
      record {
        size = omega (arith, length-append part rest, long, length-drop (n + 1) (replicate row_length (pos 0)));
        same = row_same n (part ++ rest) rows 0 start
            (λ k l. get_or_append_left part rest (pos 0) (0 + k) (omega (arith, long)) ∙ get_or-take c (drop start rows) (0 + k) (pos 0) (omega arith) ∙ get_or-drop start rows (0 + k) (pos 0) ∙ ap (number_in rows) (omega arith));
        rest = λ i l. get_or-append_right part rest (n + 1) i (pos 0) long (omega arith) ∙ get_or-drop (n + 1) (replicate row_length (pos 0)) (i - (n + 1)) (pos 0) ∙ get_d-const (pos 0) row_length (n + 1 + (i - (n + 1)));
      }
