-- `propagate::track::Track::first_falsified` meets its contract: no number passed is above 0. Assumes nothing.
use Prim.Native.Nat.{ℕ, ◌<◌, ◌≤◌}
use native.Mathlib.Omega.{arith}
use mathlib.Core.Bool.{Bool, true, false}
use mathlib.Core.List.{List}
use mathlib.Core.Path.{◌≡◌}
use borrow.Author.Rules.{rules}
use borrow.Author.Tests.{tests}
use lib.Dec.{lit<}
use lib.IntN.{ℤ, pos}
use lib.Signed.{lt_z}
use mir.Syntax.{w64}
use mir.Val.{to_z, of_z}
use Rattle.std.specs.Prelude.{Option, Some, None, MatchOption, unwrap_or}
use Rattle.std.proofs.lemmas.Iterator.{first_from_Range}
use Rattle.integer.specs.Size.{Within}
use Rattle.integer.specs.Tests.{back, lt_z-true, lt_z-false}
use Rattle.linear.specs.Ranges.{widest_activity}
use Rattle.layout.specs.Rows.{number_in}
use Rattle.propagate.specs.Tracked.{FirstAbove}
use Rattle.propagate.proofs.track.Track.first_falsified.Goals as goal

-- whether the number at k is above 0, as the code tests it
abbrev above : List ℤ → ℕ → Bool
above xs k = lt_z (pos 0) (to_z w64 (of_z w64 (number_in xs k)))

module _ (kept : ℕ) (xs : List ℤ) (size : (k : ℕ) → k < kept → Within widest_activity (number_in xs k)) where
  pub first : (r : Option ℕ) → MatchOption r ((k : ℕ) → 0 ≤ k → k < kept → above xs k ≡ false) (λ i. (0 ≤ i) × (i < kept) × (above xs i ≡ true) × ((k : ℕ) → 0 ≤ k → k < i → above xs k ≡ false)) → FirstAbove kept xs (unwrap_or r kept)
  first None m = record { most = omega arith; before = λ k h. lt_z-false (rw (back (lit< tt) (size k h)) at (m k (omega arith) h)); here = λ h. absurd (omega arith) }
  first (Some i) m =
      record {
        most = omega arith;
        before = λ k h. lt_z-false (rw (back (lit< tt) (size k (omega arith))) at (m.3 k (omega arith) h));
        here = λ h. lt_z-true (rw (back (lit< tt) (size i h)) at m.2);
      }

pub returns : goal.returns
unfolding number_in
returns c =
    let xs = c.args.self.now.activities in
    let found = first_from_Range _ _ _ c.find.result (λ k. above xs k ≡ true) (λ k. above xs k ≡ false) c.find.ensures.ran (λ x q k. search (rules, tests)) (λ x q k. search (rules, tests)) in
    rw c.unwrap_or.ensures (first c.args.count xs c.requires.1 c.find.result found)
