-- Move 2 in one constraint: the variables that a mask leaves out have been passed. They move the constraint no further than `far`, and none of their
-- bounds is improved.
use Prim.Native.Nat.{ℕ, ◌*◌, ◌^◌, ◌≤◌, ◌<◌}
use native.Mathlib.Nat.{eq-or-lt_of_le}
use native.Mathlib.Omega.{arith}
use mathlib.Core.List.{List}
use mathlib.Core.Logic.{◌⊎◌, ⊎_elim}
use mathlib.Core.Option.{Option, none, some}
use mathlib.Core.Path.{◌≡◌, sym, subst, ◌∙◌}
use lib.IntN.{ℤ, pos, ◌-ℤ◌}
use lib.Signed.{◌≤ℤ◌}
use Rattle.model_problems.specs.Constraint.{Bounds, activity}
use Rattle.model_walk.specs.Move.{Move}
use Rattle.integer.specs.Expression as E
use Rattle.integer.specs.Expression.{rep, var, nat}
use Rattle.integer.specs.Order.{≤_trans}
use Rattle.integer.specs.Parts.{le_in}
use Rattle.integer.specs.Size.{Within}
use Rattle.lists.proofs.Bools.{lt-or-le}
use Rattle.linear.specs.Reach.{span_of, widest_span, Reaches}
use Rattle.linear.proofs.Reaching.{span-nested}
use Rattle.layout.specs.Rows.{row_length, cell, row_at, bounds_at, box_of}
use Rattle.bits.specs.Masks.{bit, Mentions, Opens}
use Rattle.bits.specs.Walk.{First, Rest}
use Rattle.bits.proofs.Bits.{bit_past}
use Rattle.propagate.proofs.Scans.{improved_from, improved_at, improved-first}
use Rattle.propagate.proofs.Tracking.{span-quiet}

-- ---- a variable that the constraint does not mention, or that is not open, does not move it
span-unmentioned : (b : Bounds) → span_of (pos 0) b ≤ℤ pos 0
unfolding span_of
span-unmentioned b = let x = var b.lower in let y = var b.upper in E.le (search rep) (nat 0) (omega arith)

span-closed : (a : ℤ) (b : Bounds) → b.upper ≤ℤ b.lower → span_of a b ≤ℤ pos 0
unfolding span_of
span-closed a b h =
    let point : Bounds = record { lower = b.lower; upper = b.lower } in
    let x = var b.lower in
    ≤_trans (span-nested a b point (omega arith) (le_in b.upper b.lower h.le)) (E.le (search rep) (nat 0) (omega arith))

-- ---- the mask `left` of the variables that are left
pub record Passed (n : ℕ) (rows lower upper : List ℤ) (j : ℕ) (far : ℤ) (left : ℕ) : Type 0 where
  pub few : left < 2 ^ n
  pub size : Within widest_span far
  pub spans : (i : ℕ) → i < n → bit left i ≡ 0 → span_of (cell rows (row_length * j) i) (bounds_at lower upper i) ≤ℤ far
  pub quiet : (i : ℕ) → i < n → bit left i ≡ 0 → improved_at n rows lower upper j i ≡ none

module _ (n : ℕ) (rows lower upper : List ℤ) (j : ℕ) where
  -- the whole mask: the variables that the constraint mentions and that are open
  pub passed_start : (a : ℤ) (mask o left : ℕ) → Mentions n rows (row_length * j) mask → Opens n lower upper o → a ≡ activity (row_at n rows j) (box_of n lower upper) → a ≤ℤ pos 0 →
      left ≤ mask → ((i : ℕ) → bit left i ≡ 0 → (bit mask i ≡ 0) ⊎ (bit o i ≡ 0)) → Passed n rows lower upper j (pos 0) left
  unfolding bounds_at
  passed_start a mask o left mentions opens e h l z =
      record { few = omega (arith, mentions.few); size = record { within = omega arith }; spans = spans; quiet = λ i k b. span-quiet n rows lower upper j i a e (≤_trans (spans i k b) room) }
    where
      room : pos 0 ≤ℤ (pos 0 -ℤ a)
      room = let x = var a in E.le (nat 0) (search rep) (omega (arith, E.of_le x (nat 0) h))

      spans : (i : ℕ) → i < n → bit left i ≡ 0 → span_of (cell rows (row_length * j) i) (bounds_at lower upper i) ≤ℤ pos 0
      spans i k b =
          ⊎_elim
          (λ (q : bit mask i ≡ 0). rw (mentions.rest i k q) (span-unmentioned (bounds_at lower upper i)))
          (λ (q : bit o i ≡ 0). span-closed _ (bounds_at lower upper i) (opens.rest i k q))
          (z i b)

  module _ (far : ℤ) (left : ℕ) (p : Passed n rows lower upper j far left) where
    -- the first variable that is left
    module _ (i : ℕ) (f : First left i) where
      pub passed-more : (r : ℕ) (w : ℤ) → Rest left r → far ≤ℤ w → span_of (cell rows (row_length * j) i) (bounds_at lower upper i) ≤ℤ w → Within widest_span w →
          improved_at n rows lower upper j i ≡ none → Passed n rows lower upper j w r
      passed-more r w t l s z q =
          record {
            few = omega (arith, t.less, p.few);
            size = z;
            spans = λ k h b. known (λ (x : ℕ). span_of (cell rows (row_length * j) x) (bounds_at lower upper x) ≤ℤ w) k (λ y. ≤_trans (p.spans k h y) l) s b;
            quiet = λ k h b. known (λ (x : ℕ). improved_at n rows lower upper j x ≡ none) k (p.quiet k h) q b;
          }
        where
          -- a bit that is 0 now was 0 before, or it is the first one's
          known : (P : ℕ → Type 0) (k : ℕ) → (bit left k ≡ 0 → P k) → P i → bit r k ≡ 0 → P k
          known P k old new b =
              ⊎_elim
              (λ (h : k < i). old (f.before k h))
              (λ (h : i ≤ k). ⊎_elim (λ (e : i ≡ k). subst P e new) (λ (e : i < k). old (sym (t.kept i f k e) ∙ b)) (eq-or-lt_of_le h))
              (lt-or-le k i)

      pub passed-hit : (kept : ℕ) (whole : Option Move) (m : Move) → whole ≡ improved_from n kept rows lower upper j → j < kept → improved_at n rows lower upper j i ≡ some m → whole ≡ some m
      passed-hit kept whole m e h t = improved-first n kept rows lower upper whole j i m e h (f.inside n p.few) (λ k q. p.quiet k (omega (arith, f.inside n p.few)) (f.before k q)) t

  -- no variable is left
  module _ (far : ℤ) (left : ℕ) (p : Passed n rows lower upper j far left) (e : left ≡ 0) where
    none_left : (i : ℕ) → bit left i ≡ 0
    none_left i = bit_past left i 0 (omega arith) (omega arith)

    pub passed-reach : Reaches n rows (row_length * j) lower upper far
    passed-reach = record { spans = λ i h. p.spans i h (none_left i); size = p.size }

    pub passed-quiet : (i : ℕ) → i < n → improved_at n rows lower upper j i ≡ none
    passed-quiet i h = p.quiet i h (none_left i)
