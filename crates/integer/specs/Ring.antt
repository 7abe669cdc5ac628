-- ℤ is a ring, and its order goes with sums and multiples.
use Rattle.std.specs.Prelude.{◌≡◌, ℕ, suc, ◌*◌, ℤ, pos, negsuc, neg_ℤ, ◌+ℤ◌, ◌*ℤ◌}
use Rattle.std.proofs.Common.{sym, ap, ap₂, ◌∙◌, mul-le-mul_left, arith}
use Rattle.std.proofs.Math.IntN.{+ℤ_assoc, +ℤ_comm, *ℤ_comm, neg_ℤ-+ℤ, neg_ℤ-neg_ℤ}
use Rattle.integer.specs.Parts.{up, down, ◌⊑◌, add_parts, neg-up, neg-down, mul-parts, eq-out}

-- ---- the laws that the kit's `lib.IntN` lacks, each to be rewritten with: `rw (*ℤ-distr a b x)`
pub +ℤ-left-comm : (a b c : ℤ) → a +ℤ (b +ℤ c) ≡ b +ℤ (a +ℤ c)
+ℤ-left-comm a b c = sym (+ℤ_assoc a b c) ∙ ap (λ (z : ℤ). z +ℤ c) (+ℤ_comm a b) ∙ +ℤ_assoc b a c

pub *ℤ-distr : (a b x : ℤ) → (a +ℤ b) *ℤ x ≡ a *ℤ x +ℤ b *ℤ x
*ℤ-distr a b x =
    eq-out _ _ (omega (
      arith,
      mul-parts (a +ℤ b) x,
      add_parts (a *ℤ x) (b *ℤ x),
      mul-parts a x,
      mul-parts b x,
      ap (λ (n : ℕ). n * up x) (add_parts a b),
      ap (λ (n : ℕ). n * down x) (add_parts a b),
    ))

pub *ℤ-distl : (x a b : ℤ) → x *ℤ (a +ℤ b) ≡ x *ℤ a +ℤ x *ℤ b
*ℤ-distl x a b = *ℤ_comm x (a +ℤ b) ∙ *ℤ-distr a b x ∙ ap₂ ◌+ℤ◌ (*ℤ_comm a x) (*ℤ_comm b x)

pub *ℤ-assoc : (a b c : ℤ) → (a *ℤ b) *ℤ c ≡ a *ℤ (b *ℤ c)
*ℤ-assoc a b c =
    eq-out _ _ (omega (
      arith,
      mul-parts (a *ℤ b) c,
      mul-parts a (b *ℤ c),
      ap (λ (n : ℕ). n * up c) (mul-parts a b),
      ap (λ (n : ℕ). n * down c) (mul-parts a b),
      ap (λ (n : ℕ). up a * n) (mul-parts b c),
      ap (λ (n : ℕ). down a * n) (mul-parts b c),
    ))

pub *ℤ-left-comm : (a b c : ℤ) → a *ℤ (b *ℤ c) ≡ b *ℤ (a *ℤ c)
*ℤ-left-comm a b c = sym (*ℤ-assoc a b c) ∙ ap (λ (z : ℤ). z *ℤ c) (*ℤ_comm a b) ∙ *ℤ-assoc b a c

pub *ℤ-neg : (a b : ℤ) → a *ℤ neg_ℤ b ≡ neg_ℤ (a *ℤ b)
*ℤ-neg a b =
    eq-out _ _ (simp (neg-up, neg-down) (omega (arith, mul-parts a b, simp (neg-up, neg-down) at (mul-parts a (neg_ℤ b)))))

pub neg-*ℤ : (a b : ℤ) → neg_ℤ a *ℤ b ≡ neg_ℤ (a *ℤ b)
neg-*ℤ a b = *ℤ_comm (neg_ℤ a) b ∙ *ℤ-neg b a ∙ ap neg_ℤ (*ℤ_comm b a)

-- ---- an equation of sums, differences and products in which nothing cancels is `simp ring`:
--     (s *ℤ c) *ℤ x -ℤ s *ℤ p ≡ s *ℤ (x *ℤ c -ℤ p)
-- (where a term and its negation must cancel, see `Expression`)
pub ruleset ring = (
  *ℤ-distr,
  *ℤ-distl,
  *ℤ-assoc,
  *ℤ_comm,
  *ℤ-left-comm,
  *ℤ-neg,
  neg-*ℤ,
  +ℤ_assoc,
  +ℤ_comm,
  +ℤ-left-comm,
  neg_ℤ-+ℤ,
  neg_ℤ-neg_ℤ,
)

-- ---- the order with sums, multiples, and multiples by a number below zero: `omega (arith, ⊑-scale s a b h)` for an `h : a ⊑ b`
pub ⊑-add : (a b c d : ℤ) → a ⊑ b → c ⊑ d → a +ℤ c ⊑ b +ℤ d
⊑-add a b c d h k = omega (arith, add_parts a c, add_parts b d)

pub ⊑-scale : (s : ℕ) (a b : ℤ) → a ⊑ b → pos s *ℤ a ⊑ pos s *ℤ b
⊑-scale s a b h = omega (arith, mul-parts (pos s) a, mul-parts (pos s) b, mul-le-mul_left s h)

pub ⊑-flip : (s : ℕ) (a b : ℤ) → a ⊑ b → negsuc s *ℤ b ⊑ negsuc s *ℤ a
⊑-flip s a b h = omega (arith, mul-parts (negsuc s) a, mul-parts (negsuc s) b, mul-le-mul_left (suc s) h)
