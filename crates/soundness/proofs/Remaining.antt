-- What a search has left: the deepest level's box and, at each decision, the half that going back opens. A search from an opening decides the
-- first open variable, so what is left outside the deepest box comes later in dictionary order.
use Prim.Native.Nat.{ℕ, zero, suc, ◌+◌, ◌≤◌, ◌<◌}
use native.Mathlib.Omega.{arith}
use mathlib.Core.List.{List, [], ◌∷◌}
use mathlib.Core.Logic.{◌⊎◌, inl, inr}
use mathlib.Core.Path.{◌≡◌, refl, sym, subst}
use lib.Dec.{T}
use lib.ListN.{drop}
use Rattle.model_problems.specs.Constraint.{Constraint, falsified}
use Rattle.model_problems.specs.Threshold.{threshold_at}
use Rattle.model_problems.specs.Problem.{Problem}
use Rattle.model_walk.specs.Search.{Level, hold_lower, decide_at, flip_at}
use Rattle.model_problems.specs.Points.{Point, Inside, Allowed, Meets, Before}
use Rattle.validity.proofs.Boxes.{Ordered, Nested, FirstOpen, first-open, nested-refl, nested-trans, nested-inside, low_half, high_half, low-nested, low-ordered, low-outside, high-nested, high-ordered, high-outside, halves-inside, halves-before}
use Rattle.validity.proofs.Thresholds.{Outside, allowed_at}
use Rattle.soundness.proofs.Sizes.{size, size-positive, halves-size}
use Rattle.validity.proofs.Constraints.{falsified-empty, falsified-nested}
use Rattle.validity.proofs.Steps.{impossible}

pub right : {A B : Type 0} → A ⊎ B → (A → ⊥) → B
right (inl a) f = absurd (f a)
right (inr b) f = b

module _ (p : Problem) where
  -- ---- the levels of an opened search: each lies in the low half of its decision, which is at the first open variable of the one above
  abbrev pub Chain : Level → List Level → Type 0
  Chain l [] = Ordered l.box × Nested l.box p.domain × Outside p.thresholds l.box
  Chain l (o ∷ ls) = Ordered l.box × Nested l.box (low_half l.decided o.box) × FirstOpen l.decided o.box × Chain o ls × Outside p.thresholds l.box

  -- the points that are left, and how many
  abbrev pub Remains : Point → Level → List Level → Type 0
  Remains x l [] = Inside x l.box
  Remains x l (o ∷ ls) = Inside x l.box ⊎ Remains x (flip_at p.thresholds l.decided o) ls

  abbrev pub remaining : Level → List Level → ℕ
  remaining l [] = size p.thresholds l.box
  remaining l (o ∷ ls) = size p.thresholds l.box + remaining (flip_at p.thresholds l.decided o) ls

  pub inside-remains : (x : Point) (l : Level) (ls : List Level) → Inside x l.box → Remains x l ls
  inside-remains x l [] h = h
  inside-remains x l (o ∷ ls) h = inl h

  pub chain-ordered : (l : Level) (ls : List Level) → Chain l ls → Ordered l.box
  chain-ordered l [] c = c.0
  chain-ordered l (o ∷ ls) c = c.0

  pub chain-outside : (l : Level) (ls : List Level) → Chain l ls → Outside p.thresholds l.box
  chain-outside l [] c = c.2
  chain-outside l (o ∷ ls) c = c.4

  -- every level lies in the domain
  pub chain-domain : (l : Level) (ls : List Level) → Chain l ls → Nested l.box p.domain
  chain-domain l [] c = c.1
  chain-domain l (o ∷ ls) c =
      nested-trans l.box (low_half l.decided o.box) p.domain c.1
      (nested-trans (low_half l.decided o.box) o.box p.domain (low-nested l.decided o.box (chain-ordered o ls c.3)) (chain-domain o ls c.3))

  -- ---- a smaller box at the deepest level
  module _ (l k : Level) (same : k.decided ≡ l.decided) where
    pub chain-smaller : (ls : List Level) → Ordered k.box → Outside p.thresholds k.box → Nested k.box l.box → Chain l ls → Chain k ls
    chain-smaller [] o a n c = (o, nested-trans k.box l.box p.domain n c.1, a)
    chain-smaller (q ∷ ls) o a n c = (
      o,
      subst (λ (i : ℕ). Nested k.box (low_half i q.box)) (sym same) (nested-trans k.box l.box (low_half l.decided q.box) n c.1),
      subst (λ (i : ℕ). FirstOpen i q.box) (sym same) c.2,
      c.3,
      a,
    )

    pub remains-smaller : (x : Point) (ls : List Level) → (Inside x l.box → Inside x k.box) → Remains x l ls → Remains x k ls
    remains-smaller x [] f h = f h
    remains-smaller x (q ∷ ls) f (inl h) = inl (f h)
    remains-smaller x (q ∷ ls) f (inr h) = inr (subst (λ (i : ℕ). Remains x (flip_at p.thresholds i q) ls) (sym same) h)

    pub remaining-smaller : (ls : List Level) → size p.thresholds k.box ≤ size p.thresholds l.box → remaining k ls ≤ remaining l ls
    remaining-smaller [] h = h
    remaining-smaller (q ∷ ls) h = rw same (omega arith)

  -- ---- a decision
  pub chain-decided : (i : ℕ) (l : Level) (ls : List Level) → FirstOpen i l.box → Chain l ls → Chain (decide_at i l) (l ∷ ls)
  unfolding decide_at low_half
  chain-decided i l ls f c =
      (low-ordered i l.box (chain-ordered l ls c), nested-refl (low_half i l.box), f, c, low-outside i p.thresholds l.box (chain-outside l ls c))

  half-remains : (x : Point) (i : ℕ) (l : Level) (ls : List Level) → Inside x (low_half i l.box) ⊎ Inside x (high_half (threshold_at p.thresholds i) i l.box) → Remains x (decide_at i l) (l ∷ ls)
  unfolding decide_at low_half
  half-remains x i l ls (inl h) = inl h
  half-remains x i l ls (inr h) = inr (inside-remains x (flip_at p.thresholds i l) ls (unfold flip_at hold_lower high_half in h))

  pub remains-decided : (x : Point) (i : ℕ) (l : Level) (ls : List Level) → Allowed p.thresholds x → Remains x l ls → Remains x (decide_at i l) (l ∷ ls)
  unfolding decide_at flip_at hold_lower
  remains-decided x i l [] a h = half-remains x i l [] (halves-inside (threshold_at p.thresholds i) i l.box x (allowed_at i p.thresholds x a) h)
  remains-decided x i l (o ∷ ls) a (inl h) = half-remains x i l (o ∷ ls) (halves-inside (threshold_at p.thresholds i) i l.box x (allowed_at i p.thresholds x a) h)
  remains-decided x i l (o ∷ ls) a (inr h) = inr (inr h)

  -- the halves hold nothing else
  pub decided-remains : (x : Point) (i : ℕ) (l : Level) (ls : List Level) → Ordered l.box → Remains x (decide_at i l) (l ∷ ls) → Remains x l ls
  unfolding decide_at low_half
  decided-remains x i l ls o (inl h) = inside-remains x l ls (nested-inside x (low_half i l.box) l.box (low-nested i l.box o) h)
  decided-remains x i l ls o (inr h) =
      remains-smaller (flip_at p.thresholds i l) l (unfold flip_at hold_lower in refl) x ls (λ g. nested-inside x (high_half (threshold_at p.thresholds i) i l.box) l.box (high-nested (threshold_at p.thresholds i) i l.box) (unfold flip_at hold_lower high_half in g)) h

  pub remaining-decided : (i : ℕ) (l : Level) (ls : List Level) → Ordered l.box → Outside p.thresholds l.box → FirstOpen i l.box → remaining (decide_at i l) (l ∷ ls) ≡ remaining l ls
  unfolding decide_at flip_at hold_lower low_half high_half
  remaining-decided i l [] o a f = halves-size p.thresholds i l.box o a (first-open i l.box f)
  remaining-decided i l (q ∷ ls) o a f = omega (arith, halves-size p.thresholds i l.box o a (first-open i l.box f))

  -- ---- going back
  -- the constraint is falsified at the deepest level and at the j levels above it
  abbrev pub FalsifiedTo : Constraint → ℕ → Level → List Level → Type 0
  FalsifiedTo k zero l ls = T (falsified k l.box)
  FalsifiedTo k (suc j) l [] = T (falsified k l.box)
  FalsifiedTo k (suc j) l (o ∷ ls) = T (falsified k l.box) × FalsifiedTo k j o ls

  -- what going back from the first of these levels leaves; nothing where there is none above it
  abbrev pub RemainsAfter : Point → List Level → Type 0
  RemainsAfter x [] = ⊥
  RemainsAfter x (l ∷ []) = ⊥
  RemainsAfter x (l ∷ o ∷ ls) = Remains x (flip_at p.thresholds l.decided o) ls

  abbrev pub remaining_after : List Level → ℕ
  remaining_after [] = 0
  remaining_after (l ∷ []) = 0
  remaining_after (l ∷ o ∷ ls) = remaining (flip_at p.thresholds l.decided o) ls

  abbrev pub ChainAfter : List Level → Type 0
  ChainAfter [] = Unit {0}
  ChainAfter (l ∷ []) = Unit {0}
  ChainAfter (l ∷ o ∷ ls) = Chain (flip_at p.thresholds l.decided o) ls

  -- no solution is lost: l₁ is the level l or what going back made of it
  pub remains-back : (k : Constraint) (x : Point) (j : ℕ) (l l₁ : Level) (ls : List Level) → Meets x k → l₁.decided ≡ l.decided → Nested l₁.box l.box →
      FalsifiedTo k j l ls → Remains x l₁ ls → RemainsAfter x (drop j (l ∷ ls))
  unfolding flip_at hold_lower high_half
  remains-back k x zero l l₁ [] m e n f r = falsified-empty k x l.box f (nested-inside x l₁.box l.box n r) m
  remains-back k x zero l l₁ (o ∷ ls) m e n f r =
      subst (λ (i : ℕ). Remains x (flip_at p.thresholds i o) ls) e (right r (λ h. falsified-empty k x l.box f (nested-inside x l₁.box l.box n h) m))
  remains-back k x (suc zero) l l₁ [] m e n f r = falsified-empty k x l.box f (nested-inside x l₁.box l.box n r) m
  remains-back k x (suc (suc j)) l l₁ [] m e n f r = falsified-empty k x l.box f (nested-inside x l₁.box l.box n r) m
  remains-back k x (suc j) l l₁ (o ∷ ls) m e n f r =
      remains-back k x j o (flip_at p.thresholds l₁.decided o) ls m refl (high-nested (threshold_at p.thresholds l₁.decided) l₁.decided o.box) f.1
      (right r (λ h. falsified-empty k x l.box f.0 (nested-inside x l₁.box l.box n h) m))

  -- what going back leaves was left before
  pub back-remains : (x : Point) (j : ℕ) (l l₁ : Level) (ls : List Level) → l₁.decided ≡ l.decided → RemainsAfter x (drop j (l ∷ ls)) → Remains x l₁ ls
  back-remains x zero l l₁ [] e r = absurd r
  back-remains x zero l l₁ (o ∷ ls) e r = inr (subst (λ (i : ℕ). Remains x (flip_at p.thresholds i o) ls) (sym e) r)
  back-remains x (suc zero) l l₁ [] e r = absurd r
  back-remains x (suc (suc j)) l l₁ [] e r = absurd r
  back-remains x (suc j) l l₁ (o ∷ ls) e r = inr (back-remains x j o (flip_at p.thresholds l₁.decided o) ls (unfold flip_at hold_lower in refl) r)

  -- going back leaves fewer points
  pub remaining-back : (j : ℕ) (l l₁ : Level) (ls : List Level) → l₁.decided ≡ l.decided → Ordered l₁.box → Outside p.thresholds l₁.box → Chain l ls →
      remaining_after (drop j (l ∷ ls)) < remaining l₁ ls
  unfolding flip_at hold_lower high_half
  remaining-back zero l l₁ [] e o a c = size-positive p.thresholds l₁.box o a
  remaining-back zero l l₁ (q ∷ ls) e o a c = rw e (omega (arith, size-positive p.thresholds l₁.box o a))
  remaining-back (suc zero) l l₁ [] e o a c = size-positive p.thresholds l₁.box o a
  remaining-back (suc (suc j)) l l₁ [] e o a c = size-positive p.thresholds l₁.box o a
  remaining-back (suc j) l l₁ (q ∷ ls) e o a c =
      let f : FirstOpen l₁.decided q.box = subst (λ (i : ℕ). FirstOpen i q.box) (sym e) c.2 in
      let h = high-ordered p.thresholds l₁.decided q.box (chain-ordered q ls c.3) (chain-outside q ls c.3) (first-open l₁.decided q.box f) in
      omega (arith, remaining-back j q (flip_at p.thresholds l₁.decided q) ls refl h (high-outside p.thresholds l₁.decided q.box (chain-outside q ls c.3)) c.3)

  pub chain_back : (j : ℕ) (l : Level) (ls : List Level) → Chain l ls → ChainAfter (drop j (l ∷ ls))
  chain_back zero l [] c = tt
  chain_back zero l (o ∷ ls) c =
      chain-smaller o (flip_at p.thresholds l.decided o) (unfold flip_at hold_lower in refl) ls
      (unfold flip_at hold_lower high_half in high-ordered p.thresholds l.decided o.box (chain-ordered o ls c.3) (chain-outside o ls c.3) (first-open l.decided o.box c.2))
      (unfold flip_at hold_lower high_half in high-outside p.thresholds l.decided o.box (chain-outside o ls c.3))
      (unfold flip_at hold_lower high_half in high-nested (threshold_at p.thresholds l.decided) l.decided o.box) c.3
  chain_back (suc zero) l [] c = tt
  chain_back (suc (suc j)) l [] c = tt
  chain_back (suc j) l (o ∷ ls) c = chain_back j o ls c.3

  falsified-top : (k : Constraint) (j : ℕ) (l : Level) (ls : List Level) → FalsifiedTo k j l ls → T (falsified k l.box)
  falsified-top k zero l ls f = f
  falsified-top k (suc j) l [] f = f
  falsified-top k (suc j) l (o ∷ ls) f = f.0

  -- a constraint that the level after j dropped ones falsifies is falsified at those too
  pub falsified-to : (k : Constraint) (j : ℕ) (l level : Level) (ls rest : List Level) → Chain l ls → drop j (l ∷ ls) ≡ level ∷ rest →
      T (falsified k level.box) → FalsifiedTo k j l ls
  falsified-to k zero l level ls rest c e f = let h : level ≡ l = cc in subst (λ (m : Level). T (falsified k m.box)) h f
  falsified-to k (suc zero) l level [] rest c e f = impossible (cc)
  falsified-to k (suc (suc j)) l level [] rest c e f = impossible (cc)
  falsified-to k (suc j) l level (o ∷ ls) rest c e f =
      let r = falsified-to k j o level ls rest c.3 e f in
      let n = nested-trans l.box (low_half l.decided o.box) o.box c.1 (low-nested l.decided o.box (chain-ordered o ls c.3)) in
      (falsified-nested k l.box o.box c.0 n (falsified-top k j o ls r), r)

  -- ---- dictionary order
  pub above-later : (i : ℕ) (o : Level) (ls : List Level) (u x : Point) → Chain o ls → FirstOpen i o.box → Inside u (low_half i o.box) →
      Remains x (flip_at p.thresholds i o) ls → Before u x
  unfolding flip_at hold_lower high_half
  above-later i o [] u x c f h r = halves-before (threshold_at p.thresholds i) i o.box u x f h r
  above-later i o (q ∷ ls) u x c f h (inl r) = halves-before (threshold_at p.thresholds i) i o.box u x f h r
  above-later i o (q ∷ ls) u x c f h (inr r) =
      above-later o.decided q ls u x c.3 c.2
      (nested-inside u o.box (low_half o.decided q.box) c.1 (nested-inside u (low_half i o.box) o.box (low-nested i o.box c.0) h)) r

  -- a point of the deepest box comes before all that is left outside it
  pub remains-later : (l : Level) (ls : List Level) (u x : Point) → Chain l ls → Inside u l.box → Remains x l ls → Inside x l.box ⊎ Before u x
  remains-later l [] u x c h r = inl r
  remains-later l (o ∷ ls) u x c h (inl r) = inl r
  remains-later l (o ∷ ls) u x c h (inr r) =
      inr (above-later l.decided o ls u x c.3 c.2 (nested-inside u l.box (low_half l.decided o.box) c.1 h) r)
