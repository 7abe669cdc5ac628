-- The state of a search from an opening: no solution is lost, fewer points are left after each conflict, and a point reached is the first solution.
use Prim.Native.Nat.{ℕ, zero, suc, ◌-◌, ◌≤◌, ◌<◌}
use native.Mathlib.Omega.{arith}
use mathlib.Core.List.{List, [], ◌∷◌, ◌++◌, map}
use mathlib.Core.Logic.{inl, inr, ⊎_elim}
use mathlib.Core.Path.{◌≡◌, refl, sym, subst, ◌∙◌}
use lib.Dec.{T}
use lib.IntN.{ℤ, pos, zero-*ℤ}
use lib.ListN.{get_or, length, drop, replicate, length-drop}
use native.Mathlib.Nat.{sub-zero}
use Rattle.model_problems.specs.Constraint.{Constraint, Box, modulus, falsified, rounded}
use Rattle.model_files.specs.File.{no_constraint}
use Rattle.model_problems.specs.Problem.{Problem, variables}
use Rattle.model_walk.specs.Search.{constraint, Level, Core, depth, levels, with_levels, with_deepest, kept, number_at, hold_lower, hold_upper, raise_lower, lower_upper, decide_at, flip_at}
use Rattle.model_walk.specs.Move.{descend}
use Rattle.model_walk.specs.Conflict.{analyze, numbered, backjump_level, back_from, back_up, settled, conflict_of, learning, nothing_learned, no_learning, conflict_by, at_conflict}
use Rattle.model_problems.specs.Threshold.{threshold_at, allowed}
use Rattle.model_problems.specs.Points.{Point, Inside, Allowed, dot, value, Meets, MeetsAll, Solution, FirstOf}
use Rattle.model_walk.specs.Step.{lowers}
use Rattle.validity.proofs.Boxes.{Fixed, Ordered, Nested, nested-refl, nested-inside, set-lower-nested, set-upper-nested, set-lower-inside, set-upper-inside, lowers-inside, lowers-allowed, fixed-only}
use Rattle.validity.proofs.Thresholds.{lifts, sinks, Outside, allowed_at}
use Rattle.soundness.proofs.Sizes.{size-nested}
use Rattle.validity.proofs.Constraints.{Inequality, rounded-meets, fixed-meets}
use Rattle.validity.proofs.Moves.{Clear, Falsifies, Finishes, Raises, Lowers, Decides}
use Rattle.validity.proofs.States.{Every, CoreFits, raise-fits, lower-fits, decide-fits, deepest-ordered, deepest-outside}
use Rattle.validity.proofs.Elements.{every-right, every_append, every_map, every-get_d}
use Rattle.validity.proofs.Conflicts.{analyze-learned, MeetsInequalities, analyze-meets, Keeps, keeps-all, numbered-keeps, numbered-every, Back, backjump-back}
use Rattle.soundness.proofs.Remaining.{Chain, Remains, remaining, inside-remains, chain-ordered, chain-outside, chain-domain, chain-smaller, remains-smaller, remaining-smaller, chain-decided, remains-decided, decided-remains, remaining-decided, RemainsAfter, remaining_after, ChainAfter, remains-back, back-remains, remaining-back, chain_back, falsified-to, remains-later}
use Rattle.validity.proofs.Descent.{Ended, descend-keeps}
use Rattle.validity.proofs.Steps.{Settled}

-- met by every point that meets the problem's inequalities, inside the limits or not
abbrev pub Implied : Problem → Constraint → Type 0
Implied p k = (x : Point) → MeetsInequalities x p.constraints → Meets x k

-- the state of a search from an opening of p, with at most `room` points left. Left are the solutions that are not struck out: those in what remains
pub record Sound (p : Problem) (Left : Point → Type 0) (room : ℕ) (c : Core) : Type 0 where
  pub fits : CoreFits c
  pub variables : c.variables ≡ variables p
  pub thresholds : c.thresholds ≡ p.thresholds
  pub inputs : c.inputs ≡ map rounded p.constraints
  pub implied : Every (λ k. Inequality k → Implied p k) (kept c)
  pub chain : Chain p c.deepest c.outer
  pub solves : (x : Point) → Left x → Solution p x
  pub cover : (x : Point) → Left x → Remains p x c.deepest c.outer
  pub exact : (x : Point) → Solution p x → Remains p x c.deepest c.outer → Left x
  pub left : remaining p c.deepest c.outer ≤ room

-- ---- a solution meets what is kept: the inputs as it does the problem's constraints, the cuts as they follow from them
pub meets-inequalities : (x : Point) (ks : List Constraint) → MeetsAll x ks → MeetsInequalities x ks
meets-inequalities x [] m = tt
meets-inequalities x (k ∷ ks) m = (λ e. m.0, meets-inequalities x ks m.1)

rounded-met : (x : Point) (ks : List Constraint) → MeetsAll x ks → Every (Meets x) (map rounded ks)
rounded-met x [] m = tt
rounded-met x (k ∷ ks) m = ((rounded-meets k x).1 m.0, rounded-met x ks m.1)

cuts-met : (p : Problem) (x : Point) (ks : List Constraint) → MeetsInequalities x p.constraints → Every Inequality ks → Every (λ k. Inequality k → Implied p k) ks → Every (Meets x) ks
cuts-met p x [] m e i = tt
cuts-met p x (k ∷ ks) m e i = (i.0 e.0 x m, cuts-met p x ks m e.1 i.1)

kept-met : (p : Problem) (Left : Point → Type 0) (room : ℕ) (c : Core) (x : Point) → Sound p Left room c → Solution p x → Every (Meets x) (kept c)
unfolding kept
kept-met p Left room c x s z =
    every_append (Meets x) c.inputs c.cuts (rw s.inputs (rounded-met x p.constraints z.meets))
    (cuts-met p x c.cuts (meets-inequalities x p.constraints z.meets) s.fits.inequalities
    (every-right (λ k. Inequality k → Implied p k) c.inputs c.cuts (unfold kept in s.implied)))

meets_at : (p : Problem) (Left : Point → Type 0) (room : ℕ) (c : Core) (j : ℕ) (x : Point) → Sound p Left room c → j < length (kept c) → Solution p x → Meets x (get_or (kept c) j no_constraint)
meets_at p Left room c j x s h z = every-get_d (Meets x) (kept c) j no_constraint h (kept-met p Left room c x s z)

module _ (p : Problem) (Left : Point → Type 0) (room : ℕ) where
  -- a smaller box that keeps the solutions
  smaller : (c : Core) (l : Level) → Sound p Left room c → CoreFits (with_deepest c l) → l.decided ≡ c.deepest.decided → Ordered l.box → Outside p.thresholds l.box →
      Nested l.box c.deepest.box → ((x : Point) → Solution p x → Inside x c.deepest.box → Inside x l.box) → Sound p Left room (with_deepest c l)
  unfolding with_deepest with_levels kept
  smaller c l s f e o a n k =
      record {
        fits = f;
        variables = s.variables;
        thresholds = s.thresholds;
        inputs = s.inputs;
        implied = s.implied;
        chain = chain-smaller p c.deepest l e c.outer o a n s.chain;
        solves = s.solves;
        cover = λ x z. remains-smaller p c.deepest l e x c.outer (k x (s.solves x z)) (s.cover x z);
        exact = λ x z r. s.exact x z (remains-smaller p l c.deepest (sym e) x c.outer (nested-inside x l.box c.deepest.box n) r);
        left = omega (arith, s.left, remaining-smaller p c.deepest l e c.outer (size-nested p.thresholds l.box c.deepest.box o n));
      }

  -- of a state with another deepest level: its order, and its bounds beside the problem's thresholds
  fits-ordered : (c : Core) (l : Level) → CoreFits (with_deepest c l) → Ordered l.box
  unfolding with_deepest with_levels
  fits-ordered c l f = deepest-ordered (with_deepest c l) f

  fits-outside : (c : Core) (l : Level) → Sound p Left room c → CoreFits (with_deepest c l) → Outside p.thresholds l.box
  unfolding with_deepest with_levels
  fits-outside c l s f = subst (λ (ts : List ℤ). Outside ts l.box) s.thresholds (deepest-outside (with_deepest c l) f)

  -- a solution's values beside the thresholds of the state
  allowed-here : (c : Core) (i : ℕ) (x : Point) → Sound p Left room c → Solution p x → T (allowed (threshold_at c.thresholds i) (get_or x i (pos 0)))
  allowed-here c i x s z = allowed_at i c.thresholds x (subst (λ (ts : List ℤ). Allowed ts x) (sym s.thresholds) z.allowed)

  sound-raise : (c : Core) (j i : ℕ) (v : ℤ) → Sound p Left room c → Raises (kept c) c.deepest.box j i v → Sound p Left room (with_deepest c (raise_lower c.thresholds i v (constraint (number_at c j)) c.deepest))
  sound-raise c j i v s m =
      let box = c.deepest.box in
      let l = raise_lower c.thresholds i v (constraint (number_at c j)) c.deepest in
      let f = raise-fits c j i v s.fits m in
      let to = lifts (threshold_at c.thresholds i) v in
      smaller c l s f (unfold raise_lower hold_lower in refl) (fits-ordered c l f) (fits-outside c l s f)
      (unfold raise_lower hold_lower in set-lower-nested i _ box (omega (arith, to.above, m.better)))
      (λ x z q. unfold raise_lower hold_lower in set-lower-inside i _ box x q (to.least (get_or x i (pos 0)) (allowed-here c i x s z) (m.implied x q (meets_at p Left room c j x s m.constraint z))))

  sound-lower : (c : Core) (j i : ℕ) (v : ℤ) → Sound p Left room c → Lowers (kept c) c.deepest.box j i v → Sound p Left room (with_deepest c (lower_upper c.thresholds i v (constraint (number_at c j)) c.deepest))
  sound-lower c j i v s m =
      let box = c.deepest.box in
      let l = lower_upper c.thresholds i v (constraint (number_at c j)) c.deepest in
      let f = lower-fits c j i v s.fits m in
      let to = sinks (threshold_at c.thresholds i) v in
      smaller c l s f (unfold lower_upper hold_upper in refl) (fits-ordered c l f) (fits-outside c l s f)
      (unfold lower_upper hold_upper in set-upper-nested i _ box (omega (arith, to.below, m.better)))
      (λ x z q. unfold lower_upper hold_upper in set-upper-inside i _ box x q (to.most (get_or x i (pos 0)) (allowed-here c i x s z) (m.implied x q (meets_at p Left room c j x s m.constraint z))))

  sound-decide : (c : Core) (i : ℕ) → Sound p Left room c → Decides (kept c) c.deepest.box i → Sound p Left room (with_levels c (decide_at i c.deepest) (levels c))
  unfolding with_levels kept levels
  sound-decide c i s m =
      let o = chain-ordered p c.deepest c.outer s.chain in
      record {
        fits = decide-fits c i s.fits m;
        variables = s.variables;
        thresholds = s.thresholds;
        inputs = s.inputs;
        implied = s.implied;
        chain = chain-decided p i c.deepest c.outer m.first s.chain;
        solves = s.solves;
        cover = λ x z. remains-decided p x i c.deepest c.outer (s.solves x z).allowed (s.cover x z);
        exact = λ x z r. s.exact x z (decided-remains p x i c.deepest c.outer o r);
        left = omega (arith, s.left, remaining-decided p i c.deepest c.outer o (chain-outside p c.deepest c.outer s.chain) m.first);
      }

  pub descend-sound : (c : Core) → Sound p Left room c → Ended (Sound p Left room) (descend c)
  descend-sound c s = descend-keeps (Sound p Left room) (λ d h. deepest-ordered d h.fits) (λ d h. deepest-outside d h.fits) sound-raise sound-lower sound-decide c s

-- ---- the solution
clear-meets : (ks : List Constraint) (box : Box) → Fixed box → Clear ks box → Every (Meets (lowers box)) ks
clear-meets [] box f c = tt
clear-meets (k ∷ ks) box f c = (fixed-meets k box f c.0, clear-meets ks box f c.1)

-- what meets the rounded inputs meets the problem's own constraints
inputs-met : (x : Point) (ks rest : List Constraint) → Every (Meets x) (map rounded ks ++ rest) → MeetsAll x ks
inputs-met x [] rest e = tt
inputs-met x (k ∷ ks) rest e = ((rounded-meets k x).0 e.0, inputs-met x ks rest e.1)

pub finish-first : (p : Problem) (Left : Point → Type 0) (room : ℕ) (c : Core) → Sound p Left room c → Finishes (kept c) c.deepest.box → FirstOf Left (lowers c.deepest.box)
unfolding kept
finish-first p Left room c s f =
    let box = c.deepest.box in
    let o = chain-ordered p c.deepest c.outer s.chain in
    let here = lowers-inside box o in
    let met = clear-meets (c.inputs ++ c.cuts) box f.fixed f.clear in
    let solution : Solution p (lowers box) = record {
      inside = nested-inside (lowers box) box p.domain (chain-domain p c.deepest c.outer s.chain) here;
      allowed = lowers-allowed p.thresholds box (chain-outside p c.deepest c.outer s.chain);
      meets = inputs-met (lowers box) p.constraints c.cuts (subst (λ (ks : List Constraint). Every (Meets (lowers box)) (ks ++ c.cuts)) s.inputs met);
    } in
    record {
      solves = s.exact (lowers box) solution (inside-remains p (lowers box) c.deepest c.outer here);
      first = λ v z.
          ⊎_elim (λ h. inl (fixed-only box v f.fixed h)) (λ h. inr h)
          (remains-later p c.deepest c.outer (lowers box) v s.chain here (s.cover v z));
    }

-- ---- a conflict
-- the cut follows from the problem's inequalities alone: the zero cut of a divisor constraint is met by every point
zeros-dot : (n : ℕ) (x : Point) → dot (replicate n (pos 0)) x ≡ pos 0
unfolding dot
zeros-dot zero x = refl
zeros-dot (suc n) [] = refl
zeros-dot (suc n) (y ∷ x) = rw (zero-*ℤ y, zeros-dot n x)

nothing-met : (n : ℕ) (x : Point) → Meets x (nothing_learned n).cut
unfolding nothing_learned modulus value
nothing-met n x = rw (zeros-dot n x) (record { le = tt })

cut_by : (q : ℕ) (p : Problem) (Left : Point → Type 0) (room : ℕ) (c : Core) (j : ℕ) → modulus (get_or (kept c) j no_constraint) ≡ q → Sound p Left room c → Falsifies (kept c) c.deepest.box j →
    Implied p (conflict_by q c j (get_or (kept c) j no_constraint)).cut
unfolding conflict_by learning no_learning conflict_of
cut_by zero p Left room c j e s f x m =
    analyze-meets c j x s.fits f.at e (every_map (λ k. Inequality k → Implied p k) (λ k. Inequality k → Meets x k) (kept c) (λ k i own. i own x m) s.implied)
cut_by (suc q) p Left room c j e s f x m = nothing-met c.variables x

pub cut-implied : (p : Problem) (Left : Point → Type 0) (room : ℕ) (c : Core) (j : ℕ) → Sound p Left room c → Falsifies (kept c) c.deepest.box j → Implied p (at_conflict c j).cut
unfolding at_conflict
cut-implied p Left room c j s f = cut_by (modulus (get_or (kept c) j no_constraint)) p Left room c j refl s f

-- what is left after the levels down to the first of `ds` are dropped
record Leaves (p : Problem) (Left : Point → Type 0) (room : ℕ) (ds : List Level) : Type 0 where
  chain : ChainAfter p ds
  solves : (x : Point) → Left x → Solution p x
  cover : (x : Point) → Left x → RemainsAfter p x ds
  exact : (x : Point) → Solution p x → RemainsAfter p x ds → Left x
  less : remaining_after p ds < room

leaves : (p : Problem) (Left : Point → Type 0) (room : ℕ) (c : Core) (j : ℕ) (k : Constraint) (level : Level) (rest : List Level) → Sound p Left room c → ((x : Point) → Solution p x → Meets x k) →
    drop j (levels c) ≡ level ∷ rest → T (falsified k level.box) → Leaves p Left room (drop j (levels c))
unfolding levels
leaves p Left room c j k level rest s i e f =
    let l = c.deepest in
    let ls = c.outer in
    let o = chain-ordered p l ls s.chain in
    record {
      chain = chain_back p j l ls s.chain;
      solves = s.solves;
      cover = λ x z.
          remains-back p k x j l l ls (i x (s.solves x z)) refl (nested-refl l.box) (falsified-to p k j l level ls rest s.chain e f) (s.cover x z);
      exact = λ x z r. s.exact x z (back-remains p x j l l ls refl r);
      less = omega (arith, s.left, remaining-back p j l l ls refl o (chain-outside p l ls s.chain) s.chain);
    }

-- back to level 0: nothing
remains-none : (p : Problem) (x : Point) (l : Level) (ls : List Level) → RemainsAfter p x (drop (length ls) (l ∷ ls)) → ⊥
remains-none p x l [] r = r
remains-none p x l (o ∷ ls) r = remains-none p x o ls r

-- back to a later one: a sound state with fewer points
pub record Backed (p : Problem) (Left : Point → Type 0) (room : ℕ) (c : Core) : Type 0 where
  pub left : ℕ
  pub less : left < room
  pub sound : Sound p Left left c

-- a state's thresholds are the problem's, so its flipped level is one of the problem's chain
pub flipped-sound : (p : Problem) (Left : Point → Type 0) (room : ℕ) (n : Core) (i : ℕ) (o : Level) (ls : List Level) → n.thresholds ≡ p.thresholds → CoreFits (with_levels n (flip_at n.thresholds i o) ls) →
    (CoreFits (with_levels n (flip_at p.thresholds i o) ls) → Sound p Left room (with_levels n (flip_at p.thresholds i o) ls)) → Sound p Left room (with_levels n (flip_at n.thresholds i o) ls)
flipped-sound p Left room n i o ls t f k =
    subst (λ (ts : List ℤ). Sound p Left room (with_levels n (flip_at ts i o) ls)) (sym t) (k (subst (λ (ts : List ℤ). CoreFits (with_levels n (flip_at ts i o) ls)) t f))

backed : (p : Problem) (Left : Point → Type 0) (room : ℕ) (n : Core) (ds : List Level) → 1 < length ds → Leaves p Left room ds → CoreFits (back_from ds n) → n.variables ≡ variables p →
    n.thresholds ≡ p.thresholds → n.inputs ≡ map rounded p.constraints → Every (λ k. Inequality k → Implied p k) (kept n) → Backed p Left room (back_from ds n)
unfolding back_from with_levels kept
backed p Left room n [] h l f v t i e = let z : ⊥ = omega arith in absurd z
backed p Left room n (a ∷ []) h l f v t i e = let z : ⊥ = omega arith in absurd z
backed p Left room n (a ∷ o ∷ ls) h l f v t i e =
    record {
      left = remaining_after p (a ∷ o ∷ ls);
      less = l.less;
      sound = flipped-sound p Left (remaining_after p (a ∷ o ∷ ls)) n a.decided o ls t f
          (λ g. record {
            fits = g;
            variables = v;
            thresholds = t;
            inputs = i;
            implied = e;
            chain = l.chain;
            solves = l.solves;
            cover = l.cover;
            exact = l.exact;
            left = omega arith;
          });
    }

-- what a conflict with backjump level d leaves
abbrev pub After : Problem → (Point → Type 0) → ℕ → ℕ → Core → Type 0
After p Left room zero c = ((x : Point) → Left x → ⊥) × (1 ≤ room) × (c.variables ≡ variables p)
After p Left room (suc d) c = Backed p Left room c

-- numbering the cut leaves the levels as they are
dropped-same : (d : ℕ) (c n : Core) → Keeps c n → drop (depth n - d) (levels n) ≡ drop (depth c - d) (levels c)
unfolding depth levels
dropped-same d c n k = rw (k.deepest, k.outer)

dropped-many : (d : ℕ) (c : Core) → suc d ≤ depth c → 1 < length (drop (depth c - suc d) (levels c))
unfolding depth levels
dropped-many d c h = simp length-drop (omega arith)

after-back : (p : Problem) (Left : Point → Type 0) (room d : ℕ) (c n : Core) (k : Constraint) → Sound p Left room c → ((x : Point) → Solution p x → Meets x k) → Back k c d → Keeps c n →
    Every (λ k. Inequality k → Implied p k) (kept n) → CoreFits (settled d n) → After p Left room d (settled d n)
unfolding settled back_up
after-back p Left room zero c n k s i b same e f =
    let l = leaves p Left room c (depth c - 0) k b.level b.rest s i b.dropped b.false in (
      λ x z. remains-none p x c.deepest c.outer (unfold depth levels in subst (λ (j : ℕ). RemainsAfter p x (drop j (c.deepest ∷ c.outer))) (sub-zero (length c.outer)) (l.cover x z)),
      omega (arith, l.less),
      same.variables ∙ s.variables,
    )
after-back p Left room (suc d) c n k s i b same e f =
    let drops = dropped-same (suc d) c n same in
    backed p Left room n (drop (depth n - suc d) (levels n)) (rw drops (dropped-many d c b.reach))
    (subst (λ (ds : List Level). Leaves p Left room ds) (sym drops) (leaves p Left room c (depth c - suc d) k b.level b.rest s i b.dropped b.false)) f
    (same.variables ∙ s.variables) (same.thresholds ∙ s.thresholds) (same.inputs ∙ s.inputs) e

-- at an inequality d is the least depth that falsifies the cut, at a divisor constraint the least that falsifies the constraint; every solution meets both
after-by : (q : ℕ) (p : Problem) (Left : Point → Type 0) (room : ℕ) (c : Core) (j : ℕ) → modulus (get_or (kept c) j no_constraint) ≡ q → Sound p Left room c → Falsifies (kept c) c.deepest.box j →
    CoreFits (conflict_by q c j (get_or (kept c) j no_constraint)).core →
    After p Left room (conflict_by q c j (get_or (kept c) j no_constraint)).back (conflict_by q c j (get_or (kept c) j no_constraint)).core
unfolding conflict_by learning no_learning conflict_of
after-by zero p Left room c j e s f t =
    let k = (analyze c (get_or (kept c) j no_constraint)).cut in
    let i : Implied p k = unfold conflict_by learning no_learning conflict_of in cut_by zero p Left room c j e s f in
    after-back p Left room (backjump_level k c) c (numbered c k).core k s (λ x z. i x (meets-inequalities x p.constraints z.meets)) (backjump-back k c (analyze-learned c j s.fits f e).false)
    (numbered-keeps c k) (numbered-every (λ k. Inequality k → Implied p k) c k s.implied (λ own. i)) t
after-by (suc q) p Left room c j e s f t =
    let k = get_or (kept c) j no_constraint in
    after-back p Left room (backjump_level k c) c c k s (λ x z. meets_at p Left room c j x s f.at z) (backjump-back k c f.false) (keeps-all c) s.implied t

pub conflict-after : (p : Problem) (Left : Point → Type 0) (room : ℕ) (c : Core) (j : ℕ) → Sound p Left room c → Falsifies (kept c) c.deepest.box j → Settled c (at_conflict c j) →
    After p Left room (at_conflict c j).back (at_conflict c j).core
unfolding at_conflict
conflict-after p Left room c j s f t = after-by (modulus (get_or (kept c) j no_constraint)) p Left room c j refl s f t.fits
