-- A solution struck out: the solutions after it are left, and one point less.
use Prim.Native.Nat.{ℕ, zero, suc, ◌-◌, ◌<◌}
use native.Mathlib.Omega.{arith}
use mathlib.Core.List.{List, [], ◌∷◌}
use mathlib.Core.Logic.{◌⊎◌, inl, inr}
use mathlib.Core.Path.{◌≡◌, refl, sym, ap, subst, ◌∙◌}
use lib.ListN.{length}
use Rattle.model_problems.specs.Problem.{Problem}
use Rattle.model_walk.specs.Search.{Level, Core, Status, undecided, infeasible, solved, Search, depth, levels, with_levels, kept, flip_at}
use Rattle.model_walk.specs.Conflict.{back_from, back_up}
use Rattle.model_problems.specs.Points.{Point, Inside, Before}
use Rattle.model_walk.specs.Step.{with_status, lowers}
use Rattle.model_walk.specs.Exclude.{struck, ended, unsolved, unchanged, exclude_at, exclude_by, exclude}
use Rattle.validity.proofs.Boxes.{Fixed, low_half, nested-inside, lowers-inside, fixed-only}
use Rattle.validity.proofs.States.{CoreFits}
use Rattle.validity.proofs.Conflicts.{back_fits}
use Rattle.soundness.proofs.Sizes.{not-before-itself}
use Rattle.soundness.proofs.Remaining.{Chain, Remains, remaining, chain-ordered, chain-outside, right, remaining-back, chain_back, above-later}
use Rattle.soundness.proofs.Opened.{Sound, Backed, flipped-sound}
use Rattle.soundness.proofs.OneStep.{Open, Solved}

-- some point is left
pub some-room : (p : Problem) (Left : Point → Type 0) (room : ℕ) (c : Core) → Sound p Left room c → 0 < room
some-room p Left room c s =
    omega (arith, s.left, remaining-back p 0 c.deepest c.deepest c.outer refl (chain-ordered p c.deepest c.outer s.chain) (chain-outside p c.deepest c.outer s.chain) s.chain)

-- going back from the deepest level
back_one : (c : Core) (o : Level) (ls : List Level) → c.outer ≡ o ∷ ls → back_up (depth c) c ≡ with_levels c (flip_at c.thresholds c.deepest.decided o) ls
unfolding back_up depth levels
back_one c o ls e = let z : length c.outer - length c.outer ≡ 0 = omega arith in rw (z, e) (unfold back_from in refl)

-- u is struck out: the Rest are left, which come after it
module _ (p : Problem) (u : Point) (Left Rest : Point → Type 0) (split : (x : Point) → Left x → (x ≡ u) ⊎ Rest x) (rest : (x : Point) → Rest x → Left x)
    (later : (x : Point) → Rest x → Before u x) where
  strike-sound : (room : ℕ) (c : Core) (o : Level) (ls : List Level) → Sound p Left room c → u ≡ lowers c.deepest.box → Fixed c.deepest.box → c.outer ≡ o ∷ ls →
      Backed p Rest room (back_up (depth c) c)
  unfolding with_levels kept
  strike-sound room c o ls s here f e =
      let l = c.deepest in
      let chain : Chain p l (o ∷ ls) = subst (λ (xs : List Level). Chain p l xs) e s.chain in
      let ordered = chain-ordered p l (o ∷ ls) chain in
      let inside : Inside u l.box = subst (λ (x : Point). Inside x l.box) (sym here) (lowers-inside l.box ordered) in
      let low = nested-inside u l.box (low_half l.decided o.box) chain.1 inside in
      let deep : depth c ≡ suc (length ls) = unfold depth in ap length e in
      let fits : CoreFits (back_up (depth c) c) = subst (λ (d : ℕ). CoreFits (back_up d c)) (sym deep) (back_fits (length ls) c s.fits (omega arith)) in
      subst (Backed p Rest room) (sym (back_one c o ls e))
      (record {
        left = remaining p (flip_at p.thresholds l.decided o) ls;
        less = omega (arith, s.left, ap (remaining p l) e, remaining-back p 0 l l (o ∷ ls) refl ordered (chain-outside p l (o ∷ ls) chain) chain);
        sound = flipped-sound p Rest (remaining p (flip_at p.thresholds l.decided o) ls) c l.decided o ls s.thresholds (subst CoreFits (back_one c o ls e) fits)
            (λ g. record {
              fits = g;
              variables = s.variables;
              thresholds = s.thresholds;
              inputs = s.inputs;
              implied = s.implied;
              chain = chain_back p 0 l (o ∷ ls) chain;
              solves = λ x z. s.solves x (rest x z);
              cover = λ x z.
                  right (subst (λ (xs : List Level). Remains p x l xs) e (s.cover x (rest x z)))
                  (λ h. not-before-itself u x (here ∙ sym (fixed-only l.box x f h)) (later x z));
              exact = λ x z r.
                  right (split x (s.exact x z (subst (λ (xs : List Level). Remains p x l xs) (sym e) (inr r))))
                  (λ h. not-before-itself u x (sym h) (above-later p l.decided o ls u x chain.3 chain.2 low r));
              left = omega arith;
            });
      })

  -- the search goes on, without the mark
  pub strike-open : (k : ℕ) (s : Search) (o : Level) (ls : List Level) → Solved p Left k s → u ≡ lowers s.core.deepest.box → s.core.outer ≡ o ∷ ls → Open p Rest (suc k) (with_status s (back_up (depth s.core) s.core) undecided)
  unfolding with_status
  strike-open k s o ls d here e =
      let b = strike-sound d.at.room s.core o ls d.at.sound here d.finishes.fixed e in
      record { room = b.left; sound = b.sound; total = omega (arith, d.at.total, b.less); budget = d.at.budget; afford = d.at.afford; creeps = omega (arith, d.at.creeps); status = refl }

-- ---- what a strike answers
pub exclude-unsolved : (s : Search) → (s.status ≡ undecided) ⊎ (s.status ≡ infeasible) → exclude s ≡ unchanged unsolved s
unfolding exclude exclude_by
exclude-unsolved s (inl e) = rw e
exclude-unsolved s (inr e) = rw e

pub exclude-ended : (s : Search) → s.status ≡ solved → s.core.outer ≡ [] → exclude s ≡ unchanged ended s
unfolding exclude exclude_by depth exclude_at
exclude-ended s e n = rw (e, n)

pub exclude-struck : (s : Search) (o : Level) (ls : List Level) → s.status ≡ solved → s.core.outer ≡ o ∷ ls → exclude s ≡ record { answer = struck; state = with_status s (back_up (depth s.core) s.core) undecided }
unfolding exclude exclude_by
exclude-struck s o ls e n = rw e (let deep : depth s.core ≡ suc (length ls) = unfold depth in ap length n in rw deep (unfold exclude_at in refl))

-- N5's count stays
pub exclude-set : (s : Search) → (exclude s).state.propagations ≡ s.propagations
unfolding exclude exclude_by exclude_at unchanged with_status
exclude-set s = by s.status
  where
    at : (d : ℕ) → (exclude_at d s).state.propagations ≡ s.propagations
    at zero = refl
    at (suc d) = refl

    by : (m : Status) → (exclude_by m s).state.propagations ≡ s.propagations
    by undecided = refl
    by infeasible = refl
    by solved = at (depth s.core)
