-- The laws of problems changed, all of them. What a narrower problem has as its first solution needs no law of the change.
use Prim.Native.Nat.{◌+◌, ◌-◌}
use native.Mathlib.Omega.{arith}
use mathlib.Core.List.{List, [], ◌∷◌, ◌++◌}
use mathlib.Core.Path.{◌≡◌, refl, ap}
use lib.ListN.{set, length, length-append}
use Rattle.model_problems.specs.Constraint.{Constraint}
use Rattle.model_problems.specs.Problem.{Problem}
use Rattle.modify.specs.Changed.{with_constraints, appended, replaced, last_replaced}
use Rattle.modify.specs.Changes.{Changes}
use Rattle.modify.proofs.Acceptability.{appended-fine, replaced-fine, without-fine, reduced-fine, closed-fine}
use Rattle.modify.proofs.Solutions.{appended-solves, replaced-solves, without-solves, without_more, reduced-solves, reduced-more, closed-solves}

-- the last place of a list with one more is that one's
set_last : (ks : List Constraint) (k l : Constraint) → set (ks ++ (k ∷ [])) (length (ks ++ (k ∷ [])) - 1) l ≡ ks ++ (l ∷ [])
set_last ks k l = rw (length-append) (let e : length ks + 1 - 1 ≡ length ks = omega arith in rw e (set_at ks))
  where
    set_at : (ls : List Constraint) → set (ls ++ (k ∷ [])) (length ls) l ≡ ls ++ (l ∷ [])
    set_at [] = refl
    set_at (x ∷ ls) = ap (λ (r : List Constraint). x ∷ r) (set_at ls)

last-put : (p : Problem) (k l : Constraint) → last_replaced (appended p k) l ≡ appended p l
unfolding last_replaced replaced appended with_constraints
last-put p k l = ap (with_constraints p) (set_last p.constraints k l)

pub changes-hold : Changes
changes-hold =
    record {
      appended-acceptable = λ p k a s l. appended-fine p a k s l;
      replaced-acceptable = λ j p k a s. replaced-fine p a k s j;
      without-acceptable = λ j p a. without-fine p a j;
      reduced-acceptable = λ mask p a. reduced-fine p a mask;
      closed-acceptable = λ i p a. closed-fine p a i;
      appended-solutions = λ p k x. appended-solves x p k;
      replaced-solutions = λ j p k x l. replaced-solves x p j l k;
      without-solutions = λ j p x l. without-solves x p j l;
      reduced-solutions = λ mask p x. reduced-solves x p mask;
      closed-solutions = λ i p x z. closed-solves i p x z;
      last-replaced = last-put;
      appended-narrower = λ p k x s. ((appended-solves x p k).0 s).0;
      without-wider = λ j p x. without_more x p j;
      reduced-wider = λ mask p x. reduced-more x p mask;
      closed-narrower = λ i p z x s. ((closed-solves i p x z).0 s).0;
      same-or-later = λ p q h x y f g. f.first y (h y g.solves);
      stays-first = λ p q h x f s. record { solves = s; first = λ v t. f.first v (h v t) };
      none_stays = λ p q h none x s. none x (h x s);
    }
