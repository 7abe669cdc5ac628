-- The solutions of a problem changed: a constraint among others is met beside them, what is left of the constraints is some of them, in their order, and a
-- variable closed is 0.
use Prim.Native.Nat.{ℕ, zero, suc, ◌<◌}
use native.Mathlib.Omega.{arith}
use mathlib.Core.Bool.{Bool, true, false}
use mathlib.Core.List.Sublistᴰ
use mathlib.Core.List.{List, [], ◌∷◌, ◌++◌, append-nil, Sublistᴰ}
use mathlib.Core.Logic.{◌↔◌}
use mathlib.Core.Path.{◌≡◌, refl, ◌∙◌}
use lib.Dec.{leb→le}
use lib.IntN.{ℤ, pos, negsuc}
use lib.Signed.{◌≤ℤ◌, le_z_yes}
use lib.ListN.{get_or, set, length, take, drop}
use lib.Seq.{split_at, set_split, set-set, set-get_or}
use Rattle.model_problems.specs.Constraint.{Constraint, Bounds, Box, no_bounds, lower_at, upper_at}
use Rattle.model_problems.specs.Threshold.{in_gap, allowed}
use Rattle.model_problems.specs.Problem.{Problem}
use Rattle.model_problems.specs.Points.{Point, Inside, Allowed, Meets, MeetsAll, Solution}
use Rattle.model_files.specs.File.{no_constraint}
use Rattle.lists.proofs.Bools.{clash}
use Rattle.modify.specs.Changed.{with_constraints, appended, replaced, without, chosen, reduced, shut, closed}
use Rattle.modify.specs.Changes.{MeetsChosen, AllowsZero}

-- ---- some of the constraints, in their order
pub without-part : (j : ℕ) (ks : List Constraint) → Sublistᴰ (take j ks ++ drop (suc j) ks) ks
without-part zero [] = Sublistᴰ.slnil
without-part zero (k ∷ ks) = Sublistᴰ.cons (Sublistᴰ.refl ks)
without-part (suc j) [] = Sublistᴰ.slnil
without-part (suc j) (k ∷ ks) = Sublistᴰ.cons-cons refl (without-part j ks)

pub chosen-part : (mask : List Bool) (ks : List Constraint) → Sublistᴰ (chosen mask ks) ks
unfolding chosen
chosen-part [] ks = Sublistᴰ.nil-sublist ks
chosen-part (b ∷ mask) [] = Sublistᴰ.slnil
chosen-part (true ∷ mask) (k ∷ ks) = Sublistᴰ.cons-cons refl (chosen-part mask ks)
chosen-part (false ∷ mask) (k ∷ ks) = Sublistᴰ.cons (chosen-part mask ks)

module _ (x : Point) where
  part-met : {ls ks : List Constraint} → Sublistᴰ ls ks → MeetsAll x ks → MeetsAll x ls
  part-met Sublistᴰ.slnil m = tt
  part-met (Sublistᴰ.cons s) m = part-met s m.1
  part-met (Sublistᴰ.cons-cons e s) m = (rw e m.0, part-met s m.1)

  -- ---- a constraint among others
  put-met : (ls : List Constraint) (k : Constraint) (rs : List Constraint) → MeetsAll x (ls ++ (k ∷ rs)) ↔ (MeetsAll x (ls ++ rs) × Meets x k)
  put-met [] k rs = (λ m. (m.1, m.0), λ m. (m.1, m.0))
  put-met (l ∷ ls) k rs =
      let r = put-met ls k rs in
      (λ m. let t = r.0 m.1 in ((m.0, t.0), t.1), λ m. (m.0.0, r.1 (m.0.1, m.1)))

  -- ---- those that the mask keeps
  chosen-met : (mask : List Bool) (ks : List Constraint) → MeetsAll x (chosen mask ks) → MeetsChosen mask x ks
  unfolding chosen
  chosen-met [] ks m j l e = clash e refl
  chosen-met (b ∷ mask) [] m j l e = absurd (omega arith)
  chosen-met (true ∷ mask) (k ∷ ks) m zero l e = m.0
  chosen-met (true ∷ mask) (k ∷ ks) m (suc j) l e = chosen-met mask ks m.1 j (omega arith) e
  chosen-met (false ∷ mask) (k ∷ ks) m zero l e = clash e refl
  chosen-met (false ∷ mask) (k ∷ ks) m (suc j) l e = chosen-met mask ks m j (omega arith) e

  met-chosen : (mask : List Bool) (ks : List Constraint) → MeetsChosen mask x ks → MeetsAll x (chosen mask ks)
  unfolding chosen
  met-chosen [] ks h = tt
  met-chosen (b ∷ mask) [] h = tt
  met-chosen (true ∷ mask) (k ∷ ks) h = (h 0 (omega arith) refl, met-chosen mask ks (λ j l e. h (suc j) (omega arith) e))
  met-chosen (false ∷ mask) (k ∷ ks) h = met-chosen mask ks (λ j l e. h (suc j) (omega arith) e)

  -- ---- the solutions with other constraints
  module _ (p : Problem) where
    part-solves : {ls : List Constraint} → Sublistᴰ ls p.constraints → Solution p x → Solution (with_constraints p ls) x
    unfolding with_constraints
    part-solves s r = record { inside = r.inside; allowed = r.allowed; meets = part-met s r.meets }

    put-solves : (ks ls rs : List Constraint) (k : Constraint) → ks ≡ ls ++ (k ∷ rs) →
        Solution (with_constraints p ks) x ↔ (Solution (with_constraints p (ls ++ rs)) x × Meets x k)
    unfolding with_constraints
    put-solves ks ls rs k e =
        let r = put-met ls k rs in (
          λ s. let m = r.0 (rw e at s.meets) in (record { inside = s.inside; allowed = s.allowed; meets = m.0 }, m.1),
          λ s. record { inside = s.0.inside; allowed = s.0.allowed; meets = rw e (r.1 (s.0.meets, s.1)) },
        )

    pub appended-solves : (k : Constraint) → Solution (appended p k) x ↔ (Solution p x × Meets x k)
    unfolding appended with_constraints
    appended-solves k = rw (append-nil p.constraints) at (put-solves (p.constraints ++ (k ∷ [])) p.constraints [] k refl)

    module _ (j : ℕ) (l : j < length p.constraints) where
      pub replaced-solves : (k : Constraint) → Solution (replaced j p k) x ↔ (Solution (without j p) x × Meets x k)
      unfolding replaced without
      replaced-solves k = put-solves (set p.constraints j k) (take j p.constraints) (drop (suc j) p.constraints) k (set_split p.constraints j k l)

      pub without-solves : Solution p x ↔ (Solution (without j p) x × Meets x (get_or p.constraints j no_constraint))
      unfolding without with_constraints
      without-solves =
          put-solves p.constraints (take j p.constraints) (drop (suc j) p.constraints) (get_or p.constraints j no_constraint)
          (split_at p.constraints j no_constraint l)

    pub without_more : (j : ℕ) → Solution p x → Solution (without j p) x
    unfolding without
    without_more j = part-solves (without-part j p.constraints)

    pub reduced-more : (mask : List Bool) → Solution p x → Solution (reduced mask p) x
    unfolding reduced
    reduced-more mask = part-solves (chosen-part mask p.constraints)

    pub reduced-solves : (mask : List Bool) →
        Solution (reduced mask p) x ↔ (Inside x p.domain × Allowed p.thresholds x × MeetsChosen mask x p.constraints)
    unfolding reduced with_constraints
    reduced-solves mask = (
      λ s. (s.inside, s.allowed, chosen-met mask p.constraints s.meets),
      λ s. record { inside = s.0; allowed = s.1; meets = met-chosen mask p.constraints s.2 },
    )

-- ---- a variable that is 0: limits around 0 hold it, and every threshold allows it
inside-set : (i : ℕ) (b : Bounds) (x : Point) (box : Box) → get_or x i (pos 0) ≡ pos 0 → b.lower ≤ℤ pos 0 → pos 0 ≤ℤ b.upper →
    Inside x box → Inside x (set box i b)
inside-set i b [] [] e l u h = tt
inside-set i b [] (c ∷ box) e l u h = absurd h
inside-set i b (v ∷ x) [] e l u h = absurd h
inside-set zero b (v ∷ x) (c ∷ box) e l u h = (rw e l, rw e u, h.2)
inside-set (suc i) b (v ∷ x) (c ∷ box) e l u h = (h.0, h.1, inside-set i b x box e l u h.2)

zero-allowed : (t : ℤ) → allowed t (pos 0) ≡ true
unfolding allowed in_gap
zero-allowed t = refl

allowed-set : (i : ℕ) (t : ℤ) (ts : List ℤ) (x : Point) → get_or x i (pos 0) ≡ pos 0 → Allowed ts x → Allowed (set ts i t) x
allowed-set i t [] [] e h = tt
allowed-set i t [] (v ∷ x) e h = absurd h
allowed-set i t (s ∷ ts) [] e h = absurd h
allowed-set zero t (s ∷ ts) (v ∷ x) e h = (rw e (zero-allowed t), h.1)
allowed-set (suc i) t (s ∷ ts) (v ∷ x) e h = (h.0, allowed-set i t ts x e h.1)

-- and one whose limits are both 0 is 0
between-zeros : (v : ℤ) → pos 0 ≤ℤ v → v ≤ℤ pos 0 → v ≡ pos 0
between-zeros (pos zero) l u = refl
between-zeros (pos (suc v)) l u = absurd (omega (arith, leb→le (suc v) 0 u.le))
between-zeros (negsuc v) l u = absurd l.le

closed-zero : (i : ℕ) (x : Point) (box : Box) → Inside x (set box i shut) → get_or x i (pos 0) ≡ pos 0
closed-zero i [] box h = refl
closed-zero i (v ∷ x) [] h = absurd h
closed-zero zero (v ∷ x) (b ∷ box) h = between-zeros v h.0 h.1
closed-zero (suc i) (v ∷ x) (b ∷ box) h = closed-zero i x box h.2

-- ---- a variable closed, and one opened again: what was set is set back
set_back : {A : Type 0} (xs : List A) (i : ℕ) (a d : A) → set (set xs i a) i (get_or xs i d) ≡ xs
set_back xs i a d = set-set xs i a (get_or xs i d) ∙ set-get_or xs i d

module _ (i : ℕ) (p : Problem) (x : Point) (a : AllowsZero p i) where
  opened : get_or x i (pos 0) ≡ pos 0 → Solution (closed i p) x → Solution p x
  unfolding closed lower_at upper_at
  opened z s =
      record {
        inside = rw (set_back p.domain i shut no_bounds) at
            (inside-set i (get_or p.domain i no_bounds) x (set p.domain i shut) z a.low a.high s.inside);
        allowed = rw (set_back p.thresholds i (pos 0) (pos 0)) at
            (allowed-set i (get_or p.thresholds i (pos 0)) (set p.thresholds i (pos 0)) x z s.allowed);
        meets = s.meets;
      }

  pub closed-solves : Solution (closed i p) x ↔ (Solution p x × (get_or x i (pos 0) ≡ pos 0))
  unfolding closed
  closed-solves = (
    λ s. let z = closed-zero i x p.domain s.inside in (opened z s, z),
    λ s. record {
      inside = inside-set i shut x p.domain s.1 (le_z_yes tt) (le_z_yes tt) s.0.inside;
      allowed = allowed-set i (pos 0) p.thresholds x s.1 s.0.allowed;
      meets = s.0.meets;
    },
  )
