-- How many values a variable has from L to U: those from L on are L and those from the next one on.
use Prim.Native.Nat.{ℕ, zero, suc, ◌+◌, ◌-◌, ◌≤◌}
use native.Mathlib.Omega.{arith}
use mathlib.Core.Bool.{Bool, true, false, not, cond}
use mathlib.Core.List.{List, ◌∷◌}
use mathlib.Core.Logic.{⊎_elim}
use mathlib.Core.Path.{◌≡◌, refl, ◌∙◌}
use lib.Dec.{T}
use lib.IntN.{ℤ, pos, nat_abs, suc_ℤ, ◌-ℤ◌}
use lib.Signed.{le_z}
use lib.ListN.{length}
use Rattle.model_problems.specs.Lists.{filter}
use Rattle.model_problems.specs.Threshold.{in_gap, allowed, lifted, next_value}
use Rattle.model_problems.specs.Points.{whole_numbers, numbers_from, values}
use Rattle.integer.specs.Parts.{up, down, ◌⊑◌, ◌⊏◌, suc-parts, le_in, lt_in, nle-in, eq-out}
use Rattle.integer.specs.Order.{≤-or-<}
use Rattle.integer.specs.Tests.{is_true, is_false, not_in}
use Rattle.validity.proofs.Boxes.{gap_parts}
use Rattle.validity.proofs.Thresholds.{gap-in, allowed-in, follows}

-- the whole numbers, at the parts
pub whole_parts : (l u : ℤ) → whole_numbers l u ≡ suc (up u + down l) - (up l + down u)
unfolding whole_numbers
whole_parts l u = go (le_z l u) (le_in l u) (nle-in l u)
  where
    go : (t : Bool) → (T t → l ⊑ u) → (T (not t) → u ⊏ l) → cond t (suc (nat_abs (u -ℤ l))) 0 ≡ suc (up u + down l) - (up l + down u)
    go true f g = let h = f tt in omega (arith, gap_parts l u h)
    go false f g = let h = g tt in omega arith

-- ---- of n numbers from l on
unfoldable counted : ℤ → ℕ → ℤ → ℕ
counted t n l = length (filter (allowed t) (numbers_from n l))

one_more : (b : Bool) (l : ℤ) (xs : List ℤ) → length (cond b (l ∷ xs) xs) ≡ cond b 1 0 + length xs
one_more true l xs = omega arith
one_more false l xs = omega arith

counted-suc : (t : ℤ) (n : ℕ) (l : ℤ) → counted t (suc n) l ≡ cond (allowed t l) 1 0 + counted t n (suc_ℤ l)
unfolding counted filter numbers_from
counted-suc t n l = one_more (allowed t l) l (filter (allowed t) (numbers_from n (suc_ℤ l)))

-- the first n, and the others, from m on
counted-split : (t : ℤ) (n k : ℕ) (l m : ℤ) → up m + down l ≡ n + (up l + down m) → counted t (n + k) l ≡ counted t n l + counted t k m
counted-split t zero k l m e =
    let z : 0 + k ≡ k = omega arith in
    let none : counted t 0 l ≡ 0 = unfold counted filter numbers_from in refl in
    let here : l ≡ m = eq-out l m (omega arith) in
    rw (z, none, here) (omega arith)
counted-split t (suc n) k l m e =
    let z : suc n + k ≡ suc (n + k) = omega arith in
    rw z (omega (arith, counted-suc t (n + k) l, counted-suc t n l, counted-split t n k (suc_ℤ l) m (omega (arith, suc-parts l))))

-- none of them, where all lie in the gap
counted_none : (t : ℤ) (n : ℕ) (l : ℤ) → pos 1 ⊑ l → n + (up l + down t) ≤ up t + down l → counted t n l ≡ 0
counted_none t zero l h k = unfold counted filter numbers_from in refl
counted_none t (suc n) l h k =
    let refused : allowed t l ≡ false = is_false (allowed t l) (not_in (allowed t l) (λ a. ⊎_elim (λ (i : l ⊏ pos 1). omega arith) (λ (i : t ⊑ l). omega arith) (allowed-in t l a))) in
    let here : ◌≡◌ {A = ℕ} (cond (allowed t l) 1 0) 0 = rw refused in
    omega (arith, counted-suc t n l, here, counted_none t n (suc_ℤ l) (omega (arith, suc-parts l)) (omega (arith, suc-parts l)))

-- ---- from L to U
unfoldable pub values_between : ℤ → ℤ → ℤ → ℕ
values_between t l u = length (values t (record { lower = l; upper = u }))

between : (t l u : ℤ) → values_between t l u ≡ counted t (whole_numbers l u) l
unfolding values_between values counted
between t l u = refl

none_between : (t l u : ℤ) → u ⊏ l → values_between t l u ≡ 0
none_between t l u h =
    let z : whole_numbers l u ≡ 0 = omega (arith, whole_parts l u) in
    between t l u ∙ rw z (unfold counted filter numbers_from in refl)

-- a bound that jumps loses none
lifted-values : (t v u : ℤ) → values_between t v u ≡ values_between t (lifted t v) u
unfolding lifted
lifted-values t v u = go (in_gap t v) (gap-in t v)
  where
    -- up to U all lie in the gap, or those below t do
    past : (pos 1 ⊑ v) × (v ⊏ t) → values_between t v u ≡ values_between t t u
    past g =
        ⊎_elim
        (λ h. let k = le_in t u h.le in
        let n = up t + down v - (up v + down t) in
        let z : whole_numbers v u ≡ n + whole_numbers t u = omega (arith, whole_parts v u, whole_parts t u) in
        between t v u ∙ rw z (omega (arith, counted-split t n (whole_numbers t u) v t (omega arith), counted_none t n v g.0 (omega arith), between t t u)))
        (λ h. let k = lt_in u t h.lt in omega (arith, between t v u, counted_none t (whole_numbers v u) v g.0 (omega (arith, whole_parts v u)), none_between t t u k))
        (≤-or-< t u)

    go : (b : Bool) → (T b → (pos 1 ⊑ v) × (v ⊏ t)) → values_between t v u ≡ values_between t (cond b t v) u
    go true f = past (f tt)
    go false f = refl

pub values-next : (t l u : ℤ) → T (allowed t l) → l ⊑ u → values_between t l u ≡ suc (values_between t (next_value t l) u)
values-next t l u a h =
    let z : whole_numbers l u ≡ suc (whole_numbers (suc_ℤ l) u) = omega (arith, whole_parts l u, whole_parts (suc_ℤ l) u, suc-parts l) in
    let one : ◌≡◌ {A = ℕ} (cond (allowed t l) 1 0) 1 = rw (is_true (allowed t l) a) in
    let next : values_between t (suc_ℤ l) u ≡ values_between t (next_value t l) u = unfold next_value in lifted-values t (suc_ℤ l) u in
    between t l u ∙ rw z (omega (arith, counted-suc t (whole_numbers (suc_ℤ l) u) l, one, between t (suc_ℤ l) u, next))

-- L alone is one
pub values-alone : (t l : ℤ) → T (allowed t l) → values_between t l l ≡ 1
values-alone t l a = omega (arith, values-next t l l a (omega arith), none_between t (next_value t l) l (follows t l).above)

pub values-nested : (t l u bottom top : ℤ) → bottom ⊑ l → l ⊑ u → u ⊑ top → values_between t l u ≤ values_between t bottom top
values-nested t l u bottom top b h k =
    let below = up l + down bottom - (up bottom + down l) in
    let here = whole_numbers l u in
    let above = up top + down u - (up u + down top) in
    let z : whole_numbers bottom top ≡ below + (here + above) = omega (arith, whole_parts bottom top, whole_parts l u) in
    let outer : values_between t bottom top ≡ counted t (below + (here + above)) bottom = between t bottom top ∙ rw z in
    omega (arith, outer, between t l u, counted-split t below (here + above) bottom l (omega arith), counted-split t here above l (suc_ℤ u) (omega (arith, whole_parts l u, suc-parts u)))
