-- The fields that the code puts one after the other are the sizes of a head, and a constraint's content.
use Prim.Native.Nat.{ℕ, zero, suc, ◌+◌, ◌*◌, ◌^◌, ◌<◌, ◌≤◌}
use native.Mathlib.Omega.{arith}
use mathlib.Core.Bool.{true}
use native.Mathlib.Numerals.{add-one}
use mathlib.Core.Path.{◌≡◌, refl, sym, ap, ap₂, ◌∙◌}
use mathlib.Core.List.{List, ◌++◌}
use lib.IntN.{ℤ, pos}
use lib.ListN.{get_or, take}
use mir.Syntax.{w64}
use mir.Val.{SFits, to_z, of_z}
use mir.Facts.{to_z-of_z}
use Rattle.model_files.specs.Bytes.{u16_bytes, u32_bytes, i32_bytes, check_offset, sealed}
use Rattle.model_problems.specs.Constraint.{coefficient_at, in_range, is_divisor}
use Rattle.model_files.specs.File.{magic, divisor_offset, coefficient_bytes, numbers_bytes, constraint_bytes}
use Rattle.model_problems.specs.Lists.{tab, parts, all}
use Rattle.model_problems.specs.Ranges.{within, max_variables, max_coefficient}
use Rattle.integer.specs.Size.{Within}
use Rattle.lists.proofs.All.{all-at}
use Rattle.lists.proofs.Bools.{and-true}
use Rattle.format.proofs.Within.{within-nat_abs, divisor-nat_abs}
use Rattle.layout.proofs.Rows.{coefficient-at}
use Rattle.layout.specs.Rows.{number_in, cell, constraint_at, divided_at}
use Rattle.block.proofs.Placing.{then, more-placed}
use Rattle.block.proofs.Sealing.{padded-placed, sealed-content}
use Rattle.block.specs.Placed.{Placed, cleared}
use Rattle.layout.proofs.Tests.{small_at, range-tests}
use Rattle.fields.proofs.FileTests.{magic_number, magic-bytes}

-- a number that passed its test has room in 32 bits, as the machine reads it back
pub within-back : (b : ℕ) (z : ℤ) → b ≤ 2 ^ 30 → SFits w64 z → within b z ≡ true → Within (2 ^ 31) (to_z w64 (of_z w64 z))
within-back b z l f e = rw (to_z-of_z f) (record { within = omega (arith, within-nat_abs b z e) })

pub divisor-back : (q : ℤ) → SFits w64 q → is_divisor q ≡ true → Within (2 ^ 31) (to_z w64 (of_z w64 q))
divisor-back q f e = rw (to_z-of_z f) (record { within = omega (arith, divisor-nat_abs q e) })

-- a field's place, said otherwise
pub moved : {s b t : List ℕ} {i j : ℕ} (i' j' : ℕ) → i ≡ i' → j ≡ j' → Placed s i j b t → Placed s i' j' b t
moved i' j' e h p = record { width = omega (arith, p.width); whole = p.whole ∙ rw (e, h) }

-- ---- the head: the letters and the sizes
pub sizes-placed : {s t u v w : List ℕ} (n m b : ℕ) → Placed s 0 4 (u32_bytes magic_number) t → Placed t 4 6 (u16_bytes n) u → Placed u 6 8 (u16_bytes m) v → Placed v 8 12 (u32_bytes b) w →
    Placed s 0 12 (magic ++ (u16_bytes n ++ (u16_bytes m ++ u32_bytes b))) w
sizes-placed n m b p q r o = rw (← magic-bytes) (then p (then q (then r o)))

-- ---- a constraint: the numbers of its row
number-room : (n : ℕ) (row : List ℤ) (i : ℕ) → i ≤ n → in_range (constraint_at n row 0) ≡ true → within max_coefficient (number_in row i) ≡ true
unfolding small_at cell
number-room n row zero l r = (and-true _ (all (tab (small_at row 0) 0 n)) (sym (range-tests n row 0) ∙ r)).0
number-room n row (suc i) l r =
    let c = within max_coefficient (number_in row 0) in
    let e : 0 + 1 + i ≡ suc i = omega arith in
    rw e at (all-at (small_at row 0) n i (and-true c _ (sym (range-tests n row 0) ∙ r)).1 (omega arith))

pub number-back : (n : ℕ) (row : List ℤ) (i : ℕ) → i ≤ n → in_range (constraint_at n row 0) ≡ true → SFits w64 (get_or row i (pos 0)) → Within (2 ^ 31) (to_z w64 (of_z w64 (get_or row i (pos 0))))
unfolding number_in
number-back n row i l r f = within-back max_coefficient _ (omega arith) f (number-room n row i l r)

abbrev pub number_bytes : List ℤ → ℕ → List ℕ
number_bytes row i = i32_bytes (number_in row i)

pub numbers-more : (row : List ℤ) {s t u : List ℕ} (i a : ℕ) → a ≡ 4 * i → SFits w64 (get_or row i (pos 0)) → Placed s 0 (4 * i) (parts (number_bytes row) 0 i) t →
    Placed t a (a + 4) (i32_bytes (to_z w64 (of_z w64 (get_or row i (pos 0))))) u → Placed s 0 (4 * (i + 1)) (parts (number_bytes row) 0 (i + 1)) u
unfolding number_in
numbers-more row {s} {t} {u} i a e f x y =
    let next : Placed t (4 * i) (4 * (i + 1)) (i32_bytes (get_or row i (pos 0))) u = rw (to_z-of_z f) at (moved (4 * i) (4 * (i + 1)) (omega arith) (omega arith) y) in
    more-placed (number_bytes row) i x next

parts-shift : (f g : ℕ → List ℕ) (i j c : ℕ) → ((k : ℕ) → k < c → f (i + k) ≡ g (j + k)) → parts f i c ≡ parts g j c
unfolding parts
parts-shift f g i j zero h = refl
parts-shift f g i j (suc c) h =
    let first : f i ≡ g j = ap f (omega arith) ∙ h 0 (omega arith) ∙ ap g (omega arith) in
    ap₂ (λ (x l : List ℕ). x ++ l) first (parts-shift f g (suc i) (suc j) c (λ k l. ap f (omega arith) ∙ h (suc k) (omega arith) ∙ ap g (omega arith)))

numbers-are : (n : ℕ) (row : List ℤ) → parts (number_bytes row) 0 (n + 1) ≡ numbers_bytes n (constraint_at n row 0)
unfolding parts numbers_bytes coefficient_bytes constraint_at cell
numbers-are n row =
    rw add-one
    (ap (λ (l : List ℕ). number_bytes row 0 ++ l)
    (parts-shift (number_bytes row) (coefficient_bytes (constraint_at n row 0)) 1 0 n
    (λ k l. ap i32_bytes (ap (number_in row) (omega arith) ∙ sym (coefficient-at n row 0 (0 + k) (omega arith))))))

pub numbers-end : (n : ℕ) (row : List ℤ) {s u : List ℕ} (i : ℕ) → n + 1 ≤ i → i ≤ n + 1 → Placed s 0 (4 * i) (parts (number_bytes row) 0 i) u → Placed s 0 (4 + 4 * n) (numbers_bytes n (constraint_at n row 0)) u
numbers-end n row i l h x =
    let z : i ≡ n + 1 = omega arith in
    let e : 4 * (n + 1) ≡ 4 + 4 * n = omega arith in
    rw (z, e, numbers-are n row) at x

module _ (n : ℕ) (row : List ℤ) (q : ℤ) (f : SFits w64 q) where
  -- a divisor does not change the numbers before it
  pub divisor-placed : {s t u : List ℕ} → n ≤ max_variables → s ≡ cleared → Placed s 0 (4 + 4 * n) (numbers_bytes n (constraint_at n row 0)) t →
      Placed t divisor_offset (divisor_offset + 4) (i32_bytes (to_z w64 (of_z w64 q))) u → Placed cleared 0 (divisor_offset + 4) (constraint_bytes n (divided_at n row 0 q)) u
  unfolding constraint_bytes numbers_bytes coefficient_bytes coefficient_at constraint_at divided_at
  divisor-placed {s} {t} {u} l e x y = then (padded-placed divisor_offset (rw e at x) (omega arith) (omega arith)) (rw (to_z-of_z f) at y)

  pub constraint-sealed : {s t u v : List ℕ} (k : ℕ) → n ≤ max_variables → s ≡ cleared → Placed s 0 (4 + 4 * n) (numbers_bytes n (constraint_at n row 0)) t →
      Placed t divisor_offset (divisor_offset + 4) (i32_bytes (to_z w64 (of_z w64 q))) u → v ≡ sealed k (take check_offset u) → v ≡ sealed k (constraint_bytes n (divided_at n row 0 q))
  constraint-sealed k l e x y g = sealed-content k g (divisor-placed l e x y) (omega arith) refl
