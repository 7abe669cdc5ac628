-- The fields that the code puts one after the other are a block's content, and the blocks are the file.
use Prim.Native.Nat.{ℕ, suc, ◌+◌, ◌*◌, ◌^◌, ◌-◌, ◌<◌, ◌≤◌}
use native.Mathlib.Omega.{arith}
use native.Mathlib.Numerals.{add-one}
use mathlib.Core.Bool.{true}
use mathlib.Core.Path.{◌≡◌, refl, sym, ap, ◌∙◌}
use mathlib.Core.List.{List, ◌++◌, append_assoc, append-nil}
use lib.IntN.{ℤ, pos}
use lib.ListN.{get_or, take, drop, length, length-append, length-drop}
use lib.Seq.{length-take-le}
use mir.Syntax.{w64}
use mir.Val.{SFits, to_z, of_z}
use mir.Facts.{to_z-of_z}
use borrow.Rule.Slice.PartMut.{put_mid}
use Rattle.model_files.specs.Bytes.{u16_bytes, u32_bytes, i32_bytes, block_length, check_offset, sealed}
use Rattle.model_problems.specs.Constraint.{in_range, is_divisor, divisor_in_range}
use Rattle.model_problems.specs.Threshold.{threshold_at}
use Rattle.model_files.specs.File.{magic, bounds_offset, threshold_offset, bounds_bytes, threshold_bytes, limits_bytes, head_bytes, constraint_bytes, no_constraint, block_of, file_of, file_length}
use Rattle.model_problems.specs.Lists.{parts, all}
use Rattle.model_problems.specs.Problem.{variables, bounds_in_range, domain_in_range, thresholds_in_range, constraints_in_range, divisors_in_range}
use Rattle.model_problems.specs.Ranges.{within, max_variables, max_bound}
use Rattle.integer.specs.Size.{Within}
use Rattle.lists.proofs.Loops.{every-at}
use Rattle.lists.proofs.Bools.{and-true}
use Rattle.lists.proofs.Parts.{parts-append}
use Rattle.lists.proofs.Tab.{get_d-tab}
use Rattle.format.proofs.Within.{threshold-small}
use Rattle.layout.proofs.Slices.{constraint-between, divided-between}
use Rattle.std.specs.List.{between}
use Rattle.layout.proofs.Rows.{length-box, lower-at, upper-at}
use Rattle.layout.specs.Rows.{row_length, number_in, constraint_at, divided_at, input_at, bounds_at, box_of, thresholds_of}
use Rattle.block.proofs.Placing.{then, none-placed, more-placed, part_placed}
use Rattle.block.proofs.Sealing.{padded-placed, sealed-content}
use Rattle.block.specs.Placed.{Placed, cleared}
use Rattle.fields.proofs.Writing.{within-back, moved}
use Rattle.problem.specs.declared.Problem.{Problem}
use Rattle.problem.proofs.Checking.{variable-count, constraint-count}
use Rattle.problem.specs.View.{problem_of}

-- ---- the bounds
module _ (p : Problem) (i : ℕ) (l : i < p.n) where
  bounds-pass : domain_in_range (problem_of p) ≡ true → (within max_bound (get_or p.lower i (pos 0)) ≡ true) × (within max_bound (get_or p.upper i (pos 0)) ≡ true)
  unfolding domain_in_range problem_of box_of bounds_in_range all bounds_at number_in
  bounds-pass d =
      let t = and-true _ _ (every-at bounds_in_range (bounds_at p.lower p.upper) p.n i d l) in
      (t.0, (and-true _ _ t.1).0)

  pub lower-room : domain_in_range (problem_of p) ≡ true → SFits w64 (get_or p.lower i (pos 0)) → Within (2 ^ 31) (to_z w64 (of_z w64 (get_or p.lower i (pos 0))))
  lower-room d f = within-back max_bound _ (omega arith) f (bounds-pass d).0

  pub upper-room : domain_in_range (problem_of p) ≡ true → SFits w64 (get_or p.upper i (pos 0)) → Within (2 ^ 31) (to_z w64 (of_z w64 (get_or p.upper i (pos 0))))
  upper-room d f = within-back max_bound _ (omega arith) f (bounds-pass d).1

  bounds-bytes : bounds_bytes (problem_of p) i ≡ i32_bytes (get_or p.lower i (pos 0)) ++ i32_bytes (get_or p.upper i (pos 0))
  unfolding bounds_bytes problem_of number_in
  bounds-bytes = rw (lower-at p.n p.lower p.upper i l, upper-at p.n p.lower p.upper i l)

  pub bounds-more : {s t u v : List ℕ} (a b : ℕ) → a ≡ bounds_offset i + 0 → b ≡ bounds_offset i + 4 → SFits w64 (get_or p.lower i (pos 0)) → SFits w64 (get_or p.upper i (pos 0)) →
      Placed s 12 (12 + 8 * i) (parts (bounds_bytes (problem_of p)) 0 i) t →
      Placed t a (a + 4) (i32_bytes (to_z w64 (of_z w64 (get_or p.lower i (pos 0))))) u →
      Placed u b (b + 4) (i32_bytes (to_z w64 (of_z w64 (get_or p.upper i (pos 0))))) v →
      Placed s 12 (12 + 8 * (i + 1)) (parts (bounds_bytes (problem_of p)) 0 (i + 1)) v
  unfolding bounds_offset
  bounds-more {s} {t} {u} {v} a b e h f g x y z =
      let low : Placed t (12 + 8 * i) b (i32_bytes (get_or p.lower i (pos 0))) u = rw (to_z-of_z f) at (moved (12 + 8 * i) b (omega arith) (omega arith) y) in
      let high : Placed u b (12 + 8 * (i + 1)) (i32_bytes (get_or p.upper i (pos 0))) v = rw (to_z-of_z g) at (moved b (12 + 8 * (i + 1)) (omega arith) (omega arith) z) in
      more-placed (bounds_bytes (problem_of p)) i x (rw bounds-bytes (then low high))

-- ---- the thresholds
module _ (p : Problem) (i : ℕ) (l : i < p.n) where
  threshold-at : threshold_at (problem_of p).thresholds i ≡ get_or p.thresholds i (pos 0)
  unfolding threshold_at problem_of thresholds_of number_in
  threshold-at = get_d-tab (number_in p.thresholds) p.n i (pos 0) l

  pub threshold-room : domain_in_range (problem_of p) ≡ true → thresholds_in_range (problem_of p) ≡ true → SFits w64 (get_or p.thresholds i (pos 0)) →
      Within (2 ^ 31) (to_z w64 (of_z w64 (get_or p.thresholds i (pos 0))))
  threshold-room d t f =
      rw (to_z-of_z f, ← threshold-at) (record { within = omega (arith, threshold-small (problem_of p) d t i (omega (arith, variable-count p))) })

  pub thresholds-more : {s t u : List ℕ} (a : ℕ) → a ≡ threshold_offset i → SFits w64 (get_or p.thresholds i (pos 0)) →
      Placed s 268 (268 + 4 * i) (parts (threshold_bytes (problem_of p)) 0 i) t →
      Placed t a (a + 4) (i32_bytes (to_z w64 (of_z w64 (get_or p.thresholds i (pos 0))))) u →
      Placed s 268 (268 + 4 * (i + 1)) (parts (threshold_bytes (problem_of p)) 0 (i + 1)) u
  unfolding threshold_offset threshold_bytes
  thresholds-more {s} {t} {u} a e f x y =
      let next : Placed t (268 + 4 * i) (268 + 4 * (i + 1)) (i32_bytes (get_or p.thresholds i (pos 0))) u = rw (to_z-of_z f) at (moved (268 + 4 * i) (268 + 4 * (i + 1)) (omega arith) (omega arith) y) in
      more-placed (threshold_bytes (problem_of p)) i x (rw threshold-at next)

-- ---- where a loop over the variables ends
pub fields-end : (f : ℕ → List ℕ) (n i a w : ℕ) {s t : List ℕ} → n ≤ i → i ≤ n → Placed s a (a + w * i) (parts f 0 i) t → Placed s a (a + w * n) (parts f 0 n) t
fields-end f n i a w l h x = let e : i ≡ n = omega arith in rw e at x

-- ---- the head's block
module _ (p : Problem) {y z : List ℕ} (few : p.n ≤ max_variables) (e : y ≡ cleared) (x : Placed y 0 12 (magic ++ (u16_bytes p.n ++ (u16_bytes p.m ++ u32_bytes p.budget))) z) where
  limits-placed : {s : List ℕ} → Placed z 12 (12 + 8 * p.n) (parts (bounds_bytes (problem_of p)) 0 p.n) s → Placed cleared 0 (12 + 8 * p.n) (limits_bytes (problem_of p)) s
  unfolding limits_bytes problem_of
  limits-placed b = rw (variable-count p, constraint-count p) (rw e at (simp append_assoc at (then x b)))

  pub head-sealed : {s t u : List ℕ} → Placed z 12 (12 + 8 * p.n) (parts (bounds_bytes (problem_of p)) 0 p.n) s →
      Placed s 268 (268 + 4 * p.n) (parts (threshold_bytes (problem_of p)) 0 p.n) t → u ≡ sealed 0 (take check_offset t) → u ≡ sealed 0 (head_bytes (problem_of p))
  unfolding head_bytes threshold_offset
  head-sealed b t f =
      rw (variable-count p) (sealed-content 0 f (then (padded-placed 268 (limits-placed b) (omega arith) (omega arith)) t) (omega arith) refl)

-- ---- the file
placed-length : {s b t : List ℕ} {i j : ℕ} → j ≤ length s → Placed s i j b t → length t ≡ length s
placed-length {s} {b} {t} {i} {j} l p =
    ap length p.whole ∙ length-append (take i s) (b ++ drop j s) ∙
    omega (arith, length-append b (drop j s), length-take-le i s (omega (arith, p.width)), length-drop j s, p.width)

module _ (p : Problem) where
  -- the head's part, as it comes back
  head-placed-at : {s part : List ℕ} → block_length ≤ length s → length part ≡ length (take block_length s) → part ≡ sealed 0 (head_bytes (problem_of p)) →
      (length (put_mid 0 block_length s part) ≡ length s) × Placed s 0 block_length (block_of (problem_of p) 0) (put_mid 0 block_length s part)
  unfolding block_of
  head-placed-at {s} {part} l k e = let x = part_placed s 0 block_length (omega arith) l k e in (placed-length l x, x)

  pub head-placed : {start end : ℕ} {s part : List ℕ} → (start ≡ 0) × (end ≡ block_length) → block_length ≤ length s → length part ≡ length (take (end - start) (drop start s)) →
      part ≡ sealed 0 (head_bytes (problem_of p)) →
      (length (put_mid start (end - start) s part) ≡ length s) × Placed s 0 block_length (block_of (problem_of p) 0) (put_mid start (end - start) s part)
  head-placed r l k e = rw (r.0, r.1) (head-placed-at l (rw (r.0, r.1) at k) e)

  pub no_blocks : (s : List ℕ) → Placed s block_length block_length (parts (block_of (problem_of p)) 1 0) s
  unfolding parts
  no_blocks s = none-placed (block_of (problem_of p)) s block_length

  module _ (j : ℕ) (l : j < p.m) where
    row-at : constraints_in_range (problem_of p) ≡ true → in_range (constraint_at p.n p.constraints (row_length * j)) ≡ true
    unfolding constraints_in_range problem_of in_range input_at divided_at constraint_at
    row-at e = every-at in_range (input_at p.n p.constraints p.divisors) p.m j e l

    pub row-passes : (row : List ℤ) → row ≡ between (row_length * j) (row_length * (j + 1)) p.constraints → p.n ≤ max_variables → constraints_in_range (problem_of p) ≡ true → in_range (constraint_at p.n row 0) ≡ true
    row-passes row er few e = rw (er, constraint-between p.n p.constraints (row_length * j) (row_length * (j + 1)) (omega arith)) (row-at e)

    pub divisor-passes : SFits w64 (get_or p.divisors j (pos 0)) → divisors_in_range (problem_of p) ≡ true → is_divisor (to_z w64 (of_z w64 (get_or p.divisors j (pos 0)))) ≡ true
    unfolding divisors_in_range divisor_in_range problem_of input_at divided_at number_in
    divisor-passes f e = rw (to_z-of_z f) (every-at divisor_in_range (input_at p.n p.constraints p.divisors) p.m j e l)

    input-sealed : block_of (problem_of p) (suc j) ≡ sealed (suc j) (constraint_bytes p.n (input_at p.n p.constraints p.divisors j))
    unfolding block_of problem_of variables
    input-sealed = rw (length-box p.n p.lower p.upper, get_d-tab (input_at p.n p.constraints p.divisors) p.m j no_constraint l)

    blocks-next : parts (block_of (problem_of p)) 1 (j + 1) ≡ parts (block_of (problem_of p)) 1 j ++ block_of (problem_of p) (suc j)
    unfolding parts
    blocks-next = let e : 1 + j ≡ suc j = omega arith in parts-append (block_of (problem_of p)) 1 j 1 ∙ rw (append-nil, e)

    -- the part of a constraint, as it comes back, and the row that it was written from
    blocks-more-at : {s t part : List ℕ} → block_length * (p.m + 1) ≤ length t → length part ≡ length (take (block_length * (j + 1) + block_length - block_length * (j + 1)) (drop (block_length * (j + 1)) t)) →
        part ≡ block_of (problem_of p) (suc j) → Placed s block_length (block_length * (j + 1)) (parts (block_of (problem_of p)) 1 j) t →
        (length (put_mid (block_length * (j + 1)) (block_length * (j + 1) + block_length - block_length * (j + 1)) t part) ≡ length t) ×
        Placed s block_length (block_length * (j + 1 + 1)) (parts (block_of (problem_of p)) 1 (j + 1)) (put_mid (block_length * (j + 1)) (block_length * (j + 1) + block_length - block_length * (j + 1)) t part)
    blocks-more-at {s} {t} {part} f k e x =
        let a = block_length * (j + 1) in
        let next = moved a (block_length * (j + 1 + 1)) refl (omega arith) (part_placed t a (a + block_length) (omega arith) (omega arith) k e) in
        (placed-length (omega arith) next, rw blocks-next (then x next))

    module _ {start end : ℕ} (r : (start ≡ block_length * (j + 1)) × (end ≡ block_length * (j + 1) + block_length)) where
      pub blocks_more : {s t part : List ℕ} (row : List ℤ) → row ≡ between (row_length * j) (row_length * (j + 1)) p.constraints → p.n ≤ max_variables → SFits w64 (get_or p.divisors j (pos 0)) →
          block_length * (p.m + 1) ≤ length t → length part ≡ length (take (end - start) (drop start t)) →
          part ≡ sealed (j + 1) (constraint_bytes p.n (divided_at p.n row 0 (to_z w64 (of_z w64 (get_or p.divisors j (pos 0)))))) →
          Placed s block_length (block_length * (j + 1)) (parts (block_of (problem_of p)) 1 j) t →
          (length (put_mid start (end - start) t part) ≡ length t) × Placed s block_length (block_length * (j + 1 + 1)) (parts (block_of (problem_of p)) 1 (j + 1)) (put_mid start (end - start) t part)
      unfolding input_at number_in
      blocks_more {s} {t} {part} row er few q f k e x =
          let z : j + 1 ≡ suc j = add-one j in
          let d = divided-between p.n p.constraints (row_length * j) (row_length * (j + 1)) (get_or p.divisors j (pos 0)) (omega arith) in
          let g : part ≡ block_of (problem_of p) (suc j) = e ∙ rw (er, to_z-of_z q, d, z) (sym input-sealed) in
          rw (r.0, r.1) (blocks-more-at f (rw (r.0, r.1) at k) g x)

  pub file-written : {s t u : List ℕ} (j : ℕ) → p.m ≤ j → j ≤ p.m → Placed s 0 block_length (block_of (problem_of p) 0) t →
      Placed t block_length (block_length * (j + 1)) (parts (block_of (problem_of p)) 1 j) u → u ≡ file_of (problem_of p) ++ drop (file_length (problem_of p)) s
  unfolding file_of file_length parts
  file-written j l h x y =
      let z : j ≡ p.m = omega arith in
      (then x y).whole ∙ rw (constraint-count p, z, add-one p.m)
