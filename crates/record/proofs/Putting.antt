-- The fields of a record as they are put in place: those of a loop, 4 bytes each, and the content as a whole.
use Prim.Native.Nat.{ℕ, ◌+◌, ◌*◌, ◌^◌, ◌<◌, ◌≤◌}
use native.Mathlib.Omega.{arith}
use mathlib.Core.Path.{◌≡◌, refl, ap, ◌∙◌}
use mathlib.Core.List.{List, append_assoc}
use lib.IntN.{ℤ, pos}
use lib.ListN.{get_or, drop}
use borrow.Rule.Slice.PartMut.{mid_of}
use Rattle.std.proofs.lemmas.List.{get_or-take, get_or-drop}
use mir.Syntax.{w64}
use mir.Val.{to_z, of_z}
use Rattle.model_problems.specs.Lists.{tab, parts}
use Rattle.model_problems.specs.Ranges.{max_variables, max_coefficient}
use Rattle.model_files.specs.Bytes.{u16_bytes, u32_bytes, i32_bytes}
use Rattle.model_files.specs.File.{coefficient_bytes}
use Rattle.model_files.specs.Journal.{used_bytes, record_magic, record_head, record_content}
use Rattle.integer.specs.Size.{Within}
use Rattle.lists.proofs.Tab.{get_d-tab}
use Rattle.layout.specs.Rows.{number_in, cell, constraint_at}
use Rattle.layout.proofs.Rows.{coefficient-at}
use Rattle.block.specs.Placed.{Placed}
use Rattle.block.proofs.Placing.{then, more-placed}
use Rattle.block.proofs.Unsigning.{bits-within, bits-placed, then-i32}
use Rattle.record.specs.Written.{record_of, magic_word, head_place, cut_place, coefficients_place, used_place, content_length, head_of, coefficients_of, cut_of, used_of, CutFits}

-- ---- a loop that puts 4 bytes each turn, at its turn i
module _ (f : ℕ → List ℕ) {s t : List ℕ} (a i : ℕ) (p : Placed s a (a + 4 * i) (parts f 0 i) t) where
  next-placed : {u : List ℕ} → Placed t (a + 4 * i) (a + 4 * i + 4) (f i) u → Placed s a (a + 4 * (i + 1)) (parts f 0 (i + 1)) u
  next-placed q = let e : a + 4 * (i + 1) ≡ a + 4 * i + 4 = omega arith in rw e (more-placed f i p q)

  pub all_placed : (j : ℕ) → a + 4 * max_variables ≡ j → max_variables ≤ i → i ≤ max_variables → Placed s a j (parts f 0 max_variables) t
  all_placed j e h l = let z : i ≡ 32 = omega arith in rw (← e) (rw z at p)

-- a coefficient among those after the constant
pub rest-at : (cut : List ℤ) (i : ℕ) → i < max_variables → get_or (mid_of 1 max_variables cut) i (pos 0) ≡ get_or cut (1 + i) (pos 0)
rest-at cut i h = get_or-take max_variables (drop 1 cut) i (pos 0) h ∙ get_or-drop 1 cut i (pos 0)

-- ---- the cut, whose numbers come to `put_i32` as bits
module _ (cut : List ℤ) (fits : CutFits cut) where
  pub constant-within : Within (2 ^ 31) (to_z w64 (of_z w64 (get_or cut 0 (pos 0))))
  unfolding number_in
  constant-within = bits-within (get_or cut 0 (pos 0)) max_coefficient fits.constant (omega arith)

  pub cut-placed : {s t u : List ℕ} → Placed s cut_place coefficients_place (i32_bytes (to_z w64 (of_z w64 (get_or cut 0 (pos 0))))) t →
      Placed t coefficients_place used_place (coefficients_of max_variables cut) u → Placed s cut_place used_place (cut_of cut) u
  unfolding constraint_at number_in
  cut-placed p q = then-i32 (get_or cut 0 (pos 0)) max_coefficient fits.constant (omega arith) p q

  module _ (i : ℕ) (h : i < max_variables) where
    in-range : Within max_coefficient (get_or cut (1 + i) (pos 0))
    unfolding cell number_in
    in-range = fits.coefficients i h

    pub coefficient-within : Within (2 ^ 31) (to_z w64 (of_z w64 (get_or cut (1 + i) (pos 0))))
    coefficient-within = bits-within (get_or cut (1 + i) (pos 0)) max_coefficient in-range (omega arith)

    coefficient-is : coefficient_bytes (constraint_at max_variables cut 0) i ≡ i32_bytes (get_or cut (1 + i) (pos 0))
    unfolding coefficient_bytes cell number_in
    coefficient-is = ap i32_bytes (coefficient-at max_variables cut 0 i h)

    pub coefficient-placed : {s t u : List ℕ} → Placed s coefficients_place (coefficients_place + 4 * i) (coefficients_of i cut) t →
        Placed t (coefficients_place + 4 * i) (coefficients_place + 4 * i + 4) (i32_bytes (to_z w64 (of_z w64 (get_or cut (1 + i) (pos 0))))) u →
        Placed s coefficients_place (coefficients_place + 4 * (i + 1)) (coefficients_of (i + 1) cut) u
    coefficient-placed p q =
        next-placed (coefficient_bytes (constraint_at max_variables cut 0)) coefficients_place i p
        (rw coefficient-is (bits-placed (get_or cut (1 + i) (pos 0)) max_coefficient in-range (omega arith) q))

-- ---- the numbers of the constraints taken in
module _ (used : List ℕ) (i : ℕ) (h : i < max_variables) where
  used-is : used_bytes (tab (λ k. get_or used k 0) 0 max_variables) i ≡ u32_bytes (get_or used i 0)
  unfolding used_bytes
  used-is = ap u32_bytes (get_d-tab (λ k. get_or used k 0) max_variables i 0 h)

  pub used-placed : {s t u : List ℕ} → Placed s used_place (used_place + 4 * i) (used_of i used) t →
      Placed t (used_place + 4 * i) (used_place + 4 * i + 4) (u32_bytes (get_or used i 0)) u →
      Placed s used_place (used_place + 4 * (i + 1)) (used_of (i + 1) used) u
  used-placed p q = next-placed (used_bytes (tab (λ k. get_or used k 0) 0 max_variables)) used_place i p (rw used-is q)

-- ---- the content
magic-is : u32_bytes magic_word ≡ record_magic
unfolding record_magic u32_bytes u16_bytes
magic-is = refl

pub content-placed : (count falsified number depth back : ℕ) (cut : List ℤ) (used : List ℕ) {s t u v w : List ℕ} → Placed s 0 head_place (u32_bytes magic_word) t →
    Placed t head_place cut_place (head_of count falsified number depth back) u → Placed u cut_place used_place (cut_of cut) v → Placed v used_place content_length (used_of max_variables used) w →
    Placed s 0 content_length (record_content (record_of max_variables count falsified number depth back cut used)) w
unfolding record_content record_head
content-placed count falsified number depth back cut used a b c d = then (rw magic-is at a) (then b (rw append_assoc at (then c d)))
