-- Lists put together: parts f i count is f i, f (i + 1), .., count of them, one after the other.
use Prim.Native.Nat.{ℕ, zero, suc, ◌+◌, ◌*◌, ◌≤◌, ◌<◌}
use native.Mathlib.Omega.{arith}
use native.Mathlib.Nat.{zero-add}
use mathlib.Core.Path.{◌≡◌, refl, sym, ap, ap₂, ◌∙◌}
use mathlib.Core.List.{List, ◌++◌, append_assoc, append-nil}
use lib.ListN.{length, take, drop, length-append}
use lib.Seq.{take-add, drop-drop, take_at, drop_at, drop-append-add}
use Rattle.model_problems.specs.Lists.{parts}

module _ {A : Type 0} where
  -- ---- one more, and equal parts
  pub parts-append : (f : ℕ → List A) (i a b : ℕ) → parts f i (a + b) ≡ parts f i a ++ parts f (i + a) b
  unfolding parts
  parts-append f i zero b = let e : 0 + b ≡ b = omega arith in let z : i + 0 ≡ i = omega arith in rw (e, z)
  parts-append f i (suc a) b =
      let e : suc a + b ≡ suc (a + b) = omega arith in
      let z : i + suc a ≡ suc i + a = omega arith in
      rw (e, z, parts-append f (suc i) a b) (sym (append_assoc (f i) (parts f (suc i) a) (parts f (suc i + a) b)))

  pub parts-snoc : (f : ℕ → List A) (n : ℕ) → parts f 0 (n + 1) ≡ parts f 0 n ++ f n
  unfolding parts
  parts-snoc f n = let e : 0 + n ≡ n = omega arith in parts-append f 0 n 1 ∙ rw (append-nil, e)

  pub parts-ext : (f g : ℕ → List A) (i c : ℕ) → ((k : ℕ) → i ≤ k → k < i + c → f k ≡ g k) → parts f i c ≡ parts g i c
  unfolding parts
  parts-ext f g i zero h = refl
  parts-ext f g i (suc c) h =
      ap₂ (λ (x : List A) (l : List A). x ++ l) (h i (omega arith) (omega arith)) (parts-ext f g (suc i) c (λ k a b. h k (omega arith) (omega arith)))

  -- ---- parts of one length
  length-parts-from : (L : ℕ) (f : ℕ → List A) (i c : ℕ) → ((k : ℕ) → k < i + c → length (f k) ≡ L) → length (parts f i c) ≡ L * c
  unfolding parts
  length-parts-from L f i zero h = omega arith
  length-parts-from L f i (suc c) h =
      length-append (f i) (parts f (suc i) c) ∙ omega (arith, length-parts-from L f (suc i) c (λ k l. h k (omega arith)), h i (omega arith))

  pub length-parts : (L : ℕ) (f : ℕ → List A) (n : ℕ) → ((k : ℕ) → k < n → length (f k) ≡ L) → length (parts f 0 n) ≡ L * n
  length-parts L f n h = length-parts-from L f 0 n (λ k l. h k (omega arith))

  -- the parts of a list, from its place a on, put together
  parts-of-from : (L a : ℕ) (s : List A) (f : ℕ → List A) (i c : ℕ) → ((k : ℕ) → k < i + c → f k ≡ take L (drop (a + L * k) s)) → parts f i c ≡ take (L * c) (drop (a + L * i) s)
  unfolding parts
  parts-of-from L a s f i zero h = let z : L * 0 ≡ 0 = omega arith in rw z
  parts-of-from L a s f i (suc c) h =
      let e : L * suc c ≡ L + L * c = omega arith in
      let d : a + L * suc i ≡ a + L * i + L = omega arith in
      rw (h i (omega arith), parts-of-from L a s f (suc i) c (λ k l. h k (omega arith)), e, d, take-add L (L * c) (drop (a + L * i) s), drop-drop L (a + L * i) s)

  pub parts-of : (L a : ℕ) (s : List A) (f : ℕ → List A) (n : ℕ) → ((k : ℕ) → k < n → f k ≡ take L (drop (a + L * k) s)) → parts f 0 n ≡ take (L * n) (drop a s)
  parts-of L a s f n h = let e : a + L * 0 ≡ a = omega arith in parts-of-from L a s f 0 n (λ k l. h k (omega arith)) ∙ rw e

  -- and part k of the parts is the one that was put there
  part-of-from : (L : ℕ) (f : ℕ → List A) (i c : ℕ) (rest : List A) (k : ℕ) → ((j : ℕ) → j < i + c → length (f j) ≡ L) → k < c → take L (drop (L * k) (parts f i c ++ rest)) ≡ f (i + k)
  unfolding parts
  part-of-from L f i zero rest k h l = absurd (omega arith)
  part-of-from L f i (suc c) rest zero h l =
      let z : L * 0 ≡ 0 = omega arith in
      let e : i + 0 ≡ i = omega arith in
      rw (z, e, append_assoc (f i) (parts f (suc i) c) rest) (take_at (f i) (parts f (suc i) c ++ rest) L (h i (omega arith)))
  part-of-from L f i (suc c) rest (suc k) h l =
      let z : L * suc k ≡ L + L * k = omega arith in
      let e : i + suc k ≡ suc i + k = omega arith in
      rw (z, e, append_assoc (f i) (parts f (suc i) c) rest, ← drop-drop (L * k) L (f i ++ (parts f (suc i) c ++ rest)), drop_at (f i) (parts f (suc i) c ++ rest) L (h i (omega arith)))
      (part-of-from L f (suc i) c rest k (λ j m. h j (omega arith)) (omega arith))

  -- past the list `first` and before `rest`
  pub part_of : (L : ℕ) (f : ℕ → List A) (n : ℕ) (first rest : List A) (k : ℕ) → ((j : ℕ) → j < n → length (f j) ≡ L) → k < n → take L (drop (length first + L * k) (first ++ (parts f 0 n ++ rest))) ≡ f k
  part_of L f n first rest k h l =
      rw (drop-append-add first (parts f 0 n ++ rest) (L * k)) (part-of-from L f 0 n rest k (λ j m. h j (omega arith)) l ∙ ap f (zero-add k))
