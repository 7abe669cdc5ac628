-- Lists by index: tab f i count is f i, f (i + 1), .., count of them.
use Prim.Native.Nat.{ℕ, zero, suc, ◌+◌, ◌-◌, ◌≤◌, ◌<◌}
use native.Mathlib.Omega.{arith}
use native.Mathlib.Numerals.{add-one}
use mathlib.Core.Path.{◌≡◌, refl, sym, ap, ap₂, ◌∙◌}
use mathlib.Core.Logic.{◌≢◌}
use mathlib.Core.List.{List, [], ◌∷◌, ◌++◌, map}
use lib.ListN.{length, get_or, take, drop, set, replicate, length-drop}
use lib.Seq.{ext_get_or, get_or-drop}
use Rattle.model_problems.specs.Lists.{tab}

module _ {A : Type 0} (f : ℕ → A) where
  pub tab-none : (i : ℕ) → tab f i 0 ≡ []
  unfolding tab
  tab-none i = refl

  -- ---- length and elements
  pub length-tab : (i c : ℕ) → length (tab f i c) ≡ c
  unfolding tab
  length-tab i zero = refl
  length-tab i (suc c) = ap suc (length-tab (suc i) c)

  pub get_d-tab-from : (i c k : ℕ) (d : A) → k < c → get_or (tab f i c) k d ≡ f (i + k)
  unfolding tab
  get_d-tab-from i zero k d h = absurd (omega arith)
  get_d-tab-from i (suc c) zero d h = ap f (omega arith)
  get_d-tab-from i (suc c) (suc k) d h = get_d-tab-from (suc i) c k d (omega arith) ∙ ap f (omega arith)

  pub get_d-tab : (n k : ℕ) (d : A) → k < n → get_or (tab f 0 n) k d ≡ f k
  get_d-tab n k d h = get_d-tab-from 0 n k d h ∙ ap f (omega arith)

  pub get_d-tab-past : (i c k : ℕ) (d : A) → c ≤ k → get_or (tab f i c) k d ≡ d
  unfolding tab
  get_d-tab-past i zero k d h = refl
  get_d-tab-past i (suc c) zero d h = absurd (omega arith)
  get_d-tab-past i (suc c) (suc k) d h = get_d-tab-past (suc i) c k d (omega arith)

  -- ---- parts of it
  pub tab-append : (i a b : ℕ) → tab f i (a + b) ≡ tab f i a ++ tab f (i + a) b
  unfolding tab
  tab-append i zero b = let e : 0 + b ≡ b = omega arith in let z : i + 0 ≡ i = omega arith in rw (e, z)
  tab-append i (suc a) b =
      let e : suc a + b ≡ suc (a + b) = omega arith in
      let z : i + suc a ≡ suc i + a = omega arith in
      rw (e, z, tab-append (suc i) a b)

  pub tab-take : (i a c : ℕ) → a ≤ c → take a (tab f i c) ≡ tab f i a
  unfolding tab
  tab-take i zero c h = refl
  tab-take i (suc a) zero h = absurd (omega arith)
  tab-take i (suc a) (suc c) h = ap (λ (l : List A). f i ∷ l) (tab-take (suc i) a c (omega arith))

  pub tab-drop : (i a c : ℕ) → drop a (tab f i c) ≡ tab f (i + a) (c - a)
  unfolding tab
  tab-drop i zero c = let d : i + 0 ≡ i = omega arith in let b : c - 0 ≡ c = omega arith in rw (d, b)
  tab-drop i (suc a) zero = let b : 0 - suc a ≡ 0 = omega arith in rw b
  tab-drop i (suc a) (suc c) =
      let d : i + suc a ≡ suc i + a = omega arith in
      let b : suc c - suc a ≡ c - a = omega arith in
      rw (d, b) (tab-drop (suc i) a c)

  -- ---- loops: one more at the end
  pub tab-snoc : (i c : ℕ) → tab f i (c + 1) ≡ tab f i c ++ (f (i + c) ∷ [])
  unfolding tab
  tab-snoc i c = tab-append i c 1

  pub tab-more : (n : ℕ) → tab f 0 (n + 1) ≡ tab f 0 n ++ (f n ∷ [])
  tab-more n = let e : 0 + n ≡ n = omega arith in tab-snoc 0 n ∙ rw e

  -- at the front, the index going up
  pub tab-step : (n i : ℕ) → i < n → tab f i (n - i) ≡ f i ∷ tab f (i + 1) (n - (i + 1))
  unfolding tab
  tab-step n i h = let e : n - i ≡ suc (n - (i + 1)) = omega arith in rw (e, add-one)

  pub tab-end : (n i : ℕ) → n ≤ i → tab f i (n - i) ≡ []
  unfolding tab
  tab-end n i h = let e : n - i ≡ 0 = omega arith in rw e

  -- and down
  pub tab-down : (n i : ℕ) → 0 < i → i ≤ n → tab f (i - 1) (n - (i - 1)) ≡ f (i - 1) ∷ tab f i (n - i)
  unfolding tab
  tab-down n i p h = let e : n - (i - 1) ≡ suc (n - i) = omega arith in let d : suc (i - 1) ≡ i = omega arith in rw (e, d)

-- ---- equal lists
module _ {A : Type 0} where
  pub tab-ext : (f g : ℕ → A) (i c : ℕ) → ((k : ℕ) → i ≤ k → k < i + c → f k ≡ g k) → tab f i c ≡ tab g i c
  unfolding tab
  tab-ext f g i zero h = refl
  tab-ext f g i (suc c) h =
      ap₂ (λ (x : A) (l : List A). x ∷ l) (h i (omega arith) (omega arith)) (tab-ext f g (suc i) c (λ k a b. h k (omega arith) (omega arith)))

  pub tab-ext-0 : (f g : ℕ → A) (n : ℕ) → ((k : ℕ) → k < n → f k ≡ g k) → tab f 0 n ≡ tab g 0 n
  tab-ext-0 f g n h = tab-ext f g 0 n (λ k a b. h k (omega arith))

  -- two starts
  pub tab-shift : (f g : ℕ → A) (i j c : ℕ) → ((k : ℕ) → k < c → f (i + k) ≡ g (j + k)) → tab f i c ≡ tab g j c
  unfolding tab
  tab-shift f g i j zero h = refl
  tab-shift f g i j (suc c) h =
      let first : f i ≡ g j = ap f (omega arith) ∙ h 0 (omega arith) ∙ ap g (omega arith) in
      ap₂ (λ (x : A) (l : List A). x ∷ l) first
      (tab-shift f g (suc i) (suc j) c (λ k l. ap f (omega arith) ∙ h (suc k) (omega arith) ∙ ap g (omega arith)))

  -- a list is the table of its elements
  pub tab-is : (xs : List A) (n : ℕ) (f : ℕ → A) (d : A) → length xs ≡ n → ((k : ℕ) → k < n → get_or xs k d ≡ f k) → tab f 0 n ≡ xs
  tab-is xs n f d e h =
      let l = length-tab f 0 n in
      ext_get_or d (tab f 0 n) xs (l ∙ sym e) (λ k b. let m : k < n = omega arith in get_d-tab f n k d m ∙ sym (h k m))

  pub tab-of : (xs : List A) (d : A) → tab (λ i. get_or xs i d) 0 (length xs) ≡ xs
  tab-of xs d = tab-is xs (length xs) (λ i. get_or xs i d) d refl (λ k h. refl)

  pub tab-of-part : (xs : List A) (d : A) (i c : ℕ) → i + c ≤ length xs → tab (λ k. get_or xs k d) i c ≡ take c (drop i xs)
  tab-of-part xs d i c h =
      let here : ℕ → A = λ k. get_or xs k d in
      let there : ℕ → A = λ k. get_or (drop i xs) k d in
      tab-shift here there i 0 c (λ k l. ap here (omega arith) ∙ sym (get_or-drop i xs (0 + k) d)) ∙
      sym (tab-take there 0 c (length (drop i xs)) (omega (arith, length-drop i xs))) ∙ ap (take c) (tab-of (drop i xs) d)

  -- the first n elements
  pub tab-front : (xs : List A) (d : A) (n : ℕ) → n ≤ length xs → take n xs ≡ tab (λ k. get_or xs k d) 0 n
  tab-front xs d n h = sym (tab-of-part xs d 0 n (omega arith))

  pub tab-const : (z : A) (i n : ℕ) → tab (λ k. z) i n ≡ replicate n z
  unfolding tab
  tab-const z i zero = refl
  tab-const z i (suc n) = ap (λ (l : List A). z ∷ l) (tab-const z (suc i) n)

  pub get_d-const : (z : A) (n k : ℕ) → get_or (replicate n z) k z ≡ z
  get_d-const z zero k = refl
  get_d-const z (suc n) zero = refl
  get_d-const z (suc n) (suc k) = get_d-const z n k

  -- one element set
  set-tab-from : (f g : ℕ → A) (v : A) (i c k : ℕ) → g (i + k) ≡ v → ((j : ℕ) → j ≢ i + k → g j ≡ f j) → set (tab f i c) k v ≡ tab g i c
  unfolding tab
  set-tab-from f g v i zero k e h = refl
  set-tab-from f g v i (suc c) zero e h =
      ap₂ (λ (x : A) (l : List A). x ∷ l) (sym e ∙ ap g (omega arith)) (tab-ext f g (suc i) c (λ j a b. sym (h j (omega arith))))
  set-tab-from f g v i (suc c) (suc k) e h =
      ap₂ (λ (x : A) (l : List A). x ∷ l) (sym (h i (omega arith))) (set-tab-from f g v (suc i) c k (ap g (omega arith) ∙ e) (λ j a. h j (omega arith)))

  pub set-tab : (f g : ℕ → A) (n k : ℕ) (v : A) → g k ≡ v → ((j : ℕ) → j ≢ k → g j ≡ f j) → set (tab f 0 n) k v ≡ tab g 0 n
  set-tab f g n k v e h = set-tab-from f g v 0 n k (ap g (omega arith) ∙ e) (λ j a. h j (omega arith))

pub tab-map : {A B : Type 0} (g : A → B) (f : ℕ → A) (i c : ℕ) → map g (tab f i c) ≡ tab (λ k. g (f k)) i c
unfolding tab
tab-map g f i zero = refl
tab-map g f i (suc c) = ap (λ (l : List _). g (f i) ∷ l) (tab-map g f (suc i) c)
