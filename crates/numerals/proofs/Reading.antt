-- What a word says, as the code finds it.
use Prim.Native.Nat.{ℕ, zero, suc, ◌+◌, ◌*◌, ◌-◌, ◌^◌, ◌<◌, ◌≤◌}
use native.Mathlib.Omega.{arith}
use native.Mathlib.Numerals.{add-one, unary_clauses}
use mathlib.Core.Bool.{Bool, true, false, cond, ◌&&◌}
use mathlib.Core.Path.{◌≡◌, refl, sym, ap, ◌∙◌}
use mathlib.Core.List.{List, [], ◌∷◌}
use lib.Dec.{eqb, leb, ltb}
use lib.ListN.{length, get_or, drop}
use Rattle.std.proofs.Math.Seq.{drop-cons}
use Rattle.std.proofs.Math.ListN.{drop_of_length-le}
use Rattle.std.proofs.lemmas.Bool.{cases_lt}
use Rattle.std.proofs.lemmas.List.{drop-take, take_all}
use Rattle.std.proofs.lemmas.Option.{cond_some}
use Rattle.std.specs.Char.{IsAsciiDigit, IsNotAsciiDigit}
use Rattle.std.specs.Prelude.{Option, Some, None}
use mathlib.Core.Logic.{inl, inr}
use Rattle.std.proofs.Common.{take, ℤ, pos, ◌-ℤ◌, w32, w64}
use mir.Val.{Fits, SFits}
use Rattle.std.specs.Cmp.Lexicographic.{pointwise}
use Rattle.std.proofs.Math.Nat.{mul-le-mul_right}
use Rattle.std.specs.Prelude.{option_map, SomeIff, Result, Ok, Err, OkIff}
use Rattle.std.specs.Result.{result_ok}
use Rattle.std.proofs.Math.Seq.{slice, length-slice}
use Rattle.std.proofs.lemmas.Int.{ints}
use borrow.Author.Tests.{leb-true, le-leb, le-ltb, lt-leb, lt-ltb, eq-eqb, ne_eqb}
use Rattle.numerals.specs.Words.{digit_of, is_digits, value_after, size_in, minus_of, number_in, date_of, date_in}

-- more digits give no smaller value
grows : (w : List ℕ) (v : ℕ) → v ≤ value_after v w
unfolding value_after
grows [] v = omega arith
grows (b ∷ w) v = omega (arith, grows w (10 * v + digit_of b))

-- a value that is too large is none, whether it is one of digits or not
too_large : (a b : Bool) (s : Option ℕ) → cond (a && (false && b)) s None ≡ None
too_large true b s = refl
too_large false b s = refl

positive : (n : ℕ) → false ≡ eqb n 0 → ltb 0 n ≡ true
positive zero f = cc
positive (suc n) f = lt-ltb 0 (suc n) (omega arith)

none_left : (a b : Bool) (o : Option ℕ) → cond (a && (b && false)) o None ≡ None
none_left true true o = refl
none_left true false o = refl
none_left false b o = refl

module _ (s : List ℕ) where
  -- of the digits from i on, after digits of value v: what is left decides whether all are digits, and gives their value
  pub record Left (i v : ℕ) : Type 0 where
    pub same_digits : is_digits (drop i s) ≡ is_digits s
    pub same-value : value_after v (drop i s) ≡ value_after 0 s

  pub left-all : Left 0 0
  left-all = record { same_digits = refl; same-value = refl }

  module _ (i v : ℕ) (h : Left i v) (l : i < length s) where
    cons : drop i s ≡ get_or s i 0 ∷ drop (i + 1) s
    cons = rw (add-one, drop-cons s i 0)

    heads : is_digits (drop i s) ≡ (leb (digit_of (get_or s i 0)) 9 && is_digits (drop (i + 1) s))
    unfolding is_digits
    heads = ap is_digits cons

    worth : value_after v (drop i s) ≡ value_after (10 * v + digit_of (get_or s i 0)) (drop (i + 1) s)
    unfolding value_after
    worth = ap (value_after v) cons

    pub no_digit : (m : ℕ) → 9 < digit_of (get_or s i 0) → None ≡ size_in m s
    unfolding size_in
    no_digit m k = let z : is_digits s ≡ false = sym h.same_digits ∙ (rw (lt-leb (digit_of (get_or s i 0)) 9 k) at heads) in rw z

    pub large : (m : ℕ) → m < 10 * v + digit_of (get_or s i 0) → None ≡ size_in m s
    unfolding size_in
    large m k =
        let z : value_after 0 s ≡ value_after (10 * v + digit_of (get_or s i 0)) (drop (i + 1) s) = sym h.same-value ∙ worth in
        let a : m < value_after 0 s = omega (arith, z, grows (drop (i + 1) s) (10 * v + digit_of (get_or s i 0))) in
        rw (lt-leb (value_after 0 s) m a) (sym (too_large (is_digits s) (ltb 0 (length s)) (Some (value_after 0 s))))

    pub next : (n : ℕ) → digit_of (get_or s i 0) ≤ 9 → n ≡ 10 * v + digit_of (get_or s i 0) → Left (i + 1) n
    next n k e = rw e (record {
      same_digits = sym (rw (le-leb (digit_of (get_or s i 0)) 9 k) at heads) ∙ h.same_digits;
      same-value = sym worth ∙ h.same-value;
    })

  pub all : (i v m : ℕ) → Left i v → length s ≤ i → false ≡ eqb (length s) 0 → v ≤ m → Some v ≡ size_in m s
  unfolding size_in is_digits value_after
  all i v m h l f k =
      let p : drop i s ≡ [] = drop_of_length-le s l in
      let d : is_digits s ≡ true = sym h.same_digits ∙ ap is_digits p in
      let w : value_after 0 s ≡ v = sym h.same-value ∙ ap (value_after v) p in
      let n : ltb 0 (length s) ≡ true = positive (length s) f in
      rw (d, w, le-leb v m k, n)

  pub none : (m : ℕ) → length s ≡ 0 → None ≡ size_in m s
  unfolding size_in
  none m e = rw e (sym (none_left (is_digits s) (leb (value_after 0 s) m) (Some (value_after 0 s))))

-- a byte that is a digit, and one that is none
module _ (b : ℕ) where
  pub digit-is : IsAsciiDigit b → digit_of b ≡ b - 48
  digit-is h = rw (le-ltb b 48 h.0)

  pub digit_small : IsAsciiDigit b → digit_of b ≤ 9
  digit_small h = rw (digit-is h) (omega arith)

  pub digit-none : IsNotAsciiDigit b → 9 < digit_of b
  digit-none (inl h) = rw (lt-ltb b 48 h) (omega arith)
  digit-none (inr h) = rw (le-ltb b 48 (omega arith)) (omega arith)

-- ---- a size of at most `most`, of a word with one of at most `wide`
and-true : (a b : Bool) → (a && b) ≡ true → (a ≡ true) × (b ≡ true)
and-true true b e = (refl, e)
and-true false b e = cc

fewer : (wide most v : ℕ) (d n : Bool) → cond (d && (leb v wide && n)) (Some v) None ≡ None → most ≤ wide → cond (d && (leb v most && n)) (Some v) None ≡ None
fewer wide most v false n e l = refl
fewer wide most v true false e l = none_left true (leb v most) (Some v)
fewer wide most v true true e l = elim (cases_lt wide v) [ inl h ↦ rw (lt-leb v most (omega arith)) | inr h ↦ cc (le-leb v wide h) ]

module _ (wide : ℕ) (w : List ℕ) where
  -- what a size says of its word
  parts : (v : ℕ) → size_in wide w ≡ Some v → (is_digits w ≡ true) × (ltb 0 (length w) ≡ true) × (value_after 0 w ≡ v)
  unfolding size_in
  parts v e =
      let o = cond_some _ _ _ e in
      let d = and-true _ _ o.0 in
      (d.0, (and-true _ _ d.1).1, o.1)

  pub narrow-some : (most v : ℕ) → size_in wide w ≡ Some v → v ≤ most → size_in most w ≡ Some v
  unfolding size_in
  narrow-some most v e l = let p = parts v e in rw (p.0, p.2, p.1, le-leb v most l)

  pub narrow-over : (most v : ℕ) → size_in wide w ≡ Some v → most < v → size_in most w ≡ None
  unfolding size_in
  narrow-over most v e l = let p = parts v e in rw (p.0, p.2, lt-leb v most l)

  pub narrow-none : (most : ℕ) → size_in wide w ≡ None → most ≤ wide → size_in most w ≡ None
  unfolding size_in
  narrow-none most e l = fewer wide most (value_after 0 w) (is_digits w) (ltb 0 (length w)) e l

one_digit : (v d : ℕ) → d ≤ 9 → 10 * v + d + 1 ≤ 10 * (v + 1)
one_digit v d l = omega arith

-- digits have less than 10 for each of them
below : (w : List ℕ) (v : ℕ) → is_digits w ≡ true → value_after v w < (v + 1) * 10 ^ length w
unfolding is_digits value_after
below [] v e = omega arith
below (b ∷ w) v e =
    let p = and-true _ _ e in
    let d : digit_of b ≤ 9 = leb-true _ _ p.0 in
    let r = below w (10 * v + digit_of b) p.1 in
    let m = mul-le-mul_right (10 ^ length w) (one_digit v (digit_of b) d) in
    simp unary_clauses (omega arith)

pub narrow-of-length : (wide most v : ℕ) (w : List ℕ) → size_in wide w ≡ Some v → 10 ^ length w ≤ most + 1 → v ≤ most
narrow-of-length wide most v w e l = let p = parts wide w v e in omega (arith, below w 0 p.0)

-- ---- a number
and-false : (a : Bool) → (a && true) ≡ false → a ≡ false
and-false true e = e
and-false false e = e

signed : (w : List ℕ) → pointwise eqb (take 1 w) (45 ∷ []) ≡ true → number_in w ≡ option_map minus_of (size_in (2 ^ 63) (drop 1 w))
unfolding number_in
signed [] e = cc
signed (b ∷ w) e = let z : eqb b 45 ≡ true = (and-true _ _ e).0 in rw z

unsigned : (w : List ℕ) → pointwise eqb (take 1 w) (45 ∷ []) ≡ false → number_in w ≡ option_map pos (size_in (2 ^ 63 - 1) w)
unfolding number_in size_in is_digits value_after
unsigned [] e = refl
unsigned (b ∷ w) e = let z : eqb b 45 ≡ false = and-false _ e in rw z

negative-fits : (v : ℕ) → v ≤ 2 ^ 63 → SFits w64 (minus_of v)
negative-fits zero l = record { sfits = omega arith }
negative-fits (suc v) l = record { sfits = omega arith }

minus-is : (v : ℕ) → pos 0 -ℤ pos v ≡ minus_of v
minus-is v = omega (arith, ints)

minus-fits : (v : ℕ) → v ≤ 2 ^ 63 → SFits w64 (pos 0 -ℤ pos v)
minus-fits v l = rw (minus-is v) (negative-fits v l)

module _ (s : List ℕ) (v : ℕ) (e : size_in (2 ^ 64 - 1) s ≡ Some v) where
  minus-some : (r : Option ℤ) → SomeIff r (SFits w64 (pos 0 -ℤ pos v)) (pos 0 -ℤ pos v) → r ≡ option_map minus_of (size_in (2 ^ 63) s)
  minus-some None f =
      elim (cases_lt (2 ^ 63) v) [ inl l ↦ rw (narrow-over (2 ^ 64 - 1) s (2 ^ 63) v e l) | inr l ↦ absurd (f (minus-fits v l)) ]
  minus-some (Some z) f =
      let l : v ≤ 2 ^ 63 = omega (arith, ints, f.0.sfits) in
      rw (narrow-some (2 ^ 64 - 1) s (2 ^ 63) v e l) (ap Some (f.1 ∙ minus-is v))

  plus-some : {E : Type 0} (r : Result ℤ E) → OkIff r (SFits w64 (pos v)) (pos v) → result_ok r ≡ option_map pos (size_in (2 ^ 63 - 1) s)
  plus-some (Err d) f =
      elim (cases_lt (2 ^ 63 - 1) v) [ inl l ↦ rw (narrow-over (2 ^ 64 - 1) s (2 ^ 63 - 1) v e l) | inr l ↦ absurd (f (record { sfits = omega arith })) ]
  plus-some (Ok z) f =
      let l : v ≤ 2 ^ 63 - 1 = omega (arith, f.0.sfits) in
      rw (narrow-some (2 ^ 64 - 1) s (2 ^ 63 - 1) v e l) (ap Some f.1)

module _ (w s : List ℕ) (h : pointwise eqb (take 1 w) (45 ∷ []) ≡ true) (d : s ≡ drop 1 w) where
  pub minus-none : None ≡ size_in (2 ^ 64 - 1) s → None ≡ number_in w
  minus-none e = rw (signed w h, ← d, narrow-none (2 ^ 64 - 1) s (2 ^ 63) (sym e) (omega arith))

  pub minus-number : (v : ℕ) (r : Option ℤ) → Some v ≡ size_in (2 ^ 64 - 1) s → SomeIff r (SFits w64 (pos 0 -ℤ pos v)) (pos 0 -ℤ pos v) → r ≡ number_in w
  minus-number v r e f = rw (signed w h, ← d) (minus-some s v (sym e) r f)

-- the bytes of a word from its first one on
pub from-the-first : (k : ℕ) (w : List ℕ) → k ≡ 0 → take (length w - k) (drop k w) ≡ w
from-the-first k w e = rw e (take_all (length w - 0) w (omega arith))

module _ (w s : List ℕ) (h : pointwise eqb (take 1 w) (45 ∷ []) ≡ false) (d : s ≡ w) where
  pub plus-none : None ≡ size_in (2 ^ 64 - 1) s → None ≡ number_in w
  plus-none e = rw (unsigned w h, ← d, narrow-none (2 ^ 64 - 1) s (2 ^ 63 - 1) (sym e) (omega arith))

  pub plus-number : {E : Type 0} (v : ℕ) (r : Result ℤ E) → Some v ≡ size_in (2 ^ 64 - 1) s → OkIff r (SFits w64 (pos v)) (pos v) → result_ok r ≡ number_in w
  plus-number v r e f = rw (unsigned w h, ← d) (plus-some s v (sym e) r f)

-- ---- a date
module _ (w : List ℕ) where
  pub date-length : (length w ≡ 10 → ⊥) → None ≡ date_in w
  unfolding date_in
  date-length h = rw (ne_eqb (length w) 10 h)

  pub date-first : length w ≡ 10 → (get_or w 4 0 ≡ 45 → ⊥) → None ≡ date_in w
  unfolding date_in
  date-first l h = rw (eq-eqb (length w) 10 l, ne_eqb (get_or w 4 0) 45 h)

  pub date-second : length w ≡ 10 → get_or w 4 0 ≡ 45 → (get_or w 7 0 ≡ 45 → ⊥) → None ≡ date_in w
  unfolding date_in
  date-second l a h = rw (eq-eqb (length w) 10 l, eq-eqb (get_or w 4 0) 45 a, ne_eqb (get_or w 7 0) 45 h)

  module _ (l : length w ≡ 10) (a : get_or w 4 0 ≡ 45) (b : get_or w 7 0 ≡ 45) where
    pub date-parts : date_in w ≡ date_of (size_in 9999 (slice 0 4 w)) (size_in 99 (slice 5 7 w)) (size_in 99 (slice 8 10 w))
    unfolding date_in
    date-parts = rw (eq-eqb (length w) 10 l, eq-eqb (get_or w 4 0) 45 a, eq-eqb (get_or w 7 0) 45 b)

    part : (i n most v : ℕ) → i + n ≤ 10 → 10 ^ n ≤ most + 1 → Some v ≡ size_in (2 ^ 64 - 1) (take n (drop i w)) → (v ≤ most) × (Some v ≡ size_in most (slice i (i + n) w))
    part i n most v k m e =
        let a : slice i (i + n) w ≡ take n (drop i w) = drop-take i n w in
        let b : length (take n (drop i w)) ≡ n = omega (arith, sym (ap length a) ∙ length-slice i (i + n) w (omega arith)) in
        let z : v ≤ most = narrow-of-length (2 ^ 64 - 1) most v (take n (drop i w)) (sym e) (rw b m) in
        (z, rw a (sym (narrow-some (2 ^ 64 - 1) (take n (drop i w)) most v (sym e) z)))

    -- a part that is none as the code reads it
    missing : (i n most : ℕ) → None ≡ size_in (2 ^ 64 - 1) (take n (drop i w)) → most ≤ 2 ^ 64 - 1 → None ≡ size_in most (slice i (i + n) w)
    missing i n most e l = rw (drop-take i n w) (sym (narrow-none (2 ^ 64 - 1) (take n (drop i w)) most (sym e) l))

    pub date-year : None ≡ size_in (2 ^ 64 - 1) (take 4 w) → None ≡ date_in w
    date-year e = rw (date-parts, ← missing 0 4 9999 e (omega arith))

    module _ (y : ℕ) (f : Some y ≡ size_in (2 ^ 64 - 1) (take 4 w)) where
      pub year-fits : Fits w32 y
      year-fits = record { fits = omega (arith, (part 0 4 9999 y (omega arith) (omega arith) f).0) }

      pub date-month : None ≡ size_in (2 ^ 64 - 1) (take 2 (drop 5 w)) → None ≡ date_in w
      date-month e = rw (date-parts, ← (part 0 4 9999 y (omega arith) (omega arith) f).1, ← missing 5 2 99 e (omega arith))

      module _ (m : ℕ) (g : Some m ≡ size_in (2 ^ 64 - 1) (take 2 (drop 5 w))) where
        pub month-fits : Fits w32 m
        month-fits = record { fits = omega (arith, (part 5 2 99 m (omega arith) (omega arith) g).0) }

        pub date-day : None ≡ size_in (2 ^ 64 - 1) (take 2 (drop 8 w)) → None ≡ date_in w
        date-day e =
            rw (date-parts, ← (part 0 4 9999 y (omega arith) (omega arith) f).1, ← (part 5 2 99 m (omega arith) (omega arith) g).1, ← missing 8 2 99 e (omega arith))

        module _ (d : ℕ) (h : Some d ≡ size_in (2 ^ 64 - 1) (take 2 (drop 8 w))) where
          pub day-fits : Fits w32 d
          day-fits = record { fits = omega (arith, (part 8 2 99 d (omega arith) (omega arith) h).0) }

          pub date-is : Some (record { year = y; month = m; day = d }) ≡ date_in w
          date-is =
              rw (date-parts, ← (part 0 4 9999 y (omega arith) (omega arith) f).1, ← (part 5 2 99 m (omega arith) (omega arith) g).1, ← (part 8 2 99 d (omega arith) (omega arith) h).1)
