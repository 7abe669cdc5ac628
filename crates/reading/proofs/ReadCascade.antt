-- Reading, test by test: where one fails the reading is its refusal, and where all pass it is the problem.
use Prim.Native.Nat.{ℕ, zero, suc, ◌*◌, ◌≤◌}
use native.Mathlib.Omega.{arith}
use mathlib.Core.Bool.{Bool, true, false, ◌&&◌, cond}
use mathlib.Core.Path.{◌≡◌, refl, ap, ◌∙◌}
use mathlib.Core.List.{List, [], ◌∷◌}
use lib.Dec.{eqb, eqb-suc-zero}
use lib.ListN.{length}
use borrow.Author.Tests.{leb-true, eqb-true}
use Rattle.std.specs.Prelude.{Ok, Err}
use Rattle.model_files.specs.Bytes.{block_length}
use Rattle.model_files.specs.File.{constraints_in, problem_in, whole_blocks, checks_match, magic_matches, block_count_matches, padding_zero, read_error, read_file}
use Rattle.model_problems.specs.Problem.{sizes_in_range, domain_in_range, thresholds_in_range, constraints_in_range, divisors_in_range, first_error, result_of}
use Rattle.model_acceptance.specs.Acceptable.{problem_error}
use Rattle.lists.proofs.Bools.{said-no, said-yes, and-true}
use Rattle.format.proofs.AcceptedShape.{Sizes, sizes, variables-in, constraints-in}
use Rattle.problem.specs.declared.Refusal.{Refusal}
use Rattle.problem.specs.declared.Refusal.TheVariants.{Truncated, BadChecksum, BadMagic, SizeRange, NonzeroPadding}
use Rattle.problem.specs.declared.Problem.{Problem}
use Rattle.problem.specs.Answer.{number, number_of, seen_by, shown_by}
use Rattle.fields.specs.Fields.{sizes_match, Blocks}
use Rattle.problem.specs.View.{problem_of, packed, seen_read, reading_of}
use Rattle.problem.proofs.Numbers.{numbered}
use Rattle.problem.proofs.Views.{view-of-file}

module _ (f : List ℕ) where
  abbrev Refuses : Refusal → Type 0
  Refuses e = seen_read (Err e) ≡ reading_of (read_file f)

  refused : (k : ℕ) (e : Refusal) → read_error f ≡ suc k → number e ≡ suc k → Refuses e
  unfolding read_file result_of reading_of shown_by seen_read seen_by
  refused k e h n = rw (h, n)

  pub truncated : (r : Bool) → r ≡ whole_blocks f → r ≡ false → Refuses Truncated
  unfolding read_error first_error number
  truncated r e h = refused 0 Truncated (rw (said-no e h)) refl

  module _ (t₁ : whole_blocks f ≡ true) where
    pub has-head : block_length ≤ length f
    unfolding whole_blocks
    has-head = leb-true _ _ (and-true _ _ t₁).0

    pub bad-checksum : (r : Bool) → r ≡ checks_match f → r ≡ false → Refuses BadChecksum
    unfolding read_error first_error number
    bad-checksum r e h = refused 1 BadChecksum (rw (t₁, said-no e h)) refl

    module _ (t₂ : checks_match f ≡ true) where
      pub bad-magic : (r : Bool) → r ≡ magic_matches f → r ≡ false → Refuses BadMagic
      unfolding read_error first_error number
      bad-magic r e h = refused 2 BadMagic (rw (t₁, t₂, said-no e h)) refl

      module _ (t₃ : magic_matches f ≡ true) where
        pub size-range : (r : Bool) → r ≡ sizes_match f → r ≡ false → Refuses SizeRange
        unfolding sizes_match read_error first_error number
        size-range r e h = refused 3 SizeRange (rw (t₁, t₂, t₃, said-no e h)) refl

-- ---- past the sizes, 5, 13, 6 and 10 are tests on the problem
errors-by : (a b c d x : Bool) →
    first_error ((5, a) ∷ (13, b) ∷ (6, c) ∷ (10, d) ∷ (7, x) ∷ []) ≡
    cond (eqb (first_error ((5, a) ∷ (13, b) ∷ (6, c) ∷ (10, d) ∷ [])) 0) (cond x 0 7) (first_error ((5, a) ∷ (13, b) ∷ (6, c) ∷ (10, d) ∷ []))
unfolding first_error
errors-by false b c d x = refl
errors-by true false c d x = refl
errors-by true true false d x = refl
errors-by true true true false x = refl
errors-by true true true true x = refl

module _ (f : List ℕ) (t₄ : sizes_match f ≡ true) where
  t₄' : (sizes_in_range (problem_in f) && block_count_matches f) ≡ true
  unfolding sizes_match
  t₄' = t₄

  sized : sizes_in_range (problem_in f) ≡ true
  sized = (and-true _ (block_count_matches f) t₄').0

  in-range : Sizes (problem_in f)
  in-range = sizes (problem_in f) sized

  pub blocks : Blocks f
  unfolding block_count_matches
  blocks =
      let counted : length f ≡ block_length * suc (constraints_in f) = eqb-true _ _ (and-true (sizes_in_range (problem_in f)) _ t₄').1 in
      record {
        few-variables = omega (arith, in-range.few-variables, variables-in f);
        few-constraints = omega (arith, in-range.few-constraints, constraints-in f);
        long = omega arith;
      }

  module _ (t₁ : whole_blocks f ≡ true) (t₂ : checks_match f ≡ true) (t₃ : magic_matches f ≡ true) where
    error-is : read_error f ≡ cond (eqb (problem_error (problem_in f)) 0) (cond (padding_zero f) 0 7) (problem_error (problem_in f))
    unfolding read_error problem_error first_error
    error-is =
        let p = problem_in f in
        rw (t₁, t₂, t₃, t₄', sized) (errors-by (domain_in_range p) (thresholds_in_range p) (constraints_in_range p) (divisors_in_range p) (padding_zero f))

    module _ (p : Problem) (ep : p ≡ packed (problem_in f)) where
      view : problem_error (problem_of p) ≡ problem_error (problem_in f)
      view = ap problem_error (ap problem_of ep ∙ view-of-file f in-range)

      refused-as : (k : ℕ) (e : Refusal) → number e ≡ k → number e ≡ problem_error (problem_of p) → Refuses f e
      refused-as zero e h n = absurd (numbered e h)
      refused-as (suc k) e h n = refused f k e (error-is ∙ rw (← view, ← n, h, eqb-suc-zero k)) h

      pub problem-refused : (e : Refusal) → number_of {A = Unit {0}} (Err e) ≡ problem_error (problem_of p) → Refuses f e
      unfolding number_of
      problem-refused e n = refused-as (number e) e refl n

      module _ (fine : number_of {A = Unit {0}} (Ok tt) ≡ problem_error (problem_of p)) where
        none : problem_error (problem_in f) ≡ 0
        unfolding number_of
        none = rw (← view, ← fine)

        pub nonzero-padding : (r : Bool) → r ≡ padding_zero f → r ≡ false → Refuses f NonzeroPadding
        unfolding number
        nonzero-padding r e h = refused f 6 NonzeroPadding (error-is ∙ rw (none, said-no e h)) refl

        pub accepted : (r : Bool) → r ≡ padding_zero f → r ≡ true → seen_read (Ok p) ≡ reading_of (read_file f)
        unfolding read_file result_of reading_of shown_by seen_read seen_by
        accepted r e h = rw (ep, error-is, none, said-yes e h)

-- what the tests of `read` tell
pub ruleset told = (truncated, has-head, bad-checksum, bad-magic, size-range, blocks, problem-refused, nonzero-padding, accepted, said-yes)
