-- Blank rows: the kept constraints with each divisor constraint replaced by 0 ≤ 0. The same bounds are implied, the same cut is found at a conflict, and it
-- has the same number.
use Prim.Native.Nat.{ℕ, zero, suc, ◌+◌, ◌≤◌, ◌<◌}
use native.Mathlib.Omega.{arith}
use mathlib.Core.Bool.{Bool, true, false, cond}
use mathlib.Core.List.{List, [], ◌∷◌, ◌++◌}
use mathlib.Core.Option.{Option, none, some}
use mathlib.Core.Path.{◌≡◌, refl, sym, ap, ◌∙◌}
use lib.Dec.{T, ltb}
use lib.IntN.{ℤ, pos, negsuc, nat_abs, zero-*ℤ}
use lib.ListN.{get_or, length, get_elem?}
use Rattle.model_problems.specs.Lists.{tab, or_else}
use Rattle.model_problems.specs.Constraint.{Constraint, Box, modulus, is_inequality, coefficient_at, term, terms, activity, falsified_by, falsified, opposite, equal}
use Rattle.model_walk.specs.Move.{improvement_at, improvement_from, improvement_by, first_improvement}
use Rattle.model_walk.specs.Search.{Reason, domain, decision, flipped, constraint, Level, reasons_at, Core, levels, with_levels, kept, depth, dropped, number_at, kept_number, next_number, keep}
use Rattle.model_walk.specs.Conflict.{Resolved, unchanged, resolve_with, resolve_kept, resolve_by, used_reason, resolve_at, analyze_from, analyze, Numbered, first_equal, numbered_by, numbered, back_from, back_up, settled}
use Rattle.integer.specs.Tests.{is_true, is_false, not_in, not-out, of-false}
use Rattle.validity.proofs.Every.{Every}
use Rattle.validity.proofs.Constraints.{Inequality, inequality-in, inequality-out}
use Rattle.validity.proofs.Tests.{same-constraint}

-- ---- 0 ≤ 0
pub record Blank (r : Constraint) : Type 0 where
  pub constant : r.constant ≡ pos 0
  pub coefficients : (i : ℕ) → coefficient_at r i ≡ pos 0
  pub divisor : r.divisor ≡ pos 0

pub blank-inequality : (r : Constraint) → Blank r → Inequality r
unfolding modulus
blank-inequality r b = ap nat_abs b.divisor

no-terms : (cs : List ℤ) (box : Box) → ((i : ℕ) → get_or cs i (pos 0) ≡ pos 0) → terms cs box ≡ pos 0
unfolding terms term
no-terms [] box h = refl
no-terms (a ∷ cs) [] h = refl
no-terms (a ∷ cs) (b ∷ box) h = rw (h 0, zero-*ℤ b.lower, no-terms cs box (λ i. h (suc i)))

-- no box falsifies it
pub blank-clear : (r : Constraint) (box : Box) → Blank r → falsified r box ≡ false
unfolding falsified falsified_by activity coefficient_at
blank-clear r box b = rw (blank-inequality r b, b.constant, no-terms r.coefficients box b.coefficients)

-- ---- a constraint and what stands for it: itself, or a blank where it carries a divisor
pub data BlankOf (k r : Constraint) : Type 0 where
  whole : Inequality k → r ≡ k → BlankOf k r
  blank : (Inequality k → ⊥) → Blank r → BlankOf k r

abbrev pub Blanked : List Constraint → List Constraint → Type 0
Blanked [] [] = Unit {0}
Blanked [] (r ∷ rs) = ⊥
Blanked (k ∷ ks) [] = ⊥
Blanked (k ∷ ks) (r ∷ rs) = BlankOf k r × Blanked ks rs

pub blanked-length : (ks rs : List Constraint) → Blanked ks rs → length ks ≡ length rs
blanked-length [] [] b = refl
blanked-length [] (r ∷ rs) b = absurd b
blanked-length (k ∷ ks) [] b = absurd b
blanked-length (k ∷ ks) (r ∷ rs) b = ap suc (blanked-length ks rs b.1)

-- inequalities stand for themselves
pub blanked-same : (ks : List Constraint) → Every Inequality ks → Blanked ks ks
blanked-same [] h = tt
blanked-same (k ∷ ks) h = (whole h.0 refl, blanked-same ks h.1)

pub blanked-append : (ks rs ls ss : List Constraint) → Blanked ks rs → Blanked ls ss → Blanked (ks ++ ls) (rs ++ ss)
blanked-append [] [] ls ss b c = c
blanked-append [] (r ∷ rs) ls ss b c = absurd b
blanked-append (k ∷ ks) [] ls ss b c = absurd b
blanked-append (k ∷ ks) (r ∷ rs) ls ss b c = (b.0, blanked-append ks rs ls ss b.1 c)

-- by position
pub blanked-at : (ks rs : List Constraint) (j : ℕ) (d : Constraint) → Blanked ks rs → j < length ks → BlankOf (get_or ks j d) (get_or rs j d)
blanked-at [] rs j d b l = absurd (omega arith)
blanked-at (k ∷ ks) [] j d b l = absurd b
blanked-at (k ∷ ks) (r ∷ rs) zero d b l = b.0
blanked-at (k ∷ ks) (r ∷ rs) (suc j) d b l = blanked-at ks rs j d b.1 (omega arith)

pub blanked-tab : (f g : ℕ → Constraint) (i count : ℕ) → ((j : ℕ) → i ≤ j → j < i + count → BlankOf (f j) (g j)) → Blanked (tab f i count) (tab g i count)
unfolding tab
blanked-tab f g i zero h = tt
blanked-tab f g i (suc count) h = (h i (omega arith) (omega arith), blanked-tab f g (suc i) count (λ j l m. h j (omega arith) (omega arith)))

-- ---- the same bounds are implied
none_from : (j i : ℕ) (w : ℤ) (cs : List ℤ) (box : Box) → ((n : ℕ) → get_or cs n (pos 0) ≡ pos 0) → improvement_from j i w cs box ≡ none
unfolding improvement_from improvement_at or_else
none_from j i w [] box h = refl
none_from j i w (a ∷ cs) [] h = refl
none_from j i w (a ∷ cs) (b ∷ box) h = rw (h 0) (none_from j (suc i) w cs box (λ n. h (suc n)))

none-divided : (q j : ℕ) (k : Constraint) (box : Box) → (q ≡ 0 → ⊥) → improvement_by q j k box ≡ none
unfolding improvement_by
none-divided zero j k box n = absurd (n refl)
none-divided (suc q) j k box n = refl

none-blank : (j : ℕ) (r : Constraint) (box : Box) → Blank r → improvement_by (modulus r) j r box ≡ none
unfolding improvement_by coefficient_at
none-blank j r box b = rw (blank-inequality r b) (none_from j 0 (activity r box) r.coefficients box b.coefficients)

improvement-of : (j : ℕ) (k r : Constraint) (box : Box) → BlankOf k r → improvement_by (modulus k) j k box ≡ improvement_by (modulus r) j r box
improvement-of j k r box (whole e s) = rw s
improvement-of j k r box (blank n b) = none-divided (modulus k) j k box n ∙ sym (none-blank j r box b)

pub improvement-blanked : (j : ℕ) (ks rs : List Constraint) (box : Box) → Blanked ks rs → first_improvement j ks box ≡ first_improvement j rs box
unfolding first_improvement
improvement-blanked j [] [] box b = refl
improvement-blanked j [] (r ∷ rs) box b = absurd b
improvement-blanked j (k ∷ ks) [] box b = absurd b
improvement-blanked j (k ∷ ks) (r ∷ rs) box b = rw (improvement-of j k r box b.0, improvement-blanked (suc j) ks rs box b.1)

-- ---- the same constraint equals a falsified cut
unequal-divided : (cut k : Constraint) → cut.divisor ≡ pos 0 → (Inequality k → ⊥) → equal cut k ≡ false
unfolding modulus
unequal-divided cut k e n = is_false _ (not_in (equal cut k) (λ t. n (ap nat_abs (ap (λ (l : Constraint). l.divisor) (sym (same-constraint cut k t)) ∙ e))))

unequal-blank : (cut r : Constraint) (box : Box) → T (falsified cut box) → Blank r → equal cut r ≡ false
unequal-blank cut r box f b =
    is_false _ (not_in (equal cut r) (λ t. not-out (falsified r box) (of-false _ (blank-clear r box b)) (rw (same-constraint cut r t) at f)))

equal_of : (cut k r : Constraint) (box : Box) → cut.divisor ≡ pos 0 → T (falsified cut box) → BlankOf k r → equal cut k ≡ equal cut r
equal_of cut k r box e f (whole i s) = rw s
equal_of cut k r box e f (blank n b) = unequal-divided cut k e n ∙ sym (unequal-blank cut r box f b)

-- before kept cuts, which are the same
pub equal-blanked : (cut : Constraint) (box : Box) → cut.divisor ≡ pos 0 → T (falsified cut box) → (p : ℕ) (ks rs cuts : List Constraint) → Blanked ks rs →
    first_equal p (ks ++ cuts) cut ≡ first_equal p (rs ++ cuts) cut
unfolding first_equal
equal-blanked cut box e f p [] [] cuts b = refl
equal-blanked cut box e f p [] (r ∷ rs) cuts b = absurd b
equal-blanked cut box e f p (k ∷ ks) [] cuts b = absurd b
equal-blanked cut box e f p (k ∷ ks) (r ∷ rs) cuts b = rw (equal_of cut k r box e f b.0, equal-blanked cut box e f (suc p) ks rs cuts b.1)

-- ---- a core with other thresholds and inputs
abbrev pub with_inputs : List ℤ → List Constraint → Core → Core
with_inputs ts ks c = record { variables = c.variables; thresholds = ts; inputs = ks; cuts = c.cuts; numbers = c.numbers; made = c.made; deepest = c.deepest; outer = c.outer }

-- resolving with a divisor constraint and with a blank are the same: neither is done
not-opposite : (a : ℤ) → opposite a (pos 0) ≡ false
unfolding opposite
not-opposite (pos zero) = refl
not-opposite (pos (suc a)) = refl
not-opposite (negsuc a) = refl

resolve-of : (box : Box) (i : ℕ) (f : Constraint) (n : ℕ) (k r : Constraint) → BlankOf k r → resolve_kept box i f n (some k) ≡ resolve_kept box i f n (some r)
unfolding resolve_kept resolve_with
resolve-of box i f n k r (whole e s) = rw s
resolve-of box i f n k r (blank d b) = divided (is_inequality k) (λ t. d (inequality-in k t)) ∙ sym blanked
  where
    divided : (t : Bool) → (T t → ⊥) → cond t (resolve_with box i f n k) (unchanged f) ≡ unchanged f
    divided true h = absurd (h tt)
    divided false h = refl

    blanked : resolve_kept box i f n (some r) ≡ unchanged f
    blanked = rw (is_true (is_inequality r) (inequality-out r (blank-inequality r b)), b.coefficients i, not-opposite (coefficient_at f i))

resolve-elem : (box : Box) (i : ℕ) (f : Constraint) (n : ℕ) (ks rs : List Constraint) (p : ℕ) → Blanked ks rs → resolve_kept box i f n (get_elem? ks p) ≡ resolve_kept box i f n (get_elem? rs p)
resolve-elem box i f n [] [] p b = refl
resolve-elem box i f n [] (r ∷ rs) p b = absurd b
resolve-elem box i f n (k ∷ ks) [] p b = absurd b
resolve-elem box i f n (k ∷ ks) (r ∷ rs) zero b = resolve-of box i f n k r b.0
resolve-elem box i f n (k ∷ ks) (r ∷ rs) (suc p) b = resolve-elem box i f n ks rs p b.1

-- ---- a core whose inputs stand for ks; its thresholds do not matter
module _ (c : Core) (ts : List ℤ) (ks : List Constraint) (b : Blanked ks c.inputs) where
  pub number-blanked : (p : ℕ) → number_at (with_inputs ts ks c) p ≡ number_at c p
  unfolding number_at dropped
  number-blanked p = rw (blanked-length ks c.inputs b)

  resolve-number : (box : Box) (i : ℕ) (f : Constraint) (n k : ℕ) → resolve_kept box i f n (kept_number (with_inputs ts ks c) k) ≡ resolve_kept box i f n (kept_number c k)
  unfolding kept_number dropped
  resolve-number box i f n zero = refl
  resolve-number box i f n (suc k) = rw (blanked-length ks c.inputs b) (either (ltb k (length c.inputs)) _)
    where
      either : (t : Bool) (o : Option Constraint) → resolve_kept box i f n (cond t (get_elem? ks k) o) ≡ resolve_kept box i f n (cond t (get_elem? c.inputs k) o)
      either true o = resolve-elem box i f n ks c.inputs k b
      either false o = refl

  resolve-by : (i : ℕ) (f : Constraint) (r : Reason) → resolve_by (with_inputs ts ks c) i f r ≡ resolve_by c i f r
  unfolding resolve_by
  resolve-by i f domain = refl
  resolve-by i f decision = refl
  resolve-by i f flipped = refl
  resolve-by i f (constraint k) = resolve-number c.deepest.box i f k k

  analyze-from : (i : ℕ) (f : Constraint) (used : List ℕ) → analyze_from (with_inputs ts ks c) i f used ≡ analyze_from c i f used
  unfolding analyze_from resolve_at
  analyze-from zero f used = refl
  analyze-from (suc i) f used =
      let r = used_reason (coefficient_at f i) (reasons_at c.deepest.reasons i) in
      ap (λ (s : Resolved). analyze_from (with_inputs ts ks c) i s.cut (s.used ∷ used)) (resolve-by i f r) ∙
      analyze-from i (resolve_by c i f r).cut ((resolve_by c i f r).used ∷ used)

  -- the same cut is found
  pub analyze-blanked : (f : Constraint) → analyze (with_inputs ts ks c) f ≡ analyze c f
  unfolding analyze
  analyze-blanked f = analyze-from c.variables f []

  numbered-by : (cut : Constraint) (o : Option ℕ) → numbered_by (with_inputs ts ks c) cut o ≡ record { number = (numbered_by c cut o).number; core = with_inputs ts ks (numbered_by c cut o).core }
  unfolding numbered_by next_number keep
  numbered-by cut none = rw (blanked-length ks c.inputs b)
  numbered-by cut (some p) = rw (number-blanked p)

  -- it has the same number, and the core that keeps it has the other inputs
  pub numbered-blanked : (cut : Constraint) (box : Box) → cut.divisor ≡ pos 0 → T (falsified cut box) → (number : ℕ) (d : Core) →
      numbered c cut ≡ record { number = number; core = d } → numbered (with_inputs ts ks c) cut ≡ record { number = number; core = with_inputs ts ks d }
  unfolding numbered kept
  numbered-blanked cut box e f number d h =
      ap (numbered_by (with_inputs ts ks c) cut) (equal-blanked cut box e f 0 ks c.inputs c.cuts b) ∙ numbered-by cut (first_equal 0 (c.inputs ++ c.cuts) cut) ∙
      ap (λ (n : Numbered). record { number = n.number; core = with_inputs ts ks n.core }) h

-- ---- going back does not see the inputs
back-inputs : (ks : List Constraint) (c : Core) (ls : List Level) → back_from ls (with_inputs c.thresholds ks c) ≡ with_inputs c.thresholds ks (back_from ls c)
unfolding back_from with_levels
back-inputs ks c [] = refl
back-inputs ks c (l ∷ []) = refl
back-inputs ks c (l ∷ o ∷ ls) = refl

pub settled-inputs : (ks : List Constraint) (c : Core) (d : ℕ) → settled d (with_inputs c.thresholds ks c) ≡ with_inputs c.thresholds ks (settled d c)
unfolding settled back_up depth levels
settled-inputs ks c zero = refl
settled-inputs ks c (suc d) = back-inputs ks c _
