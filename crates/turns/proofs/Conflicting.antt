-- A conflict in the loop: what was learned, and the model's conflict that it is.
use Prim.Native.Nat.{ℕ, zero, suc}
use mathlib.Core.List.{List}
use mathlib.Core.Path.{◌≡◌, refl, ap, ap₂, ◌∙◌}
use lib.ListN.{get_or}
use Rattle.model_problems.specs.Constraint.{Constraint, modulus}
use Rattle.model_files.specs.File.{no_constraint}
use Rattle.model_walk.specs.Search as model
use Rattle.model_walk.specs.Conflict.{Analysis, analyze, Numbered, numbered, backjump_level, settled, Conflict, conflict_of, learning, nothing_learned, no_learning, conflict_by, at_conflict}

abbrev pub conflict_with : model.Core → ℕ → Constraint → List ℕ → ℕ → ℕ → model.Core → Conflict
conflict_with c j cut used number back kept =
    record { falsified = model.number_at c j; cut_number = number; depth = model.depth c; back = back; cut = cut; used = used; core = settled back kept }

module _ (c : model.Core) (j : ℕ) where
  -- at an inequality: what was learned
  pub learned-is : (cut : Constraint) (used : List ℕ) (number back : ℕ) (kept : model.Core) → modulus (get_or (model.kept c) j no_constraint) ≡ 0 →
      analyze c (get_or (model.kept c) j no_constraint) ≡ record { cut = cut; used = used } → numbered c cut ≡ record { number = number; core = kept } → backjump_level cut c ≡ back →
      at_conflict c j ≡ conflict_with c j cut used number back kept
  unfolding at_conflict conflict_by learning conflict_of
  learned-is cut used number back kept i a q b =
      ap (λ (e : ℕ). conflict_by e c j (get_or (model.kept c) j no_constraint)) i ∙
      ap (λ (x : Analysis). conflict_of c j x (numbered c x.cut) (backjump_level x.cut c)) a ∙
      ap₂ (λ (x : Numbered) (d : ℕ). conflict_of c j (record { cut = cut; used = used }) x d) q b

  -- at a divisor constraint: nothing
  pub dismissed-is : (k : Constraint) (back : ℕ) → get_or (model.kept c) j no_constraint ≡ k → (modulus k ≡ 0 → ⊥) → backjump_level k c ≡ back →
      at_conflict c j ≡ conflict_with c j (nothing_learned c.variables).cut (nothing_learned c.variables).used 0 back c
  unfolding at_conflict conflict_by
  dismissed-is k back e h b = ap (λ (x : Constraint). conflict_by (modulus x) c j x) e ∙ by (modulus k) h ∙ (unfold no_learning conflict_of in ap (λ (d : ℕ). conflict_with c j (nothing_learned c.variables).cut (nothing_learned c.variables).used 0 d c) b)
    where
      by : (q : ℕ) → (q ≡ 0 → ⊥) → conflict_by q c j k ≡ no_learning c j k
      by zero h = absurd (h refl)
      by (suc q) h = refl
