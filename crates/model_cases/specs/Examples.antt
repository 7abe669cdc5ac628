-- What the reference table and the cases share: tests of equality, answers of turns, journal blocks and bytes.
use Rattle.std.specs.Prelude.{ℕ, ◌+◌, ◌*◌, ◌-◌, Bool, List, [], ◌∷◌, ◌++◌, eqb, length, replicate}
use Rattle.model_problems.specs.Lists.{all, all_pairs, tab}
use Rattle.model_problems.specs.Constraint.{Constraint, equal}
use Rattle.model_problems.specs.Problem.{Problem}
use Rattle.model_problems.specs.Examples.{same_values, same_bounds}
use Rattle.model_files.specs.Bytes.{u16_at, u32_at}
use Rattle.model_files.specs.Journal.{Record, cut_in}
use Rattle.model_walk.specs.Search.{open_problem}
use Rattle.model_walk.specs.Step.{Verdict}
use Rattle.model_walk.specs.Examples.{answers}
use Rattle.model_claims.specs.Demand.{answer_at, journal}

-- ---- equality
abbrev pub same_bytes : List ℕ → List ℕ → Bool
same_bytes u v = all_pairs eqb u v

abbrev pub same_problem : Problem → Problem → Bool
same_problem p q =
    all (all_pairs same_bounds p.domain q.domain ∷ same_values p.thresholds q.thresholds ∷ all_pairs equal p.constraints q.constraints ∷ eqb p.budget q.budget ∷ [])

-- the answer of turn k from the opening, k counted from 0
abbrev pub steps_to : Verdict → ℕ → ℕ → Problem → Bool
steps_to v n k p = answers v n (answer_at k (open_problem p))

-- ---- journal blocks by their values: count, false line, cut's number, depth met, d, cut, lines taken in
abbrev pub entry : ℕ → ℕ → ℕ → ℕ → ℕ → Constraint → List ℕ → Record
entry n f k x d cut us = record { count = n; falsified = f; cut_number = k; depth = x; back = d; cut = cut; used = us }

-- read from a block at document 01's places
abbrev entry_is : Record → List ℕ → Bool
entry_is r b =
    let n = length r.used in
    all (
    eqb (u32_at b 4) r.count ∷
    eqb (u32_at b 8) r.falsified ∷
    eqb (u32_at b 12) r.cut_number ∷
    eqb (u16_at b 16) r.depth ∷
    eqb (u16_at b 18) r.back ∷
    equal (cut_in n b) r.cut ∷
    all_pairs eqb (tab (λ (i : ℕ). u32_at b (152 + 4 * i)) 0 n) r.used ∷
    [])

-- the journal of the first k turns from the opening
abbrev pub writes : List Record → ℕ → Problem → Bool
writes es k p = all_pairs entry_is es (journal k (open_problem p))

-- ---- bytes
-- a block: its first bytes, zeros, and the four bytes of its check
abbrev pub filled : List ℕ → List ℕ → List ℕ
filled content check = content ++ (replicate (508 - length content) 0 ++ check)
