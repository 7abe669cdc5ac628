-- Computed cases beside the table: of kept cuts here, of divisor lines, of thresholds, of turns and runs, of strikes and listings, of bounds set, of validity, and of bytes. One theorem covers them.
use Rattle.std.specs.Prelude.{ℕ, Bool, true, false, List, [], ◌∷◌, ◌++◌, T, eqb, pos}
use Rattle.std.proofs.Math.Option.{Option, none, some}
use Rattle.model_problems.specs.Lists.{tab, all, all_pairs}
use Rattle.model_problems.specs.Constraint.{Constraint, equal}
use Rattle.model_walk.specs.Search.{Core, number_at, kept_number, next_number, keep, core_of}
use Rattle.model_problems.specs.Examples.{neg, linear, A-second, plan_a, plan_b}
use Rattle.model_claims.specs.Computing.{definitions}
use Rattle.model_cases.specs.SearchCases.{search_cases}
use Rattle.model_cases.specs.DivisorCases.{divisor_cases}
use Rattle.model_cases.specs.ThresholdCases.{thirteen, threshold_cases}
use Rattle.model_cases.specs.ExclusionCases.{exclusion_cases}
use Rattle.model_cases.specs.ListingCases.{listing_cases}
use Rattle.model_cases.specs.PropagationCases.{propagation_cases}
use Rattle.model_cases.specs.ValidityCases.{validity_cases}
use Rattle.model_cases.specs.FileCases.{check_rule, indivisible, file_cases}

-- ---- 'Opening .. rounds its lines': plan B's are those of P1 and P2
abbrev opened : Bool
opened =
    all_pairs equal (core_of plan_b).inputs (linear (pos 2 ∷ neg 1 ∷ []) (pos 0) ∷ linear (neg 2 ∷ pos 1 ∷ []) (pos 1) ∷ [])

-- ---- 'Input lines and the 64 newest cuts are kept': cuts 3 to 66 are kept, and one more is made
abbrev cut_with : ℕ → Constraint
cut_with k = linear (neg 1 ∷ pos 0 ∷ []) (pos k)

abbrev full : Core
full =
    let c = core_of (plan_a 5) in
    record {
      variables = 2;
      thresholds = c.thresholds;
      inputs = c.inputs;
      cuts = tab cut_with 3 64;
      numbers = tab (λ (k : ℕ). k) 3 64;
      made = 64;
      deepest = c.deepest;
      outer = [];
    }

abbrev found : Option Constraint → Constraint → Bool
found none k = false
found (some l) k = equal l k

abbrev missing : Option Constraint → Bool
missing none = true
missing (some l) = false

abbrev newest_kept : Bool
newest_kept =
    let c = keep (cut_with 67) full in
    all (
    all_pairs equal c.cuts (tab cut_with 4 64) ∷
    all_pairs eqb c.numbers (tab (λ (k : ℕ). k) 4 64) ∷
    eqb c.made 65 ∷
    eqb (number_at c 1) 2 ∷
    eqb (number_at c 2) 4 ∷
    eqb (next_number c) 68 ∷
    found (kept_number c 2) A-second ∷
    missing (kept_number c 3) ∷
    found (kept_number c 4) (cut_with 4) ∷
    found (kept_number c 67) (cut_with 67) ∷
    missing (kept_number c 68) ∷
    [])

-- ---- the theorem: what is quick stands first
unfoldable pub short_cases : List Bool
short_cases = check_rule ∷ opened ∷ indivisible ∷ thirteen ∷ []

pub cases : List Bool
cases = short_cases ++ (divisor_cases ++ (threshold_cases ++ (search_cases ++ (exclusion_cases ++ (listing_cases ++ (propagation_cases ++ (newest_kept ∷ (validity_cases ++ file_cases))))))))

pub cases-hold : T (all cases)
unfolding cases short_cases divisor_cases threshold_cases search_cases exclusion_cases listing_cases propagation_cases validity_cases file_cases definitions
cases-hold = tt
