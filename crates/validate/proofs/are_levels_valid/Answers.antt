-- `validate::are_levels_valid` meets its contract. Assumes nothing.
use Prim.Native.Nat.{◌+◌}
use borrow.Author.Rules.{rules}
use Rattle.lists.proofs.Chains.{every}
use Rattle.layout.specs.Rows.{thresholds_of}
use Rattle.state.specs.View.{level_at}
use Rattle.level_conditions.proofs.LevelLoops.{next_passes}
use Rattle.validate.proofs.Valid.{levels-view}
use Rattle.validate.proofs.are_levels_valid.Goals as goal

pub returns-then-is_level_valid : goal.returns-then-is_level_valid
unfolding next_passes level_at
returns-then-is_level_valid c =
    let s = c.args.s.now in
    let v = levels-view s in
    let e = every s.depth (next_passes s.n (s.m + s.made) (thresholds_of s.n s.thresholds) s.levels) (λ k. k) c.all.ensures.ran (cc) (λ d b q k. search rules) in
    search rules

pub returns-else-is_level_valid : goal.returns-else-is_level_valid
unfolding level_at
returns-else-is_level_valid c = let v = levels-view c.args.s.now in search rules
