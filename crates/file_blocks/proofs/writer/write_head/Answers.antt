use borrow.Author.Rules.{rules}
use Rattle.file_blocks.proofs.Writing.{head-sealed}
use Rattle.file_blocks.proofs.writer.write_head.Goals as goal

pub put_thresholds-requires : goal.put_thresholds-requires
put_thresholds-requires c = let h = c.requires in record { n_le_max_variables = (h.n_le_max_variables.0, h.n_le_max_variables.1, search rules); problem_value = h.problem_value }

pub returns : goal.returns
returns c =
    head-sealed _
    c.requires.n_le_max_variables.0
    c.clear.ensures
    c.put_sizes.ensures
    c.put_bounds.ensures
    c.put_thresholds.ensures
    c.seal.ensures
