use borrow.Author.Rules.{rules}
use Rattle.reading.proofs.Arrays.{problem-is}
use Rattle.reading.proofs.reader.problem_in.Goals as goal

pub returns : goal.returns
returns c = search (rules, problem-is)
