-- `levels::copy_to` meets its contract. Assumes nothing.
use borrow.Author.Rules.{rules}
use Rattle.std.proofs.lemmas.List.{places}
use Rattle.layout.specs.Rows.{number_in}
use Rattle.levels.proofs.copy_to.Goals as goal

pub returns : goal.returns
unfolding number_in
returns c =
    record {
      size = search (rules, places);
      inside = λ k h. search (rules, places, c.copy_from_slice.ensures.after);
      below = λ k h. search (rules, places);
      above = λ k h. search (rules, places);
    }
