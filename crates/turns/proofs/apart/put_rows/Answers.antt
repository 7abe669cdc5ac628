-- `turns::apart::put_rows` meets its contract. Assumes nothing.
use mathlib.Core.Path.{ap}
use borrow.Author.Rules.{rules}
use mir.Syntax.{w64}
use mir.Val.{of_z}
use Rattle.layout.specs.Rows.{number_in}
use Rattle.turns.proofs.Setting.{put-past, put-more}
use Rattle.turns.proofs.apart.put_rows.Goals as goal
use Rattle.turns.proofs.apart.put_rows.Goals.{then-divisors-j-ne0, else-divisors-j-ne0}

pub loop-j-preserved : goal.loop-j-preserved
unfolding number_in
loop-j-preserved c =
    let a = c.args in
    let l = c.loop-j in
    elim c.if-divisors-j-ne0.branch [
      | then-divisors-j-ne0 w ↦ rw w.rows-is (put-more a.n l.j _ _ _ _ l.invariant c.requires.0 _ _ w.copy_row-row.ensures w.store_row.ensures (λ z. w.if-divisors-j-ne0.true (ap (of_z w64) z)))
      | else-divisors-j-ne0 w ↦ rw w.rows-is (put-past a.n l.j _ _ _ _ l.invariant (search rules))
    ]
