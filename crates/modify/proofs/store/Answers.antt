-- `modify::store` meets its contract. Assumes nothing.
use mathlib.Core.Path.{refl}
use borrow.Author.Rules.{rules}
use mir.Facts.{to_z-of_z}
use Rattle.modify.proofs.Rows.{put-here, put-others}
use Rattle.modify.proofs.store.Goals as goal

pub returns : goal.returns
returns c =
    let s = c in
    let p = s.args.problem in
    let h = c.store_row.ensures in
    rw (to_z-of_z s.ranges.divisor)
    (record {
      stays = refl;
      here = put-here p.n s.requires.0 _ _ _ s.args.j h p.divisors s.args.divisor (search rules);
      others = put-others p.n s.requires.0 _ _ _ s.args.j h p.divisors s.args.divisor;
    })
