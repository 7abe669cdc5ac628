-- `propagate::bounds::set` meets its contract: the change fits. Assumes nothing.
use mathlib.Core.Path.{refl}
use mir.Facts.{to_z-of_z}
use mir.Syntax.{w64}
use mir.Val.{SFits}
use lib.Dec.{lit<}
use Rattle.integer.specs.Size.{fits}
use Rattle.integer.specs.Tests.{back}
use Rattle.layout.specs.Rows.{number_in}
use borrow.Author.Rules.{rules}
use Rattle.propagate.proofs.bounds.set.Goals as goal

pub overflow_sub-result : goal.overflow_sub-result
unfolding number_in
overflow_sub-result c =
    let p = c.requires in
    let v : SFits w64 c.args.v = search rules in
    rw (to_z-of_z v, back (lit< tt) p.old) (fits (lit< tt) p.change)

pub returns : goal.returns
unfolding number_in
returns c =
    let p = c.requires in
    let v : SFits w64 c.args.v = search rules in
    rw (to_z-of_z v, back (lit< tt) p.old) (back (lit< tt) p.change, record { bound = refl; why = refl })
