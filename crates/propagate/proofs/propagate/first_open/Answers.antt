-- `propagate::propagate::first_open` meets its contract: what is left to scan gives the whole scan's answer. Assumes nothing.
use borrow.Author.Rules.{rules}
use lib.IntN.{pos}
use lib.ListN.{get_or}
use mir.Facts.{to_z-of_z}
use mir.Syntax.{w64}
use mir.Val.{SFits}
use Rattle.layout.specs.Rows.{number_in}
use Rattle.propagate.proofs.Scans.{open-start, open-hit, open-miss, open-end}
use Rattle.propagate.proofs.propagate.first_open.Goals as goal

pub loop-i-init : goal.loop-i-init
loop-i-init c = open-start _ _ _

pub returns-then-level-i : goal.returns-then-level-i
unfolding number_in
returns-then-level-i c =
    let l : SFits w64 (get_or c.args.level.now.lower c.loop-i.i (pos 0)) = search rules in
    let u : SFits w64 (get_or c.args.level.now.upper c.loop-i.i (pos 0)) = search rules in
    open-hit _ _ _ _ _ c.loop-i.invariant c.loop-i-test.true
    (rw (to_z-of_z l, to_z-of_z u) at c.if-level-i.true)

pub loop-i-preserved : goal.loop-i-preserved
unfolding number_in
loop-i-preserved c =
    let l : SFits w64 (get_or c.args.level.now.lower c.loop-i.i (pos 0)) = search rules in
    let u : SFits w64 (get_or c.args.level.now.upper c.loop-i.i (pos 0)) = search rules in
    open-miss _ _ _ _ _ c.loop-i.invariant c.loop-i-test.true
    (rw (to_z-of_z l, to_z-of_z u) at c.if-level-i.false)

pub returns : goal.returns
returns c = open-end _ _ _ _ _ c.loop-i.invariant c.loop-i-test.false
