-- `engine::walk::Walk::count_conflict` meets its contract. Assumes nothing.
use native.Mathlib.Omega.{arith}
use mathlib.Core.Bool.{false}
use mathlib.Core.Path.{sym, subst}
use Rattle.state.specs.declared.Status.TheVariants.{Infeasible}
use Rattle.engine.specs.Walk.{CountedOn}
use Rattle.engine.specs.declared.walk.Walk.{Walk}
use Rattle.engine.proofs.Counting.{countable-at, none-on, leaves, back-on}
use Rattle.engine.proofs.walk.Walk.count_conflict.Goals as goal

pub learn-back-requires : goal.learn-back-requires
learn-back-requires c =
    let k = c.requires in
    let n = k.stopped.running.counts in
    record { countable = countable-at k.stopped k.more; conflicts = omega (arith, k.afford, n.limited); done = omega (arith, k.more, k.fits) }

pub returns-then-back-eq0 : goal.returns-then-back-eq0
returns-then-back-eq0 c = λ base old v tally p.
    let k = c.requires in
    subst (λ (x : Walk). CountedOn c.args.given.now base old c.args.keep v (record c.learn-back.new.s { status = Infeasible }) x c.learn-back.new.buffer false) (sym c.start_turn.ensures)
    (none-on p k.more k.afford c.learn-back.ensures c.if-back-eq0.true)

pub go_back-requires : goal.go_back-requires
go_back-requires c = let k = c.requires in leaves k.stopped k.more k.afford c.learn-back.ensures (omega (arith, c.if-back-eq0.false))

pub returns : goal.returns
returns c = λ base old v tally p.
    let k = c.requires in
    back-on p k.more k.afford c.learn-back.ensures (omega (arith, c.if-back-eq0.false)) c.go_back.ensures
