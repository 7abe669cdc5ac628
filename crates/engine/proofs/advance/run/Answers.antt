-- `engine::advance::run` meets its contract. Assumes nothing.
use native.Mathlib.Omega.{arith}
use mathlib.Core.Path.{refl}
use Rattle.turns.proofs.Rounds.{depth_small}
use Rattle.turns.proofs.Striking.{row_fits}
use Rattle.engine.proofs.Ending.{onward, spare, goes-on, solves, spent, none-left}
use Rattle.engine.proofs.advance.run.Goals as goal

pub propagate-requires : goal.propagate-requires
propagate-requires c =
    let k = c.loop-walk.invariant _ _ _ _ c.requires.way in
    record { base = k.base; old = c.requires.old; keep = c.args.keep; now = c.loop-walk.buffer; on = k.here }

-- ---- a decision
pub decide-requires : goal.decide-requires
decide-requires c =
    let k = c.loop-walk.invariant _ _ _ _ c.requires.way in
    record { base = k.base; old = c.requires.old; keep = c.args.keep; now = c.loop-walk.buffer; from = c.loop-walk.walk; tally = c.loop-walk.s.propagations; stopped = c.in-Decide.ensures _ _ _ _ k.here }

pub loop-walk-smaller-in-Decide : goal.loop-walk-smaller-in-Decide
loop-walk-smaller-in-Decide c =
    let k = c.loop-walk.invariant _ _ _ _ c.requires.way in
    (c.decide.ensures _ _ _ _ _ _ (c.in-Decide.ensures _ _ _ _ k.here)).less c.args.room

pub loop-walk-preserved-in-Decide : goal.loop-walk-preserved-in-Decide
loop-walk-preserved-in-Decide c = λ base limit list old k₀.
    let k = c.loop-walk.invariant _ _ _ _ k₀ in
    let d = c.decide.ensures _ _ _ _ _ _ (c.in-Decide.ensures _ _ _ _ k.here) in
    onward k d.same.left d.same.struck d.on

-- ---- a solution
pub returns-then-is_last : goal.returns-then-is_last
returns-then-is_last c = λ base limit list old k₀.
    let k = c.loop-walk.invariant _ _ _ _ k₀ in
    solves k c.loop-walk-test.true (c.in-Finish.ensures _ _ _ _ k.here) refl _ c.is_last.ensures c.if-is_last.true c.start_turn.ensures

pub strike_out-requires : goal.strike_out-requires
strike_out-requires c =
    let r = c.requires in
    let k = c.loop-walk.invariant _ _ _ _ r.way in
    let p = c.in-Finish.ensures _ _ _ _ k.here in
    let h = spare k c.loop-walk-test.true p r.unkept _ c.is_last.ensures c.if-is_last.false in
    record {
      base = r.base;
      limit = r.limit;
      room = c.args.room;
      list = r.list;
      old = r.old;
      keep = c.args.keep;
      now = c.loop-walk.buffer;
      from = c.loop-walk.walk;
      tally = c.loop-walk.s.propagations;
      way = onward k p.same.left p.same.struck p;
      spare = h;
      place = row_fits _ _ _ _ h.place (rw k.size r.roomy);
      fits = c.ranges.room.fits;
    }

pub loop-walk-smaller-in-Finish : goal.loop-walk-smaller-in-Finish
loop-walk-smaller-in-Finish c =
    let r = c.requires in
    let k = c.loop-walk.invariant _ _ _ _ r.way in
    let p = c.in-Finish.ensures _ _ _ _ k.here in
    (c.strike_out.ensures _ _ _ _ _ _ _ _ _ (onward k p.same.left p.same.struck p) (spare k c.loop-walk-test.true p r.unkept _ c.is_last.ensures c.if-is_last.false)).less

pub loop-walk-preserved-in-Finish : goal.loop-walk-preserved-in-Finish
loop-walk-preserved-in-Finish c = λ base limit list old k₀.
    let k = c.loop-walk.invariant _ _ _ _ k₀ in
    let p = c.in-Finish.ensures _ _ _ _ k.here in
    (c.strike_out.ensures _ _ _ _ _ _ _ _ _ (onward k p.same.left p.same.struck p) (spare k c.loop-walk-test.true p c.requires.unkept _ c.is_last.ensures c.if-is_last.false)).way

-- ---- a conflict
pub offset_bounds-s-s : goal.offset_bounds-s-s
offset_bounds-s-s c =
    let k = c.loop-walk.invariant _ _ _ _ c.requires.way in
    let p = c.in-Conflict.ensures _ _ _ _ k.here in
    omega (arith, depth_small p.running)

pub bounds-s-s : goal.bounds-s-s
bounds-s-s c =
    let k = c.loop-walk.invariant _ _ _ _ c.requires.way in
    let p = c.in-Conflict.ensures _ _ _ _ k.here in
    omega (arith, depth_small p.running)

pub returns-then-is_spent : goal.returns-then-is_spent
returns-then-is_spent c = λ base limit list old k₀.
    let k = c.loop-walk.invariant _ _ _ _ k₀ in
    spent k c.loop-walk-test.true (c.in-Conflict.ensures _ _ _ _ k.here) c.in-Conflict.j refl (c.is_spent.ensures.0 c.if-is_spent.true)

pub count_conflict-requires : goal.count_conflict-requires
count_conflict-requires c =
    let k = c.loop-walk.invariant _ _ _ _ c.requires.way in
    let p = c.in-Conflict.ensures _ _ _ _ k.here in
    record {
      base = k.base;
      old = c.requires.old;
      from = c.loop-walk.walk;
      tally = c.loop-walk.s.propagations;
      stopped = p;
      more = omega (arith, p.same.left, p.same.done, c.loop-walk-test.true);
      fits = omega (arith, p.same.left, k.less, c.requires.fits);
      afford = omega (arith, p.running.counts.afford, c.is_spent.ensures.1 c.if-is_spent.false);
    }

pub returns-then-not-count_conflict : goal.returns-then-not-count_conflict
returns-then-not-count_conflict c = λ base limit list old k₀.
    let k = c.loop-walk.invariant _ _ _ _ k₀ in
    none-left k (c.count_conflict.ensures _ _ _ _ (c.in-Conflict.ensures _ _ _ _ k.here)) c.if-not-count_conflict.true

pub loop-walk-smaller : goal.loop-walk-smaller
loop-walk-smaller c =
    let k = c.loop-walk.invariant _ _ _ _ c.requires.way in
    (c.count_conflict.ensures _ _ _ _ (c.in-Conflict.ensures _ _ _ _ k.here)).less c.if-not-count_conflict.false c.args.room

pub loop-walk-preserved : goal.loop-walk-preserved
loop-walk-preserved c = λ base limit list old k₀.
    let k = c.loop-walk.invariant _ _ _ _ k₀ in
    let d = c.count_conflict.ensures _ _ _ _ (c.in-Conflict.ensures _ _ _ _ k.here) in
    onward k d.left d.struck (d.on c.if-not-count_conflict.false)

-- ---- as many turns as were asked for
pub returns : goal.returns
returns c = λ base limit list old k₀. goes-on (c.loop-walk.invariant _ _ _ _ k₀) c.loop-walk-test.false
