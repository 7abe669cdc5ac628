-- `conflict::conflict` meets its contract: nothing is learned from an input with a divisor, and a cut from any other constraint. Assumes nothing.
use native.Mathlib.Omega.{arith}
use lib.Dec.{lit≤}
use mathlib.Core.Logic.{inl, inr}
use mathlib.Core.Path.{refl, sym, ◌∙◌}
use borrow.Author.Rules.{sfits_of}
use Rattle.state.specs.View.{kept_cuts}
use Rattle.conflict.proofs.Learning.{cut-row, cut_fits, deepest-false}
use Rattle.conflict.proofs.Dismissing.{zeros-fit, undivided, divisor-back, no-divisor, some-divisor, input-place, input-sought, dismissed-at}
use Rattle.conflict.proofs.conflict.Goals.{then-q-ne0, else-q-ne0}
use Rattle.conflict.proofs.conflict.Goals as goal

pub number_of-falsified-requires : goal.number_of-falsified-requires
unfolding kept_cuts
number_of-falsified-requires c = let l = c.requires.learnable in (omega (arith, l.position, l.inputs), l.cuts)

pub overflow_mul-j : goal.overflow_mul-j
overflow_mul-j c =
    let d = c.divisor_of-q in
    let i = input-place c.requires d.ensures (some-divisor (sfits_of {z = d.result} d.type_inv) c.if-q-ne0.true) in
    record { fits = omega (arith, c.requires.learnable.inputs) }

pub copy_row-sought-requires : goal.copy_row-sought-requires
copy_row-sought-requires c =
    let d = c.divisor_of-q in
    let i = input-place c.requires d.ensures (some-divisor (sfits_of {z = d.result} d.type_inv) c.if-q-ne0.true) in
    let l = c.requires.learnable in
    (l.variables, omega (arith, l.variables, l.inputs, c.requires.apart.lines_long))

pub backjump_level-back-requires : goal.backjump_level-back-requires
backjump_level-back-requires c =
    let p = c.requires in
    let d = c.divisor_of-q in
    let f = sfits_of {z = d.result} d.type_inv in
    elim c.if-q-ne0.branch [
      | then-q-ne0 w ↦ rw w.sought-is (let s = input-sought p d.ensures (some-divisor f w.if-q-ne0.true) w.copy_row-sought.ensures f in (s.fits, (s.row_fits, (p.deep, (s.nested, s.false)))))
      | else-q-ne0 w ↦ rw (w.sought-is, divisor-back f, no-divisor f w.if-q-ne0.false)
          (let l = w.learn-learned.ensures.learned in
          (lit≤ tt, (cut-row p.learnable.variables l, (p.deep, (p.nested, rw undivided (deepest-false p (sym d.ensures ∙ no-divisor f w.if-q-ne0.false) l))))))
    ]

pub invariant_of-record : goal.invariant_of-record
invariant_of-record c =
    let p = c.requires in
    record {
      counted = p.some;
      cut_fits = elim c.if-q-ne0.branch [
        | then-q-ne0 w ↦ rw w.learned-is (zeros-fit _ w.nothing-learned.ensures.cut_zero)
        | else-q-ne0 w ↦ rw w.learned-is (cut_fits p.learnable.variables (w.learn-learned.ensures.learned))
      ];
    }

pub returns-clause-counted : goal.returns-clause-counted
returns-clause-counted c =
    let p = c.requires in
    let d = c.divisor_of-q in
    let f = sfits_of {z = d.result} d.type_inv in
    let l = c.if-q-ne0.learned in
    let j = c.backjump_level-back.ensures.0 in
    record {
      cut = l.cut;
      used = l.used;
      number = l.number;
      falsified = c.number_of-falsified.result;
      concluded = elim c.if-q-ne0.branch [
        | then-q-ne0 w ↦ inr (rw (w.learned-is, w.store-is) (dismissed-at p d.ensures (some-divisor f w.if-q-ne0.true) w.copy_row-sought.ensures f w.nothing-learned.ensures (rw w.sought-is at j)))
        | else-q-ne0 w ↦ inl (rw (w.learned-is, w.store-is)
            (record { plain = sym d.ensures ∙ no-divisor f w.if-q-ne0.false; learned = w.learn-learned.ensures.learned; jump = rw (w.sought-is, divisor-back f, no-divisor f w.if-q-ne0.false, undivided) at j }))
      ];
      marked = elim c.if-q-ne0.branch [
        | then-q-ne0 w ↦ rw (w.store-is, w.masks-is) (λ inputs v. v)
        | else-q-ne0 w ↦ rw (w.store-is, w.masks-is) w.learn-learned.ensures.marked
      ];
      numbered = c.number_of-falsified.ensures;
      written = c.emit.ensures;
    }

pub returns-clause-inputs : goal.returns-clause-inputs
returns-clause-inputs c =
    elim c.if-q-ne0.branch [
      | then-q-ne0 w ↦ rw w.masks-is refl
      | else-q-ne0 w ↦ rw w.masks-is w.learn-learned.ensures.inputs
    ]
