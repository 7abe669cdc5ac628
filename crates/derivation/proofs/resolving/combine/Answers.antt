-- `derivation::resolving::combine` meets its contract: the first i numbers are sums of two products. Assumes nothing.
use Rattle.std.proofs.Common.{ap₂, ◌∙◌, ℤ, pos, ◌+ℤ◌, ◌*ℤ◌, w64, to_z-of_z, length-set, arith}
use borrow.Author.Rules.{sfits_of}
use Rattle.layout.proofs.Elements.{number_read}
use Rattle.derivation.proofs.Sizes.{number-read_within}
use Rattle.derivation.proofs.ResolvingLaws.{mixed-more, mixed-row}
use Rattle.derivation.proofs.resolving.combine.Goals as goal

pub mix-requires : goal.mix-requires
mix-requires c =
    let r = c.requires in
    let i = c.loop-i.i in
    (r.multipliers.0, (r.multipliers.1, (number-read_within c.args.n c.args.f.now i (omega arith) r.combinable.first_range (omega arith), number-read_within c.args.n c.args.j.now i (omega arith) r.combinable.second_range (omega arith))))

pub loop-i-preserved : goal.loop-i-preserved
loop-i-preserved c =
    let a = c.args in
    let i = c.loop-i.i in
    let h = c.loop-i.invariant in (
      length-set c.loop-i.r i _ ∙ h.0,
      mixed-more a.s a.t a.f.now a.j.now i c.loop-i.r _ (omega arith) h.1
          (to_z-of_z {w = w64} (sfits_of c.mix.type_inv) ∙ c.mix.ensures ∙
          ap₂ (λ (x y : ℤ). pos a.s *ℤ x +ℤ pos a.t *ℤ y) (number_read a.f.now i (omega arith)) (number_read a.j.now i (omega arith))),
    )

pub returns : goal.returns
returns c =
    let a = c.args in
    mixed-row a.s a.t a.n a.f.now a.j.now c.loop-i.r (λ k l. c.loop-i.invariant.1 k (omega arith))
