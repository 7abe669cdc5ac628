use native.Mathlib.Omega.{arith}
use Rattle.format.proofs.ByteLaws.{bytes_of}
use Rattle.fields.proofs.FileTests.{magic-test}
use Rattle.file_tests.proofs.magic_matches.Goals as goal

pub returns : goal.returns
returns c =
    let file = c.args.file.now in
    magic-test file c.u32_at.result (bytes_of file (λ i l. omega (arith, c.type_inv.file i))) c.requires c.u32_at.ensures.0
