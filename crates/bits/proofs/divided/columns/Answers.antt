-- `bits::divided::columns` meets its contract. Assumes nothing.
use native.Mathlib.Omega.{arith}
use mathlib.Core.Logic.{inl, ⊎_elim}
use mathlib.Core.Path.{◌≡◌}
use lib.Pow.{pow_pos}
use borrow.Author.Rules.{rules}
use Prim.Native.Nat.{ℕ}
use Rattle.lists.proofs.Tab.{get_d-const}
use Rattle.bits.proofs.Bits.{bit_past}
use Rattle.bits.proofs.divided.columns.Goals as goal

pub returns-else-divided-ne0 : goal.returns-else-divided-ne0
returns-else-divided-ne0 c =
    let z : c.args.divided ≡ 0 = omega arith in
    record {
      long = search rules;
      at = λ i h. record {
        few = rw (get_d-const {A = ℕ} 0 32 i) (pow_pos _);
        rest = λ j l e. ⊎_elim (λ p. inl p) (λ p. absurd p) (c.requires.1.1.1.1.rest j l (rw z (bit_past 0 j 0 (omega arith) (omega arith))));
      };
    }
