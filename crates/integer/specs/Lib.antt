-- Laws of the kit's integers ℤ, one subject a module. All are proved, so a reader of the model need not read them.
-- `Parts` is the base: most facts are `omega` over an integer's two parts. `Automatic` closes needs of overflow in a line.
pub mod Parts
pub mod Ring
pub mod Expression
pub mod Order
pub mod Size
pub mod Tests
pub mod Truncating
pub mod Rounding
pub mod Divisor
pub mod Congruence
pub mod Automatic
