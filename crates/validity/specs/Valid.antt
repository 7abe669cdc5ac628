-- A valid state: its lists have the lengths that its sizes say, and it passes document 01's conditions (9).
use Rattle.std.specs.Prelude.{T}
use Rattle.model_walk.specs.Search.{Search}
use Rattle.model_walk.specs.Validity.{valid, shaped}

pub record Valid (s : Search) : Type 0 where
  pub shape : T (shaped s.core)
  pub tests : T (valid s)
