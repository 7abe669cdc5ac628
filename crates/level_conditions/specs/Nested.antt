-- A level by itself, and nested in the one above it.
use Rattle.std.specs.Prelude.{ℕ, Bool, ◌&&◌, List, ℤ}
use Rattle.model_walk.specs.Search as model
use Rattle.model_walk.specs.Validity.{level_valid, level_allowed, box_inside, decision_valid}

unfoldable pub level_passes : ℕ → List ℤ → model.Level → Bool
level_passes last ts l = level_valid last l && level_allowed ts l

unfoldable pub nested_in : ℕ → model.Level → model.Level → Bool
nested_in n l o = box_inside l.box o.box && decision_valid n l.decided l.box o.box
