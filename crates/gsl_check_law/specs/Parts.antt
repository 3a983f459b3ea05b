-- What holds of a part that a well typed expression may have.
use Rattle.std.specs.Prelude.{not, ◌||◌, IsTrue, length}
use Rattle.gsl_types.specs.Known.{IsSound}
use Rattle.gsl_tree.specs.Expressions.{IsExpr}
use Rattle.gsl_tree.specs.Paths.{is_whole_copy, is_small}
use Rattle.gsl_typing.specs.declared.scene.Scene.{Scene}
use Rattle.gsl_typing.specs.declared.scene.Part.{Part}
use Rattle.gsl_typing.specs.Scene.{around, type_in}

-- A part is well typed in a scene, and its type is one there.
pub record IsPart (scene : Scene) (x : Part) : Type 0 where
  pub expr : IsExpr (around scene) x.expr
  pub sound : IsSound (length scene.structs) (type_in x)

-- one whose value is taken or replaced: it is not copied whole where it has many leaves
pub record IsTaken (scene : Scene) (x : Part) : Type 0 where
  pub part : IsPart scene x
  pub small : IsTrue (not (is_whole_copy x.expr) || is_small (around scene) (type_in x))
