-- How parts are used: what may be read, what may be written, and what is copied whole.
use Rattle.std.specs.Prelude.{Bool, true, false, not, ◌&&◌, [], ◌∷◌, Option, Some, None, Ok}
use Rattle.gsl_base.specs.Checked.{Checked}
use Rattle.gsl_base.specs.declared.fault.Code.TheVariants.{E0904}
use Rattle.gsl_types.specs.declared.ty.Ty.{Ty}
use Rattle.gsl_types.specs.declared.ty.Ty.TheViews.{out-Ty}
use Rattle.gsl_tree.specs.declared.expr.Expr.{Expr}
use Rattle.gsl_tree.specs.declared.expr.ExprKind.{ExprKind}
use Rattle.gsl_tree.specs.declared.expr.ExprKind.TheOpen.{ExprKind-F}
use Rattle.gsl_tree.specs.declared.expr.ExprKind.TheFolds.{fold-ExprKind}
use Rattle.gsl_tree.specs.Trees.{type_of, place_of}
use Rattle.gsl_tree.specs.Shapes.{Shape, shape_of, is_integer, is_boolean}
use Rattle.gsl_tree.specs.Paths.{test_of, kind_in, unreadable_by, writable_by, in_block_by, is_aggregate, is_small}
use Rattle.gsl_tree.specs.Expressions.{boolean, is_runtime_layer}
use Rattle.gsl_overload.specs.Identity.{identical}
use Rattle.gsl_typing.specs.declared.scene.Scene.{Scene}
use Rattle.gsl_typing.specs.declared.scene.Part.{Part}
use Rattle.gsl_typing.specs.Scene.{around, type_in}
use Rattle.gsl_typing.specs.Rows.{unless}

-- ---- tests of expressions by their kinds

unfoldable pub tested : (ExprKind-F Bool Bool → Bool) → Expr → Bool
tested by_kind e = test_of by_kind e

unfoldable pub kind_tested : (ExprKind-F Bool Bool → Bool) → ExprKind → Bool
kind_tested by_kind kind = fold-ExprKind Bool Bool by_kind kind_in kind

-- ---- what may be read and written

-- a `writeonly` member of a block, or a part of one
unfoldable pub is_unread : Scene → Part → Bool
is_unread scene part = tested (unreadable_by (around scene)) part.expr

-- an l-value (GLSL 4.50, 5.8): the tree shows that it may be written, and nothing that the tree does not show is against it
unfoldable pub is_writable : Scene → Part → Bool
is_writable scene part = not part.fixed && tested (writable_by (around scene)) part.expr

-- ---- types of values

unfoldable pub is_bool : Part → Bool
is_bool part = identical (type_in part) boolean

unfoldable pub is_runtime : Part → Bool
is_runtime part = is_runtime_layer (out-Ty (type_in part))

abbrev pub integral_by : Option Shape → Bool
integral_by None = false
integral_by (Some shape) = is_integer shape.0

-- an integer scalar or vector
unfoldable pub is_integral : Part → Bool
is_integral part = integral_by (shape_of (type_in part))

-- ---- whole copies

-- an array or a struct of more leaves than may be copied or compared
unfoldable pub is_large : Scene → Ty → Bool
is_large scene t = is_aggregate t && not (is_small (around scene) t)

-- a whole array or struct of a block, of more leaves than may be copied
abbrev pub is_large_copy : Scene → Part → Bool
is_large_copy scene part = tested in_block_by part.expr && is_large scene (type_in part)

-- A part whose value is taken or replaced, and not that of a part of it alone: arrays and structs of a block have few leaves.
unfoldable pub whole : Scene → Part → Checked Part
whole scene part = unless (place_of part.expr) ((E0904, is_large_copy scene part) ∷ []) (Ok part)
