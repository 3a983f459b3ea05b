-- What stands around an expression that is checked.
use Rattle.std.specs.Prelude.{ℕ, Bool, false, List, map}
use Rattle.gsl_base.specs.declared.fault.Place.{Place}
use Rattle.gsl_types.specs.declared.ty.Ty.{Ty}
use Rattle.gsl_tree.specs.declared.expr.Expr.{Expr}
use Rattle.gsl_tree.specs.declared.expr.ExprKind.{ExprKind}
use Rattle.gsl_tree.specs.declared.unit.LocalSize.{LocalSize}
use Rattle.gsl_tree.specs.Trees.{typed, type_of}
use Rattle.gsl_tree.specs.Around.{Around}
use Rattle.gsl_typing.specs.declared.scene.Scene.{Scene}
use Rattle.gsl_typing.specs.declared.scene.Part.{Part}

-- the lists that the numbers in an expression name
abbrev pub around : Scene → Around
around scene = record {
  stage = scene.stage;
  structs = scene.structs;
  globals = scene.globals;
  blocks = scene.blocks;
  interfaces = scene.interfaces;
  prototypes = scene.prototypes;
  sizes = map (λ (size : LocalSize). size.parts) scene.sizes;
  params = scene.params;
  locals = scene.locals;
}

-- the type of a part
abbrev pub type_in : Part → Ty
type_in part = type_of part.expr

-- a part of which the tree shows whether it may be written
abbrev pub plain : Expr → Part
plain e = record { expr = e; fixed = false }

abbrev pub made : Place → Ty → ExprKind → Part
made place ty kind = plain (typed place ty kind)
