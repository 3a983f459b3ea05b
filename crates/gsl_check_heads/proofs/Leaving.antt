-- What is left behind a body is the definition's, where the body changed nothing around it but the structs.
use Rattle.std.proofs.Common.{◌≡◌, ap, ◌∙◌, List}
use Rattle.gsl_base.specs.declared.stage.Stage.{Stage}
use Rattle.gsl_names.specs.Scopes.{Scopes}
use Rattle.gsl_tree.specs.declared.folded.Folded.{Folded}
use Rattle.gsl_tree.specs.declared.unit.GlobalVar.{GlobalVar}
use Rattle.gsl_tree.specs.declared.unit.Block.{Block}
use Rattle.gsl_tree.specs.declared.unit.Interface.{Interface}
use Rattle.gsl_tree.specs.declared.unit.Prototype.{Prototype}
use Rattle.gsl_tree.specs.declared.unit.LocalSize.{LocalSize}
use Rattle.gsl_typing.specs.declared.scene.Scene.{Scene}
use Rattle.gsl_check_expr.specs.declared.env.Env.{Env}
use Rattle.gsl_check_decl.specs.declared.sound.Outside.{Outside}
use Rattle.gsl_check_decl.specs.Steps.{ended}
use Rattle.gsl_check_heads.specs.Heads.{left, left_by}

-- what a scene has of its unit, but for the structs
abbrev pub Around : Type 0
Around = Stage × List GlobalVar × List Block × List Interface × List Prototype × List LocalSize × List Folded

abbrev pub around : Scene → Around
around s = (s.stage, s.globals, s.blocks, s.interfaces, s.prototypes, s.sizes, s.consts.globals)

-- what stands around a body
abbrev pub outside_of : Env → Outside
outside_of before = record { params = before.scene.params; locals = before.scene.locals; known = before.scene.consts.locals }

module _ (before after : Env) where
  abbrev left_in : Scopes → Around → Env
  left_in names a = record {
    names = names;
    scene = record {
      stage = a.0;
      structs = after.scene.structs;
      globals = a.1;
      blocks = a.2;
      interfaces = a.3;
      prototypes = a.4;
      sizes = a.5;
      params = before.scene.params;
      locals = before.scene.locals;
      consts = record { locals = before.scene.consts.locals; globals = a.6 };
    };
    heights = after.heights;
  }

  pub left_is : ended after.names ≡ before.names → around after.scene ≡ around before.scene → left_by (outside_of before) after ≡ left before after
  unfolding left left_by
  left_is names same = ap (λ n. left_in n (around after.scene)) names ∙ ap (λ a. left_in before.names a) same
