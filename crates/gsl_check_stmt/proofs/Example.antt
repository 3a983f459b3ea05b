-- Statements with the typed statements or the faults that they stand for, so that a wrong definition is seen.
use Rattle.std.proofs.Common.{◌≡◌, refl, sym, ap, ◌∙◌, true, false, [], ◌∷◌, Ok, None}
use Rattle.std.specs.Prelude.{Bool, ◌&&◌, not, nat_le}
use Rattle.gsl_base.specs.declared.fault.Place.{Place}
use Rattle.gsl_base.specs.declared.fault.Code.TheVariants.{E0511, E0512, E0514}
use Rattle.gsl_base.specs.declared.stage.Stage.TheVariants.{Compute}
use Rattle.gsl_syntax.specs.declared.statement.Stmt.TheVariants as s
use Rattle.gsl_types.specs.declared.ty.Ty.{Ty}
use Rattle.gsl_types.specs.declared.ty.Ty.TheVariants as ty
use Rattle.gsl_names.specs.declared.entry.Entry.TheVariants.{Global}
use Rattle.gsl_tree.specs.declared.stmt.Stmt.TheVariants as stmt
use Rattle.gsl_tree.specs.declared.stmt.Arm.{roll-Arm}
use Rattle.gsl_typing.specs.Rows.{fault}
use Rattle.gsl_check_expr.specs.declared.env.Env.{Env}
use Rattle.gsl_check_stmt.specs.declared.within.Within.{Within}
use Rattle.gsl_check_stmt.specs.Rules.{broken, continued, discarded}
use Rattle.gsl_check_stmt.specs.Switches.{nothing, with_case, with_default, with_stmt, all_arms, default_label, misplaced_default}
use Rattle.gsl_check_stmt.specs.Statements.{statement, in_loop}
use Rattle.gsl_check_stmt.proofs.Parts.{of-Break, of-Continue, of-Discard, of-Default}

abbrev here : Place
here = record { unit = 0; line = 1 }

-- a function without locals, in a unit with one global variable `x`
abbrev env : Env
env = record {
  names = [] ∷ ((120 ∷ [], Global 0) ∷ []) ∷ [];
  scene = record {
    stage = Compute;
    structs = [];
    globals = [];
    blocks = [];
    interfaces = [];
    prototypes = [];
    sizes = [];
    params = [];
    locals = [];
    consts = record { locals = []; globals = [] };
  };
  heights = [];
}

-- the body of a function
abbrev body : Within
body = record { breaks = false; continues = false; shared = false }

-- ---- jumps

stray_break : statement ty.Void (s.Break here) body env ≡ fault here E0512
unfolding broken
stray_break = of-Break ty.Void body env here

break_in_loop : statement ty.Void (s.Break here) in_loop env ≡ Ok (stmt.Break, env)
unfolding broken
break_in_loop = of-Break ty.Void in_loop env here

stray_continue : statement ty.Void (s.Continue here) body env ≡ fault here E0512
unfolding continued
stray_continue = of-Continue ty.Void body env here

-- `discard` in a compute shader
stray_discard : statement ty.Void (s.Discard here) body env ≡ fault here E0514
unfolding discarded
stray_discard = of-Discard ty.Void body env here

-- `default:` outside a `switch`
stray_default : statement ty.Void (s.Default here) body env ≡ fault here E0511
unfolding misplaced_default
stray_default = of-Default ty.Void body env here

-- ---- the arms of a `switch`

-- `case 1: case 2: ; default: ;`
two_arms : all_arms (with_stmt (with_default (with_stmt (with_case (with_case nothing 1) 2) stmt.Empty)) stmt.Empty)
    ≡ roll-Arm (record { labels = 1 ∷ 2 ∷ []; is_default = false; body = stmt.Empty ∷ [] }) ∷ roll-Arm (record { labels = []; is_default = true; body = stmt.Empty ∷ [] }) ∷ []
unfolding all_arms with_stmt with_case with_default
two_arms = refl

-- `default: default:`
default_twice : default_label (with_default nothing) here ≡ fault here E0511
unfolding default_label with_default
default_twice = refl
