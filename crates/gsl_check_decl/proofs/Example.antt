-- Declarations with the typed statements or the faults that they stand for, so that a wrong definition is seen.
use Rattle.std.proofs.Common.{◌≡◌, refl, sym, ap, ◌∙◌, true, false, [], ◌∷◌, Ok, None}
use Rattle.std.specs.Prelude.{Bool, ◌&&◌, not, nat_le}
use Rattle.gsl_base.specs.declared.fault.Place.{Place}
use Rattle.gsl_base.specs.declared.fault.Code.TheVariants.{E0403, E0404, E0510, E0604, E0701}
use Rattle.gsl_base.specs.declared.stage.Stage.TheVariants.{Compute}
use Rattle.gsl_syntax.specs.declared.declaration.Name.{Name}
use Rattle.gsl_syntax.specs.declared.declaration.Qual.TheVariants as qual
use Rattle.gsl_types.specs.declared.ty.Scalar.TheVariants.{Int}
use Rattle.gsl_types.specs.declared.ty.Ty.{Ty}
use Rattle.gsl_types.specs.declared.ty.Ty.TheVariants as ty
use Rattle.gsl_types.specs.declared.ty.Ty.TheVariants.{rolls-One, rolls-Void}
use Rattle.gsl_types.specs.declared.ty.Ty.TheOpen.{Ty-F}
use Rattle.gsl_types.specs.declared.ty.Ty.TheFolds.{fold-roll-Ty}
use Rattle.gsl_types.specs.Known.{sound, sound_kind, is_plain, is_plain_kind}
use Rattle.gsl_makers.proofs.Layers.{of_one}
use Rattle.gsl_names.specs.declared.entry.Entry.TheVariants.{Global}
use Rattle.gsl_tree.specs.declared.folded.Folded.TheVariants.{NotConstant}
use Rattle.gsl_tree.specs.declared.stmt.Stmt.TheVariants as stmt
use Rattle.gsl_typing.specs.Rows.{fault}
use Rattle.gsl_check_expr.specs.declared.env.Env.{Env}
use Rattle.gsl_check_decl.specs.Steps.{opened, closed}
use Rattle.gsl_check_decl.specs.Declaring.{is_declared, is_reserved, may_be_had, is_high}
use Rattle.gsl_check_decl.specs.Locals.{qualified, plain_variable, may_be_plain, with_local}

abbrev here : Place
here = record { unit = 0; line = 1 }

abbrev int : Ty
int = ty.One Int

-- the name `x`, and a name that begins with `gl_`
abbrev x : Name
x = record { place = here; text = 120 ∷ [] }

abbrev gl_x : Name
gl_x = record { place = here; text = 103 ∷ 108 ∷ 95 ∷ 120 ∷ [] }

-- a function without locals, in a unit with one global variable `x`
abbrev env : Env
env = record {
  names = [] ∷ ((120 ∷ [], Global 0) ∷ []) ∷ [];
  scene = record {
    stage = Compute;
    structs = [];
    globals = [];
    blocks = [];
    interfaces = [];
    prototypes = [];
    sizes = [];
    params = [];
    locals = [];
    consts = record { locals = []; globals = [] };
  };
  heights = [];
}

-- an `int` is an integer scalar: no `void`, all of it is there, and 1 high
int_plain : is_plain int ≡ true
int_plain = ap is_plain (sym (rolls-One Int)) ∙ fold-roll-Ty Bool is_plain_kind (Ty-F.One Int)

int_sound : sound 0 int ≡ true
int_sound = ap (sound 0) (sym (rolls-One Int)) ∙ fold-roll-Ty Bool (sound_kind 0) (Ty-F.One Int)

int_had : may_be_had env.scene int ≡ true
unfolding may_be_had
int_had = ap (λ b. b && sound 0 int) int_plain ∙ int_sound

int_low : is_high env.scene int ≡ false
unfolding is_high
int_low = ap (λ n. not (nat_le n 64)) (of_one [] Int)

void_had : may_be_had env.scene ty.Void ≡ false
unfolding may_be_had
void_had = ap (λ b. b && sound 0 ty.Void) (ap is_plain (sym rolls-Void) ∙ fold-roll-Ty Bool is_plain_kind Ty-F.Void)

-- ---- local variables

-- `int x;` hides the global variable
hiding : plain_variable false x int env ≡ Ok (stmt.Declare 0 None, with_local false (120 ∷ []) int NotConstant env)
unfolding plain_variable may_be_plain is_declared is_reserved
hiding = rw (int_had, int_low) refl

-- behind `int x;` in the same scope
twice : plain_variable false x int (with_local false (120 ∷ []) int NotConstant env) ≡ fault here E0403
unfolding plain_variable may_be_plain is_declared with_local
twice = refl

-- and in a scope of its own
inner : is_declared (opened (with_local false (120 ∷ []) int NotConstant env)) (120 ∷ []) ≡ false
unfolding is_declared with_local
inner = refl

-- what is declared in a scope is gone behind it
gone : closed (with_local false (120 ∷ []) int NotConstant (opened env)) ≡ record (with_local false (120 ∷ []) int NotConstant env) { names = env.names }
unfolding with_local
gone = refl

reserved : plain_variable false gl_x int env ≡ fault here E0404
unfolding plain_variable may_be_plain is_declared is_reserved
reserved = refl

void_variable : plain_variable false x ty.Void env ≡ fault here E0510
unfolding plain_variable may_be_plain is_declared is_reserved
void_variable = rw (void_had) refl

-- `const int x;`
const_without : plain_variable true x int env ≡ fault here E0604
unfolding plain_variable may_be_plain is_declared is_reserved
const_without = rw (int_had) refl

-- `const const`, and `in`
const_twice : qualified env (qual.Const here ∷ qual.Const here ∷ []) ≡ fault here E0701
unfolding qualified
const_twice = refl

in_local : qualified env (qual.In here ∷ []) ≡ fault here E0701
unfolding qualified
in_local = refl
