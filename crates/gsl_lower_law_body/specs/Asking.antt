-- What statements ask of the expressions in them, so that they do what they mean as they are lowered.
use Rattle.std.specs.Prelude.{◌≡◌, ◌≢◌, ℕ, Bool, List, Option, Some, None}
use Rattle.gsl_base.specs.declared.input.Input.{Input}
use Rattle.gsl_types.specs.declared.ty.Ty.{Ty}
use Rattle.gsl_types.specs.declared.ty.Ty.TheVariants.{Void}
use Rattle.gsl_words.specs.declared.module.Module.{Module}
use Rattle.gsl_tree.specs.Around.{Around}
use Rattle.gsl_tree.specs.Trees.{Exits}
use Rattle.gsl_tree.specs.declared.expr.Expr.{Expr}
use Rattle.gsl_tree.specs.declared.program.Program.{Program}
use Rattle.gsl_tree.specs.declared.stmt.Arm.{Arm}
use Rattle.gsl_tree.specs.declared.stmt.Stmt.{Stmt, out-Stmt}
use Rattle.gsl_tree.specs.declared.stmt.Stmt.TheOpen.{Stmt-F}
use Rattle.gsl_meaning.specs.Expressions as meaning
use Rattle.gsl_meaning.specs.Expressions.{evaluating}
use Rattle.gsl_meaning.specs.Statements as statement
use Rattle.gsl_spv.specs.Sections.{Sections}
use Rattle.gsl_lower_expr.specs.Lowering as lowering
use Rattle.gsl_lower_stmt.specs.Lowering.{initial, value_of}
use Rattle.gsl_lower_follows.specs.Frames as name
use Rattle.gsl_lower_follows.specs.Frames.{Frame}
use Rattle.gsl_lower_follows.specs.Giving.{GivesValue}
use Rattle.gsl_lower_law_names.specs.Named.{IsNamed}
use Rattle.gsl_lower_law_loops.specs.Looping.{IsStep, IsTest}

module _ (m : Module) (input : Input) (sections : Sections) (f : Frame m input sections) (p : Program) (around : Around) (lower : lowering.Setting) (means : meaning.Setting) (locals : List Ty) where
  -- What an expression is lowered to computes it, whatever its type; and gives its value, where it has one.
  abbrev pub Computes : Expr → Type 0
  Computes e = IsStep m input sections f p around (value_of lower e) (evaluating means e)

  abbrev pub Gives : Expr → Type 0
  Gives e = IsTest m input sections f p around (value_of lower e) (evaluating means e)

  abbrev pub IfAny : (Expr → Type 0) → Option Expr → Type 0
  IfAny Is None = Unit {0}
  IfAny Is (Some e) = Is e

  -- What an expression is lowered to gives a value of the type that the function gives.
  pub record IsReturned (e : Expr) : Type 0 where
    pub splits : Bool
    pub real : f.result ≢ Void
    pub gives : GivesValue m input sections f p around splits f.result (value_of lower e) (evaluating means e)

  -- `return` has a value where the function gives one, and none where it gives nothing.
  abbrev pub Returns : Option Expr → Type 0
  Returns None = f.result ≡ Void
  Returns (Some e) = IsReturned e

  -- A local variable has its place, and what it begins with is given: the value of an initialiser, or zeros.
  pub record Begins (number : ℕ) (init : Option Expr) : Type 0 where
    pub ty : Ty
    pub named : IsNamed p around (name.Local number) ty
    pub splits : Bool
    pub gives : GivesValue m input sections f p around splits ty (initial lower locals number init) (statement.initial means locals number init)

  -- what a statement asks of its own expressions
  abbrev pub Asks : Stmt-F Stmt Arm → Type 0
  Asks Stmt-F.Empty = Unit {0}
  Asks (Stmt-F.Eval e) = Computes e
  Asks (Stmt-F.Declare number init) = Begins number init
  Asks (Stmt-F.Group ss) = Unit {0}
  Asks (Stmt-F.If test first other) = Gives test
  Asks (Stmt-F.Loop test step body test_last) = IfAny Gives test × IfAny Computes step
  Asks (Stmt-F.Switch e arms) = Gives e
  Asks Stmt-F.Break = Unit {0}
  Asks Stmt-F.Continue = Unit {0}
  Asks (Stmt-F.Return e) = Returns e
  Asks Stmt-F.Discard = Unit {0}

  -- the same, where the statement stands: by which jumps it may make, nothing is asked
  abbrev pub AsksAt : Exits → Stmt → Type 0
  AsksAt exits s = Asks (out-Stmt s)
