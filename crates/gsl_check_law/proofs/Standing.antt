-- Statements that are well typed stay so where lists grow; environments that grow stay sound.
use Rattle.std.proofs.Common.{◌≡◌, sym, ◌∙◌, subst, ℕ, ◌≤◌, List, [], ◌∷◌, ◌++◌, length, inl, inr, arith}
use Rattle.std.specs.List.{AllByRecursion}
use Rattle.std.proofs.lemmas.Option.{slice_get_within}
use Rattle.gsl_types.specs.Known.{IsSound}
use Rattle.gsl_types.specs.Structs.{Meaning, meaning, numbered}
use Rattle.gsl_types.proofs.Layers.{sound_stays}
use Rattle.gsl_types.proofs.Structs.{over_agree}
use Rattle.gsl_types.proofs.Longer.{numbered_push}
use Rattle.gsl_types.specs.declared.ty.StructType.{StructType}
use Rattle.gsl_types.specs.declared.ty.Ty.{Ty}
use Rattle.gsl_names.specs.declared.entry.Entry.{Entry}
use Rattle.gsl_names.specs.declared.entry.Entry.TheVariants as entry
use Rattle.gsl_names.specs.Scopes.{Declared, Scopes, declare}
use Rattle.gsl_tree.specs.declared.expr.Expr.{Expr}
use Rattle.gsl_tree.specs.declared.stmt.Stmt.{Stmt, out-Stmt}
use Rattle.gsl_tree.specs.declared.stmt.Stmt.TheOpen.{Stmt-F}
use Rattle.gsl_tree.specs.declared.stmt.Arm.{Arm}
use Rattle.gsl_tree.specs.Trees.{Exits, Placed, exprs_of, inner_of, Along, AlongAll}
use Rattle.gsl_tree.specs.Weights.{most_high}
use Rattle.gsl_tree.specs.Expressions.{IsExpr, MayBeRead}
use Rattle.gsl_tree.specs.WellTyped.{IsVariableType, IsResult}
use Rattle.gsl_typing.specs.declared.scene.Scene.{Scene}
use Rattle.gsl_typing.specs.Scene.{around}
use Rattle.gsl_check_law.specs.Scenes.{IsScene, IsThere, AreThere}
use Rattle.gsl_check_law.proofs.Found.{below, all_map}
use Rattle.gsl_check_law.proofs.Longer.{Grows}
use Rattle.gsl_check_law.proofs.Growing.{expr_grows, read_grows}
use Rattle.gsl_tree.specs.Statements.{IsStep, IsStmt, MayStand}

-- ---- statements

module _ (s t : Scene) (fine : IsScene s) (grows : Grows s t) (result : Ty) where
  stands_grows : (exits : Exits) (form : Stmt-F Stmt Arm) → MayStand (around s) result exits form → MayStand (around t) result exits form
  stands_grows exits Stmt-F.Empty is = is
  stands_grows exits (Stmt-F.Eval e) is = is
  stands_grows exits (Stmt-F.Declare n init) is = (is.0, grows.locals n is.0 is.1, is.2)
  stands_grows exits (Stmt-F.Group stmts) is = is
  stands_grows exits (Stmt-F.If test then other) is = is
  stands_grows exits (Stmt-F.Loop test step body last) is = is
  stands_grows exits (Stmt-F.Switch e arms) is = is
  stands_grows exits Stmt-F.Break is = is
  stands_grows exits Stmt-F.Continue is = is
  stands_grows exits (Stmt-F.Return value) is = is
  stands_grows exits Stmt-F.Discard is = sym grows.stage ∙ is

  typed_grow : (es : List Expr) → AllByRecursion (IsExpr (around s)) es → AllByRecursion (IsExpr (around t)) es
  typed_grow [] all = tt
  typed_grow (e ∷ es) all = (expr_grows s t fine grows e all.0, typed_grow es all.1)

  reads_grow : (es : List Expr) → AllByRecursion (IsExpr (around s)) es → AllByRecursion (MayBeRead (around s)) es → AllByRecursion (MayBeRead (around t)) es
  reads_grow [] all reads = tt
  reads_grow (e ∷ es) all reads = (read_grows s t fine grows e all.0 reads.0, reads_grow es all.1 reads.1)

  step_grows : (exits : Exits) (x : Stmt) → IsStep (around s) result exits x → IsStep (around t) result exits x
  step_grows exits x is = record {
    stands = stands_grows exits (out-Stmt x) is.stands;
    typed = typed_grow (exprs_of (out-Stmt x)) is.typed;
    reads = reads_grow (exprs_of (out-Stmt x)) is.typed is.reads;
  }

  mutual
    pub stmt_grows : (exits : Exits) (x : Stmt) → IsStmt (around s) result exits x → IsStmt (around t) result exits x
    stmt_grows _ _ (Along.whole exits x is inner) = Along.whole exits x (step_grows exits x is) (stmts_grow (inner_of exits (out-Stmt x)) inner)

    pub stmts_grow : (all : List Placed) → AlongAll (IsStep (around s) result) all → AlongAll (IsStep (around t) result) all
    stmts_grow _ AlongAll.none = AlongAll.none
    stmts_grow _ (AlongAll.more p rest is others) = AlongAll.more p rest (stmt_grows p.0 p.1 is) (stmts_grow rest others)

-- ---- types of variables

module _ (s t : Scene) (grows : Grows s t) where
  pub variable_grows : (u : Ty) → IsVariableType s.structs u → IsVariableType t.structs u
  variable_grows u is = record {
    known = sound_stays (length s.structs) (length t.structs) grows.count u is.known;
    plain = is.plain;
    low = subst (λ h. h ≤ most_high) (grows.heights u is.known) is.low;
  }

  pub result_grows : (u : Ty) → IsResult s.structs u → IsResult t.structs u
  result_grows u (inl is) = inl is
  result_grows u (inr is) = inr (variable_grows u is)

  there_grows : (e : Entry) → IsThere s e → IsThere t e
  there_grows (entry.Struct n) is = let count = grows.count in omega (arith, count, is)
  there_grows (entry.Function n) is = let p = below s.prototypes n is in slice_get_within t.prototypes n p.0 (grows.prototypes n p.0 p.1)
  there_grows (entry.Stage var) is = is ∙ grows.stage
  there_grows entry.Size is = sym grows.stage ∙ is
  there_grows (entry.Local n fixed) is = tt
  there_grows (entry.Param n fixed) is = tt
  there_grows (entry.Global n) is = tt
  there_grows (entry.Member b n) is = tt
  there_grows (entry.Instance n) is = tt
  there_grows (entry.Block n) is = tt
  there_grows (entry.Interface n) is = tt
  there_grows (entry.Builtin which) is = tt

  pub names_grow : (names : Scopes) → AllByRecursion (AreThere s) names → AllByRecursion (AreThere t) names
  names_grow names all = all_map (AreThere s) (AreThere t) names (λ scope are. all_map (λ (d : Declared). IsThere s d.1) (λ (d : Declared). IsThere t d.1) scope (λ d is. there_grows d.1 is) are) all

-- ---- names

pub with_name : (s : Scene) (name : List ℕ) (e : Entry) (names : Scopes) → IsThere s e → AllByRecursion (AreThere s) names → AllByRecursion (AreThere s) (declare name e names)
with_name s name e [] is all = tt
with_name s name e (scope ∷ names) is all = ((is, all.0), all.1)

-- ---- one more struct

module _ (structs : List StructType) (s : StructType) where
  abbrev longer : List StructType
  longer = structs ++ s ∷ []

  pub meaning_stays : {A : Type 0} (m : Meaning A) (u : Ty) → IsSound (length structs) u → meaning m structs u ≡ meaning m longer u
  meaning_stays m u known = over_agree m (length structs) (numbered m structs) (numbered m longer) (numbered_push m structs s) u known
