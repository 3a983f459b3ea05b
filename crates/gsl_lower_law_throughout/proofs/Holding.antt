-- What holds of all parts holds of those that are lowered, by recursion over what holds.
use Rattle.std.proofs.Common.{List, [], ◌∷◌}
use Rattle.std.specs.List.{AllByRecursion}
use Rattle.gsl_tree.specs.Trees.{Along, AlongAll, Exits, Placed, Throughout, ThroughoutAll, form_of, inner_of, parts_of, with_exits}
use Rattle.gsl_tree.specs.declared.expr.Expr.{Expr}
use Rattle.gsl_tree.specs.declared.stmt.Stmt.{Stmt, out-Stmt}
use Rattle.gsl_tree.specs.declared.unit.Prototype.{Prototype}
use Rattle.gsl_lower_used.specs.Lowered.{AlongAllLowered, AlongLowered, ThroughoutAllLowered, ThroughoutLowered, lowered_inner, lowered_parts, up_to_jump}
use Rattle.gsl_lower_used.proofs.Within.{inner_all, parts_all, up_to_all}

row : (s : List Prototype) (P : Expr → Type 0) (es : List Expr) → AllByRecursion (ThroughoutLowered s P) es → ThroughoutAllLowered s P es
row s P [] all = ThroughoutAllLowered.none
row s P (e ∷ es) all = ThroughoutAllLowered.more e es all.0 (row s P es all.1)

mutual
  pub expression : (s : List Prototype) (P : Expr → Type 0) (e : Expr) → Throughout P e → ThroughoutLowered s P e
  expression s P _ (Throughout.whole e is parts) = ThroughoutLowered.whole e is (row s P (lowered_parts s (form_of e)) (parts_all s (ThroughoutLowered s P) (form_of e) (each s P (parts_of (form_of e)) parts)))

  each : (s : List Prototype) (P : Expr → Type 0) (es : List Expr) → ThroughoutAll P es → AllByRecursion (ThroughoutLowered s P) es
  each s P _ ThroughoutAll.none = tt
  each s P _ (ThroughoutAll.more e es is rest) = (expression s P e is, each s P es rest)

abbrev Lowers : (Exits → Stmt → Type 0) → Placed → Type 0
Lowers P placed = AlongLowered P placed.0 placed.1

placed_row : (P : Exits → Stmt → Type 0) (placed : List Placed) → AllByRecursion (Lowers P) placed → AlongAllLowered P placed
placed_row P [] all = AlongAllLowered.none
placed_row P (one ∷ rest) all = AlongAllLowered.more one rest all.0 (placed_row P rest all.1)

mutual
  pub statement : (P : Exits → Stmt → Type 0) (exits : Exits) (s : Stmt) → Along P exits s → AlongLowered P exits s
  statement P exits _ (Along.whole _ s is inner) = AlongLowered.whole exits s is (placed_row P (lowered_inner exits (out-Stmt s)) (inner_all (Lowers P) exits (out-Stmt s) (each_placed P (inner_of exits (out-Stmt s)) inner)))

  each_placed : (P : Exits → Stmt → Type 0) (placed : List Placed) → AlongAll P placed → AllByRecursion (Lowers P) placed
  each_placed P _ AlongAll.none = tt
  each_placed P _ (AlongAll.more one rest is others) = (statement P one.0 one.1 is, each_placed P rest others)

pub body : (P : Exits → Stmt → Type 0) (exits : Exits) (ss : List Stmt) → AlongAll P (with_exits exits ss) → AlongAllLowered P (with_exits exits (up_to_jump ss))
body P exits ss all = placed_row P (with_exits exits (up_to_jump ss)) (up_to_all (Lowers P) exits ss (each_placed P (with_exits exits ss) all))
