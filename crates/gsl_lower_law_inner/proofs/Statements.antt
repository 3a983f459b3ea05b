-- Whole statements, kind by kind, and the statements in them.
use Rattle.std.proofs.Common.{refl, sym, subst, ℕ, Bool, true, false, List, [], ◌∷◌, map, Option, Some, None}
use Rattle.std.specs.Prelude.{slice_index_or}
use Rattle.std.specs.List.{AllByRecursion}
use Rattle.gsl_types.specs.declared.ty.Ty.{Ty}
use Rattle.gsl_types.specs.declared.ty.Ty.TheVariants.{Void}
use Rattle.gsl_tree.specs.declared.expr.Expr.{Expr}
use Rattle.gsl_tree.specs.declared.stmt.Arm.{Arm}
use Rattle.gsl_tree.specs.declared.stmt.Stmt.{Stmt}
use Rattle.gsl_tree.specs.declared.stmt.Stmt.TheOpen.{Stmt-F, Arm-F}
use Rattle.gsl_tree.specs.declared.stmt.Stmt.TheFolds.{fold-Arm, fold-Stmt, fold-roll-Arm, fold-roll-Stmt, ind-Stmt, map-Arm, map-Stmt}
use Rattle.gsl_tree.specs.declared.stmt.Stmt.TheViews.{roll-Arm, roll-Stmt}
use Rattle.gsl_lower_holders.specs.Flow.{Emit, fresh}
use Rattle.gsl_lower_expr.specs.Lowering.{Setting}
use Rattle.gsl_lower_stmt.specs.Coming.{row}
use Rattle.gsl_lower_stmt.specs.Lowering.{arm_by, defaults_of, forked, initial, lowers_stmt, nothing, stmt_by, switched, value_if_any, value_of, words_of}
use Rattle.gsl_lower_stmt.specs.Parts.{LowerArm, LowerStmt, again_if, before_body, begin_else, begin_if, begin_loop, begin_step, begin_switch, begins_with, behind_step, branch, choosing, end_if, enter_body, enter_loop, falling, five_labels, in_loop, in_switch, in_turn, leave_by, looped, next_or, returned, seal, stepped, test_first, test_last, turning, unless}
use Rattle.gsl_lower_stmt.specs.declared.exits.Exits.{Exits}
use Rattle.gsl_lower_law_inner.specs.Inner.{AllPut, CallsInner, RunsInner}
use Rattle.gsl_lower_law_inner.proofs.Calls.{puts_zeros}
use Rattle.gsl_lower_law_inner.proofs.Flows.{given_by, given_of, puts_each, puts_fresh, puts_given, puts_here, puts_lacking, puts_next, puts_opening, puts_then, puts_told}
use Rattle.gsl_lower_law_inner.proofs.Whole.{expr_inner}

abbrev Fork : Type 0
Fork = given_by begin_if

abbrev Loop : Type 0
Loop = given_of begin_loop

-- an expression, where there is one
abbrev IfAny : Option (Emit ℕ) → Type 0
IfAny None = Unit {0}
IfAny (Some value) = AllPut value

-- ---- ends of blocks

puts_branch : (label : ℕ) → AllPut (branch label)
puts_branch label = puts_here _ _ refl

puts_seal : (left : Bool) (label : ℕ) → AllPut (seal left label)
unfolding seal
puts_seal true label = puts_given
puts_seal false label = puts_branch label

puts_leave : (to : Option ℕ) → AllPut (leave_by to)
unfolding leave_by
puts_leave None = puts_lacking
puts_leave (Some label) = puts_branch label

puts_choosing : (x first other end : ℕ) → AllPut (choosing x first other end)
puts_choosing x first other end = puts_next (puts_here _ _ refl) (puts_next (puts_here _ _ refl) (puts_opening first))

-- ---- one behind the other

puts_unless : (left : Bool) (rest : Emit (Unit {0})) → AllPut rest → AllPut (unless left rest)
puts_unless true rest p = puts_given
puts_unless false rest p = p

puts_turn : (ss : List LowerStmt) (exits : Exits) → AllByRecursion RunsInner ss → AllPut (in_turn ss exits)
unfolding in_turn
puts_turn [] exits all = puts_given
puts_turn (s ∷ ss) exits all = puts_next (all.0 exits) (puts_unless s.leaves (in_turn ss exits) (puts_turn ss exits all.1))

-- ---- `if`

puts_begin_if : (x : ℕ) → AllPut (begin_if x)
unfolding begin_if
puts_begin_if x = puts_then puts_fresh (λ first. puts_then puts_fresh (λ other. puts_then puts_fresh (λ end. puts_next (puts_choosing x first other end) puts_given)))

puts_begin_else : (f : Fork) (left : Bool) → AllPut (begin_else f left)
unfolding begin_else
puts_begin_else f left = puts_next (puts_seal left f.end) (puts_opening f.other)

puts_end_if : (f : Fork) (left : Bool) → AllPut (end_if f left)
unfolding end_if
puts_end_if f left = puts_next (puts_seal left f.end) (puts_opening f.end)

-- ---- loops

puts_labels : AllPut five_labels
unfolding five_labels
puts_labels = puts_then puts_fresh (λ head. puts_then puts_fresh (λ first. puts_then puts_fresh (λ body. puts_then puts_fresh (λ next. puts_then puts_fresh (λ end. puts_given)))))

puts_enter : (l : Loop) → AllPut (enter_loop l)
unfolding enter_loop
puts_enter l = puts_next (puts_branch l.head) (puts_next (puts_opening l.head) (puts_next (puts_here _ _ refl) (puts_next (puts_branch l.first) (puts_opening l.first))))

puts_begin_loop : AllPut begin_loop
unfolding begin_loop
puts_begin_loop = puts_then puts_labels (λ l. puts_next (puts_enter l) puts_given)

puts_enter_body : (l : Loop) (x : ℕ) → AllPut (enter_body l x)
unfolding enter_body
puts_enter_body l x = puts_choosing x l.body l.end l.body

puts_test_first : (test : Option (Emit ℕ)) (l : Loop) → IfAny test → AllPut (test_first test l)
puts_test_first None l p = puts_given
puts_test_first (Some value) l p = puts_then p (λ x. puts_enter_body l x)

puts_begin_step : (l : Loop) (left : Bool) → AllPut (begin_step l left)
unfolding begin_step
puts_begin_step l left = puts_next (puts_seal left l.next) (puts_opening l.next)

puts_step : (step : Option (Emit ℕ)) → IfAny step → AllPut (stepped step)
puts_step None p = puts_given
puts_step (Some value) p = puts_then p (λ x. puts_given {A = Unit {0}} {a = tt})

puts_again : (l : Loop) (x : ℕ) → AllPut (again_if l x)
unfolding again_if
puts_again l x = puts_here _ _ refl

puts_test_last : (test : Option (Emit ℕ)) (l : Loop) → IfAny test → AllPut (test_last test l)
puts_test_last None l p = puts_branch l.head
puts_test_last (Some value) l p = puts_then p (λ x. puts_again l x)

puts_before_body : (last : Bool) (test : Option (Emit ℕ)) (l : Loop) → IfAny test → AllPut (before_body last test l)
puts_before_body true test l p = puts_given
puts_before_body false test l p = puts_test_first test l p

puts_behind_step : (last : Bool) (test : Option (Emit ℕ)) (l : Loop) → IfAny test → AllPut (behind_step last test l)
puts_behind_step true test l p = puts_test_last test l p
puts_behind_step false test l p = puts_branch l.head

puts_turning : (last : Bool) (test step : Option (Emit ℕ)) (body : LowerStmt) (l : Loop) → IfAny test → IfAny step → RunsInner body → AllPut (turning last test step body l)
puts_turning last test step body l p q r =
    puts_next (puts_before_body last test l p) (puts_next (r (in_loop l)) (puts_next (puts_begin_step l body.leaves) (puts_next (puts_step step q) (puts_behind_step last test l p))))

puts_looped : (last : Bool) (test step : Option (Emit ℕ)) (body : LowerStmt) → IfAny test → IfAny step → RunsInner body → AllPut (looped last test step body)
puts_looped last test step body p q r = puts_then puts_begin_loop (λ l. puts_next (puts_turning last test step body l p q r) (puts_opening l.end))

-- ---- `switch`

abbrev RunsArm : LowerArm → Type 0
RunsArm arm = (exits : Exits) → AllPut (arm.run exits)

puts_begin_switch : (words : List (List ℕ)) (defaults : List Bool) (x : ℕ) → AllPut (begin_switch words defaults x)
unfolding begin_switch
puts_begin_switch words defaults x =
    puts_then (puts_each (λ one. fresh) words (λ one. puts_fresh)) (λ labels. puts_then puts_fresh (λ end. puts_next (puts_here _ _ refl) (puts_next (puts_here _ _ refl) puts_given)))

puts_falling : (end : ℕ) (labels : List ℕ) (arms : List LowerArm) (exits : Exits) → AllByRecursion RunsArm arms → AllPut (falling end labels arms exits)
unfolding falling
puts_falling end labels [] exits all = puts_given
puts_falling end [] (arm ∷ arms) exits all = puts_given
puts_falling end (label ∷ labels) (arm ∷ arms) exits all =
    puts_next (puts_opening label) (puts_next (all.0 (in_switch end exits)) (puts_next (puts_seal arm.leaves (next_or end labels)) (puts_falling end labels arms exits all.1)))

puts_switched : (value : Emit ℕ) (arms : List LowerArm) (exits : Exits) → AllPut value → AllByRecursion RunsArm arms → AllPut (switched value arms exits)
puts_switched value arms exits p all =
    puts_then (puts_then p (λ x. puts_begin_switch (words_of arms) (defaults_of arms) x)) (λ l. puts_next (puts_falling l.end l.arms arms exits all) (puts_opening l.end))

-- ---- the rest

puts_returned : (value : Option (Emit ℕ)) → IfAny value → AllPut (returned value)
puts_returned None p = puts_here _ _ refl
puts_returned (Some value) p = puts_then p (λ x. puts_here _ _ refl)

puts_begins : (number v : ℕ) → AllPut (begins_with number v)
unfolding begins_with
puts_begins number v = puts_then (puts_told _ number) (λ id. puts_here _ _ refl)

puts_forked : (test : Emit ℕ) (first other : LowerStmt) (exits : Exits) → AllPut test → RunsInner first → RunsInner other → AllPut (forked test first other exits)
puts_forked test first other exits p q r =
    puts_then (puts_then p (λ x. puts_begin_if x)) (λ f. puts_next (q exits) (puts_next (puts_begin_else f first.leaves) (puts_next (r exits) (puts_end_if f other.leaves))))

-- ---- every kind of statement

module _ (s : Setting) (calls : CallsInner s) (locals : List Ty) where
  abbrev into : Stmt → LowerStmt
  into = fold-Stmt LowerStmt LowerArm (stmt_by s locals) arm_by

  abbrev arm_into : Arm → LowerArm
  arm_into = fold-Arm LowerStmt LowerArm (stmt_by s locals) arm_by

  abbrev Runs : Stmt → Type 0
  Runs one = RunsInner (into one)

  abbrev ArmRuns : Arm → Type 0
  ArmRuns arm = RunsArm (arm_into arm)

  abbrev Child : Type 0
  Child = (one : Stmt) × Runs one

  abbrev ChildArm : Type 0
  ChildArm = (arm : Arm) × ArmRuns arm

  all_run : (ss : List Child) → AllByRecursion RunsInner (map into (map (λ (one : Child). one.0) ss))
  all_run [] = tt
  all_run (one ∷ ss) = (one.1, all_run ss)

  all_arms : (arms : List ChildArm) → AllByRecursion RunsArm (map arm_into (map (λ (arm : ChildArm). arm.0) arms))
  all_arms [] = tt
  all_arms (arm ∷ arms) = (arm.1, all_arms arms)

  puts_value : (e : Expr) → AllPut (value_of s e)
  puts_value e = (expr_inner s calls e).value

  if_any : (e : Option Expr) → IfAny (value_if_any s e)
  if_any None = tt
  if_any (Some e) = puts_value e

  puts_initial : (number : ℕ) (init : Option Expr) → AllPut (initial s locals number init)
  puts_initial number None = puts_zeros (slice_index_or locals number Void)
  puts_initial number (Some e) = puts_value e

  -- one layer, by what its parts put
  rolled : (x : Stmt-F Stmt Arm) → RunsInner (stmt_by s locals (map-Stmt Stmt Arm LowerStmt LowerArm into arm_into x)) → Runs (roll-Stmt x)
  rolled x is = subst RunsInner (sym (fold-roll-Stmt LowerStmt LowerArm (stmt_by s locals) arm_by x)) is

  by_stmt : (y : Stmt-F Child ChildArm) → Runs (roll-Stmt (map-Stmt _ _ _ _ (λ one. one.0) (λ arm. arm.0) y))
  by_stmt Stmt-F.Empty = rolled Stmt-F.Empty (λ exits. puts_given)
  by_stmt (Stmt-F.Eval e) = rolled (Stmt-F.Eval e) (λ exits. puts_then (puts_value e) (λ v. puts_given {A = Unit {0}} {a = tt}))
  by_stmt (Stmt-F.Declare number init) = rolled (Stmt-F.Declare number init) (λ exits. puts_then (puts_initial number init) (λ v. puts_begins number v))
  by_stmt (Stmt-F.Group ss) = rolled (Stmt-F.Group (map (λ (one : Child). one.0) ss)) (λ exits. puts_turn (map into (map (λ (one : Child). one.0) ss)) exits (all_run ss))
  by_stmt (Stmt-F.If test first None) = rolled (Stmt-F.If test first.0 None) (λ exits. puts_forked (value_of s test) (into first.0) nothing exits (puts_value test) first.1 (λ e. puts_given))
  by_stmt (Stmt-F.If test first (Some other)) = rolled (Stmt-F.If test first.0 (Some other.0)) (λ exits. puts_forked (value_of s test) (into first.0) (into other.0) exits (puts_value test) first.1 other.1)
  by_stmt (Stmt-F.Loop test step body last) = rolled (Stmt-F.Loop test step body.0 last) (λ exits. puts_looped last (value_if_any s test) (value_if_any s step) (into body.0) (if_any test) (if_any step) body.1)
  by_stmt (Stmt-F.Switch e arms) = rolled (Stmt-F.Switch e (map (λ (arm : ChildArm). arm.0) arms)) (λ exits. puts_switched (value_of s e) (map arm_into (map (λ (arm : ChildArm). arm.0) arms)) exits (puts_value e) (all_arms arms))
  by_stmt Stmt-F.Break = rolled Stmt-F.Break (λ exits. puts_leave exits.break_to)
  by_stmt Stmt-F.Continue = rolled Stmt-F.Continue (λ exits. puts_leave exits.continue_to)
  by_stmt (Stmt-F.Return e) = rolled (Stmt-F.Return e) (λ exits. puts_returned (value_if_any s e) (if_any e))
  by_stmt Stmt-F.Discard = rolled Stmt-F.Discard (λ exits. puts_here _ _ refl)

  by_arm : (y : Arm-F Child ChildArm) → ArmRuns (roll-Arm (map-Arm _ _ _ _ (λ one. one.0) (λ arm. arm.0) y))
  by_arm y = subst RunsArm (sym (fold-roll-Arm LowerStmt LowerArm (stmt_by s locals) arm_by (map-Arm _ _ _ _ (λ one. one.0) (λ arm. arm.0) y))) (λ exits. puts_turn (map into (map (λ (one : Child). one.0) y.body)) exits (all_run y.body))

  pub stmt_inner : (one : Stmt) → RunsInner (lowers_stmt s locals one)
  unfolding lowers_stmt
  stmt_inner one = ind-Stmt Runs ArmRuns (λ x y is. subst (λ z. Runs (roll-Stmt z)) is (by_stmt y)) (λ x y is. subst (λ z. ArmRuns (roll-Arm z)) is (by_arm y)) one

  stmts_inner : (ss : List Stmt) → AllByRecursion RunsInner (map (lowers_stmt s locals) ss)
  stmts_inner [] = tt
  stmts_inner (one ∷ ss) = (stmt_inner one, stmts_inner ss)

  pub row_inner : (ss : List Stmt) (exits : Exits) → AllPut (row s locals ss exits)
  unfolding row
  row_inner ss exits = puts_next (puts_turn (map (lowers_stmt s locals) ss) exits (stmts_inner ss)) puts_given
