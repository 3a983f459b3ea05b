-- What a statement does lasts with more units, where calls do.
use Rattle.std.proofs.Common.{◌≡◌, refl, sym, subst, ℕ, zero, suc, ◌+◌, ◌≤◌, ◌<◌, List, [], ◌∷◌, map, Option, Some, None, arith}
use Rattle.std.specs.Prelude.{Bool, true, false, ◌==◌, if◌then◌else◌, slice_index_or}
use Rattle.std.specs.List.{list_any}
use Rattle.gsl_types.specs.declared.ty.Ty.{Ty}
use Rattle.gsl_types.specs.declared.ty.Ty.TheVariants.{Void}
use Rattle.gsl_values.specs.declared.value.Value.{Value}
use Rattle.gsl_tree.specs.declared.expr.Expr.{Expr}
use Rattle.gsl_tree.specs.declared.stmt.Arm.{Arm as TreeArm}
use Rattle.gsl_tree.specs.declared.stmt.Stmt.{Stmt}
use Rattle.gsl_tree.specs.declared.stmt.Stmt.TheFolds.{fold-Stmt, fold-Arm, fold-roll-Stmt, fold-roll-Arm, ind-Stmt, map-Stmt, map-Arm}
use Rattle.gsl_tree.specs.declared.stmt.Stmt.TheOpen.{Stmt-F, Arm-F}
use Rattle.gsl_tree.specs.declared.stmt.Stmt.TheViews.{roll-Stmt, roll-Arm}
use Rattle.gsl_tree.specs.Values.{word_in, zero_value}
use Rattle.gsl_meaning.specs.State.{State}
use Rattle.gsl_meaning.specs.Accesses.{Local, nothing, whole}
use Rattle.gsl_meaning.specs.Running.{Run, ◌>>=◌, given, storing}
use Rattle.gsl_meaning.specs.Expressions.{Setting, evaluating}
use Rattle.gsl_meaning.specs.Statements.{Arm, Broke, Continued, Flow, Normal, Returned, again_if, all_turns, arm_by, arms_for, arms_from, behind_body, behind_switch, falling, has_label, in_turn, initial, looping, returning_with, runs, runs_all, runs_by, stepping_on, testing, then_if_normal, turns}
use Rattle.gsl_meaning.specs.Lasting.{Keeps, Lasts}
use Rattle.gsl_meaning.proofs.Lasts.{behind_keeps, lasts_bind, lasts_ending, lasts_given, lasts_if, lasts_storing, weaker}
use Rattle.gsl_meaning.proofs.LastsExpr.{lasts_expr}

-- ---- loops

module _ (test : Run Bool) (step body : Run Flow) (tests : Lasts test) (steps : Lasts step) (bodies : Lasts body) where
  abbrev on : ℕ → Run Flow
  on most = step >>= (λ flow. test >>= again_if (turns most test step body))

  module _ (most more units : ℕ) (later : (state : State) (left : ℕ) → left ≤ units → Keeps (turns most test step body state left) (turns (most + more) test step body state (left + more)) more left) where
    again : (holds : Bool) (state : State) (left : ℕ) → left ≤ units → Keeps (again_if (turns most test step body) holds state left) (again_if (turns (most + more) test step body) holds state (left + more)) more units
    again true state left le = weaker (turns most test step body state left) (turns (most + more) test step body state (left + more)) more left units le (later state left le)
    again false state left le = (refl, le)

    goes_on : (state : State) (left : ℕ) → left ≤ units → Keeps (on most state left) (on (most + more) state (left + more)) more units
    goes_on state left le =
        behind_keeps (step state left) (step state (left + more)) (λ flow. test >>= again_if (turns most test step body)) (λ flow. test >>= again_if (turns (most + more) test step body)) more units
        (weaker (step state left) (step state (left + more)) more left units le (steps.keeps state left more))
        (λ flow next rest fewer. behind_keeps (test next rest) (test next (rest + more)) (again_if (turns most test step body)) (again_if (turns (most + more) test step body)) more units
        (weaker (test next rest) (test next (rest + more)) more rest units fewer (tests.keeps next rest more)) again)

    on_flow : (flow : Flow) (state : State) (left : ℕ) → left ≤ units → Keeps (behind_body (on most) flow state left) (behind_body (on (most + more)) flow state (left + more)) more units
    on_flow Normal state left le = goes_on state left le
    on_flow Continued state left le = goes_on state left le
    on_flow Broke state left le = (refl, le)
    on_flow (Returned v) state left le = (refl, le)

  -- with more units there may be more turns
  turns_keep : (most more : ℕ) (state : State) (units : ℕ) → units < most → Keeps (turns most test step body state units) (turns (most + more) test step body state (units + more)) more units
  turns_keep zero more state units below = let never : ⊥ = omega (arith, below) in elim never [ ]
  turns_keep (suc most) more state zero below = tt
  turns_keep (suc most) more state (suc units) below =
      subst (λ n. Keeps (turns (suc most) test step body state (suc units)) (turns n test step body state (suc units + more)) more (suc units)) (let e : suc (most + more) ≡ suc most + more = omega arith in e)
      (subst (λ n. Keeps (turns (suc most) test step body state (suc units)) (turns (suc (most + more)) test step body state n) more (suc units)) (let e : suc (units + more) ≡ suc units + more = omega arith in e)
      (weaker (turns (suc most) test step body state (suc units)) (turns (suc (most + more)) test step body state (suc (units + more))) more units (suc units) (omega arith)
      (behind_keeps (body state units) (body state (units + more)) (behind_body (on most)) (behind_body (on (most + more))) more units (bodies.keeps state units more)
      (on_flow most more units (λ next left le. turns_keep most more next left (omega (arith, le, below)))))))

  lasts_turns : Lasts (all_turns test step body)
  lasts_turns = record {
    keeps = λ state units more.
        subst (λ n. Keeps (turns (suc units) test step body state units) (turns n test step body state (units + more)) more units) (let e : suc units + more ≡ suc (units + more) = omega arith in e)
        (turns_keep (suc units) more state units (omega arith));
  }

  lasts_again : (holds : Bool) → Lasts (again_if (all_turns test step body) holds)
  lasts_again true = lasts_turns
  lasts_again false = lasts_given Normal

  lasts_looping : (test_last : Bool) → Lasts (looping test_last test step body)
  lasts_looping true = lasts_turns
  lasts_looping false = lasts_bind test (again_if (all_turns test step body)) tests lasts_again

-- ---- one statement behind the other

lasts_next : (run : Run Flow) → Lasts run → (flow : Flow) → Lasts (then_if_normal run flow)
lasts_next run is Normal = is
lasts_next run is Broke = lasts_given Broke
lasts_next run is Continued = lasts_given Continued
lasts_next run is (Returned v) = lasts_given (Returned v)

abbrev AllLast : List (Run Flow) → Type 0
AllLast [] = Unit {0}
AllLast (run ∷ more) = Lasts run × AllLast more

lasts_in_turn : (parts : List (Run Flow)) → AllLast parts → Lasts (in_turn parts)
lasts_in_turn [] all = lasts_given Normal
lasts_in_turn (run ∷ more) all = lasts_bind run (then_if_normal (in_turn more)) all.0 (lasts_next (in_turn more) (lasts_in_turn more all.1))

-- ---- `switch`

abbrev LastsArm : Arm → Type 0
LastsArm arm = Lasts arm.body

abbrev AllArms : List Arm → Type 0
AllArms [] = Unit {0}
AllArms (arm ∷ arms) = LastsArm arm × AllArms arms

lasts_falling : (arms : List Arm) → AllArms arms → Lasts (falling arms)
lasts_falling [] all = lasts_given Normal
lasts_falling (arm ∷ arms) all = lasts_bind arm.body (then_if_normal (falling arms)) all.0 (lasts_next (falling arms) (lasts_falling arms all.1))

all_if : (b : Bool) (arms others : List Arm) → AllArms arms → AllArms others → AllArms (if b then arms else others)
all_if true arms others all also = all
all_if false arms others all also = also

all_from : (is_wanted : Arm → Bool) (arms : List Arm) → AllArms arms → AllArms (arms_from is_wanted arms)
all_from is_wanted [] all = tt
all_from is_wanted (arm ∷ arms) all = all_if (is_wanted arm) (arm ∷ arms) (arms_from is_wanted arms) all (all_from is_wanted arms all.1)

all_for : (word : ℕ) (arms : List Arm) → AllArms arms → AllArms (arms_for word arms)
all_for word arms all =
    all_if (list_any (has_label word) arms) (arms_from (has_label word) arms) (arms_from (λ arm. arm.is_default) arms) (all_from (has_label word) arms all) (all_from (λ arm. arm.is_default) arms all)

lasts_left : (flow : Flow) → Lasts (behind_switch flow)
lasts_left Normal = lasts_given Normal
lasts_left Broke = lasts_given Normal
lasts_left Continued = lasts_given Continued
lasts_left (Returned v) = lasts_given (Returned v)

-- ---- every kind of statement

module _ (setting : Setting) (calls : (number : ℕ) (args : List Value) → Lasts (setting.call number args)) (locals : List Ty) where
  abbrev step : Stmt-F (Run Flow) Arm → Run Flow
  step = runs_by setting locals

  abbrev into : Stmt → Run Flow
  into = fold-Stmt (Run Flow) Arm step arm_by

  abbrev arm_into : TreeArm → Arm
  arm_into = fold-Arm (Run Flow) Arm step arm_by

  abbrev LastsPart : Stmt → Type 0
  LastsPart s = Lasts (into s)

  abbrev LastsIn : TreeArm → Type 0
  LastsIn arm = LastsArm (arm_into arm)

  abbrev Child : Type 0
  Child = (s : Stmt) × LastsPart s

  abbrev ChildArm : Type 0
  ChildArm = (arm : TreeArm) × LastsIn arm

  lasts_value : (e : Expr) → Lasts (evaluating setting e)
  lasts_value e = (lasts_expr setting calls e).value

  all_last : (ss : List Child) → AllLast (map into (map (λ (s : Child). s.0) ss))
  all_last [] = tt
  all_last (s ∷ ss) = (s.1, all_last ss)

  all_arms : (arms : List ChildArm) → AllArms (map arm_into (map (λ (arm : ChildArm). arm.0) arms))
  all_arms [] = tt
  all_arms (arm ∷ arms) = (arm.1, all_arms arms)

  lasts_testing : (test : Option Expr) → Lasts (testing setting test)
  lasts_testing None = lasts_given true
  lasts_testing (Some e) = lasts_bind (evaluating setting e) (λ v. given (if word_in v == 0 then false else true)) (lasts_value e) (λ v. lasts_given (if word_in v == 0 then false else true))

  lasts_step : (e : Option Expr) → Lasts (stepping_on setting e)
  lasts_step None = lasts_given Normal
  lasts_step (Some e) = lasts_bind (evaluating setting e) (λ v. given Normal) (lasts_value e) (λ v. lasts_given Normal)

  lasts_initial : (number : ℕ) (init : Option Expr) → Lasts (initial setting locals number init)
  lasts_initial number None = lasts_given (zero_value setting.structs (slice_index_or locals number Void))
  lasts_initial number (Some e) = lasts_value e

  lasts_return : (e : Option Expr) → Lasts (returning_with setting e)
  lasts_return None = lasts_given (Returned nothing)
  lasts_return (Some e) = lasts_bind (evaluating setting e) (λ v. given (Returned v)) (lasts_value e) (λ v. lasts_given (Returned v))

  lasts_if_value : (test : Expr) (first other : Run Flow) → Lasts first → Lasts other → Lasts (evaluating setting test >>= (λ v. if word_in v == 0 then other else first))
  lasts_if_value test first other is also =
      lasts_bind (evaluating setting test) (λ v. if word_in v == 0 then other else first) (lasts_value test) (λ v. lasts_if (word_in v == 0) other first also is)

  -- one layer, by what its parts do
  rolled : (x : Stmt-F Stmt TreeArm) → Lasts (step (map-Stmt Stmt TreeArm (Run Flow) Arm into arm_into x)) → LastsPart (roll-Stmt x)
  rolled x is = subst Lasts (sym (fold-roll-Stmt (Run Flow) Arm step arm_by x)) is

  by_stmt : (y : Stmt-F Child ChildArm) → LastsPart (roll-Stmt (map-Stmt _ _ _ _ (λ s. s.0) (λ arm. arm.0) y))
  by_stmt Stmt-F.Empty = rolled Stmt-F.Empty (lasts_given Normal)
  by_stmt (Stmt-F.Eval e) = rolled (Stmt-F.Eval e) (lasts_bind (evaluating setting e) (λ v. given Normal) (lasts_value e) (λ v. lasts_given Normal))
  by_stmt (Stmt-F.Declare n init) = rolled (Stmt-F.Declare n init)
      (lasts_bind (initial setting locals n init) (λ v. storing (whole (Local n)) v >>= (λ w. given Normal)) (lasts_initial n init)
      (λ v. lasts_bind (storing (whole (Local n)) v) (λ w. given Normal) (lasts_storing (whole (Local n)) v) (λ w. lasts_given Normal)))
  by_stmt (Stmt-F.Group ss) = rolled (Stmt-F.Group (map (λ (s : Child). s.0) ss)) (lasts_in_turn (map into (map (λ (s : Child). s.0) ss)) (all_last ss))
  by_stmt (Stmt-F.If test first None) = rolled (Stmt-F.If test first.0 None) (lasts_if_value test (into first.0) (given Normal) first.1 (lasts_given Normal))
  by_stmt (Stmt-F.If test first (Some other)) = rolled (Stmt-F.If test first.0 (Some other.0)) (lasts_if_value test (into first.0) (into other.0) first.1 other.1)
  by_stmt (Stmt-F.Loop test next body test_last) = rolled (Stmt-F.Loop test next body.0 test_last)
      (lasts_looping (testing setting test) (stepping_on setting next) (into body.0) (lasts_testing test) (lasts_step next) body.1 test_last)
  by_stmt (Stmt-F.Switch e arms) = rolled (Stmt-F.Switch e (map (λ (arm : ChildArm). arm.0) arms))
      (lasts_bind (evaluating setting e) (λ v. falling (arms_for (word_in v) (map arm_into (map (λ (arm : ChildArm). arm.0) arms))) >>= behind_switch) (lasts_value e)
      (λ v. lasts_bind (falling (arms_for (word_in v) (map arm_into (map (λ (arm : ChildArm). arm.0) arms)))) behind_switch
      (lasts_falling (arms_for (word_in v) (map arm_into (map (λ (arm : ChildArm). arm.0) arms))) (all_for (word_in v) (map arm_into (map (λ (arm : ChildArm). arm.0) arms)) (all_arms arms))) lasts_left))
  by_stmt Stmt-F.Break = rolled Stmt-F.Break (lasts_given Broke)
  by_stmt Stmt-F.Continue = rolled Stmt-F.Continue (lasts_given Continued)
  by_stmt (Stmt-F.Return e) = rolled (Stmt-F.Return e) (lasts_return e)
  by_stmt Stmt-F.Discard = rolled Stmt-F.Discard lasts_ending

  by_arm : (y : Arm-F Child ChildArm) → LastsIn (roll-Arm (map-Arm _ _ _ _ (λ s. s.0) (λ arm. arm.0) y))
  by_arm y = subst LastsArm (sym (fold-roll-Arm (Run Flow) Arm step arm_by (map-Arm _ _ _ _ (λ s. s.0) (λ arm. arm.0) y))) (lasts_in_turn (map into (map (λ (s : Child). s.0) y.body)) (all_last y.body))

  pub lasts_stmt : (s : Stmt) → Lasts (runs setting locals s)
  unfolding runs
  lasts_stmt s = ind-Stmt LastsPart LastsIn (λ x y is. subst (λ z. LastsPart (roll-Stmt z)) is (by_stmt y)) (λ x y is. subst (λ z. LastsIn (roll-Arm z)) is (by_arm y)) s

  pub lasts_all : (ss : List Stmt) → Lasts (runs_all setting locals ss)
  lasts_all [] = lasts_given Normal
  lasts_all (s ∷ ss) = lasts_bind (runs setting locals s) (then_if_normal (runs_all setting locals ss)) (lasts_stmt s) (lasts_next (runs_all setting locals ss) (lasts_all ss))
