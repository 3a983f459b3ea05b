-- Loops of the code, turn by turn.
use Rattle.std.proofs.Common.{◌≡◌, refl, sym, ap, ◌∙◌, ℕ, zero, suc, ◌+◌, ◌≤◌, List, length, drop, slice_get, Option, Some, None}
use Rattle.std.proofs.lemmas.List.{drop_all}
use Rattle.std.specs.Prelude.{true, false}
use Rattle.gsl_types.specs.declared.ty.Ty.{Ty}
use Rattle.gsl_compute.proofs.Loops.{opened}
use Rattle.gsl_values.specs.declared.value.Value.{Value}
use Rattle.gsl_tree.specs.declared.expr.Expr.{Expr}
use Rattle.gsl_tree.specs.declared.stmt.Arm.{Arm, out-Arm}
use Rattle.gsl_tree.specs.declared.stmt.Stmt.{Stmt}
use Rattle.gsl_meaning.specs.State.{State}
use Rattle.gsl_meaning.specs.Running.{Ran, Run, Got, Ends, Strays, Goes, behind, given}
use Rattle.gsl_meaning.specs.Expressions.{Setting, evaluating}
use Rattle.gsl_meaning.specs.Statements.{Flow, Normal, Broke, Continued, Returned, again_if, runs, stepping_on, testing, then_if_normal}
use Rattle.gsl_meaning.specs.Lasting.{Lasts}
use Rattle.gsl_meaning.proofs.Lasts.{lasts_bind, lasts_given}
use Rattle.gsl_meaning.proofs.LastsExpr.{lasts_expr}
use Rattle.gsl_meaning.proofs.LastsStmt.{lasts_stmt}
use Rattle.gsl_tree.specs.Values.{word_in}
use Rattle.std.specs.Prelude.{◌==◌, if◌then◌else◌}
use Rattle.gsl_perform.specs.declared.stop.Stop.{Stop}
use Rattle.gsl_perform.specs.declared.stop.Stop.TheVariants as stop
use Rattle.gsl_perform.specs.declared.world.World.{World}
use Rattle.gsl_perform.specs.Does.{Stops}
use Rattle.gsl_perform.specs.Framed.{Framed, around}
use Rattle.gsl_flow.specs.Flows.{flow_of}
use Rattle.gsl_flow.specs.Performing.{again_or, falls, loops, row, spends, steps, tests, turn, turn_behind, turn_on, turns_of}
use Rattle.gsl_flow.specs.declared.left.Left.{Left}
use Rattle.gsl_flow.specs.declared.left.Turn.{Turn}
use Rattle.gsl_flow.specs.declared.left.Turn.TheVariants.{Again, Over}
use Rattle.gsl_flow.proofs.Calls.{calls_last}
use Rattle.gsl_flow.proofs.Steps.{arm_body}
use Rattle.gsl_flow.proofs.Turns.{next, turns_open}

-- what a part stops by, the whole stops by
stops_on : {A B : Type 0} (why : Stop) (world : World) (r : Ran A) (after : A → Run B) (whole : Ran B) → Stops why world r → behind r after ≡ whole → Stops why world whole
stops_on stop.Ends world r after whole is so_far = sym so_far ∙ ap (λ x. behind x after) is
stops_on stop.Strays world r after whole is so_far = sym so_far ∙ ap (λ x. behind x after) is
stops_on stop.Goes world r after whole is so_far = sym so_far ∙ ap (λ x. behind x after) is
stops_on stop.Memory world r after whole is so_far = tt

-- ---- statements one behind the other

module _ (setting : Setting) (locals : List Ty) (ss : List Stmt) where
  row_opens : (k : ℕ) (s : Stmt) (world : World) (whole : Ran Flow) → slice_get ss k ≡ Some s → row setting locals (drop k ss) world.store world.units ≡ whole
      → behind (runs setting locals s world.store world.units) (then_if_normal (row setting locals (drop (k + 1) ss))) ≡ whole
  unfolding row
  row_opens k s world whole at_k so_far = sym (ap (λ l. row setting locals l world.store world.units) (opened ss k s at_k)) ∙ so_far

  pub row_on : (k : ℕ) (s : Stmt) (before after : World) (whole : Ran Flow) → slice_get ss k ≡ Some s → runs setting locals s before.store before.units ≡ Got Normal after.store after.units
      → row setting locals (drop k ss) before.store before.units ≡ whole → row setting locals (drop (k + 1) ss) after.store after.units ≡ whole
  row_on k s before after whole at_k is so_far = sym (ap (λ r. behind r (then_if_normal (row setting locals (drop (k + 1) ss)))) is) ∙ row_opens k s before whole at_k so_far

  pub row_broke : (k : ℕ) (s : Stmt) (before after : World) (whole : Ran Flow) → slice_get ss k ≡ Some s → runs setting locals s before.store before.units ≡ Got Broke after.store after.units
      → row setting locals (drop k ss) before.store before.units ≡ whole → whole ≡ Got Broke after.store after.units
  row_broke k s before after whole at_k is so_far = sym (row_opens k s before whole at_k so_far) ∙ ap (λ r. behind r (then_if_normal (row setting locals (drop (k + 1) ss)))) is

  pub row_continued : (k : ℕ) (s : Stmt) (before after : World) (whole : Ran Flow) → slice_get ss k ≡ Some s → runs setting locals s before.store before.units ≡ Got Continued after.store after.units
      → row setting locals (drop k ss) before.store before.units ≡ whole → whole ≡ Got Continued after.store after.units
  row_continued k s before after whole at_k is so_far = sym (row_opens k s before whole at_k so_far) ∙ ap (λ r. behind r (then_if_normal (row setting locals (drop (k + 1) ss)))) is

  pub row_returned : (k : ℕ) (s : Stmt) (v : Value) (before after : World) (whole : Ran Flow) → slice_get ss k ≡ Some s → runs setting locals s before.store before.units ≡ Got (Returned v) after.store after.units
      → row setting locals (drop k ss) before.store before.units ≡ whole → whole ≡ Got (Returned v) after.store after.units
  row_returned k s v before after whole at_k is so_far = sym (row_opens k s before whole at_k so_far) ∙ ap (λ r. behind r (then_if_normal (row setting locals (drop (k + 1) ss)))) is

  pub row_stops : (k : ℕ) (s : Stmt) (why : Stop) (before after : World) (whole : Ran Flow) → slice_get ss k ≡ Some s → Stops why after (runs setting locals s before.store before.units)
      → row setting locals (drop k ss) before.store before.units ≡ whole → Stops why after whole
  row_stops k s why before after whole at_k is so_far = stops_on why after _ (then_if_normal (row setting locals (drop (k + 1) ss))) whole is (row_opens k s before whole at_k so_far)

  pub row_end : (k : ℕ) (world : World) (whole : Ran Flow) → length ss ≤ k → row setting locals (drop k ss) world.store world.units ≡ whole → whole ≡ Got Normal world.store world.units
  unfolding row
  row_end k world whole past so_far = sym so_far ∙ ap (λ l. row setting locals l world.store world.units) (drop_all k ss past)

-- ---- arms that fall through

module _ (setting : Setting) (locals : List Ty) (arms : List Arm) where
  falls_open : (k : ℕ) (arm : Arm) (world : World) (whole : Ran Flow) → slice_get arms k ≡ Some arm → falls setting locals (drop k arms) world.store world.units ≡ whole
      → behind (row setting locals (out-Arm arm).body world.store world.units) (then_if_normal (falls setting locals (drop (k + 1) arms))) ≡ whole
  unfolding falls
  falls_open k arm world whole at_k so_far =
      sym (ap (λ l. falls setting locals l world.store world.units) (opened arms k arm at_k) ∙ ap (λ r. behind r (then_if_normal (falls setting locals (drop (k + 1) arms)))) (arm_body setting locals arm world.store world.units)) ∙ so_far

  pub fall_on : (k : ℕ) (arm : Arm) (before after : World) (whole : Ran Flow) → slice_get arms k ≡ Some arm → row setting locals (out-Arm arm).body before.store before.units ≡ Got Normal after.store after.units
      → falls setting locals (drop k arms) before.store before.units ≡ whole → falls setting locals (drop (k + 1) arms) after.store after.units ≡ whole
  fall_on k arm before after whole at_k is so_far = sym (ap (λ r. behind r (then_if_normal (falls setting locals (drop (k + 1) arms)))) is) ∙ falls_open k arm before whole at_k so_far

  pub fall_broke : (k : ℕ) (arm : Arm) (before after : World) (whole : Ran Flow) → slice_get arms k ≡ Some arm → row setting locals (out-Arm arm).body before.store before.units ≡ Got Broke after.store after.units
      → falls setting locals (drop k arms) before.store before.units ≡ whole → whole ≡ Got Broke after.store after.units
  fall_broke k arm before after whole at_k is so_far = sym (falls_open k arm before whole at_k so_far) ∙ ap (λ r. behind r (then_if_normal (falls setting locals (drop (k + 1) arms)))) is

  pub fall_continued : (k : ℕ) (arm : Arm) (before after : World) (whole : Ran Flow) → slice_get arms k ≡ Some arm → row setting locals (out-Arm arm).body before.store before.units ≡ Got Continued after.store after.units
      → falls setting locals (drop k arms) before.store before.units ≡ whole → whole ≡ Got Continued after.store after.units
  fall_continued k arm before after whole at_k is so_far = sym (falls_open k arm before whole at_k so_far) ∙ ap (λ r. behind r (then_if_normal (falls setting locals (drop (k + 1) arms)))) is

  pub fall_returned : (k : ℕ) (arm : Arm) (v : Value) (before after : World) (whole : Ran Flow) → slice_get arms k ≡ Some arm → row setting locals (out-Arm arm).body before.store before.units ≡ Got (Returned v) after.store after.units
      → falls setting locals (drop k arms) before.store before.units ≡ whole → whole ≡ Got (Returned v) after.store after.units
  fall_returned k arm v before after whole at_k is so_far = sym (falls_open k arm before whole at_k so_far) ∙ ap (λ r. behind r (then_if_normal (falls setting locals (drop (k + 1) arms)))) is

  pub fall_stops : (k : ℕ) (arm : Arm) (why : Stop) (before after : World) (whole : Ran Flow) → slice_get arms k ≡ Some arm → Stops why after (row setting locals (out-Arm arm).body before.store before.units)
      → falls setting locals (drop k arms) before.store before.units ≡ whole → Stops why after whole
  fall_stops k arm why before after whole at_k is so_far = stops_on why after _ (then_if_normal (falls setting locals (drop (k + 1) arms))) whole is (falls_open k arm before whole at_k so_far)

  pub falls_end : (k : ℕ) (world : World) (whole : Ran Flow) → length arms ≤ k → falls setting locals (drop k arms) world.store world.units ≡ whole → whole ≡ Got Normal world.store world.units
  unfolding falls
  falls_end k world whole past so_far = sym so_far ∙ ap (λ l. falls setting locals l world.store world.units) (drop_all k arms past)

-- ---- loops by words

module _ (setting : Setting) where
  pub turn_on-opens : (test step : Option Expr) (state : State) (units : ℕ) → turn_on setting test step state units
      ≡ behind (steps setting step state units) (λ flow s u. behind (tests setting test s u) (λ holds. given (again_or holds)))
  unfolding turn_on
  turn_on-opens test step state units = refl

  module _ (locals : List Ty) (test step : Option Expr) (body : Stmt) where
    pub turn-opens : (state : State) (units : ℕ) → turn setting locals test step body state units
        ≡ behind (spends state units) (λ t s u. behind (runs setting locals body s u) (turn_behind (turn_on setting test step)))
    unfolding turn
    turn-opens state units = refl

    pub loops-last : (state : State) (units : ℕ) → loops setting locals test step body true state units ≡ turns_of setting locals test step body state units
    unfolding loops turns_of
    loops-last state units = refl

    pub loops-first : (state : State) (units : ℕ) → loops setting locals test step body false state units ≡ behind (tests setting test state units) (again_if (turns_of setting locals test step body))
    unfolding loops turns_of tests
    loops-first state units = refl

-- ---- turns of a loop

module _ (f : Framed) (depth : ℕ) (locals : List Ty) (test step : Option Expr) (body : Stmt) where
  abbrev setting : Setting
  setting = around f depth

  lasts_value : (e : Expr) → Lasts (evaluating setting e)
  lasts_value e = (lasts_expr setting (calls_last f depth) e).value

  lasts_test : (t : Option Expr) → Lasts (testing setting t)
  lasts_test None = lasts_given true
  lasts_test (Some e) = lasts_bind (evaluating setting e) (λ v. given (if word_in v == 0 then false else true)) (lasts_value e) (λ v. lasts_given (if word_in v == 0 then false else true))

  lasts_step : (t : Option Expr) → Lasts (stepping_on setting t)
  lasts_step None = lasts_given Normal
  lasts_step (Some e) = lasts_bind (evaluating setting e) (λ v. given Normal) (lasts_value e) (λ v. lasts_given Normal)

  abbrev follows : Turn → Run Flow
  follows Again = turns_of setting locals test step body
  follows (Over l) = given (flow_of l)

  next_is : (r : Ran Turn) → behind r (next (testing setting test) (stepping_on setting step) (runs setting locals body) (lasts_test test) (lasts_step step) (lasts_stmt setting (calls_last f depth) locals body)) ≡ behind r follows
  unfolding turns_of
  next_is (Got Again state units) = refl
  next_is (Got (Over l) state units) = refl
  next_is (Ends state) = refl
  next_is Strays = refl
  next_is Goes = refl

  turn_opens : (state : State) (units : ℕ) → turns_of setting locals test step body state units ≡ behind (turn setting locals test step body state units) follows
  unfolding turns_of turn turn_on steps tests spends
  turn_opens state zero = refl
  turn_opens state (suc units) =
      turns_open (testing setting test) (stepping_on setting step) (runs setting locals body) (lasts_test test) (lasts_step step) (lasts_stmt setting (calls_last f depth) locals body) state units
      ∙ next_is (turn setting locals test step body state (suc units))

  pub turn_again : (before after : World) (whole : Ran Flow) → turn setting locals test step body before.store before.units ≡ Got Again after.store after.units
      → turns_of setting locals test step body before.store before.units ≡ whole → turns_of setting locals test step body after.store after.units ≡ whole
  turn_again before after whole is so_far = sym (turn_opens before.store before.units ∙ ap (λ r. behind r follows) is) ∙ so_far

  pub turn_over : (l : Left) (before after : World) (whole : Ran Flow) → turn setting locals test step body before.store before.units ≡ Got (Over l) after.store after.units
      → turns_of setting locals test step body before.store before.units ≡ whole → whole ≡ Got (flow_of l) after.store after.units
  turn_over l before after whole is so_far = sym so_far ∙ turn_opens before.store before.units ∙ ap (λ r. behind r follows) is

  pub turn_stops : (why : Stop) (before after : World) (whole : Ran Flow) → Stops why after (turn setting locals test step body before.store before.units)
      → turns_of setting locals test step body before.store before.units ≡ whole → Stops why after whole
  turn_stops why before after whole is so_far = stops_on why after _ follows whole is (sym (turn_opens before.store before.units) ∙ so_far)

pub ruleset loops_step = (turn_on-opens, turn-opens, loops-last, loops-first)
