-- Statements, arms and labels, one behind the other.
use Rattle.std.proofs.Common.{◌≡◌, sym, ap, ◌∙◌, subst, ℕ, ◌+◌, ◌≤◌, List, ◌∷◌, length, drop, slice_get, Some}
use Rattle.std.specs.Prelude.{Bool, true, false, if◌then◌else◌}
use Rattle.std.proofs.lemmas.List.{drop_all}
use Rattle.gsl_compute.proofs.Loops.{opened}
use Rattle.gsl_spv.specs.declared.refusal.BuildRefusal.{BuildRefusal}
use Rattle.gsl_spv.specs.declared.refusal.BuildRefusal.TheVariants.{TooManyIds, Memory}
use Rattle.gsl_types.specs.declared.ty.Ty.{Ty}
use Rattle.gsl_tree.specs.declared.stmt.Arm.{Arm, out-Arm}
use Rattle.gsl_tree.specs.declared.stmt.Stmt.{Stmt}
use Rattle.gsl_lower_holders.specs.Flow.{Emit, Flow, Lowered, Gives, behind, ◌>>=◌, given, opening, Refuses}
use Rattle.gsl_lower_expr.specs.Lowering.{Setting}
use Rattle.gsl_lower_stmt.specs.declared.exits.Exits.{Exits}
use Rattle.gsl_lower_stmt.specs.Coming.{falls, puts, row}
use Rattle.gsl_lower_stmt.specs.Parts.{in_switch, next_or, seal}
use Rattle.gsl_lower_stmt.proofs.Steps.{falls-ends, falls-opens, row-ends, row-opens}

-- what a part refuses, the whole refuses
pub refuses_on : {A B : Type 0} (why : BuildRefusal) (r : Lowered A) (next : A → Emit B) (whole : Lowered B) → Refuses why r → behind r next ≡ whole → Refuses why whole
refuses_on TooManyIds r next whole is so_far = sym so_far ∙ ap (λ q. behind q next) is
refuses_on Memory r next whole is so_far = tt

module _ (s : Setting) (locals : List Ty) (ss : List Stmt) (exits : Exits) where
  row_opens : (k : ℕ) (one : Stmt) (flow : Flow) (whole : Lowered Bool) → slice_get ss k ≡ Some one → row s locals (drop k ss) exits flow ≡ whole
      → behind (puts s locals one exits flow) (λ left. if left then given true else row s locals (drop (k + 1) ss) exits) ≡ whole
  row_opens k one flow whole at_k so_far = sym (ap (λ l. row s locals l exits flow) (opened ss k one at_k) ∙ row-opens s locals one (drop (k + 1) ss) exits flow) ∙ so_far

  pub row_on : (k : ℕ) (one : Stmt) (left : Bool) (before after : Flow) (whole : Lowered Bool) → slice_get ss k ≡ Some one → puts s locals one exits before ≡ Gives left after → left ≡ false
      → row s locals (drop k ss) exits before ≡ whole → row s locals (drop (k + 1) ss) exits after ≡ whole
  row_on k one left before after whole at_k is stays so_far =
      sym (ap (λ r. behind r (λ left. if left then given true else row s locals (drop (k + 1) ss) exits)) (is ∙ ap (λ b. Gives b after) stays)) ∙ row_opens k one before whole at_k so_far

  pub row_left : (k : ℕ) (one : Stmt) (left : Bool) (before after : Flow) (whole : Lowered Bool) → slice_get ss k ≡ Some one → puts s locals one exits before ≡ Gives left after → left ≡ true
      → row s locals (drop k ss) exits before ≡ whole → whole ≡ Gives true after
  row_left k one left before after whole at_k is leaves so_far =
      sym (row_opens k one before whole at_k so_far) ∙ ap (λ r. behind r (λ left. if left then given true else row s locals (drop (k + 1) ss) exits)) (is ∙ ap (λ b. Gives b after) leaves)

  pub row_stops : (k : ℕ) (one : Stmt) (why : BuildRefusal) (before : Flow) (whole : Lowered Bool) → slice_get ss k ≡ Some one → Refuses why (puts s locals one exits before)
      → row s locals (drop k ss) exits before ≡ whole → Refuses why whole
  row_stops k one why before whole at_k is so_far = refuses_on why _ (λ left. if left then given true else row s locals (drop (k + 1) ss) exits) whole is (row_opens k one before whole at_k so_far)

  pub row_end : (k : ℕ) (flow : Flow) (whole : Lowered Bool) → length ss ≤ k → row s locals (drop k ss) exits flow ≡ whole → whole ≡ Gives false flow
  row_end k flow whole past so_far = sym so_far ∙ ap (λ l. row s locals l exits flow) (drop_all k ss past) ∙ row-ends s locals exits flow

module _ (s : Setting) (locals : List Ty) (end : ℕ) (labels : List ℕ) (arms : List Arm) (exits : Exits) where
  abbrev behind_label : ℕ → Arm → Unit {0} → Emit (Unit {0})
  behind_label k arm a = row s locals (out-Arm arm).body (in_switch end exits) >>= (λ left. seal left (next_or end (drop (k + 1) labels)) >>= (λ c. falls s locals end (drop (k + 1) labels) (drop (k + 1) arms) exits))

  falls_open : (k label : ℕ) (arm : Arm) (flow : Flow) (whole : Lowered (Unit {0})) → slice_get labels k ≡ Some label → slice_get arms k ≡ Some arm → falls s locals end (drop k labels) (drop k arms) exits flow ≡ whole
      → behind (opening label flow) (behind_label k arm) ≡ whole
  falls_open k label arm flow whole at_label at_arm so_far =
      sym (ap (λ l. falls s locals end l (drop k arms) exits flow) (opened labels k label at_label) ∙ ap (λ l. falls s locals end (label ∷ drop (k + 1) labels) l exits flow) (opened arms k arm at_arm)
      ∙ falls-opens s locals end label (drop (k + 1) labels) arm (drop (k + 1) arms) exits flow) ∙ so_far

  pub label_stops : (k label : ℕ) (arm : Arm) (why : BuildRefusal) (before : Flow) (whole : Lowered (Unit {0})) → slice_get labels k ≡ Some label → slice_get arms k ≡ Some arm → Refuses why (opening label before)
      → falls s locals end (drop k labels) (drop k arms) exits before ≡ whole → Refuses why whole
  label_stops k label arm why before whole at_label at_arm is so_far = refuses_on why _ (behind_label k arm) whole is (falls_open k label arm before whole at_label at_arm so_far)

  label_on : (k label : ℕ) (arm : Arm) (done : Unit {0}) (before after : Flow) (whole : Lowered (Unit {0})) → slice_get labels k ≡ Some label → slice_get arms k ≡ Some arm → opening label before ≡ Gives done after
      → falls s locals end (drop k labels) (drop k arms) exits before ≡ whole → behind_label k arm done after ≡ whole
  label_on k label arm done before after whole at_label at_arm is so_far = sym (ap (λ r. behind r (behind_label k arm)) is) ∙ falls_open k label arm before whole at_label at_arm so_far

  pub body_stops : (k label : ℕ) (arm : Arm) (inside : Exits) (done : Unit {0}) (why : BuildRefusal) (before between : Flow) (whole : Lowered (Unit {0})) → slice_get labels k ≡ Some label → slice_get arms k ≡ Some arm
      → opening label before ≡ Gives done between → inside ≡ in_switch end exits → Refuses why (row s locals (out-Arm arm).body inside between)
      → falls s locals end (drop k labels) (drop k arms) exits before ≡ whole → Refuses why whole
  body_stops k label arm inside done why before between whole at_label at_arm is within body so_far =
      refuses_on why _ (λ left. seal left (next_or end (drop (k + 1) labels)) >>= (λ c. falls s locals end (drop (k + 1) labels) (drop (k + 1) arms) exits)) whole (subst (λ x. Refuses why (row s locals (out-Arm arm).body x between)) within body) (label_on k label arm done before between whole at_label at_arm is so_far)

  body_on : (k label : ℕ) (arm : Arm) (done : Unit {0}) (left : Bool) (before between after : Flow) (whole : Lowered (Unit {0})) → slice_get labels k ≡ Some label → slice_get arms k ≡ Some arm
      → opening label before ≡ Gives done between → row s locals (out-Arm arm).body (in_switch end exits) between ≡ Gives left after
      → falls s locals end (drop k labels) (drop k arms) exits before ≡ whole
      → behind (seal left (next_or end (drop (k + 1) labels)) after) (λ c. falls s locals end (drop (k + 1) labels) (drop (k + 1) arms) exits) ≡ whole
  body_on k label arm done left before between after whole at_label at_arm is body so_far =
      sym (ap (λ r. behind r (λ left. seal left (next_or end (drop (k + 1) labels)) >>= (λ c. falls s locals end (drop (k + 1) labels) (drop (k + 1) arms) exits))) body) ∙ label_on k label arm done before between whole at_label at_arm is so_far

  pub seal_stops : (k label : ℕ) (arm : Arm) (inside : Exits) (done : Unit {0}) (left : Bool) (next : ℕ) (why : BuildRefusal) (before between after : Flow) (whole : Lowered (Unit {0})) → slice_get labels k ≡ Some label → slice_get arms k ≡ Some arm
      → opening label before ≡ Gives done between → inside ≡ in_switch end exits → row s locals (out-Arm arm).body inside between ≡ Gives left after → next ≡ next_or end (drop (k + 1) labels) → Refuses why (seal left next after)
      → falls s locals end (drop k labels) (drop k arms) exits before ≡ whole → Refuses why whole
  seal_stops k label arm inside done left next why before between after whole at_label at_arm is within body on stops so_far =
      refuses_on why (seal left next after) (λ c. falls s locals end (drop (k + 1) labels) (drop (k + 1) arms) exits) whole stops
      (ap (λ n. behind (seal left n after) (λ c. falls s locals end (drop (k + 1) labels) (drop (k + 1) arms) exits)) on ∙ body_on k label arm done left before between after whole at_label at_arm is (subst (λ x. row s locals (out-Arm arm).body x between ≡ Gives left after) within body) so_far)

  pub falls_on : (k label : ℕ) (arm : Arm) (inside : Exits) (done sealed : Unit {0}) (left : Bool) (next : ℕ) (before between after last : Flow) (whole : Lowered (Unit {0})) → slice_get labels k ≡ Some label → slice_get arms k ≡ Some arm
      → opening label before ≡ Gives done between → inside ≡ in_switch end exits → row s locals (out-Arm arm).body inside between ≡ Gives left after → next ≡ next_or end (drop (k + 1) labels) → seal left next after ≡ Gives sealed last
      → falls s locals end (drop k labels) (drop k arms) exits before ≡ whole → falls s locals end (drop (k + 1) labels) (drop (k + 1) arms) exits last ≡ whole
  falls_on k label arm inside done sealed left next before between after last whole at_label at_arm is within body on seals so_far =
      sym (ap (λ r. behind r (λ c. falls s locals end (drop (k + 1) labels) (drop (k + 1) arms) exits)) seals)
      ∙ ap (λ n. behind (seal left n after) (λ c. falls s locals end (drop (k + 1) labels) (drop (k + 1) arms) exits)) on ∙ body_on k label arm done left before between after whole at_label at_arm is (subst (λ x. row s locals (out-Arm arm).body x between ≡ Gives left after) within body) so_far

  pub falls_end : (k : ℕ) (flow : Flow) (whole : Lowered (Unit {0})) → length arms ≤ k → falls s locals end (drop k labels) (drop k arms) exits flow ≡ whole → whole ≡ Gives tt flow
  falls_end k flow whole past so_far = sym so_far ∙ ap (λ l. falls s locals end (drop k labels) l exits flow) (drop_all k arms past) ∙ falls-ends s locals end (drop k labels) exits flow
