-- What statements do, from what is done in them.
use Rattle.std.proofs.Common.{◌≡◌, refl, sym, ap, ◌∙◌, ℕ, List, [], ◌∷◌, map, Option, Some, None}
use Rattle.std.specs.Prelude.{Bool, true, false, not, ◌==◌, ◌||◌, if◌then◌else◌, slice_index_or}
use Rattle.std.specs.List.{list_any}
use Rattle.gsl_types.specs.declared.ty.Ty.{Ty}
use Rattle.gsl_types.specs.declared.ty.Ty.TheVariants.{Void}
use Rattle.gsl_values.specs.declared.value.Value.{Value}
use Rattle.gsl_tree.specs.declared.expr.Expr.{Expr}
use Rattle.gsl_tree.specs.declared.stmt.Arm.{Arm as TreeArm, out-Arm}
use Rattle.gsl_tree.specs.declared.stmt.Stmt.{Stmt}
use Rattle.gsl_tree.specs.declared.stmt.Stmt.TheViews.{roll-out-Arm}
use Rattle.gsl_tree.specs.declared.stmt.Stmt.TheVariants as s
use Rattle.gsl_tree.specs.Values.{word_in, zero_value}
use Rattle.gsl_meaning.specs.State.{State}
use Rattle.gsl_meaning.specs.Accesses.{Local, nothing, stored, whole}
use Rattle.gsl_meaning.specs.Running.{Ran, Got, Ends, Strays, Goes, behind, given, ◌>>=◌}
use Rattle.gsl_meaning.specs.Expressions.{Setting}
use Rattle.gsl_meaning.specs.Statements.{Arm, Normal, Broke, Continued, Returned, arm_by, arm_runs, arms_for, arms_from, falling, has_label as labels_in, behind_switch, runs}
use Rattle.gsl_meaning.proofs.StmtSteps as of
use Rattle.gsl_perform.specs.Coming.{evaluates}
use Rattle.gsl_perform.proofs.Steps.{around-structs}
use Rattle.gsl_flow.specs.Arms.{from_default, from_label, has_label, is_default}
use Rattle.gsl_flow.specs.Flows.{behind_switch as left_behind, flow_of}
use Rattle.gsl_flow.specs.Performing.{begins, declares, falls, loops, returns, row, steps, tests}
use Rattle.gsl_flow.specs.declared.left.Left.{Left}
use Rattle.gsl_flow.specs.declared.left.Left.TheVariants as left

holds_is : (b : Bool) → (if b then false else true) ≡ not b
holds_is true = refl
holds_is false = refl

holds_behind : (r : Ran Value) → behind r (λ v. given (if word_in v == 0 then false else true)) ≡ behind r (λ v. given (not (word_in v == 0)))
holds_behind (Got v state units) = ap (λ b. Got b state units) (holds_is (word_in v == 0))
holds_behind (Ends state) = refl
holds_behind Strays = refl
holds_behind Goes = refl

module _ (setting : Setting) where
  pub tests-None : (state : State) (units : ℕ) → tests setting None state units ≡ Got true state units
  unfolding tests
  tests-None state units = refl

  pub tests-Some : (e : Expr) (state : State) (units : ℕ) → tests setting (Some e) state units ≡ behind (evaluates setting e state units) (λ v. given (not (word_in v == 0)))
  unfolding tests evaluates
  tests-Some e state units = holds_behind (evaluates setting e state units)

  pub steps-None : (state : State) (units : ℕ) → steps setting None state units ≡ Got Normal state units
  unfolding steps
  steps-None state units = refl

  pub steps-Some : (e : Expr) (state : State) (units : ℕ) → steps setting (Some e) state units ≡ behind (evaluates setting e state units) (λ v. given Normal)
  unfolding steps evaluates
  steps-Some e state units = refl

  pub returns-None : (state : State) (units : ℕ) → returns setting None state units ≡ Got (Returned nothing) state units
  unfolding returns
  returns-None state units = refl

  pub returns-Some : (e : Expr) (state : State) (units : ℕ) → returns setting (Some e) state units ≡ behind (evaluates setting e state units) (λ v. given (Returned v))
  unfolding returns evaluates
  returns-Some e state units = refl

  module _ (locals : List Ty) where
    pub begins-None : (number : ℕ) (state : State) (units : ℕ) → begins setting locals number None state units ≡ Got (zero_value setting.structs (slice_index_or locals number Void)) state units
    unfolding begins
    begins-None number state units = refl

    pub begins-Some : (number : ℕ) (e : Expr) (state : State) (units : ℕ) → begins setting locals number (Some e) state units ≡ evaluates setting e state units
    unfolding begins evaluates
    begins-Some number e state units = refl

    pub declares-opens : (number : ℕ) (init : Option Expr) (state : State) (units : ℕ) → declares setting locals number init state units
        ≡ behind (begins setting locals number init state units) (λ v after left. Got Normal (stored (whole (Local number)) v after) left)
    unfolding declares
    declares-opens number init state units = refl

    -- ---- every kind of statement

    pub runs-Empty : (state : State) (units : ℕ) → runs setting locals s.Empty state units ≡ Got Normal state units
    runs-Empty state units = of.runs-Empty setting locals state units

    pub runs-Eval : (e : Expr) (state : State) (units : ℕ) → runs setting locals (s.Eval e) state units ≡ behind (evaluates setting e state units) (λ v. given Normal)
    unfolding evaluates
    runs-Eval e state units = of.runs-Eval setting locals e state units

    pub runs-Declare : (number : ℕ) (init : Option Expr) (state : State) (units : ℕ) → runs setting locals (s.Declare number init) state units ≡ declares setting locals number init state units
    unfolding declares begins
    runs-Declare number init state units = of.runs-Declare setting locals number init state units

    pub runs-Group : (ss : List Stmt) (state : State) (units : ℕ) → runs setting locals (s.Group ss) state units ≡ row setting locals ss state units
    unfolding row
    runs-Group ss state units = of.runs-Group setting locals ss state units

    pub runs-If : (t : Expr) (a : Stmt) (state : State) (units : ℕ) → runs setting locals (s.If t a None) state units ≡ behind (evaluates setting t state units) (λ v. if word_in v == 0 then given Normal else runs setting locals a)
    unfolding evaluates
    runs-If t a state units = of.runs-If setting locals t a state units

    pub runs-Else : (t : Expr) (a b : Stmt) (state : State) (units : ℕ) → runs setting locals (s.If t a (Some b)) state units
        ≡ behind (evaluates setting t state units) (λ v. if word_in v == 0 then runs setting locals b else runs setting locals a)
    unfolding evaluates
    runs-Else t a b state units = of.runs-Else setting locals t a b state units

    pub runs-Loop : (t : Option Expr) (e : Option Expr) (b : Stmt) (last : Bool) (state : State) (units : ℕ) → runs setting locals (s.Loop t e b last) state units ≡ loops setting locals t e b last state units
    unfolding loops
    runs-Loop t e b last state units = of.runs-Loop setting locals t e b last state units

    pub runs-Break : (state : State) (units : ℕ) → runs setting locals s.Break state units ≡ Got Broke state units
    runs-Break state units = of.runs-Break setting locals state units

    pub runs-Continue : (state : State) (units : ℕ) → runs setting locals s.Continue state units ≡ Got Continued state units
    runs-Continue state units = of.runs-Continue setting locals state units

    pub runs-Return : (e : Option Expr) (state : State) (units : ℕ) → runs setting locals (s.Return e) state units ≡ returns setting e state units
    unfolding returns
    runs-Return e state units = of.runs-Return setting locals e state units

    pub runs-Discard : (state : State) (units : ℕ) → runs setting locals s.Discard state units ≡ Ends state
    runs-Discard state units = of.runs-Discard setting locals state units

    -- ---- `switch`

    arm_is : (arm : TreeArm) → arm_runs setting locals arm ≡ arm_by (record { labels = (out-Arm arm).labels; is_default = (out-Arm arm).is_default; body = map (runs setting locals) (out-Arm arm).body })
    arm_is arm = ap (arm_runs setting locals) (sym (roll-out-Arm arm)) ∙ of.arm-opens setting locals (out-Arm arm)

    label_is : (word : ℕ) (arm : TreeArm) → labels_in word (arm_runs setting locals arm) ≡ has_label word arm
    unfolding has_label
    label_is word arm = ap (labels_in word) (arm_is arm)

    default_is : (arm : TreeArm) → (arm_runs setting locals arm).is_default ≡ is_default arm
    unfolding is_default
    default_is arm = ap (λ (a : Arm). a.is_default) (arm_is arm)

    pub arm_body : (arm : TreeArm) (state : State) (units : ℕ) → (arm_runs setting locals arm).body state units ≡ row setting locals (out-Arm arm).body state units
    unfolding row
    arm_body arm state units = ap (λ (a : Arm). a.body state units) (arm_is arm)

    first_of : (b : Bool) (arm : TreeArm) (arms rest : List TreeArm) → (if b then arm_runs setting locals arm ∷ map (arm_runs setting locals) arms else map (arm_runs setting locals) rest)
        ≡ map (arm_runs setting locals) (if b then arm ∷ arms else rest)
    first_of true arm arms rest = refl
    first_of false arm arms rest = refl

    defaults_are : (arms : List TreeArm) → arms_from (λ arm. arm.is_default) (map (arm_runs setting locals) arms) ≡ map (arm_runs setting locals) (from_default arms)
    defaults_are [] = refl
    defaults_are (arm ∷ arms) =
        ap (λ b. if b then arm_runs setting locals arm ∷ map (arm_runs setting locals) arms else arms_from (λ arm. arm.is_default) (map (arm_runs setting locals) arms)) (default_is arm)
        ∙ ap (λ l. if is_default arm then arm_runs setting locals arm ∷ map (arm_runs setting locals) arms else l) (defaults_are arms) ∙ first_of (is_default arm) arm arms (from_default arms)

    -- what is entered with a word, where else others are
    abbrev entered : ℕ → List TreeArm → List TreeArm → List Arm
    entered word arms others = if list_any (labels_in word) (map (arm_runs setting locals) arms) then arms_from (labels_in word) (map (arm_runs setting locals) arms) else map (arm_runs setting locals) others

    labelled_by : (b c : Bool) (arm : TreeArm) (arms others found : List TreeArm) (rest : List Arm) → (if c then rest else map (arm_runs setting locals) others) ≡ map (arm_runs setting locals) found
        → (if b || c then (if b then arm_runs setting locals arm ∷ map (arm_runs setting locals) arms else rest) else map (arm_runs setting locals) others) ≡ map (arm_runs setting locals) (if b then arm ∷ arms else found)
    labelled_by true c arm arms others found rest is = refl
    labelled_by false c arm arms others found rest is = is

    labelled_are : (word : ℕ) (arms others : List TreeArm) → entered word arms others ≡ map (arm_runs setting locals) (from_label word arms others)
    labelled_are word [] others = refl
    labelled_are word (arm ∷ arms) others =
        labelled_by (labels_in word (arm_runs setting locals arm)) (list_any (labels_in word) (map (arm_runs setting locals) arms)) arm arms others (from_label word arms others)
        (arms_from (labels_in word) (map (arm_runs setting locals) arms)) (labelled_are word arms others)
        ∙ ap (λ b. map (arm_runs setting locals) (if b then arm ∷ arms else from_label word arms others)) (label_is word arm)

    arms_are : (word : ℕ) (arms : List TreeArm) → arms_for word (map (arm_runs setting locals) arms) ≡ map (arm_runs setting locals) (from_label word arms (from_default arms))
    arms_are word arms =
        ap (λ l. if list_any (labels_in word) (map (arm_runs setting locals) arms) then arms_from (labels_in word) (map (arm_runs setting locals) arms) else l) (defaults_are arms)
        ∙ labelled_are word arms (from_default arms)

    switch_behind : (r : Ran Value) (arms : List TreeArm) → behind r (λ v. falling (arms_for (word_in v) (map (arm_runs setting locals) arms)) >>= behind_switch)
        ≡ behind r (λ v. falling (map (arm_runs setting locals) (from_label (word_in v) arms (from_default arms))) >>= behind_switch)
    switch_behind (Got v state units) arms = ap (λ l. behind (falling l state units) behind_switch) (arms_are (word_in v) arms)
    switch_behind (Ends state) arms = refl
    switch_behind Strays arms = refl
    switch_behind Goes arms = refl

    pub runs-Switch : (e : Expr) (arms : List TreeArm) (state : State) (units : ℕ) → runs setting locals (s.Switch e arms) state units
        ≡ behind (evaluates setting e state units) (λ v. falls setting locals (from_label (word_in v) arms (from_default arms)) >>= behind_switch)
    unfolding evaluates falls
    runs-Switch e arms state units = of.runs-Switch setting locals e arms state units ∙ switch_behind (evaluates setting e state units) arms

-- `break` leaves a `switch`
pub switch_left : (l : Left) (state : State) (units : ℕ) → behind_switch (flow_of l) state units ≡ Got (flow_of (left_behind l)) state units
switch_left left.Normal state units = refl
switch_left left.Broke state units = refl
switch_left left.Continued state units = refl
switch_left (left.Returned v) state units = refl

pub ruleset parts_step = (tests-None, tests-Some, steps-None, steps-Some, returns-None, returns-Some, begins-None, begins-Some, declares-opens, around-structs)

pub ruleset runs_step = (runs-Empty, runs-Eval, runs-Declare, runs-Group, runs-If, runs-Else, runs-Loop, runs-Break, runs-Continue, runs-Return, runs-Discard, runs-Switch, switch_left)
