-- What statements come to, from what comes of their parts.
use Rattle.std.proofs.Common.{◌≡◌, refl, sym, ap, ◌∙◌, ℕ, List, [], ◌∷◌, map, Option, Some, None}
use Rattle.std.specs.Prelude.{Bool, true, false, ◌||◌, if◌then◌else◌, slice_index_or}
use Rattle.gsl_instr.specs.declared.op.TheConstants as op
use Rattle.gsl_types.specs.declared.ty.Ty.{Ty}
use Rattle.gsl_types.specs.declared.ty.Ty.TheVariants.{Void}
use Rattle.gsl_tree.specs.declared.expr.Expr.{Expr}
use Rattle.gsl_tree.specs.declared.stmt.Arm.{Arm, out-Arm}
use Rattle.gsl_tree.specs.declared.stmt.Stmt.{Stmt}
use Rattle.gsl_tree.specs.declared.stmt.Stmt.TheFolds.{fold-roll-Arm}
use Rattle.gsl_tree.specs.declared.stmt.Stmt.TheOpen.{Stmt-F}
use Rattle.gsl_tree.specs.declared.stmt.Stmt.TheVariants as kind
use Rattle.gsl_tree.specs.declared.stmt.Stmt.TheViews.{roll-out-Arm}
use Rattle.gsl_tree.proofs.StmtFolds as at
use Rattle.gsl_lower_holders.specs.Flow.{Emit, Flow, Lowered, Gives, Lacks, behind, ◌>>=◌, given, opening, putting_here}
use Rattle.gsl_lower_expr.specs.Calls.{zeros}
use Rattle.gsl_lower_expr.specs.Coming.{evaluates}
use Rattle.gsl_lower_expr.specs.Lowering.{Setting}
use Rattle.gsl_lower_needs.specs.Bodies.{any_leaves}
use Rattle.gsl_lower_stmt.specs.declared.exits.Exits.{Exits}
use Rattle.gsl_lower_stmt.specs.declared.labels.Fork.{Fork}
use Rattle.gsl_lower_stmt.specs.declared.labels.LoopLabels.{LoopLabels}
use Rattle.gsl_lower_stmt.specs.declared.labels.SwitchLabels.{SwitchLabels}
use Rattle.gsl_lower_stmt.specs.Coming.{and_leaves, begins, begins_switch, declares, default_in, falls, loops, puts, returns, row, steps, tests_first, tests_last, words_in}
use Rattle.gsl_lower_stmt.specs.Lowering.{arm_by, defaults_of, lowers_arm, lowers_stmt, or_nothing, stmt_by, value_if_any, value_of, words_of}
use Rattle.gsl_lower_stmt.specs.Parts.{LowerArm, LowerStmt, again_if, before_body, begin_else, begin_if, begin_loop, begin_step, begin_switch, begins_with, behind_step, branch, end_if, enter_body, falling, in_loop, in_switch, in_turn, leave_by, next_or, seal, stepped, unless}

-- ---- one behind the other

pub assoc : {A B C : Type 0} (r : Lowered A) (f : A → Emit B) (g : B → Emit C) → behind (behind r f) g ≡ behind r (λ a. f a >>= g)
assoc (Gives a flow) f g = refl
assoc Lacks f g = refl

pub same : {A B : Type 0} (r : Lowered A) (f g : A → Emit B) → ((a : A) (flow : Flow) → f a flow ≡ g a flow) → behind r f ≡ behind r g
same (Gives a flow) f g is = is a flow
same Lacks f g is = refl

-- ---- parts

module _ (s : Setting) where
  pub tests_first-last : (test : Option Expr) (l : LoopLabels) (flow : Flow) → tests_first s true test l flow ≡ Gives tt flow
  unfolding tests_first
  tests_first-last test l flow = refl

  pub tests_first-None : (l : LoopLabels) (flow : Flow) → tests_first s false None l flow ≡ Gives tt flow
  unfolding tests_first
  tests_first-None l flow = refl

  pub tests_first-Some : (e : Expr) (l : LoopLabels) (flow : Flow) → tests_first s false (Some e) l flow ≡ behind (evaluates s e flow) (enter_body l)
  unfolding tests_first evaluates
  tests_first-Some e l flow = refl

  pub steps-None : (flow : Flow) → steps s None flow ≡ Gives tt flow
  unfolding steps
  steps-None flow = refl

  pub steps-Some : (e : Expr) (flow : Flow) → steps s (Some e) flow ≡ behind (evaluates s e flow) (λ x. given tt)
  unfolding steps evaluates
  steps-Some e flow = refl

  pub tests_last-first : (test : Option Expr) (l : LoopLabels) (flow : Flow) → tests_last s false test l flow ≡ branch l.head flow
  unfolding tests_last
  tests_last-first test l flow = refl

  pub tests_last-None : (l : LoopLabels) (flow : Flow) → tests_last s true None l flow ≡ branch l.head flow
  unfolding tests_last
  tests_last-None l flow = refl

  pub tests_last-Some : (e : Expr) (l : LoopLabels) (flow : Flow) → tests_last s true (Some e) l flow ≡ behind (evaluates s e flow) (again_if l)
  unfolding tests_last evaluates
  tests_last-Some e l flow = refl

  pub returns-None : (flow : Flow) → returns s None flow ≡ putting_here op.RETURN [] flow
  unfolding returns
  returns-None flow = refl

  pub returns-Some : (e : Expr) (flow : Flow) → returns s (Some e) flow ≡ behind (evaluates s e flow) (λ x. putting_here op.RETURN_VALUE (x ∷ []))
  unfolding returns evaluates
  returns-Some e flow = refl

  module _ (locals : List Ty) where
    pub begins-None : (number : ℕ) (flow : Flow) → begins s locals number None flow ≡ zeros (slice_index_or locals number Void) flow
    unfolding begins
    begins-None number flow = refl

    pub begins-Some : (number : ℕ) (e : Expr) (flow : Flow) → begins s locals number (Some e) flow ≡ evaluates s e flow
    unfolding begins evaluates
    begins-Some number e flow = refl

    pub declares-opens : (number : ℕ) (init : Option Expr) (flow : Flow) → declares s locals number init flow ≡ behind (begins s locals number init flow) (begins_with number)
    unfolding declares
    declares-opens number init flow = refl

    -- ---- every kind of statement

    abbrev step : Stmt-F LowerStmt LowerArm → LowerStmt
    step = stmt_by s locals

    abbrev whole : LowerStmt → Exits → Emit Bool
    whole x exits = and_leaves (x.run exits) x.leaves

    pub puts-Empty : (exits : Exits) (flow : Flow) → puts s locals kind.Empty exits flow ≡ Gives false flow
    unfolding puts lowers_stmt
    puts-Empty exits flow = ap (λ (x : LowerStmt). whole x exits flow) (at.at-Empty LowerStmt LowerArm step arm_by)

    pub puts-Eval : (e : Expr) (exits : Exits) (flow : Flow) → puts s locals (kind.Eval e) exits flow ≡ behind (evaluates s e flow) (λ v. given false)
    unfolding puts lowers_stmt evaluates
    puts-Eval e exits flow =
        ap (λ (x : LowerStmt). whole x exits flow) (at.at-Eval LowerStmt LowerArm step arm_by e) ∙ assoc (value_of s e flow) (λ v. given tt) (λ done. given false)

    pub puts-Declare : (number : ℕ) (init : Option Expr) (exits : Exits) (flow : Flow) → puts s locals (kind.Declare number init) exits flow ≡ behind (declares s locals number init flow) (λ done. given false)
    unfolding puts lowers_stmt declares begins
    puts-Declare number init exits flow = ap (λ (x : LowerStmt). whole x exits flow) (at.at-Declare LowerStmt LowerArm step arm_by number init)

    pub puts-Group : (ss : List Stmt) (exits : Exits) (flow : Flow) → puts s locals (kind.Group ss) exits flow ≡ row s locals ss exits flow
    unfolding puts row lowers_stmt
    puts-Group ss exits flow = ap (λ (x : LowerStmt). whole x exits flow) (at.at-Group LowerStmt LowerArm step arm_by ss)

    -- an `if` over its parts
    abbrev forks : (Fork → Emit Bool) → ℕ → Emit Bool
    forks second x = begin_if x >>= second

    forked_same : (test : Lowered ℕ) (first other : LowerStmt) (exits : Exits)
        → behind (behind (behind test begin_if) (λ f. first.run exits >>= (λ a. begin_else f first.leaves >>= (λ b. other.run exits >>= (λ c. end_if f other.leaves))))) (λ done. given false)
        ≡ behind test (λ x. begin_if x >>= (λ f. whole first exits >>= (λ left. begin_else f left >>= (λ b. whole other exits >>= (λ last. end_if f last >>= (λ done. given false))))))
    forked_same test first other exits =
        assoc (behind test begin_if) (λ f. first.run exits >>= (λ a. begin_else f first.leaves >>= (λ b. other.run exits >>= (λ c. end_if f other.leaves)))) (λ done. given false)
        ∙ assoc test begin_if (λ f. (first.run exits >>= (λ a. begin_else f first.leaves >>= (λ b. other.run exits >>= (λ c. end_if f other.leaves)))) >>= (λ done. given false))
        ∙ same test _ _ (λ x at_test. same (begin_if x at_test) _ _ (λ f at_fork.
        assoc (first.run exits at_fork) (λ a. begin_else f first.leaves >>= (λ b. other.run exits >>= (λ c. end_if f other.leaves))) (λ done. given false)
        ∙ same (first.run exits at_fork) _ _ (λ a at_first.
        assoc (begin_else f first.leaves at_first) (λ b. other.run exits >>= (λ c. end_if f other.leaves)) (λ done. given false)
        ∙ same (begin_else f first.leaves at_first) _ _ (λ b at_else.
        assoc (other.run exits at_else) (λ c. end_if f other.leaves) (λ done. given false)
        ∙ sym (assoc (other.run exits at_else) (λ c. given other.leaves) (λ last. end_if f last >>= (λ done. given false)))))
        ∙ sym (assoc (first.run exits at_fork) (λ a. given first.leaves) (λ left. begin_else f left >>= (λ b. whole other exits >>= (λ last. end_if f last >>= (λ done. given false)))))))

    pub puts-If : (t : Expr) (a : Stmt) (exits : Exits) (flow : Flow) → puts s locals (kind.If t a None) exits flow
        ≡ behind (evaluates s t flow) (λ x. begin_if x >>= (λ f. puts s locals a exits >>= (λ left. begin_else f left >>= (λ b. end_if f false >>= (λ done. given false)))))
    unfolding puts lowers_stmt evaluates
    puts-If t a exits flow =
        ap (λ (x : LowerStmt). whole x exits flow) (at.at-If LowerStmt LowerArm step arm_by t a None) ∙ forked_same (value_of s t flow) (lowers_stmt s locals a) (or_nothing None) exits

    pub puts-Else : (t : Expr) (a b : Stmt) (exits : Exits) (flow : Flow) → puts s locals (kind.If t a (Some b)) exits flow
        ≡ behind (evaluates s t flow) (λ x. begin_if x >>= (λ f. puts s locals a exits >>= (λ left. begin_else f left >>= (λ c. puts s locals b exits >>= (λ last. end_if f last >>= (λ done. given false))))))
    unfolding puts lowers_stmt evaluates
    puts-Else t a b exits flow =
        ap (λ (x : LowerStmt). whole x exits flow) (at.at-If LowerStmt LowerArm step arm_by t a (Some b)) ∙ forked_same (value_of s t flow) (lowers_stmt s locals a) (lowers_stmt s locals b) exits

    pub puts-Loop : (t : Option Expr) (e : Option Expr) (b : Stmt) (last : Bool) (exits : Exits) (flow : Flow) → puts s locals (kind.Loop t e b last) exits flow
        ≡ behind (loops s locals t e b last flow) (λ done. given false)
    unfolding puts lowers_stmt loops
    puts-Loop t e b last exits flow = ap (λ (x : LowerStmt). whole x exits flow) (at.at-Loop LowerStmt LowerArm step arm_by t e b last)

    turning_same : (first third last : Emit (Unit {0})) (body : LowerStmt) (l : LoopLabels) (flow : Flow)
        → behind (behind (first flow) (λ a. body.run (in_loop l) >>= (λ b. begin_step l body.leaves >>= (λ c. third >>= (λ d. last))))) (λ done. opening l.end)
        ≡ behind (first flow) (λ a. whole body (in_loop l) >>= (λ left. begin_step l left >>= (λ c. third >>= (λ d. last >>= (λ done. opening l.end)))))
    turning_same first third last body l flow =
        assoc (first flow) (λ a. body.run (in_loop l) >>= (λ b. begin_step l body.leaves >>= (λ c. third >>= (λ d. last)))) (λ done. opening l.end)
        ∙ same (first flow) _ _ (λ a at_body.
        assoc (body.run (in_loop l) at_body) (λ b. begin_step l body.leaves >>= (λ c. third >>= (λ d. last))) (λ done. opening l.end)
        ∙ same (body.run (in_loop l) at_body) _ _ (λ b at_step.
        assoc (begin_step l body.leaves at_step) (λ c. third >>= (λ d. last)) (λ done. opening l.end)
        ∙ same (begin_step l body.leaves at_step) _ _ (λ c at_third. assoc (third at_third) (λ d. last) (λ done. opening l.end)))
        ∙ sym (assoc (body.run (in_loop l) at_body) (λ b. given body.leaves) (λ left. begin_step l left >>= (λ c. third >>= (λ d. last >>= (λ done. opening l.end))))))

    pub loops-opens : (t e : Option Expr) (b : Stmt) (last : Bool) (flow : Flow) → loops s locals t e b last flow
        ≡ behind (begin_loop flow) (λ l. tests_first s last t l >>= (λ a. puts s locals b (in_loop l) >>= (λ left. begin_step l left >>= (λ c. steps s e >>= (λ d. tests_last s last t l >>= (λ done. opening l.end))))))
    unfolding loops puts tests_first tests_last steps
    loops-opens t e b last flow =
        same (begin_loop flow) _ _ (λ l at_head.
        turning_same (before_body last (value_if_any s t) l) (stepped (value_if_any s e)) (behind_step last (value_if_any s t) l) (lowers_stmt s locals b) l at_head)

    pub puts-Break : (exits : Exits) (flow : Flow) → puts s locals kind.Break exits flow ≡ behind (leave_by exits.break_to flow) (λ done. given true)
    unfolding puts lowers_stmt
    puts-Break exits flow = ap (λ (x : LowerStmt). whole x exits flow) (at.at-Break LowerStmt LowerArm step arm_by)

    pub puts-Continue : (exits : Exits) (flow : Flow) → puts s locals kind.Continue exits flow ≡ behind (leave_by exits.continue_to flow) (λ done. given true)
    unfolding puts lowers_stmt
    puts-Continue exits flow = ap (λ (x : LowerStmt). whole x exits flow) (at.at-Continue LowerStmt LowerArm step arm_by)

    pub puts-Return : (e : Option Expr) (exits : Exits) (flow : Flow) → puts s locals (kind.Return e) exits flow ≡ behind (returns s e flow) (λ done. given true)
    unfolding puts lowers_stmt returns
    puts-Return e exits flow = ap (λ (x : LowerStmt). whole x exits flow) (at.at-Return LowerStmt LowerArm step arm_by e)

    pub puts-Discard : (exits : Exits) (flow : Flow) → puts s locals kind.Discard exits flow ≡ behind (putting_here op.KILL [] flow) (λ done. given true)
    unfolding puts lowers_stmt
    puts-Discard exits flow = ap (λ (x : LowerStmt). whole x exits flow) (at.at-Discard LowerStmt LowerArm step arm_by)

    -- ---- `switch`

    pub arm_is : (arm : Arm) → lowers_arm s locals arm ≡ arm_by (record { labels = (out-Arm arm).labels; is_default = (out-Arm arm).is_default; body = map (lowers_stmt s locals) (out-Arm arm).body })
    unfolding lowers_arm lowers_stmt
    arm_is arm = ap (lowers_arm s locals) (sym (roll-out-Arm arm)) ∙ fold-roll-Arm LowerStmt LowerArm step arm_by (out-Arm arm)

    words_same : (arms : List Arm) → words_of (map (lowers_arm s locals) arms) ≡ map words_in arms
    words_same [] = refl
    words_same (arm ∷ arms) = ap (λ (x : LowerArm). x.labels ∷ words_of (map (lowers_arm s locals) arms)) (arm_is arm) ∙ ap (λ l. words_in arm ∷ l) (words_same arms)

    defaults_same : (arms : List Arm) → defaults_of (map (lowers_arm s locals) arms) ≡ map default_in arms
    defaults_same [] = refl
    defaults_same (arm ∷ arms) = ap (λ (x : LowerArm). x.is_default ∷ defaults_of (map (lowers_arm s locals) arms)) (arm_is arm) ∙ ap (λ l. default_in arm ∷ l) (defaults_same arms)

    switched_same : (value : Lowered ℕ) (begin : ℕ → Emit SwitchLabels) (arms : SwitchLabels → Emit (Unit {0}))
        → behind (behind (behind value begin) (λ l. arms l >>= (λ done. opening l.end))) (λ done. given false)
        ≡ behind value (λ x. begin x >>= (λ l. arms l >>= (λ a. opening l.end >>= (λ done. given false))))
    switched_same value begin arms =
        assoc (behind value begin) (λ l. arms l >>= (λ done. opening l.end)) (λ done. given false)
        ∙ assoc value begin (λ l. (arms l >>= (λ done. opening l.end)) >>= (λ done. given false))
        ∙ same value _ _ (λ x at_value. same (begin x at_value) _ _ (λ l at_arms. assoc (arms l at_arms) (λ done. opening l.end) (λ done. given false)))

    pub puts-Switch : (e : Expr) (arms : List Arm) (exits : Exits) (flow : Flow) → puts s locals (kind.Switch e arms) exits flow
        ≡ behind (evaluates s e flow) (λ x. begins_switch arms x >>= (λ l. falls s locals l.end l.arms arms exits >>= (λ a. opening l.end >>= (λ done. given false))))
    unfolding puts lowers_stmt lowers_arm evaluates begins_switch falls
    puts-Switch e arms exits flow =
        ap (λ (x : LowerStmt). whole x exits flow) (at.at-Switch LowerStmt LowerArm step arm_by e arms)
        ∙ ap (λ w. behind (behind (behind (value_of s e flow) (begin_switch w (defaults_of (map (lowers_arm s locals) arms)))) (λ l. falling l.end l.arms (map (lowers_arm s locals) arms) exits >>= (λ done. opening l.end))) (λ done. given false)) (words_same arms)
        ∙ ap (λ d. behind (behind (behind (value_of s e flow) (begin_switch (map words_in arms) d)) (λ l. falling l.end l.arms (map (lowers_arm s locals) arms) exits >>= (λ done. opening l.end))) (λ done. given false)) (defaults_same arms)
        ∙ switched_same (value_of s e flow) (begin_switch (map words_in arms) (map default_in arms)) (λ l. falling l.end l.arms (map (lowers_arm s locals) arms) exits)

    -- ---- rows

    row_by : (left : Bool) (r : Lowered (Unit {0})) (rest : Emit (Unit {0})) (later : Bool)
        → behind (behind r (λ done. unless left rest)) (λ done. given (left || later)) ≡ behind (behind r (λ done. given left)) (λ l. if l then given true else and_leaves rest later)
    row_by true (Gives done flow) rest later = refl
    row_by false (Gives done flow) rest later = refl
    row_by true Lacks rest later = refl
    row_by false Lacks rest later = refl

    pub row-opens : (one : Stmt) (ss : List Stmt) (exits : Exits) (flow : Flow) → row s locals (one ∷ ss) exits flow ≡ behind (puts s locals one exits flow) (λ left. if left then given true else row s locals ss exits)
    unfolding row puts in_turn
    row-opens one ss exits flow =
        row_by (lowers_stmt s locals one).leaves ((lowers_stmt s locals one).run exits flow) (in_turn (map (lowers_stmt s locals) ss) exits) (any_leaves (map (λ (x : LowerStmt). x.leaves) (map (lowers_stmt s locals) ss)))

    pub row-ends : (exits : Exits) (flow : Flow) → row s locals [] exits flow ≡ Gives false flow
    unfolding row in_turn
    row-ends exits flow = refl

    arm_behind : (arm : LowerArm) (label end next : ℕ) (rest : Emit (Unit {0})) (exits : Exits) (flow : Flow)
        → behind (opening label flow) (λ a. arm.run (in_switch end exits) >>= (λ b. seal arm.leaves next >>= (λ c. rest)))
        ≡ behind (opening label flow) (λ a. and_leaves (arm.run (in_switch end exits)) arm.leaves >>= (λ left. seal left next >>= (λ c. rest)))
    arm_behind arm label end next rest exits flow =
        same (opening label flow) _ _ (λ a at_arm. sym (assoc (arm.run (in_switch end exits) at_arm) (λ b. given arm.leaves) (λ left. seal left next >>= (λ c. rest))))

    pub falls-opens : (end label : ℕ) (labels : List ℕ) (arm : Arm) (arms : List Arm) (exits : Exits) (flow : Flow) → falls s locals end (label ∷ labels) (arm ∷ arms) exits flow
        ≡ behind (opening label flow) (λ a. row s locals (out-Arm arm).body (in_switch end exits) >>= (λ left. seal left (next_or end labels) >>= (λ c. falls s locals end labels arms exits)))
    unfolding falls falling row
    falls-opens end label labels arm arms exits flow =
        arm_behind (lowers_arm s locals arm) label end (next_or end labels) (falling end labels (map (lowers_arm s locals) arms) exits) exits flow
        ∙ ap (λ (x : LowerArm). behind (opening label flow) (λ a. and_leaves (x.run (in_switch end exits)) x.leaves >>= (λ left. seal left (next_or end labels) >>= (λ c. falling end labels (map (lowers_arm s locals) arms) exits)))) (arm_is arm)

    pub falls-ends : (end : ℕ) (labels : List ℕ) (exits : Exits) (flow : Flow) → falls s locals end labels [] exits flow ≡ Gives tt flow
    unfolding falls falling
    falls-ends end labels exits flow = refl

pub ruleset parts_step = (tests_first-last, tests_first-None, tests_first-Some, steps-None, steps-Some, tests_last-first, tests_last-None, tests_last-Some, returns-None, returns-Some, begins-None, begins-Some, declares-opens)

pub ruleset puts_step = (puts-Empty, puts-Eval, puts-Declare, puts-Group, puts-If, puts-Else, puts-Loop, loops-opens, puts-Break, puts-Continue, puts-Return, puts-Discard, puts-Switch)
