-- What is asked of the expressions in a program is so in its module.
use Rattle.std.proofs.Common.{◌≡◌, refl, sym, ap, ◌∙◌, subst, ℕ, suc, Bool, true, false, List, [], ◌∷◌, length, slice_get, Option, Some, if◌then◌else◌}
use Rattle.std.specs.Prelude.{nat_eq}
use Rattle.std.specs.List.{AllByRecursion}
use Rattle.std.proofs.lemmas.Bool.{eqb-true}
use Rattle.gsl_base.specs.Ranges.{FitsTypes}
use Rattle.gsl_base.specs.declared.input.Input.{Input}
use Rattle.gsl_types.specs.Known.{IsSound}
use Rattle.gsl_types.specs.declared.ty.Direction.{Direction}
use Rattle.gsl_types.specs.declared.ty.Direction.TheVariants.{In, Out, InOut}
use Rattle.gsl_types.specs.declared.ty.Ty.{Ty}
use Rattle.gsl_types.specs.declared.ty.Ty.TheViews.{out-Ty}
use Rattle.gsl_words.specs.declared.module.Module.{Module}
use Rattle.gsl_words.specs.declared.target.Target.{Target}
use Rattle.gsl_values.specs.declared.value.Value.{Value}
use Rattle.gsl_tree.specs.Around.{Around}
use Rattle.gsl_tree.specs.Expressions.{HasMemberType, HasType, IsExpr, IsNode, is_runtime_layer}
use Rattle.gsl_tree.specs.Paths.{in_block}
use Rattle.gsl_tree.specs.Statements.{IsBody, IsStep}
use Rattle.gsl_tree.specs.Trees.{Along, AlongAll, Exits, Placed, Throughout, ThroughoutAll, exprs_of, form_of, outside, parts_of, type_of, with_exits}
use Rattle.gsl_tree.specs.Weights.{params_of}
use Rattle.gsl_tree.specs.WellTyped.{IsFunction as IsTypedFunction, IsProgram, IsPrototype, around_body, program_lists}
use Rattle.gsl_tree.specs.declared.expr.Expr.{Expr}
use Rattle.gsl_tree.specs.declared.expr.ExprKind.{ExprKind}
use Rattle.gsl_tree.specs.declared.expr.ExprKind.TheOpen.{ExprKind-F}
use Rattle.gsl_tree.specs.declared.program.Program.{Program}
use Rattle.gsl_tree.specs.declared.stmt.Stmt.{Stmt, out-Stmt}
use Rattle.gsl_tree.specs.declared.unit.Function.{Function}
use Rattle.gsl_tree.specs.declared.unit.Prototype.{Prototype}
use Rattle.gsl_meaning.specs.Shader.{calls, function_of}
use Rattle.gsl_spv.specs.Finished.{module_of}
use Rattle.gsl_lower_holders.specs.Flow.{Flow}
use Rattle.gsl_lower_flow.specs.Programs.{program_needs}
use Rattle.gsl_lower_flow.specs.Reaching.{is_lowered}
use Rattle.gsl_lower_used.specs.Lowered.{AlongAllLowered, AlongLowered, ThroughoutAllLowered, ThroughoutLowered, lowered_inner, lowered_parts, up_to_jump}
use Rattle.gsl_lower_used.proofs.Within.{body_along, each, inner_along, parts_throughout}
use Rattle.gsl_lower_follows.specs.Frames.{Frame}
use Rattle.gsl_lower_follows.specs.Sizes.{IsShort}
use Rattle.gsl_lower_traits_law.specs.Quiet.{MayBeThere}
use Rattle.gsl_lower_law_entered.specs.Modules.{IsFrame}
use Rattle.gsl_lower_law_program.specs.OfLawEvaluated.{AsksLengthOf, IsTyped, KnowsBuffers, KnowsMember, meant_in}
use Rattle.gsl_lower_law_buffers.specs.OfLawInputs.{stages_given}
use Rattle.gsl_lower_law_linked.proofs.Linked.{all_at}
use Rattle.gsl_lower_law_needs.specs.Used.{AreAsked, IsAsked, IsAskedFor}
use Rattle.gsl_lower_law_needs.proofs.Programs.{all_asked as all_listed}
use Rattle.gsl_lower_law_program.specs.Shaders.{AllAsked, AreAskedElseOf, ArePassed, AsksElse, AsksElseFor, IsPassedBy, call_of, stage_of}
use Rattle.gsl_lower_law_program.specs.Standing.{HaveFunctions}
use Rattle.gsl_lower_law_program.proofs.Sounds.{AreKnown, IsKnown, body_known, sound_in}
use Rattle.gsl_lower_law_exact.proofs.Stages.{stage_known}
use Rattle.gsl_lower_law_exact.proofs.There.{all_there}

-- the function of a head has its place
found_at : (functions : List Function) (number : ℕ) (tree : Function) → function_of functions number ≡ Some tree → (k : ℕ) × (slice_get functions k ≡ Some tree) × (tree.prototype ≡ number)
found_at [] number tree is = absurd cc
found_at (f ∷ functions) number tree is = by (nat_eq f.prototype number) refl is (found_at functions number tree)
  where
    by : (b : Bool) → nat_eq f.prototype number ≡ b → (if b then Some f else function_of functions number) ≡ Some tree → (function_of functions number ≡ Some tree → (k : ℕ) × (slice_get functions k ≡ Some tree) × (tree.prototype ≡ number))
        → (k : ℕ) × (slice_get (f ∷ functions) k ≡ Some tree) × (tree.prototype ≡ number)
    by true e is later = let same : f ≡ tree = cc in (0, is, sym (ap (λ (g : Function). g.prototype) same) ∙ eqb-true f.prototype number e)
    by false e is later = let x = later is in (suc x.0, x.1, x.2)

module _ (target : Target) (p : Program) (main : ℕ) (flow : Flow) (program : IsProgram p) (h : HaveFunctions target p main flow) (input : Input) (fits : FitsTypes input) where
  abbrev m : Module
  m = module_of flow.sections main p.local_size

  abbrev given : List (Option Value)
  given = stages_given h.place.stage_vars p.local_size input

  -- What a function of the module knows of the blocks of the program; and few bytes are given, where lengths of runtime arrays are counted.
  pub record KnowsBlocks (f : Frame m input flow.sections) (params : List (Direction × Ty)) (locals : List Ty) : Type 0 where
    pub members : (block number : ℕ) (t : Ty) → HasMemberType (around_body (program_lists p) params locals) block number t → KnowsMember m input flow.sections f p (around_body (program_lists p) params locals) block number t
    pub buffers : (e : Expr) → Throughout (IsNode (around_body (program_lists p) params locals)) e → in_block e ≡ true → KnowsBuffers m input flow.sections f p
    pub few : Bool
    pub short : few ≡ true → IsShort input
    pub counts : (a : Expr) → Throughout (IsNode (around_body (program_lists p) params locals)) a → is_runtime_layer (out-Ty (type_of a)) ≡ true → few ≡ true

  module _ (depth : ℕ) (f : Frame m input flow.sections) (of_module : IsFrame m input flow.sections h.place given f) (params : List (Direction × Ty)) (locals : List Ty) (knows : KnowsBlocks f params locals) where
    abbrev around : Around
    around = around_body (program_lists p) params locals

    abbrev Sound : Expr → Type 0
    Sound e = IsSound (length p.structs) (type_of e)

    abbrev Wanted : Expr → Type 0
    Wanted = AsksElse m input flow.sections p h.place given depth f params locals

    abbrev Listed : Expr → Type 0
    Listed = IsAsked (program_needs p)

    abbrev Nodes : List Expr → Type 0
    Nodes = AllByRecursion (Throughout (IsNode around))

    abbrev Passed : List (Direction × Ty) → List Expr → Type 0
    Passed = ArePassed m input flow.sections f p params locals (call_of p) (stage_of p input) (calls p input depth)

    abbrev PassedBy : Direction → Expr → Type 0
    PassedBy = IsPassedBy m input flow.sections f p params locals (call_of p) (stage_of p input) (calls p input depth)

    -- ---- arguments

    passed : (ps : List (Direction × Ty)) (args : List Expr) → Nodes args → Passed ps args
    passed [] args nodes = tt
    passed (param ∷ ps) [] nodes = tt
    passed (param ∷ ps) (arg ∷ args) nodes = (by param.0, passed ps args nodes.1)
      where
        by : (way : Direction) → PassedBy way arg
        by In = tt
        by Out = knows.buffers arg nodes.0
        by InOut = knows.buffers arg nodes.0

    top : (e : Expr) → Throughout (IsNode around) e → IsNode around e
    top _ (Throughout.whole e node parts) = node

    length_asked : (a : Expr) (form : ExprKind-F ExprKind Expr) → form_of a ≡ form → IsNode around a → AsksLengthOf m input flow.sections f p params locals (call_of p) (stage_of p input) (calls p input depth) a form
    length_asked a (ExprKind-F.BlockMember block n) is node = λ runtime. knows.members block n (type_of a) (subst (λ (x : ExprKind-F ExprKind Expr). HasType around x (type_of a)) is node.type)
    length_asked a form is node = tt

    quiet : (e : Expr) → Throughout (IsNode around) e → Throughout Sound e → (few : Bool) × (few ≡ true → IsShort input) × Throughout (MayBeThere few around (meant_in p (stage_of p input) (calls p input depth))) e
    quiet e nodes sounds = (knows.few, knows.short, all_there p params locals knows.few knows.counts input fits depth e nodes sounds)

    one_asked : (e : Expr) (form : ExprKind-F ExprKind Expr) → HasType around form (type_of e) → Nodes (parts_of form) → AllByRecursion (Throughout Sound) (parts_of form) → IsAskedFor (program_needs p) form
        → AsksElseFor m input flow.sections p h.place given depth f params locals e form
    one_asked e (ExprKind-F.BlockMember block n) is nodes sounds listed = knows.members block n (type_of e) is
    one_asked e (ExprKind-F.Stage var) is nodes sounds listed = stage_known target p main flow h input f of_module var listed
    one_asked e (ExprKind-F.Length a) is nodes sounds listed = length_asked a (form_of a) refl (top a nodes.0)
    one_asked e (ExprKind-F.Logic op a b) is nodes sounds listed = λ short long. quiet b nodes.1.0 sounds.1.0
    one_asked e (ExprKind-F.Choose test a b) is nodes sounds listed = λ selected. (quiet a nodes.1.0 sounds.1.0, quiet b nodes.1.1.0 sounds.1.1.0)
    one_asked e (ExprKind-F.Assign a b) is nodes sounds listed = knows.buffers a nodes.0
    one_asked e (ExprKind-F.Update op a b) is nodes sounds listed = knows.buffers a nodes.0
    one_asked e (ExprKind-F.Step op a) is nodes sounds listed = knows.buffers a nodes.0
    one_asked e (ExprKind-F.Call number args) is nodes sounds listed =
        passed (params_of (slice_get p.prototypes number)) args nodes
    one_asked e form is nodes sounds listed = tt

    mutual
      asked : (e : Expr) → ThroughoutLowered p.prototypes Listed e → Throughout (IsNode around) e → Throughout Sound e → ThroughoutLowered p.prototypes Wanted e
      asked _ (ThroughoutLowered.whole e listed rest) (Throughout.whole _ node parts) (Throughout.whole _ sound sounds) =
          ThroughoutLowered.whole e
          (one_asked e (form_of e) node.type (each (IsNode around) (parts_of (form_of e)) parts) (each Sound (parts_of (form_of e)) sounds) listed)
          (all_asked (lowered_parts p.prototypes (form_of e)) rest (parts_throughout p.prototypes (IsNode around) (form_of e) parts) (parts_throughout p.prototypes Sound (form_of e) sounds))

      all_asked : (es : List Expr) → ThroughoutAllLowered p.prototypes Listed es → ThroughoutAll (IsNode around) es → ThroughoutAll Sound es → ThroughoutAllLowered p.prototypes Wanted es
      all_asked _ ThroughoutAllLowered.none nodes sounds = ThroughoutAllLowered.none
      all_asked _ (ThroughoutAllLowered.more e es listed rest) (ThroughoutAll.more _ _ node nodes) (ThroughoutAll.more _ _ sound sounds) =
          ThroughoutAllLowered.more e es (asked e listed node sound) (all_asked es rest nodes sounds)

    exprs_asked : (es : List Expr) → AllByRecursion (ThroughoutLowered p.prototypes Listed) es → AllByRecursion (IsExpr around) es → AllByRecursion (Throughout (IsKnown p)) es
        → AllByRecursion (ThroughoutLowered p.prototypes Wanted) es
    exprs_asked [] listed are known = tt
    exprs_asked (e ∷ es) listed are known = (asked e listed.0 are.0 (sound_in p e known.0), exprs_asked es listed.1 are.1 known.1)

    -- ---- statements

    abbrev AllListed : Exits → Stmt → Type 0
    AllListed = AreAsked p.prototypes (program_needs p)

    abbrev Wants : Exits → Stmt → Type 0
    Wants = AreAskedElseOf m input flow.sections p h.place given depth f params locals

    module _ (result : Ty) where
      mutual
        along : (exits : Exits) (s : Stmt) → AlongLowered AllListed exits s → Along (IsStep around result) exits s → Along (AreKnown p) exits s → AlongLowered Wants exits s
        along _ _ (AlongLowered.whole exits s listed rest) (Along.whole _ _ step inner) (Along.whole _ _ known within) =
            AlongLowered.whole exits s (exprs_asked (exprs_of (out-Stmt s)) listed step.typed known)
            (all_along (lowered_inner exits (out-Stmt s)) rest (inner_along (IsStep around result) exits (out-Stmt s) inner) (inner_along (AreKnown p) exits (out-Stmt s) within))

        all_along : (placed : List Placed) → AlongAllLowered AllListed placed → AlongAll (IsStep around result) placed → AlongAll (AreKnown p) placed → AlongAllLowered Wants placed
        all_along _ AlongAllLowered.none steps known = AlongAllLowered.none
        all_along _ (AlongAllLowered.more one rest listed more) (AlongAll.more _ _ step steps) (AlongAll.more _ _ known later) =
            AlongAllLowered.more one rest (along one.0 one.1 listed step known) (all_along rest more steps later)

      body_asked : (body : List Stmt) → AlongAllLowered AllListed (with_exits outside (up_to_jump body)) → IsBody around result body → AlongAll (AreKnown p) (with_exits outside body)
          → AlongAllLowered Wants (with_exits outside (up_to_jump body))
      body_asked body listed is known =
          all_along (with_exits outside (up_to_jump body)) listed (body_along (IsStep around result) outside body is) (body_along (AreKnown p) outside body known)

  some : {A : Type 0} (a b : A) → Some a ≡ Some b → a ≡ b
  some a b e = cc

  pub blocks_asked : ((f : Frame m input flow.sections) → IsFrame m input flow.sections h.place given f → (params : List (Direction × Ty)) (locals : List Ty) → IsTyped p params locals → KnowsBlocks f params locals) → AllAsked m input flow.sections p h.place given (is_lowered p)
  blocks_asked knows number head tree found lowered named depth f of_module =
      let at = found_at p.functions number tree found in
      let t = all_at (IsTypedFunction (program_lists p)) p.functions at.0 tree program.typed.functions at.1 in
      let q = all_at (IsPrototype p.structs) p.prototypes number head program.typed.prototypes named in
      let same : t.prototype ≡ head = some t.prototype head (sym t.declared ∙ ap (slice_get p.prototypes) at.2 ∙ named) in
      let body = subst (λ (x : Prototype). IsBody (around_body (program_lists p) x.params tree.locals) x.result tree.body) same t.body in
      body_asked depth f of_module head.params tree.locals (knows f of_module head.params tree.locals (record { program = program.typed; of_params = q.params; of_locals = t.locals })) head.result tree.body
      (all_listed p at.0 tree at.1 lowered) body (body_known p program head.params tree.locals q.params t.locals head.result tree.body body)
