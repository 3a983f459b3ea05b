-- Functions as they are lowered declare no variable outside functions.
use Rattle.std.proofs.Common.{◌≡◌, refl, sym, ap, ◌∙◌, subst, ℕ, ◌+◌, Bool, true, false, List, [], ◌∷◌, ◌++◌, slice_get, Option, Some, None, if◌then◌else◌, append_assoc, append-nil}
use Rattle.std.specs.Prelude.{nat_le}
use Rattle.std.specs.List.{AllByRecursion, cons_option}
use Rattle.std.proofs.lemmas.Bool.{cond-false}
use Rattle.gsl_instr.specs.Forms.{form_of}
use Rattle.gsl_instr.specs.declared.enumerant.storage_class.TheConstants as storage_class
use Rattle.gsl_instr.specs.declared.op.TheConstants as op
use Rattle.gsl_types.specs.declared.ty.Direction.{Direction}
use Rattle.gsl_types.specs.declared.ty.Ty.{Ty}
use Rattle.gsl_types.specs.declared.ty.Ty.TheOpen.{Ty-F}
use Rattle.gsl_types.specs.declared.ty.Ty.TheViews.{out-Ty}
use Rattle.gsl_words.specs.declared.target.Target.{Target}
use Rattle.gsl_tree.specs.declared.program.Program.{Program}
use Rattle.gsl_tree.specs.declared.unit.Function.{Function}
use Rattle.gsl_tree.specs.declared.unit.Prototype.{Prototype}
use Rattle.gsl_valid.specs.Placed.{Code}
use Rattle.gsl_spv.specs.Calls as call
use Rattle.gsl_spv.specs.Declarations.{instr}
use Rattle.gsl_spv.specs.Sections.{Sections, empty}
use Rattle.gsl_spv.specs.declared.plain.PlainConst.TheVariants as of
use Rattle.gsl_spv.specs.declared.plain.PlainType.TheVariants as plain
use Rattle.gsl_spv.specs.declared.refusal.TheConstants.{MOST_IDS}
use Rattle.gsl_lower_values.specs.Building as steps
use Rattle.gsl_lower_values.specs.Building.{Made, Full, giving}
use Rattle.gsl_lower_holders.specs.Flow.{Emit, Flow, Gives, Lacks, Lowered, behind, built_in, each, flow_of, giving_here, putting_here, ◌>>=◌}
use Rattle.gsl_lower_holders.specs.declared.place.FlowPlace.{FlowPlace}
use Rattle.gsl_lower_expr.specs.Calls.{zeros}
use Rattle.gsl_lower_needs.specs.declared.need.Need.{Need}
use Rattle.gsl_lower_flow.specs.Functions as flow
use Rattle.gsl_lower_flow.specs.Functions.{begun, function_put, headed, holder_types, holders, needs_of, parameter, parameter_type, placed, under, variable}
use Rattle.gsl_lower_flow.specs.Programs.{from_there, functions_put, lowered, program_setting, put_by, put_if}
use Rattle.gsl_lower_flow.specs.Reaching.{is_lowered, main_head}
use Rattle.gsl_lower_law_inner.specs.Inner.{AllPut, GrowsInner, IsInner, PutsTo}
use Rattle.gsl_lower_law_inner.proofs.Calls.{calls_inner, puts_result, puts_zeros}
use Rattle.gsl_lower_law_inner.proofs.Flows.{puts_fresh, puts_given, puts_here, puts_lacking, puts_lift, puts_opening, puts_then, puts_told, puts_type}
use Rattle.gsl_lower_law_inner.proofs.Statements.{row_inner}
use Rattle.gsl_lower_law_inner.proofs.Steps.{builds_constant, builds_function, builds_plain}
use Rattle.gsl_lower_law_inputs.specs.OfLawOutside.{HaveOutside}
use Rattle.gsl_lower_law_outputs.specs.Outputs.{BeginsNone, DeclaresNoOutput, DeclaresNone, Grows, chosen_among, chosen_if, chosen_in, is_output}
use Rattle.gsl_lower_law_outputs.proofs.Outputs.{filter_both, grows_same, grows_then}
use Rattle.gsl_lower_law_outputs.proofs.Quiet.{begins_none, declares_none}

-- ---- code that declares none

inner_begins : (code : Code) → AllByRecursion IsInner code → AllByRecursion BeginsNone code
inner_begins [] all = tt
inner_begins (i ∷ code) all = (begins_none i all.0, inner_begins code all.1)

-- Of classes that pass a test, where variables of functions do not, functions declare none.
module _ (test : ℕ → Bool) (inside : test storage_class.FUNCTION ≡ false) where
  inner_none : (code : Code) → AllByRecursion IsInner code → (chosen_among test) code ≡ []
  inner_none [] all = refl
  inner_none (i ∷ code) all = ap (λ o. cons_option (chosen_if test o) ((chosen_among test) code)) (declares_none i all.0) ∙ inner_none code all.1

  inner_grows : {a b : Code} → GrowsInner a b → Grows test a b []
  inner_grows g = record { put = g.put; is = g.is; quiet = inner_begins g.put g.inner; those = inner_none g.put g.inner }

  declares_then : {a b c : Sections} → DeclaresNone test a b → DeclaresNone test b c → DeclaresNone test a c
  declares_then {a} {b} {c} p q = record {
    imports = grows_then test p.imports q.imports;
    names = grows_then test p.names q.names;
    decorations = grows_then test p.decorations q.decorations;
    globals = grows_then test p.globals q.globals;
    put = p.put ++ q.put;
    is = q.is ∙ ap (λ l. l ++ q.put) p.is ∙ append_assoc a.functions p.put q.put;
    those = filter_both (chosen_in test) p.put q.put ∙ ap (λ l. l ++ (chosen_among test) q.put) p.those ∙ q.those;
  }

  declares_same : (s : Sections) → DeclaresNone test s s
  declares_same s = record { imports = grows_same test s.imports; names = grows_same test s.names; decorations = grows_same test s.decorations; globals = grows_same test s.globals; put = []; is = sym (append-nil s.functions); those = refl }

  -- ---- parts of lowering

  abbrev QuietTo : {A : Type 0} → Flow → Lowered A → Type 0
  QuietTo b (Gives a later) = DeclaresNone test b.sections later.sections
  QuietTo b Lacks = Unit {0}

  -- What is lowered declares no output, wherever it stands.
  record AllQuiet {A : Type 0} (emit : Emit A) : Type 0 where
    all : (b : Flow) → QuietTo b (emit b)

  quiet_inner : {A : Type 0} {emit : Emit A} → AllPut emit → AllQuiet emit
  quiet_inner {A} {emit} p = record { all = λ b. by b (emit b) (p.all b) }
    where
      by : (b : Flow) (r : Lowered A) → PutsTo b r → QuietTo b r
      by b Lacks g = tt
      by b (Gives a later) g = record {
        imports = inner_grows g.outside.imports;
        names = inner_grows g.outside.names;
        decorations = inner_grows g.outside.decorations;
        globals = inner_grows g.outside.globals;
        put = g.put;
        is = g.is;
        those = inner_none g.put g.inner;
      }

  quiet_behind : {A B : Type 0} (b : Flow) (first : Lowered A) (next : A → Emit B) → QuietTo b first → ((a : A) → AllQuiet (next a)) → QuietTo b (behind first next)
  quiet_behind b Lacks next p q = tt
  quiet_behind {A} {B} b (Gives a between) next p q = by (next a between) ((q a).all between)
    where
      by : (second : Lowered B) → QuietTo between second → QuietTo b second
      by Lacks g = tt
      by (Gives c later) g = declares_then p g

  quiet_then : {A B : Type 0} {first : Emit A} {next : A → Emit B} → AllQuiet first → ((a : A) → AllQuiet (next a)) → AllQuiet (first >>= next)
  quiet_then {A} {B} {first} {next} p q = record { all = λ b. quiet_behind b (first b) next (p.all b) q }

  quiet_each : {A B : Type 0} (emit : A → Emit B) (items : List A) → ((a : A) → AllQuiet (emit a)) → AllQuiet (each emit items)
  unfolding each
  quiet_each emit [] p = quiet_inner puts_given
  quiet_each emit (a ∷ items) p = quiet_then (p a) (λ b. quiet_then (quiet_each emit items p) (λ more. quiet_inner puts_given))

  -- an instruction of a function
  quiet_put : (code : ℕ) (operands : List ℕ) → (chosen_in test) (instr code operands) ≡ None → AllQuiet (putting_here code operands)
  quiet_put code operands none = record {
    all = λ b. record {
      imports = grows_same test b.sections.imports;
      names = grows_same test b.sections.names;
      decorations = grows_same test b.sections.decorations;
      globals = grows_same test b.sections.globals;
      put = instr code operands ∷ [];
      is = refl;
      those = ap (λ o. cons_option o []) none;
    };
  }

  quiet_giving : (code : ℕ) (operands : List ℕ) (type : ℕ) → ((id : ℕ) → (chosen_in test) (instr code (type ∷ id ∷ operands)) ≡ None) → AllQuiet (giving_here code operands type)
  unfolding giving
  quiet_giving code operands type none = record { all = λ b. by b (nat_le (b.sections.last + 1) MOST_IDS) }
    where
      by : (b : Flow) (few : Bool) → QuietTo b (built_in b.place (steps.behind (if few then Made (b.sections.last + 1) (call.take b.sections).sections else Full) (λ id s. Made id (call.put code (type ∷ id ∷ operands) s))))
      by b false = tt
      by b true = record {
        imports = grows_same test b.sections.imports;
        names = grows_same test b.sections.names;
        decorations = grows_same test b.sections.decorations;
        globals = grows_same test b.sections.globals;
        put = instr code (type ∷ (b.sections.last + 1) ∷ operands) ∷ [];
        is = refl;
        those = ap (λ o. cons_option o []) (none (b.sections.last + 1));
      }

  -- ---- a function

  variable_quiet : (t : Ty) → AllQuiet (variable t)
  unfolding variable form_of
  variable_quiet t =
      quiet_then (quiet_inner (puts_type t)) (λ type. quiet_then (quiet_inner (puts_lift (builds_plain (plain.Pointer storage_class.FUNCTION type)))) (λ pointer. quiet_then (quiet_inner (puts_lift (builds_constant (of.Null type)))) (λ zero.
      quiet_giving op.VARIABLE (storage_class.FUNCTION ∷ zero ∷ []) pointer (λ id. cond-false (test storage_class.FUNCTION) (Some (record { type = pointer; id = id; class = storage_class.FUNCTION; initialiser = zero ∷ [] })) None inside))))

  parameter_type_quiet : (param : Direction × Ty) → AllQuiet (parameter_type param)
  unfolding parameter_type
  parameter_type_quiet param = quiet_then (quiet_inner (puts_type param.1)) (λ type. quiet_inner (puts_lift (builds_plain (plain.Pointer storage_class.FUNCTION type))))

  parameter_quiet : (pointer : ℕ) → AllQuiet (parameter pointer)
  unfolding parameter form_of
  parameter_quiet pointer = quiet_giving op.FUNCTION_PARAMETER [] pointer (λ id. refl)

  begins_quiet : (result id type : ℕ) → AllQuiet (putting_here op.FUNCTION (result ∷ id ∷ 0 ∷ type ∷ []))
  unfolding form_of
  begins_quiet result id type = quiet_put op.FUNCTION (result ∷ id ∷ 0 ∷ type ∷ []) refl

  ends_quiet : AllQuiet (putting_here op.FUNCTION_END [])
  unfolding form_of
  ends_quiet = quiet_put op.FUNCTION_END [] refl

  headed_quiet : (id : ℕ) (prototype : Prototype) → AllQuiet (headed id prototype)
  unfolding headed
  headed_quiet id prototype =
      quiet_then (quiet_inner (puts_result prototype.result)) (λ result. quiet_then (quiet_each parameter_type prototype.params parameter_type_quiet) (λ pointers. quiet_then (quiet_inner (puts_lift (builds_function result pointers))) (λ type.
      quiet_then (begins_quiet result id type) (λ a. quiet_then (quiet_each parameter pointers parameter_quiet) (λ params. quiet_then (quiet_inner puts_fresh) (λ label. quiet_then (quiet_inner (puts_opening label)) (λ b. quiet_inner (puts_given {a = params}))))))))

  placed_quiet : (params locals holders : List ℕ) → AllQuiet (placed params locals holders)
  unfolding placed
  placed_quiet params locals holders = record { all = λ b. declares_same b.sections }

  begun_quiet : (id : ℕ) (prototype : Prototype) (f : Function) (asked : List Need) → AllQuiet (begun id prototype f asked)
  unfolding begun holders
  begun_quiet id prototype f asked =
      quiet_then (headed_quiet id prototype) (λ params. quiet_then (quiet_each variable f.locals variable_quiet) (λ locals. quiet_then (quiet_each variable (holder_types asked) variable_quiet) (λ holders. placed_quiet params locals holders)))

  -- its end puts a return, or nothing
  ending_puts : (left : Bool) (t : Ty) → AllPut (flow.ending left t)
  unfolding flow.ending
  ending_puts true t = puts_given
  ending_puts false t = by (out-Ty t)
    where
      valued : AllPut (zeros t >>= (λ zero. putting_here op.RETURN_VALUE (zero ∷ [])))
      valued = puts_then (puts_zeros t) (λ zero. puts_here op.RETURN_VALUE (zero ∷ []) refl)

      by : (layer : Ty-F Ty) → AllPut (flow.zeros_returned t layer)
      by Ty-F.Void = puts_here op.RETURN [] refl
      by (Ty-F.One s) = valued
      by (Ty-F.Vector s n) = valued
      by (Ty-F.Array element n) = valued
      by (Ty-F.Runtime element) = valued
      by (Ty-F.Struct number) = valued

  module _ (p : Program) where
    under_quiet : (f : Function) (head : Prototype) (asked : List Need) (id : ℕ) → AllQuiet (under (program_setting p) head f asked id)
    under_quiet f head asked id =
        quiet_then (begun_quiet id head f asked) (λ done. quiet_then (quiet_inner (row_inner (program_setting p) (calls_inner p.structs p.interfaces p.prototypes) f.locals f.body flow.no_exits)) (λ left.
        quiet_then (quiet_inner (ending_puts left head.result)) (λ ended. ends_quiet)))

    function_quiet : (f : Function) → AllQuiet (function_put (program_setting p) p.prototypes f)
    unfolding function_put
    function_quiet f = record { all = λ b. (by (slice_get p.prototypes f.prototype)).all b }
      where
        by : (o : Option Prototype) → AllQuiet (flow.with_head (program_setting p) f (needs_of p.prototypes f) o)
        by None = quiet_inner puts_lacking
        by (Some head) = quiet_then (quiet_inner (puts_told (λ (place : FlowPlace). place.functions) f.prototype)) (under_quiet f head (needs_of p.prototypes f))

    if_quiet : (b : Bool) (f : Function) → AllQuiet (put_if b (program_setting p) p.prototypes f)
    if_quiet false f = quiet_inner puts_given
    if_quiet true f = function_quiet f

    functions_quiet : (is : Function → Bool) (functions : List Function) → AllQuiet (functions_put is (program_setting p) p.prototypes functions)
    unfolding functions_put
    functions_quiet is [] = quiet_inner puts_given
    functions_quiet is (f ∷ functions) = quiet_then (if_quiet (is f) f) (λ done. functions_quiet is functions)

    program_quiet : AllQuiet (put_by (is_lowered p) p)
    program_quiet = quiet_then (functions_quiet (is_lowered p) p.functions) (λ done. quiet_inner (puts_told (λ (place : FlowPlace). place.functions) (main_head p)))

  -- From where all stands outside functions to the end nothing declares one.
  pub none_behind : (target : Target) (p : Program) (main : ℕ) (flow : Flow) → lowered target p (empty p.stage target) ≡ Gives main flow → (h : HaveOutside target p main flow) → DeclaresNone test h.first flow.sections
  unfolding lowered
  none_behind target p main last is h =
      let rest : put_by (is_lowered p) p (flow_of h.first h.place) ≡ Gives main last = ap (λ r. behind (from_there r) (λ done. put_by (is_lowered p) p)) (sym h.outside) ∙ is in
      subst (QuietTo (flow_of h.first h.place)) rest ((program_quiet p).all (flow_of h.first h.place))

-- nothing declares an output there
pub declares_none_behind : (target : Target) (p : Program) (main : ℕ) (flow : Flow) → lowered target p (empty p.stage target) ≡ Gives main flow → (h : HaveOutside target p main flow) → DeclaresNoOutput h.first flow.sections
declares_none_behind = none_behind is_output refl
