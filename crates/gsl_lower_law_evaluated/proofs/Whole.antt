-- Whole expressions, kind by kind, and the expressions in them.
use Rattle.std.proofs.Common.{◌≡◌, refl, sym, ap, ◌∙◌, subst, ℕ, Bool, true, false, ◌||◌, slice_get, List, [], ◌∷◌, length, map, Some}
use Rattle.std.specs.List.{AllByRecursion}
use Rattle.gsl_base.specs.declared.input.Input.{Input}
use Rattle.gsl_types.specs.Known.{AreStructs, IsSound}
use Rattle.gsl_types.specs.declared.ty.Direction.{Direction}
use Rattle.gsl_types.specs.declared.ty.Ty.{Ty}
use Rattle.gsl_types.specs.declared.ty.Ty.TheViews.{out-Ty}
use Rattle.gsl_words.specs.declared.module.Module.{Module}
use Rattle.gsl_values.specs.Vectors.{components as picked}
use Rattle.gsl_values.specs.declared.value.Value.{Value}
use Rattle.gsl_tree.specs.Around.{Around}
use Rattle.gsl_tree.specs.Expressions.{HasType, IsExpr, IsNode, MayBeRead, is_runtime_layer}
use Rattle.gsl_tree.specs.Paths.{in_block, in_block_by, is_writable, kind_in, read_parts, writable_by}
use Rattle.gsl_tree.specs.Trees.{Throughout, ThroughoutAll, form_of, parts_of, type_of}
use Rattle.gsl_tree.specs.Values.{word_in}
use Rattle.gsl_tree.specs.WellTyped.{around_body, program_lists}
use Rattle.gsl_tree.specs.declared.expr.Expr.{Expr}
use Rattle.gsl_tree.specs.declared.expr.ExprKind.{ExprKind}
use Rattle.gsl_tree.specs.declared.expr.ExprKind.TheFolds.{fold-Expr, fold-ExprKind, fold-roll-Expr, fold-roll-ExprKind, map-ExprKind}
use Rattle.gsl_tree.specs.declared.expr.ExprKind.TheOpen.{ExprKind-F}
use Rattle.gsl_tree.specs.declared.expr.ExprKind.TheViews.{out-Expr, roll-out-Expr, roll-out-ExprKind}
use Rattle.gsl_tree.specs.declared.expr.StageVar.{StageVar}
use Rattle.gsl_tree.specs.declared.program.Program.{Program}
use Rattle.gsl_meaning.specs.Accesses as access
use Rattle.gsl_meaning.specs.Expressions as meaning
use Rattle.gsl_meaning.specs.Expressions.{Calls, Meant, means}
use Rattle.gsl_meaning.specs.Running as shader_run
use Rattle.gsl_spv.specs.Sections.{Sections}
use Rattle.gsl_instr.specs.declared.enumerant.storage_class.TheConstants as storage_class
use Rattle.gsl_lower_holders.specs.Flow.{Emit, lift}
use Rattle.gsl_lower_traits.specs.Traits as traits
use Rattle.gsl_lower_traits.specs.Traits.{is_short}
use Rattle.gsl_lower_traits.specs.declared.traits.Traits.{Traits}
use Rattle.gsl_lower_traits_law.specs.Telling.{Tells}
use Rattle.gsl_lower_traits_law.proofs.Told.{by_form, means_form, part_is}
use Rattle.gsl_lower_expr.specs.Lowering as lowering
use Rattle.gsl_lower_expr.specs.Lowering.{lowered_by, lowers}
use Rattle.gsl_lower_expr.specs.Parts.{Lower, any_splits, chosen, constant_by, counted, indexed, interface_class, known_of, logical, member, named, shape_or, stage_value, swizzled_by, in_block as in_block_code}
use Rattle.gsl_lower_follows.specs.Frames.{Frame}
use Rattle.gsl_lower_follows.specs.Giving.{GivesValue}
use Rattle.gsl_lower_law_expr.specs.Known.{choice_means, logic_means}
use Rattle.gsl_lower_assigns.specs.OfElements.{indexed_means}
use Rattle.gsl_lower_assigns.proofs.OfElements.{length_gives}
use Rattle.gsl_lower_reaching.specs.Reaching.Start.{OfBlock, OfVariable}
use Rattle.gsl_lower_reaching.proofs.Places.{global_place, interface_place, local_place, param_place}
use Rattle.gsl_lower_used.specs.Lowered.{ThroughoutAllLowered, ThroughoutLowered, lowered_parts}
use Rattle.gsl_lower_used.proofs.Within.{call_passed, parts_throughout, tops}
use Rattle.gsl_lower_law_evaluated.specs.Evaluating.{AllEvaluated, AreReadWhole, Asks, Evaluates, HasValue, IsEvaluated, IsReadWhole, IsTyped, NoVectors, lowered_in, meant_in}
use Rattle.gsl_lower_law_evaluated.proofs.Evaluated.{place_evaluates, value_evaluates}
use Rattle.gsl_lower_law_evaluated.proofs.Forms as forms
use Rattle.gsl_lower_law_evaluated.proofs.Lengths as lengths
use Rattle.gsl_lower_law_evaluated.proofs.Facts.{is_false}
use Rattle.gsl_lower_law_evaluated.proofs.Lists.{or_false}
use Rattle.gsl_lower_law_evaluated.proofs.Building.{parts_real}
use Rattle.gsl_lower_law_evaluated.proofs.Quiet as quiet
use Rattle.gsl_lower_law_evaluated.proofs.Stages.{stage_gives}

module _ (m : Module) (input : Input) (whole : Sections) (f : Frame m input whole) (p : Program) (params : List (Direction × Ty)) (locals : List Ty) (call : ℕ → List Lower → Ty → Emit ℕ) (stage : StageVar → Value) (calls : Calls) (types : IsTyped p params locals) (vectors : NoVectors m input whole f) where
  abbrev around : Around
  around = around_body (program_lists p) params locals

  abbrev lower : lowering.Setting
  lower = lowered_in p call

  abbrev setting : meaning.Setting
  setting = meant_in p stage calls

  abbrev are : AreStructs p.structs
  are = types.program.structs

  abbrev count : ℕ
  count = length p.structs

  abbrev kinds_low : ExprKind → Ty → Lower
  kinds_low = fold-ExprKind (Ty → Lower) Lower (lowered_by lower) lowering.typed_by

  abbrev low : Expr → Lower
  low = fold-Expr (Ty → Lower) Lower (lowered_by lower) lowering.typed_by

  abbrev part : Expr → Meant
  part = fold-Expr (Ty → Meant) Meant (meaning.means_by setting) meaning.typed_by

  abbrev low_form : ExprKind-F ExprKind Expr → Ty → Lower
  low_form = forms.low_form m input whole f p params locals call stage calls types vectors

  abbrev may_write : ExprKind-F ExprKind Expr → Bool
  may_write = forms.may_write m input whole f p params locals call stage calls types vectors

  abbrev is_blocked : ExprKind-F ExprKind Expr → Bool
  is_blocked = forms.is_blocked m input whole f p params locals call stage calls types vectors

  abbrev Is : Expr → Type 0
  Is = forms.Is m input whole f p params locals call stage calls types vectors

  abbrev AllAre : List Expr → Type 0
  AllAre = forms.AllAre m input whole f p params locals call stage calls types vectors

  -- ---- an expression by its form

  low_is : (e : Expr) → low e ≡ low_form (form_of e) (type_of e)
  low_is = quiet.low_is m input whole f p params locals call stage calls types vectors

  write_is : (e : Expr) → is_writable around e ≡ may_write (form_of e)
  write_is e =
      ap (is_writable around) (sym (roll-out-Expr e)) ∙ fold-roll-Expr Bool Bool (writable_by around) kind_in (out-Expr e)
      ∙ ap (fold-ExprKind Bool Bool (writable_by around) kind_in) (sym (roll-out-ExprKind (out-Expr e).kind)) ∙ fold-roll-ExprKind Bool Bool (writable_by around) kind_in (form_of e)

  blocked_is : (e : Expr) → in_block e ≡ is_blocked (form_of e)
  blocked_is e =
      ap in_block (sym (roll-out-Expr e)) ∙ fold-roll-Expr Bool Bool in_block_by kind_in (out-Expr e)
      ∙ ap (fold-ExprKind Bool Bool in_block_by kind_in) (sym (roll-out-ExprKind (out-Expr e).kind)) ∙ fold-roll-ExprKind Bool Bool in_block_by kind_in (form_of e)

  literal_form : (i : Expr) (number : ℕ) → (low i).traits.literal ≡ Some number → (v : Value) × (form_of i ≡ ExprKind-F.Const v) × (word_in v ≡ number)
  literal_form = quiet.literal_form m input whole f p params locals call stage calls types vectors

  abbrev Sound : Expr → Type 0
  Sound e = IsSound count (type_of e)

  -- ---- every form

  abbrev Here : ExprKind-F ExprKind Expr → Ty → Type 0
  Here form t = Evaluates m input whole f p around (may_write form) (is_blocked form) t (low_form form t) (means_form setting form t)

  -- an expression by its form, as it is lowered and as it is meant
  record Whole (e : Expr) (form : ExprKind-F ExprKind Expr) : Type 0 where
    lowered : low e ≡ low_form form (type_of e)
    meant : part e ≡ means_form setting form (type_of e)

  value_here : (e : Expr) (form : ExprKind-F ExprKind Expr) → Whole e form → HasValue m input whole f p params locals call stage calls e
      → GivesValue m input whole f p around (low_form form (type_of e)).traits.splits (type_of e) (low_form form (type_of e)).value (means_form setting form (type_of e)).value
  unfolding lowers means
  value_here e form w has =
      subst (λ (l : Lower). GivesValue m input whole f p around l.traits.splits (type_of e) l.value (means_form setting form (type_of e)).value) w.lowered
      (subst (λ (x : Meant). GivesValue m input whole f p around (low e).traits.splits (type_of e) (low e).value x.value) w.meant has)

  abbrev IsWhole : Expr → Type 0
  IsWhole = forms.IsWhole m input whole f p params locals call stage calls types vectors

  abbrev AllWhole : List Expr → Type 0
  AllWhole = forms.AllWhole m input whole f p params locals call stage calls types vectors

  -- structs and arrays of blocks that are read
  whole_of : (e : Expr) → is_runtime_layer (out-Ty (type_of e)) ≡ false → IsReadWhole m input whole f p params locals call stage calls e → IsWhole e
  unfolding lowers means
  whole_of e read asks in_one none = asks in_one none read

  wholes_of : (es : List Expr) → AllByRecursion (MayBeRead around) es → AreReadWhole m input whole f p params locals call stage calls es → AllWhole es
  wholes_of [] reads asks = tt
  wholes_of (e ∷ es) reads asks = (whole_of e (is_false (is_runtime_layer (out-Ty (type_of e))) reads.0.1) asks.0, wholes_of es reads.1 asks.1)

  not_here : {A : Type 0} → OfVariable ≡ OfBlock → A
  not_here e = absurd (let z : OfVariable ≡ OfBlock = e in cc)

  same_all : (es : List Expr) → AllAre es → AllEvaluated m input whole f p params locals call stage calls es
  unfolding lowers means
  same_all [] all = tt
  same_all (e ∷ es) all = (all.0, same_all es all.1)

  tell : (form : ExprKind-F ExprKind Expr) (t : Ty) → AllAre (parts_of form) → Tells (traits.traits_by (map-ExprKind ExprKind Expr (Ty → Traits) traits.Known (λ k u. (kinds_low k u).traits) (λ x. known_of (low x)) form) t) (means_form setting form t)
  tell form t all = by_form setting (λ k u. (kinds_low k u).traits) (λ x. known_of (low x)) form t (forms.all_told m input whole f p params locals call stage calls types vectors (parts_of form) all)

  row_told : (es : List Expr) (of : Traits → Traits) (x : Meant) → Tells (of (traits.together (map (λ e. known_of (low e)) es))) x → Tells (of (traits.together (map known_of (map low es)))) x
  row_told = forms.row_told m input whole f p params locals call stage calls types vectors

  by_kind : (e : Expr) (form : ExprKind-F ExprKind Expr) → Whole e form → IsSound count (type_of e) → AllByRecursion Sound (parts_of form) → AllAre (lowered_parts p.prototypes form) → HasType around form (type_of e) → AllByRecursion (MayBeRead around) (read_parts around form)
      → quiet.AsksHere m input whole f p params locals call stage calls types vectors e form → Here form (type_of e)
  unfolding lowers means
  by_kind e (ExprKind-F.Const v) w sound sounds all is reads asks =
      value_evaluates m input whole f p around (type_of e) _ (lift (constant_by (shape_or (type_of e)) v)) (shader_run.given v) sound refl (forms.const_gives m input whole f p params locals call stage calls types vectors v (type_of e) sound is) (tell (ExprKind-F.Const v) (type_of e) all)
  by_kind e (ExprKind-F.Local n) w sound sounds all is reads asks =
      place_evaluates m input whole f p around true false OfVariable (type_of e) (traits.in_variable (type_of e)) (named (λ place. place.locals) storage_class.FUNCTION n) (shader_run.given (access.whole (access.Local n))) are sound refl not_here
      (λ writes may. local_place m input whole f p around n writes (type_of e) (forms.named_local m input whole f p params locals call stage calls types vectors n (type_of e) is)) (tell (ExprKind-F.Local n) (type_of e) all)
  by_kind e (ExprKind-F.Global n) w sound sounds all is reads asks =
      place_evaluates m input whole f p around (may_write (ExprKind-F.Global n)) false OfVariable (type_of e) (traits.in_variable (type_of e)) (named (λ place. place.globals) storage_class.PRIVATE n) (shader_run.given (access.whole (access.Global n))) are sound refl not_here
      (λ writes may. global_place m input whole f p around n writes (type_of e) (forms.named_global m input whole f p params locals call stage calls types vectors n (type_of e) is)) (tell (ExprKind-F.Global n) (type_of e) all)
  by_kind e (ExprKind-F.Param n) w sound sounds all is reads asks =
      place_evaluates m input whole f p around true false OfVariable (type_of e) (traits.in_variable (type_of e)) (named (λ place. place.params) storage_class.FUNCTION n) (shader_run.given (access.whole (access.Param n))) are sound refl not_here
      (λ writes may. param_place m input whole f p around n writes (type_of e) (forms.named_param m input whole f p params locals call stage calls types vectors n (type_of e) is)) (tell (ExprKind-F.Param n) (type_of e) all)
  by_kind e (ExprKind-F.Interface n) w sound sounds all is reads asks =
      place_evaluates m input whole f p around (may_write (ExprKind-F.Interface n)) false OfVariable (type_of e) (traits.in_variable (type_of e)) (named (λ place. place.interfaces) (interface_class (slice_get p.interfaces n)) n) (shader_run.given (access.whole (access.Interface n))) are sound refl not_here
      (λ writes may. interface_place m input whole f p around n (slice_get p.interfaces n) writes (type_of e) (forms.named_interface m input whole f p params locals call stage calls types vectors n (type_of e) is)) (tell (ExprKind-F.Interface n) (type_of e) all)
  by_kind e (ExprKind-F.BlockMember block n) w sound sounds all is reads asks =
      let told = tell (ExprKind-F.BlockMember block n) (type_of e) all in
      let here = place_evaluates m input whole f p around (may_write (ExprKind-F.BlockMember block n)) true OfBlock (type_of e) (traits.in_variable (type_of e)) (in_block_code block n) (shader_run.given (meaning.member_root block n)) are sound refl (λ e. refl)
      (forms.block_leads m input whole f p params locals call stage calls types vectors block n (type_of e) asks)
      (record { comes = told.comes; literal = told.literal; quiet = told.quiet; still = told.still }) in
      record { typed = refl; meant = refl; sound = sound; gives = here.gives; lengths = λ runtime. length_gives m input whole f p around are block n (type_of e) asks runtime; start = here.start; start_loose = here.start_loose; start_blocked = here.start_blocked; leads = here.leads; tells = told }
  by_kind e (ExprKind-F.Stage var) w sound sounds all is reads asks =
      value_evaluates m input whole f p around (type_of e) (traits.valued false false true) (stage_value var (type_of e)) (shader_run.given (stage var)) sound refl
      (subst (λ t. GivesValue m input whole f p around false t (stage_value var t) (shader_run.given (stage var))) is.1 (stage_gives m input whole f p around var (stage var) are (subst (IsSound count) (sym is.1) sound) asks.told asks.real)) (tell (ExprKind-F.Stage var) (type_of e) all)
  by_kind e (ExprKind-F.Member a n) w sound sounds all is reads asks =
      place_evaluates m input whole f p around (is_writable around a) (in_block a) all.0.start (type_of e) (traits.part_of (type_of e) (low a).traits) (member (low a) n) (shader_run.◌>>=◌ (part a).access (λ x. shader_run.given (access.member_of x n))) are sound all.0.start_loose all.0.start_blocked
      (forms.member_leads m input whole f p params locals call stage calls types vectors a n (type_of e) sound all.0 is) (tell (ExprKind-F.Member a n) (type_of e) all)
  by_kind e (ExprKind-F.Index a i) w sound sounds all is reads tests =
      place_evaluates m input whole f p around (is_writable around a) (in_block a) (forms.index_start m input whole f p params locals call stage calls types vectors a i all.0) (type_of e) (traits.indexed (type_of e) (known_of (low a)) (low i).traits) (indexed p.structs (low a) (low i)) (indexed_means (part a).access (part i).value) are sound
      (forms.index_loose m input whole f p params locals call stage calls types vectors a i (type_of e) all.0) (forms.index_blocked m input whole f p params locals call stage calls types vectors a i all.0)
      (forms.index_leads m input whole f p params locals call stage calls types vectors a i (type_of e) sound all.0 all.1.0 is.0 is.1 is.2 tests (literal_form i)) (tell (ExprKind-F.Index a i) (type_of e) all)
  by_kind e (ExprKind-F.Swizzle a lanes) w sound sounds all is reads asks =
      place_evaluates m input whole f p around (may_write (ExprKind-F.Swizzle a lanes)) (in_block a) all.0.start (type_of e) (traits.part_of (type_of e) (low a).traits) (swizzled_by (low a) lanes) (shader_run.◌>>=◌ (part a).access (λ x. shader_run.given (access.swizzle_of x (picked lanes)))) are sound all.0.start_loose all.0.start_blocked
      (forms.swizzle_leads m input whole f p params locals call stage calls types vectors a lanes (type_of e) all.0 is) (tell (ExprKind-F.Swizzle a lanes) (type_of e) all)
  by_kind e (ExprKind-F.Length a) w sound sounds all is reads asks =
      value_evaluates m input whole f p around (type_of e) (traits.valued false false true) (counted (low a)) (shader_run.told_by (meaning.counted (part a))) sound refl
      (subst (λ t. GivesValue m input whole f p around false t (counted (low a)) (shader_run.told_by (meaning.counted (part a)))) (sym is.0) (lengths.length_is m input whole f p params locals call stage calls types vectors a sounds.0 is.1 asks)) (lengths.length_told m input whole f p params locals call stage calls types vectors a (type_of e))
  by_kind e (ExprKind-F.Unary op a) w sound sounds all is reads asks =
      value_evaluates m input whole f p around (type_of e) (traits.of_one (low a).traits) _ _ sound refl (forms.unary_is m input whole f p params locals call stage calls types vectors op a (type_of e) all.0 is) (tell (ExprKind-F.Unary op a) (type_of e) all)
  by_kind e (ExprKind-F.Binary op a b) w sound sounds all is reads asks =
      value_evaluates m input whole f p around (type_of e) (traits.of_two false (traits.is_sure op) (low a).traits (low b).traits) _ _ sound refl
      (subst (λ c. GivesValue m input whole f p around c (type_of e) (low_form (ExprKind-F.Binary op a b) (type_of e)).value (means_form setting (ExprKind-F.Binary op a b) (type_of e)).value) (sym (or_false ((low a).traits.splits || (low b).traits.splits)))
      (forms.binary_is m input whole f p params locals call stage calls types vectors op a b (type_of e) all.0 all.1.0 is (wholes_of (a ∷ b ∷ []) reads asks))) (tell (ExprKind-F.Binary op a b) (type_of e) all)
  by_kind e (ExprKind-F.Logic op a b) w sound sounds all is reads asks =
      value_evaluates m input whole f p around (type_of e) (traits.of_two (is_short op (low b).traits) true (low a).traits (low b).traits) (logical op (low a) (low b)) (logic_means op (part a).value (part b).value) sound refl
      (subst (λ u. GivesValue m input whole f p around ((low a).traits.splits || (low b).traits.splits || is_short op (low b).traits) u (logical op (low a) (low b)) (logic_means op (part a).value (part b).value)) (sym is.2)
      (forms.logic_is m input whole f p params locals call stage calls types vectors op a b all.0 all.1.0 is.0 is.1 asks)) (tell (ExprKind-F.Logic op a b) (type_of e) all)
  by_kind e (ExprKind-F.Choose test a b) w sound sounds all is reads asks =
      value_evaluates m input whole f p around (type_of e) (traits.chosen (type_of e) (low test).traits (low a).traits (low b).traits) (chosen (type_of e) (low test) (low a) (low b)) (choice_means (part test).value (part a).value (part b).value) sound refl
      (forms.choice_is m input whole f p params locals call stage calls types vectors (type_of e) test a b sound all.0 all.1.0 all.1.1.0 is.0 is.1 is.2 is.3 (wholes_of (a ∷ b ∷ []) reads.1 asks.0) asks.1) (tell (ExprKind-F.Choose test a b) (type_of e) all)
  by_kind e (ExprKind-F.Assign a b) w sound sounds all is reads asks =
      value_evaluates m input whole f p around (type_of e) (traits.of_two false false (low a).traits (low b).traits) _ _ sound refl
      (subst (λ c. GivesValue m input whole f p around c (type_of e) (low_form (ExprKind-F.Assign a b) (type_of e)).value (means_form setting (ExprKind-F.Assign a b) (type_of e)).value) (sym (or_false ((low a).traits.splits || (low b).traits.splits)))
      (forms.assign_is m input whole f p params locals call stage calls types vectors a b (type_of e) all.0 all.1.0 is.0 is.1 is.2 is.3 asks.1 (wholes_of (b ∷ []) reads (asks.2, tt)).0 asks.0)) (tell (ExprKind-F.Assign a b) (type_of e) all)
  by_kind e (ExprKind-F.Update op a b) w sound sounds all is reads asks =
      value_evaluates m input whole f p around (type_of e) (traits.of_two false false (low a).traits (low b).traits) _ _ sound refl
      (subst (λ c. GivesValue m input whole f p around c (type_of e) (low_form (ExprKind-F.Update op a b) (type_of e)).value (means_form setting (ExprKind-F.Update op a b) (type_of e)).value) (sym (or_false ((low a).traits.splits || (low b).traits.splits)))
      (forms.update_is m input whole f p params locals call stage calls types vectors op a b (type_of e) all.0 all.1.0 is.0 is.2 is.3 asks)) (tell (ExprKind-F.Update op a b) (type_of e) all)
  by_kind e (ExprKind-F.Step op a) w sound sounds all is reads asks =
      value_evaluates m input whole f p around (type_of e) (traits.loud (low a).traits) _ _ sound refl
      (forms.step_is m input whole f p params locals call stage calls types vectors op a (type_of e) all.0 is.0 is.1 is.2 asks) (tell (ExprKind-F.Step op a) (type_of e) all)
  by_kind e (ExprKind-F.Call n args) w sound sounds all is reads asks =
      let every : AllAre args = subst AllAre (call_passed around n args (type_of e) is) all in
      value_evaluates m input whole f p around (type_of e) (traits.called (traits.together (map known_of (map low args)))) (call n (map low args) (type_of e)) (meaning.calling setting n (map part args)) sound refl (value_here e (ExprKind-F.Call n args) w (asks (same_all args every)))
      (row_told args traits.called (means_form setting (ExprKind-F.Call n args) (type_of e)) (tell (ExprKind-F.Call n args) (type_of e) every))
  by_kind e (ExprKind-F.Built which args) w sound sounds all is reads asks =
      value_evaluates m input whole f p around (type_of e) (traits.loud (traits.together (map known_of (map low args)))) _ _ sound refl (forms.built_is m input whole f p params locals call stage calls types vectors which args (type_of e) all reads is)
      (row_told args traits.loud (means_form setting (ExprKind-F.Built which args) (type_of e)) (tell (ExprKind-F.Built which args) (type_of e) all))
  by_kind e (ExprKind-F.Build args) w sound sounds all is reads asks =
      value_evaluates m input whole f p around (type_of e) (traits.built (type_of e) (traits.together (map known_of (map low args)))) _ _ sound refl (forms.build_is m input whole f p params locals call stage calls types vectors args (type_of e) sound all reads (parts_real p types.program params locals args (type_of e) is) (wholes_of args reads asks) is)
      (row_told args (traits.built (type_of e)) (means_form setting (ExprKind-F.Build args) (type_of e)) (tell (ExprKind-F.Build args) (type_of e) all))
  by_kind e (ExprKind-F.Convert a) w sound sounds all is reads asks =
      value_evaluates m input whole f p around (type_of e) (traits.of_one (low a).traits) _ _ sound refl (forms.convert_is m input whole f p params locals call stage calls types vectors a (type_of e) all.0 is.0 is.1) (tell (ExprKind-F.Convert a) (type_of e) all)
  by_kind e (ExprKind-F.Comma items) w sound sounds all is reads asks =
      value_evaluates m input whole f p around (type_of e) (traits.loud (traits.together (map known_of (map low items)))) _ _ sound refl (forms.comma_is m input whole f p params locals call stage calls types vectors items (type_of e) all reads (wholes_of items reads asks) is.1)
      (row_told items traits.loud (means_form setting (ExprKind-F.Comma items) (type_of e)) (tell (ExprKind-F.Comma items) (type_of e) all))

  one_is : (e : Expr) → IsNode around e → IsSound count (type_of e) → AllByRecursion Sound (parts_of (form_of e)) → quiet.AsksHere m input whole f p params locals call stage calls types vectors e (form_of e) → AllAre (lowered_parts p.prototypes (form_of e)) → Is e
  one_is e node sound sounds asks all =
      subst (λ (b : Bool). Evaluates m input whole f p around b (in_block e) (type_of e) (low e) (part e)) (sym (write_is e))
      (subst (λ (b : Bool). Evaluates m input whole f p around (may_write (form_of e)) b (type_of e) (low e) (part e)) (sym (blocked_is e))
      (subst (λ (l : Lower). Evaluates m input whole f p around (may_write (form_of e)) (is_blocked (form_of e)) (type_of e) l (part e)) (sym (low_is e))
      (subst (λ (x : Meant). Evaluates m input whole f p around (may_write (form_of e)) (is_blocked (form_of e)) (type_of e) (low_form (form_of e) (type_of e)) x) (sym (part_is setting e))
      (by_kind e (form_of e) (record { lowered = low_is e; meant = part_is setting e }) sound sounds all node.type node.reads asks))))

  mutual
    evaluated : (e : Expr) → ThroughoutLowered p.prototypes (Asks m input whole f p params locals call stage calls) e → Throughout (IsNode around) e → Throughout Sound e → Is e
    evaluated _ (ThroughoutLowered.whole e ask asks) (Throughout.whole _ node parts) (Throughout.whole _ sound sounds) =
        one_is e node sound (tops Sound (parts_of (form_of e)) sounds) (quiet.asked m input whole f p params locals call stage calls types vectors e (form_of e) node.type parts sounds ask)
        (all_evaluated (lowered_parts p.prototypes (form_of e)) asks (parts_throughout p.prototypes (IsNode around) (form_of e) parts) (parts_throughout p.prototypes Sound (form_of e) sounds))

    all_evaluated : (es : List Expr) → ThroughoutAllLowered p.prototypes (Asks m input whole f p params locals call stage calls) es → ThroughoutAll (IsNode around) es → ThroughoutAll Sound es → AllAre es
    all_evaluated _ ThroughoutAllLowered.none nodes sounds = tt
    all_evaluated _ (ThroughoutAllLowered.more e es ask asks) (ThroughoutAll.more _ _ is rest) (ThroughoutAll.more _ _ sound sounds) = (evaluated e ask is sound, all_evaluated es asks rest sounds)

  -- a call has its value where what it is lowered to gives that
  called_value : (e : Expr) (number : ℕ) (args : List Expr) → form_of e ≡ ExprKind-F.Call number args → GivesValue m input whole f p around (any_splits (map low args)) (type_of e) (call number (map low args) (type_of e)) (meaning.calling setting number (map part args))
      → HasValue m input whole f p params locals call stage calls e
  unfolding lowers means
  called_value e number args is gives =
      subst (λ (l : Lower). GivesValue m input whole f p around l.traits.splits (type_of e) l.value (part e).value) (sym (low_is e ∙ ap (λ form. low_form form (type_of e)) is))
      (subst (λ (x : Meant). GivesValue m input whole f p around (low_form (ExprKind-F.Call number args) (type_of e)).traits.splits (type_of e) (low_form (ExprKind-F.Call number args) (type_of e)).value x.value) (sym (part_is setting e ∙ ap (λ form. means_form setting form (type_of e)) is))
      (forms.row_gives m input whole f p params locals call stage calls types vectors args (type_of e) (call number (map low args) (type_of e)) (meaning.calling setting number (map part args)) gives))

pub expr_evaluates : (m : Module) (input : Input) (whole : Sections) (f : Frame m input whole) (p : Program) (params : List (Direction × Ty)) (locals : List Ty) (call : ℕ → List Lower → Ty → Emit ℕ) (stage : StageVar → Value) (calls : Calls) (e : Expr) → IsTyped p params locals → NoVectors m input whole f
    → IsExpr (around_body (program_lists p) params locals) e → Throughout (λ (x : Expr). IsSound (length p.structs) (type_of x)) e → ThroughoutLowered p.prototypes (Asks m input whole f p params locals call stage calls) e → IsEvaluated m input whole f p params locals call stage calls e
unfolding lowers means
expr_evaluates m input whole f p params locals call stage calls e types vectors is sound asks = evaluated m input whole f p params locals call stage calls types vectors e asks is sound

pub call_has_value : (m : Module) (input : Input) (whole : Sections) (f : Frame m input whole) (p : Program) (params : List (Direction × Ty)) (locals : List Ty) (call : ℕ → List Lower → Ty → Emit ℕ) (stage : StageVar → Value) (calls : Calls) (e : Expr) (number : ℕ) (args : List Expr) → IsTyped p params locals → NoVectors m input whole f
    → form_of e ≡ ExprKind-F.Call number args
    → GivesValue m input whole f p (around_body (program_lists p) params locals) (any_splits (map (lowers (lowered_in p call)) args)) (type_of e) (call number (map (lowers (lowered_in p call)) args) (type_of e)) (meaning.calling (meant_in p stage calls) number (map (means (meant_in p stage calls)) args))
    → HasValue m input whole f p params locals call stage calls e
unfolding lowers means
call_has_value m input whole f p params locals call stage calls e number args types vectors is gives = called_value m input whole f p params locals call stage calls types vectors e number args is gives
