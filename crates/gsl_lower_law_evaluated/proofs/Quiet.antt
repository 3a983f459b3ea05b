-- Operands that may be evaluated where they do not count are there at once.
use Rattle.std.proofs.Common.{◌≡◌, refl, sym, ap, ◌∙◌, subst, ℕ, Bool, true, false, ◌&&◌, not, List, [], ◌∷◌, length, map, slice_get, Option, Some, None}
use Rattle.std.proofs.lemmas.Bool.{and_parts}
use Rattle.gsl_base.specs.declared.input.Input.{Input}
use Rattle.gsl_types.specs.Known.{IsSound}
use Rattle.gsl_types.specs.declared.ty.Direction.{Direction}
use Rattle.gsl_types.specs.declared.ty.Ty.{Ty}
use Rattle.gsl_types.specs.declared.ty.Ty.TheViews.{out-Ty}
use Rattle.gsl_words.specs.declared.module.Module.{Module}
use Rattle.gsl_values.specs.declared.value.Value.{Value}
use Rattle.gsl_tree.specs.Around.{Around}
use Rattle.gsl_tree.specs.Expressions.{HasType, IsNode, boolean}
use Rattle.gsl_tree.specs.Shapes.{shape_of}
use Rattle.gsl_tree.specs.Trees.{Throughout, ThroughoutAll, form_of, parts_of, type_of}
use Rattle.gsl_tree.specs.Values.{is_value_of, word_in}
use Rattle.gsl_tree.specs.WellTyped.{around_body, program_lists}
use Rattle.gsl_tree.specs.declared.expr.Expr.{Expr}
use Rattle.gsl_tree.specs.declared.expr.ExprKind.{ExprKind}
use Rattle.gsl_tree.specs.declared.expr.ExprKind.TheFolds.{fold-Expr, fold-ExprKind, fold-roll-Expr, fold-roll-ExprKind, map-ExprKind}
use Rattle.gsl_tree.specs.declared.expr.ExprKind.TheOpen.{ExprKind-F}
use Rattle.gsl_tree.specs.declared.expr.ExprKind.TheViews.{out-Expr, roll-out-Expr, roll-out-ExprKind}
use Rattle.gsl_tree.specs.declared.expr.LogicOp.{LogicOp}
use Rattle.gsl_tree.specs.declared.expr.LogicOp.TheVariants as logic
use Rattle.gsl_tree.specs.declared.expr.StageVar.{StageVar}
use Rattle.gsl_tree.specs.declared.program.Program.{Program}
use Rattle.gsl_tree.specs.declared.unit.Block.{Block}
use Rattle.gsl_meaning.specs.Expressions as meaning
use Rattle.gsl_meaning.specs.Expressions.{Calls, Meant}
use Rattle.gsl_meaning.specs.State as shader
use Rattle.gsl_spv.specs.Sections.{Sections}
use Rattle.gsl_lower_holders.specs.Flow.{Emit}
use Rattle.gsl_lower_traits.specs.Traits as traits
use Rattle.gsl_lower_traits.specs.Traits.{Known, is_one, is_selected, is_short, traits_by}
use Rattle.gsl_lower_traits.specs.declared.traits.Traits.{Traits}
use Rattle.gsl_lower_traits_law.specs.Quiet.{AreHeld, HasBytes, IsHeld, IsThere, MayBeThere}
use Rattle.gsl_lower_traits_law.proofs.There as there
use Rattle.gsl_lower_traits_law.proofs.Standing.{Stays}
use Rattle.gsl_lower_traits_law.proofs.Told.{literal_word, part_is}
use Rattle.gsl_lower_expr.specs.Lowering as lowering
use Rattle.gsl_lower_expr.specs.Lowering.{lowered_by}
use Rattle.gsl_lower_expr.specs.Parts.{Lower, known_of}
use Rattle.gsl_lower_follows.specs.Frames.{AreTyped, Frame, Global, Interface, IsSeen, Local, Param, type_named, type_of_global, type_of_interface, type_of_param}
use Rattle.gsl_lower_follows.specs.Frames as frames
use Rattle.gsl_lower_follows.specs.Sizes.{IsShort as IsShortInput}
use Rattle.gsl_lower_law_expr.specs.Known.{IsQuiet, IsShort}
use Rattle.gsl_lower_law_evaluated.specs.Evaluating.{AllThere, AreReadWhole, AsksFor, IsTyped, NoVectors, lowered_in, meant_in}
use Rattle.gsl_lower_law_evaluated.proofs.Forms as forms
use Rattle.gsl_typed_places.proofs.Indexed.{indexed_valued}

module _ (m : Module) (input : Input) (whole : Sections) (f : Frame m input whole) (p : Program) (params : List (Direction × Ty)) (locals : List Ty) (call : ℕ → List Lower → Ty → Emit ℕ) (stage : StageVar → Value) (calls : Calls) (types : IsTyped p params locals) (vectors : NoVectors m input whole f) where
  abbrev around : Around
  around = around_body (program_lists p) params locals

  abbrev lower : lowering.Setting
  lower = lowered_in p call

  abbrev setting : meaning.Setting
  setting = meant_in p stage calls

  abbrev count : ℕ
  count = length p.structs

  abbrev kinds_low : ExprKind → Ty → Lower
  kinds_low = fold-ExprKind (Ty → Lower) Lower (lowered_by lower) lowering.typed_by

  abbrev low : Expr → Lower
  low = fold-Expr (Ty → Lower) Lower (lowered_by lower) lowering.typed_by

  abbrev part : Expr → Meant
  part = fold-Expr (Ty → Meant) Meant (meaning.means_by setting) meaning.typed_by

  abbrev low_form : ExprKind-F ExprKind Expr → Ty → Lower
  low_form = forms.low_form m input whole f p params locals call stage calls types vectors

  abbrev kinds_as : ExprKind → Ty → Traits
  kinds_as k t = (kinds_low k t).traits

  abbrev known_as : Expr → Known
  known_as e = known_of (low e)

  pub low_is : (e : Expr) → low e ≡ low_form (form_of e) (type_of e)
  low_is e =
      ap low (sym (roll-out-Expr e)) ∙ fold-roll-Expr (Ty → Lower) Lower (lowered_by lower) lowering.typed_by (out-Expr e)
      ∙ ap (λ (g : Ty → Lower). g (type_of e)) (ap kinds_low (sym (roll-out-ExprKind (out-Expr e).kind)) ∙ fold-roll-ExprKind (Ty → Lower) Lower (lowered_by lower) lowering.typed_by (form_of e))

  -- ---- what stands in typed states

  held_by : (o : Option Ty) (w : Option Value) (t : Ty) → o ≡ Some t → frames.HasType m input whole f p around o w → IsHeld p.structs t w
  held_by None w t e is = absurd cc
  held_by (Some u) None t e is = absurd is
  held_by (Some u) (Some v) t e is = (v, refl, subst (λ x. is_value_of p.structs x v ≡ true) (let same : u ≡ t = cc in same) is)

  -- what blocks have is seen in bytes, and in few where few are given
  seen_in : (few : Bool) → (few ≡ true → IsShortInput input) → (block : Block) (o : Option Value) → IsSeen m input whole f p around block o → HasBytes few p.structs block o
  seen_in few short block o seen = (seen.0, seen.1, seen.2, λ e. seen.3 (short e))

  held : (few : Bool) → (few ≡ true → IsShortInput input) → (s : shader.State) → AreTyped m input whole f p around s → AreHeld few around s
  held few short s typed = record {
    globals = λ n t is. held_by (type_named around (Global n)) (slice_get s.globals n) t (ap type_of_global is.1 ∙ ap Some is.2) (typed.each (Global n));
    interfaces = λ n t is. held_by (type_named around (Interface n)) (slice_get s.interfaces n) t (ap type_of_interface is.1 ∙ ap Some is.2) (typed.each (Interface n));
    params = λ n t is. held_by (type_named around (Param n)) (slice_get s.params n) t (ap type_of_param is.1) (typed.each (Param n));
    locals = λ n t is. held_by (type_named around (Local n)) (slice_get s.locals n) t is (typed.each (Local n));
    blocks = λ n block is. seen_in few short block (slice_get s.blocks n) (typed.blocks n block is);
    choices = typed.choices;
  }

  -- ---- by what is known of what is lowered

  pub literal_form : (i : Expr) (number : ℕ) → (low i).traits.literal ≡ Some number → (v : Value) × (form_of i ≡ ExprKind-F.Const v) × (word_in v ≡ number)
  literal_form i number e =
      let l = literal_known (form_of i) (type_of i) number (ap (λ (l : Lower). l.traits.literal) (sym (low_is i)) ∙ e) in
      (l.0, l.1, literal_word (out-Ty (type_of i)) l.0 number l.2)
    where
      literal_known : (form : ExprKind-F ExprKind Expr) (t : Ty) (number : ℕ) → (low_form form t).traits.literal ≡ Some number → (v : Value) × (form ≡ ExprKind-F.Const v) × (traits.literal_by (out-Ty t) v ≡ Some number)
      literal_known (ExprKind-F.Const v) t number e = (v, refl, e)
      literal_known (ExprKind-F.Local n) t number e = absurd (let z : None ≡ Some number = e in cc)
      literal_known (ExprKind-F.Global n) t number e = absurd (let z : None ≡ Some number = e in cc)
      literal_known (ExprKind-F.Param n) t number e = absurd (let z : None ≡ Some number = e in cc)
      literal_known (ExprKind-F.BlockMember b n) t number e = absurd (let z : None ≡ Some number = e in cc)
      literal_known (ExprKind-F.Stage var) t number e = absurd (let z : None ≡ Some number = e in cc)
      literal_known (ExprKind-F.Interface n) t number e = absurd (let z : None ≡ Some number = e in cc)
      literal_known (ExprKind-F.Member a n) t number e = absurd (let z : None ≡ Some number = e in cc)
      literal_known (ExprKind-F.Index a i) t number e = absurd (let z : None ≡ Some number = e in cc)
      literal_known (ExprKind-F.Swizzle a l) t number e = absurd (let z : None ≡ Some number = e in cc)
      literal_known (ExprKind-F.Length a) t number e = absurd (let z : None ≡ Some number = e in cc)
      literal_known (ExprKind-F.Unary o a) t number e = absurd (let z : None ≡ Some number = e in cc)
      literal_known (ExprKind-F.Binary o a b) t number e = absurd (let z : None ≡ Some number = e in cc)
      literal_known (ExprKind-F.Logic o a b) t number e = absurd (let z : None ≡ Some number = e in cc)
      literal_known (ExprKind-F.Choose test a b) t number e = absurd (let z : None ≡ Some number = e in cc)
      literal_known (ExprKind-F.Assign a b) t number e = absurd (let z : None ≡ Some number = e in cc)
      literal_known (ExprKind-F.Update o a b) t number e = absurd (let z : None ≡ Some number = e in cc)
      literal_known (ExprKind-F.Step o a) t number e = absurd (let z : None ≡ Some number = e in cc)
      literal_known (ExprKind-F.Call n es) t number e = absurd (let z : None ≡ Some number = e in cc)
      literal_known (ExprKind-F.Built g es) t number e = absurd (let z : None ≡ Some number = e in cc)
      literal_known (ExprKind-F.Build es) t number e = absurd (let z : None ≡ Some number = e in cc)
      literal_known (ExprKind-F.Convert a) t number e = absurd (let z : None ≡ Some number = e in cc)
      literal_known (ExprKind-F.Comma es) t number e = absurd (let z : None ≡ Some number = e in cc)

  lists_known : (es : List Expr) → map known_of (map low es) ≡ map known_as es
  lists_known [] = refl
  lists_known (e ∷ es) = ap (λ l. known_as e ∷ l) (lists_known es)

  told_quiet : (form : ExprKind-F ExprKind Expr) (t : Ty) → (low_form form t).traits.quiet ≡ true → (traits_by (map-ExprKind ExprKind Expr (Ty → Traits) Known kinds_as known_as form) t).quiet ≡ true
  told_quiet (ExprKind-F.Build es) t q = subst (λ ks. (traits.built t (traits.together ks)).quiet ≡ true) (lists_known es) q
  told_quiet form t q = q

  pub low_type : (form : ExprKind-F ExprKind Expr) (t : Ty) → (low_form form t).ty ≡ t
  low_type (ExprKind-F.Const v) t = refl
  low_type form t = refl

  told_still : (form : ExprKind-F ExprKind Expr) (t : Ty) → (low_form form t).traits.still ≡ true → (traits_by (map-ExprKind ExprKind Expr (Ty → Traits) Known kinds_as known_as form) t).still ≡ true
  told_still (ExprKind-F.Build es) t q = subst (λ ks. (traits.built t (traits.together ks)).still ≡ true) (lists_known es) q
  told_still form t q = q

  module _ (few : Bool) where
    abbrev Here : Expr → Type 0
    Here = there.IsQuiet few around types.program.structs setting kinds_as known_as literal_form

    abbrev AllHere : List Expr → Type 0
    AllHere = there.AllQuiet few around types.program.structs setting kinds_as known_as literal_form

    one_there : (e : Expr) → IsNode around e → IsSound count (type_of e) → MayBeThere few around setting e → AllHere (parts_of (form_of e)) → Here e
    one_there e node sound asks all = record {
      sound = sound;
      there = λ q.
          subst (λ (x : Meant). IsThere few around (type_of e) x.value) (sym (part_is setting e))
          (there.by_form few around types.program.structs setting kinds_as known_as literal_form e (form_of e) (part_is setting e) sound all node.type asks (told_quiet (form_of e) (type_of e) (ap (λ (l : Lower). l.traits.quiet) (sym (low_is e)) ∙ q)));
      stays = λ still.
          subst (λ (x : Meant). Stays few around types.program.structs (type_of e) x.access) (sym (part_is setting e))
          (there.stays_by_form few around types.program.structs setting kinds_as known_as literal_form e (form_of e) (part_is setting e) sound all node.type asks (told_still (form_of e) (type_of e) (ap (λ (l : Lower). l.traits.still) (sym (low_is e)) ∙ still)));
      typed = ap (λ (x : Meant). x.ty) (part_is setting e) ∙ there.meant_type setting (form_of e) (type_of e);
      known = ap (λ (l : Lower). l.ty) (low_is e) ∙ low_type (form_of e) (type_of e);
      short = subst (λ (x : Meant). there.IsFew few around (type_of e) x.parts) (sym (part_is setting e)) (there.few_by_form few around types.program.structs setting (form_of e) (type_of e) node.type);
    }

    mutual
      here : (e : Expr) → Throughout (IsNode around) e → Throughout (λ (x : Expr). IsSound count (type_of x)) e → Throughout (MayBeThere few around setting) e → Here e
      here _ (Throughout.whole e node parts) (Throughout.whole _ sound sounds) (Throughout.whole _ ask asks) = one_there e node sound ask (all_here (parts_of (form_of e)) parts sounds asks)

      all_here : (es : List Expr) → ThroughoutAll (IsNode around) es → ThroughoutAll (λ (x : Expr). IsSound count (type_of x)) es → ThroughoutAll (MayBeThere few around setting) es → AllHere es
      all_here _ ThroughoutAll.none sounds asks = tt
      all_here _ (ThroughoutAll.more e es is rest) (ThroughoutAll.more _ _ sound sounds) (ThroughoutAll.more _ _ ask asks) = (here e is sound ask, all_here es rest sounds asks)

  -- ---- what is asked, as it is used

  abbrev pub QuietIn : Ty → Expr → Type 0
  QuietIn t e = IsQuiet (AreTyped m input whole f p around) (is_value_of p.structs t) (part e).value

  quiet_in : (e : Expr) (t : Ty) → type_of e ≡ t → Throughout (IsNode around) e → Throughout (λ (x : Expr). IsSound count (type_of x)) e → AllThere m input whole f p params locals call stage calls e → (low e).traits.quiet ≡ true → QuietIn t e
  quiet_in e t is nodes sounds asks quiet =
      let has = (here asks.0 e nodes sounds asks.2).there quiet in
      record { gives = λ s units typed. let h = has s units (held asks.0 asks.1 s typed) in (h.0, h.1, subst (λ u. is_value_of p.structs u h.0 ≡ true) is h.2) }

  abbrev pub AsksHere : Expr → ExprKind-F ExprKind Expr → Type 0
  AsksHere e (ExprKind-F.Logic op a b) = IsShort op → is_short op (low b).traits ≡ false → QuietIn boolean b
  AsksHere e (ExprKind-F.Choose test a b) = AreReadWhole m input whole f p params locals call stage calls (a ∷ b ∷ []) × (is_selected (type_of e) (low a).traits (low b).traits ≡ true → QuietIn (type_of e) a × QuietIn (type_of e) b)
  AsksHere e (ExprKind-F.Index a i) = (low i).traits.calls ≡ true → forms.MayTest m input whole f p params locals call stage calls types vectors a
  AsksHere e form = AsksFor m input whole f p params locals call stage calls e form

  not_false : (b : Bool) → not b ≡ false → b ≡ true
  not_false true e = refl
  not_false false e = absurd (let z : true ≡ false = e in cc)

  not_short : (op : LogicOp) (b : Traits) → IsShort op → is_short op b ≡ false → b.quiet ≡ true
  not_short logic.And b is long = not_false b.quiet long
  not_short logic.Or b is long = not_false b.quiet long
  not_short logic.Xor b is long = absurd is

  first_all : (P : Expr → Type 0) (e : Expr) (es : List Expr) → ThroughoutAll P (e ∷ es) → Throughout P e
  first_all P _ _ (ThroughoutAll.more e es is rest) = is

  rest_all : (P : Expr → Type 0) (e : Expr) (es : List Expr) → ThroughoutAll P (e ∷ es) → ThroughoutAll P es
  rest_all P _ _ (ThroughoutAll.more e es is rest) = rest

  abbrev Sound : Expr → Type 0
  Sound e = IsSound count (type_of e)

  sound_top : (e : Expr) → Throughout Sound e → Sound e
  sound_top _ (Throughout.whole e sound parts) = sound

  pub asked : (e : Expr) (form : ExprKind-F ExprKind Expr) → HasType around form (type_of e) → ThroughoutAll (IsNode around) (parts_of form) → ThroughoutAll (λ (x : Expr). IsSound count (type_of x)) (parts_of form)
      → AsksFor m input whole f p params locals call stage calls e form → AsksHere e form
  unfolding lowering.lowers
  asked e (ExprKind-F.Logic op a b) is nodes sounds asks = λ short long.
      quiet_in b boolean is.1 (first_all (IsNode around) b [] (rest_all (IsNode around) a (b ∷ []) nodes)) (first_all Sound b [] (rest_all Sound a (b ∷ []) sounds)) (asks short long) (not_short op (low b).traits short long)
  asked e (ExprKind-F.Choose test a b) is nodes sounds asks = (
    asks.0,
    λ selected.
        let last = and_parts (is_one (shape_of (type_of e)) && (low a).traits.quiet) (low b).traits.quiet selected in
        let firsts = and_parts (is_one (shape_of (type_of e))) (low a).traits.quiet last.0 in
        let nodes_a = rest_all (IsNode around) test (a ∷ b ∷ []) nodes in
        let sounds_a = rest_all Sound test (a ∷ b ∷ []) sounds in (
          quiet_in a (type_of e) is.1 (first_all (IsNode around) a (b ∷ []) nodes_a) (first_all Sound a (b ∷ []) sounds_a) (asks.1 selected).0 firsts.1,
          quiet_in b (type_of e) is.2 (first_all (IsNode around) b [] (rest_all (IsNode around) a (b ∷ []) nodes_a)) (first_all Sound b [] (rest_all Sound a (b ∷ []) sounds_a)) (asks.1 selected).1 last.1,
        ),
  )
  asked e (ExprKind-F.Index a i) is nodes sounds asks =
      λ called. indexed_valued (program_lists p) params locals types.program types.of_params types.of_locals a (first_all (IsNode around) a (i ∷ []) nodes) (sound_top a (first_all Sound a (i ∷ []) sounds)) (type_of e) is.0
  asked e form is nodes sounds asks = asks
