-- `.length()` gives what a type tells, or counts the elements of a runtime array: nothing of what has the length is evaluated.
use Rattle.std.proofs.Common.{◌≡◌, refl, sym, ap, ◌∙◌, subst, ℕ, Bool, true, false, IsTrue, List, length, Some, None, if◌then◌else◌, arith}
use Rattle.gsl_base.specs.declared.input.Input.{Input}
use Rattle.gsl_types.specs.Known.{AreStructs, IsSound}
use Rattle.gsl_types.specs.declared.ty.Direction.{Direction}
use Rattle.gsl_types.specs.declared.ty.Scalar.TheVariants.{Int}
use Rattle.gsl_types.specs.declared.ty.Ty.{Ty}
use Rattle.gsl_types.specs.declared.ty.Ty.TheOpen.{Ty-F}
use Rattle.gsl_types.specs.declared.ty.Ty.TheVariants as ty
use Rattle.gsl_types.specs.declared.ty.Ty.TheViews.{out-Ty}
use Rattle.gsl_words.specs.declared.module.Module.{Module}
use Rattle.gsl_values.specs.declared.value.Value.{Value}
use Rattle.gsl_values.specs.declared.value.Value.TheVariants.{Word, outs-Word}
use Rattle.gsl_tree.specs.Around.{Around}
use Rattle.gsl_tree.specs.Expressions as tree
use Rattle.gsl_tree.specs.Expressions.{is_runtime_layer}
use Rattle.gsl_tree.specs.Operations.{has_fixed_length, is_fixed_kind, length_of}
use Rattle.gsl_tree.specs.Trees.{form_of, type_of}
use Rattle.gsl_tree.specs.Values.{is_value_of, word_layer}
use Rattle.gsl_tree.specs.WellTyped.{around_body, program_lists}
use Rattle.gsl_tree.specs.declared.expr.Expr.{Expr}
use Rattle.gsl_tree.specs.declared.expr.ExprKind.{ExprKind}
use Rattle.gsl_tree.specs.declared.expr.ExprKind.TheFolds.{fold-Expr}
use Rattle.gsl_tree.specs.declared.expr.ExprKind.TheOpen.{ExprKind-F}
use Rattle.gsl_tree.specs.declared.expr.StageVar.{StageVar}
use Rattle.gsl_tree.specs.declared.program.Program.{Program}
use Rattle.gsl_typed_law.proofs.Bounds.{integer_fits}
use Rattle.gsl_typed_law.proofs.Components.{scalar_typed}
use Rattle.gsl_meaning.specs.Expressions as meaning
use Rattle.gsl_meaning.specs.Expressions.{Calls, Meant}
use Rattle.gsl_meaning.specs.Running as shader_run
use Rattle.gsl_spv.specs.Sections.{Sections}
use Rattle.gsl_lower_holders.specs.Flow.{Emit, lift}
use Rattle.gsl_lower_values.specs.Types.{scalar_constant}
use Rattle.gsl_lower_traits.specs.Traits as traits
use Rattle.gsl_lower_traits.specs.Traits.{Known}
use Rattle.gsl_lower_traits_law.specs.Telling.{Tells}
use Rattle.gsl_lower_traits_law.proofs.There as there
use Rattle.gsl_lower_traits_law.proofs.Told.{by_form, means_form, part_is}
use Rattle.gsl_lower_expr.specs.Lowering as lowering
use Rattle.gsl_lower_expr.specs.Lowering.{lowered_by}
use Rattle.gsl_lower_expr.specs.Parts as Parts
use Rattle.gsl_lower_expr.specs.Parts.{Lower}
use Rattle.gsl_lower_follows.specs.Frames.{Frame}
use Rattle.gsl_lower_follows.specs.Giving.{GivesValue}
use Rattle.gsl_lower_law_expr.proofs.Constant.{constant_gives}
use Rattle.gsl_lower_law_expr.proofs.Shapes.{value_shape}
use Rattle.gsl_lower_assigns.proofs.OfElements.{length_gives}
use Rattle.gsl_lower_law_evaluated.specs.Evaluating.{AsksLengthOf, IsTyped, NoVectors, lowered_in, meant_in}
use Rattle.gsl_lower_law_evaluated.proofs.Evaluated.{lacks}
use Rattle.gsl_lower_law_evaluated.proofs.Facts.{length_small, scalar_shape}
use Rattle.gsl_lower_law_evaluated.proofs.Forms as forms
use Rattle.gsl_lower_law_evaluated.proofs.Forms.{sound_one}
use Rattle.gsl_lower_law_evaluated.proofs.Quiet as quiet

-- what has a length tells it by its type, or is a runtime array
pub length_kind_of : (layer : Ty-F Ty) → tree.has_length_kind layer ≡ true → is_fixed_kind layer ≡ false → is_runtime_layer layer ≡ true
length_kind_of (Ty-F.Vector s n) has fixed = absurd (let z : true ≡ false = fixed in cc)
length_kind_of (Ty-F.Array element n) has fixed = absurd (let z : true ≡ false = fixed in cc)
length_kind_of (Ty-F.Runtime element) has fixed = refl
length_kind_of Ty-F.Void has fixed = absurd (let z : false ≡ true = has in cc)
length_kind_of (Ty-F.One s) has fixed = absurd (let z : false ≡ true = has in cc)
length_kind_of (Ty-F.Struct number) has fixed = absurd (let z : false ≡ true = has in cc)

module _ (m : Module) (input : Input) (whole : Sections) (f : Frame m input whole) (p : Program) (params : List (Direction × Ty)) (locals : List Ty) (call : ℕ → List Lower → Ty → Emit ℕ) (stage : StageVar → Value) (calls : Calls) (types : IsTyped p params locals) (vectors : NoVectors m input whole f) where
  abbrev around : Around
  around = around_body (program_lists p) params locals

  abbrev lower : lowering.Setting
  lower = lowered_in p call

  abbrev setting : meaning.Setting
  setting = meant_in p stage calls

  abbrev are : AreStructs p.structs
  are = types.program.structs

  abbrev count : ℕ
  count = length p.structs

  abbrev low : Expr → Lower
  low = fold-Expr (Ty → Lower) Lower (lowered_by lower) lowering.typed_by

  abbrev part : Expr → Meant
  part = fold-Expr (Ty → Meant) Meant (meaning.means_by setting) meaning.typed_by

  abbrev low_form : ExprKind-F ExprKind Expr → Ty → Lower
  low_form = forms.low_form m input whole f p params locals call stage calls types vectors

  abbrev Counts : Emit ℕ → (x : Meant) → Type 0
  Counts value x = GivesValue m input whole f p around false (ty.One Int) value (shader_run.told_by (λ state. Word (x.parts state)))

  -- a runtime array is a member of a block, and nothing else has its elements counted
  counted_form : (a : Expr) (form : ExprKind-F ExprKind Expr) → is_runtime_layer (out-Ty (type_of a)) ≡ true → AsksLengthOf m input whole f p params locals call stage calls a form → Counts (low_form form (type_of a)).length (means_form setting form (type_of a))
  counted_form a (ExprKind-F.BlockMember block number) runtime asks = length_gives m input whole f p around are block number (type_of a) (asks runtime) runtime
  counted_form a form runtime asks = lacks m input whole f p around false (ty.One Int) _

  counted_is : (a : Expr) → is_runtime_layer (out-Ty (type_of a)) ≡ true → AsksLengthOf m input whole f p params locals call stage calls a (form_of a) → Counts (low a).length (part a)
  counted_is a runtime asks =
      subst (λ (l : Lower). Counts l.length (part a)) (sym (quiet.low_is m input whole f p params locals call stage calls types vectors a))
      (subst (Counts (low_form (form_of a) (type_of a)).length) (sym (part_is setting a)) (counted_form a (form_of a) runtime asks))

  low_type : (a : Expr) → (low a).ty ≡ type_of a
  low_type a = ap (λ (l : Lower). l.ty) (quiet.low_is m input whole f p params locals call stage calls types vectors a) ∙ quiet.low_type m input whole f p params locals call stage calls types vectors (form_of a) (type_of a)

  meant_type : (a : Expr) → (part a).ty ≡ type_of a
  meant_type a = ap (λ (x : Meant). x.ty) (part_is setting a) ∙ there.meant_type setting (form_of a) (type_of a)

  -- the length that a type tells, or that is counted
  pub length_is : (a : Expr) → IsSound count (type_of a) → IsTrue (tree.has_length_kind (out-Ty (type_of a))) → AsksLengthOf m input whole f p params locals call stage calls a (form_of a)
      → GivesValue m input whole f p around false (ty.One Int) (Parts.counted (low a)) (shader_run.told_by (meaning.counted (part a)))
  length_is a sound has asks =
      subst (λ t. GivesValue m input whole f p around false (ty.One Int) (if has_fixed_length t then lift (scalar_constant Int (length_of t)) else (low a).length) (shader_run.told_by (meaning.counted (part a)))) (sym (low_type a))
      (subst (λ t. GivesValue m input whole f p around false (ty.One Int) (if has_fixed_length (type_of a) then lift (scalar_constant Int (length_of (type_of a))) else (low a).length) (shader_run.told_by (λ state. if has_fixed_length t then Word (length_of t) else Word ((part a).parts state)))) (sym (meant_type a))
      (by (has_fixed_length (type_of a)) refl))
    where
      n : ℕ
      n = length_of (type_of a)

      fits : has_fixed_length (type_of a) ≡ true → is_value_of p.structs (ty.One Int) (Word n) ≡ true
      fits fixed = scalar_typed p.structs Int n (integer_fits Int n refl (length_small count (type_of a) sound fixed))

      by : (b : Bool) → has_fixed_length (type_of a) ≡ b → GivesValue m input whole f p around false (ty.One Int) (if b then lift (scalar_constant Int n) else (low a).length) (shader_run.told_by (λ state. if b then Word n else Word ((part a).parts state)))
      by true e =
          subst (λ word. GivesValue m input whole f p around false (ty.One Int) (lift (scalar_constant Int word)) (shader_run.given (Word n))) (ap word_layer (outs-Word n))
          (constant_gives m input whole f p around (Int, 1) (ty.One Int) (Word n) (omega arith) (value_shape p.structs (ty.One Int) (Int, 1) (Word n) are (sound_one count Int) (scalar_shape Int) (fits e)).1 (fits e))
      by false e = counted_is a (length_kind_of (out-Ty (type_of a)) has e) asks

  -- what is known of a length does not hang on what has it
  abbrev nothing_known : Expr → Known
  nothing_known e = record { ty = type_of e; traits = traits.valued true true false }

  nothing_told : (x : Meant) → Tells (traits.valued true true false) x
  nothing_told x = record {
    comes = λ e. absurd (let z : true ≡ false = e in cc);
    literal = λ number e. absurd (let z : None ≡ Some number = e in cc);
    quiet = λ e. absurd (let z : false ≡ true = e in cc);
    still = λ e. absurd (let z : false ≡ true = e in cc);
  }

  pub length_told : (a : Expr) (t : Ty) → Tells (traits.valued false false true) (means_form setting (ExprKind-F.Length a) t)
  length_told a t = by_form setting (λ k u. traits.valued true true false) nothing_known (ExprKind-F.Length a) t (nothing_told (part a), tt)
