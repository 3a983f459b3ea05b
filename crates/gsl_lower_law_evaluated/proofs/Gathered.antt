-- Structs and arrays in blocks give their values where they lead.
use Rattle.std.proofs.Common.{◌≡◌, ◌≢◌, refl, sym, ap, ◌∙◌, subst, ℕ, Bool, true, false, IsTrue, List, length, None}
use Rattle.std.proofs.lemmas.Bool.{false≢true}
use Rattle.gsl_base.specs.declared.input.Input.{Input}
use Rattle.gsl_types.specs.Known.{IsSound, is_plain, is_plain_kind}
use Rattle.gsl_types.specs.declared.ty.Direction.{Direction}
use Rattle.gsl_types.specs.declared.ty.Ty.{Ty}
use Rattle.gsl_types.specs.declared.ty.Ty.TheFolds.{fold-roll-Ty}
use Rattle.gsl_types.specs.declared.ty.Ty.TheOpen.{Ty-F}
use Rattle.gsl_types.specs.declared.ty.Ty.TheVariants as ty
use Rattle.gsl_types.specs.declared.ty.Ty.TheViews.{out-Ty}
use Rattle.gsl_words.specs.declared.module.Module.{Module}
use Rattle.gsl_values.specs.declared.value.Value.{Value}
use Rattle.gsl_tree.specs.Around.{Around}
use Rattle.gsl_tree.specs.Expressions.{is_runtime_layer}
use Rattle.gsl_tree.specs.Paths.{in_block, in_block_by, kind_in}
use Rattle.gsl_tree.specs.Shapes.{shape_of}
use Rattle.gsl_tree.specs.Trees.{form_of, type_of}
use Rattle.gsl_tree.specs.WellTyped.{around_body, program_lists}
use Rattle.gsl_tree.specs.declared.expr.Expr.{Expr}
use Rattle.gsl_tree.specs.declared.expr.ExprKind.{ExprKind}
use Rattle.gsl_tree.specs.declared.expr.ExprKind.TheFolds.{fold-Expr, fold-ExprKind, fold-roll-Expr, fold-roll-ExprKind}
use Rattle.gsl_tree.specs.declared.expr.ExprKind.TheOpen.{ExprKind-F}
use Rattle.gsl_tree.specs.declared.expr.ExprKind.TheViews.{out-Expr, roll-out-Expr, roll-out-ExprKind}
use Rattle.gsl_tree.specs.declared.expr.StageVar.{StageVar}
use Rattle.gsl_tree.specs.declared.program.Program.{Program}
use Rattle.gsl_meaning.specs.Expressions as meaning
use Rattle.gsl_meaning.specs.Expressions.{Calls, Meant, means}
use Rattle.gsl_valid.specs.Valid.{Valid}
use Rattle.gsl_spv.specs.Sections.{Sections}
use Rattle.gsl_typed_law.proofs.Zeros.{declared_plain}
use Rattle.gsl_lower_text.specs.Written.{Written}
use Rattle.gsl_lower_holders.specs.Flow.{Emit}
use Rattle.gsl_lower_traits_law.proofs.Told.{means_form, part_is}
use Rattle.gsl_lower_expr.specs.Lowering as lowering
use Rattle.gsl_lower_expr.specs.Lowering.{lowered_by, lowers}
use Rattle.gsl_lower_expr.specs.Parts.{Lower, accessed}
use Rattle.gsl_lower_follows.specs.Frames.{Frame}
use Rattle.gsl_lower_follows.specs.Giving.{GivesValue}
use Rattle.gsl_lower_assigns.specs.OfReads.{accessed_means}
use Rattle.gsl_lower_law_gathered.specs.Gathering.{AreShaped, HasValues}
use Rattle.gsl_lower_law_gathered.proofs.Given.{any_gives}
use Rattle.gsl_lower_law_evaluated.specs.Evaluating.{IsEvaluated, IsReadWhole, IsTyped, NoVectors, lowered_in, meant_in}
use Rattle.gsl_lower_law_evaluated.proofs.Forms as forms
use Rattle.gsl_lower_law_evaluated.proofs.Quiet as quiet

module _ (m : Module) (input : Input) (whole : Sections) (f : Frame m input whole) (p : Program) (params : List (Direction × Ty)) (locals : List Ty) (call : ℕ → List Lower → Ty → Emit ℕ) (stage : StageVar → Value) (calls : Calls) (types : IsTyped p params locals) (vectors : NoVectors m input whole f) where
  abbrev around : Around
  around = around_body (program_lists p) params locals

  abbrev setting : meaning.Setting
  setting = meant_in p stage calls

  abbrev low : Expr → Lower
  low = fold-Expr (Ty → Lower) Lower (lowered_by (lowered_in p call)) lowering.typed_by

  abbrev part : Expr → Meant
  part = fold-Expr (Ty → Meant) Meant (meaning.means_by setting) meaning.typed_by

  abbrev low_form : ExprKind-F ExprKind Expr → Ty → Lower
  low_form = forms.low_form m input whole f p params locals call stage calls types vectors

  abbrev is_blocked : ExprKind-F ExprKind Expr → Bool
  is_blocked = forms.is_blocked m input whole f p params locals call stage calls types vectors

  blocked_is : (e : Expr) → in_block e ≡ is_blocked (form_of e)
  blocked_is e =
      ap in_block (sym (roll-out-Expr e)) ∙ fold-roll-Expr Bool Bool in_block_by kind_in (out-Expr e)
      ∙ ap (fold-ExprKind Bool Bool in_block_by kind_in) (sym (roll-out-ExprKind (out-Expr e).kind)) ∙ fold-roll-ExprKind Bool Bool in_block_by kind_in (form_of e)

  -- what stands in a block is read where it leads
  low_read : (form : ExprKind-F ExprKind Expr) (t : Ty) → is_blocked form ≡ true → (low_form form t).value ≡ accessed p.structs t (low_form form t).reach
  low_read (ExprKind-F.BlockMember block number) t is = refl
  low_read (ExprKind-F.Member a number) t is = refl
  low_read (ExprKind-F.Index a i) t is = refl
  low_read (ExprKind-F.Swizzle a lanes) t is = refl
  low_read _ t is = absurd (false≢true is)

  meant_read : (form : ExprKind-F ExprKind Expr) (t : Ty) → is_blocked form ≡ true → (means_form setting form t).value ≡ accessed_means p.structs t (means_form setting form t).access
  meant_read (ExprKind-F.BlockMember block number) t is = refl
  meant_read (ExprKind-F.Member a number) t is = refl
  meant_read (ExprKind-F.Index a i) t is = refl
  meant_read (ExprKind-F.Swizzle a lanes) t is = refl
  meant_read _ t is = absurd (false≢true is)

  plain_real : (t : Ty) → IsTrue (is_plain t) → t ≢ ty.Void
  plain_real t plain void = absurd (false≢true (sym (ap is_plain (void ∙ sym ty.rolls-Void) ∙ fold-roll-Ty Bool is_plain_kind Ty-F.Void) ∙ plain))

  module _ (valid : Valid m) (written : Written m whole) (shaped : AreShaped m input whole f p around) where
    pub read_whole : (e : Expr) → IsSound (length p.structs) (type_of e) → (shape_of (type_of e) ≡ None → is_runtime_layer (out-Ty (type_of e)) ≡ false → HasValues m p.structs f.place (type_of e)) → IsEvaluated m input whole f p params locals call stage calls e → IsReadWhole m input whole f p params locals call stage calls e
    unfolding lowers means
    read_whole e sound values x in_one none counted =
        let is : is_blocked (form_of e) ≡ true = sym (blocked_is e) ∙ in_one in
        let has = values none counted in
        let lowered : (low e).value ≡ accessed p.structs (type_of e) (low e).reach =
        subst (λ (l : Lower). l.value ≡ accessed p.structs (type_of e) l.reach) (sym (quiet.low_is m input whole f p params locals call stage calls types vectors e)) (low_read (form_of e) (type_of e) is) in
        let meant : (part e).value ≡ accessed_means p.structs (type_of e) (part e).access =
        subst (λ (y : Meant). y.value ≡ accessed_means p.structs (type_of e) y.access) (sym (part_is setting e)) (meant_read (form_of e) (type_of e) is) in
        subst (λ emit. GivesValue m input whole f p around (low e).traits.splits (type_of e) emit (part e).value) (sym lowered)
        (subst (GivesValue m input whole f p around (low e).traits.splits (type_of e) (accessed p.structs (type_of e) (low e).reach)) (sym meant)
        (any_gives m input whole f p around valid written shaped types.program.structs (declared_plain p.structs types.program.declared) x.start false (type_of e) sound (low e).traits.splits (low e).reach (part e).access (λ none. has)
        (x.leads (plain_real (type_of e) has.plain) false (λ e. absurd (false≢true e)))))
