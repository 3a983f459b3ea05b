-- Names of each kind on the left side of an assignment.
use Rattle.std.proofs.Common.{◌≡◌, ◌≢◌, refl, inl, inr, ℕ, ◌⊎◌, Bool, true, false, List, Option, Some, None}
use Rattle.gsl_base.specs.declared.input.Input.{Input}
use Rattle.gsl_instr.specs.declared.enumerant.storage_class.TheConstants as storage_class
use Rattle.gsl_types.specs.declared.ty.Ty.{Ty}
use Rattle.gsl_words.specs.declared.module.Module.{Module}
use Rattle.gsl_values.specs.declared.value.Value.{Value}
use Rattle.gsl_tree.specs.Around.{Around}
use Rattle.gsl_tree.specs.Shapes.{Shape, shape_of}
use Rattle.gsl_tree.specs.declared.program.Program.{Program}
use Rattle.gsl_tree.specs.declared.unit.Interface.{Interface}
use Rattle.gsl_meaning.specs.Accesses as access
use Rattle.gsl_meaning.specs.Running.{Run}
use Rattle.gsl_meaning.specs.State as shader
use Rattle.gsl_spv.specs.Sections.{Sections}
use Rattle.gsl_lower_places.specs.Reached.{is_block_class}
use Rattle.gsl_lower_traits.specs.declared.traits.Traits.{Traits}
use Rattle.gsl_lower_law_expr.specs.OfExpr.{leading}
use Rattle.gsl_lower_law_expr.specs.OfExpr.{Lower, assigned, class_by, interface_class, named}
use Rattle.gsl_lower_follows.specs.Frames.{Frame, Global, Holder, Interface as Passed, Local, Name, Param, Stage, value_of}
use Rattle.gsl_lower_follows.specs.Giving.{GivesValue}
use Rattle.gsl_lower_law_names.specs.Named.{IsNamed, assign_means}
use Rattle.gsl_lower_law_names.proofs.Assigning.{assign_gives}
use Rattle.gsl_lower_law_names.proofs.Storing.{IsSet}

abbrev number_of : Name → ℕ
number_of (Global number) = number
number_of (Passed number) = number
number_of (Stage number) = number
number_of (Param number) = number
number_of (Local number) = number
number_of (Holder number) = number

set_global : (stages : List (Option Value)) (number : ℕ) (v : Value) (s : shader.State) → IsSet stages Global number v s (access.stored (access.whole (access.Global number)) v s)
set_global stages number v s = record { values = s.globals; sorts = sorts; was = λ k. refl; is = λ k. refl; blocks = refl; choices = refl }
  where
    sorts : (name : Name) → ((k : ℕ) × (name ≡ Global k)) ⊎ ((name ≢ Global number) × (value_of stages (access.stored (access.whole (access.Global number)) v s) name ≡ value_of stages s name))
    sorts (Global k) = inl (k, refl)
    sorts (Passed k) = inr (λ e. absurd cc, refl)
    sorts (Stage k) = inr (λ e. absurd cc, refl)
    sorts (Param k) = inr (λ e. absurd cc, refl)
    sorts (Local k) = inr (λ e. absurd cc, refl)
    sorts (Holder k) = inr (λ e. absurd cc, refl)

set_interface : (stages : List (Option Value)) (number : ℕ) (v : Value) (s : shader.State) → IsSet stages Passed number v s (access.stored (access.whole (access.Interface number)) v s)
set_interface stages number v s = record { values = s.interfaces; sorts = sorts; was = λ k. refl; is = λ k. refl; blocks = refl; choices = refl }
  where
    sorts : (name : Name) → ((k : ℕ) × (name ≡ Passed k)) ⊎ ((name ≢ Passed number) × (value_of stages (access.stored (access.whole (access.Interface number)) v s) name ≡ value_of stages s name))
    sorts (Global k) = inr (λ e. absurd cc, refl)
    sorts (Passed k) = inl (k, refl)
    sorts (Stage k) = inr (λ e. absurd cc, refl)
    sorts (Param k) = inr (λ e. absurd cc, refl)
    sorts (Local k) = inr (λ e. absurd cc, refl)
    sorts (Holder k) = inr (λ e. absurd cc, refl)

set_param : (stages : List (Option Value)) (number : ℕ) (v : Value) (s : shader.State) → IsSet stages Param number v s (access.stored (access.whole (access.Param number)) v s)
set_param stages number v s = record { values = s.params; sorts = sorts; was = λ k. refl; is = λ k. refl; blocks = refl; choices = refl }
  where
    sorts : (name : Name) → ((k : ℕ) × (name ≡ Param k)) ⊎ ((name ≢ Param number) × (value_of stages (access.stored (access.whole (access.Param number)) v s) name ≡ value_of stages s name))
    sorts (Global k) = inr (λ e. absurd cc, refl)
    sorts (Passed k) = inr (λ e. absurd cc, refl)
    sorts (Stage k) = inr (λ e. absurd cc, refl)
    sorts (Param k) = inl (k, refl)
    sorts (Local k) = inr (λ e. absurd cc, refl)
    sorts (Holder k) = inr (λ e. absurd cc, refl)

set_local : (stages : List (Option Value)) (number : ℕ) (v : Value) (s : shader.State) → IsSet stages Local number v s (access.stored (access.whole (access.Local number)) v s)
set_local stages number v s = record { values = s.locals; sorts = sorts; was = λ k. refl; is = λ k. refl; blocks = refl; choices = refl }
  where
    sorts : (name : Name) → ((k : ℕ) × (name ≡ Local k)) ⊎ ((name ≢ Local number) × (value_of stages (access.stored (access.whole (access.Local number)) v s) name ≡ value_of stages s name))
    sorts (Global k) = inr (λ e. absurd cc, refl)
    sorts (Passed k) = inr (λ e. absurd cc, refl)
    sorts (Stage k) = inr (λ e. absurd cc, refl)
    sorts (Param k) = inr (λ e. absurd cc, refl)
    sorts (Local k) = inl (k, refl)
    sorts (Holder k) = inr (λ e. absurd cc, refl)

module _ (m : Module) (input : Input) (sections : Sections) (f : Frame m input sections) (p : Program) (around : Around) where
  pub assign_global : (number : ℕ) (t : Ty) (shape : Shape) (traits : Traits) (right : Lower) (y : Run Value) → IsNamed p around (Global number) t → shape_of t ≡ Some shape → right.ty ≡ t → GivesValue m input sections f p around right.traits.splits right.ty right.value y
      → GivesValue m input sections f p around right.traits.splits t (assigned p.structs (leading p.structs t (named (λ place. place.globals) storage_class.PRIVATE number) traits) right) (assign_means (access.Global number) y)
  assign_global number t shape traits right y known shaped same does =
      assign_gives m input sections f p around Global number_of (λ k. refl) (access.Global number) (λ place. place.globals) storage_class.PRIVATE number (λ place. refl) refl (λ k e. absurd cc) (λ v s. set_global f.stages number v s) t shape known shaped traits right y same does

  pub assign_interface : (number : ℕ) (i : Option Interface) (t : Ty) (shape : Shape) (traits : Traits) (right : Lower) (y : Run Value) → IsNamed p around (Passed number) t → shape_of t ≡ Some shape → right.ty ≡ t → GivesValue m input sections f p around right.traits.splits right.ty right.value y
      → GivesValue m input sections f p around right.traits.splits t (assigned p.structs (leading p.structs t (named (λ place. place.interfaces) (interface_class i) number) traits) right) (assign_means (access.Interface number) y)
  assign_interface number i t shape traits right y known shaped same does =
      assign_gives m input sections f p around Passed number_of (λ k. refl) (access.Interface number) (λ place. place.interfaces) (interface_class i) number (λ place. refl) (outside i) (λ k e. absurd cc) (λ v s. set_interface f.stages number v s) t shape known shaped traits right y same does
    where
      class_outside : (output : Bool) → is_block_class (class_by output) ≡ false
      class_outside true = refl
      class_outside false = refl

      outside : (i : Option Interface) → is_block_class (interface_class i) ≡ false
      outside None = refl
      outside (Some i) = class_outside i.output

  pub assign_param : (number : ℕ) (t : Ty) (shape : Shape) (traits : Traits) (right : Lower) (y : Run Value) → IsNamed p around (Param number) t → shape_of t ≡ Some shape → right.ty ≡ t → GivesValue m input sections f p around right.traits.splits right.ty right.value y
      → GivesValue m input sections f p around right.traits.splits t (assigned p.structs (leading p.structs t (named (λ place. place.params) storage_class.FUNCTION number) traits) right) (assign_means (access.Param number) y)
  assign_param number t shape traits right y known shaped same does =
      assign_gives m input sections f p around Param number_of (λ k. refl) (access.Param number) (λ place. place.params) storage_class.FUNCTION number (λ place. refl) refl (λ k e. absurd cc) (λ v s. set_param f.stages number v s) t shape known shaped traits right y same does

  pub assign_local : (number : ℕ) (t : Ty) (shape : Shape) (traits : Traits) (right : Lower) (y : Run Value) → IsNamed p around (Local number) t → shape_of t ≡ Some shape → right.ty ≡ t → GivesValue m input sections f p around right.traits.splits right.ty right.value y
      → GivesValue m input sections f p around right.traits.splits t (assigned p.structs (leading p.structs t (named (λ place. place.locals) storage_class.FUNCTION number) traits) right) (assign_means (access.Local number) y)
  assign_local number t shape traits right y known shaped same does =
      assign_gives m input sections f p around Local number_of (λ k. refl) (access.Local number) (λ place. place.locals) storage_class.FUNCTION number (λ place. refl) refl (λ k e. absurd cc) (λ v s. set_local f.stages number v s) t shape known shaped traits right y same does
