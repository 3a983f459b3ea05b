-- Built-in functions on the values of expressions.
use Rattle.std.proofs.Common.{◌≡◌, refl, sym, ap, ap₂, ◌∙◌, subst, ℕ, ◌≤◌, List, [], ◌∷◌, map}
use Rattle.std.specs.List.{AllByRecursion}
use Rattle.gsl_base.specs.declared.input.Input.{Input}
use Rattle.gsl_types.specs.Known.{AreStructs}
use Rattle.gsl_types.specs.declared.ty.Ty.{Ty}
use Rattle.gsl_words.specs.declared.module.Module.{Module}
use Rattle.gsl_values.specs.declared.function.Builtin.{Builtin}
use Rattle.gsl_values.specs.declared.value.Value.{Value}
use Rattle.gsl_tree.specs.Around.{Around}
use Rattle.gsl_tree.specs.Operations.{builtin_value, is_signed, is_signed_scalar}
use Rattle.gsl_tree.specs.Shapes.{Shape, built_shape}
use Rattle.gsl_tree.specs.declared.program.Program.{Program}
use Rattle.gsl_meaning.specs.Expressions.{Meant, in_order, is_signed_first}
use Rattle.gsl_meaning.specs.Running.{drawing}
use Rattle.gsl_meaning.specs.Running as shader_run
use Rattle.gsl_machine.specs.State.{Ids, State}
use Rattle.gsl_spv.specs.Sections.{Sections}
use Rattle.gsl_lower_values.specs.Builtins.{called}
use Rattle.gsl_lower_values.specs.declared.operand.Operand.{Operand}
use Rattle.gsl_lower_law.specs.Computing.{Computes}
use Rattle.gsl_lower_law.specs.Operands.{AllStand, first_signed as operands_signed, shapes_of}
use Rattle.gsl_lower_law.specs.Values.{IsOf, StandEach}
use Rattle.gsl_lower_law_calls.proofs.Called.{called_computes}
use Rattle.gsl_lower_holders.specs.Flow.{lift}
use Rattle.gsl_lower_expr.specs.Parts.{Lower, any_splits, called_of, typed}
use Rattle.gsl_lower_follows.specs.Frames.{Frame}
use Rattle.gsl_lower_follows.specs.Giving.{GivesValue}
use Rattle.gsl_lower_follows.proofs.Drawn.{computed_given}
use Rattle.gsl_lower_follows.proofs.Growing.{adds_lift}
use Rattle.gsl_lower_law_expr.specs.Known.{AllGive, AllTyped}
use Rattle.gsl_lower_law_expr.proofs.Binary.{shape_is}
use Rattle.gsl_lower_law_expr.proofs.Shapes.{signed_shape, value_shape}
use Rattle.gsl_lower_law_built.specs.Arguments.{Answers, AreShaped, SameTypes, built_means, first_signed}
use Rattle.gsl_lower_law_built.proofs.Steps.{always_called}
use Rattle.gsl_lower_law_built.proofs.Together.{all_give}

-- ---- arguments as operands

-- What operands are that stand for the values of arguments.
pub record Stood (ids : Ids) (args : List Operand) (vs : List Value) (shapes : List Shape) : Type 0 where
  pub are : shapes_of args ≡ shapes
  pub some : AllByRecursion (λ a. 1 ≤ a.shape.1) args
  pub stand : AllStand ids args vs

pub stood : (p : Program) (now : Ids) (args : List Lower) (ids : List ℕ) (vs : List Value) (shapes : List Shape) → AreStructs p.structs → AreShaped p args shapes → AllTyped p args vs → StandEach now ids vs → Stood now (typed args ids) vs shapes
stood p now [] [] [] [] are shaped fits stand = record { are = refl; some = tt; stand = tt }
stood p now [] [] [] (shape ∷ shapes) are shaped fits stand = absurd shaped
stood p now [] ids (v ∷ vs) shapes are shaped fits stand = absurd fits
stood p now [] (id ∷ ids) [] shapes are shaped fits stand = absurd stand
stood p now (e ∷ es) ids [] shapes are shaped fits stand = absurd fits
stood p now (e ∷ es) [] (v ∷ vs) shapes are shaped fits stand = absurd stand
stood p now (e ∷ es) (id ∷ ids) (v ∷ vs) [] are shaped fits stand = absurd shaped
stood p now (e ∷ es) (id ∷ ids) (v ∷ vs) (shape ∷ shapes) are shaped fits stand =
    let is = shape_is e.ty shape shaped.0.1 in
    let of = value_shape p.structs e.ty shape v are shaped.0.0 shaped.0.1 fits.0 in
    let others = stood p now es ids vs shapes are shaped.1 fits.1 stand.1 in
    record {
      are = ap₂ (λ a b. a ∷ b) is others.are;
      some = (subst (λ (s : Shape). 1 ≤ s.1) (sym is) of.0, others.some);
      stand = (subst (λ s. IsOf s v) (sym is) of.1, stand.0, others.stand);
    }

-- the first is of ints as an operand where it is as an argument
signed_same : (p : Program) (now : Ids) (args : List Lower) (ids : List ℕ) (vs : List Value) (shapes : List Shape) → AreShaped p args shapes → AllTyped p args vs → StandEach now ids vs → operands_signed (typed args ids) ≡ first_signed args
signed_same p now [] ids vs shapes shaped fits stand = refl
signed_same p now (e ∷ es) ids [] shapes shaped fits stand = absurd fits
signed_same p now (e ∷ es) [] (v ∷ vs) shapes shaped fits stand = absurd stand
signed_same p now (e ∷ es) (id ∷ ids) (v ∷ vs) [] shaped fits stand = absurd shaped
signed_same p now (e ∷ es) (id ∷ ids) (v ∷ vs) (shape ∷ shapes) shaped fits stand = ap (λ (s : Shape). is_signed_scalar s.0) (shape_is e.ty shape shaped.0.1) ∙ sym (signed_shape e.ty shape shaped.0.1)

-- and where it is by its meaning
signed_first : (args : List Lower) (xs : List Meant) → SameTypes args xs → first_signed args ≡ is_signed_first xs
signed_first [] [] same = refl
signed_first [] (x ∷ xs) same = absurd cc
signed_first (e ∷ es) [] same = absurd cc
signed_first (e ∷ es) (x ∷ xs) same = ap is_signed (first_same e.ty x.ty (map (λ e. e.ty) es) (map (λ x. x.ty) xs) same)
  where
    first_same : {A : Type 0} (a b : A) (more others : List A) → a ∷ more ≡ b ∷ others → a ≡ b
    first_same a b more others e = cc

module _ (m : Module) (input : Input) (whole : Sections) (f : Frame m input whole) (p : Program) (around : Around) where
  call_computes : (which : Builtin) (args : List Lower) (ty : Ty) → Answers p which args ty → (ids : List ℕ) (vs : List Value) (state : State) (before : Sections) → AllTyped p args vs → StandEach state.ids ids vs
      → Computes m input whole (builtin_value which (first_signed args) vs state.choices) state before (called which (typed args ids))
  call_computes which args ty known ids vs state before fits stand =
      let s = stood p state.ids args ids vs known.shapes known.are known.shaped fits stand in
      subst (λ signed. Computes m input whole (builtin_value which signed vs state.choices) state before (called which (typed args ids))) (signed_same p state.ids args ids vs known.shapes known.shaped fits stand)
      (called_computes m input whole which (typed args ids) vs known.shape state before (ap (built_shape which) s.are ∙ known.takes) s.some s.stand)

  -- A built-in function on the values of expressions.
  pub built_gives : (which : Builtin) (args : List Lower) (xs : List Meant) (ty : Ty) → Answers p which args ty → SameTypes args xs → AllGive (GivesValue m input whole f p around) args xs
      → GivesValue m input whole f p around (any_splits args) ty (called_of which args) (built_means which xs)
  built_gives which args xs ty known same all =
      subst (λ signed. GivesValue m input whole f p around (any_splits args) ty (called_of which args) (shader_run.◌>>=◌ (in_order xs) (λ vs. drawing (builtin_value which signed vs)))) (signed_first args xs same)
      (all_give m input whole f p around args xs ty (λ ids. lift (called which (typed args ids))) (λ vs. drawing (builtin_value which (first_signed args) vs)) all (λ ids. adds_lift (called which (typed args ids)) (λ b. always_called m input whole which (typed args ids) b.sections))
      (λ b0 ids vs b s units state grown good fits stand.
      computed_given m input whole f p around ty (builtin_value which (first_signed args) vs) (called which (typed args ids)) (λ b. always_called m input whole which (typed args ids) b.sections) (λ choices are. known.gives vs choices are fits) b s units state good
      (call_computes which args ty known ids vs state b.sections fits stand)))
