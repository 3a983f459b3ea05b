-- What gives a value, and what leads to a variable or a part of one.
use Rattle.std.proofs.Common.{◌≡◌, ◌≢◌, refl, sym, ◌∙◌, ℕ, Bool, true, false, length, Option, Some, None}
use Rattle.gsl_base.specs.declared.input.Input.{Input}
use Rattle.gsl_types.specs.Known.{AreStructs, IsSound}
use Rattle.gsl_types.specs.declared.ty.Scalar.TheVariants.{Int}
use Rattle.gsl_types.specs.declared.ty.Ty.{Ty}
use Rattle.gsl_types.specs.declared.ty.Ty.TheVariants as ty
use Rattle.gsl_words.specs.declared.module.Module.{Module}
use Rattle.gsl_values.specs.declared.value.Value.{Value}
use Rattle.gsl_tree.specs.Around.{Around}
use Rattle.gsl_tree.specs.Shapes.{Shape, shape_of}
use Rattle.gsl_tree.specs.declared.program.Program.{Program}
use Rattle.gsl_meaning.specs.Accesses.{Access}
use Rattle.gsl_meaning.specs.Expressions as meaning
use Rattle.gsl_meaning.specs.Running.{Run}
use Rattle.gsl_spv.specs.Sections.{Sections}
use Rattle.gsl_lower_places.specs.declared.reached.Reached.{Reached}
use Rattle.gsl_lower_holders.specs.Flow.{Emit, lacking}
use Rattle.gsl_lower_traits.specs.declared.traits.Traits.{Traits}
use Rattle.gsl_lower_traits_law.specs.Telling.{Tells}
use Rattle.gsl_lower_expr.specs.Lowering.{giving_value, leading}
use Rattle.gsl_lower_expr.specs.Parts.{accessed}
use Rattle.gsl_lower_follows.specs.Frames.{Frame}
use Rattle.gsl_lower_follows.specs.Giving.{GivesValue}
use Rattle.gsl_lower_reaching.specs.Reaching.{GivesPlace, Start, is_of_value}
use Rattle.gsl_lower_reaching.specs.Reaching.Start.{OfBlock, OfValue}
use Rattle.gsl_lower_reaching.proofs.Places.{value_place}
use Rattle.gsl_lower_assigns.specs.OfReads.{accessed_means}
use Rattle.gsl_lower_assigns.proofs.OfReads.{place_gives}
use Rattle.gsl_lower_law_evaluated.specs.Evaluating.{Evaluates}

module _ (m : Module) (input : Input) (whole : Sections) (f : Frame m input whole) (p : Program) (around : Around) where
  -- nothing is lowered for the length of what has none
  pub lacks : (splits : Bool) (t : Ty) (run : Run Value) → GivesValue m input whole f p around splits t lacking run
  lacks splits t run = record { adds = λ b. tt; does = λ b s units state good. tt }

  -- what gives a value leads to that value
  pub value_evaluates : (t : Ty) (known : Traits) (value : Emit ℕ) (run : Run Value) → IsSound (length p.structs) t → known.is_loose ≡ true → GivesValue m input whole f p around known.splits t value run → Tells known (meaning.valued t run)
      → Evaluates m input whole f p around false false t (giving_value t value known) (meaning.valued t run)
  value_evaluates t known value run sound loose gives tells = record {
    typed = refl;
    meant = refl;
    sound = sound;
    gives = λ read wholes. gives;
    lengths = λ runtime. lacks false (ty.One Int) _;
    start = OfValue;
    start_loose = sym loose;
    start_blocked = λ e. absurd (let z : OfValue ≡ OfBlock = e in cc);
    leads = λ real writes may. by real writes may;
    tells = tells;
  }
    where
      by : t ≢ ty.Void → (writes : Bool) → (writes ≡ true → false ≡ true) → GivesPlace m input whole f p around known.splits OfValue writes t (giving_value t value known).reach (meaning.valued t run).access
      by real true may = absurd (let z : false ≡ true = may refl in cc)
      by real false may = value_place m input whole f p around known.splits t value run real sound gives

  -- what leads somewhere gives the value there
  pub place_evaluates : (may_write blocked : Bool) (start : Start) (t : Ty) (known : Traits) (reach : Emit Reached) (run : Run Access) → AreStructs p.structs → IsSound (length p.structs) t → is_of_value start ≡ known.is_loose → (start ≡ OfBlock → blocked ≡ true)
      → ((writes : Bool) → (writes ≡ true → may_write ≡ true) → GivesPlace m input whole f p around known.splits start writes t reach run) → Tells known (meaning.accessed p.structs t run)
      → Evaluates m input whole f p around may_write blocked t (leading p.structs t reach known) (meaning.accessed p.structs t run)
  place_evaluates may_write blocked start t known reach run are sound loose in_one leads tells = record {
    typed = refl;
    meant = refl;
    sound = sound;
    gives = λ read wholes. given wholes blocked refl;
    lengths = λ runtime. lacks false (ty.One Int) _;
    start = start;
    start_loose = loose;
    start_blocked = in_one;
    leads = λ real writes may. leads writes may;
    tells = tells;
  }
    where
      by_place : (shape_of t ≡ None → start ≡ OfBlock → ⊥) → GivesValue m input whole f p around known.splits t (accessed p.structs t reach) (accessed_means p.structs t run)
      by_place apart = place_gives m input whole f p around known.splits start false t reach run are sound apart (leads false (λ e. absurd (let z : false ≡ true = e in cc)))

      by_shape : (shape_of t ≡ None → GivesValue m input whole f p around known.splits t (accessed p.structs t reach) (accessed_means p.structs t run)) → (o : Option Shape) → shape_of t ≡ o → GivesValue m input whole f p around known.splits t (accessed p.structs t reach) (accessed_means p.structs t run)
      by_shape wholes None none = wholes none
      by_shape wholes (Some shape) shaped = by_place (λ none. absurd (let z : None ≡ Some shape = sym none ∙ shaped in cc))

      given : (blocked ≡ true → shape_of t ≡ None → GivesValue m input whole f p around known.splits t (accessed p.structs t reach) (accessed_means p.structs t run)) → (b : Bool) → blocked ≡ b → GivesValue m input whole f p around known.splits t (accessed p.structs t reach) (accessed_means p.structs t run)
      given wholes true is = by_shape (wholes is) (shape_of t) refl
      given wholes false is = by_place (λ none e. absurd (let z : false ≡ true = sym is ∙ in_one e in cc))
