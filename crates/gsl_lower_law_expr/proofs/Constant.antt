-- Constants.
use Rattle.std.proofs.Common.{◌≡◌, refl, sym, ap, ap₂, ◌∙◌, subst, ℕ, zero, suc, ◌<◌, ◌≤◌, Bool, true, false, ◌==◌, List, [], ◌∷◌, map, length, arith, if◌then◌else◌}
use Rattle.std.proofs.lemmas.Bool.{eqb-true, ltb-true}
use Rattle.gsl_base.specs.declared.input.Input.{Input}
use Rattle.gsl_types.specs.declared.ty.Scalar.{Scalar}
use Rattle.gsl_types.specs.declared.ty.Scalar.TheVariants.{Bool as Boolean, Int, Uint}
use Rattle.gsl_types.specs.declared.ty.Ty.{Ty}
use Rattle.gsl_words.specs.declared.module.Module.{Module}
use Rattle.gsl_values.specs.declared.value.Value.{Value}
use Rattle.gsl_values.specs.declared.value.Value.TheVariants.{Word, Many, outs-Word}
use Rattle.gsl_tree.specs.Around.{Around}
use Rattle.gsl_tree.specs.Operations.{converted}
use Rattle.gsl_tree.specs.Shapes.{Shape}
use Rattle.gsl_tree.specs.Values.{components_in, is_value_of, is_word_of, of_components, word_in, word_layer}
use Rattle.gsl_tree.specs.declared.program.Program.{Program}
use Rattle.gsl_meaning.specs.Running.{given as shader_given}
use Rattle.gsl_machine.specs.State.{State}
use Rattle.gsl_spv.specs.Sections.{Sections}
use Rattle.gsl_lower_values.specs.Types.{scalar_constant, vector_constant}
use Rattle.gsl_lower_law.specs.Computing.{Computes}
use Rattle.gsl_lower_law.specs.Values.{AreWords, IsOf}
use Rattle.gsl_lower_law.proofs.Constants.{scalar_stands, vector_stands}
use Rattle.gsl_lower_follows.proofs.OfLawConstructors.{words_in}
use Rattle.gsl_lower_holders.specs.Flow.{lift}
use Rattle.gsl_lower_expr.specs.Parts.{constant_by}
use Rattle.gsl_lower_follows.specs.Frames.{Frame}
use Rattle.gsl_lower_follows.specs.Giving.{GivesValue}
use Rattle.gsl_lower_follows.proofs.Drawn.{computed_given}
use Rattle.gsl_lower_follows.proofs.Fetching.{no_state}
use Rattle.gsl_lower_follows.proofs.Growing.{adds_lift}
use Rattle.gsl_lower_law_expr.proofs.Steps.{Always}

-- a word of a type is its own
pub word_same : (s : Scalar) (word : ℕ) → is_word_of s word ≡ true → converted s word ≡ word
word_same Boolean word fits = small word (ltb-true word 2 fits)
  where
    small : (word : ℕ) → word < 2 → converted Boolean word ≡ word
    small zero less = refl
    small (suc zero) less = refl
    small (suc (suc word)) less = absurd (omega (arith, less))
word_same Int word fits = refl
word_same Uint word fits = refl

words_same : (s : Scalar) (words : List ℕ) → AreWords s words → map (λ word. Word (converted s word)) words ≡ map Word words
words_same s [] all = refl
words_same s (word ∷ words) all = ap₂ (λ a b. a ∷ b) (ap Word (word_same s word all.0)) (words_same s words all.1)

module _ (m : Module) (input : Input) (whole : Sections) where
  constant_computes : (shape : Shape) (v : Value) (state : State) (before : Sections) → 1 ≤ shape.1 → IsOf shape v → Computes m input whole (v, state.choices) state before (constant_by shape v)
  constant_computes shape v state before some of = by (shape.1 == 1) refl
    where
      by : (one : Bool) → (shape.1 == 1) ≡ one → Computes m input whole (v, state.choices) state before (if one then scalar_constant shape.0 (word_in v) else vector_constant shape (components_in v))
      by true e = one_word of.words of.is of.count of.fits
        where
          one_word : (words : List ℕ) → v ≡ of_components words → length words ≡ shape.1 → AreWords shape.0 words → Computes m input whole (v, state.choices) state before (scalar_constant shape.0 (word_in v))
          one_word [] is count fits = absurd (let n : shape.1 ≡ 1 = eqb-true shape.1 1 e in omega (arith, count, n))
          one_word (word ∷ []) is count fits =
              let same : word_in v ≡ word = ap word_in is ∙ ap word_layer (outs-Word word) in
              subst (λ n. Computes m input whole (v, state.choices) state before (scalar_constant shape.0 n)) (sym same)
              (subst (λ value. Computes m input whole (value, state.choices) state before (scalar_constant shape.0 word)) (ap Word (word_same shape.0 word fits.0) ∙ sym is) (scalar_stands m input whole shape.0 word state before))
          one_word (word ∷ next ∷ words) is count fits = absurd (let n : shape.1 ≡ 1 = eqb-true shape.1 1 e in let many : suc (suc (length words)) ≡ shape.1 = count in omega (arith, many, n))
      by false e = many_words of.words of.is of.count of.fits
        where
          many_words : (words : List ℕ) → v ≡ of_components words → length words ≡ shape.1 → AreWords shape.0 words → Computes m input whole (v, state.choices) state before (vector_constant shape (components_in v))
          many_words [] is count fits = absurd (let none : 0 ≡ shape.1 = count in omega (arith, none, some))
          many_words (word ∷ []) is count fits = absurd (let f : (shape.1 == 1) ≡ true = ap (λ n. n == 1) (sym count) in let z : true ≡ false = sym f ∙ e in cc)
          many_words (word ∷ next ∷ words) is count fits =
              subst (λ l. Computes m input whole (v, state.choices) state before (vector_constant shape l)) (sym (words_in v of) ∙ refl)
              (subst (λ value. Computes m input whole (value, state.choices) state before (vector_constant shape of.words)) (ap Many (words_same shape.0 of.words of.fits) ∙ many_of of.words of.count ∙ sym of.is) (vector_stands m input whole shape of.words state before))
            where
              many_of : (ws : List ℕ) → length ws ≡ shape.1 → Many (map Word ws) ≡ of_components ws
              many_of [] n = absurd (let none : 0 ≡ shape.1 = n in omega (arith, none, some))
              many_of (w ∷ []) n = absurd (let f : (shape.1 == 1) ≡ true = ap (λ n. n == 1) (sym n) in let z : true ≡ false = sym f ∙ e in cc)
              many_of (w ∷ more ∷ ws) n = refl

  always_constant : (shape : Shape) (v : Value) → Always (constant_by shape v)
  always_constant shape v = by (shape.1 == 1)
    where
      by : (one : Bool) → Always (if one then scalar_constant shape.0 (word_in v) else vector_constant shape (components_in v))
      by true = λ before. (scalar_stands m input whole shape.0 (word_in v) no_state before).grows
      by false = λ before. (vector_stands m input whole shape (components_in v) no_state before).grows

  -- A constant of a scalar or vector type.
  pub constant_gives : (f : Frame m input whole) (p : Program) (around : Around) (shape : Shape) (ty : Ty) (v : Value) → 1 ≤ shape.1 → IsOf shape v → is_value_of p.structs ty v ≡ true → GivesValue m input whole f p around false ty (lift (constant_by shape v)) (shader_given v)
  constant_gives f p around shape ty v some of typed = record {
    adds = adds_lift (constant_by shape v) (λ b. always_constant shape v b.sections);
    does = λ b s units state good. computed_given m input whole f p around ty (λ choices. (v, choices)) (constant_by shape v) (λ b. always_constant shape v b.sections) (λ choices are. record { typed = typed; left = are }) b s units state good (constant_computes shape v state b.sections some of);
  }
