-- The functions of a program that are lowered.
use Rattle.std.proofs.Common.{◌≡◌, sym, ap, ◌∙◌, subst, ℕ, zero, suc, Bool, true, false, List, [], ◌∷◌, slice_get, Some}
use Rattle.gsl_tree.specs.Trees.{outside, with_exits}
use Rattle.gsl_tree.specs.declared.program.Program.{Program}
use Rattle.gsl_tree.specs.declared.unit.Function.{Function}
use Rattle.gsl_tree.specs.declared.unit.Prototype.{Prototype}
use Rattle.gsl_lower_needs.specs.declared.need.Need.{Need}
use Rattle.gsl_lower_flow.specs.Programs.{asked_all, asked_if, program_needs}
use Rattle.gsl_lower_flow.specs.Reaching.{is_lowered}
use Rattle.gsl_lower_used.specs.Lowered.{AlongAllLowered, up_to_jump}
use Rattle.gsl_lower_law_needs.specs.Used.{AreAsked}
use Rattle.gsl_lower_law_needs.proofs.Covering.{Covers, Grows, covers_first, covers_then, grows_given, grows_then}
use Rattle.gsl_lower_law_needs.proofs.Statements.{row_covered}

module _ (is : Function → Bool) (s : List Prototype) where
  abbrev Body : Function → List Need → Type 0
  Body f after = AlongAllLowered (AreAsked s after) (with_exits outside (up_to_jump f.body))

  grows_one : (test : Bool) (f : Function) → Grows (asked_if test s f)
  grows_one false f = grows_given {A = Unit {0}} {a = tt}
  grows_one true f = grows_then (row_covered s f.body outside).all (λ left. grows_given {A = Unit {0}} {a = tt})

  covers_one : (f : Function) → Covers (asked_if true s f) (Body f)
  covers_one f = covers_first (row_covered s f.body outside) (λ left. grows_given {A = Unit {0}} {a = tt})

  grows_all : (functions : List Function) → Grows (asked_all is s functions)
  unfolding asked_all
  grows_all [] = grows_given {A = Unit {0}} {a = tt}
  grows_all (f ∷ functions) = grows_then (grows_one (is f) f) (λ done. grows_all functions)

  pub found_in : (functions : List Function) (number : ℕ) (f : Function) → slice_get functions number ≡ Some f → is f ≡ true → Covers (asked_all is s functions) (Body f)
  unfolding asked_all
  found_in [] zero f at lowered = absurd (cc)
  found_in [] (suc number) f at lowered = absurd (cc)
  found_in (g ∷ functions) zero f at lowered =
      let same : g ≡ f = cc in
      let test : true ≡ is g = sym (ap is same ∙ lowered) in
      let one : Covers (asked_if (is g) s g) (Body g) = subst (λ (b : Bool). Covers (asked_if b s g) (Body g)) test (covers_one g) in
      covers_first (subst (λ (h : Function). Covers (asked_if (is g) s g) (Body h)) same one) (λ done. grows_all functions)
  found_in (g ∷ functions) (suc number) f at lowered = covers_then (grows_one (is g) g) (λ done. found_in functions number f at lowered)

pub all_asked : (p : Program) (number : ℕ) (f : Function) → slice_get p.functions number ≡ Some f → is_lowered p f ≡ true → AlongAllLowered (AreAsked p.prototypes (program_needs p)) (with_exits outside (up_to_jump f.body))
all_asked p number f at lowered = (found_in (is_lowered p) p.prototypes p.functions number f at lowered).covers [] (program_needs p) (λ var is. is)
