-- Locations of what is no variable.
use Rattle.std.proofs.Common.{◌≡◌, ℕ, Bool, true, false, ◌&&◌, ◌||◌, List, [], ◌∷◌, Option, Some, None, refl, ap, ◌∙◌}
use Rattle.std.specs.Prelude.{◌==◌}
use Rattle.std.specs.List.{list_any}
use Rattle.gsl_words.specs.declared.module.Module.{Module}
use Rattle.gsl_instr.specs.declared.enumerant.decoration.TheConstants as decoration
use Rattle.gsl_valid.specs.Instruction.{read}
use Rattle.gsl_valid.specs.Kinds.{Place, On, OnMember, Decoration, decoration_of}
use Rattle.gsl_valid.specs.Placed.{Code}
use Rattle.gsl_valid.specs.EntryRules.{locates, locates_one, gives_location, begin_with}

and_false : (a : Bool) → (a && false) ≡ false
and_false true = refl
and_false false = refl

module _ (m : Module) (location : ℕ) where
  pub no_class : (code : Code) → list_any (λ i. gives_location m None location (read i)) code ≡ false
  no_class [] = refl
  no_class (i ∷ code) = ap (λ b. b || list_any (λ i. gives_location m None location (read i)) code) (by_decoration (decoration_of (read i))) ∙ no_class code
    where
      by_place : (kind : ℕ) (literals : List ℕ) (place : Place) → locates m None location kind literals place ≡ false
      by_place kind literals (On target) = and_false (kind == decoration.LOCATION && begin_with location literals)
      by_place kind literals (OnMember target member) = refl

      by_decoration : (d : Option Decoration) → locates_one m None location d ≡ false
      by_decoration None = refl
      by_decoration (Some d) = by_place d.kind d.literals d.place
