-- Where a pass over a module stands: what was passed, and what is to come.
use Rattle.std.proofs.Common.{◌≡◌, [], ◌∷◌, ◌++◌, ap, sym, ◌∙◌, refl}
use Rattle.std.proofs.lemmas.List.{append_assoc}
use Rattle.gsl_words.specs.declared.module.Instr.{Instr}
use Rattle.gsl_words.specs.declared.module.Module.{Module}
use Rattle.gsl_valid.specs.Placed.{Code}
use Rattle.gsl_valid.specs.Search.{passed}
use Rattle.gsl_valid.proofs.Searching.{passed_append}

-- These instructions, the last first, stand before this code in the module.
pub record Stands (m : Module) (before code : Code) : Type 0 where
  pub front : Code
  pub whole : m.instrs ≡ front ++ code
  pub behind : before ≡ passed [] front

abbrev pub at_start : (m : Module) → Stands m [] m.instrs
at_start m = record { front = []; whole = refl; behind = refl }

abbrev pub one_on : (m : Module) (before code : Code) (i : Instr) → Stands m before (i ∷ code) → Stands m (i ∷ before) code
one_on m before code i s =
    record {
      front = s.front ++ i ∷ [];
      whole = s.whole ∙ sym (append_assoc s.front (i ∷ []) code);
      behind = ap (λ b. i ∷ b) s.behind ∙ sym (passed_append [] s.front (i ∷ []));
    }
