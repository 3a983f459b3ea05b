-- How many constructs of a function stand within each other is what is read of its blocks (V12, V18).
use Rattle.std.proofs.Common.{◌≡◌, ℕ, ◌≤◌, true, List, [], ◌∷◌, ◌++◌, Some, sym, ap, ◌∙◌, subst, append_assoc}
use Rattle.std.proofs.lemmas.Bool.{or_left, true≢false}
use Rattle.gsl_words.specs.declared.module.Module.{Module}
use Rattle.gsl_blocks.specs.declared.block.Block.{Block}
use Rattle.gsl_blocks.specs.declared.block.Merge.TheVariants.{Nothing}
use Rattle.gsl_blocks.specs.Blocks.{blocks_of, labels}
use Rattle.gsl_blocks.specs.Reading.{nesting_of}
use Rattle.gsl_blocks.specs.Targets.{all_differ}
use Rattle.gsl_blocks.proofs.Apart.{Apart}
use Rattle.gsl_blocks.proofs.Decided.{decides}
use Rattle.gsl_valid.specs.Ids.{defined, defines}
use Rattle.gsl_valid.specs.IdsDefinedOnce.{defines_once}
use Rattle.gsl_valid.specs.LimitRules.{most_constructs}
use Rattle.gsl_valid.specs.Placed.{Code}
use Rattle.gsl_valid.specs.Search.{Passes, Test, passed}
use Rattle.gsl_valid.proofs.Lookups.{defined_behind}
use Rattle.gsl_fitting.specs.Functions.{IsFunction}
use Rattle.gsl_fitting_code.proofs.Labels.{absent, defines_label, differ, labels_are, not_again}
use Rattle.gsl_fitting_code.proofs.Structured.{blocks_are, function_ordered, tail_ends}

pub passes_split : (test : Test) (before a b : Code) → Passes test before (a ++ b) → Passes test before a × Passes test (passed before a) b
passes_split test before [] b p = (tt, p)
passes_split test before (i ∷ a) b p = let more = passes_split test (i ∷ before) a b p.1 in ((p.0, more.0), more.1)

-- The constructs of blocks stand so many within each other, and that is no more than may be.
pub record Nests (bs : List Block) : Type 0 where
  pub deepest : ℕ
  pub is : nesting_of bs ≡ Some deepest
  pub low : deepest ≤ most_constructs

module _ (m : Module) (rank : ℕ → ℕ) (code later : Code) (f : IsFunction m rank code) (before : Code) (once : Passes (defines_once m.bound) before (code ++ later)) where
  abbrev tail : Code
  tail = f.variables ++ (f.body ++ (f.ending ∷ []))

  abbrev at_variables : Code
  at_variables = f.opening ∷ passed (f.begin ∷ before) f.parameters

  once_variables : Passes (defines_once m.bound) at_variables (tail ++ later)
  once_variables =
      let test = defines_once m.bound in
      let whole : Passes test before (f.begin ∷ ((f.parameters ++ (f.opening ∷ tail)) ++ later)) = subst (λ c. Passes test before (c ++ later)) f.is once in
      (passes_split test (f.begin ∷ before) f.parameters ((f.opening ∷ tail) ++ later) (subst (Passes test (f.begin ∷ before)) (append_assoc f.parameters (f.opening ∷ tail) later) whole.1)).1.1

  abbrev at_body : Code
  at_body = passed at_variables f.variables

  once_body : Passes (defines_once m.bound) at_body f.body
  once_body =
      let test = defines_once m.bound in
      let rest = (passes_split test at_variables f.variables ((f.body ++ (f.ending ∷ [])) ++ later) (subst (Passes test at_variables) (append_assoc f.variables (f.body ++ (f.ending ∷ [])) later) once_variables)).1 in
      (passes_split test at_body f.body ((f.ending ∷ []) ++ later) (subst (Passes test at_body) (append_assoc f.body (f.ending ∷ []) later) rest)).0

  labels_differ : all_differ (labels (blocks_of (code ++ later))) ≡ true
  labels_differ =
      let are = labels_are m.bound m rank _ ((f.ending ∷ []) ++ later) (tail_ends m rank code later f) at_body f.body _ once_body f.fits Nothing in
      let here : defined at_body f.label ≡ true = defined_behind at_variables f.variables f.label (or_left (defines f.opening f.label) _ (defines_label f.opening f.label f.opens)) in
      let apart : Apart (f.label ∷ are.0) = (absent are.0 f.label (λ h. true≢false (sym (are.1.1.all f.label h) ∙ not_again m.bound at_body f.body f.label once_body here)), are.1.1.apart) in
      ap (λ bs. all_differ (labels bs)) (blocks_are m rank code later f) ∙ ap all_differ are.1.0 ∙ differ (f.label ∷ are.0) apart

  pub function_nests : Nests (blocks_of (code ++ later))
  function_nests =
      let o = function_ordered m rank code later f in
      record { deepest = o.deepest; is = (decides (blocks_of (code ++ later)) labels_differ o.deepest).1 o.ordered; low = o.low }
