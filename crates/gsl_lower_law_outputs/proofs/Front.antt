-- Which variables of some classes a module has outside functions, from what was put.
use Rattle.std.proofs.Common.{◌≡◌, refl, ap, ap₂, ◌∙◌, ℕ, Bool, true, false, List, [], ◌∷◌, ◌++◌, Option, Some, None, if◌then◌else◌, append-nil}
use Rattle.std.specs.List.{AllByRecursion, cons_option}
use Rattle.std.proofs.lemmas.Bool.{cond-false}
use Rattle.gsl_base.specs.declared.stage.Stage.{Stage}
use Rattle.gsl_base.specs.declared.stage.Stage.TheVariants.{Vertex, Fragment, Compute}
use Rattle.gsl_words.specs.declared.module.Instr.{Instr}
use Rattle.gsl_words.specs.declared.target.Target.{Target}
use Rattle.gsl_tree.specs.declared.program.Program.{Program}
use Rattle.gsl_valid.specs.Instruction.{read}
use Rattle.gsl_valid.specs.Kinds.{Variable}
use Rattle.gsl_valid.specs.Placed.{Code}
use Rattle.gsl_valid.specs.Types.{before_functions, function_begins, outside_of}
use Rattle.gsl_spv.specs.Finished.{capabilities, entry_point, memory_models, modes, module_of}
use Rattle.gsl_spv.specs.Once.{interface_of}
use Rattle.gsl_spv.specs.Sections.{Sections, empty}
use Rattle.gsl_lower_holders.specs.Flow.{Flow}
use Rattle.gsl_lower_law_inputs.specs.OfLawOutside.{HaveOutside}
use Rattle.gsl_lower_law_inner.specs.Inner.{IsInner}
use Rattle.gsl_lower_law_outputs.specs.Outputs.{BeginsNone, DeclaresNone, Grows, chosen_among, chosen_in}
use Rattle.gsl_lower_law_outputs.proofs.Outputs.{Puts, all_both, filter_both, grows_one, grows_same, grows_then}

before_quiet : (front code : Code) → AllByRecursion BeginsNone front → before_functions (front ++ code) ≡ front ++ before_functions code
before_quiet [] code all = refl
before_quiet (i ∷ front) code all = cond-false (function_begins (read i)) [] (i ∷ before_functions (front ++ code)) all.0 ∙ ap (λ l. i ∷ l) (before_quiet front code all.1)

module _ (test : ℕ → Bool) where
  joined : {a b : Code} {xs ys : List Variable} → Grows test [] a xs → Grows test [] b ys → Grows test [] (a ++ b) (xs ++ ys)
  joined {a} {b} {xs} {ys} p q = record {
    put = p.put ++ q.put;
    is = ap₂ (λ l k. l ++ k) p.is q.is;
    quiet = all_both BeginsNone p.put q.put p.quiet q.quiet;
    those = filter_both (chosen_in test) p.put q.put ∙ ap (λ l. l ++ (chosen_among test) q.put) p.those ∙ ap (λ l. xs ++ l) q.those;
  }

  one_quiet : (i : Instr) → IsInner i → Grows test [] (i ∷ []) []
  one_quiet i inner = grows_one test [] i inner

  modes_quiet : (stage : Stage) (main : ℕ) (size : List ℕ) → Grows test [] (modes stage main size) []
  modes_quiet Vertex main size = grows_same test []
  modes_quiet Fragment main size = one_quiet _ refl
  modes_quiet Compute main size = one_quiet _ refl

  nothing_before : (code : Code) → (chosen_among test) code ≡ [] → (chosen_among test) (before_functions code) ≡ []
  nothing_before [] is = refl
  nothing_before (i ∷ code) is = by ((chosen_in test) i) refl is (nothing_before code)
    where
      by_test : (b : Bool) → (chosen_in test) i ≡ None → ((chosen_among test) code ≡ [] → (chosen_among test) (before_functions code) ≡ []) → (chosen_among test) code ≡ [] → (chosen_among test) (if b then [] else i ∷ before_functions code) ≡ []
      by_test true e later is = refl
      by_test false e later is = ap (λ o. cons_option o ((chosen_among test) (before_functions code))) e ∙ later is

      by : (o : Option Variable) → (chosen_in test) i ≡ o → cons_option o ((chosen_among test) code) ≡ [] → ((chosen_among test) code ≡ [] → (chosen_among test) (before_functions code) ≡ []) → (chosen_among test) (before_functions (i ∷ code)) ≡ []
      by None e is later = by_test (function_begins (read i)) e later is
      by (Some v) e is later = absurd (cc)

  module _ (target : Target) (p : Program) (main : ℕ) (flow : Flow) (h : HaveOutside target p main flow) (variables : List Variable) (puts : Puts test (empty p.stage target) h.first variables) (rest : DeclaresNone test h.first flow.sections) where
    abbrev whole : Sections
    whole = flow.sections

    front : Grows test [] (capabilities ++ whole.imports ++ memory_models ++ entry_point whole.stage main (interface_of whole.globals) ∷ [] ++ modes whole.stage main p.local_size ++ whole.names ++ whole.decorations ++ whole.globals) (variables ++ [])
    front =
        joined (joined (joined (joined (joined (joined (joined (one_quiet _ refl) (grows_then test puts.imports rest.imports)) (one_quiet _ refl)) (one_quiet _ refl)) (modes_quiet whole.stage main p.local_size))
        (grows_then test puts.names rest.names)) (grows_then test puts.decorations rest.decorations)) (grows_then test puts.globals rest.globals)

    none_in_functions : chosen_among test whole.functions ≡ []
    none_in_functions = ap (chosen_among test) (rest.is ∙ ap (λ l. l ++ rest.put) puts.functions) ∙ rest.those

    -- outside functions there are those that were put
    pub outside_chosen : chosen_among test (outside_of (module_of flow.sections main p.local_size)) ≡ variables
    outside_chosen =
        ap (chosen_among test) (ap (λ l. before_functions (l ++ whole.functions)) front.is ∙ before_quiet front.put whole.functions front.quiet)
        ∙ filter_both (chosen_in test) front.put (before_functions whole.functions) ∙ ap₂ (λ l k. l ++ k) front.those (nothing_before whole.functions none_in_functions) ∙ append-nil (variables ++ []) ∙ append-nil variables
