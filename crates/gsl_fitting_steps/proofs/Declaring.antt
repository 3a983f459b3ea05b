-- Declarations that are added once.
use Rattle.std.proofs.Common.{◌≡◌, ℕ, ◌+◌, Bool, true, false, cond, List, [], ◌∷◌, ◌++◌, Option, Some, None, refl, ap, ◌∙◌, arith}
use Rattle.std.specs.Prelude.{nat_le}
use Rattle.gsl_words.specs.declared.module.Instr.{Instr}
use Rattle.gsl_words.specs.declared.module.Module.{Module}
use Rattle.gsl_valid.specs.Ids.{is_id, result}
use Rattle.gsl_valid.specs.Instruction.{read}
use Rattle.gsl_valid.specs.Placed.{Code}
use Rattle.gsl_valid.specs.Search.{passed}
use Rattle.gsl_spv.specs.Calls.{declare, intern, known}
use Rattle.gsl_spv.specs.Declarations.{Declaration, defining}
use Rattle.gsl_spv.specs.Growing.{all_of}
use Rattle.gsl_spv.specs.Once.{id_of}
use Rattle.gsl_spv.specs.Sections.{Sections}
use Rattle.gsl_spv.specs.declared.refusal.TheConstants.{MOST_IDS}
use Rattle.gsl_lower_values.specs.Building.{Made, Full, id_by}
use Rattle.gsl_fitting.specs.Fits.{Frame}
use Rattle.gsl_fitting_sections.specs.Sections.{Each, IsDeclaration, count_of, one_if}
use Rattle.gsl_fitting_sections.proofs.Once.{count_append}
use Rattle.gsl_fitting_steps.specs.Keeping.{Fine, Goes, Keeps, MayDeclare}
use Rattle.gsl_fitting_steps.proofs.Counting.{apart_more}
use Rattle.gsl_fitting_steps.proofs.Joining.{nothing_put}

pub each_more : (P : Code → Instr → Type 0) (before code : Code) (i : Instr) → Each P before code → P (passed before code) i → Each P before (code ++ i ∷ [])
each_more P before [] i all last = (last, tt)
each_more P before (j ∷ code) i all last = (all.0, each_more P (j ∷ before) code i all.1 last)

pub declared_count : (s : Sections) (i : Instr) (id : ℕ) → count_of id (s.imports ++ s.names ++ s.decorations ++ (s.globals ++ i ∷ []) ++ s.functions) ≡ count_of id (all_of s) + one_if (is_id id (result (read i)))
declared_count s i id =
    let front = s.imports ++ s.names ++ s.decorations in
    let a = count_append id (front ++ (s.globals ++ i ∷ [])) s.functions in
    let b = count_append id front (s.globals ++ i ∷ []) in
    let c = count_append id s.globals (i ∷ []) in
    let d = count_append id (front ++ s.globals) s.functions in
    let e = count_append id front s.globals in
    omega (arith, a, b, c, d, e)

-- a declaration under the next id
pub declare_fine : (m : Module) (d : Declaration) (s : Sections) → IsDeclaration m (passed [] s.globals) (defining d (s.last + 1)) → result (read (defining d (s.last + 1))) ≡ Some (s.last + 1) → Fine m s → Fine m (declare d s).sections
declare_fine m d s may is h =
    let i = defining d (s.last + 1) in
    record {
      set = h.set;
      imports = h.imports;
      names = h.names;
      decorations = h.decorations;
      globals = each_more (IsDeclaration m) [] s.globals i h.globals may;
      apart = apart_more (s.last + 1) (all_of s) _ (s.last + 1) (omega arith) (omega arith) (λ id. declared_count s i id ∙ ap (λ o. count_of id (all_of s) + one_if (is_id id o)) is) h.apart;
    }

module _ (m : Module) (rank : ℕ → ℕ) (f : Frame) (given : List ℕ) where
  declare_goes : (d : Declaration) (s : Sections) → IsDeclaration m (passed [] s.globals) (defining d (s.last + 1)) → result (read (defining d (s.last + 1))) ≡ Some (s.last + 1) → Goes m rank f given given s (declare d s).sections
  declare_goes d s may is = record { fine = declare_fine m d s may is; puts = nothing_put m rank f given s _ refl }

  pub known_goes : (d : Declaration) (s : Sections) → MayDeclare m d s → Goes m rank f given given s (intern d s).sections
  unfolding intern
  known_goes d s may = by_found (id_of d s.globals) refl
    where
      by_found : (found : Option ℕ) → id_of d s.globals ≡ found → Goes m rank f given given s (known found d s).sections
      by_found (Some id) e = record { fine = λ h. h; puts = nothing_put m rank f given s s refl }
      by_found None e = declare_goes d s (may.declares e) (may.defines (s.last + 1))

  pub intern_keeps : (d : Declaration) (s : Sections) → MayDeclare m d s → Keeps m rank f given (λ id. given) s (id_by (intern d) s)
  intern_keeps d s may = by_room (nat_le (intern d s).sections.last MOST_IDS)
    where
      by_room : (b : Bool) → Keeps m rank f given (λ id. given) s (cond b (Made (intern d s).id (intern d s).sections) Full)
      by_room true = known_goes d s may
      by_room false = tt
