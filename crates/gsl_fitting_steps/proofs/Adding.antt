-- The other calls of a builder: ids that are taken, labels and variables that are put, names, decorations and the import.
use Rattle.std.proofs.Common.{◌≡◌, ℕ, ◌+◌, List, [], ◌∷◌, ◌++◌, Option, Some, None, refl, sym, ap, subst, arith}
use Rattle.std.specs.Prelude.{◌==◌}
use Rattle.gsl_words.specs.declared.module.Instr.{Instr}
use Rattle.gsl_words.specs.declared.module.Module.{Module}
use Rattle.gsl_valid.specs.Ids.{is_id, result}
use Rattle.gsl_valid.specs.Instruction.{read}
use Rattle.gsl_valid.specs.Kinds as kinds
use Rattle.gsl_valid.specs.Kinds.{kind}
use Rattle.gsl_valid.specs.Placed.{Code}
use Rattle.gsl_valid.specs.Search.{passed}
use Rattle.gsl_instr.specs.declared.instruction.Instruction.{Instruction}
use Rattle.gsl_instr.specs.declared.instruction.Instruction.TheVariants as instruction
use Rattle.gsl_instr.specs.Forms.{form_of}
use Rattle.gsl_spv.specs.Calls as call
use Rattle.gsl_spv.specs.Calls.{decorating, glsl_set, importing, imported, imports_of, naming, with_import}
use Rattle.gsl_spv.specs.Declarations.{instr}
use Rattle.gsl_spv.specs.Growing.{all_of}
use Rattle.gsl_spv.specs.Sections.{Sections}
use Rattle.gsl_fitting_sections.specs.Sections.{AreApart, IsDecoration, IsName, count_of, one_if}
use Rattle.gsl_fitting_sections.proofs.Once.{count_append}
use Rattle.gsl_fitting_sections.proofs.Whole.{all_append}
use Rattle.gsl_fitting_steps.specs.Keeping.{DefinesOwed, Fine}
use Rattle.gsl_fitting_steps.proofs.Counting.{apart_more, apart_owed, apart_same, apart_wider}
use Rattle.gsl_fitting_steps.proofs.Declaring.{each_more}
use Rattle.gsl_fitting_steps.proofs.Giving.{put_count}

-- what a name and a decoration define
debugs_none : (d : Option Instruction) → kind d ≡ kinds.Debugs → result d ≡ None
debugs_none None h = refl
debugs_none (Some instruction.Kill) h = refl
debugs_none (Some _) h = cc

decorates_none : (d : Option Instruction) (x : kinds.Decoration) → kind d ≡ kinds.Decorates x → result d ≡ None
decorates_none None x h = refl
decorates_none (Some instruction.Kill) x h = refl
decorates_none (Some _) x h = cc

-- the import counts for its id
pub import_count : (s : Sections) (id : ℕ) → count_of id ((s.imports ++ importing (s.last + 1) ∷ []) ++ s.names ++ s.decorations ++ s.globals ++ s.functions) ≡ count_of id (all_of s) + one_if ((s.last + 1) == id)
unfolding form_of
import_count s id =
    let i = importing (s.last + 1) in
    let a = count_append id s.imports (i ∷ []) in
    let b = count_append id (s.imports ++ i ∷ []) s.names in
    let c = count_append id ((s.imports ++ i ∷ []) ++ s.names) s.decorations in
    let d = count_append id ((s.imports ++ i ∷ []) ++ s.names ++ s.decorations) s.globals in
    let e = count_append id ((s.imports ++ i ∷ []) ++ s.names ++ s.decorations ++ s.globals) s.functions in
    let f = count_append id s.imports s.names in
    let g = count_append id (s.imports ++ s.names) s.decorations in
    let x = count_append id (s.imports ++ s.names ++ s.decorations) s.globals in
    let y = count_append id (s.imports ++ s.names ++ s.decorations ++ s.globals) s.functions in
    omega (arith, a, b, c, d, e, f, g, x, y)

module _ (m : Module) where
  pub taking_fine : (s : Sections) → Fine m s → Fine m (call.take s).sections
  taking_fine s h = record {
    set = h.set;
    imports = h.imports;
    names = h.names;
    decorations = h.decorations;
    globals = h.globals;
    apart = apart_wider (s.last + 1) (s.last + 1 + 1) (all_of s) (omega arith) h.apart;
  }

  pub putting_fine : (op : ℕ) (args : List ℕ) (s : Sections) → DefinesOwed s (result (read (instr op args))) → Fine m s → Fine m (call.put op args s)
  putting_fine op args s owed h = record {
    set = h.set;
    imports = h.imports;
    names = h.names;
    decorations = h.decorations;
    globals = h.globals;
    apart = by_result (result (read (instr op args))) owed (put_count s (instr op args));
  }
    where
      by_result : (o : Option ℕ) → DefinesOwed s o → ((id : ℕ) → count_of id (all_of (call.put op args s)) ≡ count_of id (all_of s) + one_if (is_id id o)) → AreApart (s.last + 1) (all_of (call.put op args s))
      by_result None owed more = apart_same (s.last + 1) (all_of s) (all_of (call.put op args s)) (λ id. let e = more id in omega (arith, e)) h.apart
      by_result (Some new) owed more = apart_owed (s.last + 1) (all_of s) (all_of (call.put op args s)) new owed.least (let low = owed.taken in omega (arith, low)) owed.none more h.apart

  -- one more that defines nothing, in a section that stands between these
  same_count : (id : ℕ) (before section after : Code) (i : Instr) → result (read i) ≡ None → count_of id (before ++ (section ++ i ∷ []) ++ after) ≡ count_of id (before ++ section ++ after)
  same_count id before section after i none =
      let a = count_append id (before ++ (section ++ i ∷ [])) after in
      let b = count_append id before (section ++ i ∷ []) in
      let c = count_append id section (i ∷ []) in
      let d = count_append id (before ++ section) after in
      let e = count_append id before section in
      let z : one_if (is_id id (result (read i))) ≡ 0 = ap (λ o. one_if (is_id id o)) none in
      omega (arith, a, b, c, d, e, z)

  ends_same : (id : ℕ) (a b code : Code) → count_of id a ≡ count_of id b → count_of id (a ++ code) ≡ count_of id (b ++ code)
  ends_same id a b code e = let x = count_append id a code in let y = count_append id b code in omega (arith, e, x, y)

  pub naming_fine : (target : ℕ) (member : Option ℕ) (text : List ℕ) (s : Sections) → IsName m (naming target member text) → Fine m s → Fine m (call.name target member text s)
  naming_fine target member text s name h =
      let i = naming target member text in
      let none = debugs_none (read i) name.is in
      record {
        set = h.set;
        imports = h.imports;
        names = all_append (IsName m) s.names (i ∷ []) h.names (name, tt);
        decorations = h.decorations;
        globals = h.globals;
        apart =
            apart_same (s.last + 1) (all_of s) _
            (λ id. ends_same id (s.imports ++ (s.names ++ i ∷ []) ++ s.decorations ++ s.globals) (s.imports ++ s.names ++ s.decorations ++ s.globals) s.functions
            (ends_same id (s.imports ++ (s.names ++ i ∷ []) ++ s.decorations) (s.imports ++ s.names ++ s.decorations) s.globals (same_count id s.imports s.names s.decorations i none))) h.apart;
      }

  pub decorating_fine : (target : ℕ) (member : Option ℕ) (what : ℕ) (literal : Option ℕ) (s : Sections) → IsDecoration m (passed [] s.decorations) (decorating target member what literal) → Fine m s → Fine m (call.decorate target member what literal s)
  decorating_fine target member what literal s mark h =
      let i = decorating target member what literal in
      let none = decorates_none (read i) mark.decoration mark.is in
      record {
        set = h.set;
        imports = h.imports;
        names = h.names;
        decorations = each_more (IsDecoration m) [] s.decorations i h.decorations mark;
        globals = h.globals;
        apart =
            apart_same (s.last + 1) (all_of s) _
            (λ id. ends_same id (s.imports ++ s.names ++ (s.decorations ++ i ∷ []) ++ s.globals) (s.imports ++ s.names ++ s.decorations ++ s.globals) s.functions (same_count id (s.imports ++ s.names) s.decorations s.globals i none)) h.apart;
      }

  -- the import, which is made once
  pub importing_fine : (s : Sections) → Fine m s → Fine m (glsl_set s).sections
  unfolding form_of
  importing_fine s h = by_set h.set h.imports
    where
      by_set : (set : Option ℕ) → s.imports ≡ imports_of set → Fine m (with_import (imported s.imports) s).sections
      by_set (Some id) is = subst (λ o. Fine m (with_import o s).sections) (sym (ap imported is)) h
      by_set None is = subst (λ o. Fine m (with_import o s).sections) (sym (ap imported is)) (record {
        set = Some (s.last + 1);
        imports = ap (λ l. l ++ importing (s.last + 1) ∷ []) is;
        names = h.names;
        decorations = h.decorations;
        globals = h.globals;
        apart = apart_more (s.last + 1) (all_of s) _ (s.last + 1) (omega arith) (omega arith) (import_count s) h.apart;
      })
