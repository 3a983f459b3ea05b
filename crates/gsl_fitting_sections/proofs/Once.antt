-- Ids that are kept apart by counting are defined once (V2).
use Rattle.std.proofs.Common.{◌≡◌, ℕ, ◌+◌, ◌<◌, ◌≤◌, Bool, true, false, ◌||◌, List, [], ◌∷◌, ◌++◌, Option, Some, None, refl, sym, ap, ◌∙◌, subst, arith}
use Rattle.std.proofs.lemmas.Bool.{and_from, eq-eqb, le-leb, lt-ltb, not_from_false, true≢false}
use Rattle.gsl_base.specs.declared.stage.Stage.{Stage}
use Rattle.gsl_base.specs.declared.stage.Stage.TheVariants.{Vertex, Fragment, Compute}
use Rattle.gsl_instr.specs.Forms.{form_of}
use Rattle.gsl_valid.specs.Ids.{defined, defines, is_id, result}
use Rattle.gsl_valid.specs.IdsDefinedOnce.{defines_once, is_new}
use Rattle.gsl_valid.specs.Instruction.{read}
use Rattle.gsl_valid.specs.Placed.{Code}
use Rattle.gsl_valid.specs.Search.{Passes}
use Rattle.gsl_spv.specs.Calls.{imports_of}
use Rattle.gsl_spv.specs.Finished.{capabilities, entry_point, memory_models, modes, module_of}
use Rattle.gsl_spv.specs.Growing.{all_of}
use Rattle.gsl_spv.specs.Once.{interface_of}
use Rattle.gsl_spv.specs.Sections.{Sections}
use Rattle.gsl_fitting_sections.specs.Sections.{AreApart, count_of, one_if}
use Rattle.gsl_fitting_sections.proofs.Parts.{front, head, parts_are}

pub count_append : (id : ℕ) (a b : Code) → count_of id (a ++ b) ≡ count_of id a + count_of id b
count_append id [] b = omega arith
count_append id (i ∷ a) b = let more = count_append id a b in omega (arith, more)

some_count : (id : ℕ) (code : Code) → defined code id ≡ true → 1 ≤ count_of id code
some_count id [] h = absurd (true≢false (sym h))
some_count id (i ∷ code) h = by_case (defines i id) (some_count id code) h
  where
    by_case : (b : Bool) → (defined code id ≡ true → 1 ≤ count_of id code) → (b || defined code id) ≡ true → 1 ≤ one_if b + count_of id code
    by_case true more h = omega arith
    by_case false more h = let c = more h in omega (arith, c)

once_from : (bound : ℕ) (before code : Code) → ((id : ℕ) → count_of id before + count_of id code ≤ 1) → ((id : ℕ) → 1 ≤ count_of id code → (1 ≤ id) × (id < bound)) → Passes (defines_once bound) before code
once_from bound before [] once within = tt
once_from bound before (i ∷ code) once within =
    let rest = once_from bound (i ∷ before) code (λ id. let o = once id in omega (arith, o)) (λ id c. within id (omega (arith, c))) in
    (by_result (result (read i)) refl, rest)
  where
    by_result : (o : Option ℕ) → result (read i) ≡ o → is_new bound before o ≡ true
    by_result None e = refl
    by_result (Some r) e =
        let here : one_if (defines i r) ≡ 1 = ap one_if (ap (is_id r) e ∙ eq-eqb r r refl) in
        let bounds = within r (omega (arith, here)) in
        and_from _ _ (and_from _ _ (le-leb 1 r bounds.0) (lt-ltb r bound bounds.1)) (not_from_false _ (by_before (defined before r) refl here))
      where
        by_before : (b : Bool) → defined before r ≡ b → one_if (defines i r) ≡ 1 → defined before r ≡ false
        by_before true h here = let c = some_count r before h in let o = once r in absurd (omega (arith, here, c, o))
        by_before false h here = h

module _ (s : Sections) (main : ℕ) (local_size : List ℕ) (set : Option ℕ) (imports : s.imports ≡ imports_of set) (apart : AreApart (s.last + 1) (all_of s)) where
  modes_none : (id : ℕ) (stage : Stage) → count_of id (modes stage main local_size) ≡ 0
  unfolding form_of
  modes_none id Vertex = refl
  modes_none id Fragment = refl
  modes_none id Compute = refl

  head_count : (id : ℕ) → count_of id (head s main local_size set) ≡ count_of id (imports_of set) + count_of id (modes s.stage main local_size)
  unfolding form_of
  head_count id =
      let entry = entry_point s.stage main (interface_of s.globals) in
      let a = count_append id capabilities (imports_of set) in
      let b = count_append id (capabilities ++ imports_of set) memory_models in
      let c = count_append id (capabilities ++ imports_of set ++ memory_models) (entry ∷ []) in
      let d = count_append id (capabilities ++ imports_of set ++ memory_models ++ entry ∷ []) (modes s.stage main local_size) in
      let x : count_of id capabilities ≡ 0 = refl in
      let y : count_of id memory_models ≡ 0 = refl in
      let z : count_of id (entry ∷ []) ≡ 0 = refl in
      omega (arith, a, b, c, d, x, y, z)

  count_is : (id : ℕ) → count_of id (front s main local_size set ++ s.functions) ≡ count_of id (all_of s)
  count_is id =
      let import = ap (count_of id) imports in
      let none = modes_none id s.stage in
      let heads = head_count id in
      let top = head s main local_size set in
      let a = count_append id top s.names in
      let b = count_append id (top ++ s.names) s.decorations in
      let c = count_append id (top ++ s.names ++ s.decorations) s.globals in
      let d = count_append id (top ++ s.names ++ s.decorations ++ s.globals) s.functions in
      let e = count_append id s.imports s.names in
      let f = count_append id (s.imports ++ s.names) s.decorations in
      let g = count_append id (s.imports ++ s.names ++ s.decorations) s.globals in
      let h = count_append id (s.imports ++ s.names ++ s.decorations ++ s.globals) s.functions in
      omega (arith, import, none, heads, a, b, c, d, e, f, g, h)

  pub once_kept : Passes (defines_once (s.last + 1)) [] (module_of s main local_size).instrs
  once_kept =
      subst (Passes (defines_once (s.last + 1)) []) (sym (parts_are s main local_size set imports))
      (once_from (s.last + 1) [] (front s main local_size set ++ s.functions)
      (λ id. let e = count_is id in let o = apart.once id in omega (arith, e, o))
      (λ id c. let e = count_is id in let some : 1 ≤ count_of id (all_of s) = omega (arith, e, c) in (apart.least id some, apart.below id some)))
