-- Sections of a compute shader that writes 0 into its block are sound.
use Rattle.std.proofs.Common.{◌≡◌, ℕ, ◌+◌, ◌<◌, ◌≤◌, Bool, true, false, ◌||◌, [], ◌∷◌, ◌++◌, Option, Some, None, refl, ap, ◌∙◌, subst, arith}
use Rattle.std.proofs.lemmas.Bool.{and_parts, eqb-true, leb-true, ltb-true, or_left, true≢false}
use Rattle.gsl_base.specs.declared.stage.Stage.TheVariants.{Compute}
use Rattle.gsl_words.specs.declared.target.Target.TheVariants.{V10}
use Rattle.gsl_instr.specs.Forms.{form_of}
use Rattle.gsl_instr.specs.declared.op.TheConstants as op
use Rattle.gsl_valid.specs.Ids.{defined, defines, is_id, result}
use Rattle.gsl_valid.specs.IdsDefinedOnce.{defines_once, is_new}
use Rattle.gsl_valid.specs.Instruction.{read}
use Rattle.gsl_valid.specs.Placed.{Code}
use Rattle.gsl_valid.specs.Search.{Passes}
use Rattle.gsl_valid.proofs.Example.{decorations, globals, i, names}
use Rattle.gsl_spv.specs.Finished.{module_of}
use Rattle.gsl_spv.specs.Growing.{all_of}
use Rattle.gsl_spv.specs.Sections.{Sections}
use Rattle.gsl_fitting.specs.Fits.{Fits}
use Rattle.gsl_fitting.specs.Functions.{AreFunctions, AreParameters}
use Rattle.gsl_fitting_code.proofs.Labels.{not_again}
use Rattle.gsl_fitting_sections.specs.Sections.{AreApart, AreSound, count_of, one_if}

-- Ids that are defined once are kept apart ---------------------------------------------------------------------------------

none_count : (id : ℕ) (code : Code) → defined code id ≡ false → count_of id code ≡ 0
none_count id [] h = refl
none_count id (j ∷ code) h = by_case (defines j id) h (none_count id code)
  where
    by_case : (b : Bool) → (b || defined code id) ≡ false → (defined code id ≡ false → count_of id code ≡ 0) → one_if b + count_of id code ≡ 0
    by_case true h more = absurd (true≢false h)
    by_case false h more = let c = more h in omega (arith, c)

module _ (bound : ℕ) where
  once_count : (before code : Code) → Passes (defines_once bound) before code → (id : ℕ) → count_of id code ≤ 1
  once_count before [] once id = omega arith
  once_count before (j ∷ code) once id = by_case (defines j id) refl (once_count (j ∷ before) code once.1 id)
    where
      by_case : (b : Bool) → defines j id ≡ b → count_of id code ≤ 1 → one_if b + count_of id code ≤ 1
      by_case true e more = let none = none_count id code (not_again bound (j ∷ before) code id once.1 (or_left _ _ e)) in omega (arith, none)
      by_case false e more = omega (arith, more)

  bounds : (before code : Code) → Passes (defines_once bound) before code → (id : ℕ) → 1 ≤ count_of id code → (1 ≤ id) × (id < bound)
  bounds before [] once id h = absurd (omega (arith, h))
  bounds before (j ∷ code) once id h = by_result (result (read j)) refl once.0 (bounds (j ∷ before) code once.1 id) h
    where
      by_result : (o : Option ℕ) → result (read j) ≡ o → is_new bound before o ≡ true → (1 ≤ count_of id code → (1 ≤ id) × (id < bound)) → 1 ≤ one_if (defines j id) + count_of id code → (1 ≤ id) × (id < bound)
      by_result None e new more h = let none : one_if (defines j id) ≡ 0 = ap (λ o. one_if (is_id id o)) e in more (omega (arith, h, none))
      by_result (Some r) e new more h = by_case (is_id id (Some r)) refl
        where
          by_case : (b : Bool) → is_id id (Some r) ≡ b → (1 ≤ id) × (id < bound)
          by_case true is =
              let same : r ≡ id = eqb-true r id is in
              let parts = and_parts _ _ (and_parts _ _ new).0 in
              subst (λ x. (1 ≤ x) × (x < bound)) same (leb-true 1 r parts.0, ltb-true r bound parts.1)
          by_case false is = let none : one_if (defines j id) ≡ 0 = ap (λ o. one_if (is_id id o)) e ∙ ap one_if is in more (omega (arith, h, none))

apart : (bound : ℕ) (code : Code) → Passes (defines_once bound) [] code → AreApart bound code
apart bound code once = record { once = once_count bound [] code once; least = λ id h. (bounds bound [] code once id h).0; below = λ id h. (bounds bound [] code once id h).1 }

-- The example -----------------------------------------------------------------------------------------------------------------

abbrev body : Code
body = i op.ACCESS_CHAIN (8 ∷ 11 ∷ 9 ∷ 10 ∷ []) ∷ i op.STORE (11 ∷ 10 ∷ []) ∷ i op.RETURN [] ∷ []

abbrev main : Code
main = i op.FUNCTION (2 ∷ 1 ∷ 0 ∷ 3 ∷ []) ∷ i op.LABEL (4 ∷ []) ∷ body ++ i op.FUNCTION_END [] ∷ []

abbrev sections : Sections
sections = record { stage = Compute; target = V10; imports = []; names = names; decorations = decorations; globals = globals; functions = main ++ []; last = 13; wanting = false }

-- No function calls another.
abbrev rank : ℕ → ℕ
rank id = 0

main_fits : AreFunctions (module_of sections 1 (1 ∷ 1 ∷ 1 ∷ [])) rank (main ++ [])
unfolding form_of
main_fits = AreFunctions.one (record {
  type = 2;
  id = 1;
  function_type = 3;
  label = 4;
  begin = i op.FUNCTION (2 ∷ 1 ∷ 0 ∷ 3 ∷ []);
  parameters = [];
  opening = i op.LABEL (4 ∷ []);
  variables = [];
  body = body;
  ending = i op.FUNCTION_END [];
  is = refl;
  begins = refl;
  result = refl;
  uses = refl;
  takes = AreParameters.none;
  opens = refl;
  holds = tt;
  fits = Fits.goes refl (record { numbers = refl; uses = refl; names = refl; operands = refl; memory = refl; extended = refl; leaves = refl; limits = refl; calls = tt }) (Fits.goes refl (record { numbers = refl; uses = refl; names = refl; operands = refl; memory = refl; extended = refl; leaves = refl; limits = refl; calls = tt }) (Fits.leaves refl refl (record { numbers = refl; uses = refl; names = refl; operands = refl; memory = refl; extended = refl; leaves = refl; limits = refl; calls = tt }) Fits.over));
  ends = refl;
}) AreFunctions.none

example_sound : AreSound sections 1 (1 ∷ 1 ∷ 1 ∷ [])
unfolding form_of
example_sound = record {
  set = None;
  rank = rank;
  bound = omega arith;
  apart = apart 14 (all_of sections) (refl, (refl, (refl, (refl, (refl, (refl, (refl, (refl, (refl, (refl, (refl, (refl, (refl, (refl, (refl, (refl, (refl, (refl, (refl, (refl, tt))))))))))))))))))));
  imports = refl;
  names = (record { is = refl; numbers = refl; names = refl }, (record { is = refl; numbers = refl; names = refl }, tt));
  decorations = (record { decoration = _; is = refl; numbers = refl; names = refl; kept = refl; entry = refl }, (record { decoration = _; is = refl; numbers = refl; names = refl; kept = refl; entry = refl }, (record { decoration = _; is = refl; numbers = refl; names = refl; kept = refl; entry = refl }, (record { decoration = _; is = refl; numbers = refl; names = refl; kept = refl; entry = refl }, tt))));
  globals = (record { is = refl; numbers = refl; uses = refl; made = refl; fixed = refl; holds = refl; marked = refl; laid = refl; limits = refl }, (record { is = refl; numbers = refl; uses = refl; made = refl; fixed = refl; holds = refl; marked = refl; laid = refl; limits = refl }, (record { is = refl; numbers = refl; uses = refl; made = refl; fixed = refl; holds = refl; marked = refl; laid = refl; limits = refl }, (record { is = refl; numbers = refl; uses = refl; made = refl; fixed = refl; holds = refl; marked = refl; laid = refl; limits = refl }, (record { is = refl; numbers = refl; uses = refl; made = refl; fixed = refl; holds = refl; marked = refl; laid = refl; limits = refl }, (record { is = refl; numbers = refl; uses = refl; made = refl; fixed = refl; holds = refl; marked = refl; laid = refl; limits = refl }, (record { is = refl; numbers = refl; uses = refl; made = refl; fixed = refl; holds = refl; marked = refl; laid = refl; limits = refl }, (record { is = refl; numbers = refl; uses = refl; made = refl; fixed = refl; holds = refl; marked = refl; laid = refl; limits = refl }, tt))))))));
  functions = main_fits;
  shallow = λ id. omega arith;
  main_is = refl;
  uncalled = refl;
  sizes = (refl, refl);
}
