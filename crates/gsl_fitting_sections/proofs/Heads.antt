-- What stands before names: a capability, an import, the memory model, the entry point and its modes.
use Rattle.std.proofs.Common.{◌≡◌, ℕ, ◌≤◌, true, false, IsTrue, List, [], ◌∷◌, Option, Some, None, refl, ap, arith}
use Rattle.std.specs.Prelude.{◌==◌}
use Rattle.std.specs.List.{AllByRecursion, list_all}
use Rattle.std.proofs.lemmas.Bool.{and_from, and_parts, or_left}
use Rattle.gsl_base.specs.declared.stage.Stage.{Stage}
use Rattle.gsl_base.specs.declared.stage.Stage.TheVariants.{Vertex, Fragment, Compute}
use Rattle.gsl_words.specs.declared.module.Instr.{Instr}
use Rattle.gsl_words.specs.declared.module.Module.{Module}
use Rattle.gsl_instr.specs.Forms.{form_of}
use Rattle.gsl_valid.specs.Instruction.{read}
use Rattle.gsl_valid.specs.Kinds.{kind}
use Rattle.gsl_valid.specs.Placed.{Code}
use Rattle.gsl_valid.specs.Search.{Passes, Test, passed}
use Rattle.gsl_valid.specs.Sections.{may_come}
use Rattle.gsl_valid.specs.Where.{Outside, where_at}
use Rattle.gsl_spv.specs.Finished.{entry_point, modes}
use Rattle.gsl_fitting_code.specs.Kept.{is_outer}
use Rattle.gsl_fitting_sections.specs.Sections.{HasSizes, is_lasting}
use Rattle.gsl_fitting_sections.proofs.Parts.{head_of}
use Rattle.gsl_fitting_sections.proofs.Outside.{Headed, Past, unmarked}

module _ (main : ℕ) (local_size : List ℕ) where
  pub head_outer : (set : Option ℕ) (stage : Stage) (interface : List ℕ) → AllByRecursion (λ i. is_outer (kind (read i)) ≡ true) (head_of main local_size set stage interface)
  unfolding form_of
  head_outer None Vertex interface = (refl, (refl, (refl, tt)))
  head_outer None Fragment interface = (refl, (refl, (refl, (refl, tt))))
  head_outer None Compute interface = (refl, (refl, (refl, (refl, tt))))
  head_outer (Some set) Vertex interface = (refl, (refl, (refl, (refl, tt))))
  head_outer (Some set) Fragment interface = (refl, (refl, (refl, (refl, (refl, tt)))))
  head_outer (Some set) Compute interface = (refl, (refl, (refl, (refl, (refl, tt)))))

  pub head_unmarked : (set : Option ℕ) (stage : Stage) (interface : List ℕ) → AllByRecursion (λ i. unmarked (kind (read i)) ≡ true) (head_of main local_size set stage interface)
  unfolding form_of
  head_unmarked None Vertex interface = (refl, (refl, (refl, tt)))
  head_unmarked None Fragment interface = (refl, (refl, (refl, (refl, tt))))
  head_unmarked None Compute interface = (refl, (refl, (refl, (refl, tt))))
  head_unmarked (Some set) Vertex interface = (refl, (refl, (refl, (refl, tt))))
  head_unmarked (Some set) Fragment interface = (refl, (refl, (refl, (refl, (refl, tt)))))
  head_unmarked (Some set) Compute interface = (refl, (refl, (refl, (refl, (refl, tt)))))

  past_of : (m : Module) (n : ℕ) (before : Code) → (where_at m before).inside ≡ false → (where_at m before).standing ≡ Outside → (where_at m before).section ≡ n → 4 ≤ n → n ≤ 5 → Past m 5 before
  past_of m n before inside standing section late early = record { inside = inside; standing = standing; late = omega (arith, section, late); early = omega (arith, section, early) }

  pub head_past : (m : Module) (set : Option ℕ) (stage : Stage) (interface : List ℕ) → Past m 5 (passed [] (head_of main local_size set stage interface))
  unfolding form_of
  head_past m None Vertex interface = past_of m 4 _ refl refl refl (omega arith) (omega arith)
  head_past m None Fragment interface = past_of m 5 _ refl refl refl (omega arith) (omega arith)
  head_past m None Compute interface = past_of m 5 _ refl refl refl (omega arith) (omega arith)
  head_past m (Some set) Vertex interface = past_of m 4 _ refl refl refl (omega arith) (omega arith)
  head_past m (Some set) Fragment interface = past_of m 5 _ refl refl refl (omega arith) (omega arith)
  head_past m (Some set) Compute interface = past_of m 5 _ refl refl refl (omega arith) (omega arith)

  module _ (m : Module) (test : Test) (passes : (before : Code) (i : Instr) → Headed m before i → IsTrue (test before i)) where
    entries_pass : (stage : Stage) (interface : List ℕ) → HasSizes stage local_size → list_all (is_lasting m) (main ∷ interface) ≡ true → (before : Code)
        → (where_at m before).section ≡ 3 → (where_at m before).inside ≡ false → (where_at m before).standing ≡ Outside → Passes test before (entry_point stage main interface ∷ modes stage main local_size)
    unfolding form_of
    entries_pass Vertex interface sizes named before section inside standing =
        let entry = entry_point Vertex main interface in
        (passes before entry (record { is = refl; inside = inside; standing = standing; comes = ap (λ n. may_come n 4) section; numbers = refl; uses = refl; names = named }), tt)
    entries_pass Fragment interface sizes named before section inside standing =
        let entry = entry_point Fragment main interface in
        let main_named = and_from _ _ (and_parts (is_lasting m main) _ named).0 refl in (
          passes before entry (record { is = refl; inside = inside; standing = standing; comes = ap (λ n. may_come n 4) section; numbers = refl; uses = refl; names = named }),
          (passes (entry ∷ before) _ (record { is = refl; inside = inside; standing = standing; comes = refl; numbers = refl; uses = refl; names = main_named }), tt),
        )
    entries_pass Compute interface sizes named before section inside standing =
        let entry = entry_point Compute main interface in
        let main_named = and_from _ _ (and_parts (is_lasting m main) _ named).0 refl in (
          passes before entry (record { is = refl; inside = inside; standing = standing; comes = ap (λ n. may_come n 4) section; numbers = refl; uses = refl; names = named }),
          (passes (entry ∷ before) _ (record { is = refl; inside = inside; standing = standing; comes = refl; numbers = or_left _ _ (and_from _ _ refl (ap (λ n. n == 3) sizes.0)); uses = refl; names = main_named }), tt),
        )

    pub head_pass : (set : Option ℕ) (stage : Stage) (interface : List ℕ) → HasSizes stage local_size → list_all (is_lasting m) (main ∷ interface) ≡ true → Passes test [] (head_of main local_size set stage interface)
    unfolding form_of
    head_pass None stage interface sizes named = (
      passes _ _ (record { is = refl; inside = refl; standing = refl; comes = refl; numbers = refl; uses = refl; names = refl }),
      (
        passes _ _ (record { is = refl; inside = refl; standing = refl; comes = refl; numbers = refl; uses = refl; names = refl }),
        entries_pass stage interface sizes named _ refl refl refl,
      ),
    )
    head_pass (Some set) stage interface sizes named = (
      passes _ _ (record { is = refl; inside = refl; standing = refl; comes = refl; numbers = refl; uses = refl; names = refl }),
      (
        passes _ _ (record { is = refl; inside = refl; standing = refl; comes = refl; numbers = refl; uses = refl; names = refl }),
        (
          passes _ _ (record { is = refl; inside = refl; standing = refl; comes = refl; numbers = refl; uses = refl; names = refl }),
          entries_pass stage interface sizes named _ refl refl refl,
        ),
      ),
    )
