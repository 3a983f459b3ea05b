use Rattle.std.proofs.Common.{◌≡◌, length, refl, ap, sym, ◌∙◌, ◌∷◌, [], ℕ, ◌+◌}
use Rattle.gsl_words.specs.declared.module.Module.{Module}
use Rattle.gsl_words.specs.Instructions.{word_count}
use Rattle.gsl_valid.specs.Placed.{Code, placed, placed_from, header_size}
use Rattle.gsl_ids.specs.Pass.{first_failed}
use Rattle.gsl_valid_layouts.specs.Layouts.{passes, behind, instrs_of}
use Rattle.gsl_valid_layouts.proofs.Laying.{finds}
use Rattle.gsl_valid_layouts.proofs.layout.layouts.Goals as goal

same_instrs : (at : ℕ) (code : Code) → instrs_of (placed_from at code) ≡ code
same_instrs at [] = refl
same_instrs at (i ∷ code) = ap (λ c. i ∷ c) (same_instrs (at + word_count i) code)

pub first_unlaid-requires-clause-whole : goal.first_unlaid-requires-clause-whole
first_unlaid-requires-clause-whole c =
    ap instrs_of c.new-2.ensures ∙ same_instrs header_size c.module-module.result.now.instrs ∙ ap (λ (n : Module). n.instrs) (c.module-module.ensures ∙ c.definitions.ensures ∙ sym c.in_ok-reached.ensures)

pub returns : goal.returns
returns c =
    let m = c.args.decorations.now in
    c.in_ok-place.ensures ∙ ap (λ (n : Module). first_failed passes behind n 0 c.new-2.result) c.in_ok-reached.ensures
    ∙ ap (first_failed passes behind m 0) (c.new-2.ensures ∙ ap placed (c.module-module.ensures ∙ c.definitions.ensures)) ∙ finds m
