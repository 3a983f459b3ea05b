-- The pass over sections finds what V1 finds.
use Rattle.std.proofs.Common.{◌≡◌, ℕ, Bool, true, false, ◌&&◌, [], ◌∷◌, length, None, refl, ap, ◌∙◌}
use Rattle.gsl_words.specs.declared.module.Instr.{Instr}
use Rattle.gsl_words.specs.declared.module.Module.{Module}
use Rattle.gsl_valid.specs.Instruction.{read, is_such}
use Rattle.gsl_valid.specs.Placed.{Code, placed, header_size}
use Rattle.gsl_valid.specs.Search.{first_broken, whole}
use Rattle.gsl_valid.specs.Where.{where_at, section_of, in_function_after}
use Rattle.gsl_valid.specs.Sections.{may_come, has_numbers, in_section}
use Rattle.gsl_ids.specs.Pass.{first_failed, kept}
use Rattle.gsl_ids.proofs.Passes.{same_place, tells_all}
use Rattle.gsl_valid_order.specs.declared.order.At.{At}

abbrev pub passes : At → ℕ → Instr → Bool
passes s at i = may_come s.section (section_of s.inside (read i)) && is_such (has_numbers s.of.now) (read i)

abbrev pub behind : At → ℕ → Instr → At
behind s at i = record { of = s.of; section = section_of s.inside (read i); inside = in_function_after s.inside (read i) }

module _ (m : Module) where
  -- What the pass keeps.
  record Tells (before code : Code) (s : At) : Type 0 where
    same : s.of.now ≡ m
    section : s.section ≡ (where_at m before).section
    inside : s.inside ≡ (where_at m before).inside

  agrees : (before code : Code) (s : At) (i : Instr) → Tells before (i ∷ code) s → passes s (length before) i ≡ in_section m before i
  agrees before code s i t =
      ap (λ n. may_come n (section_of s.inside (read i)) && is_such (has_numbers s.of.now) (read i)) t.section
      ∙ ap (λ b. may_come (where_at m before).section (section_of b (read i)) && is_such (has_numbers s.of.now) (read i)) t.inside
      ∙ ap (λ n. may_come (where_at m before).section (section_of (where_at m before).inside (read i)) && is_such (has_numbers n) (read i)) t.same

  goes_on : (before code : Code) (s : At) (i : Instr) → Tells before (i ∷ code) s → in_section m before i ≡ true → Tells (i ∷ before) code (behind s (length before) i)
  goes_on before code s i t passed =
      record {
        same = t.same;
        section = ap (λ b. section_of b (read i)) t.inside;
        inside = ap (λ b. in_function_after b (read i)) t.inside;
      }

  pub finds : (s : At) → s.of.now ≡ m → s.section ≡ 0 → s.inside ≡ false → first_failed passes behind s 0 (placed m) ≡ first_broken (in_section m) m
  finds s same section inside =
      same_place passes behind (in_section m) Tells agrees goes_on [] s 0 header_size m.instrs refl
      (record { same = same; section = section; inside = inside })

  pub ends : (s : At) → s.of.now ≡ m → s.section ≡ 0 → s.inside ≡ false → first_broken (in_section m) m ≡ None →
      (kept passes behind s 0 (placed m)).section ≡ (where_at m (whole m)).section
  ends s same section inside none =
      (tells_all passes behind (in_section m) Tells agrees goes_on [] s 0 header_size m.instrs refl
      (record { same = same; section = section; inside = inside }) none).section
