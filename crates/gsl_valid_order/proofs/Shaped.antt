-- The pass over functions finds what V10 finds.
use Rattle.std.proofs.Common.{◌≡◌, ℕ, ◌+◌, Bool, true, [], ◌∷◌, length, drop, None, refl, ap, sym, ◌∙◌, arith}
use Rattle.gsl_words.specs.declared.module.Instr.{Instr}
use Rattle.gsl_words.specs.declared.module.Module.{Module}
use Rattle.gsl_valid.specs.Instruction.{read}
use Rattle.gsl_valid.specs.Kinds.{kind}
use Rattle.gsl_valid.specs.Placed.{Code, placed, header_size}
use Rattle.gsl_valid.specs.Search.{first_broken, from_here, whole, passed}
use Rattle.gsl_valid.specs.Where.{Outside, where_at, stands_after}
use Rattle.gsl_valid.specs.FunctionRules.{may_stand_here, in_shape}
use Rattle.gsl_valid.proofs.Searching.{behind_front}
use Rattle.gsl_ids.specs.Pass.{first_failed, kept}
use Rattle.gsl_ids.proofs.Passes.{same_place, tells_all}
use Rattle.gsl_ids.proofs.Stands.{Stands, at_start, one_on}
use Rattle.gsl_valid_order.specs.Seen.{Reached}

abbrev pub passes : Reached → ℕ → Instr → Bool
passes s at i = may_stand_here s.of (drop (at + 1) s.of.instrs) s.standing (kind (read i))

abbrev pub behind : Reached → ℕ → Instr → Reached
behind s at i = record { of = s.of; standing = stands_after s.of s.standing (kind (read i)) }

-- before the first instruction of a module
abbrev pub at_first : Module → Reached
at_first m = record { of = m; standing = Outside }

module _ (m : Module) where
  -- What the pass keeps.
  record Tells (before code : Code) (s : Reached) : Type 0 where
    same : s.of ≡ m
    stands : Stands m before code
    standing : s.standing ≡ (where_at m before).standing

  -- the code behind the instruction that stands here
  code_behind : (before code : Code) (i : Instr) → Stands m before (i ∷ code) → drop 1 (from_here m before) ≡ code
  code_behind before code i t =
      ap (drop 1) (ap (λ b. drop (length b) m.instrs) t.behind ∙ ap (drop (length (passed [] t.front))) t.whole ∙ behind_front t.front (i ∷ code))

  next_code : (before code : Code) (i : Instr) → Stands m before (i ∷ code) → drop (length before + 1) m.instrs ≡ code
  next_code before code i t =
      let n = one_on m before code i t in
      let count : length before + 1 ≡ length (i ∷ before) = omega arith in
      ap (λ k. drop k m.instrs) (count ∙ ap length n.behind) ∙ ap (drop (length (passed [] n.front))) n.whole ∙ behind_front n.front code

  agrees : (before code : Code) (s : Reached) (i : Instr) → Tells before (i ∷ code) s → passes s (length before) i ≡ in_shape m before i
  agrees before code s i t =
      ap (λ n. may_stand_here n (drop (length before + 1) n.instrs) s.standing (kind (read i))) t.same
      ∙ ap (λ l. may_stand_here m l s.standing (kind (read i))) (next_code before code i t.stands ∙ sym (code_behind before code i t.stands))
      ∙ ap (λ w. may_stand_here m (drop 1 (from_here m before)) w (kind (read i))) t.standing

  goes_on : (before code : Code) (s : Reached) (i : Instr) → Tells before (i ∷ code) s → in_shape m before i ≡ true → Tells (i ∷ before) code (behind s (length before) i)
  goes_on before code s i t passed =
      record {
        same = t.same;
        stands = one_on m before code i t.stands;
        standing = ap (λ n. stands_after n s.standing (kind (read i))) t.same ∙ ap (λ w. stands_after m w (kind (read i))) t.standing;
      }

  pub finds : first_failed passes behind (at_first m) 0 (placed m) ≡ first_broken (in_shape m) m
  finds =
      same_place passes behind (in_shape m) Tells agrees goes_on [] (at_first m) 0 header_size m.instrs refl
      (record { same = refl; stands = at_start m; standing = refl })

  pub ends : first_broken (in_shape m) m ≡ None → (kept passes behind (at_first m) 0 (placed m)).standing ≡ (where_at m (whole m)).standing
  ends none =
      (tells_all passes behind (in_shape m) Tells agrees goes_on [] (at_first m) 0 header_size m.instrs refl
      (record { same = refl; stands = at_start m; standing = refl }) none).standing
