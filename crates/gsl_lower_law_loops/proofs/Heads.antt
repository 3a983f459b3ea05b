-- The head of a loop, and its first block.
use Rattle.std.proofs.Common.{◌≡◌, refl, ap, ◌∙◌, ℕ, suc, ◌≤◌, [], ◌∷◌, length, arith}
use Rattle.gsl_base.specs.declared.input.Input.{Input}
use Rattle.gsl_instr.specs.Forms.{form_of}
use Rattle.gsl_instr.specs.declared.op.TheConstants as op
use Rattle.gsl_words.specs.declared.module.Module.{Module}
use Rattle.gsl_tree.specs.Around.{Around}
use Rattle.gsl_tree.specs.declared.program.Program.{Program}
use Rattle.gsl_meaning.specs.State as shader
use Rattle.gsl_machine.specs.Machine.{step}
use Rattle.gsl_machine.specs.State.{Going, State}
use Rattle.gsl_spv.specs.Calls.{put}
use Rattle.gsl_spv.specs.Declarations.{instr}
use Rattle.gsl_spv.specs.Growing.{Extends}
use Rattle.gsl_spv.specs.Sections.{Sections}
use Rattle.gsl_spv.proofs.Extending.{extends_then}
use Rattle.gsl_lower_law.proofs.Adding.{extends_put}
use Rattle.gsl_lower_holders.specs.Flow.{Flow, Gives, opening}
use Rattle.gsl_lower_stmt.specs.Parts.{enter_loop, loop_labels}
use Rattle.gsl_lower_follows.specs.Frames.{Frame, Good, Inside, coming}
use Rattle.gsl_lower_follows.specs.Giving.{Grown}
use Rattle.gsl_lower_follows.specs.Stretching.{Stretch, room}
use Rattle.gsl_lower_follows.proofs.Jumping.{begun_at, jumps}
use Rattle.gsl_lower_follows.proofs.Placing.{coming_before, inside_between}
use Rattle.gsl_lower_follows.proofs.Stretches.{stretch_one, stretch_then}
use Rattle.gsl_lower_law_stmt.proofs.Ways.{block_at, grown_block}
use Rattle.gsl_lower_law_loops.proofs.Units.{coming_less}

module _ (head first next end : ℕ) (b : Flow) where
  -- the flow at a loop's head, and at its first block
  abbrev pub at_head : Flow
  at_head = block_at head (put op.BRANCH (head ∷ []) b.sections) b

  abbrev merged : Sections
  merged = put op.LOOP_MERGE (end ∷ next ∷ 0 ∷ []) at_head.sections

  abbrev left_head : Sections
  left_head = put op.BRANCH (first ∷ []) merged

  abbrev pub at_first : Flow
  at_first = block_at first left_head b

  pub enters_is : (inner : ℕ) → enter_loop (loop_labels head first inner next end) b ≡ Gives tt at_first
  unfolding enter_loop opening
  enters_is inner = refl

  pub grown_head : Grown b at_head
  grown_head = grown_block head (put op.BRANCH (head ∷ []) b.sections) b (extends_put op.BRANCH (head ∷ []) b.sections)

  pub grown_first : Grown at_head at_first
  grown_first = record {
    extends = extends_then (extends_put op.LOOP_MERGE (end ∷ next ∷ 0 ∷ []) at_head.sections) (extends_then (extends_put op.BRANCH (first ∷ []) merged) (extends_put op.LABEL (first ∷ []) left_head));
    used = omega arith;
    place = refl;
  }

  module _ (m : Module) (input : Input) (sections : Sections) (f : Frame m input sections) (inside : Inside m input sections f b.sections) (inside_first : Inside m input sections f at_first.sections) where
    between : (c : Sections) → Extends b.sections c → Extends c at_first.sections → Inside m input sections f c
    between c one two = inside_between m input sections f b.sections c at_first.sections inside inside_first one two

    extends_left : Extends at_head.sections left_head
    extends_left = extends_then (extends_put op.LOOP_MERGE (end ∷ next ∷ 0 ∷ []) at_head.sections) (extends_put op.BRANCH (first ∷ []) merged)

    pub inside_before_head : Inside m input sections f (put op.BRANCH (head ∷ []) b.sections)
    inside_before_head = between (put op.BRANCH (head ∷ []) b.sections) (extends_put op.BRANCH (head ∷ []) b.sections) (extends_then (extends_put op.LABEL (head ∷ []) (put op.BRANCH (head ∷ []) b.sections)) grown_first.extends)

    pub inside_head : Inside m input sections f at_head.sections
    inside_head = between at_head.sections grown_head.extends grown_first.extends

    inside_merged : Inside m input sections f merged
    inside_merged = between merged (extends_then grown_head.extends (extends_put op.LOOP_MERGE (end ∷ next ∷ 0 ∷ []) at_head.sections)) (extends_then (extends_put op.BRANCH (first ∷ []) merged) (extends_put op.LABEL (first ∷ []) left_head))

    inside_left : Inside m input sections f left_head
    inside_left = between left_head (extends_then grown_head.extends extends_left) (extends_put op.LABEL (first ∷ []) left_head)

    module _ (p : Program) (around : Around) where
      -- to the head
      pub to_head : (s : shader.State) (units : ℕ) (state : State) → Good m input sections f p around b s state → Stretch m input 0 0 units state units (Going (begun_at m input sections f state at_head.sections))
      unfolding form_of
      to_head s units state good =
          jumps m input sections f (instr op.BRANCH (head ∷ [])) head b.sections (put op.BRANCH (head ∷ []) b.sections) state units inside inside_before_head inside_head good.rest good.within good.own [] refl (λ at more. refl)

      -- from the head to the first block
      pub from_head : (s : shader.State) (units : ℕ) (state : State) → Good m input sections f p around at_head s state → Stretch m input 0 0 units state units (Going (begun_at m input sections f state at_first.sections))
      unfolding form_of
      from_head s units state good =
          stretch_then m input 0 0 0 units units units state mid _ at_merge
          (jumps m input sections f (instr op.BRANCH (first ∷ [])) first merged left_head mid units inside_merged inside_left inside_first refl good.within good.own [] refl (λ at more. refl))
        where
          mid : State
          mid = record state { rest = coming m input sections f merged }

          merge : (at : ℕ) × (coming m input sections f at_head.sections ≡ record { at = at; instr = instr op.LOOP_MERGE (end ∷ next ∷ 0 ∷ []) } ∷ coming m input sections f merged)
          merge = coming_before m input sections f at_head.sections merged (instr op.LOOP_MERGE (end ∷ next ∷ 0 ∷ []) ∷ []) inside_head inside_merged refl

          at_merge : Stretch m input 0 0 units state units (Going mid)
          at_merge = stretch_one m input units state (Going mid) (let long : length state.rest ≡ suc (length (coming m input sections f merged)) = ap length (good.rest ∙ merge.1) in omega (arith, long)) (ap (λ l. step m input (record state { rest = l })) (good.rest ∙ merge.1))

      -- less is to come there
      pub first_less : (s : shader.State) (state : State) → Good m input sections f p around at_head s state → suc (room (begun_at m input sections f state at_first.sections)) ≤ room state
      first_less s state good =
          let less = coming_less m input sections f at_head.sections left_head first inside_head inside_left inside_first extends_left in
          let long : length state.rest ≡ length (coming m input sections f at_head.sections) = ap length good.rest in
          omega (arith, less, long)
