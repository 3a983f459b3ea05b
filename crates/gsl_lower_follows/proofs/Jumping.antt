-- Branches to labels.
use Rattle.std.proofs.Common.{◌≡◌, refl, sym, ap, ◌∙◌, ℕ, suc, ◌+◌, List, [], ◌∷◌, ◌++◌, length, append_assoc, Some, arith}
use Rattle.std.proofs.lemmas.List.{append_cancel_left, length-append}
use Rattle.gsl_base.specs.declared.input.Input.{Input}
use Rattle.gsl_instr.specs.Forms.{form_of}
use Rattle.gsl_instr.specs.declared.op.TheConstants as op
use Rattle.gsl_words.specs.Instructions.{word_count}
use Rattle.gsl_words.specs.declared.module.Instr.{Instr}
use Rattle.gsl_words.specs.declared.module.Module.{Module}
use Rattle.gsl_valid.specs.Instruction.{read}
use Rattle.gsl_valid.specs.Placed.{Code, Placed, placed_from, words_from}
use Rattle.gsl_machine.specs.Functions.{from_label}
use Rattle.gsl_machine.specs.Machine.{behind as going_on, run, step}
use Rattle.gsl_machine.specs.State.{Going, State, on}
use Rattle.gsl_machine.specs.Steps.{act, branching, in_new_block}
use Rattle.gsl_spv.specs.Calls.{put}
use Rattle.gsl_spv.specs.Declarations.{instr}
use Rattle.gsl_spv.specs.Sections.{Sections}
use Rattle.gsl_lower_follows.specs.Frames.{Frame, Inside, body, coming}
use Rattle.gsl_lower_follows.specs.Stretching.{Stretch}
use Rattle.gsl_lower_follows.proofs.Placing.{coming_before, coming_is, placed_length}
use Rattle.gsl_lower_follows.proofs.Stretches.{stretch_of}

module _ (m : Module) (input : Input) (whole : Sections) (f : Frame m input whole) where
  label_is : ℕ → Instr
  label_is label = instr op.LABEL (label ∷ [])

  -- what is found at a label
  pub label_found : (b : Sections) (label : ℕ) → Inside m input whole f b → Inside m input whole f (put op.LABEL (label ∷ []) b)
      → (at : ℕ) × (from_label (body m input whole f) label ≡ Some (record { at = at; instr = instr op.LABEL (label ∷ []) } ∷ coming m input whole f (put op.LABEL (label ∷ []) b)))
  label_found b label here there =
      let at = words_from f.first here.done in
      let i = instr op.LABEL (label ∷ []) in
      let done : there.done ≡ here.done ++ i ∷ [] = append_cancel_left f.before there.done (here.done ++ i ∷ []) (sym there.is ∙ ap (λ l. l ++ i ∷ []) here.is ∙ append_assoc f.before here.done (i ∷ [])) in
      let all : f.code ≡ here.done ++ i ∷ there.more = there.all ∙ ap (λ l. l ++ there.more) done ∙ append_assoc here.done (i ∷ []) there.more in
      let words : at + word_count i ≡ words_from f.first there.done = sym (ap (words_from f.first) done ∙ words_on f.first here.done i) in
      (at, f.labels here.done there.more label all ∙ ap (λ l. Some (record { at = at; instr = i } ∷ l)) (ap (λ n. placed_from n there.more) words ∙ sym (coming_is m input whole f (put op.LABEL (label ∷ []) b) there)))
    where
      words_on : (first : ℕ) (a : Code) (i : Instr) → words_from first (a ++ i ∷ []) ≡ words_from first a + word_count i
      words_on first [] i = refl
      words_on first (j ∷ a) i = words_on (first + word_count j) a i

  -- A state at the beginning of a block: behind its label, with what lasts for the function.
  abbrev pub begun_at : State → Sections → State
  begun_at state b = record state { rest = coming m input whole f b; ids = f.own }

  -- From an instruction that branches to a label, to behind that label.
  pub jumps : (i : Instr) (label : ℕ) (b before : Sections) (state : State) (units : ℕ) → Inside m input whole f b → Inside m input whole f before → Inside m input whole f (put op.LABEL (label ∷ []) before)
      → state.rest ≡ coming m input whole f b → state.body ≡ body m input whole f → state.own ≡ f.own → (rest : Code) → before.functions ≡ b.functions ++ (i ∷ rest)
      → ((at : ℕ) (more : List Placed) → on (read i) (act m input at (record state { rest = more })) ≡ branching (record state { rest = more }) label)
      → Stretch m input 0 0 units state units (Going (begun_at state (put op.LABEL (label ∷ []) before)))
  unfolding form_of
  jumps i label b before state units here there behind rest_is within own rest puts acts =
      stretch_of m input 2 units state (Going (begun_at state (put op.LABEL (label ∷ []) before))) (omega (arith, long, longer)) runs
    where
      first : (at : ℕ) × (coming m input whole f b ≡ placed_from at (i ∷ rest) ++ coming m input whole f before)
      first = coming_before m input whole f b before (i ∷ rest) here there puts

      second : (at : ℕ) × (coming m input whole f before ≡ placed_from at (instr op.LABEL (label ∷ []) ∷ []) ++ coming m input whole f (put op.LABEL (label ∷ []) before))
      second = coming_before m input whole f before (put op.LABEL (label ∷ []) before) (instr op.LABEL (label ∷ []) ∷ []) there behind refl

      more : List Placed
      more = placed_from (first.0 + word_count i) rest ++ coming m input whole f before

      whole_rest : state.rest ≡ record { at = first.0; instr = i } ∷ more
      whole_rest = rest_is ∙ first.1

      long : length state.rest ≡ suc (length rest + length (coming m input whole f before))
      long = ap length whole_rest ∙ ap suc (length-append (placed_from (first.0 + word_count i) rest) (coming m input whole f before) ∙ ap (λ n. n + length (coming m input whole f before)) (placed_length (first.0 + word_count i) rest))

      longer : length (coming m input whole f before) ≡ suc (length (coming m input whole f (put op.LABEL (label ∷ []) before)))
      longer = ap length second.1

      found : (at : ℕ) × (from_label (body m input whole f) label ≡ Some (record { at = at; instr = instr op.LABEL (label ∷ []) } ∷ coming m input whole f (put op.LABEL (label ∷ []) before)))
      found = label_found before label there behind

      at_label : State
      at_label = in_new_block (record state { rest = record { at = found.0; instr = instr op.LABEL (label ∷ []) } ∷ coming m input whole f (put op.LABEL (label ∷ []) before) })

      one : step m input state ≡ Going (in_new_block (record state { rest = record { at = found.0; instr = instr op.LABEL (label ∷ []) } ∷ coming m input whole f (put op.LABEL (label ∷ []) before) }))
      one = ap (λ l. step m input (record state { rest = l })) whole_rest ∙ acts first.0 more ∙ ap (λ body. on (from_label body label) (λ code. Going (in_new_block (record state { rest = code })))) within ∙ ap (λ o. on o (λ code. Going (in_new_block (record state { rest = code })))) found.1

      runs : run m input 2 state ≡ Going (begun_at state (put op.LABEL (label ∷ []) before))
      runs = ap (λ o. going_on o (run m input 1)) one ∙ ap (λ ids. Going (record state { rest = coming m input whole f (put op.LABEL (label ∷ []) before); ids = ids })) own
