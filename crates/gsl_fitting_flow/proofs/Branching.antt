-- Blocks that end in a choice or a branch, and the block that begins behind.
use Rattle.std.proofs.Common.{◌≡◌, ◌≢◌, ℕ, ◌<◌, ◌≤◌, true, cond, List, [], ◌∷◌, refl, sym, ap, ◌∙◌, subst, arith}
use Rattle.std.proofs.lemmas.Bool.{and_from, ne_eqb, not_from_false, or_left}
use Rattle.gsl_blocks.specs.declared.around.Around.{Around}
use Rattle.gsl_blocks.specs.declared.around.Due.{Due}
use Rattle.gsl_blocks.specs.Around.{in_arm, may_end}
use Rattle.gsl_blocks.specs.Order.{arm, run}
use Rattle.gsl_instr.specs.Forms.{form_of}
use Rattle.gsl_instr.specs.declared.op.TheConstants as op
use Rattle.gsl_instr.specs.declared.instruction.Instruction.TheVariants as instruction
use Rattle.gsl_types.specs.declared.ty.Scalar.TheVariants.{Bool as Boolean}
use Rattle.gsl_tree.specs.Shapes.{flag}
use Rattle.gsl_words.specs.declared.module.Instr.{Instr}
use Rattle.gsl_words.specs.declared.module.Module.{Module}
use Rattle.gsl_valid.specs.LimitRules.{most_constructs}
use Rattle.gsl_valid.specs.OperandRules.{is_bool_value}
use Rattle.gsl_valid.specs.Placed.{Code}
use Rattle.gsl_valid.specs.Types.{bool_type, defined_as, is_bool_shape}
use Rattle.gsl_spv.specs.Calls as call
use Rattle.gsl_spv.specs.Declarations.{instr}
use Rattle.gsl_spv.specs.Sections.{Sections}
use Rattle.gsl_lower_holders.specs.Flow.{Flow}
use Rattle.gsl_fitting.specs.Fits.{Behind, Fits, Frame, In, Sits, is_mark}
use Rattle.gsl_fitting_shapes.specs.Fresh.{Fresh, Selects}
use Rattle.gsl_fitting_shapes.proofs.Arms.{needs, needs_none, one_arm, two_arms}
use Rattle.gsl_fitting_types.specs.Making.{AreSorted, IsTypeOf, made}
use Rattle.gsl_fitting_types.proofs.Knowing.{scalar_type_is}
use Rattle.gsl_fitting_types.proofs.Stepping.{sits_read}
use Rattle.gsl_fitting_flow.specs.Flowing.{IsOf}
use Rattle.gsl_fitting_flow.proofs.Owing.{Bridge, FromTo, bridge_then, label_bridge, put_bridge}

-- ---- where flows lead

-- a choice between two ways, and the block of the first
abbrev pub chosen : ℕ → List ℕ → ℕ → Flow → Flow
chosen end operands first s =
    record { sections = call.put op.LABEL (first ∷ []) (call.put op.BRANCH_CONDITIONAL operands (call.put op.SELECTION_MERGE (end ∷ 0 ∷ []) s.sections)); place = record s.place { label = first } }

abbrev pub chosen_code : ℕ → List ℕ → ℕ → Code
chosen_code end operands first = instr op.SELECTION_MERGE (end ∷ 0 ∷ []) ∷ instr op.BRANCH_CONDITIONAL operands ∷ instr op.LABEL (first ∷ []) ∷ []

pub chosen_bridge : (m : Module) (end : ℕ) (operands : List ℕ) (first : ℕ) (s : Flow) → Bridge m (chosen_code end operands first) (first ∷ []) s.sections (chosen end operands first s).sections
unfolding form_of
chosen_bridge m end operands first s =
    let a = call.put op.SELECTION_MERGE (end ∷ 0 ∷ []) s.sections in
    let b = call.put op.BRANCH_CONDITIONAL operands a in
    bridge_then m (instr op.SELECTION_MERGE (end ∷ 0 ∷ []) ∷ []) (instr op.BRANCH_CONDITIONAL operands ∷ instr op.LABEL (first ∷ []) ∷ []) [] (first ∷ []) s.sections a (chosen end operands first s).sections (refl, tt) (put_bridge m op.SELECTION_MERGE (end ∷ 0 ∷ []) s.sections refl)
    (bridge_then m (instr op.BRANCH_CONDITIONAL operands ∷ []) (instr op.LABEL (first ∷ []) ∷ []) [] (first ∷ []) a b (chosen end operands first s).sections (refl, tt) (put_bridge m op.BRANCH_CONDITIONAL operands a refl) (label_bridge m first b))

-- a branch, and the block that begins behind it
abbrev pub jumped : ℕ → ℕ → Flow → Flow
jumped to next s = record { sections = call.put op.LABEL (next ∷ []) (call.put op.BRANCH (to ∷ []) s.sections); place = record s.place { label = next } }

abbrev pub jumped_code : ℕ → ℕ → Code
jumped_code to next = instr op.BRANCH (to ∷ []) ∷ instr op.LABEL (next ∷ []) ∷ []

pub jumped_bridge : (m : Module) (to next : ℕ) (s : Flow) → Bridge m (jumped_code to next) (next ∷ []) s.sections (jumped to next s).sections
unfolding form_of
jumped_bridge m to next s =
    let a = call.put op.BRANCH (to ∷ []) s.sections in
    bridge_then m (instr op.BRANCH (to ∷ []) ∷ []) (instr op.LABEL (next ∷ []) ∷ []) [] (next ∷ []) s.sections a (jumped to next s).sections (refl, tt) (put_bridge m op.BRANCH (to ∷ []) s.sections refl) (label_bridge m next a)

-- ---- a selection whose first arm is nothing

pub other_arm : (m : Module) (rank : ℕ → ℕ) (f : Frame) (given : List ℕ) (i j : Instr) (code : Code) (c : Around) (due : List Due) (label merge on_false least : ℕ) → Selects m rank f given i j merge merge on_false → Fresh c least → least ≤ on_false → merge ≢ on_false → on_false ≢ merge → c.depth < most_constructs
    → Fits m rank f code (Behind (run on_false (in_arm c merge) ∷ run merge c ∷ due)) → Fits m rank f (i ∷ j ∷ code) (In label c given due)
other_arm m rank f given i j code c due label merge on_false least s fresh le ne ne' deep fits =
    let none : arm c merge merge (arm c merge on_false (run merge c ∷ due)) ≡ arm c merge on_false (run merge c ∷ due) = ap (λ b. cond b (run merge (in_arm c merge) ∷ arm c merge on_false (run merge c ∷ due)) (arm c merge on_false (run merge c ∷ due))) (needs_none c merge) in
    let one : arm c merge on_false (run merge c ∷ due) ≡ run on_false (in_arm c merge) ∷ run merge c ∷ due = ap (λ b. cond b (run on_false (in_arm c merge) ∷ run merge c ∷ due) (run merge c ∷ due)) (needs c merge on_false least fresh le ne') in
    Fits.selects merge merge on_false s.merges s.forks (or_left _ _ (not_from_false _ (ne_eqb merge on_false ne))) deep s.first s.second (subst (λ ds. Fits m rank f code (Behind ds)) (sym (none ∙ one)) fits)

module _ (whole : Sections) (main : ℕ) (local_size : List ℕ) (rank : ℕ → ℕ) (f : Frame) (sorted : AreSorted whole) where
  abbrev m : Module
  m = made whole main local_size rank f

  -- ---- where they may stand

  pub merge_sits : (given : List ℕ) (end : ℕ) → is_mark m end ≡ true → Sits m rank f given (instr op.SELECTION_MERGE (end ∷ 0 ∷ []))
  unfolding form_of
  merge_sits given end mark = sits_read whole main local_size rank f given (instr op.SELECTION_MERGE (end ∷ 0 ∷ [])) (instruction.SelectionMerge end 0) refl refl refl (and_from _ _ mark refl) refl refl refl refl refl tt

  flag_is : (type : ℕ) → IsTypeOf whole flag type → bool_type (defined_as m type) ≡ true
  flag_is type of = ap is_bool_shape (scalar_type_is whole main local_size sorted Boolean type of)

  pub fork_sits : (given : List ℕ) (x type on_true on_false : ℕ) → IsTypeOf whole flag type → IsOf whole main local_size rank f given type x → is_mark m on_true ≡ true → is_mark m on_false ≡ true → Sits m rank f given (instr op.BRANCH_CONDITIONAL (x ∷ on_true ∷ on_false ∷ []))
  unfolding form_of
  fork_sits given x type on_true on_false of v first second =
      sits_read whole main local_size rank f given (instr op.BRANCH_CONDITIONAL (x ∷ on_true ∷ on_false ∷ [])) (instruction.BranchConditional x on_true on_false) refl refl (and_from _ _ v.known refl) (and_from _ _ first (and_from _ _ second refl))
      (ap (is_bool_value m) v.typed ∙ flag_is type of) refl refl refl refl tt

  pub branch_sits : (given : List ℕ) (to : ℕ) → is_mark m to ≡ true → Sits m rank f given (instr op.BRANCH (to ∷ []))
  unfolding form_of
  branch_sits given to mark = sits_read whole main local_size rank f given (instr op.BRANCH (to ∷ [])) (instruction.Branch to) refl refl refl (and_from _ _ mark refl) refl refl refl refl refl tt

  pub selects : (given : List ℕ) (x type end on_true on_false : ℕ) → IsTypeOf whole flag type → IsOf whole main local_size rank f given type x → is_mark m end ≡ true → is_mark m on_true ≡ true → is_mark m on_false ≡ true
      → Selects m rank f given (instr op.SELECTION_MERGE (end ∷ 0 ∷ [])) (instr op.BRANCH_CONDITIONAL (x ∷ on_true ∷ on_false ∷ [])) end on_true on_false
  unfolding form_of
  selects given x type end on_true on_false of v mark first second = record { merges = refl; forks = refl; first = merge_sits given end mark; second = fork_sits given x type on_true on_false of v first second }

  -- ---- code

  -- where the second of two ways is nothing
  pub first_way : (given : List ℕ) (x type end first least l : ℕ) (c : Around) (due : List Due) → IsTypeOf whole flag type → IsOf whole main local_size rank f given type x → is_mark m end ≡ true → is_mark m first ≡ true → Fresh c least → least ≤ first → first < end → c.depth < most_constructs
      → FromTo m rank f (chosen_code end (x ∷ first ∷ end ∷ []) first) (In l c given due) (In first (in_arm c end) [] (run end c ∷ due))
  unfolding form_of
  first_way given x type end first least l c due of v mark one fresh le lt deep =
      λ follows h. one_arm m rank f given (instr op.SELECTION_MERGE (end ∷ 0 ∷ [])) (instr op.BRANCH_CONDITIONAL (x ∷ first ∷ end ∷ [])) (instr op.LABEL (first ∷ []) ∷ follows) c due l end first least (selects given x type end first end of v mark one mark) fresh le
      (λ e. omega (arith, e, lt)) deep (Fits.opens refl h)

  -- where the first is
  pub second_way : (given : List ℕ) (x type end second least l : ℕ) (c : Around) (due : List Due) → IsTypeOf whole flag type → IsOf whole main local_size rank f given type x → is_mark m end ≡ true → is_mark m second ≡ true → Fresh c least → least ≤ second → second < end → c.depth < most_constructs
      → FromTo m rank f (chosen_code end (x ∷ end ∷ second ∷ []) second) (In l c given due) (In second (in_arm c end) [] (run end c ∷ due))
  unfolding form_of
  second_way given x type end second least l c due of v mark one fresh le lt deep =
      λ follows h. other_arm m rank f given (instr op.SELECTION_MERGE (end ∷ 0 ∷ [])) (instr op.BRANCH_CONDITIONAL (x ∷ end ∷ second ∷ [])) (instr op.LABEL (second ∷ []) ∷ follows) c due l end second least (selects given x type end end second of v mark mark one) fresh le
      (λ e. omega (arith, e, lt)) (λ e. omega (arith, e, lt)) deep (Fits.opens refl h)

  -- both ways
  pub two_ways : (given : List ℕ) (x type end near other least l : ℕ) (c : Around) (due : List Due) → IsTypeOf whole flag type → IsOf whole main local_size rank f given type x → is_mark m end ≡ true → is_mark m near ≡ true → is_mark m other ≡ true → Fresh c least → least ≤ near → near < other → other < end → c.depth < most_constructs
      → FromTo m rank f (chosen_code end (x ∷ near ∷ other ∷ []) near) (In l c given due) (In near (in_arm c end) [] (run other (in_arm c end) ∷ run end c ∷ due))
  unfolding form_of
  two_ways given x type end near other least l c due of v mark first second fresh le lt lt' deep =
      λ follows h. two_arms m rank f given (instr op.SELECTION_MERGE (end ∷ 0 ∷ [])) (instr op.BRANCH_CONDITIONAL (x ∷ near ∷ other ∷ [])) (instr op.LABEL (near ∷ []) ∷ follows) c due l end near other least (selects given x type end near other of v mark first second) fresh le (omega (arith, le, lt))
      (λ e. omega (arith, e, lt, lt')) (λ e. omega (arith, e, lt')) (λ e. omega (arith, e, lt)) deep (Fits.opens refl h)

  -- to the end of a run, and the next that is due
  pub jump_leads : (given : List ℕ) (to next l : ℕ) (c d : Around) (due : List Due) → is_mark m to ≡ true → may_end c to ≡ true → FromTo m rank f (jumped_code to next) (In l c given (run next d ∷ due)) (In next d [] due)
  unfolding form_of
  jump_leads given to next l c d due mark may = λ follows h. Fits.ends to refl may (branch_sits given to mark) (Fits.opens refl h)
