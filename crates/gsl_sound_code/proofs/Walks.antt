-- Over the code of a function: what all of its instructions have, its labels, and its parameters.
use Rattle.std.proofs.Common.{◌≡◌, refl, sym, ap, ◌∙◌, subst, ℕ, Bool, true, false, ◌&&◌, ◌||◌, if◌then◌else◌, List, [], ◌∷◌, drop, Option, Some, None, ◌⊎◌, inl, inr}
use Rattle.std.specs.List.{AllByRecursion, cons_option}
use Rattle.std.specs.Prelude.{◌==◌}
use Rattle.std.proofs.lemmas.Bool.{and_parts, cond-true, cond-false, eqb-true, true≢false, false≢true, cases_Bool}
use Rattle.gsl_instr.specs.declared.instruction.Instruction.{Instruction}
use Rattle.gsl_instr.specs.declared.instruction.Instruction.TheVariants as instruction
use Rattle.gsl_instr.specs.declared.op.TheConstants as op
use Rattle.gsl_instr.specs.Instructions.{arg}
use Rattle.gsl_words.specs.declared.module.Instr.{Instr}
use Rattle.gsl_words.specs.declared.module.Module.{Module}
use Rattle.gsl_valid.specs.CallRules.{is_last, takes}
use Rattle.gsl_valid.specs.FunctionRules.{gives, in_block, in_shape, is_due, may_be_variable, may_stand_here, may_take, none_due, outside}
use Rattle.gsl_valid.specs.FunctionRules as shape
use Rattle.gsl_valid.specs.Ids.{defines, result}
use Rattle.gsl_valid.specs.Instruction.{read, is_such}
use Rattle.gsl_valid.specs.Kinds.{Kind, Asks, Imports, Sets, Enters, Modes, Debugs, Decorates, Declares, Fixes, Holds, Begins, Takes, Calls, Gives, Does, Opens, Merges, Leaves, Ended, Absent, kind, kind_of}
use Rattle.gsl_valid.specs.Placed.{Code, Placed}
use Rattle.gsl_valid.specs.Search.{from_here}
use Rattle.gsl_valid.specs.Sections.{has_numbers, may_come}
use Rattle.gsl_valid.specs.Types.{defined_as}
use Rattle.gsl_valid.specs.Where.{Standing, Outside, Begun, AtHead, InBlock, AtMerge, Behind, block_begun, bounds_function, bounds_one, section_in, section_of, stands_after, where_at}
use Rattle.gsl_machine.specs.Functions as machine
use Rattle.gsl_machine.specs.Functions.{from_first_label, from_label, parameter_of}
use Rattle.gsl_sound_code.specs.Rules.{Keeps}
use Rattle.gsl_sound_code.specs.Spots.{AtLabel, Spot}
use Rattle.gsl_sound_code.proofs.Looks.{Kept}
use Rattle.gsl_sound_code.proofs.Opcodes.{end_op, label_op, opens, parameter_op, reads_label, reads_parameter}
use Rattle.gsl_sound_code.proofs.Spots.{next, section_stays}

-- ---- opcodes by kinds

pub ended_op : (i : Instr) (d : Option Instruction) → read i ≡ d → is_last (kind d) ≡ true → (i.op == op.FUNCTION_END) ≡ true
ended_op i None is last = absurd (false≢true last)
ended_op i (Some d) is last = end_op i d is last

pub taken_op : (i : Instr) (d : Option Instruction) → read i ≡ d → takes (kind d) ≡ true → (i.op == op.FUNCTION_PARAMETER) ≡ true
taken_op i None is has = absurd (false≢true has)
taken_op i (Some d) is has = parameter_op i d is has

pub opened_op : (i : Instr) (d : Option Instruction) → read i ≡ d → opens (kind d) ≡ true → (i.op == op.LABEL) ≡ true
opened_op i None is has = absurd (false≢true has)
opened_op i (Some d) is has = label_op i d is has

-- ---- from an instruction to the next

-- An instruction of a function is followed by these.
pub record Step (m : Module) (body : List Placed) (returned : ℕ) (before : Code) (p : Placed) (more : List Placed) : Type 0 where
  pub code : Code
  pub keeps : Keeps m before p.instr code
  pub goes : bounds_function (read p.instr) ≡ false → Spot m body returned (p.instr ∷ before) more
  pub ends : (p.instr.op == op.FUNCTION_END) ≡ true → more ≡ []

-- The label of a block was found.
pub record Arrived (m : Module) (body : List Placed) (returned : ℕ) (rest : List Placed) : Type 0 where
  pub before : Code
  pub spot : Spot m body returned before rest
  pub label : AtLabel rest

-- These ids are parameters of these types.
abbrev pub AreTaken : Module → List ℕ → List ℕ → Type 0
AreTaken m [] [] = Unit {0}
AreTaken m [] (id ∷ ids) = ⊥
AreTaken m (type ∷ types) [] = ⊥
AreTaken m (type ∷ types) (id ∷ ids) = (kind (defined_as m id) ≡ Takes type) × AreTaken m types ids

-- A function begins with parameters of these types and its first label.
pub record Entry (m : Module) (body : List Placed) (returned : ℕ) (types : List ℕ) (rest : List Placed) : Type 0 where
  pub arrived : Arrived m body returned (from_first_label rest)
  pub taken : AreTaken m types (machine.parameters_of rest)

module _ (m : Module) (kept : Kept m) (body : List Placed) (returned : ℕ) where
  pub step_of : (before : Code) (p : Placed) (more : List Placed) → Spot m body returned before (p ∷ more) → Step m body returned before p more
  step_of before p more spot =
      let n = next m kept body returned before (p ∷ more) spot in
      let same : n.first ≡ p = cc in
      let after : n.more ≡ more = cc in
      subst (Step m body returned before p) after (subst (λ q. Step m body returned before q n.more) same (record { code = n.code; keeps = n.keeps; goes = n.goes; ends = n.ends }))

  -- some code is to come
  pub not_over : (before : Code) → Spot m body returned before [] → ⊥
  not_over before spot = let n = next m kept body returned before [] spot in absurd (cc)

  shape_as : (before : Code) (i : Instr) (code : Code) (k : Kind) → Keeps m before i code → kind (read i) ≡ k → may_stand_here m (drop 1 (from_here m before)) (where_at m before).standing k ≡ true
  shape_as before i code k keeps is = ap (may_stand_here m (drop 1 (from_here m before)) (where_at m before).standing) (sym is) ∙ keeps.shape

  -- the code goes on, or this was its end
  pub decide : (before : Code) (p : Placed) (more : List Placed) → Spot m body returned before (p ∷ more) → (bounds_function (read p.instr) ≡ false) ⊎ (more ≡ [])
  decide before p more spot = by_kind (kind (read p.instr)) refl (step_of before p more spot)
    where
      by_kind : (k : Kind) → kind (read p.instr) ≡ k → Step m body returned before p more → (bounds_function (read p.instr) ≡ false) ⊎ (more ≡ [])
      by_kind (Begins type id function_type) is s =
          absurd (true≢false (sym (and_parts _ (gives type (defined_as m function_type)) (shape_as before p.instr s.code (Begins type id function_type) s.keeps is)).0 ∙ spot.started))
      by_kind Ended is s = inr (s.ends (ended_op p.instr (read p.instr) refl (ap is_last is)))
      by_kind _ is s = inl (ap bounds_one is)

  -- what each instruction of a function has, all have
  pub walk : (Q : Placed → Type 0) → ((before : Code) (p : Placed) (code : Code) → Keeps m before p.instr code → outside (where_at m before).standing ≡ false → Q p)
      → (before : Code) (rest : List Placed) → Spot m body returned before rest → AllByRecursion Q rest
  walk Q each before [] spot = tt
  walk Q each before (p ∷ rest) spot =
      let s = step_of before p rest spot in
      (each before p s.code s.keeps spot.started, elim (decide before p rest spot) [ inl on ↦ walk Q each (p.instr ∷ before) rest (s.goes on) | inr none ↦ subst (AllByRecursion Q) (sym none) tt ])

  -- the code from a label on
  pub at_label : (before : Code) (rest : List Placed) (label : ℕ) (found : List Placed) → Spot m body returned before rest → from_label rest label ≡ Some found → Arrived m body returned found
  at_label before [] label found spot is = absurd (cc)
  at_label before (p ∷ rest) label found spot is =
      by_test (p.instr.op == op.LABEL && defines p.instr label) refl
      (λ e. elim (decide before p rest spot) [
        | inl on ↦ at_label (p.instr ∷ before) rest label found ((step_of before p rest spot).goes on) e
        | inr none ↦ (let over : None ≡ Some found = ap (λ l. from_label l label) (sym none) ∙ e in absurd (cc))
      ]) is
    where
      by_test : (b : Bool) → (p.instr.op == op.LABEL && defines p.instr label) ≡ b → (from_label rest label ≡ Some found → Arrived m body returned found)
          → (if b then Some (p ∷ rest) else from_label rest label) ≡ Some found → Arrived m body returned found
      by_test true here later is =
          let same : p ∷ rest ≡ found = cc in
          subst (Arrived m body returned) same
          (record { before = before; spot = spot; label = record { first = p; more = rest; is = refl; label = arg p.instr.args 0; reads = reads_label p.instr (and_parts (p.instr.op == op.LABEL) (defines p.instr label) here).0 } })
      by_test false here later is = later is

  -- ---- parameters

  -- whether code stands in blocks or behind them
  abbrev Coded : Standing → Bool
  Coded s = in_block s || shape.behind s

  begun_coded : (s : Standing) → Coded (block_begun s) ≡ true
  begun_coded Outside = refl
  begun_coded (Begun types) = refl
  begun_coded AtHead = refl
  begun_coded InBlock = refl
  begun_coded AtMerge = refl
  begun_coded Behind = refl

  none_taken : (s : Standing) (type : ℕ) → Coded s ≡ true → may_take type s ≡ true → ⊥
  none_taken Outside type coded takes = false≢true coded
  none_taken (Begun types) type coded takes = false≢true coded
  none_taken AtHead type coded takes = false≢true takes
  none_taken InBlock type coded takes = false≢true takes
  none_taken AtMerge type coded takes = false≢true takes
  none_taken Behind type coded takes = false≢true takes

  coded_stays : (s : Standing) (k : Kind) → bounds_one k ≡ false → takes k ≡ false → Coded s ≡ true → Coded (stands_after m s k) ≡ true
  coded_stays s Asks bounds taken is = is
  coded_stays s Imports bounds taken is = is
  coded_stays s Sets bounds taken is = is
  coded_stays s (Enters model function name interface) bounds taken is = is
  coded_stays s (Modes function mode parts) bounds taken is = is
  coded_stays s Debugs bounds taken is = is
  coded_stays s (Decorates d) bounds taken is = is
  coded_stays s (Declares shape) bounds taken is = is
  coded_stays s (Fixes type value) bounds taken is = is
  coded_stays s (Holds v) bounds taken is = is
  coded_stays s (Begins type id function_type) bounds taken is = absurd (true≢false bounds)
  coded_stays s (Takes type) bounds taken is = absurd (true≢false taken)
  coded_stays s (Calls type function arguments) bounds taken is = refl
  coded_stays s (Gives type) bounds taken is = refl
  coded_stays s Does bounds taken is = refl
  coded_stays s Opens bounds taken is = begun_coded s
  coded_stays s Merges bounds taken is = refl
  coded_stays s Leaves bounds taken is = refl
  coded_stays s Ended bounds taken is = absurd (true≢false bounds)
  coded_stays s Absent bounds taken is = is

  -- where it does, no parameter comes
  untaken : (s : Standing) (later : Code) (k : Kind) → Coded s ≡ true → may_stand_here m later s k ≡ true → takes k ≡ false
  untaken s later (Takes type) coded may = absurd (none_taken s type coded may)
  untaken s later _ coded may = refl

  no_parameter : (p : Placed) → takes (kind (read p.instr)) ≡ false → parameter_of p ≡ None
  no_parameter p none = elim (cases_Bool (p.instr.op == op.FUNCTION_PARAMETER)) [
    | inl is ↦ absurd (true≢false (sym (ap (λ d. takes (kind d)) (reads_parameter p.instr is)) ∙ none))
    | inr is ↦ cond-false _ _ _ is
  ]

  none_later : (before : Code) (rest : List Placed) → Spot m body returned before rest → Coded (where_at m before).standing ≡ true → machine.parameters_of rest ≡ []
  none_later before [] spot coded = refl
  none_later before (p ∷ rest) spot coded =
      let s = step_of before p rest spot in
      let none = untaken (where_at m before).standing (drop 1 (from_here m before)) (kind (read p.instr)) coded s.keeps.shape in
      ap (λ o. cons_option o (machine.parameters_of rest)) (no_parameter p none) ∙ elim (decide before p rest spot) [
        | inl on ↦ none_later (p.instr ∷ before) rest (s.goes on) (coded_stays (where_at m before).standing (kind (read p.instr)) on none coded)
        | inr over ↦ ap machine.parameters_of over
      ]

  -- a label, at which a function begins that takes nothing more
  first_here : (before : Code) (p : Placed) (rest : List Placed) → Spot m body returned before (p ∷ rest) → kind (read p.instr) ≡ Opens → Entry m body returned [] (p ∷ rest)
  first_here before p rest spot is =
      let s = step_of before p rest spot in
      let label = opened_op p.instr (read p.instr) refl (ap opens is) in
      let here : from_first_label (p ∷ rest) ≡ p ∷ rest = cond-true _ _ _ label in
      let none : machine.parameters_of (p ∷ rest) ≡ [] =
      ap (λ o. cons_option o (machine.parameters_of rest)) (no_parameter p (ap takes is))
      ∙ none_later (p.instr ∷ before) rest (s.goes (ap bounds_one is)) (ap (λ k. Coded (stands_after m (where_at m before).standing k)) is ∙ begun_coded (where_at m before).standing) in
      record {
        arrived = subst (Arrived m body returned) (sym here) (record { before = before; spot = spot; label = record { first = p; more = rest; is = refl; label = arg p.instr.args 0; reads = reads_label p.instr label } });
        taken = subst (AreTaken m []) (sym none) tt;
      }

  -- a parameter, and what comes behind it
  one_more : (before : Code) (p : Placed) (rest : List Placed) (code : Code) (type : ℕ) (types : List ℕ) → Keeps m before p.instr code → kind (read p.instr) ≡ Takes type → Entry m body returned types rest → Entry m body returned (type ∷ types) (p ∷ rest)
  one_more before p rest code type types keeps is later =
      let parameter = taken_op p.instr (read p.instr) refl (ap takes is) in
      let reads = reads_parameter p.instr parameter in
      let id = arg p.instr.args 1 in
      let no_label : (p.instr.op == op.LABEL) ≡ false = elim (cases_Bool (p.instr.op == op.LABEL)) [
        | inl label ↦ absurd (true≢false (sym (ap (λ d. opens (kind d)) (reads_label p.instr label)) ∙ ap opens is))
        | inr none ↦ none
      ] in
      let behind : from_first_label (p ∷ rest) ≡ from_first_label rest = cond-false _ _ _ no_label in
      let first : parameter_of p ≡ Some id = cond-true _ _ _ parameter ∙ ap result reads in
      record {
        arrived = subst (Arrived m body returned) (sym behind) later.arrived;
        taken = subst (AreTaken m (type ∷ types)) (sym (ap (λ o. cons_option o (machine.parameters_of rest)) first)) (ap kind (keeps.own id (ap result reads)) ∙ is, later.taken);
      }

  abbrev Absents : Kind → Bool
  Absents Absent = true
  Absents _ = false

  not_absent : (d : Option Instruction) → is_such (has_numbers m) d ≡ true → Absents (kind d) ≡ false
  not_absent None such = absurd (false≢true such)
  not_absent (Some d) such = known d
    where
      known : (d : Instruction) → Absents (kind_of d) ≡ false
      known instruction.Kill = refl
      known _ = refl

  pub enter : (before : Code) (rest : List Placed) (types : List ℕ) → Spot m body returned before rest → (where_at m before).standing ≡ Begun types → Entry m body returned types rest
  enter before [] types spot begun = absurd (not_over before spot)
  enter before (p ∷ rest) types spot begun =
      by_kind (kind (read p.instr)) refl types
      (ap (λ s. may_stand_here m (drop 1 (from_here m before)) s (kind (read p.instr))) (sym begun) ∙ (step_of before p rest spot).keeps.shape)
      (section_stays m before p.instr (step_of before p rest spot).code (step_of before p rest spot).keeps spot.section)
      (λ types bounds stands. enter (p.instr ∷ before) rest types ((step_of before p rest spot).goes bounds) stands) begun
    where
      due : (type : ℕ) (types : List ℕ) → kind (read p.instr) ≡ Takes type → is_due type types ≡ true
          → ((types : List ℕ) → bounds_function (read p.instr) ≡ false → (where_at m (p.instr ∷ before)).standing ≡ Begun types → Entry m body returned types rest) → (where_at m before).standing ≡ Begun types
          → Entry m body returned types (p ∷ rest)
      due type [] is may later begun = absurd (false≢true may)
      due type (next ∷ types) is may later begun =
          let s = step_of before p rest spot in
          subst (λ t. Entry m body returned (t ∷ types) (p ∷ rest)) (sym (eqb-true next type may))
          (one_more before p rest s.code type types s.keeps is (later types (ap bounds_one is) (ap (stands_after m (where_at m before).standing) is ∙ ap (λ st. stands_after m st (Takes type)) begun)))

      by_kind : (k : Kind) → kind (read p.instr) ≡ k → (types : List ℕ) → may_stand_here m (drop 1 (from_here m before)) (Begun types) (kind (read p.instr)) ≡ true → section_of (where_at m before).inside (read p.instr) ≡ 9
          → ((types : List ℕ) → bounds_function (read p.instr) ≡ false → (where_at m (p.instr ∷ before)).standing ≡ Begun types → Entry m body returned types rest) → (where_at m before).standing ≡ Begun types
          → Entry m body returned types (p ∷ rest)
      by_kind (Takes type) is types may last later begun = due type types is (ap (may_stand_here m (drop 1 (from_here m before)) (Begun types)) (sym is) ∙ may) later begun
      by_kind Opens is [] may last later begun = first_here before p rest spot is
      by_kind Opens is (type ∷ types) may last later begun = absurd (false≢true (ap (may_stand_here m (drop 1 (from_here m before)) (Begun (type ∷ types))) (sym is) ∙ may))
      by_kind Absent is types may last later begun =
          let s = step_of before p rest spot in
          absurd (true≢false (sym (ap Absents is) ∙ not_absent (read p.instr) (and_parts (may_come (where_at m before).section (section_of (where_at m before).inside (read p.instr))) _ s.keeps.section).1))
      by_kind Asks is types may last later begun = absurd (false≢true (ap (λ k. section_in (where_at m before).inside k == 9) (sym is) ∙ ap (λ n. n == 9) last))
      by_kind Imports is types may last later begun = absurd (false≢true (ap (λ k. section_in (where_at m before).inside k == 9) (sym is) ∙ ap (λ n. n == 9) last))
      by_kind Sets is types may last later begun = absurd (false≢true (ap (λ k. section_in (where_at m before).inside k == 9) (sym is) ∙ ap (λ n. n == 9) last))
      by_kind (Enters model function name interface) is types may last later begun = absurd (false≢true (ap (λ k. section_in (where_at m before).inside k == 9) (sym is) ∙ ap (λ n. n == 9) last))
      by_kind (Modes function mode parts) is types may last later begun = absurd (false≢true (ap (λ k. section_in (where_at m before).inside k == 9) (sym is) ∙ ap (λ n. n == 9) last))
      by_kind Debugs is types may last later begun = absurd (false≢true (ap (λ k. section_in (where_at m before).inside k == 9) (sym is) ∙ ap (λ n. n == 9) last))
      by_kind (Decorates d) is types may last later begun = absurd (false≢true (ap (λ k. section_in (where_at m before).inside k == 9) (sym is) ∙ ap (λ n. n == 9) last))
      by_kind (Declares shape) is types may last later begun = absurd (false≢true (ap (λ k. section_in (where_at m before).inside k == 9) (sym is) ∙ ap (λ n. n == 9) last))
      by_kind (Fixes type value) is types may last later begun = absurd (false≢true (ap (λ k. section_in (where_at m before).inside k == 9) (sym is) ∙ ap (λ n. n == 9) last))
      by_kind k is types may last later begun = absurd (false≢true (ap (may_stand_here m (drop 1 (from_here m before)) (Begun types)) (sym is) ∙ may))
