-- The code of functions passes a test where each instruction does that plays its part.
use Rattle.std.proofs.Common.{◌≡◌, ℕ, Bool, true, false, ◌||◌, IsTrue, List, [], ◌∷◌, ◌++◌, drop, length, Option, Some, None, refl, sym, ap, ◌∙◌, subst, ◌⊎◌, inl, inr, append_assoc}
use Rattle.std.specs.Prelude.{option_to_list, ◌==◌}
use Rattle.std.specs.List.{AllByRecursion}
use Rattle.std.proofs.lemmas.Bool.{cond-true, or_left, or_right, true≢false, eq-eqb, eqb-true, and_parts}
use Rattle.gsl_words.specs.declared.module.Instr.{Instr}
use Rattle.gsl_words.specs.declared.module.Module.{Module}
use Rattle.gsl_instr.specs.declared.instruction.Instruction.{Instruction}
use Rattle.gsl_instr.specs.declared.instruction.Instruction.TheVariants as instruction
use Rattle.gsl_blocks.specs.Blocks.{blocks_of}
use Rattle.gsl_valid.specs.CallRules.{id_in}
use Rattle.gsl_valid.specs.EntryRules.{is_among}
use Rattle.gsl_valid.specs.FunctionRules as shape
use Rattle.gsl_valid.specs.FunctionRules.{block_ends, in_block, may_begin, may_take}
use Rattle.gsl_valid.specs.Ids.{defined, defines, is_id, result}
use Rattle.gsl_valid.specs.IdsDefinedOnce.{defines_once}
use Rattle.gsl_valid.specs.Instruction.{read}
use Rattle.gsl_valid.specs.Kinds as kinds
use Rattle.gsl_valid.specs.Kinds.{Kind, kind}
use Rattle.gsl_valid.specs.LocalityRules.{of_function}
use Rattle.gsl_valid.specs.Placed.{Code}
use Rattle.gsl_valid.specs.Search.{Passes, Test, from_here, passed}
use Rattle.gsl_valid.specs.Sections.{may_come}
use Rattle.gsl_valid.specs.Types.{defined_as, function_begins, outside_of}
use Rattle.gsl_valid.specs.Where.{Standing, Outside, Begun, AtHead, Behind, bounds, bounds_one, block_begun, functions, inside_after, leaves, one_taken, section_in, stands_after, where_at}
use Rattle.gsl_valid.proofs.Lookups.{Has, definition_is, has_left, has_right}
use Rattle.gsl_valid.proofs.Searching.{behind_front, passed_append, passes_append}
use Rattle.gsl_fitting.specs.Fits as fits
use Rattle.gsl_fitting.specs.Fits.{At, Fits, Frame, Sits, given_behind, works}
use Rattle.gsl_fitting.specs.Functions.{AreFunctions, AreParameters, IsFunction, IsLocal, ids_of}
use Rattle.gsl_fitting_code.specs.Kept.{Stands, is_outer}
use Rattle.gsl_fitting_code.proofs.Fronts.{has_drop, outer_before, outer_stays}
use Rattle.gsl_fitting_code.proofs.Places.{Block, Outer, Owns, Plays, Within, block_step, body_own, body_step, here_behind, here_step, outer_step, owns_step, standing_at, within_step}
use Rattle.gsl_fitting_code.proofs.Places.Plays.{starting, parameter, opening, variable, inside, ending}
use Rattle.gsl_fitting_code.proofs.Roles.{ends_kind, merges_kind, opens_label}
use Rattle.gsl_fitting_code.proofs.Nests.{Nests, function_nests, passes_split}

-- What works in a block goes on in it.
record Goes (m : Module) (k : Kind) : Type 0 where
  bounds' : bounds k ≡ false
  one' : bounds_one k ≡ false
  section' : section_in true k ≡ functions
  stands' : (s : Standing) → in_block (stands_after m s k) ≡ true

works_goes : (m : Module) (k : Kind) → works k ≡ true → Goes m k
works_goes m (kinds.Calls type function arguments) h = record { bounds' = refl; one' = refl; section' = refl; stands' = λ s. refl }
works_goes m (kinds.Gives type) h = record { bounds' = refl; one' = refl; section' = refl; stands' = λ s. refl }
works_goes m kinds.Does h = record { bounds' = refl; one' = refl; section' = refl; stands' = λ s. refl }
works_goes m _ h = absurd (true≢false (sym h))

-- Ids of a function ---------------------------------------------------------------------------------------------------

among_defined : (code : Code) (id : ℕ) → is_among (ids_of code) id ≡ true → defined code id ≡ true
among_defined [] id h = absurd (true≢false (sym h))
among_defined (i ∷ code) id h = by_result (result (read i)) refl (among_defined code id) h
  where
    by_result : (o : Option ℕ) → result (read i) ≡ o → (is_among (ids_of code) id ≡ true → defined code id ≡ true) → is_among (ids_of (i ∷ code)) id ≡ true → defined (i ∷ code) id ≡ true
    by_result None e more h = or_right (defines i id) _ (more (ap (λ o. is_among (option_to_list o ++ ids_of code) id) (sym e) ∙ h))
    by_result (Some r) e more h = by_case (r == id) refl (ap (λ o. is_among (option_to_list o ++ ids_of code) id) (sym e) ∙ h)
      where
        by_case : (b : Bool) → (r == id) ≡ b → (b || is_among (ids_of code) id) ≡ true → defined (i ∷ code) id ≡ true
        by_case true same h = or_left _ _ (ap (is_id id) e ∙ same)
        by_case false same h = or_right (defines i id) _ (more h)

defined_split : (a b : Code) (id : ℕ) → defined (a ++ b) id ≡ true → (defined a id ≡ true) ⊎ (defined b id ≡ true)
defined_split [] b id h = inr h
defined_split (i ∷ a) b id h = by_case (defines i id) (defined_split a b id) h
  where
    by_case : (c : Bool) {x y z : Bool} → (y ≡ true → (x ≡ true) ⊎ (z ≡ true)) → (c || y) ≡ true → ((c || x) ≡ true) ⊎ (z ≡ true)
    by_case true more h = inl refl
    by_case false more h = more h

among_split : (a b : Code) (id : ℕ) → is_among (ids_of (a ++ b)) id ≡ true → (defined a id ≡ true) ⊎ (defined b id ≡ true)
among_split a b id h = defined_split a b id (among_defined (a ++ b) id h)

-- An instruction of some code defines an id for its function.
record Own (code : Code) (id : ℕ) : Type 0 where
  instr : Instr
  has : Has code instr
  gives : result (read instr) ≡ Some id
  own : of_function (read instr) ≡ true

own_one : (code : Code) (id : ℕ) → AllByRecursion (λ i. of_function (read i) ≡ true) code → defined code id ≡ true → Own code id
own_one [] id all h = absurd (true≢false (sym h))
own_one (i ∷ code) id all h = by_case (defines i id) refl (own_one code id all.1) h
  where
    by_result : (o : Option ℕ) → is_id id o ≡ true → o ≡ Some id
    by_result None h = absurd (true≢false (sym h))
    by_result (Some r) h = ap Some (eqb-true r id h)

    by_case : (c : Bool) → defines i id ≡ c → (defined code id ≡ true → Own code id) → (c || defined code id) ≡ true → Own (i ∷ code) id
    by_case true e more h = record { instr = i; has = inl refl; gives = by_result (result (read i)) e; own = all.0 }
    by_case false e more h = let o = more h in record { instr = o.instr; has = inr o.has; gives = o.gives; own = o.own }

-- The walk ---------------------------------------------------------------------------------------------------------------

module _ {m : Module} {rank : ℕ → ℕ} (test : Test) (passes : (before : Code) (i : Instr) → Plays m rank before i → IsTrue (test before i)) where
  -- Code stands behind a block.
  record Past (f : Frame) (before : Code) : Type 0 where
    within : Within m f.function before
    standing : standing_at m before ≡ Behind
    owns : Owns m f.own before

  -- What is known of a function as a whole.
  record Whole (f : Frame) : Type 0 where
    own : (id : ℕ) → is_among f.own id ≡ true → of_function (defined_as m id) ≡ true
    id : id_in (kind (Some f.function)) ≡ Some f.id

  abbrev Inv : Frame → At → Code → Type 0
  Inv f (fits.In l c given ds) before = Block m f.function given before × Owns m f.own before
  Inv f (fits.Behind ds) before = Past f before

  module _ (f : Frame) (whole : Whole f) where
    -- behind the label of a block
    opened : (i : Instr) (before : Code) (l : ℕ) → read i ≡ Some (instruction.Label l) → Past f before → IsTrue (test before i) × (Block m f.function [] (i ∷ before) × Owns m f.own (i ∷ before))
    opened i before l reads p = (
      passes before i (opening (record { function = f.function; label = l; reads = reads; standing = ap may_begin p.standing; within = p.within })),
      (
        record {
          within = within_step m i before kinds.Opens (ap kind reads) refl refl p.within;
          standing = ap (λ k. in_block (stands_after m (standing_at m before) k)) (ap kind reads) ∙ ap (λ s. in_block (block_begun s)) p.standing;
          gave = λ id h. absurd (true≢false (sym h));
        },
        owns_step m i before kinds.Opens (ap kind reads) refl p.owns,
      ),
    )

    -- an instruction that plays its part in a block
    sat : (i : Instr) (before : Code) (given : List ℕ) → (works (kind (read i)) ≡ true) ⊎ ((kind (read i) ≡ kinds.Leaves) ⊎ ((kind (read i) ≡ kinds.Merges) × (block_ends (drop 1 (from_here m before)) ≡ true)))
        → Sits m rank f given i → Block m f.function given before → Owns m f.own before → IsTrue (test before i)
    sat i before given is sits b o = passes before i (inside (record { frame = f; given = given; is = is; sits = sits; block = b; owns = o; own = whole.own; id = whole.id }))

    -- behind the last instruction of a block
    left : (i : Instr) (before : Code) (given : List ℕ) → kind (read i) ≡ kinds.Leaves → Block m f.function given before → Owns m f.own before → Past f (i ∷ before)
    left i before given is b o = record {
      within = within_step m i before kinds.Leaves is refl refl b.within;
      standing = ap (stands_after m (standing_at m before)) is;
      owns = owns_step m i before kinds.Leaves is refl o;
    }

    -- behind a merge
    merged : (i : Instr) (before : Code) (given : List ℕ) → kind (read i) ≡ kinds.Merges → Block m f.function given before → Block m f.function given (i ∷ before)
    merged i before given is b =
        let on = block_step m i before kinds.Merges is refl refl refl refl b in
        record { within = on.within; standing = on.standing; gave = λ id h. on.gave id (among_more (result (read i)) given id h) }
      where
        among_more : (o : Option ℕ) (given : List ℕ) (id : ℕ) → is_among given id ≡ true → is_among (option_to_list o ++ given) id ≡ true
        among_more None given id h = h
        among_more (Some r) given id h = or_right (r == id) _ h

    ends_here : (before : Code) (i j : Instr) (code : Code) → from_here m before ≡ i ∷ j ∷ code → kind (read j) ≡ kinds.Leaves → block_ends (drop 1 (from_here m before)) ≡ true
    ends_here before i j code here is = ap (λ c. block_ends (drop 1 c)) here ∙ ap leaves is

    -- a merge and the last instruction behind it
    both : (i j : Instr) (code before : Code) (given : List ℕ) → kind (read i) ≡ kinds.Merges → kind (read j) ≡ kinds.Leaves → from_here m before ≡ i ∷ j ∷ code → Sits m rank f given i → Sits m rank f given j
        → Block m f.function given before → Owns m f.own before → (IsTrue (test before i) × IsTrue (test (i ∷ before) j)) × Past f (j ∷ i ∷ before)
    both i j code before given merges ends here one two b o =
        let on = merged i before given merges b in
        let owned = owns_step m i before kinds.Merges merges refl o in
        ((sat i before given (inr (inr (merges, ends_here before i j code here ends))) one b o, sat j (i ∷ before) given (inr (inl ends)) two on owned), left j (i ∷ before) given ends on owned)

    over_fits : (rest code : Code) (at : At) → Fits m rank f code at → (before : Code) → from_here m before ≡ code ++ rest → Inv f at before → Passes test before code × Past f (passed before code)
    over_fits rest _ _ Fits.over before here p = (tt, p)
    over_fits rest _ _ (Fits.opens {i} {code} {l} {c} {ds} role on) before here p =
        let one = opened i before l (opens_label (read i) l role) p in
        let later = over_fits rest code _ on (i ∷ before) (here_step m before i (code ++ rest) here) one.1 in
        ((one.0, later.0), later.1)
    over_fits rest _ _ (Fits.goes {i} {code} {l} {c} {given} {ds} work sits on) before here p =
        let g = works_goes m (kind (read i)) work in
        let later = over_fits rest code _ on (i ∷ before) (here_step m before i (code ++ rest) here) (block_step m i before (kind (read i)) refl g.bounds' g.one' g.section' (g.stands' (standing_at m before)) p.0, owns_step m i before (kind (read i)) refl g.one' p.1) in
        ((sat i before given (inl work) sits p.0 p.1, later.0), later.1)
    over_fits rest _ _ (Fits.ends {i} {code} {l} {c} {given} {ds} t role may sits on) before here p =
        let is = ends_kind (read i) _ role in
        let later = over_fits rest code _ on (i ∷ before) (here_step m before i (code ++ rest) here) (left i before given is p.0 p.1) in
        ((sat i before given (inr (inl is)) sits p.0 p.1, later.0), later.1)
    over_fits rest _ _ (Fits.leads {i} {code} {l} {c} {given} {ds} t role may sits on) before here p =
        let is = ends_kind (read i) _ role in
        let later = over_fits rest code _ on (i ∷ before) (here_step m before i (code ++ rest) here) (left i before given is p.0 p.1) in
        ((sat i before given (inr (inl is)) sits p.0 p.1, later.0), later.1)
    over_fits rest _ _ (Fits.turns {i} {code} {l} {c} {given} {ds} t u role may sits on) before here p =
        let is = ends_kind (read i) _ role in
        let later = over_fits rest code _ on (i ∷ before) (here_step m before i (code ++ rest) here) (left i before given is p.0 p.1) in
        ((sat i before given (inr (inl is)) sits p.0 p.1, later.0), later.1)
    over_fits rest _ _ (Fits.leaves {i} {code} {l} {c} {given} {ds} role may sits on) before here p =
        let is = ends_kind (read i) _ role in
        let later = over_fits rest code _ on (i ∷ before) (here_step m before i (code ++ rest) here) (left i before given is p.0 p.1) in
        ((sat i before given (inr (inl is)) sits p.0 p.1, later.0), later.1)
    over_fits rest _ _ (Fits.selects {i} {j} {code} {l} {c} {given} {ds} n t u merge role may below one two on) before here p =
        let two' = both i j (code ++ rest) before given (merges_kind (read i) _ merge) (ends_kind (read j) _ role) here one two p.0 p.1 in
        let later = over_fits rest code _ on (j ∷ i ∷ before) (here_step m (i ∷ before) j (code ++ rest) (here_step m before i (j ∷ (code ++ rest)) here)) two'.1 in
        ((two'.0.0, (two'.0.1, later.0)), later.1)
    over_fits rest _ _ (Fits.chooses {i} {j} {code} {l} {c} {given} {ds} n default targets arms merge role differ named below one two on) before here p =
        let two' = both i j (code ++ rest) before given (merges_kind (read i) _ merge) (ends_kind (read j) _ role) here one two p.0 p.1 in
        let later = over_fits rest code _ on (j ∷ i ∷ before) (here_step m (i ∷ before) j (code ++ rest) (here_step m before i (j ∷ (code ++ rest)) here)) two'.1 in
        ((two'.0.0, (two'.0.1, later.0)), later.1)
    over_fits rest _ _ (Fits.loops {i} {j} {code} {l} {c} {given} {ds} n k b merge role new below one two on) before here p =
        let two' = both i j (code ++ rest) before given (merges_kind (read i) _ merge) (ends_kind (read j) _ role) here one two p.0 p.1 in
        let later = over_fits rest code _ on (j ∷ i ∷ before) (here_step m (i ∷ before) j (code ++ rest) (here_step m before i (j ∷ (code ++ rest)) here)) two'.1 in
        ((two'.0.0, (two'.0.1, later.0)), later.1)

  -- parameters and variables ------------------------------------------------------------------------------------------

  over_parameters : (function : Instruction) (types : List ℕ) (code : Code) → AreParameters m types code → (before : Code) → Within m function before → standing_at m before ≡ Begun types
      → Passes test before code × (Within m function (passed before code) × (standing_at m (passed before code) ≡ Begun []))
  over_parameters function _ _ AreParameters.none before w s = (tt, (w, s))
  over_parameters function _ _ (AreParameters.one {type = type} {types = types} {i = i} {code = code} id reads known on) before w s =
      let here = passes before i (parameter (record { function = function; type = type; id = id; reads = reads; known = known; standing = ap (may_take type) s ∙ eq-eqb type type refl; within = w })) in
      let later = over_parameters function types code on (i ∷ before) (within_step m i before (kinds.Takes type) (ap kind reads) refl refl w)
      (ap (λ k. stands_after m (standing_at m before) k) (ap kind reads) ∙ ap one_taken s) in
      ((here, later.0), later.1)

  over_variables : (function : Instruction) (code : Code) → AllByRecursion (IsLocal m) code → (before : Code) → Within m function before → standing_at m before ≡ AtHead
      → Passes test before code × (Within m function (passed before code) × (standing_at m (passed before code) ≡ AtHead))
  over_variables function [] all before w s = (tt, (w, s))
  over_variables function (i ∷ code) all before w s =
      let here = passes before i (variable (record { function = function; holds = all.0; standing = s; within = w })) in
      let later = over_variables function code all.1 (i ∷ before) (within_step m i before (kind (read i)) refl (ap (λ d. bounds_one (kind d)) all.0.reads) (ap (λ d. section_in true (kind d)) all.0.reads) w)
      (ap (λ d. stands_after m (standing_at m before) (kind d)) all.0.reads ∙ s) in
      ((here, later.0), later.1)

-- what a function's instructions define is in its body
body_kept : (m : Module) (code before : Code) (id : ℕ) → AllByRecursion (λ i. bounds_one (kind (read i)) ≡ false) code → defined (where_at m before).body id ≡ true → defined (where_at m (passed before code)).body id ≡ true
body_kept m [] before id all h = h
body_kept m (i ∷ code) before id all h = body_kept m code (i ∷ before) id all.1 (body_step m i before (kind (read i)) id refl all.0 h)

body_has : (m : Module) (code before : Code) (id : ℕ) → AllByRecursion (λ i. bounds_one (kind (read i)) ≡ false) code → defined code id ≡ true → defined (where_at m (passed before code)).body id ≡ true
body_has m [] before id all h = absurd (true≢false (sym h))
body_has m (i ∷ code) before id all h = by_case (defines i id) refl (body_has m code (i ∷ before) id all.1) h
  where
    by_case : (c : Bool) → defines i id ≡ c → (defined code id ≡ true → defined (where_at m (passed (i ∷ before) code)).body id ≡ true) → (c || defined code id) ≡ true → defined (where_at m (passed (i ∷ before) code)).body id ≡ true
    by_case true e more h = body_kept m code (i ∷ before) id all.1 (body_own m i before (kind (read i)) id refl all.0 e)
    by_case false e more h = more h

parameters_stay : (m : Module) (types : List ℕ) (code : Code) → AreParameters m types code → AllByRecursion (λ i. bounds_one (kind (read i)) ≡ false) code × AllByRecursion (λ i. of_function (read i) ≡ true) code
parameters_stay m _ _ AreParameters.none = (tt, tt)
parameters_stay m _ _ (AreParameters.one {types = types} {i = i} {code = code} id reads known on) =
    let more = parameters_stay m types code on in ((ap (λ d. bounds_one (kind d)) reads, more.0), (ap of_function reads, more.1))

variables_stay : (m : Module) (code : Code) → AllByRecursion (IsLocal m) code → AllByRecursion (λ i. bounds_one (kind (read i)) ≡ false) code × AllByRecursion (λ i. of_function (read i) ≡ true) code
variables_stay m [] all = (tt, tt)
variables_stay m (i ∷ code) all = let more = variables_stay m code all.1 in ((ap (λ d. bounds_one (kind d)) all.0.reads, more.0), (ap of_function all.0.reads, more.1))

-- A whole function ---------------------------------------------------------------------------------------------------

-- Code stands between functions.
pub record Between (m : Module) (before : Code) : Type 0 where
  pub standing : shape.outside (standing_at m before) ≡ true
  pub section : may_come (where_at m before).section functions ≡ true
  pub outer : Outer m before

module _ {m : Module} {rank : ℕ → ℕ} {front functions' : Code} (stands : Stands m rank front functions') (code later : Code) (f : IsFunction m rank code) (before : Code) (here : from_here m before ≡ code ++ later) where
  abbrev tail : Code
  tail = f.variables ++ (f.body ++ (f.ending ∷ []))

  abbrev frame : Frame
  frame = record { function = instruction.Function f.type f.id 0 f.function_type; id = f.id; first = f.label; own = ids_of (f.parameters ++ f.variables) }

  here_is : from_here m before ≡ f.begin ∷ ((f.parameters ++ (f.opening ∷ tail)) ++ later)
  here_is = here ∙ ap (λ c. c ++ later) f.is

  has_one : (i : Instr) → Has (f.parameters ++ (f.opening ∷ tail)) i → Has m.instrs i
  has_one i has = has_drop (length before) m.instrs i (subst (λ c. Has c i) (sym here_is) (inr (has_left (f.parameters ++ (f.opening ∷ tail)) later i has)))

  own_is : (id : ℕ) → is_among frame.own id ≡ true → of_function (defined_as m id) ≡ true
  own_is id h = elim (among_split f.parameters f.variables id h) [
    | inl p ↦ let o = own_one f.parameters id (parameters_stay m _ f.parameters f.takes).1 p in
        ap of_function (definition_is m.bound [] m.instrs o.instr id stands.once (has_one o.instr (has_left f.parameters (f.opening ∷ tail) o.instr o.has)) o.gives) ∙ o.own
    | inr v ↦ let o = own_one f.variables id (variables_stay m f.variables f.holds).1 v in
        ap of_function (definition_is m.bound [] m.instrs o.instr id stands.once (has_one o.instr (has_right f.parameters (f.opening ∷ tail) o.instr (inr (has_left f.variables (f.body ++ (f.ending ∷ [])) o.instr o.has)))) o.gives) ∙ o.own
  ]

  own_held : (id : ℕ) → is_among frame.own id ≡ true → defined (where_at m (passed (f.opening ∷ passed (f.begin ∷ before) f.parameters) f.variables)).body id ≡ true
  own_held id h =
      let opened = f.opening ∷ passed (f.begin ∷ before) f.parameters in
      let variables = (variables_stay m f.variables f.holds).0 in
      elim (among_split f.parameters f.variables id h) [
        | inl p ↦ body_kept m f.variables opened id variables
            (body_step m f.opening (passed (f.begin ∷ before) f.parameters) kinds.Opens id (ap kind f.opens) refl (body_has m f.parameters (f.begin ∷ before) id (parameters_stay m _ f.parameters f.takes).0 p))
        | inr v ↦ body_has m f.variables opened id variables v
      ]

module _ {m : Module} {rank : ℕ → ℕ} {front functions' : Code} (stands : Stands m rank front functions') (test : Test) (passes : (before : Code) (i : Instr) → Plays m rank before i → IsTrue (test before i)) where
  over_function : (code later : Code) → IsFunction m rank code → (before : Code) → from_here m before ≡ code ++ later → Passes (defines_once m.bound) before (code ++ later) → Between m before → Passes test before code × Between m (passed before code)
  over_function code later f before here once b =
      let fn = instruction.Function f.type f.id 0 f.function_type in
      let tail = f.variables ++ (f.body ++ (f.ending ∷ [])) in
      let b1 = f.begin ∷ before in
      let b2 = passed b1 f.parameters in
      let b3 = f.opening ∷ b2 in
      let b4 = passed b3 f.variables in
      let b5 = passed b4 f.body in
      let begins = ap kind f.begins in
      let known = and_parts (defined (outside_of m) f.type) _ f.uses in
      let start = passes before f.begin (starting (record {
        type = f.type;
        id = f.id;
        function_type = f.function_type;
        reads = f.begins;
        result = f.result;
        type_known = known.0;
        function_known = (and_parts (defined (outside_of m) f.function_type) true known.1).0;
        standing = b.standing;
        section = b.section;
        outer = b.outer;
        nests = subst (λ c. Nests (blocks_of c)) (sym here) (function_nests m rank code later f before once);
      })) in
      let w1 : Within m fn b1 = record {
        section = ap (section_in (where_at m before).inside) begins;
        inside = ap (inside_after (where_at m before).inside) begins;
        holder = cond-true _ _ _ (ap function_begins f.begins) ∙ f.begins;
        outer = outer_step m f.begin before b.outer;
      } in
      let p = over_parameters test passes fn _ f.parameters f.takes b1 w1 (ap (stands_after m (standing_at m before)) begins) in
      let begun = passes b2 f.opening (opening (record { function = fn; label = f.label; reads = f.opens; standing = ap may_begin p.1.1; within = p.1.0 })) in
      let w3 = within_step m f.opening b2 kinds.Opens (ap kind f.opens) refl refl p.1.0 in
      let v = over_variables test passes fn f.variables f.holds b3 w3 (ap (stands_after m (standing_at m b2)) (ap kind f.opens) ∙ ap block_begun p.1.1) in
      let here2 = here_behind m b1 f.parameters ((f.opening ∷ tail) ++ later) (here_step m before f.begin _ (here_is stands code later f before here) ∙ append_assoc f.parameters (f.opening ∷ tail) later) in
      let here4 = here_behind m b3 f.variables ((f.body ++ (f.ending ∷ [])) ++ later) (here_step m b2 f.opening (tail ++ later) here2 ∙ append_assoc f.variables (f.body ++ (f.ending ∷ [])) later) in
      let fits = over_fits test passes (frame stands code later f before here) (record { own = own_is stands code later f before here; id = refl }) ((f.ending ∷ []) ++ later) f.body _ f.fits b4 (here4 ∙ append_assoc f.body (f.ending ∷ []) later)
      (record { within = v.1.0; standing = ap in_block v.1.1; gave = λ id h. absurd (true≢false (sym h)) }, record { holds = own_held stands code later f before here }) in
      let end = passes b5 f.ending (ending (record { function = fn; reads = f.ends; standing = fits.1.standing; within = fits.1.within })) in
      let between : Between m (f.ending ∷ b5) = record {
        standing = ap (λ k. shape.outside (stands_after m (standing_at m b5) k)) (ap kind f.ends);
        section = ap (λ k. may_come (section_in (where_at m b5).inside k) functions) (ap kind f.ends);
        outer = outer_step m f.ending b5 fits.1.within.outer;
      } in
      let ends_at : passed before (f.begin ∷ (f.parameters ++ (f.opening ∷ tail))) ≡ f.ending ∷ b5 =
      passed_append b1 f.parameters (f.opening ∷ tail) ∙ passed_append b3 f.variables (f.body ++ (f.ending ∷ [])) ∙ passed_append b4 f.body (f.ending ∷ []) in
      subst (λ c. Passes test before c × Between m (passed before c)) (sym f.is) (
        (start, passes_append test b1 f.parameters (f.opening ∷ tail) p.0 (begun, passes_append test b3 f.variables (f.body ++ (f.ending ∷ [])) v.0 (passes_append test b4 f.body (f.ending ∷ []) fits.0 (end, tt)))),
        subst (Between m) (sym ends_at) between,
      )

  over_functions : (code : Code) → AreFunctions m rank code → (before : Code) → from_here m before ≡ code → Passes (defines_once m.bound) before code → Between m before → Passes test before code × Between m (passed before code)
  over_functions _ AreFunctions.none before here once b = (tt, b)
  over_functions _ (AreFunctions.one {first = first} {more = more} f rest) before here once b =
      let one = over_function first more f before here once b in
      let on = over_functions more rest (passed before first) (here_behind m before first more here) (passes_split (defines_once m.bound) before first more once).1 one.1 in
      (passes_append test before first more one.0 on.0, subst (Between m) (sym (passed_append before first more)) on.1)

  front_outside : (code before : Code) → AllByRecursion (λ i. is_outer (kind (read i)) ≡ true) code → standing_at m before ≡ Outside → standing_at m (passed before code) ≡ Outside
  front_outside [] before all h = h
  front_outside (i ∷ code) before all h = front_outside code (i ∷ before) all.1 (outer_stays m (kind (read i)) (standing_at m before) all.0 ∙ h)

  walked : Passes test (passed [] front) functions' × Between m (passed (passed [] front) functions')
  walked =
      over_functions functions' stands.each (passed [] front) (ap (drop (length (passed [] front))) stands.is ∙ behind_front front functions')
      (passes_split (defines_once m.bound) [] front functions' (subst (Passes (defines_once m.bound) []) stands.is stands.once)).1
      (record { standing = ap shape.outside (front_outside front [] stands.outer refl); section = stands.section; outer = outer_before stands [] })

  pub functions_pass : Passes test (passed [] front) functions'
  functions_pass = walked.0

-- Behind the functions code stands outside of them, in their section or before it.
pub functions_end : {m : Module} {rank : ℕ → ℕ} {front functions' : Code} → Stands m rank front functions' → Between m (passed (passed [] front) functions')
functions_end stands = (walked stands (λ before i. true) (λ before i plays. refl)).1
