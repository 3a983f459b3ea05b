-- The variables of a module, and what their ids stand for in all functions.
use Rattle.std.proofs.Common.{◌≡◌, refl, sym, ap, ◌∙◌, subst, ℕ, Bool, true, false, ◌&&◌, if◌then◌else◌, [], ◌∷◌, Option, Some, None, inl, inr}
use Rattle.std.specs.Prelude.{◌==◌}
use Rattle.std.proofs.lemmas.Bool.{and_parts, cond-false, true≢false, false≢true}
use Rattle.gsl_instr.specs.declared.enumerant.storage_class.TheConstants as storage_class
use Rattle.gsl_instr.specs.declared.instruction.Instruction.{Instruction}
use Rattle.gsl_instr.specs.declared.instruction.Instruction.TheVariants as instruction
use Rattle.gsl_words.specs.declared.module.Instr.{Instr}
use Rattle.gsl_words.specs.declared.module.Module.{Module}
use Rattle.gsl_valid.specs.FunctionRules.{is_local_of, may_be_variable, may_stand_here, outside}
use Rattle.gsl_valid.specs.Ids.{definition, defines, result}
use Rattle.gsl_valid.specs.Instruction.{read}
use Rattle.gsl_valid.specs.Kinds.{Kind, Holds, Begins, Ended, Variable, kind, variable_in, variable_is}
use Rattle.gsl_valid.specs.Placed.{Code}
use Rattle.gsl_valid.specs.Types.{Target, before_functions, begins, defined_as, function_begins, outside_of, target_of}
use Rattle.gsl_valid.specs.Where.{Standing, Outside, Begun, AtHead, InBlock as InOne, AtMerge, Behind, bounds_one, in_function_after, inside_after, section_in, stands_after, where_at}
use Rattle.gsl_valid.proofs.Lookups.{Has, definition_is}
use Rattle.gsl_sound_code.specs.Rules.{KeepAll, Keeps}
use Rattle.gsl_sound_code.proofs.Looks.{Kept, defines_result, found}
use Rattle.gsl_sound_code.proofs.Spots.{section_stays, stays_started}

-- ---- variables that stand outside functions

-- A variable stands outside functions, where the rules are kept.
pub record Outer (m : Module) (id : ℕ) (v : Variable) : Type 0 where
  pub instr : Instr
  pub before : Code
  pub code : Code
  pub has : Has (outside_of m) instr
  pub is : variable_is (read instr) ≡ Some v
  pub gives : result (read instr) ≡ Some id
  pub keeps : Keeps m before instr code
  pub inside : (where_at m before).inside ≡ false

-- behind the first function code stands in functions, or between them
record Later (m : Module) (before : Code) : Type 0 where
  section : (where_at m before).section ≡ 9
  started : (where_at m before).inside ≡ true → outside (where_at m before).standing ≡ false

inside_same : (b : Bool) (k : Kind) → bounds_one k ≡ false → inside_after b k ≡ b
inside_same b (Begins type id function_type) bounds = absurd (true≢false bounds)
inside_same b Ended bounds = absurd (true≢false bounds)
inside_same b _ bounds = refl

stays_later : (m : Module) (before : Code) (i : Instr) (code : Code) → Keeps m before i code → Later m before → Later m (i ∷ before)
stays_later m before i code keeps l = record { section = section_stays m before i code keeps l.section; started = by_kind (kind (read i)) refl }
  where
    by_bounds : (k : Kind) → bounds_one k ≡ false → inside_after (where_at m before).inside k ≡ true → outside (stands_after m (where_at m before).standing k) ≡ false
    by_bounds k bounds inside = stays_started m (where_at m before).standing k bounds (l.started (sym (inside_same (where_at m before).inside k bounds) ∙ inside))

    by_kind : (k : Kind) → kind (read i) ≡ k → inside_after (where_at m before).inside (kind (read i)) ≡ true → outside (stands_after m (where_at m before).standing (kind (read i))) ≡ false
    by_kind (Begins type id function_type) is inside = ap (λ k. outside (stands_after m (where_at m before).standing k)) is
    by_kind Ended is inside = absurd (false≢true (sym (ap (inside_after (where_at m before).inside) is) ∙ inside))
    by_kind k is inside = by_bounds (kind (read i)) (ap bounds_one is) inside

first_later : (m : Module) (before : Code) (i : Instr) → begins (kind (read i)) ≡ true → Later m (i ∷ before)
first_later m before i is = by_kind (kind (read i)) refl is
  where
    by_kind : (k : Kind) → kind (read i) ≡ k → begins k ≡ true → Later m (i ∷ before)
    by_kind (Begins type id function_type) e begins = record { section = ap (section_in (where_at m before).inside) e; started = λ inside. ap (λ k. outside (stands_after m (where_at m before).standing k)) e }
    by_kind _ e begins = absurd (false≢true begins)

variable_kind : (k : Kind) (v : Variable) → variable_in k ≡ Some v → k ≡ Holds v
variable_kind (Holds w) v is = ap Holds (let same : Some w ≡ Some v = is in cc)
variable_kind _ v is = absurd (cc)

-- a variable in a function is a local one
local_class : (m : Module) (v : Variable) (s : Standing) → outside s ≡ false → may_be_variable m v.type v.class v.initialiser s ≡ true → ((v.class == storage_class.FUNCTION) ≡ true) × ((t : Target) × (target_of (defined_as m v.type) ≡ Some t))
local_class m v Outside out may = absurd (true≢false out)
local_class m v (Begun types) out may = absurd (false≢true may)
local_class m v AtHead out may = by_target (target_of (defined_as m v.type)) may
  where
    by_target : (o : Option Target) → is_local_of m v.class v.initialiser o ≡ true → ((v.class == storage_class.FUNCTION) ≡ true) × ((t : Target) × (o ≡ Some t))
    by_target None may = absurd (false≢true may)
    by_target (Some t) may = ((and_parts (t.class == v.class) (v.class == storage_class.FUNCTION) (and_parts (t.class == v.class && v.class == storage_class.FUNCTION) _ may).0).1, (t, refl))
local_class m v InOne out may = absurd (false≢true may)
local_class m v AtMerge out may = absurd (false≢true may)
local_class m v Behind out may = absurd (false≢true may)

pub local_variable : (m : Module) (before : Code) (i : Instr) (code : Code) (v : Variable) → Keeps m before i code → outside (where_at m before).standing ≡ false → variable_is (read i) ≡ Some v
    → ((v.class == storage_class.FUNCTION) ≡ true) × ((t : Target) × (target_of (defined_as m v.type) ≡ Some t))
local_variable m before i code v keeps started is =
    local_class m v (where_at m before).standing started
    (ap (may_stand_here m _ (where_at m before).standing) (sym (variable_kind (kind (read i)) v is)) ∙ keeps.shape)

none_later : (m : Module) (before code : Code) (id : ℕ) (v : Variable) → KeepAll m before code → Later m before → variable_is (definition code id) ≡ Some v → (v.class == storage_class.FUNCTION) ≡ false → ⊥
none_later m before [] id v keep l is class = absurd (cc)
none_later m before (i ∷ code) id v keep l is class = by_test (defines i id) (none_later m (i ∷ before) code id v keep.1 (stays_later m before i code keep.0 l)) is
  where
    in_function : (b : Bool) → section_in b (Holds v) ≡ 9 → b ≡ true
    in_function true is = refl
    in_function false is = absurd (false≢true (ap (λ n. n == 9) is))

    by_test : (b : Bool) → (variable_is (definition code id) ≡ Some v → (v.class == storage_class.FUNCTION) ≡ false → ⊥) → variable_is (if b then read i else definition code id) ≡ Some v → ⊥
    by_test true later is =
        let e = variable_kind (kind (read i)) v is in
        let here = in_function (where_at m before).inside (ap (section_in (where_at m before).inside) (sym e) ∙ section_stays m before i code keep.0 l.section) in
        true≢false (sym (local_variable m before i code v keep.0 (l.started here) is).0 ∙ class)
    by_test false later is = later is class

no_function : (v : Variable) (k : Kind) → variable_in k ≡ Some v → begins k ≡ false
no_function v (Begins type id function_type) is = absurd (cc)
no_function v _ is = refl

pub stays_out : (k : Kind) → begins k ≡ false → inside_after false k ≡ false
stays_out (Begins type id function_type) is = absurd (true≢false is)
stays_out _ is = refl

-- a variable that is no local one stands outside functions
outer_from : (m : Module) (before code : Code) (id : ℕ) (v : Variable) → KeepAll m before code → (where_at m before).inside ≡ false → ((i : Instr) → Has (before_functions code) i → Has (outside_of m) i)
    → variable_is (definition code id) ≡ Some v → (v.class == storage_class.FUNCTION) ≡ false → Outer m id v
outer_from m before [] id v keep out into is class = absurd (cc)
outer_from m before (i ∷ code) id v keep out into is class =
    by_test (defines i id) refl (λ here. outer_from m (i ∷ before) code id v keep.1 (ap (λ b. in_function_after b (read i)) out ∙ stays_out (kind (read i)) here) (λ j has. into j (subst (λ l. Has l j) (sym (cond-false (function_begins (read i)) [] (i ∷ before_functions code) here)) (inr has)))) is
  where
    by_function : (b : Bool) → function_begins (read i) ≡ b → (function_begins (read i) ≡ false → variable_is (definition code id) ≡ Some v → (v.class == storage_class.FUNCTION) ≡ false → Outer m id v) → variable_is (definition code id) ≡ Some v → Outer m id v
    by_function true f later is = absurd (none_later m (i ∷ before) code id v keep.1 (first_later m before i f) is class)
    by_function false f later is = later f is class

    by_test : (b : Bool) → defines i id ≡ b → (function_begins (read i) ≡ false → variable_is (definition code id) ≡ Some v → (v.class == storage_class.FUNCTION) ≡ false → Outer m id v)
        → variable_is (if b then read i else definition code id) ≡ Some v → Outer m id v
    by_test true d later is = record {
      instr = i;
      before = before;
      code = code;
      has = into i (subst (λ l. Has l i) (sym (cond-false (function_begins (read i)) [] (i ∷ before_functions code) (no_function v (kind (read i)) is))) (inl refl));
      is = is;
      gives = defines_result i id d;
      keeps = keep.0;
      inside = out;
    }
    by_test false d later is = by_function (function_begins (read i)) refl later is

-- the id of a variable is that which its instruction defines
pub variable_result : (d : Option Instruction) (v : Variable) → variable_is d ≡ Some v → result d ≡ Some v.id
variable_result None v is = absurd (cc)
variable_result (Some (instruction.Variable type r class initialiser)) v is =
    let same : Some (record { type = type; id = r; class = class; initialiser = initialiser }) ≡ Some v = is in
    let e : record { type = type; id = r; class = class; initialiser = initialiser } ≡ v = cc in ap (λ w. Some w.id) e
variable_result (Some d) v is = absurd (cc)

pub has_front : (code : Code) (i : Instr) → Has (before_functions code) i → Has code i
has_front [] i has = has
has_front (j ∷ code) i has = by_test (function_begins (read j)) (has_front code i) has
  where
    by_test : (b : Bool) → (Has (before_functions code) i → Has code i) → Has (if b then [] else j ∷ before_functions code) i → Has (j ∷ code) i
    by_test true later has = absurd has
    by_test false later (inl same) = inl same
    by_test false later (inr has) = inr (later has)

module _ (m : Module) (kept : Kept m) where
  pub outer : (id : ℕ) (v : Variable) → variable_is (defined_as m id) ≡ Some v → (v.class == storage_class.FUNCTION) ≡ false → Outer m id v
  outer id v is class = outer_from m [] m.instrs id v kept.all refl (λ i has. has) is class

  -- what stands outside functions is found by its id
  pub outer_own : (i : Instr) (v : Variable) → Has (outside_of m) i → variable_is (read i) ≡ Some v → defined_as m v.id ≡ read i
  outer_own i v has is = definition_is m.bound [] m.instrs i v.id kept.once (has_front m.instrs i has) (variable_result (read i) v is)

  -- the id of a variable
  pub own_id : (id : ℕ) (v : Variable) → variable_is (defined_as m id) ≡ Some v → v.id ≡ id
  own_id id v is = by_definition (defined_as m id) refl is
    where
      by_definition : (d : Option Instruction) → defined_as m id ≡ d → variable_is d ≡ Some v → v.id ≡ id
      by_definition None here is = absurd (cc)
      by_definition (Some d) here is =
          let f = found m [] m.instrs id d kept.all here in
          let both : Some v.id ≡ Some id = sym (variable_result (Some d) v is) ∙ ap result (sym f.reads) ∙ f.gives in cc
