-- The bodies of functions.
use Rattle.std.proofs.Common.{◌≡◌, refl, sym, ap, ◌∙◌, subst, ℕ, ◌+◌, Bool, true, false, ◌&&◌, ◌||◌, not, if◌then◌else◌, List, [], ◌∷◌, drop, Option, Some, None}
use Rattle.std.specs.Prelude.{◌==◌}
use Rattle.std.proofs.lemmas.Bool.{and_from, and_parts, cond-true, cond-false, eqb-true, false≢true}
use Rattle.gsl_instr.specs.declared.instruction.Instruction.{Instruction}
use Rattle.gsl_instr.specs.declared.instruction.Instruction.TheVariants as instruction
use Rattle.gsl_instr.specs.declared.op.TheConstants as op
use Rattle.gsl_words.specs.declared.module.Instr.{Instr}
use Rattle.gsl_words.specs.declared.module.Module.{Module}
use Rattle.gsl_words.specs.Instructions.{word_count}
use Rattle.gsl_blocks.specs.declared.block.Merge.TheVariants.{Nothing}
use Rattle.gsl_blocks.specs.declared.block.Role.TheVariants.{Inside}
use Rattle.gsl_blocks.specs.Blocks.{blocks_from, blocks_of, role_of, role_or, with_role}
use Rattle.gsl_blocks.specs.Reading.{nesting_of}
use Rattle.gsl_valid.specs.FunctionRules.{gives, gives_type, may_stand_here, outside}
use Rattle.gsl_valid.specs.Ids.{defined, definition, defines, result}
use Rattle.gsl_valid.specs.Instruction.{read}
use Rattle.gsl_valid.specs.Kinds.{Begins, Shape, OfFunction, kind, kind_of, shape_of}
use Rattle.gsl_valid.specs.Placed.{Code, Placed, placed_from}
use Rattle.gsl_valid.specs.Search.{from_here}
use Rattle.gsl_valid.specs.StructureRules.{is_structured, nesting}
use Rattle.gsl_valid.specs.TypeRules.{is_made, is_returned}
use Rattle.gsl_valid.specs.Types.{begins, defined_as, function_begins, parameters_of}
use Rattle.gsl_valid.specs.Where.{Begun, bounds_function, bounds_one, inside_after, section_in, stands_after, where_at}
use Rattle.gsl_machine.specs.Functions.{function_in, up_to_end}
use Rattle.gsl_sound_code.specs.Rules.{KeepAll, Keeps}
use Rattle.gsl_sound_code.specs.Spots.{IsBody, Spot}
use Rattle.gsl_sound_code.proofs.Bodies.{body_leads}
use Rattle.gsl_sound_code.proofs.Looks.{Kept, made_at}
use Rattle.gsl_sound_code.proofs.Opcodes.{function_op}

begins_inside : (d : Instruction) → begins (kind_of d) ≡ true → role_of d ≡ Inside
begins_inside (instruction.Function type result control function_type) is = refl
begins_inside _ is = absurd (false≢true is)

-- the blocks of a function are those of what stands behind its first instruction
blocks_behind : (m : Module) (before : Code) (i : Instr) (code : Code) (d : Instruction) → Keeps m before i code → read i ≡ Some d → begins (kind_of d) ≡ true → (n : ℕ) × (nesting_of (blocks_from code 0 Nothing) ≡ Some n)
unfolding blocks_from
blocks_behind m before i code d keeps is begun =
    let role : role_or (read i) ≡ Inside = ap role_or is ∙ begins_inside d begun in
    let blocks : blocks_of (from_here m before) ≡ blocks_from code 0 Nothing = ap blocks_of keeps.here ∙ ap (λ r. with_role r 0 Nothing (blocks_from code)) role in
    let structured : is_structured (nesting_of (blocks_from code 0 Nothing)) ≡ true =
    ap (λ bs. is_structured (nesting_of bs)) (sym blocks) ∙ ap (λ b. not b || is_structured (nesting m before)) (sym (ap (λ x. begins (kind x)) is ∙ begun)) ∙ keeps.structure in
    some (nesting_of (blocks_from code 0 Nothing)) structured
  where
    some : (o : Option ℕ) → is_structured o ≡ true → (n : ℕ) × (o ≡ Some n)
    some None is = absurd (false≢true is)
    some (Some n) is = (n, refl)

-- The same of a function that is looked for in some code.
record BodyIn (m : Module) (id returned function_type : ℕ) (found : Option (List Placed)) : Type 0 where
  body : List Placed
  is : found ≡ Some body
  before : Code
  spot : Spot m body returned before body
  begun : (where_at m before).standing ≡ Begun (parameters_of (defined_as m function_type))

-- what a function of a type gives is what one may give
returned_is : (m : Module) (returned : ℕ) (s : Shape) → ((first : Bool) × (is_made m first s ≡ true)) → gives_type returned s ≡ true → is_returned m returned ≡ true
returned_is m returned (OfFunction given parameters) made is =
    ap (is_returned m) (sym (eqb-true given returned is)) ∙ (and_parts (is_returned m given) _ (and_parts (is_returned m given && _) made.0 made.1).0).0
returned_is m returned _ made is = absurd (false≢true is)

body_here : (m : Module) (kept : Kept m) (before : Code) (i : Instr) (code : Code) (at id returned own function_type : ℕ) (d : Instruction) → Keeps m before i code → KeepAll m (i ∷ before) code → read i ≡ Some d → kind_of d ≡ Begins returned own function_type
    → BodyIn m id returned function_type (Some (up_to_end (placed_from at code)))
body_here m kept before i code at id returned own function_type d keeps keep is begun =
    let k : kind (read i) ≡ Begins returned own function_type = ap kind is ∙ begun in
    let blocks = blocks_behind m before i code d keeps is (ap begins begun) in
    record {
      body = up_to_end (placed_from at code);
      is = refl;
      before = i ∷ before;
      spot = record {
        code = code;
        at = at;
        is = refl;
        keep = keep;
        section = ap (section_in (where_at m before).inside) k;
        inside = ap (inside_after (where_at m before).inside) k;
        started = ap (λ x. outside (stands_after m (where_at m before).standing x)) k;
        id = own;
        function_type = function_type;
        function = ap kind (cond-true (function_begins (read i)) (read i) (where_at m before).function (ap begins k)) ∙ k;
        gives = returned_is m returned (shape_of (defined_as m function_type)) (made_at m kept function_type)
            (and_parts (outside (where_at m before).standing) (gives returned (defined_as m function_type)) (ap (may_stand_here m (drop 1 (from_here m before)) (where_at m before).standing) (sym k) ∙ keeps.shape)).1;
        so_far = λ other here. absurd (false≢true (sym (ap (λ l. defined l other) (cond-true (bounds_function (read i)) [] (i ∷ (where_at m before).body) (ap bounds_one k))) ∙ here));
        later = λ other here. here;
        leads = body_leads code at blocks.0 blocks.1;
      };
      begun = ap (stands_after m (where_at m before).standing) k;
    }

body_in : (m : Module) (kept : Kept m) (before code : Code) (at id returned own function_type : ℕ) (d : Instruction) → KeepAll m before code → definition code id ≡ Some d → kind_of d ≡ Begins returned own function_type
    → BodyIn m id returned function_type (function_in (placed_from at code) id)
body_in m kept before [] at id returned own function_type d keep is begun = absurd (cc)
body_in m kept before (i ∷ code) at id returned own function_type d keep is begun =
    by_test (defines i id) refl (body_in m kept (i ∷ before) code (at + word_count i) id returned own function_type d keep.1) is
  where
    by_test : (b : Bool) → defines i id ≡ b → (definition code id ≡ Some d → kind_of d ≡ Begins returned own function_type → BodyIn m id returned function_type (function_in (placed_from (at + word_count i) code) id))
        → (if b then read i else definition code id) ≡ Some d
        → BodyIn m id returned function_type (if i.op == op.FUNCTION && defines i id then Some (up_to_end (placed_from (at + word_count i) code)) else function_in (placed_from (at + word_count i) code) id)
    by_test true here later is =
        subst (BodyIn m id returned function_type) (sym (cond-true (i.op == op.FUNCTION && defines i id) _ _ (and_from _ _ (function_op i d is (ap begins begun)) here)))
        (body_here m kept before i code (at + word_count i) id returned own function_type d keep.0 keep.1 is begun)
    by_test false here later is =
        subst (BodyIn m id returned function_type) (sym (cond-false (i.op == op.FUNCTION && defines i id) _ _ (ap (λ b. i.op == op.FUNCTION && b) here ∙ never (i.op == op.FUNCTION)))) (later is begun)
      where
        never : (b : Bool) → (b && false) ≡ false
        never true = refl
        never false = refl

pub body_of : (m : Module) (kept : Kept m) (id returned own function_type : ℕ) → kind (defined_as m id) ≡ Begins returned own function_type → IsBody m id returned function_type
body_of m kept id returned own function_type is = by_definition (defined_as m id) refl is
  where
    by_definition : (d : Option Instruction) → defined_as m id ≡ d → kind d ≡ Begins returned own function_type → IsBody m id returned function_type
    by_definition None here is = absurd (cc)
    by_definition (Some d) here is =
        let b = body_in m kept [] m.instrs 5 id returned own function_type d kept.all here is in
        record { body = b.body; found = b.is; before = b.before; spot = b.spot; begun = b.begun }
