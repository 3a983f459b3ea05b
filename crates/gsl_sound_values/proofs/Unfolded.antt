-- The shape of a type by those of its parts.
use Rattle.std.proofs.Common.{◌≡◌, refl, sym, ap, ◌∙◌, ℕ, zero, suc, Bool, true, false, ◌&&◌, not, List, [], ◌∷◌, map, replicate, length, Option, Some, None}
use Rattle.std.specs.List.{list_all}
use Rattle.std.proofs.lemmas.Bool.{and_parts, cond-true, cond-false, eq-eqb, not-true, or_left, or_parts, or_right, true≢false}
use Rattle.gsl_instr.specs.declared.instruction.Instruction.{Instruction}
use Rattle.gsl_instr.specs.declared.instruction.Instruction.TheVariants as instruction
use Rattle.gsl_words.specs.declared.module.Instr.{Instr}
use Rattle.gsl_words.specs.declared.module.Module.{Module}
use Rattle.gsl_values.specs.declared.value.Value.{Value}
use Rattle.gsl_values.specs.declared.value.Value.TheOpen.{Value-F}
use Rattle.gsl_values.specs.declared.value.Value.TheViews.{out-Value}
use Rattle.gsl_tree.specs.Values.{all_pass, has_parts_layer}
use Rattle.gsl_valid.specs.Ids.{defined, defines, is_id, needs, result}
use Rattle.gsl_valid.specs.Instruction.{read}
use Rattle.gsl_valid.specs.IdsDefinedOnce.{is_new}
use Rattle.gsl_valid.specs.Kinds.{Shape, OfVoid, OfBool, OfInt, OfVector, OfArray, OfRuntimeArray, OfStruct, OfPointer, OfFunction, NoType, shape_of}
use Rattle.gsl_valid.specs.Placed.{Code}
use Rattle.gsl_valid.specs.Search.{passed, whole}
use Rattle.gsl_valid.specs.Types.{defined_as}
use Rattle.gsl_machine.specs.Constants.{length_by}
use Rattle.gsl_sound_code.specs.Rules.{KeepAll, Keeps}
use Rattle.gsl_sound_code.proofs.Looks.{Kept, defines_result, found}
use Rattle.gsl_sound_values.specs.Shaped.{is_shaped, shaped_as, shaped_in}

-- an id that an instruction gives is one that it defines
pub result_defines : (i : Instr) (id : ℕ) → result (read i) ≡ Some id → defines i id ≡ true
result_defines i id gives = ap (is_id id) gives ∙ eq-eqb id id refl

-- where an id is defined, no later instruction defines it
pub later_not : (m : Module) (before : Code) (i : Instr) (code : Code) (id : ℕ) → Keeps m before i code → defined before id ≡ true → defines i id ≡ false
later_not m before i code id keeps is = by_test (defines i id) refl
  where
    by_test : (b : Bool) → defines i id ≡ b → b ≡ false
    by_test true here =
        let new : is_new m.bound before (Some id) ≡ true = ap (is_new m.bound before) (sym (defines_result i id here)) ∙ keeps.once in
        absurd (true≢false (sym is ∙ not-true (defined before id) (and_parts _ (not (defined before id)) new).1))
    by_test false here = refl

-- the instructions of some code behind those before it are all of the module's
pub passed_whole : (m : Module) (before code : Code) → KeepAll m before code → passed before code ≡ whole m
passed_whole m before [] keep = keep
passed_whole m before (i ∷ code) keep = passed_whole m (i ∷ before) code keep.1

-- what has the shape of a type has it behind more code
shape_stays : (m : Module) (before code : Code) (type : ℕ) (v : Value) → KeepAll m before code → defined before type ≡ true → shaped_in m (passed before code) type v ≡ shaped_in m before type v
shape_stays m before [] type v keep is = refl
shape_stays m before (i ∷ code) type v keep is =
    shape_stays m (i ∷ before) code type v keep.1 (or_right (defines i type) _ is) ∙ cond-false (defines i type) _ _ (later_not m before i code type keep.0 is)

pub shape_is : (m : Module) (before code : Code) (type : ℕ) (v : Value) → KeepAll m before code → defined before type ≡ true → is_shaped m type v ≡ shaped_in m before type v
shape_is m before code type v keep is = ap (λ c. shaped_in m c type v) (sym (passed_whole m before code keep)) ∙ shape_stays m before code type v keep is

-- ---- the parts of a type

-- The types that a shape is made of pass a test.
abbrev pub Made : (ℕ → Bool) → Shape → Type 0
Made test (OfVector component count) = test component ≡ true
Made test (OfArray element length) = test element ≡ true
Made test (OfStruct id members) = list_all test members ≡ true
Made test _ = Unit {0}

pub made_of : (test : ℕ → Bool) (d : Option Instruction) → list_all test (needs d) ≡ true → Made test (shape_of d)
made_of test None all = tt
made_of test (Some (instruction.TypeVector result component count)) all = (and_parts (test component) _ all).0
made_of test (Some (instruction.TypeArray result element length)) all = (and_parts (test element) _ all).0
made_of test (Some (instruction.TypeStruct result members)) all = all
made_of test (Some d) all = tt

-- tests that agree on what a shape is made of
pub same_each : (f g : Value → Bool) → ((v : Value) → f v ≡ g v) → (n : ℕ) (vs : List Value) → all_pass (replicate n f) vs ≡ all_pass (replicate n g) vs
same_each f g same zero [] = refl
same_each f g same zero (v ∷ vs) = refl
same_each f g same (suc n) [] = refl
same_each f g same (suc n) (v ∷ vs) = ap (λ b. b && all_pass (replicate n f) vs) (same v) ∙ ap (λ b. g v && b) (same_each f g same n vs)

same_members : (f g : ℕ → Value → Bool) (test : ℕ → Bool) → ((type : ℕ) (v : Value) → test type ≡ true → f type v ≡ g type v) → (members : List ℕ) → list_all test members ≡ true → (vs : List Value) → all_pass (map f members) vs ≡ all_pass (map g members) vs
same_members f g test same [] all [] = refl
same_members f g test same [] all (v ∷ vs) = refl
same_members f g test same (type ∷ members) all [] = refl
same_members f g test same (type ∷ members) all (v ∷ vs) =
    let parts = and_parts (test type) (list_all test members) all in
    ap (λ b. b && all_pass (map f members) vs) (same type v parts.0) ∙ ap (λ b. g type v && b) (same_members f g test same members parts.1 vs)

pub layer_same : (a b : List (Value → Bool)) → ((vs : List Value) → all_pass a vs ≡ all_pass b vs) → (layer : Value-F Value) → has_parts_layer a layer ≡ has_parts_layer b layer
layer_same a b same (Value-F.Word word) = refl
layer_same a b same (Value-F.Many parts) = same parts

shape_same : (m : Module) (f g : ℕ → Value → Bool) (test : ℕ → Bool) → ((type : ℕ) (v : Value) → test type ≡ true → f type v ≡ g type v) → (s : Shape) → Made test s → (v : Value) → shaped_as m f s v ≡ shaped_as m g s v
shape_same m f g test same OfVoid made v = refl
shape_same m f g test same OfBool made v = refl
shape_same m f g test same (OfInt signedness) made v = refl
shape_same m f g test same (OfVector component count) made v =
    layer_same (replicate count (f component)) (replicate count (g component)) (same_each (f component) (g component) (λ v. same component v made) count) (out-Value v)
shape_same m f g test same (OfArray element length) made v =
    layer_same (replicate (length_by m length) (f element)) (replicate (length_by m length) (g element)) (same_each (f element) (g element) (λ v. same element v made) (length_by m length)) (out-Value v)
shape_same m f g test same (OfRuntimeArray element) made v = refl
shape_same m f g test same (OfStruct id members) made v = layer_same (map f members) (map g members) (same_members f g test same members made) (out-Value v)
shape_same m f g test same (OfPointer class pointee) made v = refl
shape_same m f g test same (OfFunction returned parameters) made v = refl
shape_same m f g test same NoType made v = refl

nothing_shaped : (m : Module) (code : Code) (type : ℕ) (v : Value) → defined code type ≡ false → shaped_in m code type v ≡ false
nothing_shaped m [] type v none = refl
nothing_shaped m (i ∷ code) type v none = let parts = or_parts (defines i type) (defined code type) none in cond-false (defines i type) _ _ parts.0 ∙ nothing_shaped m code type v parts.1

-- what has the shape of a type has the shapes of its parts
pub shape_unfolds : (m : Module) (kept : Kept m) (type : ℕ) (d : Instruction) (v : Value) → defined_as m type ≡ Some d → is_shaped m type v ≡ shaped_as m (is_shaped m) (shape_of (defined_as m type)) v
shape_unfolds m kept type d v is =
    let f = found m [] m.instrs type d kept.all is in
    let here = result_defines f.instr type f.gives in
    shape_is m (f.instr ∷ f.before) f.code type v f.later (or_left _ _ here)
    ∙ cond-true (defines f.instr type) _ _ here
    ∙ sym (shape_same m (is_shaped m) (shaped_in m f.before) (defined f.before) (λ part v there. shape_is m (f.instr ∷ f.before) f.code part v f.later (or_right (defines f.instr part) _ there)
    ∙ cond-false (defines f.instr part) _ _ (later_not m f.before f.instr f.code part f.keeps there)) (shape_of (read f.instr))
    (made_of (defined f.before) (read f.instr) (and_parts (list_all (defined f.before) (needs (read f.instr))) _ f.keeps.uses).0) v)
    ∙ ap (λ x. shaped_as m (is_shaped m) (shape_of x) v) (f.reads ∙ sym is)
