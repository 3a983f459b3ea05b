-- That the table has room for what a builder adds, so that its module has a file.
use Rattle.std.proofs.Common.{◌≡◌, ◌≢◌, ℕ, zero, suc, ◌+◌, ◌-◌, ◌<◌, ◌≤◌, ◌^◌, Bool, true, false, ◌&&◌, ltb, List, [], ◌∷◌, ◌++◌, length, get_or, Option, Some, None, refl, sym, append-nil, arith}
use Rattle.std.specs.Prelude.{codes, All}
use Rattle.std.specs.List.{list_all, AllByRecursion}
use Rattle.std.proofs.lemmas.Bool.{and_parts, and_from, le-leb, ltb-true}
use Rattle.std.proofs.lemmas.Str.{IsUtf8-from_ascii}
use Rattle.std.proofs.lemmas.List.Elements.{All-nil, All-cons, All-from_recursion}
use Rattle.gsl_base.specs.declared.stage.Stage.{Stage}
use Rattle.gsl_base.specs.declared.stage.Stage.TheVariants.{Vertex, Fragment, Compute}
use Rattle.gsl_instr.specs.declared.form.Form.{Form}
use Rattle.gsl_instr.specs.declared.form.Form.TheVariants as form
use Rattle.gsl_instr.specs.declared.op.TheConstants as op
use Rattle.gsl_instr.specs.Forms.{has_text, allows_words}
use Rattle.gsl_instr.specs.Strings.{string_words, IsText}
use Rattle.gsl_instr.proofs.Fittings.{looked_up, form_found, words_fit}
use Rattle.gsl_words.specs.declared.module.Instr.{Instr}
use Rattle.gsl_words.specs.Instructions.{IsInTable, HasFile}
use Rattle.gsl_spv.specs.declared.plain.PlainType.{PlainType}
use Rattle.gsl_spv.specs.declared.plain.PlainType.TheVariants as plain
use Rattle.gsl_spv.specs.declared.plain.PlainConst.{PlainConst}
use Rattle.gsl_spv.specs.declared.plain.PlainConst.TheVariants as of
use Rattle.gsl_spv.specs.Declarations as d
use Rattle.gsl_spv.specs.Declarations.{Declaration, instr, defining}
use Rattle.gsl_spv.specs.Once.{interface_of}
use Rattle.gsl_spv.specs.Sections.{Sections}
use Rattle.gsl_spv.specs.Calls.{constant_by, decorating, naming, importing}
use Rattle.gsl_spv.specs.Growing.{all_of}
use Rattle.gsl_spv.specs.Finished.{capabilities, memory_models, entry_point, modes, code_of, module_of}

abbrev AllFit : List Instr → Type 0
AllFit code = AllByRecursion IsInTable code

appended : (code more : List Instr) → AllFit code → AllFit more → AllFit (code ++ more)
appended [] more fit later = later
appended (i ∷ code) more fit later = (fit.0, appended code more fit.1 later)

parted : (code more : List Instr) → AllFit (code ++ more) → AllFit code × AllFit more
parted [] more fit = (tt, fit)
parted (i ∷ code) more fit = let rest = parted code more fit.1 in ((fit.0, rest.0), rest.1)

-- instructions of few operands
numbers : (i : Instr) (form : Form) → looked_up i.op ≡ Some form → has_text form ≡ false → allows_words form (length i.args) ≡ true → ltb (1 + length i.args) (2 ^ 16) ≡ true → IsInTable i
numbers i form found plain counted short = words_fit i.op form i.args found plain counted (ltb-true _ _ short)

-- whether a byte is ASCII and not zero
abbrev is_plain : ℕ → Bool
is_plain byte = ltb 0 byte && ltb byte 128

plain_ascii : (text : List ℕ) → list_all is_plain text ≡ true → (i : ℕ) → get_or text i 0 < 128
plain_ascii [] all i = omega arith
plain_ascii (b ∷ text) all zero = ltb-true b 128 (and_parts (ltb 0 b) _ (and_parts (is_plain b) _ all).0).1
plain_ascii (b ∷ text) all (suc i) = plain_ascii text (and_parts (is_plain b) _ all).1 i

plain_full : (text : List ℕ) → list_all is_plain text ≡ true → All (λ byte. byte ≢ 0) text
plain_full [] all = All-nil (λ byte. byte ≢ 0)
plain_full (b ∷ text) all =
    let parts = and_parts (is_plain b) (list_all is_plain text) all in
    let some : 0 < b = ltb-true 0 b (and_parts (ltb 0 b) (ltb b 128) parts.0).0 in
    All-cons (λ byte. byte ≢ 0) b text (λ e. omega arith) (plain_full text parts.1)

plain_text : (text : List ℕ) → list_all is_plain text ≡ true → IsText text
plain_text text all = (IsUtf8-from_ascii text (plain_ascii text all), plain_full text all)

words_few : (text : List ℕ) → length (string_words text) ≤ length text + 1
words_few [] = omega arith
words_few (a ∷ []) = omega arith
words_few (a ∷ b ∷ []) = omega arith
words_few (a ∷ b ∷ c ∷ []) = omega arith
words_few (a ∷ b ∷ c ∷ d ∷ text) = omega (arith, words_few text)

entry_fits : (stage : Stage) (main : ℕ) (interface : List ℕ) → length interface < 2 ^ 15 → IsInTable (entry_point stage main interface)
entry_fits stage main interface few = record {
  form = form.EntryPoint;
  found = form_found op.ENTRY_POINT form.EntryPoint refl;
  more = interface;
  fixed = (_, _, refl, (_, _, refl, (codes "main", interface, plain_text (codes "main") refl, refl, refl)));
  follow = le-leb 0 (length interface) (omega arith);
  short = omega (arith, few);
}

modes_fit : (stage : Stage) (main x y z : ℕ) → AllFit (modes stage main (x ∷ y ∷ z ∷ []))
modes_fit Vertex main x y z = tt
modes_fit Fragment main x y z = (numbers _ form.ExecutionMode refl refl refl refl, tt)
modes_fit Compute main x y z = (numbers _ form.ExecutionMode refl refl refl refl, tt)

head_fits : (s : Sections) (main x y z : ℕ) → AllFit s.imports → length (interface_of s.globals) < 2 ^ 15
    → AllFit (capabilities ++ s.imports ++ memory_models ++ entry_point s.stage main (interface_of s.globals) ∷ [] ++ modes s.stage main (x ∷ y ∷ z ∷ []))
head_fits s main x y z imports few =
    let entry = entry_point s.stage main (interface_of s.globals) ∷ [] in
    appended (capabilities ++ s.imports ++ memory_models ++ entry) (modes s.stage main (x ∷ y ∷ z ∷ []))
    (appended (capabilities ++ s.imports ++ memory_models) entry
    (appended (capabilities ++ s.imports) memory_models (appended capabilities s.imports (numbers _ form.Capability refl refl refl refl, tt) imports)
    (numbers _ form.MemoryModel refl refl refl refl, tt))
    (entry_fits s.stage main (interface_of s.globals) few, tt))
    (modes_fit s.stage main x y z)

pub module_has_file : (s : Sections) (main x y z : ℕ) → AllByRecursion IsInTable (all_of s) → length (interface_of s.globals) < 2 ^ 15
    → HasFile (module_of s main (x ∷ y ∷ z ∷ []))
module_has_file s main x y z all few =
    let whole = parted (s.imports ++ s.names ++ s.decorations ++ s.globals) s.functions all in
    let typed = parted (s.imports ++ s.names ++ s.decorations) s.globals whole.0 in
    let decorated = parted (s.imports ++ s.names) s.decorations typed.0 in
    let named = parted s.imports s.names decorated.0 in
    let head = capabilities ++ s.imports ++ memory_models ++ entry_point s.stage main (interface_of s.globals) ∷ [] ++ modes s.stage main (x ∷ y ∷ z ∷ []) in
    record {
      version = (s.target, refl);
      instrs = All-from_recursion IsInTable (code_of s main (x ∷ y ∷ z ∷ []))
          (appended (head ++ s.names ++ s.decorations ++ s.globals) s.functions
          (appended (head ++ s.names ++ s.decorations) s.globals
          (appended (head ++ s.names) s.decorations (appended head s.names (head_fits s main x y z named.0 few) named.1) decorated.1)
          typed.1) whole.1);
    }

pub plain_fits : (ty : PlainType) (id : ℕ) → IsInTable (defining (d.plain_type ty) id)
plain_fits plain.Void id = numbers _ form.TypeVoid refl refl refl refl
plain_fits plain.Bool id = numbers _ form.TypeBool refl refl refl refl
plain_fits (plain.Int signed) id = numbers _ form.TypeInt refl refl refl refl
plain_fits (plain.Vector component count) id = numbers _ form.TypeVector refl refl refl refl
plain_fits (plain.Pointer class pointee) id = numbers _ form.TypePointer refl refl refl refl

pub function_fits : (returned : ℕ) (params : List ℕ) (id : ℕ) → length params < 2 ^ 15 → IsInTable (defining (d.function_type returned params) id)
function_fits returned params id few =
    words_fit op.TYPE_FUNCTION form.TypeFunction (id ∷ returned ∷ params) refl refl
    (and_from _ _ (le-leb 2 (suc (suc (length params))) (omega arith)) (le-leb 0 (suc (suc (length params)) - 2) (omega arith))) (omega (arith, few))

pub array_fits : (element count id : ℕ) → IsInTable (defining (d.array_type element count) id)
array_fits element count id = numbers _ form.TypeArray refl refl refl refl

pub runtime_fits : (element id : ℕ) → IsInTable (defining (d.runtime_type element) id)
runtime_fits element id = numbers _ form.TypeRuntimeArray refl refl refl refl

pub struct_fits : (members : List ℕ) (id : ℕ) → 1 ≤ length members → length members < 2 ^ 15 → IsInTable (defining (d.struct_type members) id)
struct_fits members id some few =
    words_fit op.TYPE_STRUCT form.TypeStruct (id ∷ members) refl refl
    (and_from _ _ (le-leb 1 (suc (length members)) (omega arith)) (le-leb 1 (suc (length members) - 1) (omega arith))) (omega (arith, few))

pub constant_fits : (what : PlainConst) (truths id : ℕ) → IsInTable (defining (constant_by what truths) id)
constant_fits of.True truths id = numbers _ form.ConstantTrue refl refl refl refl
constant_fits of.False truths id = numbers _ form.ConstantFalse refl refl refl refl
constant_fits (of.Word ty bits) truths id = numbers _ form.Constant refl refl refl refl
constant_fits (of.Null ty) truths id = numbers _ form.ConstantNull refl refl refl refl

pub composite_fits : (ty : ℕ) (parts : List ℕ) (id : ℕ) → 1 ≤ length parts → length parts < 2 ^ 15 → IsInTable (defining (d.composite ty parts) id)
composite_fits ty parts id some few =
    words_fit op.CONSTANT_COMPOSITE form.ConstantComposite (ty ∷ id ∷ parts) refl refl
    (and_from _ _ (le-leb 2 (suc (suc (length parts))) (omega arith)) (le-leb 1 (suc (suc (length parts)) - 2) (omega arith))) (omega (arith, few))

pub variable_fits : (pointer class : ℕ) (init : Option ℕ) (id : ℕ) → IsInTable (defining (d.variable pointer class init) id)
variable_fits pointer class None id = numbers _ form.Variable refl refl refl refl
variable_fits pointer class (Some init) id = numbers _ form.Variable refl refl refl refl

pub decoration_fits : (target : ℕ) (member : Option ℕ) (what : ℕ) (literal : Option ℕ) → IsInTable (decorating target member what literal)
decoration_fits target None what None = numbers _ form.Decorate refl refl refl refl
decoration_fits target None what (Some literal) = numbers _ form.Decorate refl refl refl refl
decoration_fits target (Some member) what None = numbers _ form.MemberDecorate refl refl refl refl
decoration_fits target (Some member) what (Some literal) = numbers _ form.MemberDecorate refl refl refl refl

pub name_fits : (target : ℕ) (member : Option ℕ) (text : List ℕ) → IsText text → length text ≤ 1024 → IsInTable (naming target member text)
name_fits target None text is few = record {
  form = form.Name;
  found = form_found op.NAME form.Name refl;
  more = [];
  fixed = (target, string_words text, refl, (text, [], is, sym (append-nil (string_words text)), refl));
  follow = refl;
  short = omega (arith, words_few text, few);
}
name_fits target (Some member) text is few = record {
  form = form.MemberName;
  found = form_found op.MEMBER_NAME form.MemberName refl;
  more = [];
  fixed = (target, member ∷ string_words text, refl, (member, string_words text, refl, (text, [], is, sym (append-nil (string_words text)), refl)));
  follow = refl;
  short = omega (arith, words_few text, few);
}

pub import_fits : (id : ℕ) → IsInTable (importing id)
import_fits id = record {
  form = form.ExtInstImport;
  found = form_found op.EXT_INST_IMPORT form.ExtInstImport refl;
  more = [];
  fixed = (id, string_words (codes "GLSL.std.450"), refl, (codes "GLSL.std.450", [], plain_text (codes "GLSL.std.450") refl, refl, refl));
  follow = refl;
  short = omega arith;
}
