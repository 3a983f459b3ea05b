-- The module of a program has a file.
use Rattle.std.proofs.Common.{◌≡◌, ◌≢◌, ℕ, zero, suc, ◌+◌, ◌-◌, ◌<◌, ◌≤◌, ◌^◌, Bool, true, false, ◌&&◌, ltb, IsTrue, List, [], ◌∷◌, ◌++◌, length, get_or, map, Some, refl, sym, append-nil, arith}
use Rattle.std.specs.Prelude.{codes, All}
use Rattle.std.specs.List.{range_with_len, list_all, AllByRecursion}
use Rattle.std.specs.Str.{all_ascii_digits}
use Rattle.std.specs.Char.{is_ascii_digit, is_ascii_lowercase}
use Rattle.std.proofs.Math.ListN.{replicate, length-replicate}
use Rattle.std.proofs.lemmas.Bool.{and_parts, and_from, le-leb, leb-true, lt-ltb, ltb-true}
use Rattle.std.proofs.lemmas.Str.{IsUtf8-from_ascii}
use Rattle.std.proofs.lemmas.List.Elements.{All-nil, All-cons, All-from_recursion}
use Rattle.gsl_instr.specs.declared.form.Form.{Form}
use Rattle.gsl_instr.specs.declared.form.Form.TheVariants as form
use Rattle.gsl_instr.specs.Forms.{has_text, allows_words}
use Rattle.gsl_instr.proofs.Fittings.{looked_up, form_found, words_fit}
use Rattle.gsl_instr.specs.declared.op.TheConstants as op
use Rattle.gsl_words.specs.declared.module.Instr.{Instr}
use Rattle.gsl_words.specs.declared.target.Target.TheVariants.{V10}
use Rattle.gsl_words.specs.Instructions.{IsInTable, HasFile, word_count}
use Rattle.gsl_instr.specs.Strings.{string_words, IsText}
use Rattle.gsl_form.specs.declared.program.Term.{Term}
use Rattle.gsl_form.specs.declared.program.Term.TheVariants.{Member, Literal}
use Rattle.gsl_form.specs.declared.program.Statement.{Statement}
use Rattle.gsl_form.specs.declared.program.Program.{Program}
use Rattle.gsl_cmd.specs.declared.lowering.id.TheConstants as id
use Rattle.gsl_form.specs.Form.{Name, name_of, is_name, IsProgram}
use Rattle.gsl_cmd.specs.Lowering.{Code, instr, term_code, more_code, sum_code, statements_code, function_code, constant_code, preamble, name_code, decoration_code, type_code, variable_code, code_of, module_of, term_ids, statement_ids, constants_of}
use Rattle.gsl_cmd.proofs.All.{all_at}

abbrev AllFit : Code → Type 0
AllFit code = AllByRecursion IsInTable code

appended : (code more : Code) → AllFit code → AllFit more → AllFit (code ++ more)
appended [] more fit later = later
appended (i ∷ code) more fit later = (fit.0, appended code more fit.1 later)

range_fits : (f : ℕ → Instr) (first count : ℕ) → ((i : ℕ) → first ≤ i → i < first + count → IsInTable (f i)) → AllFit (map f (range_with_len first count))
range_fits f first zero each = tt
range_fits f first (suc count) each =
    (each first (omega arith) (omega arith), range_fits f (first + 1) count (λ i low high. each i (omega arith) (omega arith)))

numbers : (i : Instr) (form : Form) → looked_up i.op ≡ Some form → has_text form ≡ false → allows_words form (length i.args) ≡ true → ltb (word_count i) (2 ^ 16) ≡ true → IsInTable i
numbers i form found plain counted short = words_fit i.op form i.args found plain counted (ltb-true _ _ short)

-- Texts -----------------------------------------------------------------------------------------------------

-- whether a byte is ASCII and not zero
abbrev plain : ℕ → Bool
plain byte = ltb 0 byte && ltb byte 128

plain_ascii : (text : List ℕ) → list_all plain text ≡ true → (i : ℕ) → get_or text i 0 < 128
plain_ascii [] all i = omega arith
plain_ascii (b ∷ text) all zero = ltb-true b 128 (and_parts (ltb 0 b) _ (and_parts (plain b) _ all).0).1
plain_ascii (b ∷ text) all (suc i) = plain_ascii text (and_parts (plain b) _ all).1 i

plain_full : (text : List ℕ) → list_all plain text ≡ true → All (λ byte. byte ≢ 0) text
plain_full [] all = All-nil (λ byte. byte ≢ 0)
plain_full (b ∷ text) all =
    let parts = and_parts (plain b) (list_all plain text) all in
    let some : 0 < b = ltb-true 0 b (and_parts (ltb 0 b) (ltb b 128) parts.0).0 in
    All-cons (λ byte. byte ≢ 0) b text (λ e. omega arith) (plain_full text parts.1)

plain_text : (text : List ℕ) → list_all plain text ≡ true → IsText text
plain_text text all = (IsUtf8-from_ascii text (plain_ascii text all), plain_full text all)

digits_plain : (digits : List ℕ) → all_ascii_digits digits ≡ true → list_all plain digits ≡ true
digits_plain [] all = refl
digits_plain (d ∷ digits) all =
    let parts = and_parts (is_ascii_digit d) _ all in
    let range = and_parts _ _ parts.0 in
    let low : 48 ≤ d = leb-true 48 d range.0 in
    let high : d ≤ 57 = leb-true d 57 range.1 in
    and_from _ _ (and_from _ _ (lt-ltb 0 d (omega arith)) (lt-ltb d 128 (omega arith))) (digits_plain digits parts.1)

pub name_plain : (name : Name) → is_name name ≡ true → (list_all plain name ≡ true) × (length name ≤ 4)
name_plain [] good = absurd (cc)
name_plain (letter ∷ digits) good =
    let parts = and_parts (is_ascii_lowercase letter && all_ascii_digits digits) _ good in
    let front = and_parts (is_ascii_lowercase letter) _ parts.0 in
    let range = and_parts _ _ front.0 in
    let low : 97 ≤ letter = leb-true 97 letter range.0 in
    let high : letter ≤ 122 = leb-true letter 122 range.1 in
    let short : length digits ≤ 3 = leb-true _ _ parts.1 in
    (and_from _ _ (and_from _ _ (lt-ltb 0 letter (omega arith)) (lt-ltb letter 128 (omega arith))) (digits_plain digits front.1), omega arith)

words_some : (text : List ℕ) → 1 ≤ length (string_words text)
words_some [] = omega arith
words_some (a ∷ []) = omega arith
words_some (a ∷ b ∷ []) = omega arith
words_some (a ∷ b ∷ c ∷ []) = omega arith
words_some (a ∷ b ∷ c ∷ d ∷ text) = omega arith

pub words_few : (text : List ℕ) → length (string_words text) ≤ length text + 1
words_few [] = omega arith
words_few (a ∷ []) = omega arith
words_few (a ∷ b ∷ []) = omega arith
words_few (a ∷ b ∷ c ∷ []) = omega arith
words_few (a ∷ b ∷ c ∷ d ∷ text) = omega (arith, words_few text)

member_name : (i : ℕ) (name : Name) (block : ℕ) → is_name name ≡ true → IsInTable (instr op.MEMBER_NAME (block ∷ i ∷ string_words name))
member_name i name block good =
    let plainly = name_plain name good in
    let some = words_some name in
    let few = words_few name in
    record {
      form = form.MemberName;
      found = form_found op.MEMBER_NAME form.MemberName refl;
      more = [];
      fixed = (block, i ∷ string_words name, refl, (i, string_words name, refl, (name, [], plain_text name plainly.0, sym (append-nil (string_words name)), refl)));
      follow = refl;
      short = omega (arith, plainly.1);
    }

names_fit : (members : List Name) → AllByRecursion (λ name. IsTrue (is_name name)) members → AllFit (name_code members)
names_fit members all = (
  record {
    form = form.Name;
    found = form_found op.NAME form.Name refl;
    more = [];
    fixed = (id.BLOCK, string_words (codes "B"), refl, (codes "B", [], plain_text (codes "B") refl, refl, refl));
    follow = refl;
    short = omega arith;
  },
  range_fits _ 0 (length members)
      (λ i low high. member_name i (name_of members i) id.BLOCK (all_at (λ name. IsTrue (is_name name)) members i [] all (omega arith))),
)

preamble_fits : AllFit preamble
preamble_fits = (
  numbers _ form.Capability refl refl refl refl,
  (
    numbers _ form.MemoryModel refl refl refl refl,
    (
      record {
        form = form.EntryPoint;
        found = form_found op.ENTRY_POINT form.EntryPoint refl;
        more = [];
        fixed = (_, _, refl, (_, _, refl, (codes "main", [], plain_text (codes "main") refl, refl, refl)));
        follow = refl;
        short = omega arith;
      },
      (numbers _ form.ExecutionMode refl refl refl refl, tt),
    ),
  ),
)

decorations_fit : (members : ℕ) → AllFit (decoration_code members)
decorations_fit members = (
  numbers _ form.Decorate refl refl refl refl,
  appended _ _ (range_fits _ 0 members (λ i low high. numbers _ form.MemberDecorate refl refl refl refl))
      (numbers _ form.Decorate refl refl refl refl, (numbers _ form.Decorate refl refl refl refl, tt)),
)

struct_fits : (members block int : ℕ) → 1 ≤ members → members ≤ 64 → IsInTable (instr op.TYPE_STRUCT (block ∷ replicate members int))
struct_fits members block int some few =
    let count : length (replicate members int) ≡ members = length-replicate members int in
    words_fit op.TYPE_STRUCT form.TypeStruct (block ∷ replicate members int) refl refl (and_from _ _ (le-leb 1 (suc (length (replicate members int))) (omega arith)) (le-leb 1 (suc (length (replicate members int)) - 1) (omega arith))) (omega arith)

types_fit : (members : ℕ) → 1 ≤ members → members ≤ 64 → AllFit (type_code members)
types_fit members some few = (
  numbers _ form.TypeVoid refl refl refl refl,
  (
    numbers _ form.TypeFunction refl refl refl refl,
    (
      numbers _ form.TypeInt refl refl refl refl,
      (
        struct_fits members _ _ some few,
        (numbers _ form.TypePointer refl refl refl refl, (numbers _ form.TypePointer refl refl refl refl, tt)),
      ),
    ),
  ),
)

variable_fits : AllFit variable_code
variable_fits = (numbers _ form.Variable refl refl refl refl, tt)

module _ (constants : List ℕ) where
  constants_fit : AllFit (constant_code constants)
  constants_fit = range_fits _ 0 (length constants) (λ i low high. numbers _ form.Constant refl refl refl refl)

  term_fits : (next : ℕ) (term : Term) (follows : Code) → AllFit follows → AllFit (term_code constants next term follows)
  term_fits next (Member i) follows fit = (numbers _ form.AccessChain refl refl refl refl, (numbers _ form.Load refl refl refl refl, fit))
  term_fits next (Literal n) follows fit = fit

  more_fits : (next value : ℕ) (terms : List Term) (follows : Code) → AllFit follows → AllFit (more_code constants next value terms follows)
  more_fits next value [] follows fit = fit
  more_fits next value (term ∷ terms) follows fit =
      let sum = next + term_ids constants term in
      term_fits next term _ (numbers _ form.Arithmetic refl refl refl refl, more_fits (sum + 1) sum terms follows fit)

  sum_fits : (next : ℕ) (terms : List Term) (follows : Code) → AllFit follows → AllFit (sum_code constants next terms follows)
  sum_fits next [] follows fit = fit
  sum_fits next (term ∷ terms) follows fit = term_fits next term _ (more_fits _ _ terms follows fit)

  statements_fit : (next : ℕ) (statements : List Statement) (follows : Code) → AllFit follows → AllFit (statements_code constants next statements follows)
  statements_fit next [] follows fit = fit
  statements_fit next (s ∷ statements) follows fit =
      sum_fits next s.terms _ (numbers _ form.AccessChain refl refl refl refl, (numbers _ form.Store refl refl refl refl, statements_fit (next + statement_ids constants s) statements follows fit))

  function_fits : (statements : List Statement) → AllFit (function_code constants statements)
  function_fits statements = (
    numbers _ form.Function refl refl refl refl,
    (
      numbers _ form.Label refl refl refl refl,
      statements_fit _ statements _ (numbers _ form.Return refl refl refl refl, (numbers _ form.FunctionEnd refl refl refl refl, tt)),
    ),
  )

code_fits : (p : Program) → IsProgram p → AllFit (code_of p)
code_fits p fits =
    let members = length p.members in
    let constants = constants_of p in
    let named = preamble ++ name_code p.members in
    let decorated = named ++ decoration_code members in
    let typed = decorated ++ type_code members in
    let whole = typed ++ constant_code constants in
    appended (whole ++ variable_code) (function_code constants p.statements)
    (appended whole variable_code
    (appended typed (constant_code constants)
    (appended decorated (type_code members)
    (appended named (decoration_code members)
    (appended preamble (name_code p.members) preamble_fits (names_fit p.members fits.names))
    (decorations_fit members))
    (types_fit members fits.some fits.most))
    (constants_fit constants))
    variable_fits)
    (function_fits constants p.statements)

-- Each program's module has a file.
pub module_has_file : (p : Program) → IsProgram p → HasFile (module_of p)
module_has_file p fits = record { version = (V10, refl); instrs = All-from_recursion IsInTable (code_of p) (code_fits p fits) }
