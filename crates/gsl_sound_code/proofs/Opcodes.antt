-- What the table makes of opcodes.
use Rattle.std.proofs.Common.{◌≡◌, refl, sym, ap, ◌∙◌, subst, ℕ, Bool, true, false, ◌||◌, not, if◌then◌else◌, IsTrue, List, [], ◌∷◌, length, Option, Some, None}
use Rattle.std.specs.List.{list_all}
use Rattle.std.specs.Option.{option_map}
use Rattle.std.specs.Prelude.{◌==◌, find}
use Rattle.std.proofs.lemmas.Bool.{and_parts, eqb-true, true≢false}
use Rattle.gsl_instr.specs.declared.form.Form.{Form}
use Rattle.gsl_instr.specs.declared.form.Form.TheVariants as form
use Rattle.gsl_instr.specs.declared.form.Row.{Row}
use Rattle.gsl_instr.specs.declared.form.TheConstants.{TABLE}
use Rattle.gsl_instr.specs.declared.instruction.Instruction.{Instruction}
use Rattle.gsl_instr.specs.declared.instruction.Instruction.TheVariants as instruction
use Rattle.gsl_instr.specs.declared.op.TheConstants as op
use Rattle.gsl_instr.specs.Fitting.{Fill}
use Rattle.gsl_instr.specs.Forms.{allows, form_of, rest, slots}
use Rattle.gsl_instr.specs.Instructions.{arg, read_as}
use Rattle.gsl_words.specs.declared.module.Instr.{Instr}
use Rattle.gsl_words.specs.Instructions.{IsInTable}
use Rattle.gsl_valid.specs.CallRules.{is_last, takes}
use Rattle.gsl_valid.specs.Instruction.{read}
use Rattle.gsl_valid.specs.Kinds.{Kind, Opens, kind_of}
use Rattle.gsl_valid.specs.Types.{begins}

-- ---- the opcode of a form

module _ (test : ℕ → Form → Bool) where
  of_rows : (rows : List Row) (code : ℕ) (f : Form) → list_all (λ row. test row.op row.form) rows ≡ true → option_map (λ row. row.form) (find (λ row. row.op == code) rows) ≡ Some f → test code f ≡ true
  of_rows [] code f all is = absurd (cc)
  of_rows (row ∷ rows) code f all is =
      let parts = and_parts (test row.op row.form) _ all in by_test (row.op == code) refl parts.0 (of_rows rows code f parts.1) is
    where
      by_test : (b : Bool) → (row.op == code) ≡ b → test row.op row.form ≡ true → (option_map (λ row. row.form) (find (λ row. row.op == code) rows) ≡ Some f → test code f ≡ true)
          → option_map (λ row. row.form) (if b then Some row else find (λ row. row.op == code) rows) ≡ Some f → test code f ≡ true
      by_test true here passes later is = let same : row.form ≡ f = cc in subst (λ g. test code g ≡ true) same (subst (λ n. test n row.form ≡ true) (eqb-true row.op code here) passes)
      by_test false here passes later is = later is

-- the form that an instruction was read by
pub record ByForm (i : Instr) (d : Instruction) : Type 0 where
  pub form : Form
  pub found : form_of i.op ≡ Some form
  pub is : read_as form i.op i.args ≡ d

pub by_form : (i : Instr) (d : Instruction) → read i ≡ Some d → ByForm i d
by_form i d is = by_case (form_of i.op) refl is
  where
    by_case : (o : Option Form) → form_of i.op ≡ o → option_map (λ f. read_as f i.op i.args) o ≡ Some d → ByForm i d
    by_case None found is = absurd (cc)
    by_case (Some f) found is = record { form = f; found = found; is = cc }

abbrev pub opens : Kind → Bool
opens Opens = true
opens _ = false

-- a kind of instructions that has one opcode
abbrev Alone : (Kind → Bool) → ℕ → List ℕ → ℕ → Form → Bool
Alone wanted only args code f = not (wanted (kind_of (read_as f code args))) || code == only

alone : (wanted : Kind → Bool) (only : ℕ) (i : Instr) (d : Instruction) → ((args : List ℕ) → list_all (λ row. Alone wanted only args row.op row.form) TABLE ≡ true) → read i ≡ Some d → wanted (kind_of d) ≡ true → (i.op == only) ≡ true
unfolding form_of
alone wanted only i d all is has =
    let f = by_form i d is in
    by_test (wanted (kind_of (read_as f.form i.op i.args))) (ap (λ x. wanted (kind_of x)) f.is ∙ has) (of_rows (Alone wanted only i.args) TABLE i.op f.form (all i.args) f.found)
  where
    by_test : (b : Bool) → b ≡ true → (not b || i.op == only) ≡ true → (i.op == only) ≡ true
    by_test true has is = is
    by_test false has is = absurd (true≢false (sym has))

pub label_op : (i : Instr) (d : Instruction) → read i ≡ Some d → opens (kind_of d) ≡ true → (i.op == op.LABEL) ≡ true
label_op i d is has = alone opens op.LABEL i d (λ args. refl) is has

pub function_op : (i : Instr) (d : Instruction) → read i ≡ Some d → begins (kind_of d) ≡ true → (i.op == op.FUNCTION) ≡ true
function_op i d is has = alone begins op.FUNCTION i d (λ args. refl) is has

pub parameter_op : (i : Instr) (d : Instruction) → read i ≡ Some d → takes (kind_of d) ≡ true → (i.op == op.FUNCTION_PARAMETER) ≡ true
parameter_op i d is has = alone takes op.FUNCTION_PARAMETER i d (λ args. refl) is has

pub end_op : (i : Instr) (d : Instruction) → read i ≡ Some d → is_last (kind_of d) ≡ true → (i.op == op.FUNCTION_END) ≡ true
end_op i d is has = alone is_last op.FUNCTION_END i d (λ args. refl) is has

-- ---- the form of an opcode

pub reads_label : (i : Instr) → (i.op == op.LABEL) ≡ true → read i ≡ Some (instruction.Label (arg i.args 0))
unfolding form_of
reads_label i is = ap (λ n. option_map (λ f. read_as f i.op i.args) (form_of n)) (eqb-true i.op op.LABEL is)

pub reads_end : (i : Instr) → (i.op == op.FUNCTION_END) ≡ true → read i ≡ Some instruction.FunctionEnd
unfolding form_of
reads_end i is = ap (λ n. option_map (λ f. read_as f i.op i.args) (form_of n)) (eqb-true i.op op.FUNCTION_END is)

pub reads_parameter : (i : Instr) → (i.op == op.FUNCTION_PARAMETER) ≡ true → read i ≡ Some (instruction.FunctionParameter (arg i.args 0) (arg i.args 1))
unfolding form_of
reads_parameter i is = ap (λ n. option_map (λ f. read_as f i.op i.args) (form_of n)) (eqb-true i.op op.FUNCTION_PARAMETER is)

-- ---- literals that must be there

-- There is one.
pub record IsSome (literals : List ℕ) : Type 0 where
  pub first : ℕ
  pub more : List ℕ
  pub is : literals ≡ first ∷ more

-- Where parts of composites are named, there is one name at least.
abbrev pub NamesParts : Instruction → Type 0
NamesParts (instruction.CompositeExtract type result composite indexes) = IsSome indexes
NamesParts (instruction.CompositeInsert type result part composite indexes) = IsSome indexes
NamesParts _ = Unit {0}

some_there : (more : List ℕ) → IsTrue (allows (rest form.CompositeExtract) (length more)) → IsSome more
some_there [] none = absurd (true≢false (sym none))
some_there (first ∷ more) some = record { first = first; more = more; is = refl }

names : (f : Form) (code : ℕ) (args more : List ℕ) → Fill (slots f) args more → IsTrue (allows (rest f) (length more)) → NamesParts (read_as f code args)
names form.CompositeExtract code args more fill follow =
    subst (λ l. NamesParts (read_as form.CompositeExtract code l)) (sym (fill.2 ∙ ap (λ l. fill.0 ∷ l) (fill.3.2 ∙ ap (λ l. fill.3.0 ∷ l) (fill.3.3.2 ∙ ap (λ l. fill.3.3.0 ∷ l) fill.3.3.3)))) (some_there more follow)
names form.CompositeInsert code args more fill follow =
    subst (λ l. NamesParts (read_as form.CompositeInsert code l))
    (sym (fill.2 ∙ ap (λ l. fill.0 ∷ l) (fill.3.2 ∙ ap (λ l. fill.3.0 ∷ l) (fill.3.3.2 ∙ ap (λ l. fill.3.3.0 ∷ l) (fill.3.3.3.2 ∙ ap (λ l. fill.3.3.3.0 ∷ l) fill.3.3.3.3))))) (some_there more follow)
names _ code args more fill follow = tt

pub names_parts : (i : Instr) (d : Instruction) → IsInTable i → read i ≡ Some d → NamesParts d
names_parts i d fits is =
    let f = by_form i d is in
    let both : Some fits.form ≡ Some f.form = sym fits.found ∙ f.found in
    let same : fits.form ≡ f.form = cc in
    subst NamesParts (ap (λ g. read_as g i.op i.args) same ∙ f.is) (names fits.form i.op i.args fits.more fits.fixed fits.follow)
