-- One instruction of each form that computes a value of scalars and vectors, where it may stand.
use Rattle.std.proofs.Common.{◌≡◌, ℕ, true, List, [], ◌∷◌, Some, refl, sym, ap, ◌∙◌, subst}
use Rattle.std.specs.List.{AllByRecursion, list_all}
use Rattle.std.specs.Option.{option_map}
use Rattle.std.proofs.lemmas.Bool.{and_from, eq-eqb, true≢false}
use Rattle.gsl_instr.specs.Forms.{form_of}
use Rattle.gsl_instr.specs.Instructions.{read_as}
use Rattle.gsl_instr.specs.Instructions as table
use Rattle.gsl_instr.specs.declared.op.TheConstants as op
use Rattle.gsl_instr.specs.declared.form.Form.{Form}
use Rattle.gsl_instr.specs.declared.form.Form.TheVariants as form
use Rattle.gsl_instr.specs.declared.instruction.Instruction.{Instruction}
use Rattle.gsl_instr.specs.declared.instruction.Instruction.TheVariants as instruction
use Rattle.gsl_types.specs.declared.ty.Scalar.{Scalar}
use Rattle.gsl_types.specs.declared.ty.Scalar.TheVariants.{Bool as Boolean, Int, Uint}
use Rattle.gsl_tree.specs.Shapes.{Shape, is_boolean, is_integer}
use Rattle.gsl_words.specs.declared.module.Module.{Module}
use Rattle.gsl_valid.specs.ExtendedRules.{extended_of}
use Rattle.gsl_valid.specs.Ids.{result}
use Rattle.gsl_valid.specs.Instruction.{read}
use Rattle.gsl_valid.specs.Kinds.{Gives, kind, kind_of}
use Rattle.gsl_valid.specs.LimitRules.{is_within}
use Rattle.gsl_valid.specs.MemoryRules.{memory_of}
use Rattle.gsl_valid.specs.OperandRules.{operands_typed}
use Rattle.gsl_valid.specs.OperandRules as rules
use Rattle.gsl_valid.specs.Sections.{has_numbers}
use Rattle.gsl_valid.specs.Types.{has_lanes, has_type, is_int, is_int_type, is_int_value, is_ints, is_type, is_truths, is_words, is_words_of, lanes_of, same_size}
use Rattle.gsl_spv.specs.Declarations.{instr}
use Rattle.gsl_spv.specs.Sections.{Sections}
use Rattle.gsl_fitting.specs.Fits.{CallsOne, Frame, is_known, is_mark, may_leave}
use Rattle.gsl_fitting_types.specs.Making.{AreSorted, IsTypeOf, IsValue, Stands, made}
use Rattle.gsl_fitting_types.proofs.Knowing.{component_of, lanes_are, one_type, outside_known, scalar_type_is, type_outside}
use Rattle.gsl_fitting_types.proofs.Stepping.{sits_read}

-- a value is signed if it is of ints
abbrev pub sign_number : Scalar → ℕ
sign_number Int = 1
sign_number _ = 0

module _ (whole : Sections) (main : ℕ) (local_size : List ℕ) (rank : ℕ → ℕ) (f : Frame) (sorted : AreSorted whole) where
  abbrev m : Module
  m = made whole main local_size rank f

  abbrev Value : List ℕ → Shape → ℕ → Type 0
  Value given shape id = IsValue whole main local_size rank f given shape id

  -- ---- facts

  pub same_type : (given : List ℕ) (shape : Shape) (type a : ℕ) → IsTypeOf whole shape type → Value given shape a → has_type m type a ≡ true
  same_type given shape type a of v = ap (is_type type) v.typed ∙ eq-eqb v.type type (one_type whole shape v.type type v.of of)

  pub ints : (shape : Shape) (type : ℕ) → is_integer shape.0 ≡ true → IsTypeOf whole shape type → is_ints m type ≡ true
  ints shape type integer of = ap (has_lanes is_words) (lanes_are whole main local_size sorted shape type of) ∙ by shape.0 integer
    where
      by : (s : Scalar) → is_integer s ≡ true → is_words (component_of s) ≡ true
      by Boolean e = absurd (true≢false (sym e))
      by Int e = refl
      by Uint e = refl

  pub signed_ints : (shape : Shape) (sign : ℕ) (type : ℕ) → is_integer shape.0 ≡ true → sign_number shape.0 ≡ sign → IsTypeOf whole shape type → rules.is_signed m (rules.Only sign) type ≡ true
  signed_ints shape sign type integer is of = ap (has_lanes (is_words_of sign)) (lanes_are whole main local_size sorted shape type of) ∙ by shape.0 integer is
    where
      by : (s : Scalar) → is_integer s ≡ true → sign_number s ≡ sign → is_words_of sign (component_of s) ≡ true
      by Boolean e p = absurd (true≢false (sym e))
      by Int e p = eq-eqb 1 sign p
      by Uint e p = eq-eqb 0 sign p

  pub truths : (shape : Shape) (type : ℕ) → is_boolean shape.0 ≡ true → IsTypeOf whole shape type → rules.is_truth m type ≡ true
  truths shape type boolean of = ap (has_lanes is_truths) (lanes_are whole main local_size sorted shape type of) ∙ by shape.0 boolean
    where
      by : (s : Scalar) → is_boolean s ≡ true → is_truths (component_of s) ≡ true
      by Boolean e = refl
      by Int e = absurd (true≢false (sym e))
      by Uint e = absurd (true≢false (sym e))

  pub sizes : (a b : Shape) (type other : ℕ) → a.1 ≡ b.1 → IsTypeOf whole a type → IsTypeOf whole b other → same_size (lanes_of m type) (lanes_of m other) ≡ true
  sizes a b type other same x y =
      rw (lanes_are whole main local_size sorted a type x) (rw (lanes_are whole main local_size sorted b other y) (eq-eqb a.1 b.1 same))

  all_known : (given : List ℕ) (ids : List ℕ) → AllByRecursion (λ id. is_known m f given id ≡ true) ids → list_all (is_known m f given) ids ≡ true
  all_known given [] all = refl
  all_known given (id ∷ ids) all = and_from _ _ all.0 (all_known given ids all.1)

  pub known_type : (given : List ℕ) (shape : Shape) (type : ℕ) → IsTypeOf whole shape type → is_known m f given type ≡ true
  known_type given shape type of = outside_known whole main local_size sorted f given type (type_outside whole main local_size sorted shape type of)

  -- ---- an instruction of a form

  -- what it reads as, whatever its id
  pub stands_as : (given : List ℕ) (code : ℕ) (operands uses : List ℕ) (type : ℕ) (what : Form) (one : ℕ → Instruction) → form_of code ≡ Some what → ((id : ℕ) → read_as what code (type ∷ id ∷ operands) ≡ one id) → ((id : ℕ) → table.result_of (one id) ≡ Some id) → ((id : ℕ) → kind_of (one id) ≡ Gives type)
      → ((id : ℕ) → has_numbers m (one id) ≡ true) → ((id : ℕ) → table.needs (one id) ≡ type ∷ uses) → ((id : ℕ) → table.mentions (one id) ≡ []) → AllByRecursion (λ id. is_known m f given id ≡ true) (type ∷ uses)
      → ((id : ℕ) → operands_typed m (one id) ≡ true) → ((id : ℕ) → memory_of m (one id) ≡ true) → ((id : ℕ) → extended_of m (one id) ≡ true) → ((id : ℕ) → may_leave m f (one id) ≡ true) → ((id : ℕ) → is_within m [] (one id) ≡ true)
      → Stands whole main local_size rank f given code operands type
  stands_as given code operands uses type what one is reads named gives numbers needs mentions known operands_are memory extended leaves limits = record {
    named = λ id. ap result (read_is id) ∙ named id;
    gives = λ id. ap kind (read_is id) ∙ gives id;
    sits = λ id. sits_read whole main local_size rank f given (instr code (type ∷ id ∷ operands)) (one id) (read_is id) (numbers id) (ap (list_all (is_known m f given)) (needs id) ∙ all_known given (type ∷ uses) known) (ap (list_all (is_mark m)) (mentions id)) (operands_are id)
        (memory id) (extended id) (leaves id) (limits id) (subst (CallsOne m rank f) (sym (gives id)) tt);
  }
    where
      read_is : (id : ℕ) → read (instr code (type ∷ id ∷ operands)) ≡ Some (one id)
      read_is id = ap (λ o. option_map (λ w. read_as w code (type ∷ id ∷ operands)) o) is ∙ ap Some (reads id)

  pub unary_stands : (given : List ℕ) (code type a : ℕ) (shape from : Shape) → form_of code ≡ Some form.Unary → IsTypeOf whole shape type → (v : Value given from a) → rules.is_unary_of m code type v.type ≡ true → Stands whole main local_size rank f given code (a ∷ []) type
  unary_stands given code type a shape from is of v may =
      stands_as given code (a ∷ []) (a ∷ []) type form.Unary (λ id. instruction.Unary code type id a) is (λ id. refl) (λ id. refl) (λ id. refl) (λ id. refl) (λ id. refl) (λ id. refl) (known_type given shape type of, (v.known, tt))
      (λ id. ap (rules.is_unary m code type) v.typed ∙ may) (λ id. refl) (λ id. refl) (λ id. refl) (λ id. refl)

  pub arithmetic_stands : (given : List ℕ) (code type a b : ℕ) (shape : Shape) → form_of code ≡ Some form.Arithmetic → is_integer shape.0 ≡ true → rules.is_signed m (rules.sign_of code) type ≡ true → IsTypeOf whole shape type → Value given shape a → Value given shape b
      → Stands whole main local_size rank f given code (a ∷ b ∷ []) type
  arithmetic_stands given code type a b shape is integer sign of v w =
      stands_as given code (a ∷ b ∷ []) (a ∷ b ∷ []) type form.Arithmetic (λ id. instruction.Arithmetic code type id a b) is (λ id. refl) (λ id. refl) (λ id. refl) (λ id. refl) (λ id. refl) (λ id. refl) (known_type given shape type of, (v.known, (w.known, tt)))
      (λ id. and_from _ _ (and_from _ _ (and_from _ _ (ints shape type integer of) sign) (same_type given shape type a of v)) (same_type given shape type b of w)) (λ id. refl) (λ id. refl) (λ id. refl) (λ id. refl)

  pub shift_stands : (given : List ℕ) (code type a b : ℕ) (shape by : Shape) → form_of code ≡ Some form.Shift → is_integer shape.0 ≡ true → is_integer by.0 ≡ true → shape.1 ≡ by.1 → IsTypeOf whole shape type → Value given shape a → Value given by b
      → Stands whole main local_size rank f given code (a ∷ b ∷ []) type
  shift_stands given code type a b shape by is integer integers same of v w =
      stands_as given code (a ∷ b ∷ []) (a ∷ b ∷ []) type form.Shift (λ id. instruction.Shift code type id a b) is (λ id. refl) (λ id. refl) (λ id. refl) (λ id. refl) (λ id. refl) (λ id. refl) (known_type given shape type of, (v.known, (w.known, tt)))
      (λ id. and_from _ _ (and_from _ _ (ints shape type integer of) (same_type given shape type a of v)) (ap (rules.is_ints_sized m type) w.typed ∙ and_from _ _ (ints by w.type integers w.of) (sizes shape by type w.type same of w.of))) (λ id. refl) (λ id. refl) (λ id. refl) (λ id. refl)

  pub logical_stands : (given : List ℕ) (code type a b : ℕ) (shape : Shape) → form_of code ≡ Some form.Logical → is_boolean shape.0 ≡ true → IsTypeOf whole shape type → Value given shape a → Value given shape b → Stands whole main local_size rank f given code (a ∷ b ∷ []) type
  logical_stands given code type a b shape is boolean of v w =
      stands_as given code (a ∷ b ∷ []) (a ∷ b ∷ []) type form.Logical (λ id. instruction.Logical code type id a b) is (λ id. refl) (λ id. refl) (λ id. refl) (λ id. refl) (λ id. refl) (λ id. refl) (known_type given shape type of, (v.known, (w.known, tt)))
      (λ id. and_from _ _ (and_from _ _ (truths shape type boolean of) (same_type given shape type a of v)) (same_type given shape type b of w)) (λ id. refl) (λ id. refl) (λ id. refl) (λ id. refl)

  pub comparison_stands : (given : List ℕ) (code type a b : ℕ) (shape from : Shape) → form_of code ≡ Some form.Comparison → is_boolean shape.0 ≡ true → is_integer from.0 ≡ true → shape.1 ≡ from.1 → ((other : ℕ) → IsTypeOf whole from other → rules.is_signed m (rules.sign_of code) other ≡ true)
      → IsTypeOf whole shape type → Value given from a → Value given from b → Stands whole main local_size rank f given code (a ∷ b ∷ []) type
  comparison_stands given code type a b shape from is boolean integer same sign of v w =
      stands_as given code (a ∷ b ∷ []) (a ∷ b ∷ []) type form.Comparison (λ id. instruction.Comparison code type id a b) is (λ id. refl) (λ id. refl) (λ id. refl) (λ id. refl) (λ id. refl) (λ id. refl) (known_type given shape type of, (v.known, (w.known, tt)))
      (λ id. and_from _ _ (truths shape type boolean of)
      (ap (rules.are_compared m (rules.sign_of code) type b) v.typed ∙ and_from _ _ (and_from _ _ (and_from _ _ (ints from v.type integer v.of) (sign v.type v.of)) (same_type given from v.type b v.of w)) (sizes shape from type v.type same of v.of))) (λ id. refl) (λ id. refl) (λ id. refl) (λ id. refl)

  pub select_stands : (given : List ℕ) (type c a b : ℕ) (shape condition : Shape) → form_of op.SELECT ≡ Some form.Select → is_boolean condition.0 ≡ true → shape.1 ≡ condition.1 → IsTypeOf whole shape type → Value given condition c → Value given shape a → Value given shape b
      → Stands whole main local_size rank f given op.SELECT (c ∷ a ∷ b ∷ []) type
  select_stands given type c a b shape condition is boolean same of u v w =
      stands_as given op.SELECT (c ∷ a ∷ b ∷ []) (c ∷ a ∷ b ∷ []) type form.Select (λ id. instruction.Select type id c a b) is (λ id. refl) (λ id. refl) (λ id. refl) (λ id. refl) (λ id. refl) (λ id. refl) (known_type given shape type of, (u.known, (v.known, (w.known, tt))))
      (λ id. and_from _ _ (and_from _ _ (same_type given shape type a of v) (same_type given shape type b of w)) (ap (rules.is_truth_sized m type) u.typed ∙ and_from _ _ (truths condition u.type boolean u.of) (sizes shape condition type u.type same of u.of))) (λ id. refl) (λ id. refl) (λ id. refl) (λ id. refl)

  -- an index or a count of bits
  int_value : (given : List ℕ) (s : Scalar) (a : ℕ) → is_integer s ≡ true → Value given (s, 1) a → is_int_value m a ≡ true
  int_value given s a integer v = ap (is_int_type m) v.typed ∙ by s integer v.of
    where
      by : (s : Scalar) → is_integer s ≡ true → IsTypeOf whole (s, 1) v.type → is_int m v.type ≡ true
      by Boolean e of = absurd (true≢false (sym e))
      by Int e of = rw (scalar_type_is whole main local_size sorted Int v.type of) refl
      by Uint e of = rw (scalar_type_is whole main local_size sorted Uint v.type of) refl

  pub insert_stands : (given : List ℕ) (type a b c d : ℕ) (shape : Shape) (s t : Scalar) → form_of op.BIT_FIELD_INSERT ≡ Some form.BitFieldInsert → is_integer shape.0 ≡ true → is_integer s ≡ true → is_integer t ≡ true → IsTypeOf whole shape type → Value given shape a
      → Value given shape b → Value given (s, 1) c → Value given (t, 1) d → Stands whole main local_size rank f given op.BIT_FIELD_INSERT (a ∷ b ∷ c ∷ d ∷ []) type
  insert_stands given type a b c d shape s t is integer first second of u v w x =
      stands_as given op.BIT_FIELD_INSERT (a ∷ b ∷ c ∷ d ∷ []) (a ∷ b ∷ c ∷ d ∷ []) type form.BitFieldInsert (λ id. instruction.BitFieldInsert type id a b c d) is (λ id. refl) (λ id. refl) (λ id. refl) (λ id. refl) (λ id. refl) (λ id. refl)
      (known_type given shape type of, (u.known, (v.known, (w.known, (x.known, tt)))))
      (λ id. and_from _ _ (and_from _ _ (and_from _ _ (and_from _ _ (ints shape type integer of) (same_type given shape type a of u)) (same_type given shape type b of v)) (int_value given s c first w)) (int_value given t d second x)) (λ id. refl) (λ id. refl) (λ id. refl) (λ id. refl)

  pub bits_stand : (given : List ℕ) (code type a b c : ℕ) (shape : Shape) (s t : Scalar) → form_of code ≡ Some form.BitFieldExtract → is_integer shape.0 ≡ true → rules.is_signed m (rules.sign_of code) type ≡ true → is_integer s ≡ true → is_integer t ≡ true → IsTypeOf whole shape type → Value given shape a
      → Value given (s, 1) b → Value given (t, 1) c → Stands whole main local_size rank f given code (a ∷ b ∷ c ∷ []) type
  bits_stand given code type a b c shape s t is integer sign first second of u v w =
      stands_as given code (a ∷ b ∷ c ∷ []) (a ∷ b ∷ c ∷ []) type form.BitFieldExtract (λ id. instruction.BitFieldExtract code type id a b c) is (λ id. refl) (λ id. refl) (λ id. refl) (λ id. refl) (λ id. refl) (λ id. refl)
      (known_type given shape type of, (u.known, (v.known, (w.known, tt))))
      (λ id. and_from _ _ (and_from _ _ (and_from _ _ (and_from _ _ (ints shape type integer of) sign) (same_type given shape type a of u)) (int_value given s b first v)) (int_value given t c second w)) (λ id. refl) (λ id. refl) (λ id. refl) (λ id. refl)
