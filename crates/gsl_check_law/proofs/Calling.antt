-- Calls of functions on well typed arguments are well typed.
use Rattle.std.proofs.Common.{◌⊎◌, ◌≡◌, refl, sym, ap, ◌∙◌, subst, ℕ, zero, suc, ◌<◌, List, [], ◌∷◌, ◌++◌, map, length, slice_get, slice_index_or, get_or, Some, Result, Ok, Err, Bool, true, false, ◌||◌, IsTrue, inl, inr, arith}
use Rattle.std.specs.List.{AllByRecursion}
use Rattle.std.proofs.lemmas.Bool.{and_parts}
use Rattle.gsl_base.specs.declared.fault.Place.{Place}
use Rattle.gsl_base.specs.declared.fault.Code.TheVariants.{E0507}
use Rattle.gsl_types.specs.Conversions.{converts}
use Rattle.gsl_types.specs.Known.{IsSound}
use Rattle.gsl_types.specs.declared.ty.Direction.{Direction}
use Rattle.gsl_types.specs.declared.ty.Direction.TheVariants.{In, Out, InOut}
use Rattle.gsl_types.specs.declared.ty.Scalar.{Scalar}
use Rattle.gsl_types.specs.declared.ty.Scalar.TheVariants.{Bool as Boolean, Int, Uint}
use Rattle.gsl_types.specs.declared.ty.Ty.{Ty}
use Rattle.gsl_types.specs.declared.ty.Ty.TheOpen.{Ty-F}
use Rattle.gsl_types.specs.declared.ty.Ty.TheFolds.{fold-roll-Ty}
use Rattle.gsl_types.specs.declared.ty.Ty.TheVariants.{rolls-Void}
use Rattle.gsl_types.specs.Known.{sound, sound_kind}
use Rattle.gsl_values.specs.declared.function.Builtin.{Builtin}
use Rattle.gsl_values.specs.declared.function.Builtin.TheVariants as f
use Rattle.gsl_overload.specs.Identity.{identical}
use Rattle.gsl_overload.specs.Best.{Param, Signature, fits, fits_param, at_place, chosen}
use Rattle.gsl_overload.specs.declared.choice.Choice.{Choice}
use Rattle.gsl_overload.specs.declared.choice.Choice.TheVariants.{NoMatch, Ambiguous}
use Rattle.gsl_overload.proofs.Same.{same_is, no_more}
use Rattle.gsl_overload.proofs.Bests.{judged, Judged}
use Rattle.gsl_tree.specs.declared.expr.Expr.{Expr}
use Rattle.gsl_tree.specs.declared.expr.ExprKind.TheVariants as kind
use Rattle.gsl_tree.specs.declared.expr.ExprKind.TheVariants.{outs-Call, outs-Built}
use Rattle.gsl_tree.specs.declared.expr.ExprKind.TheOpen.{ExprKind-F}
use Rattle.gsl_tree.specs.declared.unit.Prototype.{Prototype}
use Rattle.gsl_tree.specs.Around.{Around}
use Rattle.gsl_tree.specs.Shapes.{Shape, shape_of, of_shape, built_shape}
use Rattle.gsl_tree.specs.Paths.{params_at, going_in, coming_out}
use Rattle.gsl_tree.specs.Trees.{ThroughoutAll}
use Rattle.gsl_tree.specs.Expressions.{IsNode, MayBeRead, MayBeWritten, AreArguments, shapes_of, shapes_with}
use Rattle.gsl_tree.specs.WellTyped.{IsVariableType, IsResult}
use Rattle.gsl_tree.proofs.Nodes.{expr_at}
use Rattle.gsl_typing.specs.declared.scene.Scene.{Scene}
use Rattle.gsl_typing.specs.declared.scene.Part.{Part}
use Rattle.gsl_typing.specs.Scene.{around, type_in, made}
use Rattle.gsl_typing.specs.Conversions.{serves_as, as_type}
use Rattle.gsl_calls.specs.declared.families.Family.{Family}
use Rattle.gsl_calls.specs.declared.families.Family.TheVariants.{One, Two, Bounded, Three, Clamped, Mixed, Extracted, Inserted}
use Rattle.gsl_calls.specs.Calls.{types_in, as_argument, as_arguments, is_misused, any_misused, params_of, result_at, result_of, call_of, call_by, call, type_of_shape, built_type_by, built_type, built_of, built_by, built}
use Rattle.gsl_calls.specs.Candidates.{row, param_of, signature, vectors, all, integers, integer_vectors, candidates_by, candidates}
use Rattle.gsl_check_decl.proofs.Gathering.{Holds}
use Rattle.gsl_check_law.specs.Parts.{IsPart, IsTaken}
use Rattle.gsl_check_law.specs.Scenes.{IsScene, IsHead}
use Rattle.gsl_check_law.proofs.Rows as rows
use Rattle.gsl_check_law.proofs.Rows.{not_false, neither}
use Rattle.gsl_check_law.proofs.Found as found
use Rattle.gsl_check_law.proofs.Found.{all_append}
use Rattle.gsl_check_law.proofs.Types.{IsSettled, IsCount, shape_back, sound_shape, shape_settled, serves_converted, serves_itself}
use Rattle.gsl_check_law.proofs.Parts.{may_be_read, is_l_value}
use Rattle.gsl_check_law.proofs.Operators.{operand_of}
use Rattle.gsl_check_law.proofs.Building.{plain_settled}

-- ---- an argument fits its parameter

fits_in : (t arg : Ty) → IsTrue (fits_param (In, t) arg) → IsTrue (serves_as arg t)
fits_in t arg is = by_test (identical t arg) refl
  where
    by_test : (b : Bool) → identical t arg ≡ b → IsTrue (serves_as arg t)
    by_test true same = subst (λ (u : Ty). IsTrue (serves_as u t)) (same_is t arg same) (serves_itself t)
    by_test false differ = serves_converted arg t (sym (ap (λ b. b || converts arg t) differ) ∙ is)

fits_out : (t arg : Ty) → IsTrue (fits_param (Out, t) arg) → (arg ≡ t) ⊎ IsTrue (converts t arg)
fits_out t arg is = by_test (identical t arg) refl
  where
    by_test : (b : Bool) → identical t arg ≡ b → (arg ≡ t) ⊎ IsTrue (converts t arg)
    by_test true same = inl (sym (same_is t arg same))
    by_test false differ = inr (sym (ap (λ b. b || converts t arg) differ) ∙ is)

fits_both : (t arg : Ty) → IsTrue (fits_param (InOut, t) arg) → arg ≡ t
fits_both t arg is = by_test (identical t arg) refl
  where
    by_test : (b : Bool) → identical t arg ≡ b → arg ≡ t
    by_test true same = sym (same_is t arg same)
    by_test false differ = no_more (sym (ap (λ b. b || false) differ) ∙ is)

-- ---- arguments

module _ (scene : Scene) where
  abbrev count : ℕ
  count = length scene.structs

  abbrev here : Around
  here = around scene

  -- arguments as a call has them, for parameters of types that no runtime array has
  pub record IsPassed (params : List Param) (es : List Expr) : Type 0 where
    pub args : AreArguments here params es
    pub reads : AllByRecursion (MayBeRead here) (going_in params es)
    pub writes : AllByRecursion (MayBeWritten here) (coming_out params es)
    pub parts : ThroughoutAll (IsNode here) es

  passed_one : (direction : Direction) (t : Ty) (arg : Part) (params : List Param) (es : List Expr) → IsTaken scene arg → IsSettled t → is_misused scene direction arg ≡ false → IsTrue (fits_param (direction, t) (type_in arg))
      → IsPassed params es → IsPassed ((direction, t) ∷ params) (as_argument (direction, t) arg.expr ∷ es)
  passed_one In t arg params es taken settled used fit rest =
      let x = operand_of scene t arg taken used (fits_in t (type_in arg) fit) settled in
      record { args = (x.type, rest.args); reads = (x.reads, rest.reads); writes = rest.writes; parts = ThroughoutAll.more (as_type t arg.expr) es x.expr rest.parts }
  passed_one Out t arg params es taken settled used fit rest =
      record { args = ((fits_out t (type_in arg) fit, is_l_value scene arg (not_false _ used)), rest.args); reads = rest.reads; writes = (taken.small, rest.writes); parts = ThroughoutAll.more arg.expr es taken.part.expr rest.parts }
  passed_one InOut t arg params es taken settled used fit rest =
      let parts = neither _ _ used in
      let same = fits_both t (type_in arg) fit in
      let read = may_be_read scene arg taken parts.1 (subst IsSettled (sym same) settled) in
      record { args = ((same, is_l_value scene arg (not_false _ parts.0)), rest.args); reads = (read, rest.reads); writes = (taken.small, rest.writes); parts = ThroughoutAll.more arg.expr es taken.part.expr rest.parts }

  abbrev pub SettledParams : List Param → Type 0
  SettledParams params = AllByRecursion (λ (param : Param). IsSettled param.1) params

  pub passed : (params : List Param) (args : List Part) → SettledParams params → AllByRecursion (IsTaken scene) args → any_misused scene params args ≡ false → IsTrue (fits (types_in args) params) → IsPassed params (as_arguments params args)
  passed [] [] settled all used fit = record { args = tt; reads = tt; writes = tt; parts = ThroughoutAll.none }
  passed [] (arg ∷ args) settled all used fit = no_more fit
  passed (param ∷ params) [] settled all used fit = no_more fit
  passed (param ∷ params) (arg ∷ args) settled all used fit =
      let once = neither (is_misused scene param.0 arg) (any_misused scene params args) used in
      let parts = and_parts (fits_param param (type_in arg)) (fits (types_in args) params) fit in
      passed_one param.0 param.1 arg params (as_arguments params args) all.0 settled.0 once.0 parts.0 (passed params args settled.1 all.1 once.1 parts.1)

  -- ---- functions of the unit

  module _ (fine : IsScene scene) (place : Place) (args : List Part) (taken : AllByRecursion (IsTaken scene) args) where
    settled_params : (params : List Param) → AllByRecursion (λ (param : Param). IsVariableType scene.structs param.1) params → SettledParams params
    settled_params [] all = tt
    settled_params (param ∷ params) all = (plain_settled param.1 all.0.plain, settled_params params all.1)

    result_sound : (t : Ty) → IsResult scene.structs t → IsSound count t
    result_sound t (inl is) = subst (IsSound count) (sym is) (ap (sound count) (sym rolls-Void) ∙ fold-roll-Ty Bool (sound_kind count) Ty-F.Void)
    result_sound t (inr is) = is.known

    call_node : (number : ℕ) (p : Prototype) → slice_get scene.prototypes number ≡ Some p → IsTrue (fits (types_in args) (params_of scene number)) → Holds (IsPart scene) (call_of scene place number args)
    unfolding call_of
    call_node number p at fit =
        rows.row (IsPart scene) place E0507 (any_misused scene (params_of scene number) args) [] (Ok (made place (result_of scene number) (kind.Call number (as_arguments (params_of scene number) args))))
        (λ used.
        let head = found.at_place (IsHead scene.structs) scene.prototypes number p fine.prototypes at in
        let params_are : params_of scene number ≡ p.params = ap params_at at in
        let is = passed (params_of scene number) args (subst SettledParams (sym params_are) (settled_params p.params head.1)) taken used fit in
        let result_is : result_of scene number ≡ p.result = ap result_at at in
        record {
          expr = expr_at here place (result_of scene number) (kind.Call number (as_arguments (params_of scene number) args)) (ExprKind-F.Call number (as_arguments (params_of scene number) args)) (outs-Call number (as_arguments (params_of scene number) args))
              (p, at, sym result_is, subst (λ ps. AreArguments here ps (as_arguments (params_of scene number) args)) params_are is.args) is.reads is.writes is.parts;
          sound = subst (IsSound count) (sym result_is) (result_sound p.result head.0);
        })

    number_at : (numbers : List ℕ) (k : ℕ) → k < length numbers → AllByRecursion (λ n. n < length scene.prototypes) numbers → slice_index_or numbers k 0 < length scene.prototypes
    number_at [] k within all = let no : ⊥ = omega (arith, within) in elim no [ ]
    number_at (n ∷ numbers) zero within all = all.0
    number_at (n ∷ numbers) (suc k) within all = number_at numbers k (omega (arith, within)) all.1

    mapped_at : (numbers : List ℕ) (k : ℕ) → k < length numbers → at_place (map (params_of scene) numbers) k ≡ params_of scene (slice_index_or numbers k 0)
    mapped_at [] k within = let no : ⊥ = omega (arith, within) in elim no [ ]
    mapped_at (n ∷ numbers) zero within = refl
    mapped_at (n ∷ numbers) (suc k) within = mapped_at numbers k (omega (arith, within))

    mapped_length : {A B : Type 0} (g : A → B) (xs : List A) → length (map g xs) ≡ length xs
    mapped_length g [] = refl
    mapped_length g (x ∷ xs) = ap suc (mapped_length g xs)

    call_made : (numbers : List ℕ) (answer : Result ℕ Choice) → AllByRecursion (λ n. n < length scene.prototypes) numbers → Judged (map (params_of scene) numbers) (types_in args) answer → Holds (IsPart scene) (call_by scene place numbers args answer)
    call_made numbers (Err NoMatch) all is = tt
    call_made numbers (Err Ambiguous) all is = tt
    call_made numbers (Ok k) all is =
        let there = is.fits.there in
        let within : k < length numbers = omega (arith, there, mapped_length (params_of scene) numbers) in
        let p = found.below scene.prototypes (slice_index_or numbers k 0) (number_at numbers k within all) in
        call_node (slice_index_or numbers k 0) p.0 p.1 (subst (λ s. IsTrue (fits (types_in args) s)) (mapped_at numbers k within) is.fits.fits)

    pub call_typed : (numbers : List ℕ) → AllByRecursion (λ n. n < length scene.prototypes) numbers → Holds (IsPart scene) (call scene place numbers args)
    unfolding call
    call_typed numbers all = call_made numbers (chosen (map (params_of scene) numbers) (types_in args)) all (judged (map (params_of scene) numbers) (types_in args))

-- ---- built-in functions

-- A candidate of a built-in function is the shapes of its parameters, on which it gives a shape.
pub record IsRow (which : Builtin) (s : Signature) : Type 0 where
  pub shapes : List Shape
  pub params : s ≡ map param_of shapes
  pub shape : Shape
  pub gives : built_shape which shapes ≡ Some shape
  pub counts : IsCount shape.1

one_is : IsCount 1
one_is = record { least = omega arith; most = omega arith }

two_is : IsCount 2
two_is = record { least = omega arith; most = omega arith }

three_is : IsCount 3
three_is = record { least = omega arith; most = omega arith }

four_is : IsCount 4
four_is = record { least = omega arith; most = omega arith }

module _ (which : Builtin) (family : Family) (s : Scalar) where
  one_row : (n : ℕ) (z : Shape) → built_shape which (row family s n) ≡ Some z → IsCount z.1 → IsRow which (signature family s n)
  one_row n z gives counts = record { shapes = row family s n; params = refl; shape = z; gives = gives; counts = counts }

  abbrev Vectors : (ℕ → Shape) → Type 0
  Vectors z = (built_shape which (row family s 2) ≡ Some (z 2)) × (built_shape which (row family s 3) ≡ Some (z 3)) × (built_shape which (row family s 4) ≡ Some (z 4))

  vectors_by : (z : ℕ → Shape) → Vectors z → IsCount (z 2).1 → IsCount (z 3).1 → IsCount (z 4).1 → AllByRecursion (IsRow which) (vectors family s)
  vectors_by z is c d e = (one_row 2 (z 2) is.0 c, (one_row 3 (z 3) is.1 d, (one_row 4 (z 4) is.2 e, tt)))

  -- vectors whose result has as many components
  vector_rows : (r : Scalar) → Vectors (λ n. (r, n)) → AllByRecursion (IsRow which) (vectors family s)
  vector_rows r is = vectors_by (λ n. (r, n)) is two_is three_is four_is

  flag_rows : (r : Scalar) → Vectors (λ n. (r, 1)) → AllByRecursion (IsRow which) (vectors family s)
  flag_rows r is = vectors_by (λ n. (r, 1)) is one_is one_is one_is

  all_rows : (r : Scalar) → built_shape which (row family s 1) ≡ Some (r, 1) → Vectors (λ n. (r, n)) → AllByRecursion (IsRow which) (all family s)
  all_rows r first is = (one_row 1 (r, 1) first one_is, vector_rows r is)

module _ (which : Builtin) (family : Family) where
  integer_rows : (r q : Scalar) → built_shape which (row family Int 1) ≡ Some (r, 1) → Vectors which family Int (λ n. (r, n)) → built_shape which (row family Uint 1) ≡ Some (q, 1) → Vectors which family Uint (λ n. (q, n))
      → AllByRecursion (IsRow which) (integers family)
  integer_rows r q a b c d = all_append (IsRow which) (all family Int) (all family Uint) (all_rows which family Int r a b) (all_rows which family Uint q c d)

  integer_vector_rows : (r q : Scalar) → Vectors which family Int (λ n. (r, n)) → Vectors which family Uint (λ n. (q, n)) → AllByRecursion (IsRow which) (integer_vectors family)
  integer_vector_rows r q b d = all_append (IsRow which) (vectors family Int) (vectors family Uint) (vector_rows which family Int r b) (vector_rows which family Uint q d)

both_rows : (which : Builtin) (xs ys : List Signature) → AllByRecursion (IsRow which) xs → AllByRecursion (IsRow which) ys → AllByRecursion (IsRow which) (xs ++ ys)
both_rows which xs ys a b = all_append (IsRow which) xs ys a b

rows_of : (which : Builtin) → AllByRecursion (IsRow which) (candidates_by which)
rows_of f.Abs = all_rows f.Abs One Int Int refl (refl, refl, refl)
rows_of f.Sign = all_rows f.Sign One Int Int refl (refl, refl, refl)
rows_of f.Min = both_rows f.Min (integers Two) (integer_vectors Bounded) (integer_rows f.Min Two Int Uint refl (refl, refl, refl) refl (refl, refl, refl)) (integer_vector_rows f.Min Bounded Int Uint (refl, refl, refl) (refl, refl, refl))
rows_of f.Max = both_rows f.Max (integers Two) (integer_vectors Bounded) (integer_rows f.Max Two Int Uint refl (refl, refl, refl) refl (refl, refl, refl)) (integer_vector_rows f.Max Bounded Int Uint (refl, refl, refl) (refl, refl, refl))
rows_of f.Clamp = both_rows f.Clamp (integers Three) (integer_vectors Clamped) (integer_rows f.Clamp Three Int Uint refl (refl, refl, refl) refl (refl, refl, refl)) (integer_vector_rows f.Clamp Clamped Int Uint (refl, refl, refl) (refl, refl, refl))
rows_of f.Mix = both_rows f.Mix (integers Mixed) (all Mixed Boolean) (integer_rows f.Mix Mixed Int Uint refl (refl, refl, refl) refl (refl, refl, refl)) (all_rows f.Mix Mixed Boolean Boolean refl (refl, refl, refl))
rows_of f.LessThan = integer_vector_rows f.LessThan Two Boolean Boolean (refl, refl, refl) (refl, refl, refl)
rows_of f.LessThanEqual = integer_vector_rows f.LessThanEqual Two Boolean Boolean (refl, refl, refl) (refl, refl, refl)
rows_of f.GreaterThan = integer_vector_rows f.GreaterThan Two Boolean Boolean (refl, refl, refl) (refl, refl, refl)
rows_of f.GreaterThanEqual = integer_vector_rows f.GreaterThanEqual Two Boolean Boolean (refl, refl, refl) (refl, refl, refl)
rows_of f.Equal = both_rows f.Equal (integer_vectors Two) (vectors Two Boolean) (integer_vector_rows f.Equal Two Boolean Boolean (refl, refl, refl) (refl, refl, refl)) (vector_rows f.Equal Two Boolean Boolean (refl, refl, refl))
rows_of f.NotEqual = both_rows f.NotEqual (integer_vectors Two) (vectors Two Boolean) (integer_vector_rows f.NotEqual Two Boolean Boolean (refl, refl, refl) (refl, refl, refl)) (vector_rows f.NotEqual Two Boolean Boolean (refl, refl, refl))
rows_of f.Any = flag_rows f.Any One Boolean Boolean (refl, refl, refl)
rows_of f.All = flag_rows f.All One Boolean Boolean (refl, refl, refl)
rows_of f.Not = vector_rows f.Not One Boolean Boolean (refl, refl, refl)
rows_of f.BitCount = integer_rows f.BitCount One Int Int refl (refl, refl, refl) refl (refl, refl, refl)
rows_of f.FindLsb = integer_rows f.FindLsb One Int Int refl (refl, refl, refl) refl (refl, refl, refl)
rows_of f.FindMsb = integer_rows f.FindMsb One Int Int refl (refl, refl, refl) refl (refl, refl, refl)
rows_of f.BitfieldReverse = integer_rows f.BitfieldReverse One Int Uint refl (refl, refl, refl) refl (refl, refl, refl)
rows_of f.BitfieldExtract = integer_rows f.BitfieldExtract Extracted Int Uint refl (refl, refl, refl) refl (refl, refl, refl)
rows_of f.BitfieldInsert = integer_rows f.BitfieldInsert Inserted Int Uint refl (refl, refl, refl) refl (refl, refl, refl)

row_at : {A : Type 0} (P : A → Type 0) (xs : List A) (k : ℕ) (d : A) → k < length xs → AllByRecursion P xs → P (get_or xs k d)
row_at P [] k d within all = let no : ⊥ = omega (arith, within) in elim no [ ]
row_at P (x ∷ xs) zero d within all = all.0
row_at P (x ∷ xs) (suc k) d within all = row_at P xs k d (omega (arith, within)) all.1

module _ (scene : Scene) (place : Place) (args : List Part) (taken : AllByRecursion (IsTaken scene) args) where
  abbrev around_here : Around
  around_here = around scene

  shapes_param : (shapes : List Shape) → SettledParams scene (map param_of shapes)
  shapes_param [] = tt
  shapes_param (s ∷ shapes) = (shape_settled (of_shape s) s (shape_back s), shapes_param shapes)

  -- arguments of parameters of these shapes have them
  have_shapes : (shapes : List Shape) (es : List Expr) → AreArguments around_here (map param_of shapes) es → shapes_of es ≡ Some shapes
  have_shapes [] [] are = refl
  have_shapes [] (e ∷ es) are = elim are [ ]
  have_shapes (s ∷ shapes) [] are = elim are [ ]
  have_shapes (s ∷ shapes) (e ∷ es) are = ap (λ (t : Ty). shapes_with (shape_of t) (shapes_of es)) are.0 ∙ ap (λ o. shapes_with o (shapes_of es)) (shape_back s) ∙ ap (λ o. shapes_with (Some s) o) (have_shapes shapes es are.1)

  all_in : (shapes : List Shape) (es : List Expr) → AreArguments around_here (map param_of shapes) es → AllByRecursion (MayBeRead around_here) (going_in (map param_of shapes) es) → AllByRecursion (MayBeRead around_here) es
  all_in [] es are reads = reads
  all_in (s ∷ shapes) [] are reads = tt
  all_in (s ∷ shapes) (e ∷ es) are reads = (reads.0, all_in shapes es are.1 reads.1)

  built_node : (which : Builtin) (shapes : List Shape) (z : Shape) → built_shape which shapes ≡ Some z → IsCount z.1 → IsTrue (fits (types_in args) (map param_of shapes)) → Holds (IsPart scene) (built_of scene place which (map param_of shapes) args)
  unfolding built_of
  built_node which shapes z gives counts fit =
      rows.row (IsPart scene) place E0507 (any_misused scene (map param_of shapes) args) [] (Ok (made place (built_type which (as_arguments (map param_of shapes) args)) (kind.Built which (as_arguments (map param_of shapes) args))))
      (λ used.
      let is = passed scene (map param_of shapes) args (shapes_param shapes) taken used fit in
      let es = as_arguments (map param_of shapes) args in
      let have = have_shapes shapes es is.args in
      let type : built_type which es ≡ of_shape z = ap (built_type_by which) have ∙ ap type_of_shape gives in
      record {
        expr = expr_at around_here place (built_type which es) (kind.Built which es) (ExprKind-F.Built which es) (outs-Built which es) (shapes, z, have, gives, sym type) (all_in shapes es is.args is.reads) tt is.parts;
        sound = subst (IsSound (length scene.structs)) (sym type) (sound_shape (length scene.structs) z counts);
      })

  built_row : (which : Builtin) (s : Signature) → IsRow which s → IsTrue (fits (types_in args) s) → Holds (IsPart scene) (built_of scene place which s args)
  built_row which s is fit = subst (λ (t : Signature). IsTrue (fits (types_in args) t) → Holds (IsPart scene) (built_of scene place which t args)) (sym is.params) (built_node which is.shapes is.shape is.gives is.counts) fit

  built_made : (which : Builtin) (answer : Result ℕ Choice) → Judged (candidates which) (types_in args) answer → Holds (IsPart scene) (built_by scene place which args answer)
  unfolding candidates
  built_made which (Err NoMatch) is = tt
  built_made which (Err Ambiguous) is = tt
  built_made which (Ok k) is = built_row which (slice_index_or (candidates_by which) k []) (row_at (IsRow which) (candidates_by which) k [] is.fits.there (rows_of which)) is.fits.fits

  pub built_typed : (which : Builtin) → Holds (IsPart scene) (built scene place which args)
  unfolding built
  built_typed which = built_made which (chosen (candidates which) (types_in args)) (judged (candidates which) (types_in args))
