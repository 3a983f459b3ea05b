-- What an expression does lasts with more units, where calls do.
use Rattle.std.proofs.Common.{refl, sym, subst, ℕ, List, [], ◌∷◌, map, Some, None}
use Rattle.std.specs.Prelude.{Bool, ◌==◌, if◌then◌else◌, slice_get}
use Rattle.gsl_types.specs.declared.ty.Direction.{Direction}
use Rattle.gsl_types.specs.declared.ty.Direction.TheVariants.{In, Out, InOut}
use Rattle.gsl_types.specs.declared.ty.StructType.{StructType}
use Rattle.gsl_types.specs.declared.ty.Ty.{Ty}
use Rattle.gsl_values.specs.Vectors.{components as picked}
use Rattle.gsl_values.specs.declared.value.Value.{Value}
use Rattle.gsl_values.specs.declared.value.Value.TheVariants.{Word}
use Rattle.gsl_tree.specs.declared.expr.Expr.{Expr}
use Rattle.gsl_tree.specs.declared.expr.ExprKind.{ExprKind}
use Rattle.gsl_tree.specs.declared.expr.ExprKind.TheOpen.{ExprKind-F, Expr-F}
use Rattle.gsl_tree.specs.declared.expr.ExprKind.TheFolds.{fold-Expr, fold-ExprKind, fold-roll-Expr, fold-roll-ExprKind, ind-Expr, map-Expr, map-ExprKind}
use Rattle.gsl_tree.specs.declared.expr.ExprKind.TheViews.{roll-Expr, roll-ExprKind}
use Rattle.gsl_tree.specs.Operations.{unary_value, binary_value, decides, logic_word, step_value, is_postfix, build_value, builtin_value, is_signed}
use Rattle.gsl_tree.specs.Values.{word_in, zero_value}
use Rattle.gsl_tree.specs.Weights.{params_of}
use Rattle.gsl_meaning.specs.Accesses.{Global, Interface, Local, Loose, Param, Access, whole, member_of, swizzle_of, read}
use Rattle.gsl_meaning.specs.Running.{Run, ◌>>=◌, given, told_by, drawing, storing, indexing}
use Rattle.gsl_meaning.specs.Expressions.{Called, Meant, Passed, Setting, accessed, calling, counted, in_order, is_signed_first, last_of, means, means_by, member_root, passing, passing_all, returning, stepping, typed_by, updating, valued, values_of}
use Rattle.gsl_meaning.specs.Lasting.{Lasts}
use Rattle.gsl_meaning.proofs.Lasts.{lasts_bind, lasts_drawing, lasts_given, lasts_if, lasts_indexing, lasts_storing, lasts_told}
use Rattle.std.proofs.Common.{arith}

pub record LastsMeant (m : Meant) : Type 0 where
  pub access : Lasts m.access
  pub value : Lasts m.value

abbrev AllLast : List Meant → Type 0
AllLast [] = Unit {0}
AllLast (m ∷ ms) = LastsMeant m × AllLast ms

of_value : (ty : Ty) (value : Run Value) → Lasts value → LastsMeant (valued ty value)
of_value ty value is = record { access = lasts_bind value (λ v. given (whole (Loose v))) is (λ v. lasts_given (whole (Loose v))); value = is }

of_access : (structs : List StructType) (ty : Ty) (access : Run Access) → Lasts access → LastsMeant (accessed structs ty access)
of_access structs ty access is = record { access = is; value = lasts_bind access (λ a. told_by (read structs ty a)) is (λ a. lasts_told (read structs ty a)) }

lasts_order : (ms : List Meant) → AllLast ms → Lasts (in_order ms)
lasts_order [] all = lasts_given []
lasts_order (m ∷ ms) all =
    lasts_bind m.value (λ v. in_order ms >>= (λ vs. given (v ∷ vs))) all.0.value
    (λ v. lasts_bind (in_order ms) (λ vs. given (v ∷ vs)) (lasts_order ms all.1) (λ vs. lasts_given (v ∷ vs)))

-- ---- calls

module _ (structs : List StructType) where
  lasts_passing : (d : Direction) (ty : Ty) (arg : Meant) → LastsMeant arg → Lasts (passing structs d ty arg)
  lasts_passing In ty arg is = lasts_bind arg.value (λ v. given (record { value = v; back = None })) is.value (λ v. lasts_given (record { value = v; back = None }))
  lasts_passing Out ty arg is =
      lasts_bind arg.access (λ a. given (record { value = zero_value structs ty; back = Some a })) is.access (λ a. lasts_given (record { value = zero_value structs ty; back = Some a }))
  lasts_passing InOut ty arg is =
      lasts_bind arg.access (λ a. told_by (λ state. record { value = read structs arg.ty a state; back = Some a })) is.access
      (λ a. lasts_told (λ state. record { value = read structs arg.ty a state; back = Some a }))

  lasts_passing_all : (params : List (Direction × Ty)) (args : List Meant) → AllLast args → Lasts (passing_all structs params args)
  lasts_passing_all [] [] all = lasts_given []
  lasts_passing_all [] (arg ∷ args) all = lasts_given []
  lasts_passing_all (param ∷ params) [] all = lasts_given []
  lasts_passing_all (param ∷ params) (arg ∷ args) all =
      lasts_bind (passing structs param.0 param.1 arg) (λ p. passing_all structs params args >>= (λ ps. given (p ∷ ps))) (lasts_passing param.0 param.1 arg all.0)
      (λ p. lasts_bind (passing_all structs params args) (λ ps. given (p ∷ ps)) (lasts_passing_all params args all.1) (λ ps. lasts_given (p ∷ ps)))

lasts_returning : (passed : List Passed) (called : Called) → Lasts (returning passed called)
lasts_returning passed called = record { keeps = λ state units more. (refl, omega arith) }

-- ---- every kind of expression

module _ (setting : Setting) (calls : (number : ℕ) (args : List Value) → Lasts (setting.call number args)) where
  abbrev structs : List StructType
  structs = setting.structs

  abbrev Kinds : Type 0
  Kinds = Ty → Meant

  abbrev part : Expr → Meant
  part = fold-Expr Kinds Meant (means_by setting) typed_by

  abbrev LastsKind : ExprKind → Type 0
  LastsKind k = (ty : Ty) → LastsMeant (fold-ExprKind Kinds Meant (means_by setting) typed_by k ty)

  abbrev LastsPart : Expr → Type 0
  LastsPart e = LastsMeant (part e)

  abbrev Child : Type 0
  Child = (e : Expr) × LastsPart e

  abbrev parts : List Child → List Meant
  parts es = map part (map (λ (e : Child). e.0) es)

  all_last : (es : List Child) → AllLast (parts es)
  all_last [] = tt
  all_last (e ∷ es) = (e.1, all_last es)

  lasts_calling : (number : ℕ) (args : List Meant) → AllLast args → Lasts (calling setting number args)
  lasts_calling number args all =
      lasts_bind (passing_all structs (params_of (slice_get setting.prototypes number)) args) (λ passed. setting.call number (values_of passed) >>= returning passed)
      (lasts_passing_all structs (params_of (slice_get setting.prototypes number)) args all)
      (λ passed. lasts_bind (setting.call number (values_of passed)) (returning passed) (calls number (values_of passed)) (lasts_returning passed))

  lasts_updating : (a b : Meant) (apply : Value → Value → List ℕ → Value × List ℕ) → LastsMeant a → LastsMeant b → Lasts (updating structs a b apply)
  lasts_updating a b apply is also =
      lasts_bind a.access (λ x. told_by (read structs a.ty x) >>= (λ old. b.value >>= (λ y. drawing (apply old y) >>= storing x))) is.access
      (λ x. lasts_bind (told_by (read structs a.ty x)) (λ old. b.value >>= (λ y. drawing (apply old y) >>= storing x)) (lasts_told (read structs a.ty x))
      (λ old. lasts_bind b.value (λ y. drawing (apply old y) >>= storing x) also.value
      (λ y. lasts_bind (drawing (apply old y)) (storing x) (lasts_drawing (apply old y)) (lasts_storing x))))

  lasts_stepping : (a : Meant) (next : Value → Value) (postfix : Bool) → LastsMeant a → Lasts (stepping structs a next postfix)
  lasts_stepping a next postfix is =
      lasts_bind a.access (λ x. told_by (read structs a.ty x) >>= (λ old. storing x (next old) >>= (λ new. given (if postfix then old else new)))) is.access
      (λ x. lasts_bind (told_by (read structs a.ty x)) (λ old. storing x (next old) >>= (λ new. given (if postfix then old else new))) (lasts_told (read structs a.ty x))
      (λ old. lasts_bind (storing x (next old)) (λ new. given (if postfix then old else new)) (lasts_storing x (next old)) (λ new. lasts_given (if postfix then old else new))))

  -- one layer, by what its parts do
  rolled : (x : ExprKind-F ExprKind Expr) → ((ty : Ty) → LastsMeant (means_by setting (map-ExprKind _ _ _ _ (fold-ExprKind Kinds Meant (means_by setting) typed_by) part x) ty)) → LastsKind (roll-ExprKind x)
  rolled x is ty = subst (λ (f : Kinds). LastsMeant (f ty)) (sym (fold-roll-ExprKind Kinds Meant (means_by setting) typed_by x)) (is ty)

  by_kind : (y : ExprKind-F ((k : ExprKind) × LastsKind k) Child) → LastsKind (roll-ExprKind (map-ExprKind _ _ _ _ (λ k. k.0) (λ e. e.0) y))
  by_kind (ExprKind-F.Const v) = rolled (ExprKind-F.Const v) (λ ty. of_value ty (given v) (lasts_given v))
  by_kind (ExprKind-F.Local n) = rolled (ExprKind-F.Local n) (λ ty. of_access structs ty (given (whole (Local n))) (lasts_given (whole (Local n))))
  by_kind (ExprKind-F.Global n) = rolled (ExprKind-F.Global n) (λ ty. of_access structs ty (given (whole (Global n))) (lasts_given (whole (Global n))))
  by_kind (ExprKind-F.Param n) = rolled (ExprKind-F.Param n) (λ ty. of_access structs ty (given (whole (Param n))) (lasts_given (whole (Param n))))
  by_kind (ExprKind-F.BlockMember b n) = rolled (ExprKind-F.BlockMember b n) (λ ty.
      let is = of_access structs ty (given (member_root b n)) (lasts_given (member_root b n)) in record { access = is.access; value = is.value })
  by_kind (ExprKind-F.Stage var) = rolled (ExprKind-F.Stage var) (λ ty. of_value ty (given (setting.stage_value var)) (lasts_given (setting.stage_value var)))
  by_kind (ExprKind-F.Interface n) = rolled (ExprKind-F.Interface n) (λ ty. of_access structs ty (given (whole (Interface n))) (lasts_given (whole (Interface n))))
  by_kind (ExprKind-F.Member a n) = rolled (ExprKind-F.Member a.0 n) (λ ty.
      of_access structs ty ((part a.0).access >>= (λ x. given (member_of x n))) (lasts_bind (part a.0).access (λ x. given (member_of x n)) a.1.access (λ x. lasts_given (member_of x n))))
  by_kind (ExprKind-F.Index a i) = rolled (ExprKind-F.Index a.0 i.0) (λ ty.
      of_access structs ty ((part a.0).access >>= (λ x. (part i.0).value >>= (λ v. indexing x (word_in v))))
      (lasts_bind (part a.0).access (λ x. (part i.0).value >>= (λ v. indexing x (word_in v))) a.1.access
      (λ x. lasts_bind (part i.0).value (λ v. indexing x (word_in v)) i.1.value (λ v. lasts_indexing x (word_in v)))))
  by_kind (ExprKind-F.Swizzle a lanes) = rolled (ExprKind-F.Swizzle a.0 lanes) (λ ty.
      of_access structs ty ((part a.0).access >>= (λ x. given (swizzle_of x (picked lanes))))
      (lasts_bind (part a.0).access (λ x. given (swizzle_of x (picked lanes))) a.1.access (λ x. lasts_given (swizzle_of x (picked lanes)))))
  by_kind (ExprKind-F.Length a) = rolled (ExprKind-F.Length a.0) (λ ty. of_value ty (told_by (counted (part a.0))) (lasts_told (counted (part a.0))))
  by_kind (ExprKind-F.Unary op a) = rolled (ExprKind-F.Unary op a.0) (λ ty.
      of_value ty ((part a.0).value >>= (λ v. given (unary_value op v))) (lasts_bind (part a.0).value (λ v. given (unary_value op v)) a.1.value (λ v. lasts_given (unary_value op v))))
  by_kind (ExprKind-F.Binary op a b) = rolled (ExprKind-F.Binary op a.0 b.0) (λ ty.
      of_value ty ((part a.0).value >>= (λ x. (part b.0).value >>= (λ y. drawing (binary_value op (is_signed (part a.0).ty) x y))))
      (lasts_bind (part a.0).value (λ x. (part b.0).value >>= (λ y. drawing (binary_value op (is_signed (part a.0).ty) x y))) a.1.value
      (λ x. lasts_bind (part b.0).value (λ y. drawing (binary_value op (is_signed (part a.0).ty) x y)) b.1.value (λ y. lasts_drawing (binary_value op (is_signed (part a.0).ty) x y)))))
  by_kind (ExprKind-F.Logic op a b) = rolled (ExprKind-F.Logic op a.0 b.0) (λ ty.
      of_value ty ((part a.0).value >>= (λ x. if decides op (word_in x) then given x else (part b.0).value >>= (λ y. given (Word (logic_word op (word_in x) (word_in y))))))
      (lasts_bind (part a.0).value (λ x. if decides op (word_in x) then given x else (part b.0).value >>= (λ y. given (Word (logic_word op (word_in x) (word_in y))))) a.1.value
      (λ x. lasts_if (decides op (word_in x)) (given x) ((part b.0).value >>= (λ y. given (Word (logic_word op (word_in x) (word_in y))))) (lasts_given x)
      (lasts_bind (part b.0).value (λ y. given (Word (logic_word op (word_in x) (word_in y)))) b.1.value (λ y. lasts_given (Word (logic_word op (word_in x) (word_in y))))))))
  by_kind (ExprKind-F.Choose test a b) = rolled (ExprKind-F.Choose test.0 a.0 b.0) (λ ty.
      of_value ty ((part test.0).value >>= (λ t. if word_in t == 0 then (part b.0).value else (part a.0).value))
      (lasts_bind (part test.0).value (λ t. if word_in t == 0 then (part b.0).value else (part a.0).value) test.1.value
      (λ t. lasts_if (word_in t == 0) (part b.0).value (part a.0).value b.1.value a.1.value)))
  by_kind (ExprKind-F.Assign a b) = rolled (ExprKind-F.Assign a.0 b.0) (λ ty.
      of_value ty ((part a.0).access >>= (λ x. (part b.0).value >>= storing x))
      (lasts_bind (part a.0).access (λ x. (part b.0).value >>= storing x) a.1.access (λ x. lasts_bind (part b.0).value (storing x) b.1.value (lasts_storing x))))
  by_kind (ExprKind-F.Update op a b) = rolled (ExprKind-F.Update op a.0 b.0) (λ ty.
      of_value ty (updating structs (part a.0) (part b.0) (binary_value op (is_signed (part a.0).ty))) (lasts_updating (part a.0) (part b.0) (binary_value op (is_signed (part a.0).ty)) a.1 b.1))
  by_kind (ExprKind-F.Step op a) = rolled (ExprKind-F.Step op a.0) (λ ty.
      of_value ty (stepping structs (part a.0) (step_value op) (is_postfix op)) (lasts_stepping (part a.0) (step_value op) (is_postfix op) a.1))
  by_kind (ExprKind-F.Call number args) = rolled (ExprKind-F.Call number (map (λ (e : Child). e.0) args)) (λ ty.
      of_value ty (calling setting number (parts args)) (lasts_calling number (parts args) (all_last args)))
  by_kind (ExprKind-F.Built which args) = rolled (ExprKind-F.Built which (map (λ (e : Child). e.0) args)) (λ ty.
      of_value ty (in_order (parts args) >>= (λ vs. drawing (builtin_value which (is_signed_first (parts args)) vs)))
      (lasts_bind (in_order (parts args)) (λ vs. drawing (builtin_value which (is_signed_first (parts args)) vs)) (lasts_order (parts args) (all_last args))
      (λ vs. lasts_drawing (builtin_value which (is_signed_first (parts args)) vs))))
  by_kind (ExprKind-F.Build args) = rolled (ExprKind-F.Build (map (λ (e : Child). e.0) args)) (λ ty.
      of_value ty (in_order (parts args) >>= (λ vs. given (build_value ty vs)))
      (lasts_bind (in_order (parts args)) (λ vs. given (build_value ty vs)) (lasts_order (parts args) (all_last args)) (λ vs. lasts_given (build_value ty vs))))
  by_kind (ExprKind-F.Convert a) = rolled (ExprKind-F.Convert a.0) (λ ty. of_value ty (part a.0).value a.1.value)
  by_kind (ExprKind-F.Comma items) = rolled (ExprKind-F.Comma (map (λ (e : Child). e.0) items)) (λ ty.
      of_value ty (in_order (parts items) >>= (λ vs. given (last_of vs)))
      (lasts_bind (in_order (parts items)) (λ vs. given (last_of vs)) (lasts_order (parts items) (all_last items)) (λ vs. lasts_given (last_of vs))))

  by_expr : (y : Expr-F ((k : ExprKind) × LastsKind k) Child) → LastsPart (roll-Expr (map-Expr _ _ _ _ (λ k. k.0) (λ e. e.0) y))
  by_expr y = subst LastsMeant (sym (fold-roll-Expr Kinds Meant (means_by setting) typed_by (map-Expr _ _ _ _ (λ k. k.0) (λ e. e.0) y))) (y.kind.1 y.ty)

  pub lasts_expr : (e : Expr) → LastsMeant (means setting e)
  unfolding means
  lasts_expr e = ind-Expr LastsKind LastsPart (λ x y is. subst (λ z. LastsKind (roll-ExprKind z)) is (by_kind y)) (λ x y is. subst (λ z. LastsPart (roll-Expr z)) is (by_expr y)) e
