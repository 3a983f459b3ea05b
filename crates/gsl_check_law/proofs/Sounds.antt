-- The types of well typed expressions are types of their scene.
use Rattle.std.proofs.Common.{◌≡◌, refl, sym, ap, ◌∙◌, subst, ℕ, List, [], ◌∷◌, length, slice_get, Option, Some, None, unwrap_or, Bool, ◌&&◌, IsTrue, nat_eq, nat_le, inl, inr, arith}
use Rattle.std.specs.List.{AllByRecursion}
use Rattle.std.proofs.lemmas.Bool.{and_parts, eqb-true}
use Rattle.std.proofs.lemmas.Option.{none-some, cond_some}
use Rattle.gsl_types.specs.Conversions.{converts, converts_open, serves}
use Rattle.gsl_types.specs.Known.{IsSound, sound_kind}
use Rattle.gsl_types.specs.declared.ty.Direction.{Direction}
use Rattle.gsl_types.specs.declared.ty.Member.{Member}
use Rattle.gsl_types.specs.declared.ty.StructType.{StructType}
use Rattle.gsl_types.specs.declared.ty.Scalar.TheVariants.{Uint, Int}
use Rattle.gsl_types.specs.declared.ty.Ty.{Ty}
use Rattle.gsl_types.specs.declared.ty.Ty.TheOpen.{Ty-F}
use Rattle.gsl_types.specs.declared.ty.Ty.TheFolds.{fold-roll-Ty}
use Rattle.gsl_types.specs.declared.ty.Ty.TheViews.{out-Ty, roll-Ty, roll-out-Ty}
use Rattle.gsl_values.specs.declared.function.Builtin.{Builtin}
use Rattle.gsl_values.specs.declared.function.Builtin.TheVariants as f
use Rattle.gsl_values.specs.declared.op.UnaryOp.{UnaryOp}
use Rattle.gsl_values.specs.declared.op.UnaryOp.TheVariants.{Negate, Flip, Not}
use Rattle.gsl_overload.proofs.Same.{no_more}
use Rattle.gsl_tree.specs.declared.expr.Expr.{Expr}
use Rattle.gsl_tree.specs.declared.expr.ExprKind.{ExprKind}
use Rattle.gsl_tree.specs.declared.expr.ExprKind.TheOpen.{ExprKind-F}
use Rattle.gsl_tree.specs.declared.unit.GlobalVar.{GlobalVar}
use Rattle.gsl_tree.specs.declared.unit.Interface.{Interface}
use Rattle.gsl_tree.specs.Around.{Around}
use Rattle.gsl_tree.specs.Shapes.{Shape, shape_of, when, unary_shape, built_one, built_two, built_three, built_four, built_shape}
use Rattle.gsl_tree.specs.Trees.{type_of, form_of, parts_of, Throughout, ThroughoutAll}
use Rattle.gsl_tree.specs.Expressions.{IsExpr, IsNode, HasType, shapes_of, shapes_with, last_type}
use Rattle.gsl_tree.specs.WellTyped.{IsVariableType, IsResult}
use Rattle.gsl_typing.specs.declared.scene.Scene.{Scene}
use Rattle.gsl_typing.specs.Scene.{around}
use Rattle.gsl_check_law.specs.Scenes.{IsScene, IsHead}
use Rattle.gsl_check_law.proofs.Found.{at_place}
use Rattle.gsl_check_law.proofs.Types.{IsCount, flag_count, shape_is, sound_shape}
use Rattle.gsl_check_law.proofs.Fits.{binary_count}
use Rattle.gsl_check_law.proofs.Operators.{boolean_sound}
use Rattle.gsl_check_law.proofs.Places.{element_sound}
use Rattle.gsl_check_law.proofs.Sizing.{void_sound}
use Rattle.gsl_check_law.proofs.Naming.{member_sound, stage_sound}

-- ---- counts of components

when_is : (b : Bool) (x z : Shape) → when b x ≡ Some z → x ≡ z
when_is b x z is = (cond_some b x z is).1

one_count : (which : Builtin) (a z : Shape) → IsCount a.1 → built_one which a ≡ Some z → IsCount z.1
one_count f.Abs a z known is = subst (λ (s : Shape). IsCount s.1) (when_is _ _ z is) known
one_count f.Sign a z known is = subst (λ (s : Shape). IsCount s.1) (when_is _ _ z is) known
one_count f.Min a z known is = elim (none-some z is) [ ]
one_count f.Max a z known is = elim (none-some z is) [ ]
one_count f.Clamp a z known is = elim (none-some z is) [ ]
one_count f.Mix a z known is = elim (none-some z is) [ ]
one_count f.LessThan a z known is = elim (none-some z is) [ ]
one_count f.LessThanEqual a z known is = elim (none-some z is) [ ]
one_count f.GreaterThan a z known is = elim (none-some z is) [ ]
one_count f.GreaterThanEqual a z known is = elim (none-some z is) [ ]
one_count f.Equal a z known is = elim (none-some z is) [ ]
one_count f.NotEqual a z known is = elim (none-some z is) [ ]
one_count f.Any a z known is = subst (λ (s : Shape). IsCount s.1) (when_is _ _ z is) flag_count
one_count f.All a z known is = subst (λ (s : Shape). IsCount s.1) (when_is _ _ z is) flag_count
one_count f.Not a z known is = subst (λ (s : Shape). IsCount s.1) (when_is _ _ z is) known
one_count f.BitCount a z known is = subst (λ (s : Shape). IsCount s.1) (when_is _ _ z is) known
one_count f.FindLsb a z known is = subst (λ (s : Shape). IsCount s.1) (when_is _ _ z is) known
one_count f.FindMsb a z known is = subst (λ (s : Shape). IsCount s.1) (when_is _ _ z is) known
one_count f.BitfieldReverse a z known is = subst (λ (s : Shape). IsCount s.1) (when_is _ _ z is) known
one_count f.BitfieldExtract a z known is = elim (none-some z is) [ ]
one_count f.BitfieldInsert a z known is = elim (none-some z is) [ ]

two_count : (which : Builtin) (a b z : Shape) → IsCount a.1 → built_two which a b ≡ Some z → IsCount z.1
two_count f.Abs a b z known is = elim (none-some z is) [ ]
two_count f.Sign a b z known is = elim (none-some z is) [ ]
two_count f.Min a b z known is = subst (λ (s : Shape). IsCount s.1) (when_is _ _ z is) known
two_count f.Max a b z known is = subst (λ (s : Shape). IsCount s.1) (when_is _ _ z is) known
two_count f.Clamp a b z known is = elim (none-some z is) [ ]
two_count f.Mix a b z known is = elim (none-some z is) [ ]
two_count f.LessThan a b z known is = subst (λ (s : Shape). IsCount s.1) (when_is _ _ z is) known
two_count f.LessThanEqual a b z known is = subst (λ (s : Shape). IsCount s.1) (when_is _ _ z is) known
two_count f.GreaterThan a b z known is = subst (λ (s : Shape). IsCount s.1) (when_is _ _ z is) known
two_count f.GreaterThanEqual a b z known is = subst (λ (s : Shape). IsCount s.1) (when_is _ _ z is) known
two_count f.Equal a b z known is = subst (λ (s : Shape). IsCount s.1) (when_is _ _ z is) known
two_count f.NotEqual a b z known is = subst (λ (s : Shape). IsCount s.1) (when_is _ _ z is) known
two_count f.Any a b z known is = elim (none-some z is) [ ]
two_count f.All a b z known is = elim (none-some z is) [ ]
two_count f.Not a b z known is = elim (none-some z is) [ ]
two_count f.BitCount a b z known is = elim (none-some z is) [ ]
two_count f.FindLsb a b z known is = elim (none-some z is) [ ]
two_count f.FindMsb a b z known is = elim (none-some z is) [ ]
two_count f.BitfieldReverse a b z known is = elim (none-some z is) [ ]
two_count f.BitfieldExtract a b z known is = elim (none-some z is) [ ]
two_count f.BitfieldInsert a b z known is = elim (none-some z is) [ ]

three_count : (which : Builtin) (a b c z : Shape) → IsCount a.1 → built_three which a b c ≡ Some z → IsCount z.1
three_count f.Abs a b c z known is = elim (none-some z is) [ ]
three_count f.Sign a b c z known is = elim (none-some z is) [ ]
three_count f.Min a b c z known is = elim (none-some z is) [ ]
three_count f.Max a b c z known is = elim (none-some z is) [ ]
three_count f.Clamp a b c z known is = subst (λ (s : Shape). IsCount s.1) (when_is _ _ z is) known
three_count f.Mix a b c z known is = subst (λ (s : Shape). IsCount s.1) (when_is _ _ z is) known
three_count f.LessThan a b c z known is = elim (none-some z is) [ ]
three_count f.LessThanEqual a b c z known is = elim (none-some z is) [ ]
three_count f.GreaterThan a b c z known is = elim (none-some z is) [ ]
three_count f.GreaterThanEqual a b c z known is = elim (none-some z is) [ ]
three_count f.Equal a b c z known is = elim (none-some z is) [ ]
three_count f.NotEqual a b c z known is = elim (none-some z is) [ ]
three_count f.Any a b c z known is = elim (none-some z is) [ ]
three_count f.All a b c z known is = elim (none-some z is) [ ]
three_count f.Not a b c z known is = elim (none-some z is) [ ]
three_count f.BitCount a b c z known is = elim (none-some z is) [ ]
three_count f.FindLsb a b c z known is = elim (none-some z is) [ ]
three_count f.FindMsb a b c z known is = elim (none-some z is) [ ]
three_count f.BitfieldReverse a b c z known is = elim (none-some z is) [ ]
three_count f.BitfieldExtract a b c z known is = subst (λ (s : Shape). IsCount s.1) (when_is _ _ z is) known
three_count f.BitfieldInsert a b c z known is = elim (none-some z is) [ ]

four_count : (which : Builtin) (a b c d z : Shape) → IsCount a.1 → built_four which a b c d ≡ Some z → IsCount z.1
four_count f.Abs a b c d z known is = elim (none-some z is) [ ]
four_count f.Sign a b c d z known is = elim (none-some z is) [ ]
four_count f.Min a b c d z known is = elim (none-some z is) [ ]
four_count f.Max a b c d z known is = elim (none-some z is) [ ]
four_count f.Clamp a b c d z known is = elim (none-some z is) [ ]
four_count f.Mix a b c d z known is = elim (none-some z is) [ ]
four_count f.LessThan a b c d z known is = elim (none-some z is) [ ]
four_count f.LessThanEqual a b c d z known is = elim (none-some z is) [ ]
four_count f.GreaterThan a b c d z known is = elim (none-some z is) [ ]
four_count f.GreaterThanEqual a b c d z known is = elim (none-some z is) [ ]
four_count f.Equal a b c d z known is = elim (none-some z is) [ ]
four_count f.NotEqual a b c d z known is = elim (none-some z is) [ ]
four_count f.Any a b c d z known is = elim (none-some z is) [ ]
four_count f.All a b c d z known is = elim (none-some z is) [ ]
four_count f.Not a b c d z known is = elim (none-some z is) [ ]
four_count f.BitCount a b c d z known is = elim (none-some z is) [ ]
four_count f.FindLsb a b c d z known is = elim (none-some z is) [ ]
four_count f.FindMsb a b c d z known is = elim (none-some z is) [ ]
four_count f.BitfieldReverse a b c d z known is = elim (none-some z is) [ ]
four_count f.BitfieldExtract a b c d z known is = elim (none-some z is) [ ]
four_count f.BitfieldInsert a b c d z known is = subst (λ (s : Shape). IsCount s.1) (when_is _ _ z is) known

built_count : (which : Builtin) (shapes : List Shape) (z : Shape) → AllByRecursion (λ (s : Shape). IsCount s.1) shapes → built_shape which shapes ≡ Some z → IsCount z.1
built_count which [] z all is = elim (none-some z is) [ ]
built_count which (a ∷ []) z all is = one_count which a z all.0 is
built_count which (a ∷ b ∷ []) z all is = two_count which a b z all.0 is
built_count which (a ∷ b ∷ c ∷ []) z all is = three_count which a b c z all.0 is
built_count which (a ∷ b ∷ c ∷ d ∷ []) z all is = four_count which a b c d z all.0 is
built_count which (a ∷ b ∷ c ∷ d ∷ e ∷ rest) z all is = elim (none-some z is) [ ]

unary_count : (o : UnaryOp) (x y : Shape) → unary_shape o x ≡ Some y → IsCount x.1 → IsCount y.1
unary_count Negate x y is known = subst (λ (s : Shape). IsCount s.1) (when_is _ x y is) known
unary_count Flip x y is known = subst (λ (s : Shape). IsCount s.1) (when_is _ x y is) known
unary_count Not x y is known = subst (λ (s : Shape). IsCount s.1) (when_is _ x y is) known

-- what converts keeps its count of components
converts_sound_by : (count : ℕ) (x y : Ty-F Ty) → IsTrue (converts_open x y) → IsSound count (roll-Ty x) → IsSound count (roll-Ty y)
converts_sound_by count (Ty-F.One s) (Ty-F.One t) is known = fold-roll-Ty Bool (sound_kind count) (Ty-F.One t)
converts_sound_by count (Ty-F.Vector s n) (Ty-F.Vector t m) is known =
    let same = eqb-true n m (and_parts (nat_eq n m) (serves s t) is).0 in
    fold-roll-Ty Bool (sound_kind count) (Ty-F.Vector t m) ∙ ap (λ k. nat_le 2 k && nat_le k 4) (sym same) ∙ sym (fold-roll-Ty Bool (sound_kind count) (Ty-F.Vector s n)) ∙ known
converts_sound_by count _ _ is known = no_more is

converts_sound : (count : ℕ) (a b : Ty) → IsTrue (converts a b) → IsSound count a → IsSound count b
converts_sound count a b is known = subst (IsSound count) (roll-out-Ty b) (converts_sound_by count (out-Ty a) (out-Ty b) is (subst (IsSound count) (sym (roll-out-Ty a)) known))

module _ (scene : Scene) (fine : IsScene scene) where
  abbrev count : ℕ
  count = length scene.structs

  abbrev here : Around
  here = around scene

  abbrev Sound : Expr → Type 0
  Sound e = IsSound count (type_of e)

  counts_by : (e : Expr) (es : List Expr) (x : Option Shape) (xs : Option (List Shape)) (shapes : List Shape) → shape_of (type_of e) ≡ x → Sound e → ((rest : List Shape) → xs ≡ Some rest → AllByRecursion (λ (s : Shape). IsCount s.1) rest)
      → shapes_with x xs ≡ Some shapes → AllByRecursion (λ (s : Shape). IsCount s.1) shapes
  counts_by e es None xs shapes shape known rest is = elim (none-some shapes is) [ ]
  counts_by e es (Some x) None shapes shape known rest is = elim (none-some shapes is) [ ]
  counts_by e es (Some x) (Some xs) shapes shape known rest is =
      subst (AllByRecursion (λ (s : Shape). IsCount s.1)) (ap (λ o. unwrap_or o shapes) is) ((shape_is count (type_of e) x shape known).1, rest xs refl)

  counts : (es : List Expr) (shapes : List Shape) → AllByRecursion Sound es → shapes_of es ≡ Some shapes → AllByRecursion (λ (s : Shape). IsCount s.1) shapes
  counts [] shapes all is = subst (AllByRecursion (λ (s : Shape). IsCount s.1)) (ap (λ o. unwrap_or o shapes) is) tt
  counts (e ∷ es) shapes all is = counts_by e es (shape_of (type_of e)) (shapes_of es) shapes refl all.0 (λ rest eq. counts es rest all.1 eq) is

  last_sound : (items : List Expr) (t : Ty) → AllByRecursion Sound items → last_type items ≡ Some t → IsSound count t
  last_sound [] t all is = elim (none-some t is) [ ]
  last_sound (e ∷ []) t all is = subst (IsSound count) (ap (λ o. unwrap_or o t) is) all.0
  last_sound (e ∷ next ∷ items) t all is = last_sound (next ∷ items) t all.1 is

  result_sound : (t : Ty) → IsResult scene.structs t → IsSound count t
  result_sound t (inl is) = subst (IsSound count) (sym is) (void_sound count)
  result_sound t (inr is) = is.known

  one_is : IsCount 1
  one_is = flag_count

  has_sound : (form : ExprKind-F ExprKind Expr) (t : Ty) → AllByRecursion Sound (parts_of form) → HasType here form t → IsSound count t
  has_sound (ExprKind-F.Const v) t all (value, inl (s, is)) = subst (IsSound count) (sym is) (sound_shape count (s, 1) one_is)
  has_sound (ExprKind-F.Const v) t all (value, inr is) = subst (IsSound count) (sym is.0) (sound_shape count (Uint, 3) (record { least = omega arith; most = omega arith }))
  has_sound (ExprKind-F.Local n) t all is = (at_place (IsVariableType scene.structs) scene.locals n t fine.locals is).known
  has_sound (ExprKind-F.Global n) t all is = subst (IsSound count) is.2 (at_place (λ (g : GlobalVar). IsVariableType scene.structs g.ty) scene.globals n is.0 fine.globals is.1).known
  has_sound (ExprKind-F.Param n) t all is = (at_place (λ (param : Direction × Ty). IsVariableType scene.structs param.1) scene.params n (is.0, t) fine.params is.1).known
  has_sound (ExprKind-F.BlockMember b n) t all is = subst (IsSound count) is.2 (member_sound scene (record { unit = 0; line = 0 }) fine n is.0 b (slice_get scene.blocks b) refl is.1)
  has_sound (ExprKind-F.Stage var) t all is = subst (IsSound count) is.1 (stage_sound count var)
  has_sound (ExprKind-F.Interface n) t all is = subst (IsSound count) is.2 (at_place (λ (i : Interface). IsSound count i.ty) scene.interfaces n is.0 fine.interfaces is.1)
  has_sound (ExprKind-F.Member a n) t all is =
      let members = at_place (λ (s : StructType). AllByRecursion (λ (m : Member). IsVariableType scene.structs m.ty) s.members) scene.structs is.0 is.1 fine.structs is.4 in
      subst (IsSound count) is.6 (at_place (λ (m : Member). IsVariableType scene.structs m.ty) is.1.members n is.2 members is.5).known
  has_sound (ExprKind-F.Index a i) t all is = element_sound count (type_of a) t is.0 all.0
  has_sound (ExprKind-F.Swizzle a lanes) t all is = subst (IsSound count) is.4 (sound_shape count (is.0.0, lanes.count) (record { least = is.2.0; most = is.2.1 }))
  has_sound (ExprKind-F.Length a) t all is = subst (IsSound count) (sym is.0) (sound_shape count (Int, 1) one_is)
  has_sound (ExprKind-F.Unary o a) t all is = subst (IsSound count) is.4 (sound_shape count is.1 (unary_count o is.0 is.1 is.3 (shape_is count (type_of a) is.0 is.2 all.0).1))
  has_sound (ExprKind-F.Binary o a b) t all (inl (equals, is)) = subst (IsSound count) (sym is.1) (boolean_sound count)
  has_sound (ExprKind-F.Binary o a b) t all (inr is) =
      subst (IsSound count) is.6 (sound_shape count is.2 (binary_count o is.0 is.1 is.2 (shape_is count (type_of a) is.0 is.3 all.0).1 (shape_is count (type_of b) is.1 is.4 all.1.0).1 is.5))
  has_sound (ExprKind-F.Logic o a b) t all is = subst (IsSound count) (sym is.2) (boolean_sound count)
  has_sound (ExprKind-F.Choose test a b) t all is = subst (IsSound count) is.1 all.1.0
  has_sound (ExprKind-F.Assign a b) t all is = subst (IsSound count) is.0 all.0
  has_sound (ExprKind-F.Update o a b) t all is = subst (IsSound count) is.0 all.0
  has_sound (ExprKind-F.Step o a) t all is = subst (IsSound count) is.0 all.0
  has_sound (ExprKind-F.Call n args) t all is = subst (IsSound count) is.2 (result_sound is.0.result (at_place (IsHead scene.structs) scene.prototypes n is.0 fine.prototypes is.1).0)
  has_sound (ExprKind-F.Built which args) t all is = subst (IsSound count) is.4 (sound_shape count is.1 (built_count which is.0 is.1 (counts args is.0 all is.2) is.3))
  has_sound (ExprKind-F.Build args) t all is = is.2
  has_sound (ExprKind-F.Convert a) t all is = converts_sound count (type_of a) t is.0 all.0
  has_sound (ExprKind-F.Comma items) t all is = last_sound items t all is.1

  mutual
    pub type_sound : (e : Expr) → IsExpr here e → IsSound count (type_of e)
    type_sound _ (Throughout.whole e node parts) = has_sound (form_of e) (type_of e) (types_sound (parts_of (form_of e)) parts) node.type

    pub types_sound : (es : List Expr) → ThroughoutAll (IsNode here) es → AllByRecursion (λ (e : Expr). IsSound (length scene.structs) (type_of e)) es
    types_sound _ ThroughoutAll.none = tt
    types_sound _ (ThroughoutAll.more e es is rest) = (type_sound e is, types_sound es rest)
