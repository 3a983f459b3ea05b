-- What the qualifiers of a declaration at the top of a unit say may stand there, and its values are within their bounds.
use Rattle.std.proofs.Common.{refl, ℕ, ◌≤◌, Bool, true, false, not, ◌&&◌, ◌||◌, IsTrue, nat_le, List, [], ◌∷◌, Option, Some, None, is_none, is_some, Ok}
use Rattle.std.proofs.lemmas.Bool.{and_parts, leb-true}
use Rattle.gsl_base.specs.Checked.{Checked, ◌>>=◌}
use Rattle.gsl_base.specs.declared.fault.Place.{Place}
use Rattle.gsl_base.specs.declared.fault.Code.TheVariants.{E0507, E0601, E0602, E0701, E0704, E0705, E0709}
use Rattle.gsl_base.specs.declared.stage.Stage.{Stage}
use Rattle.gsl_syntax.specs.declared.declaration.Name.{Name}
use Rattle.gsl_syntax.specs.declared.declaration.Lay.{Lay}
use Rattle.gsl_syntax.specs.declared.declaration.Lay.TheVariants as lay
use Rattle.gsl_syntax.specs.declared.declaration.Qual.{Qual}
use Rattle.gsl_syntax.specs.declared.declaration.Qual.TheVariants as qual
use Rattle.gsl_tree.specs.Constants.{constant_of}
use Rattle.gsl_typing.specs.declared.scene.Scene.{Scene}
use Rattle.gsl_typing.specs.declared.scene.Part.{Part}
use Rattle.gsl_typing.specs.Rows.{fault}
use Rattle.gsl_typing.specs.Uses.{is_unread}
use Rattle.gsl_makers.specs.Paths.{is_index}
use Rattle.gsl_check_expr.specs.declared.env.Env.{Env}
use Rattle.gsl_check_expr.specs.Sizes.{is_not_constant, is_left_open, word_of}
use Rattle.gsl_check_expr.specs.Expressions.{taken_expression}
use Rattle.gsl_check_decl.proofs.Gathering.{Holds, holds_after, holds_then}
use Rattle.gsl_qualifiers.specs.declared.qualified.Role.{Role}
use Rattle.gsl_qualifiers.specs.declared.qualified.Qualified.{Qualified}
use Rattle.gsl_qualifiers.specs.declared.valued.Valued.{Valued}
use Rattle.gsl_qualifiers.specs.declared.valued.Valued.TheVariants.{Location, Set, Binding, Offset, Align, SizeX, SizeY, SizeZ}
use Rattle.gsl_qualifiers.specs.Qualifiers.{may_be_in, may_be_fixed, may_be_flat, may_be_uniform, may_be_buffer, is_output, has_memory, valued, is_block, is_push, is_value_of, is_wrong, stated_value, with_value, flag_by, flag, laid_by, laid, once, qualified_by, qualified_from, unsaid, qualified}
use Rattle.gsl_check_law.proofs.Rows.{row, not_false, neither, both}

-- where this is said it may be
abbrev pub Allowed : Bool → Bool → Type 0
Allowed says may = IsTrue (not says || may)

abbrev pub IsWithin : ℕ → ℕ → Option ℕ → Type 0
IsWithin least most None = Unit {0}
IsWithin least most (Some n) = (least ≤ n) × (n ≤ most)

-- flat, the memory qualifiers, location, set, binding, the sizes, and `in`
abbrev pub IsSaid : Stage → Role → Qualified → Type 0
IsSaid stage role q =
    Allowed q.flat (may_be_flat stage role) × (Allowed q.coherent (has_memory role) × Allowed q.volatile (has_memory role) × Allowed q.restrict (has_memory role) × Allowed q.readonly (has_memory role)
    × Allowed q.writeonly (has_memory role)) × IsWithin 0 1023 q.location × IsWithin 0 31 q.set × IsWithin 0 65535 q.binding × (IsWithin 1 1024 q.size_x × IsWithin 1 1024 q.size_y
    × IsWithin 1 1024 q.size_z) × Allowed (is_some q.within) (may_be_in role)

-- rows that do not apply, whatever they ask for
pub value_within : (which : Valued) (word least most : ℕ) → IsTrue (nat_le least word && nat_le word most) → (least ≤ word) × (word ≤ most)
value_within which word least most is =
    let parts = and_parts (nat_le least word) (nat_le word most) is in
    (leb-true least word parts.0, leb-true word most parts.1)

value_is : (scene : Scene) (which : Option Valued) (place : Place) (x : Part) → Holds (λ (word : ℕ). IsTrue (is_value_of which word)) (stated_value scene which place x)
unfolding stated_value
value_is scene which place x =
    let P = λ (word : ℕ). IsTrue (is_value_of which word) in
    let node : Checked ℕ = Ok (word_of scene x) in
    let wrong = (E0709, is_wrong which (word_of scene x)) ∷ [] in
    let values = (E0705, not (is_index x && is_value_of which (word_of scene x))) ∷ wrong in
    let names = (E0704, is_none which) ∷ values in
    let opened = (E0602, is_left_open (constant_of scene.consts x.expr)) ∷ names in
    let constants = (E0601, is_not_constant (constant_of scene.consts x.expr)) ∷ opened in
    row P place E0507 (is_unread scene x) constants node
    (λ _. row P place E0601 (is_not_constant (constant_of scene.consts x.expr)) opened node
    (λ _. row P place E0602 (is_left_open (constant_of scene.consts x.expr)) names node
    (λ _. row P place E0704 (is_none which) values node
    (λ _. row P place E0705 (not (is_index x && is_value_of which (word_of scene x))) wrong node
    (λ right. row P place E0709 (is_wrong which (word_of scene x)) [] node
    (λ _. (both (is_index x) (is_value_of which (word_of scene x)) right).1))))))

module _ (env : Env) (role : Role) where
  abbrev Said : Qualified → Type 0
  Said q = IsSaid env.scene.stage role q

  value_said : (which : Option Valued) (place : Place) (word : ℕ) (q : Qualified) → IsTrue (is_value_of which word) → Said q → Said (with_value which place word q)
  value_said None place word q right is = is
  value_said (Some Location) place word q right is = (is.0, is.1, value_within Location word 0 1023 right, is.3, is.4, is.5, is.6)
  value_said (Some Set) place word q right is = (is.0, is.1, is.2, value_within Set word 0 31 right, is.4, is.5, is.6)
  value_said (Some Binding) place word q right is = (is.0, is.1, is.2, is.3, value_within Binding word 0 65535 right, is.5, is.6)
  value_said (Some Offset) place word q right is = is
  value_said (Some Align) place word q right is = is
  value_said (Some SizeX) place word q right is = (is.0, is.1, is.2, is.3, is.4, (value_within SizeX word 1 1024 right, is.5.1, is.5.2), is.6)
  value_said (Some SizeY) place word q right is = (is.0, is.1, is.2, is.3, is.4, (is.5.0, value_within SizeY word 1 1024 right, is.5.2), is.6)
  value_said (Some SizeZ) place word q right is = (is.0, is.1, is.2, is.3, is.4, (is.5.0, is.5.1, value_within SizeZ word 1 1024 right), is.6)

  flag_said : (a b c : Bool) (name : Name) (q : Qualified) → Said q → Holds Said (flag_by a b c role name q)
  flag_said true b c name q is = row Said name.place E0704 (not (is_block role)) [] (Ok (record q { std140 = Some true })) (λ _. is)
  flag_said false true c name q is = row Said name.place E0704 (not (is_block role)) [] (Ok (record q { std140 = Some false })) (λ _. is)
  flag_said false false true name q is = row Said name.place E0704 (not (is_push role)) [] (Ok q) (λ _. is)
  flag_said false false false name q is = row Said name.place E0704 (is_none (valued role name.text)) [] (fault name.place E0705) (λ _. tt)

  item_said : (item : Lay) (q : Qualified) → Said q → Holds Said (laid_by env role item q)
  unfolding flag
  item_said (lay.Flag name) q is = flag_said _ _ _ name q is
  item_said (lay.Value name e) q is =
      holds_then Said (taken_expression env e) (λ x. stated_value env.scene (valued role name.text) name.place x >>= (λ word. Ok (with_value (valued role name.text) name.place word q)))
      (λ x. holds_after (λ (word : ℕ). IsTrue (is_value_of (valued role name.text) word)) Said (stated_value env.scene (valued role name.text) name.place x) (λ word. Ok (with_value (valued role name.text) name.place word q))
      (value_is env.scene (valued role name.text) name.place x) (λ word right. value_said (valued role name.text) name.place word q right is))

  items_said : (items : List Lay) (q : Qualified) → Said q → Holds Said (laid env role items q)
  items_said [] q is = is
  items_said (item ∷ items) q is = holds_after Said Said (laid_by env role item q) (laid env role items) (item_said item q is) (items_said items)

  once_said : (place : Place) (stood may : Bool) (q : Qualified) → (IsTrue may → Said q) → Holds Said (once place stood may q)
  once_said place stood may q is = row Said place E0701 (stood || not may) [] (Ok q) (λ no. is (not_false may (neither stood (not may) no).1))

  qual_said : (q : Qualified) (one : Qual) → Said q → Holds Said (qualified_by env role q one)
  qual_said q (qual.Const place) is = once_said place q.stored (may_be_fixed role) (record q { fixed = true; stored = true }) (λ _. is)
  qual_said q (qual.In place) is = once_said place q.stored (may_be_in role) (record q { within = Some place; stored = true }) (λ may. (is.0, is.1, is.2, is.3, is.4, is.5, may))
  qual_said q (qual.Out place) is = once_said place q.stored (is_output role) (record q { stored = true }) (λ _. is)
  qual_said q (qual.Inout place) is = tt
  qual_said q (qual.Uniform place) is = once_said place q.stored (may_be_uniform role) (record q { stored = true }) (λ _. is)
  qual_said q (qual.Buffer place) is = once_said place q.stored (may_be_buffer role) (record q { stored = true }) (λ _. is)
  qual_said q (qual.Flat place) is = once_said place q.flat (may_be_flat env.scene.stage role) (record q { flat = true }) (λ may. (may, is.1, is.2, is.3, is.4, is.5, is.6))
  qual_said q (qual.Coherent place) is = once_said place q.coherent (has_memory role) (record q { coherent = true }) (λ may. (is.0, (may, is.1.1, is.1.2, is.1.3, is.1.4), is.2, is.3, is.4, is.5, is.6))
  qual_said q (qual.Volatile place) is = once_said place q.volatile (has_memory role) (record q { volatile = true }) (λ may. (is.0, (is.1.0, may, is.1.2, is.1.3, is.1.4), is.2, is.3, is.4, is.5, is.6))
  qual_said q (qual.Restrict place) is = once_said place q.restrict (has_memory role) (record q { restrict = true }) (λ may. (is.0, (is.1.0, is.1.1, may, is.1.3, is.1.4), is.2, is.3, is.4, is.5, is.6))
  qual_said q (qual.Readonly place) is = once_said place q.readonly (has_memory role) (record q { readonly = true }) (λ may. (is.0, (is.1.0, is.1.1, is.1.2, may, is.1.4), is.2, is.3, is.4, is.5, is.6))
  qual_said q (qual.Writeonly place) is = once_said place q.writeonly (has_memory role) (record q { writeonly = true }) (λ may. (is.0, (is.1.0, is.1.1, is.1.2, is.1.3, may), is.2, is.3, is.4, is.5, is.6))
  qual_said q (qual.Layout place items) is = items_said items q is

  quals_said : (q : Qualified) (quals : List Qual) → Said q → Holds Said (qualified_from env role q quals)
  quals_said q [] is = is
  quals_said q (one ∷ quals) is = holds_after Said Said (qualified_by env role q one) (λ more. qualified_from env role more quals) (qual_said q one is) (λ more so. quals_said more quals so)

  -- what the qualifiers of a declaration say may be said there
  pub qualified_said : (quals : List Qual) → Holds (IsSaid env.scene.stage role) (qualified env role quals)
  unfolding qualified
  qualified_said quals = quals_said unsaid quals (refl, (refl, refl, refl, refl, refl), tt, tt, tt, (tt, tt, tt), refl)
