-- Members that are gathered from left to right have types that are there, and plain ones.
use Rattle.std.proofs.Common.{◌≡◌, ◌∙◌, refl, sym, subst, IsTrue, Bool, true, false, not, ◌&&◌, List, [], ◌∷◌, ◌++◌, length, map, Ok, Err}
use Rattle.std.specs.List.{AllByRecursion}
use Rattle.gsl_base.specs.Checked.{Checked, ◌>>=◌}
use Rattle.gsl_base.specs.declared.fault.Code.{Code}
use Rattle.gsl_base.specs.declared.fault.Code.TheVariants.{E0403, E0404, E0510, E0908}
use Rattle.gsl_base.specs.declared.fault.Place.{Place}
use Rattle.gsl_syntax.specs.declared.declaration.Declared.{Declared}
use Rattle.gsl_syntax.specs.declared.declaration.Name.{Name}
use Rattle.gsl_syntax.specs.declared.declaration.StructMember.{StructMember}
use Rattle.gsl_types.specs.declared.ty.Member.{Member}
use Rattle.gsl_types.specs.declared.ty.Ty.{Ty}
use Rattle.gsl_types.specs.Known.{IsSound, sound, is_plain}
use Rattle.gsl_layout.specs.Extents.{plain}
use Rattle.gsl_typing.specs.declared.scene.Scene.{Scene}
use Rattle.gsl_typing.specs.Rows.{unless}
use Rattle.gsl_check_expr.specs.declared.env.Env.{Env}
use Rattle.gsl_check_expr.specs.declared.writing.Written.{Written}
use Rattle.gsl_check_expr.specs.Expressions.{bracket}
use Rattle.gsl_check_expr.specs.Written.{written_type, declared, whole_type}
use Rattle.gsl_check_decl.specs.Declaring.{is_reserved, may_be_had, is_high}
use Rattle.gsl_check_decl.specs.Structs.{has_member, may_be_member, with_member, with_name, with_names, with_line, with_lines}
use Rattle.gsl_check_decl.proofs.Pushed.{all_pushed}
use Rattle.gsl_check_decl.proofs.Plain.{same_plain}

-- what is given has this property, if anything is given
abbrev pub Holds : {A : Type 0} → (A → Type 0) → Checked A → Type 0
Holds P (Ok x) = P x
Holds P (Err fault) = Unit {0}

-- of what follows, whatever was given
pub holds_then : {A B : Type 0} (Q : B → Type 0) (x : Checked A) (f : A → Checked B) → ((a : A) → Holds Q (f a)) → Holds Q (x >>= f)
holds_then Q (Ok a) f next = next a
holds_then Q (Err e) f next = tt

pub holds_after : {A B : Type 0} (P : A → Type 0) (Q : B → Type 0) (x : Checked A) (f : A → Checked B) → Holds P x → ((a : A) → P a → Holds Q (f a)) → Holds Q (x >>= f)
holds_after P Q (Ok a) f first next = next a first
holds_after P Q (Err e) f first next = tt

-- Where four rows do not apply, what the third asks for holds.
third_row : (P : Type 0) (place : Place) (a b c d : Bool) (e f g h : Code) → (c ≡ false → P)
    → Holds (λ (_ : Unit {0}). P) (unless place ((e, a) ∷ (f, b) ∷ (g, c) ∷ (h, d) ∷ []) (Ok tt))
third_row P place true b c d e f g h is = tt
third_row P place false true c d e f g h is = tt
third_row P place false false true d e f g h is = tt
third_row P place false false false true e f g h is = tt
third_row P place false false false false e f g h is = is refl

both_had : (a b : Bool) → not (a && b) ≡ false → (a ≡ true) × (b ≡ true)
both_had true true e = (refl, refl)
both_had true false e = (refl, sym e)
both_had false true e = (sym e, refl)
both_had false false e = (sym e, sym e)

-- a type that may be had is there
pub had_sound : (scene : Scene) (t : Ty) → not (may_be_had scene t) ≡ false → IsSound (length scene.structs) t
unfolding may_be_had
had_sound scene t applies = (both_had (is_plain t) (sound (length scene.structs) t) applies).1

-- and plain
pub had_plain : (scene : Scene) (t : Ty) → not (may_be_had scene t) ≡ false → IsTrue (plain t)
unfolding may_be_had
had_plain scene t applies = sym (same_plain t) ∙ (both_had (is_plain t) (sound (length scene.structs) t) applies).0

-- what every type has that may be had, each member has
module _ (env : Env) (P : Ty → Type 0) (had : (t : Ty) → not (may_be_had env.scene t) ≡ false → P t) where
  abbrev pub AllHad : List Member → Type 0
  AllHad members = AllByRecursion (λ (member : Member). P member.ty) members

  may_be_had_by : (name : Name) (t : Ty) (members : List Member) → Holds (λ _. P t) (may_be_member env.scene name t members)
  unfolding may_be_member
  may_be_had_by name t members =
      third_row (P t) name.place (has_member members name.text) (is_reserved name.text) (not (may_be_had env.scene t)) (is_high env.scene t)
      E0403 E0404 E0510 E0908 (had t)

  member_had : (name : Name) (t : Ty) (members : List Member) → AllHad members → Holds AllHad (with_member env.scene name t members)
  member_had name t members all =
      holds_after (λ _. P t) AllHad (may_be_member env.scene name t members) (λ _. Ok (members ++ record { name = name.text; ty = t } ∷ []))
      (may_be_had_by name t members)
      (λ _ is. all_pushed (λ (member : Member). P member.ty) members (record { name = name.text; ty = t }) all is)

  name_had : (base : Written) (one : Declared) (members : List Member) → AllHad members → Holds AllHad (with_name env base one members)
  unfolding with_name
  name_had base one members all =
      holds_then AllHad (declared (map (bracket env) one.dims) base) (λ t. whole_type t >>= (λ whole. with_member env.scene one.name whole members))
      (λ t. holds_then AllHad (whole_type t) (λ whole. with_member env.scene one.name whole members) (λ whole. member_had one.name whole members all))

  names_had : (base : Written) (names : List Declared) (members : List Member) → AllHad members → Holds AllHad (with_names env base names members)
  names_had base [] members all = all
  names_had base (one ∷ more) members all =
      holds_after AllHad AllHad (with_name env base one members) (with_names env base more) (name_had base one members all) (names_had base more)

  line_had : (line : StructMember) (members : List Member) → AllHad members → Holds AllHad (with_line env line members)
  unfolding with_line
  line_had line members all =
      holds_then AllHad (written_type env line.ty) (λ base. with_names env base line.names members) (λ base. names_had base line.names members all)

  all_lines : (lines : List StructMember) (members : List Member) → AllHad members → Holds AllHad (with_lines env lines members)
  all_lines [] members all = all
  all_lines (line ∷ lines) members all =
      holds_after AllHad AllHad (with_line env line members) (with_lines env lines) (line_had line members all) (all_lines lines)

  pub lines_had : (lines : List StructMember) (members : List Member) → with_lines env lines [] ≡ Ok members → AllByRecursion (λ (member : Member). P member.ty) members
  lines_had lines members is = subst (Holds AllHad) is (all_lines lines [] tt)
