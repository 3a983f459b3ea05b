-- Blocks that are well typed are laid out, and so are their members' offsets.
use Rattle.std.proofs.Common.{◌≡◌, refl, sym, ap, ◌∙◌, ℕ, zero, suc, ◌+◌, ◌<◌, arith, Bool, true, false, ◌&&◌, List, [], ◌∷◌, ◌++◌, length, take}
use Rattle.std.specs.Prelude.{Some, IsSome}
use Rattle.std.specs.List.{AllByRecursion}
use Rattle.std.proofs.lemmas.Bool.{and_parts, false≢true}
use Rattle.gsl_types.specs.Known.{IsSound, is_plain, is_plain_kind}
use Rattle.gsl_types.specs.Structs.{Meaning, members_over}
use Rattle.gsl_types.specs.declared.ty.Member.{Member}
use Rattle.gsl_types.specs.declared.ty.StructType.{StructType}
use Rattle.gsl_types.specs.declared.ty.Ty.{Ty}
use Rattle.gsl_types.specs.declared.ty.Ty.TheOpen.{Ty-F}
use Rattle.gsl_types.specs.declared.ty.Ty.TheViews.{out-Ty, roll-out-Ty}
use Rattle.gsl_types.specs.declared.ty.Ty.TheFolds.{fold-Ty, fold-roll-Ty, map-Ty}
use Rattle.gsl_layout.specs.Extents.{AreMembers, plain, plain_kind, last_open}
use Rattle.gsl_layout.specs.Layout.{Layout, Leaf, Array, Runtime, Group, Parts, End, Part, members_of as parts_in, offset_at}
use Rattle.gsl_layout.specs.Measures.{measuring, block}
use Rattle.gsl_layout.specs.Placings.{Placed, parts_behind, placed}
use Rattle.gsl_layout.specs.declared.placing.Placing.{Placing}
use Rattle.gsl_tree.specs.declared.unit.BlockKind.{BlockKind}
use Rattle.gsl_tree.specs.declared.unit.BlockMember.{BlockMember}
use Rattle.gsl_tree.specs.Around.{is_buffer}
use Rattle.gsl_tree.specs.Laying.{members_of}
use Rattle.gsl_tree.specs.WellTyped.{is_member_kind, AreBlockMembers}
use Rattle.gsl_link_units.specs.Agreement.{offsets, offsets_in}

-- ---- what is plain

same_kind : (x : Ty-F Bool) → is_plain_kind x ≡ plain_kind x
same_kind Ty-F.Void = refl
same_kind (Ty-F.One s) = refl
same_kind (Ty-F.Vector s n) = refl
same_kind (Ty-F.Array e n) = refl
same_kind (Ty-F.Runtime e) = refl
same_kind (Ty-F.Struct k) = refl

same_plain : (t : Ty) → is_plain t ≡ plain t
same_plain t = λ j. fold-Ty Bool (λ x. same_kind x j) t

opened : (t : Ty) → plain t ≡ plain_kind (map-Ty _ _ plain (out-Ty t))
opened t = ap plain (sym (roll-out-Ty t)) ∙ fold-roll-Ty Bool plain_kind (out-Ty t)

-- a member's type may be that of a last one, and is plain where it may not
ends : (last : Bool) (t : Ty) (x : Ty-F Ty) → plain t ≡ plain_kind (map-Ty _ _ plain x) → is_member_kind last x ≡ true → last_open x t ≡ true
ends last t Ty-F.Void is may = absurd (false≢true may)
ends last t (Ty-F.One s) is may = is
ends last t (Ty-F.Vector s n) is may = is
ends last t (Ty-F.Array e n) is may = is ∙ sym (same_plain e) ∙ may
ends last t (Ty-F.Runtime e) is may = sym (same_plain e) ∙ (and_parts last (is_plain e) may).1
ends last t (Ty-F.Struct k) is may = is

shut : (t : Ty) (x : Ty-F Ty) → plain t ≡ plain_kind (map-Ty _ _ plain x) → is_member_kind false x ≡ true → plain t ≡ true
shut t Ty-F.Void is may = absurd (false≢true may)
shut t (Ty-F.One s) is may = is
shut t (Ty-F.Vector s n) is may = is
shut t (Ty-F.Array e n) is may = is ∙ sym (same_plain e) ∙ may
shut t (Ty-F.Runtime e) is may = absurd (false≢true may)
shut t (Ty-F.Struct k) is may = is

module _ (structs : List StructType) (kind : BlockKind) where
  pub are_members : (ms : List BlockMember) → 0 < length ms → AreBlockMembers structs kind ms → AreMembers (members_of ms)
  are_members [] some are = absurd (omega (arith, some))
  are_members (m ∷ []) some are = ends (true && is_buffer kind) m.ty (out-Ty m.ty) (opened m.ty) are.type
  are_members (m ∷ next ∷ ms) some are = (shut m.ty (out-Ty m.ty) (opened m.ty) are.0.type, are_members (next ∷ ms) (omega arith) are.1)

  pub are_sound : (ms : List BlockMember) → AreBlockMembers structs kind ms → AllByRecursion (λ (m : Member). IsSound (length structs) m.ty) (members_of ms)
  are_sound [] are = tt
  are_sound (m ∷ []) are = (are.known, tt)
  are_sound (m ∷ next ∷ ms) are = (are.0.known, are_sound (next ∷ ms) are.1)

-- ---- offsets

offsets_are : (layout : Layout) → offsets layout ≡ offsets_in (parts_in layout)
offsets_are (Leaf components) = refl
offsets_are (Array stride count element) = refl
offsets_are (Runtime stride element) = refl
offsets_are (Group members all) = refl

offset_there : (parts : Parts) (i : ℕ) → i < length (offsets_in parts) → IsSome (offset_at parts i)
offset_there End i below = absurd (omega (arith, below))
offset_there (Part offset layout rest) zero below = refl
offset_there (Part offset layout rest) (suc i) below = offset_there rest i (omega (arith, below))

pub is_there : (layout : Layout) (i n : ℕ) → i < n → n ≡ length (offsets layout) → IsSome (offset_at (parts_in layout) i)
is_there layout i n below is = offset_there (parts_in layout) i (let e = is ∙ ap length (offsets_are layout) in omega (arith, below, e))

next_offset : (parts : Parts) (i x : ℕ) → offset_at parts i ≡ Some x → take (suc i) (offsets_in parts) ≡ take i (offsets_in parts) ++ x ∷ []
next_offset End i x at = cc
next_offset (Part offset layout rest) zero x at = let e : offset ≡ x = cc in ap (λ n. n ∷ []) e
next_offset (Part offset layout rest) (suc i) x at = ap (λ l. offset ∷ l) (next_offset rest i x at)

pub one_more : (layout : Layout) (i x : ℕ) (so_far : List ℕ) → offset_at (parts_in layout) i ≡ Some x → so_far ≡ take i (offsets layout) → so_far ++ x ∷ [] ≡ take (i + 1) (offsets layout)
one_more layout i x so_far at is =
    let on : suc i ≡ i + 1 = omega arith in
    ap (λ l. l ++ x ∷ []) (is ∙ ap (take i) (offsets_are layout)) ∙ sym (next_offset (parts_in layout) i x at)
    ∙ ap (take (suc i)) (sym (offsets_are layout)) ∙ ap (λ n. take n (offsets layout)) on

many_parts : (before xs : List Placed) → length (offsets_in (parts_behind before xs)) ≡ length xs
many_parts before [] = refl
many_parts before (x ∷ xs) = ap suc (many_parts (x ∷ before) xs)

many_placed : (placings : List Placing) (ms : List (List ℕ × _)) → length (placed placings ms) ≡ length ms
many_placed placings [] = refl
many_placed placings (m ∷ ms) = ap suc (many_placed _ ms)

many_meant : {A : Type 0} (m : Meaning A) (known : ℕ → A) (members : List Member) → length (members_over m known members) ≡ length members
many_meant m known [] = refl
many_meant m known (member ∷ members) = ap suc (many_meant m known members)

-- as many offsets as members
pub as_many : (raise : ℕ → ℕ) (structs : List StructType) (members : List Member) (placings : List Placing) → length members ≡ length (offsets (block raise structs members placings).laid)
as_many raise structs members placings = sym (many_parts [] _ ∙ many_placed placings _ ∙ many_meant (measuring raise) _ members)
