-- Members with one behind them.
use Rattle.std.proofs.Common.{◌≡◌, refl, sym, ap, subst, ◌∙◌, ℕ, ◌+◌, min, List, [], ◌∷◌, ◌++◌, length, Option, Some, None, IsTrue, arith}
use Rattle.std.specs.Prelude.{Bool, true, false, ◌||◌, bytes_eq, is_some, if◌then◌else◌}
use Rattle.std.specs.List.{AllByRecursion}
use Rattle.std.proofs.lemmas.Bool.{true≢false}
use Rattle.gsl_types.specs.Known.{IsSound}
use Rattle.gsl_types.specs.declared.ty.Member.{Member}
use Rattle.gsl_types.specs.declared.ty.StructType.{StructType}
use Rattle.gsl_types.specs.declared.ty.Ty.{Ty}
use Rattle.gsl_layout.specs.Extents.{AreMembers, may_be_last, plain}
use Rattle.gsl_layout.specs.Measures.{measure, misplaced_in, placed_members}
use Rattle.gsl_layout.specs.Outlines.{AreOutlined, EndsPlaced, most_told}
use Rattle.gsl_layout.specs.Placings.{Placed, end_of, first_misplaced, last_first, misplaced, offset_behind}
use Rattle.gsl_layout.proofs.Pushes.{last_first_push}
use Rattle.gsl_tree.specs.declared.unit.BlockMember.{BlockMember}
use Rattle.gsl_tree.specs.Laying.{rule_of, members_of, placings_of}
use Rattle.gsl_names.specs.declared.entry.Entry.TheVariants as entry
use Rattle.gsl_names.specs.Scopes.{declare}
use Rattle.gsl_check_decl.specs.Tables.{members_above}
use Rattle.gsl_check_decl.specs.Structs.{has_member as has_named}
use Rattle.gsl_check_decl.proofs.Tabled.{member_behind}
use Rattle.gsl_check_blocks.specs.declared.so_far.SoFar.{SoFar}
use Rattle.gsl_check_blocks.specs.Blocks.{has_member}
use Rattle.gsl_check_blocks.specs.Stands.{AreWith, EndsBehind, HasNames, IsMemberType, MayEnd, Stand, Stands, end_told, some_misplaced}
use Rattle.gsl_check_blocks.proofs.Flags.{stand_empty}

pub members_behind : (members : List BlockMember) (m : BlockMember) → members_of members ++ members_of (m ∷ []) ≡ members_of (members ++ m ∷ [])
members_behind [] m = refl
members_behind (x ∷ members) m = ap (λ l. record { name = x.name; ty = x.ty } ∷ l) (members_behind members m)

pub placings_behind : (members : List BlockMember) (m : BlockMember) → placings_of members ++ placings_of (m ∷ []) ≡ placings_of (members ++ m ∷ [])
placings_behind [] m = refl
placings_behind (x ∷ members) m = ap (λ l. record { offset = x.offset; align = x.align } ∷ l) (placings_behind members m)

-- what all types have, and that of one more
pub all_behind : (P : Ty → Type 0) (members : List BlockMember) (m : BlockMember) → AllByRecursion (λ (x : Member). P x.ty) (members_of members) → P m.ty
    → AllByRecursion (λ (x : Member). P x.ty) (members_of (members ++ m ∷ []))
all_behind P [] m all is = (is, tt)
all_behind P (x ∷ members) m all is = (all.0, all_behind P members m all.1 is)

-- plain members with one that may be the last
pub members_end : (members : List BlockMember) (m : BlockMember) → AllByRecursion (λ (x : Member). IsTrue (plain x.ty)) (members_of members) → IsTrue (may_be_last m.ty)
    → AreMembers (members_of (members ++ m ∷ []))
members_end [] m all last = last
members_end (x ∷ []) m all last = (all.0, last)
members_end (x ∷ y ∷ members) m all last = (all.0, members_end (y ∷ members) m all.1 last)

some_end : (members : List BlockMember) (m : BlockMember) → AreMembers (members_of (members ++ m ∷ [])) → MayEnd (members_of (members ++ m ∷ []))
some_end [] m are = are
some_end (x ∷ members) m are = are

-- members of which there are some
pub some_members : (members : List BlockMember) → MayEnd (members_of members) → (members ≡ [] → ⊥) → AreMembers (members_of members)
some_members [] ends some = let never : ⊥ = some refl in elim never [ ]
some_members (x ∷ members) ends some = ends

nothing : (found : Option ℕ) → is_some found ≡ false → found ≡ None
nothing None e = refl
nothing (Some n) e = let never : ⊥ = true≢false e in elim never [ ]

-- Members stand with one more behind them, where that may stand there.
pub stand_behind : (std140 : Bool) (structs : List StructType) (last : Bool) (members : List BlockMember) (m : BlockMember) → Stand std140 structs false members
    → IsMemberType structs m.ty → (last ≡ false → IsTrue (plain m.ty)) → some_misplaced std140 structs (members ++ m ∷ []) ≡ false
    → Stand std140 structs last (members ++ m ∷ [])
stand_behind std140 structs last members m stand may shut placed = record {
  sound = all_behind (λ t. IsSound (length structs) t) members m stand.sound may.sound;
  ends = some_end members m (members_end members m (stand.shut refl) may.ends);
  shut = λ e. all_behind (λ t. IsTrue (plain t)) members m (stand.shut refl) (shut e);
  placed = nothing (misplaced_in (rule_of std140) structs (members_of (members ++ m ∷ [])) (placings_of (members ++ m ∷ []))) placed;
}

-- ---- whether the last member may stand where it does, and where it ends

some_if : (b : Bool) (n : ℕ) → is_some (if b then Some n else None) ≡ b
some_if true n = refl
some_if false n = refl

step : (b : Bool) (n : ℕ) (u v : Option ℕ) (c : Bool) → (u ≡ None → is_some v ≡ c) → (if b then Some n else u) ≡ None → is_some (if b then Some n else v) ≡ c
step true n u v c next is = let never : ⊥ = true≢false (ap is_some is) in elim never [ ]
step false n u v c next is = next is

tested : (before : List Placed) (n : ℕ) (xs : List Placed) (y : Placed) → first_misplaced before n xs ≡ None → is_some (first_misplaced before n (xs ++ y ∷ [])) ≡ misplaced (end_of (last_first before xs)) y
tested before n [] y is = some_if (misplaced (end_of before) y) n
tested before n (x ∷ xs) y is =
    step (misplaced (end_of before) x) n (first_misplaced (x ∷ before) (n + 1) xs) (first_misplaced (x ∷ before) (n + 1) (xs ++ y ∷ [])) (misplaced (end_of (last_first (x ∷ before) xs)) y)
    (tested (x ∷ before) (n + 1) xs y) is

module _ (std140 : Bool) (structs : List StructType) where
  abbrev placed : List BlockMember → List Placed
  placed members = placed_members (rule_of std140) structs (members_of members) (placings_of members)

  abbrev one : BlockMember → Placed
  one m = (record { offset = m.offset; align = m.align }, measure (rule_of std140) structs m.ty)

  placed_behind : (members : List BlockMember) (m : BlockMember) → placed (members ++ m ∷ []) ≡ placed members ++ one m ∷ []
  placed_behind [] m = refl
  placed_behind (x ∷ members) m = ap (λ l. one x ∷ l) (placed_behind members m)

  last_is : (members : List BlockMember) (m : BlockMember) → some_misplaced std140 structs members ≡ false
      → some_misplaced std140 structs (members ++ m ∷ []) ≡ misplaced (end_of (last_first [] (placed members))) (one m)
  last_is members m none =
      ap (λ l. is_some (first_misplaced [] 0 l)) (placed_behind members m) ∙ tested [] 0 (placed members) (one m) (nothing (first_misplaced [] 0 (placed members)) none)

  end_is : (members : List BlockMember) (m : BlockMember) → end_of (last_first [] (placed (members ++ m ∷ []))) ≡ offset_behind (end_of (last_first [] (placed members))) (one m) + (one m).1.size
  end_is members m = ap (λ l. end_of (last_first [] l)) (placed_behind members m) ∙ ap end_of (last_first_push (placed members) [] (one m))

  -- what the end of one member behind others says of them all
  pub ends_behind : (members : List BlockMember) (m : BlockMember) (end : Option ℕ) → some_misplaced std140 structs members ≡ false
      → EndsPlaced end (end_of (last_first [] (placed members))) (one m) → EndsBehind end std140 structs (members ++ m ∷ [])
  unfolding end_told
  ends_behind members m None none wrong = last_is members m none ∙ wrong
  ends_behind members m (Some end) none right = (last_is members m none ∙ right.0, right.1 ∙ ap (λ e. min e most_told) (sym (end_is members m)))

-- ---- the members so far

-- no member
pub stands_empty : (std140 : Bool) (structs : List StructType) (all : SoFar) → all.members ≡ [] → all.names ≡ [] ∷ [] → AreOutlined (rule_of std140) structs all.outlines
    → length all.outlines ≡ length structs → all.end ≡ 0 → Stands std140 structs false all
unfolding members_above end_told
stands_empty std140 structs all none names outlined outlines end =
    let start : all.end ≡ end_told std140 structs [] = omega (arith, end) in
    record {
      stand = subst (Stand std140 structs false) (sym none) (stand_empty std140 structs);
      names = names ∙ ap (λ (ms : List BlockMember). members_above [] (members_of ms) ∷ []) (sym none);
      outlined = outlined;
      outlines = outlines;
      end = start ∙ ap (end_told std140 structs) (sym none);
    }

named_behind : (before next : SoFar) (m : BlockMember) (end : ℕ) → HasNames before → AreWith before m end next → HasNames next
named_behind before next m end names is =
    is.names ∙ ap (λ (rows : _). declare m.name entry.Size rows) names
    ∙ ap (λ (rows : _). rows ∷ []) (sym (member_behind (members_of before.members) (record { name = m.name; ty = m.ty })))
    ∙ ap (λ (ms : List Member). members_above [] ms ∷ []) (members_behind before.members m)
    ∙ ap (λ (ms : List BlockMember). members_above [] (members_of ms) ∷ []) (sym is.members)

-- one more member
pub stands_behind : (std140 : Bool) (structs : List StructType) (last : Bool) (before next : SoFar) (m : BlockMember) (end : ℕ) → Stands std140 structs false before
    → IsMemberType structs m.ty → (last ≡ false → IsTrue (plain m.ty)) → EndsBehind (Some end) std140 structs (before.members ++ m ∷ []) → AreWith before m end next
    → Stands std140 structs last next
stands_behind std140 structs last before next m end stands may shut ends is = record {
  stand = subst (Stand std140 structs last) (sym is.members) (stand_behind std140 structs last before.members m stands.stand may shut ends.0);
  names = named_behind before next m end stands.names is;
  outlined = subst (AreOutlined (rule_of std140) structs) (sym is.outlines) stands.outlined;
  outlines = ap length is.outlines ∙ stands.outlines;
  end = is.end ∙ ends.1 ∙ ap (end_told std140 structs) (sym is.members);
}

-- a name is found among the members
pub named_same : (members : List BlockMember) (name : List ℕ) → has_named (members_of members) name ≡ has_member members name
unfolding has_named has_member
named_same [] name = refl
named_same (m ∷ members) name = ap (λ b. bytes_eq m.name name || b) (named_same members name)
