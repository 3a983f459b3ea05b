-- Blocks as they are put, each with a variable of what lies by its layout.
use Rattle.std.proofs.Common.{◌≡◌, refl, sym, subst, ℕ, zero, suc, ◌+◌, Bool, true, false, List, [], ◌∷◌, slice_get, Option, Some, None}
use Rattle.std.specs.List.{Contains}
use Rattle.std.proofs.lemmas.Bool.{true≢false}
use Rattle.gsl_instr.specs.declared.enumerant.decoration.TheConstants as decoration
use Rattle.gsl_layout.specs.Layout.{members_of as parts_of, part_at, size}
use Rattle.gsl_types.specs.Known.{AreStructs}
use Rattle.gsl_types.specs.declared.ty.StructType.{StructType}
use Rattle.gsl_types.specs.declared.ty.Ty.{Ty}
use Rattle.gsl_words.specs.declared.module.Instr.{Instr}
use Rattle.gsl_words.specs.declared.module.Module.{Module}
use Rattle.gsl_words.specs.declared.target.Target.{Target}
use Rattle.gsl_owed.specs.Types.{lies}
use Rattle.gsl_sound_code.proofs.Looks.{Kept}
use Rattle.gsl_spv.specs.Calls as call
use Rattle.gsl_spv.specs.Growing.{Extends}
use Rattle.gsl_spv.specs.Sections.{Sections}
use Rattle.gsl_spv.proofs.Extending.{extends_same, extends_then}
use Rattle.gsl_tree.specs.Laying.{layout_of}
use Rattle.gsl_tree.specs.WellTyped.{is_push}
use Rattle.gsl_tree.specs.declared.unit.Block.{Block}
use Rattle.gsl_tree.specs.declared.unit.BlockKind.{BlockKind}
use Rattle.gsl_tree.specs.declared.unit.BlockKind.TheVariants.{Uniform, Buffer, Push}
use Rattle.gsl_tree.specs.declared.unit.BlockMember.{BlockMember}
use Rattle.gsl_lower_values.specs.Building.{Made, ◌>>=◌, given}
use Rattle.gsl_lower_text.specs.Written.{Written}
use Rattle.gsl_lower_types.specs.Blocks.{block_by, block_in, block_laid, block_marked, block_put, block_variable, blocks_put, bound_by, by_rule, class_of, mark_of, marked, member_marked, member_types_of, members_marked, with_std140, with_std430}
use Rattle.gsl_lower_types.specs.Declaring.{decorated, named, variable_in}
use Rattle.gsl_lower_types.specs.Known.{aside}
use Rattle.gsl_lower_types.specs.Laid.{types_laid}
use Rattle.gsl_lower_types.specs.declared.blocks.LaidTypes.{LaidTypes}
use Rattle.gsl_lower_types.proofs.Adding.{Adds, then_}
use Rattle.gsl_lower_types.proofs.Finding.{came}
use Rattle.gsl_lower_law_inputs.proofs.OfLawEntered.{mapped}
use Rattle.gsl_lower_law_members.specs.Parts.{laid_as}
use Rattle.gsl_lower_law_members.proofs.Laid.{block_member_at}
use Rattle.gsl_lower_law_inputs.proofs.OfLawOutside.{same_after, same_made}
use Rattle.gsl_lower_law_inputs.proofs.OfLawOutside.{decorated_adds, gives_add}
use Rattle.gsl_lower_law_inputs.proofs.Puts.{EachTells}
use Rattle.gsl_lower_law_inputs.proofs.Tells.{AllTell, HasDecoration, HasVariable, adds_tells, decorated_tells, given_tells, tells_so, tells_then, variable_tells}
use Rattle.gsl_lower_law_bound.proofs.Laid.{AreLaid, group_lays, row_lays}
use Rattle.gsl_lower_law_bound.proofs.Laying.{AllLie, PutLays, lays_aside, lays_by, lays_so, lays_then, of_first, of_second}

-- ---- marks and names only add

named_adds : (id : ℕ) (member : Option ℕ) (text : List ℕ) → Adds (named id member text)
named_adds id member text s a after made =
    let same = extends_same s in
    subst (Extends s) (same_after tt a _ after made)
    (record { stage = refl; target = refl; imports = same.imports; names = record { more = call.naming id member text ∷ []; is = refl }; decorations = same.decorations; globals = same.globals; functions = same.functions; last = same.last; wanting = λ e. e })

marked_adds : (id n what : ℕ) (word : Bool) → Adds (marked id n what word)
marked_adds id n what true = decorated_adds id (Some n) what None
marked_adds id n what false = gives_add tt

member_adds : (id n : ℕ) (m : BlockMember) → Adds (member_marked id n m)
unfolding member_marked
member_adds id n m =
    then_ (marked id n decoration.NON_WRITABLE m.readonly) _ (marked_adds id n decoration.NON_WRITABLE m.readonly) (λ a. then_ (marked id n decoration.NON_READABLE m.writeonly) _ (marked_adds id n decoration.NON_READABLE m.writeonly) (λ b.
    then_ (marked id n decoration.COHERENT m.coherent) _ (marked_adds id n decoration.COHERENT m.coherent) (λ c. then_ (marked id n decoration.VOLATILE m.volatile) _ (marked_adds id n decoration.VOLATILE m.volatile) (λ e.
    named_adds id (Some n) m.name))))

members_add : (members : List BlockMember) (id n : ℕ) → Adds (members_marked id n members)
unfolding members_marked
members_add [] id n = gives_add tt
members_add (m ∷ members) id n = then_ (member_marked id n m) _ (member_adds id n m) (λ done. members_add members id (n + 1))

marks_add : (target : Target) (block : Block) (struct : ℕ) → Adds (block_marked target block struct)
marks_add target block struct =
    then_ (decorated struct None (mark_of target block.kind) None) _ (decorated_adds struct None (mark_of target block.kind) None) (λ a. then_ (named struct None block.name) _ (named_adds struct None block.name) (λ b. members_add block.members struct 0))

-- ---- variables

module _ (whole : Sections) where
  -- The whole has the decorations of a block's set and binding, where it has one.
  pub record AreBoundTo (kind : BlockKind) (set binding id : ℕ) : Type 0 where
    pub set_is : is_push kind ≡ false → HasDecoration whole id decoration.DESCRIPTOR_SET set
    pub binding_is : is_push kind ≡ false → HasDecoration whole id decoration.BINDING binding

  both_tell : (kind : BlockKind) (set binding id : ℕ) → AllTell whole (decorated id None decoration.DESCRIPTOR_SET (Some set) >>= (λ done. decorated id None decoration.BINDING (Some binding))) (λ done. AreBoundTo kind set binding id)
  both_tell kind set binding id =
      tells_so whole (tells_then whole (decorated id None decoration.DESCRIPTOR_SET (Some set)) (λ done. decorated id None decoration.BINDING (Some binding)) (decorated_tells whole id decoration.DESCRIPTOR_SET set) (λ done. decorated_tells whole id decoration.BINDING binding))
      (λ done b. record { set_is = λ bound. b.one; binding_is = λ bound. b.other })

  bound_tells : (kind : BlockKind) (set binding id : ℕ) → AllTell whole (bound_by kind set binding id) (λ done. AreBoundTo kind set binding id)
  bound_tells Uniform set binding id = both_tell Uniform set binding id
  bound_tells Buffer set binding id = both_tell Buffer set binding id
  bound_tells Push set binding id = tells_so whole (given_tells whole tt) (λ done same. record { set_is = λ e. absurd (true≢false e); binding_is = λ e. absurd (true≢false e) })

  -- The whole has the variable of a block, which holds a struct.
  pub record HasBlockVariable (target : Target) (block : Block) (struct id : ℕ) : Type 0 where
    pub variable : HasVariable whole (class_of target block.kind) struct None id
    pub bound : AreBoundTo block.kind block.set block.binding id

  variable_told : (target : Target) (block : Block) (struct : ℕ) → AllTell whole (block_variable target block struct) (HasBlockVariable target block struct)
  variable_told target block struct =
      tells_so whole (tells_then whole (variable_in (class_of target block.kind) struct None) (λ id. bound_by block.kind block.set block.binding id >>= (λ done. given id)) (variable_tells whole (class_of target block.kind) struct None) (λ id.
      tells_then whole (bound_by block.kind block.set block.binding id) (λ done. given id) (bound_tells block.kind block.set block.binding id) (λ done. given_tells whole id)))
      (λ id b. subst (HasBlockVariable target block struct) b.other.other (record { variable = b.one; bound = b.other.one }))

  block_tells : (target : Target) (block : Block) (struct : ℕ) → AllTell whole (block_by target block struct) (HasBlockVariable target block struct)
  block_tells target block struct =
      tells_so whole (tells_then whole (block_marked target block struct) (λ done. block_variable target block struct) (adds_tells whole (block_marked target block struct) (marks_add target block struct)) (λ done. variable_told target block struct))
      (λ id b. b.other)

  -- ---- blocks

  module _ (m : Module) (held : Kept m) (written : Written m whole) (marks : (i : Instr) → Contains whole.decorations i → Contains m.instrs i) (structs : List StructType) (are : AreStructs structs) (target : Target) where
    -- The whole has a block under the id of its variable, which holds what lies by the block's layout.
    pub record HasBlock (block : Block) (id : ℕ) : Type 0 where
      pub struct : ℕ
      pub lie : lies m (layout_of structs block) struct ≡ true
      pub has : HasBlockVariable target block struct id

    members_laid : (block : Block) → AreLaid whole m held written marks structs are block.std140 (parts_of (layout_of structs block)) (member_types_of block.members)
    members_laid block number t there =
        let x = mapped (λ (one : BlockMember). one.ty) block.members number t there in
        let a = block_member_at structs 0 block number x.0 x.1 in
        subst (λ (u : Ty). part_at (parts_of (layout_of structs block)) number ≡ Some (laid_as block.std140 structs u)) x.2 a.1

    block_lays : (block : Block) → PutLays m whole structs block.std140 (block_put target structs block) (HasBlock block)
    unfolding block_put
    block_lays block =
        lays_by m whole structs block.std140 (block_put target structs block) (λ known. block_laid structs (layout_of structs block) block known >>= (λ r. aside (block_by target block r.0) r.1)) (λ known s. refl)
        (lays_then m whole structs block.std140 {P = λ struct. lies m (layout_of structs block) struct ≡ true} (block_laid structs (layout_of structs block) block) (λ r. aside (block_by target block r.0) r.1)
        (group_lays whole m held written marks structs are block.std140 (parts_of (layout_of structs block)) (size (layout_of structs block)) (types_laid structs (parts_of (layout_of structs block)) (member_types_of block.members))
        (row_lays whole m held written marks structs are block.std140 (parts_of (layout_of structs block)) (member_types_of block.members) (members_laid block)))
        (λ struct. lays_so m whole structs block.std140 (lays_aside m whole structs block.std140 (block_by target block struct) (block_tells target block struct)) (λ id has lie. record { struct = struct; lie = lie; has = has })))

    -- What is known by both rules lies so.
    record BothLie (laid : LaidTypes) : Type 0 where
      one : AllLie m whole structs true laid.std140
      other : AllLie m whole structs false laid.std430

    -- Sections grew and more types were known by both rules, and once the sections are among the whole, this is so.
    record LayBoth (laid : LaidTypes) (s : Sections) (later : LaidTypes) (after : Sections) (P : Type 0) : Type 0 where
      extends : Extends s after
      all : Extends after whole → BothLie laid → BothLie later
      told : Extends after whole → BothLie laid → P

    in_lays : (block : Block) (laid : LaidTypes) (s : Sections) (r : ℕ × LaidTypes) (after : Sections) → block_in target structs block laid s ≡ Made r after → LayBoth laid s r.1 after (HasBlock block r.0)
    unfolding block_in
    in_lays block laid s r after made = by block.std140 (block_lays block) made
      where
        by : (b : Bool) → PutLays m whole structs b (block_put target structs block) (HasBlock block) → by_rule b (block_put target structs block) laid s ≡ Made r after → LayBoth laid s r.1 after (HasBlock block r.0)
        by true lays made =
            let c = came (block_put target structs block laid.std140 s) (with_std140 laid) r after made in
            let x = lays.lay laid.std140 s c.first c.between c.made in
            let later : LaidTypes = record laid { std140 = c.first.1 } in
            let same : (c.first.0, later) ≡ r = same_made (c.first.0, later) r c.between after c.then_ in
            let last : c.between ≡ after = same_after (c.first.0, later) r c.between after c.then_ in
            record {
              extends = subst (Extends s) last x.extends;
              all = λ into lie. of_second BothLie c.first.0 later r same (record { one = x.all (subst (λ (y : Sections). Extends y whole) (sym last) into) lie.one; other = lie.other });
              told = λ into lie. of_first (HasBlock block) c.first.0 later r same (x.told (subst (λ (y : Sections). Extends y whole) (sym last) into) lie.one);
            }
        by false lays made =
            let c = came (block_put target structs block laid.std430 s) (with_std430 laid) r after made in
            let x = lays.lay laid.std430 s c.first c.between c.made in
            let later : LaidTypes = record laid { std430 = c.first.1 } in
            let same : (c.first.0, later) ≡ r = same_made (c.first.0, later) r c.between after c.then_ in
            let last : c.between ≡ after = same_after (c.first.0, later) r c.between after c.then_ in
            record {
              extends = subst (Extends s) last x.extends;
              all = λ into lie. of_second BothLie c.first.0 later r same (record { one = lie.one; other = x.all (subst (λ (y : Sections). Extends y whole) (sym last) into) lie.other });
              told = λ into lie. of_first (HasBlock block) c.first.0 later r same (x.told (subst (λ (y : Sections). Extends y whole) (sym last) into) lie.other);
            }

    all_lay : (blocks : List Block) (laid : LaidTypes) (s : Sections) (r : List ℕ × LaidTypes) (after : Sections) → blocks_put target structs blocks laid s ≡ Made r after → LayBoth laid s r.1 after (EachTells HasBlock blocks r.0)
    unfolding blocks_put
    all_lay [] laid s r after made =
        let same : ([], laid) ≡ r = same_made ([], laid) r s after made in
        record {
          extends = subst (Extends s) (same_after ([], laid) r s after made) (extends_same s);
          all = λ into lie. of_second BothLie [] laid r same lie;
          told = λ into lie. of_first (EachTells HasBlock []) [] laid r same (record { each = λ number a is. absurd (none number a is) });
        }
      where
        none : (number : ℕ) (a : Block) → slice_get [] number ≡ Some a → ⊥
        none zero a is = cc
        none (suc number) a is = cc
    all_lay (block ∷ blocks) laid s r after made =
        let c = came (block_in target structs block laid s) (λ x. blocks_put target structs blocks x.1 >>= (λ xs. given (x.0 ∷ xs.0, xs.1))) r after made in
        let y = came (blocks_put target structs blocks c.first.1 c.between) (λ xs. given (c.first.0 ∷ xs.0, xs.1)) r after c.then_ in
        let one = in_lays block laid s c.first c.between c.made in
        let rest = all_lay blocks c.first.1 c.between y.first y.between y.made in
        let same : (c.first.0 ∷ y.first.0, y.first.1) ≡ r = same_made (c.first.0 ∷ y.first.0, y.first.1) r y.between after y.then_ in
        let last : y.between ≡ after = same_after (c.first.0 ∷ y.first.0, y.first.1) r y.between after y.then_ in
        record {
          extends = subst (Extends s) last (extends_then one.extends rest.extends);
          all = λ into lie.
              let inside = subst (λ (x : Sections). Extends x whole) (sym last) into in
              of_second BothLie (c.first.0 ∷ y.first.0) y.first.1 r same (rest.all inside (one.all (extends_then rest.extends inside) lie));
          told = λ into lie.
              let inside = subst (λ (x : Sections). Extends x whole) (sym last) into in
              of_first (EachTells HasBlock (block ∷ blocks)) (c.first.0 ∷ y.first.0) y.first.1 r same
              (record { each = more block blocks c.first.0 y.first.0 (one.told (extends_then rest.extends inside) lie) (rest.told inside (one.all (extends_then rest.extends inside) lie)) });
        }
      where
        more : (block : Block) (blocks : List Block) (id : ℕ) (ids : List ℕ) → HasBlock block id → EachTells HasBlock blocks ids → (number : ℕ) (x : Block) → slice_get (block ∷ blocks) number ≡ Some x → (i : ℕ) × (slice_get (id ∷ ids) number ≡ Some i) × HasBlock x i
        more block blocks id ids one rest zero x is = let same : block ≡ x = cc in (id, refl, subst (λ y. HasBlock y id) same one)
        more block blocks id ids one rest (suc number) x is = rest.each number x is

    -- Blocks have been put, and nothing was known of types before.
    pub record BlocksPut (blocks : List Block) (s : Sections) (ids : List ℕ) (after : Sections) : Type 0 where
      pub extends : Extends s after
      pub told : Extends after whole → EachTells HasBlock blocks ids

    pub blocks_are_put : (blocks : List Block) (s : Sections) (r : List ℕ × LaidTypes) (after : Sections) → blocks_put target structs blocks (record { std140 = []; std430 = [] }) s ≡ Made r after → BlocksPut blocks s r.0 after
    blocks_are_put blocks s r after made =
        let x = all_lay blocks (record { std140 = []; std430 = [] }) s r after made in
        record { extends = x.extends; told = λ into. x.told into (record { one = tt; other = tt }) }
