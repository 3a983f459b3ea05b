-- Blocks that are declared are as a unit's must be, behind their members.
use Rattle.std.proofs.Common.{◌≡◌, refl, sym, subst, ℕ, ◌+◌, ◌≤◌, ◌<◌, List, [], ◌∷◌, length, Option, Some, None, is_none, unwrap_or, Bool, true, false, not, ◌&&◌, ◌||◌, IsTrue, nat_le, nat_lt, Ok, arith}
use Rattle.std.specs.List.{AllByRecursion}
use Rattle.std.proofs.lemmas.Bool.{and_parts, leb-true, ltb-false}
use Rattle.gsl_base.specs.Checked.{Checked, ◌>>=◌}
use Rattle.gsl_base.specs.declared.fault.Code.TheVariants.{E0403, E0404, E0706, E0707, E0708, E0905, E0908}
use Rattle.gsl_base.specs.declared.stage.Stage.{Stage}
use Rattle.gsl_syntax.specs.declared.declaration.Name.{Name}
use Rattle.gsl_syntax.specs.declared.declaration.Member.{Member as Line}
use Rattle.gsl_syntax.specs.declared.declaration.Qual.{Qual}
use Rattle.gsl_types.specs.Known.{IsSound}
use Rattle.gsl_layout.specs.Extents.{most_bytes}
use Rattle.gsl_tree.specs.declared.unit.Block.{Block}
use Rattle.gsl_tree.specs.declared.unit.BlockKind.{BlockKind}
use Rattle.gsl_tree.specs.declared.unit.BlockKind.TheVariants as kind
use Rattle.gsl_tree.specs.declared.unit.BlockMember.{BlockMember}
use Rattle.gsl_tree.specs.Around.{is_buffer}
use Rattle.gsl_tree.specs.Expressions.{most_parts}
use Rattle.gsl_tree.specs.Laying.{extent_of}
use Rattle.gsl_tree.specs.Weights.{one_if}
use Rattle.gsl_tree.specs.WellTyped.{may_be_std430, push_blocks, is_push, IsNameOr, IsBlock, AreBlockMembers}
use Rattle.gsl_overload.proofs.Same.{no_more}
use Rattle.gsl_check_expr.specs.declared.env.Env.{Env}
use Rattle.gsl_check_decl.specs.Declaring.{is_reserved}
use Rattle.gsl_check_decl.specs.Globals.{with_block}
use Rattle.gsl_check_decl.proofs.Gathering.{Holds, holds_after, holds_then}
use Rattle.gsl_qualifiers.specs.declared.qualified.Role.{Role}
use Rattle.gsl_qualifiers.specs.declared.qualified.Qualified.{Qualified}
use Rattle.gsl_qualifiers.specs.Qualifiers.{Storage, Fixed, Within, Outward, Both, OfUniform, OfBuffer, block_by, has_memory, qualified, role_of_block, storage_in}
use Rattle.gsl_check_blocks.specs.declared.frame.Frame.{Frame}
use Rattle.gsl_check_blocks.specs.Blocks.{with_lines, kind_of, is_uniform, frame_of, may_be_instance, text_of, is_block_taken, block_of, may_be_block, block_with, block}
use Rattle.gsl_check_blocks.specs.Blocks as blocks
use Rattle.gsl_formed.specs.Formed.{is_name, lines_formed, instance_formed}
use Rattle.gsl_check_law.specs.Scenes.{IsEnv}
use Rattle.gsl_check_law.proofs.Rows.{row, not_false}
use Rattle.gsl_check_law.proofs.Names.{name_is}
use Rattle.gsl_check_law.proofs.Topmost.{block_grown}
use Rattle.gsl_check_law.proofs.Qualified.{Allowed, IsSaid}
use Rattle.gsl_check_law.proofs.Tops.{IsTop, TopDone, block_top}
use Rattle.gsl_check_law.proofs.Outer.{within_or, said_here}
use Rattle.gsl_check_law.proofs.Blocked.{State, buffer_is, all_members}
use Rattle.gsl_check_law.specs.Small.{IsCounted}

-- ---- kinds

-- memory qualifiers stand on buffer blocks
memory_is : (push : Bool) (storage : Option Storage) → has_memory (block_by push storage) ≡ is_buffer (kind_of (block_by push storage))
memory_is push None = refl
memory_is push (Some Fixed) = refl
memory_is push (Some Within) = refl
memory_is push (Some Outward) = refl
memory_is push (Some Both) = refl
memory_is true (Some OfUniform) = refl
memory_is false (Some OfUniform) = refl
memory_is push (Some OfBuffer) = refl

memory_of : (quals : List Qual) → has_memory (role_of_block quals) ≡ is_buffer (kind_of (role_of_block quals))
unfolding role_of_block
memory_of quals = memory_is _ (storage_in quals)

layout_is : (k : BlockKind) (std140 : Bool) → (is_uniform k && not std140) ≡ false → IsTrue (std140 || may_be_std430 k)
layout_is k true is = refl
layout_is kind.Uniform false is = no_more (sym is)
layout_is kind.Buffer false is = refl
layout_is kind.Push false is = refl

push_is : (k : BlockKind) (n : ℕ) → n ≤ 1 → (blocks.is_push k && nat_lt 0 n) ≡ false → n + one_if (is_push k) ≤ 1
push_is kind.Uniform n le is = omega (arith, le)
push_is kind.Buffer n le is = omega (arith, le)
push_is kind.Push n le is = let none = ltb-false 0 n is in omega (arith, none)

instance_is : (instance : Option Name) → IsTrue (instance_formed instance) → IsNameOr (text_of instance)
instance_is None formed = tt
instance_is (Some name) formed = name_is name.text formed

-- ---- the block

module _ (stage : Stage) (env : Env) (fine : IsEnv env) (top : IsTop stage env.scene) (role : Role) (memory : has_memory role ≡ is_buffer (kind_of role)) (q : Qualified) (said : IsSaid stage role q)
    (name : Name) (instance : Option Name) (named : IsTrue (is_name name.text)) (also : IsTrue (instance_formed instance)) where
  abbrev k : BlockKind
  k = kind_of role

  abbrev frame : Frame
  frame = frame_of k instance q

  abbrev buffers : frame.buffer ≡ is_buffer k
  buffers = buffer_is k

  abbrev Memory : Bool → Type 0
  Memory b = Allowed q.coherent b × Allowed q.volatile b × Allowed q.restrict b × Allowed q.readonly b × Allowed q.writeonly b

  abbrev memories : Memory (is_buffer k)
  memories = subst Memory memory said.1

  abbrev Members : Bool → List BlockMember → Type 0
  Members = State stage env fine top k frame buffers memories

  abbrev Gathered : List BlockMember → Type 0
  Gathered members = Members true members × (0 < length members)

  members_known : (members : List BlockMember) → AreBlockMembers env.scene.structs k members → AllByRecursion (λ (m : BlockMember). IsSound (length env.scene.structs) m.ty) members
  members_known [] all = tt
  members_known (m ∷ []) all = (all.known, tt)
  members_known (m ∷ n ∷ members) all = (all.0.known, members_known (n ∷ members) all.1)

  module _ (members : List BlockMember) (state : Members true members) (some : 0 < length members) where
    abbrev made : Block
    made = block_of k q name instance members env.scene.structs

    abbrev MayBe : Type 0
    MayBe = IsBlock env.scene.structs made × (push_blocks env.scene.blocks + one_if (is_push made.kind) ≤ 1)

    may_be : (blocks.is_push made.kind && nat_lt 0 (push_blocks env.scene.blocks)) ≡ false → (is_uniform made.kind && not made.std140) ≡ false
        → not (nat_le (extent_of env.scene.structs made) most_bytes) ≡ false → not (nat_le (length made.members) most_parts) ≡ false → MayBe
    unfolding block_of
    may_be push layout small few =
        let set = within_or 0 31 q.set said.3 in
        let binding = within_or 0 65535 q.binding said.4 in (
          record {
            name = name_is name.text named;
            instance = instance_is instance also;
            set = omega (arith, set);
            binding = omega (arith, binding);
            some = some;
            count = leb-true (length members) most_parts (not_false _ few);
            members = state.are;
            layout = layout_is k (unwrap_or q.std140 (is_uniform k)) layout;
            laid = record { placed = state.placed; small = leb-true _ most_bytes (not_false _ small); need = refl };
          },
          push_is k (push_blocks env.scene.blocks) top.push push,
        )

    block_may : Holds (λ _. MayBe) (may_be_block env q name instance made)
    unfolding may_be_block
    block_may =
        let P = λ (_ : Unit {0}). MayBe in
        let node : Checked (Unit {0}) = Ok tt in
        let counts = (E0908, not (nat_le (length made.members) most_parts)) ∷ [] in
        let sizes = (E0905, not (nat_le (extent_of env.scene.structs made) most_bytes)) ∷ counts in
        let layouts = (E0708, is_uniform made.kind && not made.std140) ∷ sizes in
        let pushes = (E0707, blocks.is_push made.kind && nat_lt 0 (push_blocks env.scene.blocks)) ∷ layouts in
        let bindings = (E0706, not (blocks.is_push made.kind) && is_none q.binding) ∷ pushes in
        let names = (E0404, is_reserved name.text) ∷ bindings in
        row P name.place E0403 (is_block_taken env name instance made.members) names node
        (λ _. row P name.place E0404 (is_reserved name.text) bindings node
        (λ _. row P name.place E0706 (not (blocks.is_push made.kind) && is_none q.binding) pushes node
        (λ _. row P name.place E0707 (blocks.is_push made.kind && nat_lt 0 (push_blocks env.scene.blocks)) layouts node
        (λ push. row P name.place E0708 (is_uniform made.kind && not made.std140) sizes node
        (λ layout. row P name.place E0905 (not (nat_le (extent_of env.scene.structs made) most_bytes)) counts node
        (λ small. row P name.place E0908 (not (nat_le (length made.members) most_parts)) [] node
        (λ few. may_be push layout small few)))))))

    members_made : made.members ≡ members
    unfolding block_of
    members_made = refl

    block_with_top : Holds (TopDone stage env) (block_with k q name instance members env)
    unfolding block_with
    block_with_top =
        holds_then (TopDone stage env) (may_be_instance env instance) (λ _. may_be_block env q name instance made >>= (λ _. Ok (with_block made env)))
        (λ _. holds_after (λ _. MayBe) (TopDone stage env) (may_be_block env q name instance made) (λ _. Ok (with_block made env)) block_may
        (λ _ is.
        let grown = block_grown env fine made (subst (AllByRecursion (λ (m : BlockMember). IsSound (length env.scene.structs) m.ty)) (sym members_made) (members_known members state.are)) (subst (AllByRecursion (λ (m : BlockMember). IsCounted m.ty)) (sym members_made) state.counted) in
        record { env = grown.0; grows = grown.1; top = block_top stage env fine top made grown.1 is.0 is.1 }))

  gathered : (lines : List Line) → IsTrue (lines_formed lines) → Holds Gathered (with_lines frame env lines [])
  gathered lines formed = all_members stage env fine top k frame buffers memories lines formed

-- a block is as it must be behind its declaration
pub declared_block : (stage : Stage) (env : Env) → IsEnv env → IsTop stage env.scene → (quals : List Qual) (name : Name) (lines : List Line) (instance : Option Name) → IsTrue (is_name name.text && (instance_formed instance && lines_formed lines))
    → Holds (TopDone stage env) (block (role_of_block quals) quals name lines instance env)
unfolding block
declared_block stage env fine top quals name lines instance formed =
    let role = role_of_block quals in
    let first = and_parts (is_name name.text) (instance_formed instance && lines_formed lines) formed in
    let more = and_parts (instance_formed instance) (lines_formed lines) first.1 in
    holds_after (IsSaid stage role) (TopDone stage env) (qualified env role quals) (λ q. with_lines (frame_of (kind_of role) instance q) env lines [] >>= (λ members. block_with (kind_of role) q name instance members env)) (said_here stage env fine top role quals)
    (λ q said. holds_after (Gathered stage env fine top role (memory_of quals) q said name instance first.0 more.0) (TopDone stage env) (with_lines (frame_of (kind_of role) instance q) env lines []) (λ members. block_with (kind_of role) q name instance members env)
    (gathered stage env fine top role (memory_of quals) q said name instance first.0 more.0 lines more.1)
    (λ members is. block_with_top stage env fine top role (memory_of quals) q said name instance first.0 more.0 members is.0 is.1))
