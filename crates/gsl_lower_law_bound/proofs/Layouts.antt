-- Each block lies by a well-formed layout.
use Rattle.std.proofs.Common.{◌≡◌, refl, sym, ◌∙◌, subst, ℕ, Bool, true, false, IsTrue, List, [], ◌∷◌, Some}
use Rattle.std.specs.Prelude.{slice_get}
use Rattle.std.specs.List.{AllByRecursion}
use Rattle.gsl_layout.specs.Extents.{ArePlain, plain}
use Rattle.gsl_layout.specs.Layout.{IsLayout}
use Rattle.gsl_layout.specs.Raising.{std140_raises, std430_raises}
use Rattle.gsl_layout.specs.Rules.{Raises}
use Rattle.gsl_layout.proofs.Sound.{block_layout}
use Rattle.gsl_types.specs.declared.ty.Member.{Member}
use Rattle.gsl_types.specs.declared.ty.StructType.{StructType}
use Rattle.gsl_tree.specs.Laying.{layout_of, members_of, placings_of, rule_of}
use Rattle.gsl_tree.specs.WellTyped.{IsBlock, IsProgram, IsStructDeclared, IsVariableType}
use Rattle.gsl_tree.specs.declared.program.Program.{Program}
use Rattle.gsl_tree.specs.declared.unit.Block.{Block}
use Rattle.gsl_block_words.proofs.Buffered.{holds_at}
use Rattle.gsl_block_words.proofs.Formed.{members_laid, members_sound, same_plain}

all_plain : (structs : List StructType) (members : List Member) → AllByRecursion (λ (m : Member). IsVariableType structs m.ty) members → AllByRecursion (λ (m : Member). IsTrue (plain m.ty)) members
all_plain structs [] all = tt
all_plain structs (m ∷ members) all = (sym (same_plain m.ty) ∙ all.0.plain, all_plain structs members all.1)

plain_structs : (p : Program) → IsProgram p → ArePlain p.structs
plain_structs p is number struct found = all_plain p.structs struct.members (holds_at (IsStructDeclared p.structs) p.structs number struct is.typed.declared found).types

pub one_block : (p : Program) → IsProgram p → (number : ℕ) (block : Block) → slice_get p.blocks number ≡ Some block → IsBlock p.structs block
one_block p is number block at = holds_at (IsBlock p.structs) p.blocks number block is.typed.blocks at

pub block_laid : (p : Program) → IsProgram p → (number : ℕ) (block : Block) → slice_get p.blocks number ≡ Some block → IsLayout (layout_of p.structs block)
block_laid p is number block at = by block.std140 refl
  where
    one : IsBlock p.structs block
    one = one_block p is number block at

    by : (std140 : Bool) → block.std140 ≡ std140 → IsLayout (layout_of p.structs block)
    by true e = block_layout (rule_of block.std140) (λ align is. subst (λ b. Raises (rule_of b) align) (sym e) (std140_raises align is)) p.structs is.typed.structs (plain_structs p is) (members_of block.members) (placings_of block.members) (members_sound p.structs block.kind block.members one.members) (members_laid p.structs block.kind block.members one.some one.members) one.laid.placed one.laid.small
    by false e = block_layout (rule_of block.std140) (λ align is. subst (λ b. Raises (rule_of b) align) (sym e) (std430_raises align is)) p.structs is.typed.structs (plain_structs p is) (members_of block.members) (placings_of block.members) (members_sound p.structs block.kind block.members one.members) (members_laid p.structs block.kind block.members one.some one.members) one.laid.placed one.laid.small
