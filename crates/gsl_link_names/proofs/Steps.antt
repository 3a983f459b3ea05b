-- One more block, put into its table or asked of it.
use Rattle.std.proofs.Common.{◌≡◌, sym, ap, ◌∙◌, ℕ, ◌+◌, ◌<◌, Bool, List, ◌∷◌, length, drop, get_or}
use Rattle.std.proofs.lemmas.List.{drop_more}
use Rattle.gsl_base.specs.declared.fault.Place.{Place}
use Rattle.gsl_types.specs.declared.ty.StructType.{StructType}
use Rattle.gsl_tree.specs.declared.unit.Block.{Block}
use Rattle.gsl_link_names.specs.Rows.{with_one}
use Rattle.gsl_link_names.specs.Against.{NamedRows, laid, with_blocks, with_place, against_block, blocks_against}

next_of : (blocks : List Block) (k : ℕ) (block : Block) → k < length blocks → block ≡ get_or blocks k block → drop k blocks ≡ block ∷ drop (k + 1) blocks
next_of blocks k block below at = drop_more blocks k block below ∙ ap (λ b. b ∷ drop (k + 1) blocks) (sym at)

pub one_put : (structs : List StructType) (rows next all : NamedRows) (blocks : List Block) (k : ℕ) (block : Block) → k < length blocks → block ≡ get_or blocks k block
    → next ≡ with_one rows block.name (laid structs block) → with_blocks structs rows (drop k blocks) ≡ all → with_blocks structs next (drop (k + 1) blocks) ≡ all
one_put structs rows next all blocks k block below at is so_far =
    ap (λ r. with_blocks structs r (drop (k + 1) blocks)) is ∙ sym (ap (with_blocks structs rows) (next_of blocks k block below at)) ∙ so_far

pub one_asked : (structs : List StructType) (rows : NamedRows) (functions pushes : List (List ℕ)) (places next all : List Place) (blocks : List Block) (k : ℕ) (block : Block) (so : Bool)
    → k < length blocks → block ≡ get_or blocks k block → so ≡ against_block structs rows functions pushes block → next ≡ with_place so places block.place
    → blocks_against structs rows functions pushes places (drop k blocks) ≡ all → blocks_against structs rows functions pushes next (drop (k + 1) blocks) ≡ all
one_asked structs rows functions pushes places next all blocks k block so below at is_so is so_far =
    ap (λ l. blocks_against structs rows functions pushes l (drop (k + 1) blocks)) (is ∙ ap (λ b. with_place b places block.place) is_so)
    ∙ sym (ap (blocks_against structs rows functions pushes places) (next_of blocks k block below at)) ∙ so_far
