-- Blocks, members and parts of constants, one behind the other.
use Rattle.std.proofs.Common.{◌≡◌, sym, ap, ◌∙◌, ℕ, ◌+◌, ◌≤◌, List, [], ◌∷◌, ◌++◌, map, length, drop, slice_get, Some, append-nil}
use Rattle.std.proofs.lemmas.List.{drop_all}
use Rattle.gsl_compute.proofs.Loops.{opened}
use Rattle.gsl_types.specs.declared.ty.StructType.{StructType}
use Rattle.gsl_types.specs.declared.ty.Ty.{Ty}
use Rattle.gsl_values.specs.declared.value.Value.{Value}
use Rattle.gsl_words.specs.declared.target.Target.{Target}
use Rattle.gsl_tree.specs.declared.unit.Block.{Block}
use Rattle.gsl_tree.specs.declared.unit.BlockMember.{BlockMember}
use Rattle.gsl_spv.specs.Sections.{Sections}
use Rattle.gsl_spv.specs.declared.refusal.BuildRefusal.{BuildRefusal}
use Rattle.gsl_spv.specs.declared.refusal.BuildRefusal.TheVariants.{TooManyIds, Memory}
use Rattle.gsl_lower_values.specs.Building.{Built, Made, behind, Refuses}
use Rattle.gsl_lower_types.specs.Known.{Known, with_front}
use Rattle.gsl_lower_types.specs.Blocks.{block_in, blocks_put, member_marked, members_marked}
use Rattle.gsl_lower_types.specs.Globals.{constant_of, of_type, part_type, parts_put}
use Rattle.gsl_lower_types.specs.declared.blocks.LaidTypes.{LaidTypes}
use Rattle.gsl_lower_types.proofs.Turns.{stopped, then_rest, turned}

-- ---- marks and names of members

module _ (id : ℕ) (members : List BlockMember) where
  marks_open : (k : ℕ) (a : BlockMember) → slice_get members k ≡ Some a → (s : Sections)
      → members_marked id k (drop k members) s ≡ behind (member_marked id k a s) (λ done. members_marked id (k + 1) (drop (k + 1) members))
  unfolding members_marked
  marks_open k a at_k s = ap (λ l. members_marked id k l s) (opened members k a at_k)

  pub marks_on : (k number : ℕ) (a : BlockMember) (before after : Sections) (whole : Built (Unit {0})) → slice_get members k ≡ Some a → number ≡ k → member_marked id number a before ≡ Made tt after
      → members_marked id k (drop k members) before ≡ whole → members_marked id (k + 1) (drop (k + 1) members) after ≡ whole
  marks_on k number a before after whole at_k same is so_far =
      ap (λ r. behind r (λ done. members_marked id (k + 1) (drop (k + 1) members))) (sym is ∙ ap (λ n. member_marked id n a before) same) ∙ sym (marks_open k a at_k before) ∙ so_far

  pub marks_stop : (k number : ℕ) (a : BlockMember) (why : BuildRefusal) (s : Sections) (whole : Built (Unit {0})) → slice_get members k ≡ Some a → number ≡ k → Refuses why (member_marked id number a s)
      → members_marked id k (drop k members) s ≡ whole → Refuses why whole
  marks_stop k number a TooManyIds s whole at_k same is so_far =
      sym so_far ∙ marks_open k a at_k s ∙ ap (λ r. behind r (λ done. members_marked id (k + 1) (drop (k + 1) members))) (sym (ap (λ n. member_marked id n a s) same) ∙ is)
  marks_stop k number a Memory s whole at_k same is so_far = tt

  pub marks_end : (k : ℕ) (s : Sections) (whole : Built (Unit {0})) → length members ≤ k → members_marked id k (drop k members) s ≡ whole → whole ≡ Made tt s
  unfolding members_marked
  marks_end k s whole past so_far = sym so_far ∙ ap (λ l. members_marked id k l s) (drop_all k members past)

-- ---- blocks

module _ (target : Target) (structs : List StructType) (blocks : List Block) where
  blocks_open : (k : ℕ) (a : Block) → slice_get blocks k ≡ Some a → (laid : LaidTypes) (s : Sections)
      → blocks_put target structs (drop k blocks) laid s ≡ behind (block_in target structs a laid s) (then_rest (blocks_put target structs (drop (k + 1) blocks)))
  unfolding blocks_put
  blocks_open k a at_k laid s = ap (λ l. blocks_put target structs l laid s) (opened blocks k a at_k)

  pub blocks_on : (k : ℕ) (a : Block) (front new : List ℕ) (id : ℕ) (before after : LaidTypes) (s u : Sections) (whole : Built (List ℕ × LaidTypes)) → slice_get blocks k ≡ Some a
      → block_in target structs a before s ≡ Made (id, after) u → new ≡ front ++ id ∷ [] → with_front front (blocks_put target structs (drop k blocks) before s) ≡ whole
      → with_front new (blocks_put target structs (drop (k + 1) blocks) after u) ≡ whole
  blocks_on k a front new id before after s u whole at_k is made so_far = turned (blocks_put target structs (drop (k + 1) blocks)) front new id after u _ whole _ is made (blocks_open k a at_k before s) so_far

  pub blocks_stop : (k : ℕ) (a : Block) (front : List ℕ) (why : BuildRefusal) (laid : LaidTypes) (s : Sections) (whole : Built (List ℕ × LaidTypes)) → slice_get blocks k ≡ Some a
      → Refuses why (block_in target structs a laid s) → with_front front (blocks_put target structs (drop k blocks) laid s) ≡ whole → Refuses why whole
  blocks_stop k a front why laid s whole at_k is so_far = stopped (blocks_put target structs (drop (k + 1) blocks)) front why _ whole _ is (blocks_open k a at_k laid s) so_far

  pub blocks_end : (k : ℕ) (front : List ℕ) (laid : LaidTypes) (s : Sections) (whole : Built (List ℕ × LaidTypes)) → length blocks ≤ k → with_front front (blocks_put target structs (drop k blocks) laid s) ≡ whole
      → whole ≡ Made (front, laid) s
  unfolding blocks_put
  blocks_end k front laid s whole past so_far =
      sym so_far ∙ ap (λ l. with_front front (blocks_put target structs l laid s)) (drop_all k blocks past) ∙ ap (λ l. Made (l, laid) s) (append-nil front)

-- ---- parts of constants

module _ (structs : List StructType) (t : Ty) (parts : List Value) where
  parts_open : (k : ℕ) (v : Value) (of : Ty) → slice_get parts k ≡ Some v → part_type structs t k ≡ Some of → (known : Known) (s : Sections)
      → parts_put structs t k (map (constant_of structs) (drop k parts)) known s
      ≡ behind (constant_of structs v of known s) (then_rest (parts_put structs t (k + 1) (map (constant_of structs) (drop (k + 1) parts))))
  unfolding parts_put
  parts_open k v of at_k typed known s =
      ap (λ l. parts_put structs t k (map (constant_of structs) l) known s) (opened parts k v at_k)
      ∙ ap (λ o. behind (of_type o (constant_of structs v) known s) (then_rest (parts_put structs t (k + 1) (map (constant_of structs) (drop (k + 1) parts))))) typed

  pub parts_on : (k : ℕ) (v : Value) (of : Ty) (front new : List ℕ) (id : ℕ) (before after : Known) (s u : Sections) (whole : Built (List ℕ × Known)) → slice_get parts k ≡ Some v → part_type structs t k ≡ Some of
      → constant_of structs v of before s ≡ Made (id, after) u → new ≡ front ++ id ∷ [] → with_front front (parts_put structs t k (map (constant_of structs) (drop k parts)) before s) ≡ whole
      → with_front new (parts_put structs t (k + 1) (map (constant_of structs) (drop (k + 1) parts)) after u) ≡ whole
  parts_on k v of front new id before after s u whole at_k typed is made so_far =
      turned (parts_put structs t (k + 1) (map (constant_of structs) (drop (k + 1) parts))) front new id after u _ whole _ is made (parts_open k v of at_k typed before s) so_far

  pub parts_stop : (k : ℕ) (v : Value) (of : Ty) (front : List ℕ) (why : BuildRefusal) (known : Known) (s : Sections) (whole : Built (List ℕ × Known)) → slice_get parts k ≡ Some v → part_type structs t k ≡ Some of
      → Refuses why (constant_of structs v of known s) → with_front front (parts_put structs t k (map (constant_of structs) (drop k parts)) known s) ≡ whole → Refuses why whole
  parts_stop k v of front why known s whole at_k typed is so_far =
      stopped (parts_put structs t (k + 1) (map (constant_of structs) (drop (k + 1) parts))) front why _ whole _ is (parts_open k v of at_k typed known s) so_far

  pub parts_end : (k : ℕ) (front : List ℕ) (known : Known) (s : Sections) (whole : Built (List ℕ × Known)) → length parts ≤ k
      → with_front front (parts_put structs t k (map (constant_of structs) (drop k parts)) known s) ≡ whole → whole ≡ Made (front, known) s
  unfolding parts_put
  parts_end k front known s whole past so_far =
      sym so_far ∙ ap (λ l. with_front front (parts_put structs t k (map (constant_of structs) l) known s)) (drop_all k parts past) ∙ ap (λ l. Made (l, known) s) (append-nil front)
