-- Types, and what is declared by them, stay as they are where structs keep their numbers.
use Rattle.std.proofs.Common.{◌≡◌, refl, sym, ap, ◌∙◌, subst, ℕ, ◌&&◌, inl, inr, Bool, IsTrue, List, map, nat_lt, ◌^◌}
use Rattle.std.specs.Prelude.{nat_le}
use Rattle.std.specs.List.{AllByRecursion}
use Rattle.std.proofs.lemmas.Bool.{and_parts, ltb-true, true≢false}
use Rattle.gsl_types.specs.Known.{IsSound, sound, sound_kind}
use Rattle.gsl_types.specs.declared.ty.Direction.{Direction}
use Rattle.gsl_types.specs.declared.ty.Member.{Member}
use Rattle.gsl_types.specs.declared.ty.StructType.{StructType}
use Rattle.gsl_types.specs.declared.ty.Ty.{Ty}
use Rattle.gsl_types.specs.declared.ty.Ty.TheOpen.{Ty-F}
use Rattle.gsl_types.specs.declared.ty.Ty.TheFolds.{fold-roll-Ty, ind-Ty, map-Ty}
use Rattle.gsl_types.specs.declared.ty.Ty.TheVariants as ty
use Rattle.gsl_types.specs.declared.ty.Ty.TheVariants.{outs-Void, rolls-Void, rolls-One, rolls-Vector, rolls-Array, rolls-Runtime, rolls-Struct}
use Rattle.gsl_types.specs.declared.ty.Ty.TheViews.{out-Ty, roll-Ty, roll-out-Ty}
use Rattle.gsl_tree.specs.declared.unit.Block.{Block}
use Rattle.gsl_tree.specs.declared.unit.BlockMember.{BlockMember}
use Rattle.gsl_tree.specs.declared.unit.GlobalVar.{GlobalVar}
use Rattle.gsl_tree.specs.declared.unit.Interface.{Interface}
use Rattle.gsl_tree.specs.declared.unit.Prototype.{Prototype}
use Rattle.gsl_link_units.specs.Types.{retyped, retyped_layer}
use Rattle.gsl_link_units.specs.Structs.{retyped_member, retyped_struct}
use Rattle.gsl_link_units.specs.Declarations.{retyped_global, retyped_block, retyped_block_member, retyped_interface, retyped_param, retyped_prototype}
use Rattle.gsl_link_law.proofs.Known.{IsFlat, IsKnown, is_flat_layer}
use Rattle.gsl_link_law.proofs.Layered.{new_layer, out_retyped}
use Rattle.gsl_link_law.proofs.Members.{In, all_in}
use Rattle.gsl_link_alone.specs.Alone.{InRow}
use Rattle.gsl_link_alone.proofs.Unlike.{map_stays}

module _ (numbers : List ℕ) (count : ℕ) (row : InRow numbers count) where
  abbrev Stays : Ty → Type 0
  Stays t = IsSound count t → retyped numbers t ≡ t

  rolled : (x : Ty-F Ty) → retyped numbers (roll-Ty x) ≡ retyped_layer numbers (map-Ty _ _ (retyped numbers) x)
  rolled x = fold-roll-Ty Ty (retyped_layer numbers) x

  layer_stays : (y : Ty-F ((t : Ty) × Stays t)) → Stays (roll-Ty (map-Ty _ _ (λ e. e.0) y))
  layer_stays Ty-F.Void s = rolled Ty-F.Void ∙ sym rolls-Void
  layer_stays (Ty-F.One x) s = rolled (Ty-F.One x) ∙ sym (rolls-One x)
  layer_stays (Ty-F.Vector x n) s = rolled (Ty-F.Vector x n) ∙ sym (rolls-Vector x n)
  layer_stays (Ty-F.Array e n) s =
      let is : IsTrue ((nat_le 1 n && nat_lt n (2 ^ 32)) && sound count e.0) = sym (fold-roll-Ty Bool (sound_kind count) (Ty-F.Array e.0 n)) ∙ s in
      rolled (Ty-F.Array e.0 n) ∙ ap (λ t. ty.Array t n) (e.1 (and_parts _ _ is).1) ∙ sym (rolls-Array e.0 n)
  layer_stays (Ty-F.Runtime e) s =
      rolled (Ty-F.Runtime e.0) ∙ ap ty.Runtime (e.1 (sym (fold-roll-Ty Bool (sound_kind count) (Ty-F.Runtime e.0)) ∙ s)) ∙ sym (rolls-Runtime e.0)
  layer_stays (Ty-F.Struct k) s =
      let below = ltb-true k count (sym (fold-roll-Ty Bool (sound_kind count) (Ty-F.Struct k)) ∙ s) in
      rolled (Ty-F.Struct k) ∙ ap ty.Struct (row k below) ∙ sym (rolls-Struct k)

  pub sound_stays : (t : Ty) → Stays t
  sound_stays = ind-Ty Stays (λ x y is. subst (λ z. Stays (roll-Ty z)) is (layer_stays y))

  flat_layer : (x : Ty-F Ty) → IsTrue (is_flat_layer x) → new_layer numbers x ≡ x
  flat_layer Ty-F.Void flat = refl
  flat_layer (Ty-F.One s) flat = refl
  flat_layer (Ty-F.Vector s n) flat = refl
  flat_layer (Ty-F.Array e n) flat = let never : ⊥ = true≢false (sym flat) in elim never [ ]
  flat_layer (Ty-F.Runtime e) flat = let never : ⊥ = true≢false (sym flat) in elim never [ ]
  flat_layer (Ty-F.Struct k) flat = let never : ⊥ = true≢false (sym flat) in elim never [ ]

  flat_stays : (t : Ty) → IsFlat t → retyped numbers t ≡ t
  flat_stays t flat = sym (roll-out-Ty (retyped numbers t)) ∙ ap roll-Ty (out_retyped numbers t ∙ flat_layer (out-Ty t) flat) ∙ roll-out-Ty t

  -- a type of an expression
  pub known_stays : (t : Ty) → IsKnown count t → retyped numbers t ≡ t
  known_stays t (inl flat) = flat_stays t flat
  known_stays t (inr is) = sound_stays t is

  pub void_stays : (t : Ty) → t ≡ ty.Void → retyped numbers t ≡ t
  void_stays t is = flat_stays t (subst IsFlat (sym is) (ap is_flat_layer outs-Void))

  -- ---- what has a type

  abbrev member_of : List ℕ → Ty → Member
  member_of name t = record { name = name; ty = t }

  pub struct_stays : (s : StructType) → AllByRecursion (λ (m : Member). IsSound count m.ty) s.members → retyped_struct numbers s ≡ s
  struct_stays s all =
      ap (λ ms. record s { members = ms }) (map_stays (retyped_member numbers) s.members (λ m at. ap (member_of m.name) (sound_stays m.ty (all_in (λ (x : Member). IsSound count x.ty) s.members all m at))))

  pub global_stays : (g : GlobalVar) → IsSound count g.ty → retyped_global numbers g ≡ g
  global_stays g is = ap (λ t. record g { ty = t }) (sound_stays g.ty is)

  pub block_stays : (block : Block) → ((m : BlockMember) → In m block.members → IsSound count m.ty) → retyped_block numbers block ≡ block
  block_stays block each = ap (λ ms. record block { members = ms }) (map_stays (retyped_block_member numbers) block.members (λ m at. ap (λ t. record m { ty = t }) (sound_stays m.ty (each m at))))

  pub interface_stays : (i : Interface) → IsSound count i.ty → retyped_interface numbers i ≡ i
  interface_stays i is = ap (λ t. record i { ty = t }) (sound_stays i.ty is)

  abbrev param_of : Direction → Ty → Direction × Ty
  param_of direction t = (direction, t)

  pub prototype_stays : (p : Prototype) → retyped numbers p.result ≡ p.result → ((param : Direction × Ty) → In param p.params → IsSound count param.1) → retyped_prototype numbers p ≡ p
  prototype_stays p result each =
      ap (λ t. record p { result = t; params = map (retyped_param numbers) p.params }) result
      ∙ ap (λ ps. record p { params = ps }) (map_stays (retyped_param numbers) p.params (λ param at. ap (param_of param.0) (sound_stays param.1 (each param at))))
