-- How the logic names the types of a split, and what bytes follow that are lent in two halves.
use Rattle.std.proofs.Common.{◌≡◌, ℕ, List, [], ◌∷◌, ◌++◌, refl}
use Rattle.std.specs.Prelude.{⊤}
use seplogic.Ra.Ura.{Ura}
use base.Fml.{Fml, GName, Lft, fobs}
use base.Logic.{SProp, all_e, apply∗, ent, sep, wand}
use types.Kit.{‵, raw, ◌⊛◌, ◌$◌, ◌∵◌, !, qed, by, done, drop, feq_l, fpack, fsplit, fsplit3, keep, move, now, rewrite, updating, use1}
use types.Logic.{Logic, sem}
use mir.Syntax.{named}
use denote.Array.{Array}
use denote.Builtin.{u8}
use denote.Follow.{both_by, follows_both, follows_by, such_by}
use denote.FollowSlice.{heres_id}
use mathlib.Core.Option.{none}
use mir.Val.{Val}
use types.Tokens.{name_done}
use denote.Param.Laws.{Laws, Told, field_told, of_field, row_shared}
use denote.Param.Shared.{copy_shared, mut_slice_shared}
use denote.RattleType.{RattleType}
use denote.Ref.{MutBor, NamedLft}
use denote.Slice.{MutSlice}
use denote.Struct.Field.{u8-field, mut_slice_field}
use denote.Struct.Laws.{u8-laws, u8-copy, mut_slice_laws}
use denote.Struct.Tuple.{Tuple, tuple_laws, tuple_told}
use Rattle.gsl_views.specs.Lending.{EndsAt, LendsParts}
use Rattle.gsl_views.specs.contracts.view_mut.ViewMut.{the_row as ViewMut}
use Rattle.gsl_views.proofs.view_mut.ViewMut.TheLaws.{the_row_laws, the_told}

-- the one lifetime of the signatures
abbrev pub lived : Lft → NamedLft
lived κ = record { mir = named 0; lft = κ }

abbrev pub Half : Lft → RattleType
Half κ = MutSlice (named 0) κ u8

abbrev pub Halves : Lft → RattleType
Halves κ = Tuple (Half κ ∷ Half κ ∷ [])

abbrev pub Views : Lft → RattleType
Views κ = Tuple (ViewMut (lived κ) ∷ ViewMut (lived κ) ∷ [])

byte_laws : Laws u8
byte_laws = of_field u8-field u8-laws refl (copy_shared u8-field u8-copy)

pub half_laws : (κ : Lft) → Laws (Half κ)
half_laws κ = of_field (mut_slice_field (lived κ) u8 tt) (mut_slice_laws (lived κ) u8 tt) refl (mut_slice_shared (lived κ) u8 tt (row_shared u8 byte_laws))

abbrev half_told : (κ : Lft) → Told (Half κ)
half_told κ = field_told (mut_slice_field (lived κ) u8 tt) (mut_slice_laws (lived κ) u8 tt)

abbrev pub halves_told : (κ : Lft) → Told (Halves κ)
halves_told κ = tuple_told (Half κ ∷ Half κ ∷ []) (half_laws κ, (half_laws κ, tt)) (half_told κ, (half_told κ, tt))

pub views_laws : (κ : Lft) → Laws (Views κ)
views_laws κ = tuple_laws (ViewMut (lived κ) ∷ ViewMut (lived κ) ∷ []) (the_row_laws (lived κ), (the_row_laws (lived κ), tt))

abbrev pub views_told : (κ : Lft) → Told (Views κ)
views_told κ = tuple_told (ViewMut (lived κ) ∷ ViewMut (lived κ) ∷ []) (the_row_laws (lived κ), (the_row_laws (lived κ), tt)) (the_told (lived κ), (the_told (lived κ), tt))

-- the bytes of one name end as those of two others in a row
abbrev pub Follows : GName → GName × GName → Fml
Follows whole parts = follows_both (Array u8 0) (Array u8 0) (Array u8 0) whole parts.0 parts.1 ◌++◌

-- what `LendsParts` gives: once the last bytes behind both parts are known, the whole's are those in a row
module _ {M : Type 1} {𝓤 : Ura M} (𝓛 : Logic 𝓤) where
  abbrev pub Ends : MutBor (List ℕ) → List ℕ → SProp 𝓤
  Ends part zs = 𝓛.A.res part.ghost_name ((Array u8 0).coded.code zs)

  pub given_up : (bytes first second : MutBor (List ℕ)) (xs ys : List ℕ) → ent 𝓤 (sep 𝓤 (sem 𝓛 (LendsParts bytes first second)) (sep 𝓤 (Ends first xs) (Ends second ys))) (Ends bytes (xs ++ ys))
  unfolding both_by
  given_up bytes first second xs ys =
      qed 𝓛 (‵ (LendsParts bytes first second) ∷ (raw (Ends first xs) ⊛ raw (Ends second ys)) ∷ []) ∵
      use1 𝓛 (raw (wand 𝓤 (sep 𝓤 (Ends first xs) (Ends second ys)) (Ends bytes (xs ++ ys))))
      (all_e 𝓤 (λ (zs : List ℕ × List ℕ). wand 𝓤 (sep 𝓤 (Ends first zs.0) (Ends second zs.1)) (Ends bytes (zs.0 ++ zs.1))) (xs, ys)) $ move ! (1 ∷ 0 ∷ []) $
      by ! (apply∗ 𝓤 (sep 𝓤 (Ends first xs) (Ends second ys)) (Ends bytes (xs ++ ys)))

  pub ends_at_them : (bytes : MutBor (List ℕ)) (xs last : List ℕ) → xs ≡ last → ent 𝓤 (Ends bytes xs) (sem 𝓛 (EndsAt bytes last))
  unfolding such_by follows_by
  ends_at_them bytes xs last is =
      let code = (Array u8 0).coded.code in
      qed 𝓛 (‵ (follows_by (List ℕ) (List ℕ) code code bytes.ghost_name none (λ _. xs) xs) ∷ []) ∵
      fpack ! ((s : (List ℕ → List ℕ) × List ℕ) × ((w : List ℕ) → ⊤) × (s.1 ≡ last)) (λ s. follows_by (List ℕ) (List ℕ) code code bytes.ghost_name none s.0.0 s.0.1) ((λ _. xs, xs), (λ w. tt), is) $ done !

  pub gives_up : (κ : Lft) (vs : List Val) (r : MutBor (List ℕ)) → ent 𝓤 (sem 𝓛 ((Half κ).own_val r vs)) (𝓛.H.⇛ (Ends r r.now))
  gives_up κ vs r =
      qed 𝓛 (‵ ((Half κ).own_val r vs) ∷ []) ∵ updating ! $ fsplit3 ! $ fsplit ! $ feq_l ! (λ _. drop ! $
      rewrite ! 0 (λ (l : List ℕ). ‵ (fobs r.ghost_name ((Array u8 0).coded.code l))) (heres_id u8 r.now) refl $ name_done ! tt $ now ! $ keep ! (0 ∷ []) $ done !)
