-- The kind of a type shows in its spelling.
use Rattle.std.proofs.Common.{◌≡◌, sym, ap, subst, ◌∙◌, ℕ, ◌<◌, List, length, slice_get, Some, [], ◌∷◌, get_or, arith}
use Rattle.gsl_types.specs.declared.ty.Scalar.{Scalar}
use Rattle.gsl_types.specs.declared.ty.Ty.{Ty}
use Rattle.gsl_types.specs.declared.ty.Ty.TheOpen.{Ty-F}
use Rattle.gsl_types.specs.declared.ty.Ty.TheViews.{roll-Ty}
use Rattle.gsl_types.specs.declared.ty.Ty.TheVariants as ty
use Rattle.gsl_types.specs.declared.ty.Ty.TheVariants.{rolls-Array, rolls-Runtime, rolls-Struct, rolls-Vector, rolls-One, rolls-Void}
use Rattle.gsl_types.specs.declared.ty.Ty.TheFolds.{ind-Ty, map-Ty, fold-roll-Ty}
use Rattle.gsl_types.specs.declared.ty.StructType.{StructType}
use Rattle.gsl_types.specs.Known.{AreStructs, IsSound, sound_kind}
use Rattle.std.specs.Prelude.{Bool}
use Rattle.std.proofs.lemmas.Bool.{ltb-true}
use Rattle.gsl_types.specs.Spelling.{Spelling, spelled, spelling, chained}
use Rattle.gsl_types.specs.Structs.{numbered, members_meaning, layer}
use Rattle.gsl_types.proofs.Layers.{over_struct, sound_struct}
use Rattle.gsl_types.proofs.Structs.{numbered_is}
use Rattle.std.proofs.lemmas.Option.{slice_get-get_or}

pub data Kind : Type 0 where
  void : Kind
  one : Kind
  vector : Kind
  array : Kind
  runtime : Kind
  struct : Kind
  chain : Kind

abbrev pub kind_of : Spelling → Kind
kind_of Spelling.Void = void
kind_of (Spelling.One s) = one
kind_of (Spelling.Vector s n) = vector
kind_of (Spelling.Array e n) = array
kind_of (Spelling.Runtime e) = runtime
kind_of (Spelling.Struct n c) = struct
kind_of Spelling.End = chain
kind_of (Spelling.Member n s c) = chain

-- what a type of a kind is
abbrev pub Has : Kind → Ty → Type 0
Has void b = b ≡ ty.Void
Has one b = (s : Scalar) × (b ≡ ty.One s)
Has vector b = (s : Scalar) × (n : ℕ) × (b ≡ ty.Vector s n)
Has array b = (e : Ty) × (n : ℕ) × (b ≡ ty.Array e n)
Has runtime b = (e : Ty) × (b ≡ ty.Runtime e)
Has struct b = (k : ℕ) × (b ≡ ty.Struct k)
Has chain b = ⊥

-- what stands at a place of a list
pub slice_found : {X : Type 0} (xs : List X) (k : ℕ) → k < length xs → (x : X) × (slice_get xs k ≡ Some x)
slice_found [] k below = let no : ⊥ = omega (arith, below) in elim no [ ]
slice_found (x ∷ xs) k below = (get_or (x ∷ xs) k x, slice_get-get_or (x ∷ xs) k x below)

module _ (structs : List StructType) (known : AreStructs structs) where
  rolled : (x : Ty-F Ty) → spelled structs (roll-Ty x) ≡ layer spelling (numbered spelling structs) (map-Ty _ _ (spelled structs) x)
  rolled x = fold-roll-Ty Spelling (layer spelling (numbered spelling structs)) x

  pub struct_spelled : (k : ℕ) (s : StructType) → slice_get structs k ≡ Some s → spelled structs (ty.Struct k) ≡ Spelling.Struct s.name (chained (members_meaning spelling structs s.members))
  struct_spelled k s found = over_struct spelling (numbered spelling structs) k ∙ numbered_is spelling structs k s found (known k s found).earlier

  pub struct_kind : (k : ℕ) → IsSound (length structs) (ty.Struct k) → kind_of (spelled structs (ty.Struct k)) ≡ struct
  struct_kind k sound =
      let found = slice_found structs k (ltb-true k (length structs) (sym (sound_struct (length structs) k) ∙ sound)) in
      ap kind_of (struct_spelled k found.0 found.1)

  abbrev Shows : Ty → Type 0
  Shows b = IsSound (length structs) b → Has (kind_of (spelled structs b)) b

  -- a type that is one layer, and is spelled so
  shown : (x : Ty-F Ty) (spelling_of : Spelling) → spelled structs (roll-Ty x) ≡ spelling_of → Has (kind_of spelling_of) (roll-Ty x) → Has (kind_of (spelled structs (roll-Ty x))) (roll-Ty x)
  shown x spelling_of is has = subst (λ z. Has (kind_of z) (roll-Ty x)) (sym is) has

  shows_layer : (y : Ty-F ((b : Ty) × Shows b)) → Shows (roll-Ty (map-Ty _ _ (λ e. e.0) y))
  shows_layer Ty-F.Void s = shown Ty-F.Void Spelling.Void (rolled Ty-F.Void) rolls-Void
  shows_layer (Ty-F.One x) s = shown (Ty-F.One x) (Spelling.One x) (rolled (Ty-F.One x)) (x, rolls-One x)
  shows_layer (Ty-F.Vector x n) s = shown (Ty-F.Vector x n) (Spelling.Vector x n) (rolled (Ty-F.Vector x n)) (x, n, rolls-Vector x n)
  shows_layer (Ty-F.Array e n) s = shown (Ty-F.Array e.0 n) (Spelling.Array (spelled structs e.0) n) (rolled (Ty-F.Array e.0 n)) (e.0, n, rolls-Array e.0 n)
  shows_layer (Ty-F.Runtime e) s = shown (Ty-F.Runtime e.0) (Spelling.Runtime (spelled structs e.0)) (rolled (Ty-F.Runtime e.0)) (e.0, rolls-Runtime e.0)
  shows_layer (Ty-F.Struct k) s =
      let below = ltb-true k (length structs) (sym (fold-roll-Ty Bool (sound_kind (length structs)) (Ty-F.Struct k)) ∙ s) in
      let found = slice_found structs k below in
      shown (Ty-F.Struct k) (Spelling.Struct found.0.name (chained (members_meaning spelling structs found.0.members)))
      (ap (spelled structs) (rolls-Struct k) ∙ struct_spelled k found.0 found.1) (k, rolls-Struct k)

  pub shows : (b : Ty) → Shows b
  shows = ind-Ty Shows (λ x y is. subst (λ z. Shows (roll-Ty z)) is (shows_layer y))

  -- a type whose spelling is of a kind is of that kind
  pub of_kind : (k : Kind) (a b : Ty) → IsSound (length structs) b → kind_of (spelled structs a) ≡ k → spelled structs a ≡ spelled structs b → Has k b
  of_kind k a b sound is alike = subst (λ z. Has z b) (sym (ap kind_of alike) ∙ is) (shows b sound)
