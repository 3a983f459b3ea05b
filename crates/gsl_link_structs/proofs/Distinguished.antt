-- Heads have the same words exactly where they are of one function, and structs exactly where they are the same.
use Rattle.std.proofs.Common.{◌≡◌, refl, sym, ap, subst, ◌∙◌, ℕ, Bool, true, false, ◌&&◌, List, [], ◌∷◌, ◌++◌, append_assoc}
use Rattle.std.specs.Prelude.{nat_eq, bytes_eq}
use Rattle.gsl_types.specs.declared.ty.Direction.{Direction}
use Rattle.gsl_types.specs.declared.ty.Scalar.{Scalar}
use Rattle.gsl_types.specs.declared.ty.Scalar.TheVariants as scalar
use Rattle.gsl_types.specs.declared.ty.Ty.{Ty}
use Rattle.gsl_types.specs.declared.ty.Ty.TheOpen.{Ty-F}
use Rattle.gsl_types.specs.declared.ty.Ty.TheFolds.{fold-roll-Ty, ind-Ty, map-Ty}
use Rattle.gsl_types.specs.declared.ty.Ty.TheViews.{out-Ty, roll-Ty, roll-out-Ty}
use Rattle.gsl_types.specs.declared.ty.Member.{Member}
use Rattle.gsl_types.specs.declared.ty.StructType.{StructType}
use Rattle.gsl_tree.specs.declared.unit.Prototype.{Prototype}
use Rattle.gsl_tree.specs.Shapes.{same_scalar}
use Rattle.gsl_link_units.specs.Types.{same_type, same_layer}
use Rattle.gsl_link_units.specs.Agreement.{same_params, same_function}
use Rattle.gsl_link_units.specs.Structs.{same_members, same_struct}
use Rattle.gsl_link_structs.specs.Keys.{scalar_word, layer_words, type_words, params_words, head_words, spelling_words, members_words, struct_words}

and_both : (a b c : Bool) → (a && (b && c)) ≡ ((a && b) && c)
and_both true b c = refl
and_both false b c = refl

scalars : (s t : Scalar) (c : Bool) → (nat_eq (scalar_word s) (scalar_word t) && c) ≡ (same_scalar s t && c)
scalars scalar.Bool scalar.Bool c = refl
scalars scalar.Bool scalar.Int c = refl
scalars scalar.Bool scalar.Uint c = refl
scalars scalar.Int scalar.Bool c = refl
scalars scalar.Int scalar.Int c = refl
scalars scalar.Int scalar.Uint c = refl
scalars scalar.Uint scalar.Bool c = refl
scalars scalar.Uint scalar.Int c = refl
scalars scalar.Uint scalar.Uint c = refl

abbrev Tells : Ty → Type 0
Tells t = (u : Ty) (xs ys : List ℕ) → bytes_eq (type_words t ++ xs) (type_words u ++ ys) ≡ (same_type t u && bytes_eq xs ys)

-- one layer of each, where the first one's element is told
layers_tell : (y : Ty-F ((t : Ty) × Tells t)) (z : Ty-F Ty) (xs ys : List ℕ)
    → bytes_eq (layer_words (map-Ty _ _ (λ (e : (t : Ty) × Tells t). type_words e.0) y) ++ xs) (layer_words (map-Ty _ _ type_words z) ++ ys)
    ≡ (same_layer (map-Ty _ _ (λ (e : (t : Ty) × Tells t). same_type e.0) y) z && bytes_eq xs ys)
layers_tell Ty-F.Void Ty-F.Void xs ys = refl
layers_tell (Ty-F.One s) (Ty-F.One t) xs ys = scalars s t (bytes_eq xs ys)
layers_tell (Ty-F.Vector s n) (Ty-F.Vector t m) xs ys =
    ap (λ b. nat_eq n m && b) (scalars s t (bytes_eq xs ys)) ∙ and_both (nat_eq n m) (same_scalar s t) (bytes_eq xs ys)
layers_tell (Ty-F.Array e n) (Ty-F.Array f m) xs ys =
    ap (λ b. nat_eq n m && b) (e.1 f xs ys) ∙ and_both (nat_eq n m) (same_type e.0 f) (bytes_eq xs ys)
layers_tell (Ty-F.Runtime e) (Ty-F.Runtime f) xs ys = e.1 f xs ys
layers_tell (Ty-F.Struct i) (Ty-F.Struct j) xs ys = refl
layers_tell _ _ xs ys = refl

words_opened : (x : Ty-F Ty) → type_words (roll-Ty x) ≡ layer_words (map-Ty _ _ type_words x)
words_opened x = fold-roll-Ty (List ℕ) layer_words x

words_map : (x : Ty-F ((t : Ty) × Tells t)) → map-Ty _ _ type_words (map-Ty _ _ (λ e. e.0) x) ≡ map-Ty _ _ (λ (e : (t : Ty) × Tells t). type_words e.0) x
words_map Ty-F.Void = refl
words_map (Ty-F.One s) = refl
words_map (Ty-F.Vector s n) = refl
words_map (Ty-F.Array a n) = refl
words_map (Ty-F.Runtime a) = refl
words_map (Ty-F.Struct n) = refl

same_opened : (x : Ty-F Ty) (u : Ty) → same_type (roll-Ty x) u ≡ same_layer (map-Ty _ _ same_type x) (out-Ty u)
same_opened x u = ap (λ (f : Ty → Bool). f u) (fold-roll-Ty (Ty → Bool) (λ layer other. same_layer layer (out-Ty other)) x)

same_map : (x : Ty-F ((t : Ty) × Tells t)) → map-Ty _ _ same_type (map-Ty _ _ (λ e. e.0) x) ≡ map-Ty _ _ (λ (e : (t : Ty) × Tells t). same_type e.0) x
same_map Ty-F.Void = refl
same_map (Ty-F.One s) = refl
same_map (Ty-F.Vector s n) = refl
same_map (Ty-F.Array a n) = refl
same_map (Ty-F.Runtime a) = refl
same_map (Ty-F.Struct n) = refl

words_out : (u : Ty) → type_words u ≡ layer_words (map-Ty _ _ type_words (out-Ty u))
words_out u = ap type_words (sym (roll-out-Ty u)) ∙ words_opened (out-Ty u)

rolled_tell : (x : Ty-F ((t : Ty) × Tells t)) → Tells (roll-Ty (map-Ty _ _ (λ e. e.0) x))
rolled_tell x u xs ys =
    ap (λ (l : List ℕ). bytes_eq (l ++ xs) (type_words u ++ ys)) (words_opened (map-Ty _ _ (λ e. e.0) x) ∙ ap layer_words (words_map x))
    ∙ ap (λ (l : List ℕ). bytes_eq (layer_words (map-Ty _ _ (λ (e : (t : Ty) × Tells t). type_words e.0) x) ++ xs) (l ++ ys)) (words_out u)
    ∙ layers_tell x (out-Ty u) xs ys
    ∙ ap (λ b. b && bytes_eq xs ys) (ap (λ l. same_layer l (out-Ty u)) (sym (same_map x)) ∙ sym (same_opened (map-Ty _ _ (λ e. e.0) x) u))

pub types_tell : (t : Ty) → Tells t
types_tell = ind-Ty Tells (λ x y is. subst (λ z. Tells (roll-Ty z)) is (rolled_tell y))

params_tell : (ps qs : List (Direction × Ty)) (xs ys : List ℕ) → bytes_eq (params_words ps ++ xs) (params_words qs ++ ys) ≡ (same_params ps qs && bytes_eq xs ys)
params_tell [] [] xs ys = refl
params_tell [] (b ∷ qs) xs ys = refl
params_tell (a ∷ ps) [] xs ys = refl
params_tell (a ∷ ps) (b ∷ qs) xs ys =
    ap (λ (l : List ℕ). bytes_eq l ((type_words b.1 ++ params_words qs) ++ ys)) (append_assoc (type_words a.1) (params_words ps) xs)
    ∙ ap (bytes_eq (type_words a.1 ++ (params_words ps ++ xs))) (append_assoc (type_words b.1) (params_words qs) ys)
    ∙ types_tell a.1 b.1 (params_words ps ++ xs) (params_words qs ++ ys)
    ∙ ap (λ c. same_type a.1 b.1 && c) (params_tell ps qs xs ys)
    ∙ and_both (same_type a.1 b.1) (same_params ps qs) (bytes_eq xs ys)

other_way : (a b : Bool) → (a && b) ≡ (b && a)
other_way true true = refl
other_way true false = refl
other_way false true = refl
other_way false false = refl

pub heads_tell : (a b : Prototype) → bytes_eq (head_words a) (head_words b) ≡ same_function a b
heads_tell a b = params_tell a.params b.params a.name b.name ∙ other_way (same_params a.params b.params) (bytes_eq a.name b.name)

spellings_tell : (n m xs ys : List ℕ) → bytes_eq (spelling_words n ++ xs) (spelling_words m ++ ys) ≡ (bytes_eq n m && bytes_eq xs ys)
spellings_tell [] [] xs ys = refl
spellings_tell [] (d ∷ m) xs ys = refl
spellings_tell (c ∷ n) [] xs ys = refl
spellings_tell (c ∷ n) (d ∷ m) xs ys = ap (λ b. nat_eq c d && b) (spellings_tell n m xs ys) ∙ and_both (nat_eq c d) (bytes_eq n m) (bytes_eq xs ys)

-- the words of a name and a type, and what stands behind
parts_tell : (a b : Member) (xs ys : List ℕ) → bytes_eq (spelling_words a.name ++ (type_words a.ty ++ xs)) (spelling_words b.name ++ (type_words b.ty ++ ys)) ≡ (bytes_eq a.name b.name && (same_type a.ty b.ty && bytes_eq xs ys))
parts_tell a b xs ys = spellings_tell a.name b.name (type_words a.ty ++ xs) (type_words b.ty ++ ys) ∙ ap (λ c. bytes_eq a.name b.name && c) (types_tell a.ty b.ty xs ys)

and_three : (a b c d : Bool) → (a && (b && (c && d))) ≡ (((a && b) && c) && d)
and_three true b c d = and_both b c d
and_three false b c d = refl

apart : (m : Member) (ms xs : List ℕ) → (spelling_words m.name ++ (type_words m.ty ++ ms)) ++ xs ≡ spelling_words m.name ++ (type_words m.ty ++ (ms ++ xs))
apart m ms xs = append_assoc (spelling_words m.name) (type_words m.ty ++ ms) xs ∙ ap (λ (l : List ℕ). spelling_words m.name ++ l) (append_assoc (type_words m.ty) ms xs)

members_tell : (ms ns : List Member) (xs ys : List ℕ) → bytes_eq (members_words ms ++ xs) (members_words ns ++ ys) ≡ (same_members ms ns && bytes_eq xs ys)
members_tell [] [] xs ys = refl
members_tell [] (b ∷ ns) xs ys = refl
members_tell (a ∷ ms) [] xs ys = refl
members_tell (a ∷ ms) (b ∷ ns) xs ys =
    ap (λ (l : List ℕ). bytes_eq l ((spelling_words b.name ++ (type_words b.ty ++ members_words ns)) ++ ys)) (apart a (members_words ms) xs)
    ∙ ap (bytes_eq (spelling_words a.name ++ (type_words a.ty ++ (members_words ms ++ xs)))) (apart b (members_words ns) ys)
    ∙ parts_tell a b (members_words ms ++ xs) (members_words ns ++ ys)
    ∙ ap (λ c. bytes_eq a.name b.name && (same_type a.ty b.ty && c)) (members_tell ms ns xs ys)
    ∙ and_three (bytes_eq a.name b.name) (same_type a.ty b.ty) (same_members ms ns) (bytes_eq xs ys)

pub structs_tell : (a b : StructType) → bytes_eq (struct_words a) (struct_words b) ≡ same_struct a b
structs_tell a b = members_tell a.members b.members a.name b.name ∙ other_way (same_members a.members b.members) (bytes_eq a.name b.name)
