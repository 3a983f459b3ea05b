-- Whether an item is the last, and what is known at the end of a list.
use Rattle.std.proofs.Common.{◌≡◌, refl, sym, ap, subst, ◌∙◌, ℕ, ◌<◌, ◌≤◌, List, [], ◌∷◌, length, drop, arith, inl, inr}
use Rattle.std.proofs.lemmas.Bool.{cases_lt, eq-eqb, ne_eqb}
use Rattle.std.proofs.lemmas.List.{drop_all, length-drop}
use Rattle.std.specs.Prelude.{Bool, true, false, ◌&&◌, nat_eq}
use Rattle.gsl_types.specs.declared.ty.StructType.{StructType}
use Rattle.gsl_tree.specs.declared.unit.BlockMember.{BlockMember}
use Rattle.gsl_check_blocks.specs.Blocks.{is_end}
use Rattle.gsl_check_blocks.specs.declared.so_far.SoFar.{SoFar}
use Rattle.gsl_check_blocks.specs.Stands.{Stand, Stands}

-- where more may come, it does not matter what is said of the end
pub stand_at : (std140 : Bool) (structs : List StructType) (ended : Bool) (members : List BlockMember) → Stand std140 structs false members → Stand std140 structs ended members
stand_at std140 structs ended members stand = record { sound = stand.sound; ends = stand.ends; shut = λ e. stand.shut refl; placed = stand.placed }

-- nothing stands there yet
pub stand_empty : (std140 : Bool) (structs : List StructType) → Stand std140 structs false []
stand_empty std140 structs = record { sound = tt; ends = tt; shut = λ e. tt; placed = refl }

not_end : {A : Type 0} (xs : List A) → 0 < length xs → is_end xs ≡ false
not_end [] e = let never : ⊥ = omega (arith, e) in elim never [ ]
not_end (x ∷ xs) e = refl

-- behind the last item of a list, and before another one
pub at_end : {A : Type 0} (n : ℕ) (xs : List A) → length xs ≤ n → is_end (drop n xs) ≡ true
at_end n xs e = ap (λ l. is_end l) (drop_all n xs e)

pub at_item : {A : Type 0} (n : ℕ) (xs : List A) → n < length xs → is_end (drop n xs) ≡ false
at_item n xs e = not_end (drop n xs) (omega (arith, length-drop n xs, e))

pub last_is : {A : Type 0} (n : ℕ) (xs : List A) → n ≤ length xs → nat_eq n (length xs) ≡ is_end (drop n xs)
last_is n xs within = elim (cases_lt n (length xs)) as (λ _. nat_eq n (length xs) ≡ is_end (drop n xs)) [
  | inl below ↦ ne_eqb n (length xs) (λ e. omega (arith, e, below)) ∙ sym (at_item n xs below)
  | inr past ↦ eq-eqb n (length xs) (let e : n ≡ length xs = omega (arith, within, past) in e) ∙ sym (at_end n xs past)
]

and_true : (b : Bool) → (b && true) ≡ b
and_true true = refl
and_true false = refl

and_false : (b : Bool) → (b && false) ≡ false
and_false true = refl
and_false false = refl

-- at an item more may come
pub stand_here : {A : Type 0} (std140 : Bool) (structs : List StructType) (last : Bool) (n : ℕ) (xs : List A) (members : List BlockMember) → n < length xs
    → Stand std140 structs (last && is_end (drop n xs)) members → Stand std140 structs false members
stand_here std140 structs last n xs members within stand = subst (λ b. Stand std140 structs b members) (ap (λ b. last && b) (at_item n xs within) ∙ and_false last) stand

-- behind the last one it is as said of the whole
pub stand_done : {A : Type 0} (std140 : Bool) (structs : List StructType) (last : Bool) (n : ℕ) (xs : List A) (members : List BlockMember) → length xs ≤ n
    → Stand std140 structs (last && is_end (drop n xs)) members → Stand std140 structs last members
stand_done std140 structs last n xs members past stand = subst (λ b. Stand std140 structs b members) (ap (λ b. last && b) (at_end n xs past) ∙ and_true last) stand

-- ---- the same of the members so far

flagged : (std140 : Bool) (structs : List StructType) (a b : Bool) (all : SoFar) → Stands std140 structs a all → Stand std140 structs b all.members → Stands std140 structs b all
flagged std140 structs a b all stands stand = record { stand = stand; names = stands.names; outlined = stands.outlined; outlines = stands.outlines; end = stands.end }

pub stands_at : (std140 : Bool) (structs : List StructType) (ended : Bool) (all : SoFar) → Stands std140 structs false all → Stands std140 structs ended all
stands_at std140 structs ended all stands = flagged std140 structs false ended all stands (stand_at std140 structs ended all.members stands.stand)

pub stands_here : {A : Type 0} (std140 : Bool) (structs : List StructType) (last : Bool) (n : ℕ) (xs : List A) (all : SoFar) → n < length xs
    → Stands std140 structs (last && is_end (drop n xs)) all → Stands std140 structs false all
stands_here std140 structs last n xs all within stands = flagged std140 structs (last && is_end (drop n xs)) false all stands (stand_here std140 structs last n xs all.members within stands.stand)

pub stands_done : {A : Type 0} (std140 : Bool) (structs : List StructType) (last : Bool) (n : ℕ) (xs : List A) (all : SoFar) → length xs ≤ n
    → Stands std140 structs (last && is_end (drop n xs)) all → Stands std140 structs last all
stands_done std140 structs last n xs all past stands = flagged std140 structs (last && is_end (drop n xs)) last all stands (stand_done std140 structs last n xs all.members past stands.stand)
