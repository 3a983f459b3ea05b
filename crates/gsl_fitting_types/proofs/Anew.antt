-- A type that is not found among declarations is declared for the first time.
use Rattle.std.proofs.Common.{◌≡◌, ℕ, Bool, true, false, cond, ◌&&◌, ◌||◌, not, List, [], ◌∷◌, ◌++◌, Some, None, refl, sym, ap, ◌∙◌, inl, inr, ◌⊎◌, arith}
use Rattle.std.specs.Prelude.{◌==◌, nat_eq, drop, nat_le}
use Rattle.std.specs.List.{list_any}
use Rattle.std.specs.Map.{lookup}
use Rattle.std.specs.Cmp.Lexicographic.{pointwise}
use Rattle.std.proofs.lemmas.Bool.{and_parts, eqb-true, not_from_false, true≢false}
use Rattle.std.proofs.lemmas.List.Concat.{flat_map-cons}
use Rattle.gsl_instr.specs.Forms.{form_of}
use Rattle.gsl_words.specs.declared.module.Instr.{Instr}
use Rattle.gsl_valid.specs.Ids.{defined, result}
use Rattle.gsl_valid.specs.IdsDefinedOnce.{defines_once, is_new}
use Rattle.gsl_valid.specs.Instruction.{read}
use Rattle.gsl_valid.specs.Placed.{Code}
use Rattle.gsl_valid.specs.Search.{Passes, passed}
use Rattle.gsl_valid.specs.TypeRules.{is_first, same_type}
use Rattle.gsl_valid.proofs.Lookups.{Has}
use Rattle.gsl_spv.specs.Declarations as d
use Rattle.gsl_spv.specs.Declarations.{Declaration, defining, instr}
use Rattle.gsl_spv.specs.Once.{Key, constant_entry, entries, entry_of, id_of, is_constant, is_type, key_of, same, type_entry}
use Rattle.gsl_spv.specs.declared.plain.PlainType.{PlainType}
use Rattle.gsl_spv.specs.declared.plain.PlainType.TheVariants as plain

-- ---- no instruction defines 0

pub never_zero : (bound : ℕ) (before code : Code) (i : Instr) → Passes (defines_once bound) before code → Has code i → result (read i) ≡ Some 0 → ⊥
never_zero bound before [] i all none zero = absurd none
never_zero bound before (j ∷ code) i all (inl is) zero =
    let new : is_new bound before (Some 0) ≡ true = ap (is_new bound before) (sym (ap (λ k. result (read k)) is ∙ zero)) ∙ all.0 in
    absurd (true≢false (sym (and_parts false (nat_le 1 bound) (and_parts (false && nat_le 1 bound) (not (defined before 0)) new).0).0))
never_zero bound before (j ∷ code) i all (inr later) zero = never_zero bound (j ∷ before) code i all.1 later zero

-- ---- one instruction

lookup_none : (test : Key → Bool) (xs ys : List (Key × ℕ)) → lookup test (xs ++ ys) ≡ None → (lookup test xs ≡ None) × (lookup test ys ≡ None)
lookup_none test [] ys none = (refl, none)
lookup_none test (x ∷ xs) ys none = by (test x.0) (lookup_none test xs ys) none
  where
    by : (b : Bool) → (lookup test (xs ++ ys) ≡ None → (lookup test xs ≡ None) × (lookup test ys ≡ None)) → cond b (Some x.1) (lookup test (xs ++ ys)) ≡ None → (cond b (Some x.1) (lookup test xs) ≡ None) × (lookup test ys ≡ None)
    by true more e = absurd cc
    by false more e = more e

-- a type that is not what an instruction declares is other than it
unlike : (o : ℕ) (xs : List ℕ) (j : Instr) → is_type o ≡ true → result (read (instr o [])) ≡ Some 0 → (result (read j) ≡ Some 0 → ⊥) → lookup (same (o ∷ xs)) (entry_of j) ≡ None → (o == j.op && pointwise nat_eq xs (drop 1 j.args)) ≡ false
unlike o xs j type bare real none = by (o == j.op) refl
  where
    with_args : (e : o ≡ j.op) (args : List ℕ) → j.args ≡ args → pointwise nat_eq xs (drop 1 args) ≡ false
    with_args e [] is = absurd (real (ap (λ a. result (read (instr j.op a))) is ∙ ap (λ p. result (read (instr p []))) (sym e) ∙ bare))
    with_args e (a ∷ rest) is = found (pointwise nat_eq xs rest) refl
      where
        entry : entry_of j ≡ (o ∷ rest, a) ∷ []
        entry = ap (λ b. cond b (type_entry j.op j.args) (cond (is_constant j.op) (constant_entry j.op j.args) [])) (ap is_type (sym e) ∙ type) ∙ ap (type_entry j.op) is ∙ ap (λ p. (p ∷ rest, a) ∷ []) (sym e)

        found : (b : Bool) → pointwise nat_eq xs rest ≡ b → b ≡ false
        found true q = absurd (some_none (sym (ap (λ c. cond c (Some a) None) (ap (λ c. c && pointwise nat_eq xs rest) (eq_self o) ∙ q)) ∙ ap (lookup (same (o ∷ xs))) (sym entry) ∙ none))
          where
            some_none : Some a ≡ None → ⊥
            some_none p = cc

            eq_self : (n : ℕ) → nat_eq n n ≡ true
            eq_self n = grind arith
        found false q = refl

    by : (b : Bool) → (o == j.op) ≡ b → (b && pointwise nat_eq xs (drop 1 j.args)) ≡ false
    by true e = with_args (eqb-true o j.op e) j.args refl
    by false e = refl

-- ---- all of them

none_passed : (test : Instr → Bool) (before code : Code) → list_any test before ≡ false → ((j : Instr) → Has code j → test j ≡ false) → list_any test (passed before code) ≡ false
none_passed test before [] none each = none
none_passed test before (j ∷ code) none each = none_passed test (j ∷ before) code (ap (λ b. b || list_any test before) (each j (inl refl)) ∙ none) (λ k has. each k (inr has))

each_none : (key : Key) (code : Code) → lookup (same key) (entries code) ≡ None → (j : Instr) → Has code j → lookup (same key) (entry_of j) ≡ None
each_none key [] none j has = absurd has
each_none key (i ∷ code) none j has =
    let parts = lookup_none (same key) (entry_of i) (entries code) (ap (lookup (same key)) (sym (flat_map-cons entry_of i code)) ∙ none) in
    by parts.0 (each_none key code parts.1 j) has
  where
    by : lookup (same key) (entry_of i) ≡ None → (Has code j → lookup (same key) (entry_of j) ≡ None) → (i ≡ j) ⊎ Has code j → lookup (same key) (entry_of j) ≡ None
    by here more (inl is) = ap (λ k. lookup (same key) (entry_of k)) (sym is) ∙ here
    by here more (inr later) = more later

bare_zero : (ty : PlainType) → (is_type (d.plain_type ty).op ≡ true) × (result (read (instr (d.plain_type ty).op [])) ≡ Some 0)
unfolding form_of
bare_zero plain.Void = (refl, refl)
bare_zero plain.Bool = (refl, refl)
bare_zero (plain.Int signed) = (refl, refl)
bare_zero (plain.Vector component count) = (refl, refl)
bare_zero (plain.Pointer class pointee) = (refl, refl)

same_as : (ty : PlainType) (id : ℕ) (j : Instr) → same_type (defining (d.plain_type ty) id) j ≡ ((d.plain_type ty).op == j.op && pointwise nat_eq (d.plain_type ty).operands (drop 1 j.args))
same_as plain.Void id j = refl
same_as plain.Bool id j = refl
same_as (plain.Int signed) id j = refl
same_as (plain.Vector component count) id j = refl
same_as (plain.Pointer class pointee) id j = refl

key_as : (ty : PlainType) → key_of (d.plain_type ty) ≡ (d.plain_type ty).op ∷ (d.plain_type ty).operands
key_as plain.Void = refl
key_as plain.Bool = refl
key_as (plain.Int signed) = refl
key_as (plain.Vector component count) = refl
key_as (plain.Pointer class pointee) = refl

pub plain_first : (ty : PlainType) (code : Code) (id : ℕ) → ((j : Instr) → Has code j → result (read j) ≡ Some 0 → ⊥) → id_of (d.plain_type ty) code ≡ None → is_first (passed [] code) (defining (d.plain_type ty) id) ≡ true
plain_first ty code id real none =
    not_from_false _ (none_passed (same_type (defining (d.plain_type ty) id)) [] code refl
    (λ j has. same_as ty id j
    ∙ unlike (d.plain_type ty).op (d.plain_type ty).operands j (bare_zero ty).0 (bare_zero ty).1 (real j has)
    (ap (λ key. lookup (same key) (entry_of j)) (sym (key_as ty)) ∙ each_none (key_of (d.plain_type ty)) code none j has)))
