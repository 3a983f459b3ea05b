-- The constants with which global variables begin.
use Rattle.std.proofs.Common.{◌≡◌, refl, sym, ap, ap₂, ◌∙◌, subst, ℕ, zero, suc, ◌+◌, Bool, true, false, List, [], ◌∷◌, map, replicate, slice_get, Option, Some, None, if◌then◌else◌, arith}
use Rattle.std.specs.Prelude.{◌==◌, nat_lt}
use Rattle.std.specs.List.{Contains, list_all}
use Rattle.std.proofs.lemmas.Bool.{and_parts, eqb-true, false≢true, ltb-true}
use Rattle.gsl_instr.specs.Forms.{form_of}
use Rattle.gsl_types.specs.Known.{AreStructs}
use Rattle.gsl_types.specs.declared.ty.Member.{Member}
use Rattle.gsl_types.specs.declared.ty.Scalar.{Scalar}
use Rattle.gsl_types.specs.declared.ty.Scalar.TheVariants.{Bool as Boolean, Int, Uint}
use Rattle.gsl_types.specs.declared.ty.StructType.{StructType}
use Rattle.gsl_types.specs.declared.ty.Ty.{Ty}
use Rattle.gsl_types.specs.declared.ty.Ty.TheOpen.{Ty-F}
use Rattle.gsl_types.specs.declared.ty.Ty.TheViews.{out-Ty, roll-Ty, roll-out-Ty}
use Rattle.gsl_types.specs.declared.ty.Ty.TheVariants as ty
use Rattle.gsl_types.specs.declared.ty.Ty.TheVariants.{outs-Array, outs-One, outs-Runtime, outs-Struct, outs-Vector, outs-Void, rolls-Array, rolls-One, rolls-Runtime, rolls-Struct, rolls-Vector, rolls-Void}
use Rattle.gsl_words.specs.declared.module.Instr.{Instr}
use Rattle.gsl_words.specs.declared.module.Module.{Module}
use Rattle.gsl_values.specs.Word.{word_of_bool}
use Rattle.gsl_values.specs.declared.value.Value.{Value}
use Rattle.gsl_values.specs.declared.value.Value.TheFolds.{fold-roll-Value, ind-Value, map-Value}
use Rattle.gsl_values.specs.declared.value.Value.TheOpen.{Value-F}
use Rattle.gsl_values.specs.declared.value.Value.TheVariants.{Many, Word, outs-Many, outs-Word, rolls-Many, rolls-Word}
use Rattle.gsl_values.specs.declared.value.Value.TheViews.{roll-Value}
use Rattle.gsl_tree.specs.Expressions.{member_types}
use Rattle.gsl_tree.specs.Values.{all_pass, has_parts, has_parts_layer, is_scalar, is_scalar_layer, is_value_of, is_word_of}
use Rattle.gsl_tree.proofs.Nodes.{value_of_array, value_of_one, value_of_vector}
use Rattle.gsl_valid.specs.Ids.{defined, needs}
use Rattle.gsl_valid.specs.Instruction.{read}
use Rattle.gsl_machine.specs.Constants.{constant, constant_in}
use Rattle.gsl_sound_code.proofs.Looks.{Kept}
use Rattle.gsl_typed_law.proofs.Built.{value_of_struct}
use Rattle.gsl_spv.specs.Calls as call
use Rattle.gsl_spv.specs.Declarations as d
use Rattle.gsl_spv.specs.Declarations.{defining}
use Rattle.gsl_spv.specs.Once.{IsOnce}
use Rattle.gsl_spv.specs.Sections.{Sections}
use Rattle.gsl_spv.specs.declared.plain.PlainConst.TheVariants as of
use Rattle.gsl_spv.specs.declared.plain.PlainType.TheVariants as plain
use Rattle.gsl_spv.proofs.Answering.{composite_once, constant_once}
use Rattle.gsl_spv.proofs.Defining.{interned_stands}
use Rattle.gsl_spv.proofs.Extending.{extends_then}
use Rattle.gsl_lower_law.proofs.Adding.{extends_intern}
use Rattle.gsl_lower_values.specs.Building.{◌>>=◌, given, id_by}
use Rattle.gsl_lower_values.specs.Types.{composed, scalar_constant, scalar_type, word_of_type}
use Rattle.gsl_lower_text.specs.Written.{Written}
use Rattle.gsl_lower_text.proofs.Constants.{At, at, constant_unfolds, part_by}
use Rattle.gsl_lower_types.specs.Globals.{composed_as, constant_layer, constant_of, of_type, part_layer, part_type, parts_put, word_of}
use Rattle.gsl_lower_types.specs.Known.{Known, Put, aside, lacking}
use Rattle.gsl_lower_types.specs.Laid.{types_in, types_of}
use Rattle.gsl_lower_types.specs.Values.{value_type}
use Rattle.gsl_lower_law_outside.specs.Known.{AreTold}
use Rattle.gsl_lower_law_outside.proofs.Keeping.{asks_add, made_by, there}
use Rattle.gsl_lower_law_inputs.proofs.Types.{scalar_tells, type_tells}
use Rattle.gsl_lower_law_inputs.proofs.Puts.{AllTellPut, put_aside, put_by, put_given, put_lacking, put_so, put_then}
use Rattle.gsl_lower_law_inputs.proofs.Tells.{AllTell, interned_tells, tells_so, tells_then}

module _ (m : Module) (whole : Sections) (structs : List StructType) (held : Kept m) (written : Written m whole) (known_all : Known) (are : AreTold m structs known_all) where
  -- ---- words

  truth_said : (value : Bool) (type id : ℕ) → At m (defining (d.truth value type) id) → constant m id ≡ Word (word_of_bool value)
  unfolding form_of
  truth_said true type id a = constant_unfolds m (defining (d.truth true type) id) a id refl
  truth_said false type id a = constant_unfolds m (defining (d.truth false type) id) a id refl

  truth_once : (value : Bool) (type : ℕ) → IsOnce (d.truth value type)
  truth_once true type = constant_once of.True type
  truth_once false type = constant_once of.False type

  truth_tells : (value : Bool) → AllTell whole (id_by (call.truth value)) (λ id. constant m id ≡ Word (word_of_bool value))
  truth_tells value = record {
    all = λ s id after made.
        let type = call.plain_type plain.Bool s in
        let e = made_by (call.truth value) s id after made in
        record {
          extends = asks_add (call.truth value) (λ s. extends_then (extends_intern (d.plain_type plain.Bool) s) (extends_intern (d.truth value (call.plain_type plain.Bool s).id) (call.plain_type plain.Bool s).sections)) s id after made;
          told = λ into. truth_said value type.id id (there m whole structs held written after (defining (d.truth value type.id) id) into
              (subst (λ n. Contains after.globals (defining (d.truth value type.id) n)) e.0 (subst (λ (t : Sections). Contains t.globals (defining (d.truth value type.id) (call.truth value s).id)) e.1 (interned_stands (d.truth value type.id) type.sections (truth_once value type.id)))));
        };
  }

  word_said : (type word id : ℕ) → At m (defining (d.word type word) id) → constant m id ≡ Word word
  unfolding form_of
  word_said type word id a = constant_unfolds m (defining (d.word type word) id) a id refl

  number_tells : (x : Scalar) (word : ℕ) → AllTell whole (scalar_type x >>= word_of_type word) (λ id. constant m id ≡ Word word)
  number_tells x word =
      tells_so whole (tells_then whole (scalar_type x) (word_of_type word) (scalar_tells m whole structs held written known_all are x) (λ type. interned_tells whole (d.word type word) (constant_once (of.Word type word) 0)))
      (λ id b. word_said b.first word id (at m held _ (written.globals _ b.other)))

  truth_is_one : (word : ℕ) → (word == 0) ≡ false → nat_lt word 2 ≡ true → 1 ≡ word
  truth_is_one zero not_zero small = absurd (false≢true (sym not_zero))
  truth_is_one (suc zero) not_zero small = refl
  truth_is_one (suc (suc word)) not_zero small = absurd (let less = ltb-true (suc (suc word)) 2 small in omega (arith, less))

  scalar_constant_tells : (x : Scalar) (word : ℕ) → AllTell whole (scalar_constant x word) (λ id. is_word_of x word ≡ true → constant m id ≡ Word word)
  unfolding scalar_constant
  scalar_constant_tells Boolean word = by (word == 0) refl
    where
      by : (b : Bool) → (word == 0) ≡ b → AllTell whole (id_by (call.constant (if b then of.False else of.True))) (λ id. is_word_of Boolean word ≡ true → constant m id ≡ Word word)
      by true is = tells_so whole (truth_tells false) (λ id said small. said ∙ ap Word (sym (eqb-true word 0 is)))
      by false is = tells_so whole (truth_tells true) (λ id said small. said ∙ ap Word (truth_is_one word is small))
  scalar_constant_tells Int word = tells_so whole (number_tells Int word) (λ id said small. said)
  scalar_constant_tells Uint word = tells_so whole (number_tells Uint word) (λ id said small. said)

  -- ---- the constant of a value

  -- an id is that of a constant with the value, where that is one of the type
  abbrev pub IsConstant : Value → Ty → ℕ → Type 0
  IsConstant v t id = is_value_of structs t v ≡ true → constant m id ≡ v

  word_small : (x : Scalar) (t : Ty) (word : ℕ) → ty.One x ≡ t → is_value_of structs t (Word word) ≡ true → is_word_of x word ≡ true
  word_small x t word same typed =
      sym (value_of_one structs x (Word word) ∙ ap (is_scalar_layer x) (outs-Word word)) ∙ ap (λ u. is_value_of structs u (Word word)) same ∙ typed

  word_tells : (t : Ty) (layer : Ty-F Ty) → roll-Ty layer ≡ t → (word : ℕ) → AllTellPut whole known_all (word_of layer word) (IsConstant (Word word) t)
  word_tells t Ty-F.Void e word = put_by whole known_all (word_of Ty-F.Void word) (λ known. lacking) (λ known s. refl) (put_lacking whole known_all)
  word_tells t (Ty-F.One x) e word =
      put_by whole known_all (word_of (Ty-F.One x) word) (aside (scalar_constant x word)) (λ known s. refl)
      (put_so whole known_all (put_aside whole known_all (scalar_constant x word) (scalar_constant_tells x word)) (λ id said typed. said (word_small x t word (sym (rolls-One x) ∙ e) typed)))
  word_tells t (Ty-F.Vector x n) e word = put_by whole known_all (word_of (Ty-F.Vector x n) word) (λ known. lacking) (λ known s. refl) (put_lacking whole known_all)
  word_tells t (Ty-F.Array element n) e word = put_by whole known_all (word_of (Ty-F.Array element n) word) (λ known. lacking) (λ known s. refl) (put_lacking whole known_all)
  word_tells t (Ty-F.Runtime element) e word = put_by whole known_all (word_of (Ty-F.Runtime element) word) (λ known. lacking) (λ known s. refl) (put_lacking whole known_all)
  word_tells t (Ty-F.Struct k) e word = put_by whole known_all (word_of (Ty-F.Struct k) word) (λ known. lacking) (λ known s. refl) (put_lacking whole known_all)

  -- ---- constants of several parts

  -- ids are those of constants with these values
  abbrev AreEach : List ℕ → List Value → Type 0
  AreEach [] [] = Unit {0}
  AreEach [] (v ∷ vs) = ⊥
  AreEach (id ∷ ids) [] = ⊥
  AreEach (id ∷ ids) (v ∷ vs) = (constant m id ≡ v) × AreEach ids vs

  parts_are : (i : Instr) (a : At m i) (ids : List ℕ) (vs : List Value) → list_all (defined a.before) ids ≡ true → AreEach ids vs → map (constant_in m a.before) ids ≡ vs
  parts_are i a [] [] all each = refl
  parts_are i a [] (v ∷ vs) all each = absurd each
  parts_are i a (id ∷ ids) [] all each = absurd each
  parts_are i a (id ∷ ids) (v ∷ vs) all each =
      let p = and_parts (defined a.before id) (list_all (defined a.before) ids) all in
      ap₂ (λ w ws. w ∷ ws) (sym (part_by m i a id p.0) ∙ each.0) (parts_are i a ids vs p.1 each.1)

  composite_said : (type : ℕ) (ids : List ℕ) (id : ℕ) (vs : List Value) → At m (defining (d.composite type ids) id) → AreEach ids vs → constant m id ≡ Many vs
  unfolding form_of
  composite_said type ids id vs a each =
      let i = defining (d.composite type ids) id in
      constant_unfolds m i a id refl
      ∙ ap Many (parts_are i a ids vs (and_parts (defined a.before type) (list_all (defined a.before) ids) (and_parts (list_all (defined a.before) (needs (read i))) _ a.keeps.uses).0).1 each)

  composed_tells : (t : Ty) (ids : List ℕ) (vs : List Value) → AllTellPut whole known_all (composed_as t ids) (λ id. AreEach ids vs → constant m id ≡ Many vs)
  composed_tells t ids vs =
      put_so whole known_all (put_then whole known_all (value_type t) (λ type. aside (composed ids type)) (type_tells m whole structs held written known_all are t) (λ type.
      put_aside whole known_all (composed ids type) (interned_tells whole (d.composite type ids) (composite_once type ids))))
      (λ id b each. composite_said b.first ids id vs (at m held _ (written.globals _ b.other)) each)

  -- parts from a number on are values of their types
  abbrev AllParts : Ty → ℕ → List Value → Type 0
  AllParts t n [] = Unit {0}
  AllParts t n (v ∷ vs) = ((u : Ty) → part_type structs t n ≡ Some u → is_value_of structs u v ≡ true) × AllParts t (n + 1) vs

  abbrev Constant : Value → Type 0
  Constant v = (t : Ty) → AllTellPut whole known_all (constant_of structs v t) (IsConstant v t)

  abbrev Part : Type 0
  Part = (v : Value) × Constant v

  abbrev values : List Part → List Value
  values ps = map (λ (p : Part). p.0) ps

  abbrev puts : List Part → List (Ty → Put ℕ)
  puts ps = map (λ (p : Part). constant_of structs p.0) ps

  of_type_tells : (o : Option Ty) (v : Value) → Constant v → AllTellPut whole known_all (of_type o (constant_of structs v)) (λ id. ((u : Ty) → o ≡ Some u → is_value_of structs u v ≡ true) → constant m id ≡ v)
  of_type_tells None v c = put_by whole known_all (of_type None (constant_of structs v)) (λ known. lacking) (λ known s. refl) (put_lacking whole known_all)
  of_type_tells (Some t) v c = put_by whole known_all (of_type (Some t) (constant_of structs v)) (constant_of structs v t) (λ known s. refl) (put_so whole known_all (c t) (λ id said typed. said (typed t refl)))

  parts_tell : (ps : List Part) (t : Ty) (n : ℕ) → AllTellPut whole known_all (parts_put structs t n (puts ps)) (λ ids. AllParts t n (values ps) → AreEach ids (values ps))
  unfolding parts_put
  parts_tell [] t n =
      put_by whole known_all (parts_put structs t n []) (λ known. given ([], known)) (λ known s. refl)
      (put_so whole known_all (put_given whole known_all {A = List ℕ} []) (λ ids same all. subst (λ l. AreEach l []) same tt))
  parts_tell (p ∷ ps) t n =
      put_by whole known_all (parts_put structs t n (puts (p ∷ ps))) (λ known. of_type (part_type structs t n) (constant_of structs p.0) known >>= (λ r. parts_put structs t (n + 1) (puts ps) r.1 >>= (λ rs. given (r.0 ∷ rs.0, rs.1)))) (λ known s. refl)
      (put_so whole known_all (put_then whole known_all (of_type (part_type structs t n) (constant_of structs p.0)) (λ id known. parts_put structs t (n + 1) (puts ps) known >>= (λ rs. given (id ∷ rs.0, rs.1))) (of_type_tells (part_type structs t n) p.0 p.1) (λ id.
      put_then whole known_all (parts_put structs t (n + 1) (puts ps)) (λ ids known. given (id ∷ ids, known)) (parts_tell ps t (n + 1)) (λ ids. put_given whole known_all (id ∷ ids))))
      (λ ids b all. subst (λ l. AreEach l (values (p ∷ ps))) b.other.other (b.one all.0, b.other.one all.1)))

  -- ---- the types of parts

  part_is : (t : Ty) (layer : Ty-F Ty) → out-Ty t ≡ layer → (n : ℕ) → part_type structs t n ≡ part_layer structs layer n
  unfolding part_type
  part_is t layer same n = ap (λ l. part_layer structs l n) same

  no_parts : (t : Ty) → ((n : ℕ) → part_type structs t n ≡ None) → (n : ℕ) (vs : List Value) → AllParts t n vs
  no_parts t none n [] = tt
  no_parts t none n (v ∷ vs) = (λ u is. absurd (let e : None ≡ Some u = sym (none n) ∙ is in cc), no_parts t none (n + 1) vs)

  -- components and elements
  same_parts : (t u : Ty) (test : Value → Bool) → ((n : ℕ) → part_type structs t n ≡ Some u) → ((v : Value) → is_value_of structs u v ≡ test v) → (count n : ℕ) (vs : List Value) → all_pass (replicate count test) vs ≡ true → AllParts t n vs
  same_parts t u test part tested count n [] pass = tt
  same_parts t u test part tested zero n (v ∷ vs) pass = absurd (false≢true pass)
  same_parts t u test part tested (suc count) n (v ∷ vs) pass =
      let both = and_parts (test v) (all_pass (replicate count test) vs) pass in
      (λ w is. let e : Some u ≡ Some w = sym (part n) ∙ is in let same : u ≡ w = cc in subst (λ x. is_value_of structs x v ≡ true) same (tested v ∙ both.0), same_parts t u test part tested count (n + 1) vs both.1)

  -- members
  member_parts : (t : Ty) (members : List Member) (n : ℕ) (vs : List Value) → ((j : ℕ) (u : Ty) → part_type structs t (n + j) ≡ Some u → slice_get (types_of members) j ≡ Some u) → all_pass (map (is_value_of structs) (member_types members)) vs ≡ true → AllParts t n vs
  member_parts t members n [] at pass = tt
  member_parts t [] n (v ∷ vs) at pass = absurd (false≢true pass)
  member_parts t (member ∷ members) n (v ∷ vs) at pass =
      let both = and_parts (is_value_of structs member.ty v) (all_pass (map (is_value_of structs) (member_types members)) vs) pass in (
        λ u is.
            let here : Some member.ty ≡ Some u = at 0 u (ap (part_type structs t) (let e : n + 0 ≡ n = omega arith in e) ∙ is) in
            let same : member.ty ≡ u = cc in subst (λ x. is_value_of structs x v ≡ true) same both.0,
        member_parts t members (n + 1) vs (λ j u is. at (suc j) u (ap (part_type structs t) (let e : n + suc j ≡ n + 1 + j = omega arith in e) ∙ is)) both.1,
      )

  many_pass : (tests : List (Value → Bool)) (vs : List Value) → has_parts tests (Many vs) ≡ true → all_pass tests vs ≡ true
  many_pass tests vs is = sym (ap (has_parts_layer tests) (outs-Many vs)) ∙ is

  module _ (are_structs : AreStructs structs) where
    struct_parts : (k : ℕ) (vs : List Value) → is_value_of structs (ty.Struct k) (Many vs) ≡ true → AllParts (ty.Struct k) 0 vs
    struct_parts k vs typed = by (slice_get structs k) refl
      where
        by : (o : Option StructType) → slice_get structs k ≡ o → AllParts (ty.Struct k) 0 vs
        by None is = no_parts (ty.Struct k) (λ n. part_is (ty.Struct k) (Ty-F.Struct k) (outs-Struct k) n ∙ ap (λ o. slice_get (types_in o) n) is ∙ nothing n) 0 vs
          where
            nothing : (n : ℕ) → slice_get (types_in None) n ≡ None
            nothing zero = refl
            nothing (suc n) = refl
        by (Some struct) is =
            member_parts (ty.Struct k) struct.members 0 vs
            (λ j u part. ap (λ o. slice_get (types_in o) j) (sym is) ∙ sym (part_is (ty.Struct k) (Ty-F.Struct k) (outs-Struct k) j) ∙ ap (part_type structs (ty.Struct k)) (let e : j ≡ 0 + j = omega arith in e) ∙ part)
            (many_pass (map (is_value_of structs) (member_types struct.members)) vs (sym (value_of_struct structs are_structs k struct is (Many vs)) ∙ typed))

    all_parts : (t : Ty) (layer : Ty-F Ty) → roll-Ty layer ≡ t → (vs : List Value) → is_value_of structs t (Many vs) ≡ true → AllParts t 0 vs
    all_parts t Ty-F.Void e vs typed = subst (λ u. AllParts u 0 vs) (sym rolls-Void ∙ e) (no_parts ty.Void (λ n. part_is ty.Void Ty-F.Void outs-Void n) 0 vs)
    all_parts t (Ty-F.One x) e vs typed = subst (λ u. AllParts u 0 vs) (sym (rolls-One x) ∙ e) (no_parts (ty.One x) (λ n. part_is (ty.One x) (Ty-F.One x) (outs-One x) n) 0 vs)
    all_parts t (Ty-F.Vector x count) e vs typed =
        let same : ty.Vector x count ≡ t = sym (rolls-Vector x count) ∙ e in
        subst (λ u. AllParts u 0 vs) same (same_parts (ty.Vector x count) (ty.One x) (is_scalar x) (λ n. part_is (ty.Vector x count) (Ty-F.Vector x count) (outs-Vector x count) n) (value_of_one structs x) count 0 vs
        (many_pass (replicate count (is_scalar x)) vs (sym (value_of_vector structs x count (Many vs)) ∙ ap (λ u. is_value_of structs u (Many vs)) same ∙ typed)))
    all_parts t (Ty-F.Array element count) e vs typed =
        let same : ty.Array element count ≡ t = sym (rolls-Array element count) ∙ e in
        subst (λ u. AllParts u 0 vs) same (same_parts (ty.Array element count) element (is_value_of structs element) (λ n. part_is (ty.Array element count) (Ty-F.Array element count) (outs-Array element count) n) (λ v. refl) count 0 vs
        (many_pass (replicate count (is_value_of structs element)) vs (sym (value_of_array structs element count (Many vs)) ∙ ap (λ u. is_value_of structs u (Many vs)) same ∙ typed)))
    all_parts t (Ty-F.Runtime element) e vs typed = subst (λ u. AllParts u 0 vs) (sym (rolls-Runtime element) ∙ e) (no_parts (ty.Runtime element) (λ n. part_is (ty.Runtime element) (Ty-F.Runtime element) (outs-Runtime element) n) 0 vs)
    all_parts t (Ty-F.Struct k) e vs typed =
        let same : ty.Struct k ≡ t = sym (rolls-Struct k) ∙ e in
        subst (λ u. AllParts u 0 vs) same (struct_parts k vs (ap (λ u. is_value_of structs u (Many vs)) same ∙ typed))

    -- ---- every value

    both_maps : (ps : List Part) → map (constant_of structs) (values ps) ≡ puts ps
    both_maps [] = refl
    both_maps (p ∷ ps) = ap (λ l. constant_of structs p.0 ∷ l) (both_maps ps)

    of_value : (y : Value-F Part) → Constant (roll-Value (map-Value _ _ (λ e. e.0) y))
    of_value (Value-F.Word word) t =
        subst (λ v. AllTellPut whole known_all (constant_of structs (roll-Value (Value-F.Word word)) t) (IsConstant v t)) (sym (rolls-Word word))
        (put_by whole known_all (constant_of structs (roll-Value (Value-F.Word word)) t) (word_of (out-Ty t) word)
        (λ known s. ap (λ (f : Ty → Put ℕ). f t known s) (fold-roll-Value (Ty → Put ℕ) (constant_layer structs) (Value-F.Word word))) (word_tells t (out-Ty t) (roll-out-Ty t) word))
    of_value (Value-F.Many ps) t =
        subst (λ v. AllTellPut whole known_all (constant_of structs (roll-Value (Value-F.Many (values ps))) t) (IsConstant v t)) (sym (rolls-Many (values ps)))
        (put_by whole known_all (constant_of structs (roll-Value (Value-F.Many (values ps))) t) (λ known. parts_put structs t 0 (puts ps) known >>= (λ r. composed_as t r.0 r.1))
        (λ known s. ap (λ (f : Ty → Put ℕ). f t known s) (fold-roll-Value (Ty → Put ℕ) (constant_layer structs) (Value-F.Many (values ps))) ∙ ap (λ l. constant_layer structs (Value-F.Many l) t known s) (both_maps ps))
        (put_so whole known_all (put_then whole known_all (parts_put structs t 0 (puts ps)) (composed_as t) (parts_tell ps t 0) (λ ids. composed_tells t ids (values ps)))
        (λ id b typed. b.other (b.one (all_parts t (out-Ty t) (roll-out-Ty t) (values ps) typed)))))

    pub constant_tells : (v : Value) → Constant v
    constant_tells = ind-Value Constant (λ x y is. subst (λ z. Constant (roll-Value z)) is (of_value y))
