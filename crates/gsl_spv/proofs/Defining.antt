-- Where what a call answers is defined.
use Rattle.std.proofs.Common.{◌≡◌, ℕ, ◌+◌, Bool, true, false, List, [], ◌∷◌, Option, Some, None, sym, ap, subst, ◌∙◌, refl, if◌then◌else◌}
use Rattle.std.proofs.lemmas.List.Elements.{Contains-push}
use Rattle.std.proofs.lemmas.Map.Views.{Contains-from_lookup, lookup-from_Contains}
use Rattle.std.specs.Cmp.Lexicographic.{same_text, nat_list_eq_equiv}
use Rattle.std.specs.List.{Contains}
use Rattle.gsl_words.specs.declared.module.Instr.{Instr}
use Rattle.gsl_spv.specs.Declarations.{Declaration, instr, defining}
use Rattle.gsl_spv.specs.Once.{Key, key_of, id_of, is_type, is_constant, type_entry, constant_entry, entries, entry_of, IsOnce}
use Rattle.gsl_spv.specs.Sections.{Sections}
use Rattle.gsl_spv.specs.Calls.{known, intern}
use Rattle.gsl_spv.specs.Growing.{AreOnce}
use Rattle.gsl_spv.proofs.Contained.{nothing_in, only_in, first_in, from_flat, into_flat}

-- the operands of a constant by its key
abbrev behind_type : List ℕ → ℕ → List ℕ
behind_type [] id = id ∷ []
behind_type (ty ∷ operands) id = ty ∷ id ∷ operands

-- the instruction that a key and an id are of
abbrev of_entry : Key → ℕ → Instr
of_entry [] id = instr 0 []
of_entry (o ∷ operands) id = instr o (if is_type o then id ∷ operands else behind_type operands id)

of_type : (o : ℕ) (args : List ℕ) (key : Key) (id : ℕ) → is_type o ≡ true → Contains (type_entry o args) (key, id) → instr o args ≡ of_entry key id
of_type o [] key id is h = absurd (nothing_in (key, id) h)
of_type o (a ∷ operands) key id is h =
    let e : (o ∷ operands, a) ≡ (key, id) = only_in (o ∷ operands, a) (key, id) h in
    ap (λ t. instr o (if t then a ∷ operands else behind_type operands a)) (sym is) ∙ ap (λ p. of_entry p.0 p.1) e

of_constant : (o : ℕ) (args : List ℕ) (key : Key) (id : ℕ) → is_type o ≡ false → Contains (constant_entry o args) (key, id) → instr o args ≡ of_entry key id
of_constant o [] key id is h = absurd (nothing_in (key, id) h)
of_constant o (ty ∷ []) key id is h = absurd (nothing_in (key, id) h)
of_constant o (ty ∷ a ∷ operands) key id is h =
    let e : (o ∷ ty ∷ operands, a) ≡ (key, id) = only_in (o ∷ ty ∷ operands, a) (key, id) h in
    ap (λ t. instr o (if t then a ∷ ty ∷ operands else ty ∷ a ∷ operands)) (sym is) ∙ ap (λ p. of_entry p.0 p.1) e

-- an instruction that declares a key under an id is one alone
entry_instr : (i : Instr) (key : Key) (id : ℕ) → Contains (entry_of i) (key, id) → i ≡ of_entry key id
entry_instr i key id h = by (is_type i.op) refl (is_constant i.op) h
  where
    by : (t : Bool) → is_type i.op ≡ t → (c : Bool) → Contains (if t then type_entry i.op i.args else if c then constant_entry i.op i.args else []) (key, id) → i ≡ of_entry key id
    by true is c found = of_type i.op i.args key id is found
    by false is true found = of_constant i.op i.args key id is found
    by false is false found = absurd (nothing_in (key, id) found)

-- so a declaration that is found stands there
found_stands : (d : Declaration) (code : List Instr) (id : ℕ) → IsOnce d → id_of d code ≡ Some id → Contains code (defining d id)
found_stands d code id once found =
    let p = from_flat entry_of code (key_of d, id) (Contains-from_lookup (λ x y e. same_text x y (sym e)) (key_of d) id (entries code) found) in
    let here = entry_instr p.0 (key_of d) id p.2 in
    let there = entry_instr (defining d id) (key_of d) id (subst (λ l. Contains l (key_of d, id)) (sym (once.entry id)) (first_in (key_of d, id) [])) in
    subst (Contains code) (here ∙ sym there) p.1

-- what is interned stands among the globals
pub interned_stands : (d : Declaration) (s : Sections) → IsOnce d → Contains (intern d s).sections.globals (defining d (intern d s).id)
unfolding intern
interned_stands d s once = by (id_of d s.globals) refl
  where
    by : (found : Option ℕ) → id_of d s.globals ≡ found → Contains (known found d s).sections.globals (defining d (known found d s).id)
    by (Some id) is = found_stands d s.globals id once is
    by None is = Contains-push s.globals (defining d (s.last + 1))

-- and where nothing is declared twice, it has one id
pub one_id : (code : List Instr) (d : Declaration) (a b : ℕ) → AreOnce code → IsOnce d → Contains code (defining d a) → Contains code (defining d b) → a ≡ b
one_id code d a b distinct once first second = some_same a b (sym (at a first) ∙ at b second)
  where
    at : (id : ℕ) → Contains code (defining d id) → id_of d code ≡ Some id
    at id among = lookup-from_Contains nat_list_eq_equiv (key_of d) id (entries code) distinct
        (into_flat entry_of code (defining d id) (key_of d, id) among (subst (λ l. Contains l (key_of d, id)) (sym (once.entry id)) (first_in (key_of d, id) [])))

    some_same : (x y : ℕ) → Some x ≡ Some y → x ≡ y
    some_same x y e = cc
