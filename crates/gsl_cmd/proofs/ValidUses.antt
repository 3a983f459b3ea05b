-- What a program's module uses is defined before it.
use Rattle.std.proofs.Common.{◌≡◌, ℕ, zero, suc, ◌+◌, Bool, true, ◌&&◌, eqb, [], ◌∷◌, length, refl, inl, inr, arith}
use Rattle.std.specs.Prelude.{replicate}
use Rattle.std.specs.List.{list_all}
use Rattle.std.proofs.lemmas.Bool.{and_from, or_left, or_right, eq-eqb}
use Rattle.gsl_words.specs.declared.module.Instr.{Instr}
use Rattle.gsl_instr.specs.Forms.{form_of}
use Rattle.gsl_valid.specs.Search.{Test, Passes}
use Rattle.gsl_valid.specs.Ids.{defines, defined}
use Rattle.gsl_valid.specs.DefinedBeforeUse.{uses_defined}
use Rattle.gsl_valid.proofs.Searching.{passes_range}
use Rattle.gsl_valid.proofs.Lookups.{has_defined, has_behind, defined_behind}
use Rattle.gsl_form.specs.declared.program.Program.{Program}
use Rattle.gsl_cmd.specs.declared.lowering.id.TheConstants as id
use Rattle.gsl_form.specs.Form.{IsProgram}
use Rattle.gsl_cmd.specs.Lowering.{Code, code_of, constants_of, constant_code, constant_id, first_id, module_of, pointer}
use Rattle.gsl_cmd.proofs.Known.{among, program_known, member_known}
use Rattle.gsl_cmd.proofs.Walks.{Walk, load, add, statements_pass}
use Rattle.gsl_cmd.proofs.Parts.{constant_at, before_names, before_decorations, before_constants, before_variable, before_code, ending, passes_parts, in_types, in_variable, in_main}
use Rattle.gsl_cmd.proofs.ValidIds.{bound_of}
use Rattle.gsl_cmd.proofs.Facts.{has_constant}
use Rattle.gsl_cmd.proofs.Quiet.{names_pass, decorations_pass}

pub all_same : (f : ℕ → Bool) (x count : ℕ) → f x ≡ true → list_all f (replicate count x) ≡ true
unfolding form_of
all_same f x zero e = refl
all_same f x (suc count) e = and_from (f x) _ e (all_same f x count e)

pub two_defined : (f : ℕ → Bool) (a b : ℕ) → f a ≡ true → f b ≡ true → (list_all f (a ∷ b ∷ []) && true) ≡ true
unfolding form_of
two_defined f a b x y = and_from _ _ (and_from (f a) _ x (and_from (f b) _ y refl)) refl

pub three_defined : (f : ℕ → Bool) (a b c : ℕ) → f a ≡ true → f b ≡ true → f c ≡ true → (list_all f (a ∷ b ∷ c ∷ []) && true) ≡ true
unfolding form_of
three_defined f a b c x y z = and_from _ _ (and_from (f a) _ x (and_from (f b) _ y (and_from (f c) _ z refl))) refl

module _ (p : Program) where
  abbrev uses : Test
  uses = uses_defined (module_of p)

  -- The code still defines what was defined before it.
  abbrev Keeps : Code → Code → Type 0
  Keeps start before = (id : ℕ) → defined start id ≡ true → defined before id ≡ true

  keeps_more : (start before : Code) (i : Instr) → Keeps start before → Keeps start (i ∷ before)
  unfolding form_of
  keeps_more start before i keeps id here = or_right (defines i id) _ (keeps id here)

  -- a constant's id is defined before the variable
  constant_defined : (v : ℕ) → among (constants_of p) v ≡ true → defined (before_variable p) (constant_id (constants_of p) v) ≡ true
  unfolding form_of
  constant_defined v known = has_behind (before_constants p) (constant_code (constants_of p)) _ (constant_id (constants_of p) v) (has_constant p v known) refl

  kept_constants : Keeps (before_constants p) (before_variable p)
  unfolding form_of
  kept_constants id here = defined_behind (before_constants p) (constant_code (constants_of p)) id here

  kept_code : Keeps (before_variable p) (before_code p)
  unfolding form_of
  kept_code id here = or_right (eqb 4 id) _ (or_right (eqb 1 id) _ (or_right (eqb 9 id) _ here))

  abbrev uses_walk : Walk (constants_of p) (length p.members) (bound_of p) (λ i. Unit {0}) uses
  unfolding form_of
  uses_walk = record {
    ready = λ n before. Keeps (before_code p) before;
    value = λ v before. defined before v ≡ true;
    points = λ v before. defined before v ≡ true;
    chain = λ n k before within room here now. (
      three_defined (defined before) id.MEMBER_POINTER id.BUFFER (constant_id (constants_of p) k) (now 8 (kept_code 8 (kept_constants 8 refl))) (now 9 refl)
          (now (constant_id (constants_of p) k) (kept_code _ (constant_defined k (member_known p k within)))),
      keeps_more (before_code p) before (pointer (constants_of p) n k) now,
      or_left (eqb n n) _ (eq-eqb n n refl),
    );
    chain_keeps = λ n k v before held. or_right (eqb n v) _ held;
    load_passes = λ n q before room here now at. (
      two_defined (defined before) id.INT q (now 5 (kept_code 5 (kept_constants 5 refl))) at,
      keeps_more (before_code p) before (load n q) now,
      or_left (eqb n n) _ (eq-eqb n n refl),
    );
    load_keeps = λ n q v before held. or_right (eqb n v) _ held;
    add_passes = λ n a b before room here now x y. (
      three_defined (defined before) id.INT a b (now 5 (kept_code 5 (kept_constants 5 refl))) x y,
      keeps_more (before_code p) before (add n a b) now,
      or_left (eqb n n) _ (eq-eqb n n refl),
    );
    store_passes = λ n q v before here now at held. (two_defined (defined before) q v at held, now);
    literal = λ n v before known now. now (constant_id (constants_of p) v) (kept_code _ (constant_defined v known));
  }

  -- what may come later is defined
  main_defined : defined (code_of p) id.MAIN ≡ true
  unfolding form_of
  main_defined = has_defined (code_of p) _ id.MAIN (in_main p _ (inl refl)) refl

  block_defined : defined (code_of p) id.BLOCK ≡ true
  unfolding form_of
  block_defined = has_defined (code_of p) _ id.BLOCK (in_types p _ (inr (inr (inr (inl refl))))) refl

  buffer_defined : defined (code_of p) id.BUFFER ≡ true
  unfolding form_of
  buffer_defined = has_defined (code_of p) _ id.BUFFER (in_variable p _ (inl refl)) refl

  pub uses_kept : IsProgram p → Passes uses [] (code_of p)
  unfolding form_of
  uses_kept fits =
      passes_parts p uses (refl, (refl, (and_from _ _ main_defined refl, (and_from _ _ main_defined refl, tt))))
      (names_pass uses p.members before_names (λ b. and_from _ _ block_defined refl) (λ k b. and_from _ _ block_defined refl))
      (decorations_pass uses (length p.members) (before_decorations p) (λ b. and_from _ _ block_defined refl)
      (λ k within b. and_from _ _ block_defined refl) (λ b. and_from _ _ buffer_defined refl) (λ b. and_from _ _ buffer_defined refl))
      (refl, (refl, (refl, (and_from _ _ (all_same _ 5 (length p.members) refl) refl, (refl, (refl, tt))))))
      (passes_range uses (λ k before. defined before 5 ≡ true) (constant_at (constants_of p)) 0 (length (constants_of p))
      (λ k before low high now. (and_from _ _ (and_from _ _ now refl) refl, or_right (eqb (10 + k) 5) _ now)) (before_constants p) refl).0
      (and_from _ _ (and_from _ _ (kept_constants 7 refl) refl) refl, tt) (
        and_from _ _ (and_from _ _ (kept_constants 2 refl) (and_from _ _ (kept_constants 3 refl) refl)) refl,
        (
          refl,
          statements_pass (constants_of p) (length p.members) (bound_of p) (λ i. Unit {0}) uses uses_walk (first_id (constants_of p)) p.statements ending
              (before_code p) (program_known p fits) (omega arith) (λ i has. tt) (λ id here. here) (λ end behind e now. (refl, (refl, tt))),
        ),
      )
