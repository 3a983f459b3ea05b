-- Which variables of some classes are put, and that nothing else puts any.
use Rattle.std.proofs.Common.{◌≡◌, refl, sym, ap, ◌∙◌, subst, ℕ, ◌+◌, Bool, true, List, [], ◌∷◌, ◌++◌, Option, Some, None, append_assoc, append-nil}
use Rattle.std.specs.Prelude.{filter_map, option_to_list}
use Rattle.std.specs.List.{AllByRecursion, cons_option}
use Rattle.std.proofs.lemmas.Bool.{cond-false}
use Rattle.gsl_instr.specs.Forms.{form_of}
use Rattle.gsl_words.specs.declared.module.Instr.{Instr}
use Rattle.gsl_valid.specs.Kinds.{Variable}
use Rattle.gsl_valid.specs.Placed.{Code}
use Rattle.gsl_spv.specs.Calls.{declare, decorating, intern, known as interned_as, naming}
use Rattle.gsl_spv.specs.Declarations as d
use Rattle.gsl_spv.specs.Declarations.{Declaration, defining}
use Rattle.gsl_spv.specs.Once.{id_of}
use Rattle.gsl_spv.specs.Sections.{Sections}
use Rattle.gsl_lower_law_inner.specs.Inner.{IsInner, is_inner}
use Rattle.gsl_lower_law_outputs.specs.Outputs.{BeginsNone, Grows, chosen, chosen_among, chosen_if, chosen_in}
use Rattle.gsl_lower_law_outputs.proofs.Quiet.{begins_none, declares_none}
use Rattle.gsl_lower_law_outputs.proofs.Walking.{Walks}

-- ---- the variables that code declares

cons_both : {B : Type 0} (o : Option B) (xs ys : List B) → cons_option o (xs ++ ys) ≡ cons_option o xs ++ ys
cons_both None xs ys = refl
cons_both (Some x) xs ys = refl

pub filter_both : {A B : Type 0} (f : A → Option B) (xs ys : List A) → filter_map f (xs ++ ys) ≡ filter_map f xs ++ filter_map f ys
filter_both f [] ys = refl
filter_both f (x ∷ xs) ys = ap (cons_option (f x)) (filter_both f xs ys) ∙ cons_both (f x) (filter_map f xs) (filter_map f ys)

pub all_both : {A : Type 0} (P : A → Type 0) (xs ys : List A) → AllByRecursion P xs → AllByRecursion P ys → AllByRecursion P (xs ++ ys)
all_both P [] ys first second = second
all_both P (x ∷ xs) ys first second = (first.0, all_both P xs ys first.1 second)

module _ (test : ℕ → Bool) where
  pub grows_same : (l : Code) → Grows test l l []
  grows_same l = record { put = []; is = sym (append-nil l); quiet = tt; those = refl }

  pub grows_then : {a b c : Code} {xs ys : List Variable} → Grows test a b xs → Grows test b c ys → Grows test a c (xs ++ ys)
  grows_then {a} {b} {c} {xs} {ys} p q = record {
    put = p.put ++ q.put;
    is = q.is ∙ ap (λ l. l ++ q.put) p.is ∙ append_assoc a p.put q.put;
    quiet = all_both BeginsNone p.put q.put p.quiet q.quiet;
    those = filter_both (chosen_in test) p.put q.put ∙ ap (λ l. l ++ (chosen_among test) q.put) p.those ∙ ap (λ l. xs ++ l) q.those;
  }

  pub grows_one : (l : Code) (i : Instr) → IsInner i → Grows test l (l ++ i ∷ []) []
  grows_one l i inner = record { put = i ∷ []; is = refl; quiet = (begins_none i inner, tt); those = ap (λ o. cons_option (chosen_if test o) []) (declares_none i inner) }

  -- ---- what is put

  -- Outside functions sections grew by these variables, and in functions not at all.
  pub record Puts (s after : Sections) (variables : List Variable) : Type 0 where
    pub imports : Grows test s.imports after.imports []
    pub names : Grows test s.names after.names []
    pub decorations : Grows test s.decorations after.decorations []
    pub globals : Grows test s.globals after.globals variables
    pub functions : after.functions ≡ s.functions

  pub puts_then : {r s t : Sections} {xs ys : List Variable} → Puts r s xs → Puts s t ys → Puts r t (xs ++ ys)
  puts_then p q = record {
    imports = grows_then p.imports q.imports;
    names = grows_then p.names q.names;
    decorations = grows_then p.decorations q.decorations;
    globals = grows_then p.globals q.globals;
    functions = q.functions ∙ p.functions;
  }

  pub puts_same : (s : Sections) → Puts s s []
  puts_same s = record { imports = grows_same s.imports; names = grows_same s.names; decorations = grows_same s.decorations; globals = grows_same s.globals; functions = refl }

  declared_by : (decl : Declaration) (variables : List Variable) (s : Sections) → Grows test s.globals (s.globals ++ defining decl (s.last + 1) ∷ []) variables → Puts s (declare decl s).sections variables
  declared_by decl variables s grown = record { imports = grows_same s.imports; names = grows_same s.names; decorations = grows_same s.decorations; globals = grown; functions = refl }

  declares_quiet : (decl : Declaration) → is_inner decl.op ≡ true → (s : Sections) → Puts s (declare decl s).sections []
  declares_quiet decl inner s = declared_by decl [] s (grows_one s.globals (defining decl (s.last + 1)) inner)

  -- a variable is one of them by its class
  pub variable_put : (pointer class : ℕ) (init : Option ℕ) (s : Sections) → Puts s (declare (d.variable pointer class init) s).sections (cons_option (chosen test (record { type = pointer; id = s.last + 1; class = class; initialiser = option_to_list init })) [])
  unfolding form_of
  variable_put pointer class init s =
      let v : Variable = record { type = pointer; id = s.last + 1; class = class; initialiser = option_to_list init } in
      declared_by (d.variable pointer class init) (cons_option (chosen test v) []) s (record { put = defining (d.variable pointer class init) (s.last + 1) ∷ []; is = refl; quiet = (refl, tt); those = refl })

  decorating_inner : (id : ℕ) (member : Option ℕ) (what : ℕ) (literal : Option ℕ) → IsInner (decorating id member what literal)
  decorating_inner id None what literal = refl
  decorating_inner id (Some m) what literal = refl

  naming_inner : (id : ℕ) (member : Option ℕ) (text : List ℕ) → IsInner (naming id member text)
  naming_inner id None text = refl
  naming_inner id (Some m) text = refl

  interns_quiet : (decl : Declaration) → is_inner decl.op ≡ true → (s : Sections) → Puts s (intern decl s).sections []
  unfolding intern
  interns_quiet decl inner s = by (id_of decl s.globals)
    where
      by : (o : Option ℕ) → Puts s (interned_as o decl s).sections []
      by (Some id) = puts_same s
      by None = declares_quiet decl inner s

  -- all but a variable of such a class puts none
  pub quiet_walks : Walks test (λ s after. Puts s after [])
  quiet_walks = record {
    same = puts_same;
    then_ = puts_then;
    takes = λ s. record { imports = grows_same s.imports; names = grows_same s.names; decorations = grows_same s.decorations; globals = grows_same s.globals; functions = refl };
    interns = interns_quiet;
    declares = declares_quiet;
    variable = λ pointer class init other s. subst (Puts s (declare (d.variable pointer class init) s).sections) (ap (λ o. cons_option o []) (cond-false (test class) (Some (record { type = pointer; id = s.last + 1; class = class; initialiser = option_to_list init })) None other)) (variable_put pointer class init s);
    decorates = λ id member what literal s. record { imports = grows_same s.imports; names = grows_same s.names; decorations = grows_one s.decorations (decorating id member what literal) (decorating_inner id member what literal); globals = grows_same s.globals; functions = refl };
    names = λ id member text s. record { imports = grows_same s.imports; names = grows_one s.names (naming id member text) (naming_inner id member text); decorations = grows_same s.decorations; globals = grows_same s.globals; functions = refl };
  }
