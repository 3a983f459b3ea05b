-- Steps of a builder, one behind the other.
use Rattle.std.proofs.Common.{refl, sym, ap, ◌∙◌, ℕ, ◌+◌, Bool, true, false, List, [], ◌∷◌, ◌++◌, Option, Some, None, append_assoc, append-nil, if◌then◌else◌}
use Rattle.std.specs.Prelude.{◌≡◌, nat_le}
use Rattle.std.specs.List.{AllByRecursion}
use Rattle.gsl_words.specs.declared.module.Instr.{Instr}
use Rattle.gsl_valid.specs.Placed.{Code}
use Rattle.gsl_spv.specs.Calls as call
use Rattle.gsl_spv.specs.Calls.{Out, intern}
use Rattle.gsl_spv.specs.Declarations as declarations
use Rattle.gsl_spv.specs.Declarations.{Declaration, defining, instr}
use Rattle.gsl_spv.specs.Once.{id_of}
use Rattle.gsl_spv.specs.Sections.{Sections}
use Rattle.gsl_spv.specs.declared.plain.PlainConst.{PlainConst}
use Rattle.gsl_spv.specs.declared.plain.PlainType.{PlainType}
use Rattle.gsl_spv.specs.declared.plain.PlainConst.TheVariants as of
use Rattle.gsl_spv.specs.declared.plain.PlainType.TheVariants as plain
use Rattle.gsl_spv.specs.declared.refusal.TheConstants.{MOST_IDS}
use Rattle.gsl_spv.proofs.Extending.{extends_glsl_set, extends_same, extends_take, extends_then}
use Rattle.gsl_lower_values.specs.Building.{Built, Made, Full, Step, behind, given, giving, id_by, in_order, putting, within, ◌>>=◌}
use Rattle.gsl_lower_law.proofs.Adding.{extends_intern, extends_put, intern_functions}
use Rattle.gsl_lower_law_inner.specs.Inner.{AllBuild, BuildsInner, BuildsTo, GrowsInner, IsInner, KeepsOutside, is_inner}

-- ---- inner code

pub all_append : (code more : Code) → AllByRecursion IsInner code → AllByRecursion IsInner more → AllByRecursion IsInner (code ++ more)
all_append [] more p q = q
all_append (i ∷ code) more p q = (p.0, all_append code more p.1 q)

grows_same : (code : Code) → GrowsInner code code
grows_same code = record { put = []; is = sym (append-nil code); inner = tt }

grows_one : (code : Code) (i : Instr) → IsInner i → GrowsInner code (code ++ i ∷ [])
grows_one code i inner = record { put = i ∷ []; is = refl; inner = (inner, tt) }

grows_then : {a b c : Code} → GrowsInner a b → GrowsInner b c → GrowsInner a c
grows_then {a} {b} {c} p q = record { put = p.put ++ q.put; is = q.is ∙ ap (λ l. l ++ q.put) p.is ∙ append_assoc a p.put q.put; inner = all_append p.put q.put p.inner q.inner }

pub outside_same : (s : Sections) → KeepsOutside s s
outside_same s = record { imports = grows_same s.imports; names = grows_same s.names; decorations = grows_same s.decorations; globals = grows_same s.globals }

pub outside_then : {a b c : Sections} → KeepsOutside a b → KeepsOutside b c → KeepsOutside a c
outside_then p q = record { imports = grows_then p.imports q.imports; names = grows_then p.names q.names; decorations = grows_then p.decorations q.decorations; globals = grows_then p.globals q.globals }

outside_intern : (d : Declaration) → is_inner d.op ≡ true → (s : Sections) → KeepsOutside s (call.intern d s).sections
unfolding intern
outside_intern d inner s = by (id_of d s.globals)
  where
    by : (found : Option ℕ) → KeepsOutside s (call.known found d s).sections
    by (Some id) = outside_same s
    by None = record { imports = grows_same s.imports; names = grows_same s.names; decorations = grows_same s.decorations; globals = grows_one s.globals (defining d (s.last + 1)) inner }

inner_same : (s : Sections) → BuildsInner s s
inner_same s = record { extends = extends_same s; put = []; is = sym (append-nil s.functions); inner = tt; outside = outside_same s }

inner_then : {a b c : Sections} → BuildsInner a b → BuildsInner b c → BuildsInner a c
inner_then {a} {b} {c} p q = record {
  extends = extends_then p.extends q.extends;
  put = p.put ++ q.put;
  is = q.is ∙ ap (λ l. l ++ q.put) p.is ∙ append_assoc a.functions p.put q.put;
  inner = all_append p.put q.put p.inner q.inner;
  outside = outside_then p.outside q.outside;
}

inner_put : (code : ℕ) (operands : List ℕ) (s : Sections) → is_inner code ≡ true → BuildsInner s (call.put code operands s)
inner_put code operands s is = record { extends = extends_put code operands s; put = instr code operands ∷ []; is = refl; inner = (is, tt); outside = record { imports = grows_same s.imports; names = grows_same s.names; decorations = grows_same s.decorations; globals = grows_same s.globals } }

inner_intern : (d : Declaration) → is_inner d.op ≡ true → (s : Sections) → BuildsInner s (call.intern d s).sections
inner_intern d inner s = record { extends = extends_intern d s; put = []; is = intern_functions d s ∙ sym (append-nil s.functions); inner = tt; outside = outside_intern d inner s }

-- a declaration behind that of the type of truth values
inner_truth : (value : Bool) (s : Sections) → BuildsInner s (call.truth value s).sections
inner_truth true s = inner_then (inner_intern (declarations.plain_type plain.Bool) refl s) (inner_intern (declarations.truth true (call.plain_type plain.Bool s).id) refl (call.plain_type plain.Bool s).sections)
inner_truth false s = inner_then (inner_intern (declarations.plain_type plain.Bool) refl s) (inner_intern (declarations.truth false (call.plain_type plain.Bool s).id) refl (call.plain_type plain.Bool s).sections)

inner_import : (s : Sections) → BuildsInner s (call.glsl_set s).sections
inner_import s = record { extends = extends_glsl_set s; put = []; is = by (call.imported s.imports) ∙ sym (append-nil s.functions); inner = tt; outside = imported (call.imported s.imports) }
  where
    imported : (found : Option ℕ) → KeepsOutside s (call.with_import found s).sections
    imported (Some id) = outside_same s
    imported None = record { imports = grows_one s.imports (call.importing (s.last + 1)) refl; names = grows_same s.names; decorations = grows_same s.decorations; globals = grows_same s.globals }

    by : (found : Option ℕ) → (call.with_import found s).sections.functions ≡ s.functions
    by (Some id) = refl
    by None = refl

-- ---- steps

pub builds_given : {A : Type 0} {a : A} → AllBuild (given a)
builds_given = record { all = λ s. inner_same s }

builds_behind : {A B : Type 0} (s : Sections) (built : Built A) (next : A → Step B) → BuildsTo s built → ((a : A) → AllBuild (next a)) → BuildsTo s (behind built next)
builds_behind s Full next p q = tt
builds_behind {A} {B} s (Made a between) next p q = by (next a between) ((q a).all between)
  where
    by : (second : Built B) → BuildsTo between second → BuildsTo s second
    by Full g = tt
    by (Made c after) g = inner_then p g

pub builds_then : {A B : Type 0} {first : Step A} {next : A → Step B} → AllBuild first → ((a : A) → AllBuild (next a)) → AllBuild (first >>= next)
builds_then {A} {B} {first} {next} p q = record { all = λ s. builds_behind s (first s) next (p.all s) q }

pub builds_if : {A : Type 0} {one other : Step A} (test : Bool) → AllBuild one → AllBuild other → AllBuild (if test then one else other)
builds_if true p q = p
builds_if false p q = q

-- an id that a call of the builder gives
pub builds_id : (ask : Sections → Out) → ((s : Sections) → BuildsInner s (ask s).sections) → AllBuild (id_by ask)
builds_id ask p = record { all = λ s. by s (ask s) (p s) }
  where
    fits : (s : Sections) (o : Out) (b : Bool) → BuildsInner s o.sections → BuildsTo s (if b then Made o.id o.sections else Full)
    fits s o true g = g
    fits s o false g = tt

    by : (s : Sections) (o : Out) → BuildsInner s o.sections → BuildsTo s (within o)
    by s o g = fits s o (nat_le o.sections.last MOST_IDS) g

pub builds_taken : AllBuild (id_by call.take)
builds_taken = builds_id call.take (λ s. record { extends = extends_take s; put = []; is = sym (append-nil s.functions); inner = tt; outside = record { imports = grows_same s.imports; names = grows_same s.names; decorations = grows_same s.decorations; globals = grows_same s.globals } })

builds_declared : (d : Declaration) → is_inner d.op ≡ true → AllBuild (id_by (call.intern d))
builds_declared d inner = builds_id (call.intern d) (inner_intern d inner)

pub builds_plain : (ty : PlainType) → AllBuild (id_by (call.plain_type ty))
builds_plain plain.Void = builds_declared (declarations.plain_type plain.Void) refl
builds_plain plain.Bool = builds_declared (declarations.plain_type plain.Bool) refl
builds_plain (plain.Int signed) = builds_declared (declarations.plain_type (plain.Int signed)) refl
builds_plain (plain.Vector component count) = builds_declared (declarations.plain_type (plain.Vector component count)) refl
builds_plain (plain.Pointer class pointee) = builds_declared (declarations.plain_type (plain.Pointer class pointee)) refl

pub builds_composite : (type : ℕ) (parts : List ℕ) → AllBuild (id_by (call.composite type parts))
builds_composite type parts = builds_declared (declarations.composite type parts) refl

pub builds_function : (returned : ℕ) (parameters : List ℕ) → AllBuild (id_by (call.function_type returned parameters))
builds_function returned parameters = builds_declared (declarations.function_type returned parameters) refl

pub builds_constant : (c : PlainConst) → AllBuild (id_by (call.constant c))
builds_constant of.True = builds_id (call.constant of.True) (inner_truth true)
builds_constant of.False = builds_id (call.constant of.False) (inner_truth false)
builds_constant (of.Word type bits) = builds_declared (declarations.word type bits) refl
builds_constant (of.Null type) = builds_declared (declarations.null type) refl

pub builds_import : AllBuild (id_by call.glsl_set)
builds_import = builds_id call.glsl_set inner_import

pub builds_putting : (code : ℕ) (operands : List ℕ) → is_inner code ≡ true → AllBuild (putting code operands)
builds_putting code operands is = record { all = λ s. inner_put code operands s is }

pub builds_giving : (code : ℕ) (operands : List ℕ) (type : ℕ) → is_inner code ≡ true → AllBuild (giving code operands type)
unfolding giving
builds_giving code operands type is = builds_then builds_taken (λ id. record { all = λ s. inner_put code (type ∷ id ∷ operands) s is })

pub builds_order : {A : Type 0} (step : A → Step ℕ) (items : List A) → ((a : A) → AllBuild (step a)) → AllBuild (in_order step items)
unfolding in_order
builds_order step [] p = builds_given
builds_order step (a ∷ items) p = builds_then (p a) (λ id. builds_then (builds_order step items p) (λ ids. builds_given))
