-- What each call answers is defined.
use Rattle.std.proofs.Common.{◌≡◌, ℕ, ◌+◌, true, false, List, ◌++◌, Option, Some, None, refl}
use Rattle.std.proofs.lemmas.List.Elements.{Contains-append_left, Contains-append_right, Contains-push}
use Rattle.std.specs.List.{Contains}
use Rattle.std.specs.Prelude.{option_and_then}
use Rattle.gsl_words.specs.declared.module.Instr.{Instr}
use Rattle.gsl_instr.specs.Forms.{form_of}
use Rattle.gsl_instr.specs.Instructions.{read, result_of}
use Rattle.gsl_spv.specs.declared.plain.PlainType.{PlainType}
use Rattle.gsl_spv.specs.declared.plain.PlainType.TheVariants as plain
use Rattle.gsl_spv.specs.declared.plain.PlainConst.{PlainConst}
use Rattle.gsl_spv.specs.declared.plain.PlainConst.TheVariants as of
use Rattle.gsl_spv.specs.Declarations as d
use Rattle.gsl_spv.specs.Declarations.{Declaration, defining}
use Rattle.gsl_spv.specs.Once.{IsOnce}
use Rattle.gsl_spv.specs.Sections.{Sections}
use Rattle.gsl_spv.specs.Calls as calls
use Rattle.gsl_spv.specs.Calls.{Out, declare, intern, strided}
use Rattle.gsl_spv.specs.Growing.{Defines, IsDefined, all_of}
use Rattle.gsl_spv.proofs.Defining.{interned_stands}

-- The instruction of a declaration defines the id.
IsNumbered : Declaration → Type 0
IsNumbered x = (id : ℕ) → option_and_then result_of (read x.op (defining x id).args) ≡ Some id

of_global : (s : Sections) (id : ℕ) (i : Instr) → Contains s.globals i → option_and_then result_of (read i.op i.args) ≡ Some id → Defines (all_of s) id i
of_global s id i h is = record {
  stands = Contains-append_left (s.imports ++ s.names ++ s.decorations ++ s.globals) s.functions i (Contains-append_right (s.imports ++ s.names ++ s.decorations) s.globals i h);
  result = is;
}

of_intern : (x : Declaration) (s : Sections) → IsOnce x → IsNumbered x → IsDefined x (intern x s)
unfolding IsNumbered
of_intern x s once numbered =
    of_global (intern x s).sections (intern x s).id (defining x (intern x s).id) (interned_stands x s once) (numbered (intern x s).id)

of_declare : (x : Declaration) (s : Sections) → IsNumbered x → IsDefined x (declare x s)
unfolding IsNumbered
of_declare x s numbered = of_global (declare x s).sections (s.last + 1) (defining x (s.last + 1)) (Contains-push s.globals (defining x (s.last + 1))) (numbered (s.last + 1))

of_strided : (x : Declaration) (stride : Option ℕ) (s : Sections) → IsNumbered x → IsDefined x (strided stride (declare x s))
unfolding IsNumbered
of_strided x None s numbered = of_declare x s numbered
of_strided x (Some stride) s numbered =
    of_global (strided (Some stride) (declare x s)).sections (s.last + 1) (defining x (s.last + 1)) (Contains-push s.globals (defining x (s.last + 1))) (numbered (s.last + 1))

pub plain_once : (ty : PlainType) → IsOnce (d.plain_type ty)
plain_once plain.Void = record { entry = λ id. refl; interface = λ id. refl }
plain_once plain.Bool = record { entry = λ id. refl; interface = λ id. refl }
plain_once (plain.Int signed) = record { entry = λ id. refl; interface = λ id. refl }
plain_once (plain.Vector component count) = record { entry = λ id. refl; interface = λ id. refl }
plain_once (plain.Pointer class pointee) = record { entry = λ id. refl; interface = λ id. refl }

plain_numbered : (ty : PlainType) → IsNumbered (d.plain_type ty)
unfolding IsNumbered form_of
plain_numbered plain.Void = λ id. refl
plain_numbered plain.Bool = λ id. refl
plain_numbered (plain.Int signed) = λ id. refl
plain_numbered (plain.Vector component count) = λ id. refl
plain_numbered (plain.Pointer class pointee) = λ id. refl

pub constant_once : (what : PlainConst) (truths : ℕ) → IsOnce (calls.constant_by what truths)
constant_once of.True truths = record { entry = λ id. refl; interface = λ id. refl }
constant_once of.False truths = record { entry = λ id. refl; interface = λ id. refl }
constant_once (of.Word ty bits) truths = record { entry = λ id. refl; interface = λ id. refl }
constant_once (of.Null ty) truths = record { entry = λ id. refl; interface = λ id. refl }

constant_numbered : (what : PlainConst) (truths : ℕ) → IsNumbered (calls.constant_by what truths)
unfolding IsNumbered form_of
constant_numbered of.True truths = λ id. refl
constant_numbered of.False truths = λ id. refl
constant_numbered (of.Word ty bits) truths = λ id. refl
constant_numbered (of.Null ty) truths = λ id. refl

pub function_once : (returned : ℕ) (params : List ℕ) → IsOnce (d.function_type returned params)
function_once returned params = record { entry = λ id. refl; interface = λ id. refl }

pub composite_once : (ty : ℕ) (parts : List ℕ) → IsOnce (d.composite ty parts)
composite_once ty parts = record { entry = λ id. refl; interface = λ id. refl }

pub plain_defined : (ty : PlainType) (s : Sections) → IsDefined (d.plain_type ty) (calls.plain_type ty s)
plain_defined ty s = of_intern (d.plain_type ty) s (plain_once ty) (plain_numbered ty)

pub function_defined : (returned : ℕ) (params : List ℕ) (s : Sections) → IsDefined (d.function_type returned params) (calls.function_type returned params s)
unfolding IsNumbered form_of
function_defined returned params s =
    of_intern (d.function_type returned params) s (function_once returned params) (λ id. refl)

pub array_defined : (element length : ℕ) (stride : Option ℕ) (s : Sections) → IsDefined (d.array_type element length) (calls.array_type element length stride s)
unfolding IsNumbered form_of
array_defined element length stride s = of_strided (d.array_type element length) stride s (λ id. refl)

pub runtime_defined : (element stride : ℕ) (s : Sections) → IsDefined (d.runtime_type element) (calls.runtime_type element stride s)
unfolding IsNumbered form_of
runtime_defined element stride s = of_strided (d.runtime_type element) (Some stride) s (λ id. refl)

pub struct_defined : (members : List ℕ) (s : Sections) → IsDefined (d.struct_type members) (calls.struct_type members s)
unfolding IsNumbered form_of
struct_defined members s = of_declare (d.struct_type members) s (λ id. refl)

pub constant_defined : (what : PlainConst) (s : Sections) → IsDefined (calls.constant_by what (calls.plain_type plain.Bool s).id) (calls.constant what s)
constant_defined of.True s = let ty = calls.plain_type plain.Bool s in of_intern (d.truth true ty.id) ty.sections (constant_once of.True ty.id) (constant_numbered of.True ty.id)
constant_defined of.False s = let ty = calls.plain_type plain.Bool s in of_intern (d.truth false ty.id) ty.sections (constant_once of.False ty.id) (constant_numbered of.False ty.id)
constant_defined (of.Word ty bits) s = of_intern (d.word ty bits) s (constant_once (of.Word ty bits) 0) (constant_numbered (of.Word ty bits) 0)
constant_defined (of.Null ty) s = of_intern (d.null ty) s (constant_once (of.Null ty) 0) (constant_numbered (of.Null ty) 0)

pub composite_defined : (ty : ℕ) (parts : List ℕ) (s : Sections) → IsDefined (d.composite ty parts) (calls.composite ty parts s)
unfolding IsNumbered form_of
composite_defined ty parts s = of_intern (d.composite ty parts) s (composite_once ty parts) (λ id. refl)

pub global_defined : (pointer class : ℕ) (init : Option ℕ) (s : Sections) → IsDefined (d.variable pointer class init) (calls.global pointer class init s)
unfolding IsNumbered form_of
global_defined pointer class init s = of_declare (d.variable pointer class init) s (λ id. refl)
