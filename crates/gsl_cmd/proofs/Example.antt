-- The meanings of small shaders and of their modules, computed.
use Rattle.std.specs.Prelude.{◌≡◌, ℕ, false, List, [], ◌∷◌, codes, None, Ok, Err}
use Rattle.std.proofs.Common.{inr, refl, arith}
use Rattle.gsl_base.specs.declared.input.Buffer.{Buffer}
use Rattle.gsl_base.specs.declared.input.Input.{Input}
use Rattle.gsl_base.specs.declared.input.Output.{Output}
use Rattle.gsl_base.specs.declared.input.InputRefusal.TheVariants.{NoBuffer, TooShort, BadIds}
use Rattle.gsl_form.specs.declared.program.Term.TheVariants.{Member, Literal}
use Rattle.gsl_form.specs.declared.program.Statement.{Statement}
use Rattle.gsl_form.specs.declared.program.Program.{Program}
use Rattle.gsl_cmd.specs.Lowering.{module_of}
use Rattle.gsl_cmd.specs.Words.{word_sum}
use Rattle.gsl_words.specs.Words.{word_at, put_word}
use Rattle.gsl_cmd.specs.Fits.{fits, fits_module}
use Rattle.gsl_base.specs.Proper.{StandsBefore}
use Rattle.gsl_cmd.specs.Carries.{IsFitting}
use Rattle.gsl_cmd.specs.Shader as shader
use Rattle.gsl_cmd.specs.Machine as machine

-- two members, and these statements
abbrev program : List Statement → Program
program statements = record { members = codes "a" ∷ codes "b" ∷ []; statements = statements }

abbrev input_of : List Buffer → Input
input_of buffers = record {
  buffers = buffers;
  push = None;
  ins = [];
  group = 0 ∷ 0 ∷ 0 ∷ [];
  local = 0 ∷ 0 ∷ 0 ∷ [];
  groups = 1 ∷ 1 ∷ 1 ∷ [];
  vertex = 0;
  instance = 0;
  choices = 5 ∷ 6 ∷ [];
}

abbrev buffer : ℕ → List ℕ → Buffer
buffer binding bytes = record { set = 0; binding = binding; bytes = bytes }

abbrev output_of : List Buffer → Output
output_of buffers = record { buffers = buffers; outs = []; killed = false; rest = 2 }

-- `a = b + 1;`
abbrev b_and_one : Program
b_and_one = program (record { target = 0; terms = Member 1 ∷ Literal 1 ∷ [] } ∷ [])

-- the words 7 and 0xffffffff, a tail of one byte, and another buffer
abbrev before : Input
before = input_of (buffer 0 (7 ∷ 0 ∷ 0 ∷ 0 ∷ 255 ∷ 255 ∷ 255 ∷ 255 ∷ 9 ∷ []) ∷ buffer 3 (1 ∷ []) ∷ [])

abbrev after : Output
after = output_of (buffer 0 (0 ∷ 0 ∷ 0 ∷ 0 ∷ 255 ∷ 255 ∷ 255 ∷ 255 ∷ 9 ∷ []) ∷ buffer 3 (1 ∷ []) ∷ [])

shader_adds : shader.shader b_and_one 0 before ≡ shader.Ended after
unfolding word_sum word_at put_word
shader_adds = refl

-- seven instructions: Label, AccessChain, Load, IAdd, AccessChain, Store, Return
module_adds : machine.after (module_of b_and_one) 7 before ≡ machine.Ended after
unfolding word_sum word_at put_word
module_adds = refl

-- `b = b;` and `a = 2147483647 + 2147483647;`
abbrev itself_and_great : Program
itself_and_great =
    program (record { target = 1; terms = Member 1 ∷ [] } ∷ record { target = 0; terms = Literal 2147483647 ∷ Literal 2147483647 ∷ [] } ∷ [])

abbrev after_great : Output
after_great = output_of (buffer 0 (254 ∷ 255 ∷ 255 ∷ 255 ∷ 255 ∷ 255 ∷ 255 ∷ 255 ∷ 9 ∷ []) ∷ buffer 3 (1 ∷ []) ∷ [])

shader_wraps : shader.shader itself_and_great 0 before ≡ shader.Ended after_great
unfolding word_sum word_at put_word
shader_wraps = refl

module_wraps : machine.after (module_of itself_and_great) 20 before ≡ machine.Ended after_great
unfolding word_sum word_at put_word
module_wraps = refl

in_order : StandsBefore (buffer 0 (7 ∷ 0 ∷ 0 ∷ 0 ∷ 255 ∷ 255 ∷ 255 ∷ 255 ∷ 9 ∷ [])) (buffer 3 (1 ∷ []))
in_order = inr (refl, omega arith)

-- an input that serves, one without the buffer, one with seven bytes in it, and one of an invocation past its work group
shader_takes : fits b_and_one before ≡ Ok tt
shader_takes = refl

module_takes : fits_module (module_of b_and_one) before ≡ Ok tt
module_takes = refl

before_fits : IsFitting b_and_one before
before_fits = record {
  proper = record { buffers = ((in_order, tt), (tt, tt)); ins = tt; comps = tt };
  types = record {
    buffers = (
      record { set = omega arith; binding = omega arith; bytes = (omega arith, (omega arith, (omega arith, (omega arith, (omega arith, (omega arith, (omega arith, (omega arith, (omega arith, tt))))))))) },
      (record { set = omega arith; binding = omega arith; bytes = (omega arith, tt) }, tt),
    );
    push = λ bytes e. absurd (cc);
    ins = tt;
    group = (refl, (omega arith, (omega arith, (omega arith, tt))));
    local = (refl, (omega arith, (omega arith, (omega arith, tt))));
    groups = (refl, (omega arith, (omega arith, (omega arith, tt))));
    vertex = omega arith;
    instance = omega arith;
    choices = (omega arith, (omega arith, tt));
  };
  fits = refl;
}

shader_wants : fits b_and_one (input_of (buffer 3 (1 ∷ []) ∷ [])) ≡ Err (NoBuffer 0 0)
shader_wants = refl

module_wants : fits_module (module_of b_and_one) (input_of (buffer 3 (1 ∷ []) ∷ [])) ≡ Err (NoBuffer 0 0)
module_wants = refl

abbrev short : Input
short = input_of (buffer 0 (7 ∷ 0 ∷ 0 ∷ 0 ∷ 1 ∷ 2 ∷ 3 ∷ []) ∷ [])

shader_wants_more : fits b_and_one short ≡ Err (TooShort 0 0)
shader_wants_more = refl

module_wants_more : fits_module (module_of b_and_one) short ≡ Err (TooShort 0 0)
module_wants_more = refl

module_refuses : fits_module (module_of b_and_one) (record before { local = 0 ∷ 1 ∷ 0 ∷ [] }) ≡ Err BadIds
module_refuses = refl
