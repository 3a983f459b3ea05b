-- The lines that tell why a module was not run to its end.
use Rattle.std.specs.Prelude.{ℕ, List, [], ◌++◌, codes}
use Rattle.std.specs.Fmt.{decimal}
use Rattle.gsl_words.specs.declared.fault.WordFault.{WordFault}
use Rattle.gsl_words.specs.declared.fault.WordFault.TheVariants.{NotWhole, BigEndian, BadMagic, BadHeader, UnknownOpcode, BadCount, BadString, Memory}

-- the outside failed
abbrev pub host_text : List ℕ
host_text = codes "ERROR: host\n"

-- the module's file is too long
abbrev pub module_long_text : List ℕ
module_long_text = codes "MODULE: too long\n"

-- what is wrong with the module's file
abbrev pub word_text : WordFault → List ℕ
word_text NotWhole = codes "MODULE: NotWhole\n"
word_text BigEndian = codes "MODULE: BigEndian\n"
word_text BadMagic = codes "MODULE: BadMagic\n"
word_text BadHeader = codes "MODULE: BadHeader\n"
word_text (UnknownOpcode at) = codes "MODULE: UnknownOpcode " ++ decimal at ++ codes "\n"
word_text (BadCount at) = codes "MODULE: BadCount " ++ decimal at ++ codes "\n"
word_text (BadString at) = codes "MODULE: BadString " ++ decimal at ++ codes "\n"
word_text Memory = []

-- which rule the module breaks, and at which word
abbrev pub broken_text : ℕ × ℕ → List ℕ
broken_text (rule, at) = codes "MODULE: V" ++ decimal rule ++ codes " " ++ decimal at ++ codes "\n"

-- the run still goes on after the manifest's steps
abbrev pub going_text : List ℕ
going_text = codes "steps used up\n"

-- an index of the instruction at this word was out of bounds
abbrev pub strayed_text : ℕ → List ℕ
strayed_text at = codes "strayed at word " ++ decimal at ++ codes "\n"
