-- The words of directives.
use Rattle.std.specs.Prelude.{ℕ, Bool, true, false, ◌||◌, codes, is_some, List, Option, Some, None, if◌then◌else◌}
use Rattle.std.specs.Str.{bytes_eq}
use Rattle.gsl_base.specs.Prefix.{after}
use Rattle.gsl_base.specs.declared.token.Punct.{Punct}
use Rattle.gsl_base.specs.declared.token.Punct.TheVariants.{Hash, Colon}
use Rattle.gsl_base.specs.declared.token.RawKind.{RawKind}
use Rattle.gsl_macros.specs.Spelling.{punct_of}
use Rattle.gsl_pp.specs.declared.word.Conditional.{Conditional}
use Rattle.gsl_pp.specs.declared.word.Conditional.TheVariants.{If, Ifdef, Ifndef, Elif, Else, Endif}
use Rattle.gsl_pp.specs.declared.word.Other.{Other}
use Rattle.gsl_pp.specs.declared.word.Other.TheVariants.{Define, Undef, Error, Pragma, Extension, Version, Line}

abbrev pub is_text : List ℕ → Option (List ℕ) → Bool
is_text text None = false
is_text text (Some word) = bytes_eq word text

abbrev pub is_hash_punct : Punct → Bool
is_hash_punct Hash = true
is_hash_punct _ = false

abbrev pub is_hash_on : Option Punct → Bool
is_hash_on None = false
is_hash_on (Some punct) = is_hash_punct punct

-- whether the token is `#`
abbrev pub is_hash : RawKind → Bool
is_hash kind = is_hash_on (punct_of kind)

abbrev pub is_colon_punct : Punct → Bool
is_colon_punct Colon = true
is_colon_punct _ = false

abbrev pub is_colon_on : Option Punct → Bool
is_colon_on None = false
is_colon_on (Some punct) = is_colon_punct punct

abbrev pub is_colon : RawKind → Bool
is_colon kind = is_colon_on (punct_of kind)

-- the directive of groups that a word names
unfoldable pub conditional_of : List ℕ → Option Conditional
conditional_of word =
    if bytes_eq word (codes "if") then Some If else (if bytes_eq word (codes "ifdef") then Some Ifdef else (if bytes_eq word (codes "ifndef") then Some Ifndef
    else (if bytes_eq word (codes "elif") then Some Elif else (if bytes_eq word (codes "else") then Some Else else (if bytes_eq word (codes "endif") then Some Endif else None)))))

-- another directive that a word names
unfoldable pub other_of : List ℕ → Option Other
other_of word =
    if bytes_eq word (codes "define") then Some Define else (if bytes_eq word (codes "undef") then Some Undef else (if bytes_eq word (codes "error") then Some Error
    else (if bytes_eq word (codes "pragma") then Some Pragma else (if bytes_eq word (codes "extension") then Some Extension
    else (if bytes_eq word (codes "version") then Some Version else (if bytes_eq word (codes "line") then Some Line else None))))))

-- whether a macro may not have the name
abbrev pub is_reserved : List ℕ → Bool
is_reserved name =
    is_some (after (codes "GL_") name) || bytes_eq name (codes "defined") || bytes_eq name (codes "__LINE__") || bytes_eq name (codes "__FILE__") || bytes_eq name (codes "__VERSION__")
