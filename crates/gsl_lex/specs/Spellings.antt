-- The punctuators and the keywords of the language with their spellings, as data (GLSL 4.50, chapter 9 and 3.6).
use Rattle.std.specs.Prelude.{ℕ, List, [], ◌∷◌, codes}
use Rattle.gsl_base.specs.declared.token.Key.{Key}
use Rattle.gsl_base.specs.declared.token.Key.TheVariants as key
use Rattle.gsl_base.specs.declared.token.Punct.{Punct}
use Rattle.gsl_base.specs.declared.token.Punct.TheVariants as punct

-- the punctuators; `#` is one of the preprocessor (3.3)
unfoldable pub puncts : List (List ℕ × Punct)
puncts =
    (codes "(", punct.LeftParen) ∷
    (codes ")", punct.RightParen) ∷
    (codes "[", punct.LeftBracket) ∷
    (codes "]", punct.RightBracket) ∷
    (codes "{", punct.LeftBrace) ∷
    (codes "}", punct.RightBrace) ∷
    (codes ".", punct.Dot) ∷
    (codes ",", punct.Comma) ∷
    (codes ";", punct.Semicolon) ∷
    (codes ":", punct.Colon) ∷
    (codes "?", punct.Question) ∷
    (codes "++", punct.IncOp) ∷
    (codes "--", punct.DecOp) ∷
    (codes "+", punct.Plus) ∷
    (codes "-", punct.Dash) ∷
    (codes "~", punct.Tilde) ∷
    (codes "!", punct.Bang) ∷
    (codes "*", punct.Star) ∷
    (codes "/", punct.Slash) ∷
    (codes "%", punct.Percent) ∷
    (codes "<<", punct.LeftOp) ∷
    (codes ">>", punct.RightOp) ∷
    (codes "<", punct.LeftAngle) ∷
    (codes ">", punct.RightAngle) ∷
    (codes "<=", punct.LeOp) ∷
    (codes ">=", punct.GeOp) ∷
    (codes "==", punct.EqOp) ∷
    (codes "!=", punct.NeOp) ∷
    (codes "&", punct.Ampersand) ∷
    (codes "^", punct.Caret) ∷
    (codes "|", punct.VerticalBar) ∷
    (codes "&&", punct.AndOp) ∷
    (codes "^^", punct.XorOp) ∷
    (codes "||", punct.OrOp) ∷
    (codes "=", punct.Equal) ∷
    (codes "+=", punct.AddAssign) ∷
    (codes "-=", punct.SubAssign) ∷
    (codes "*=", punct.MulAssign) ∷
    (codes "/=", punct.DivAssign) ∷
    (codes "%=", punct.ModAssign) ∷
    (codes "<<=", punct.LeftAssign) ∷
    (codes ">>=", punct.RightAssign) ∷
    (codes "&=", punct.AndAssign) ∷
    (codes "^=", punct.XorAssign) ∷
    (codes "|=", punct.OrAssign) ∷
    (codes "#", punct.Hash) ∷
    []

-- the keywords of the profile
unfoldable pub keywords : List (List ℕ × Key)
keywords =
    (codes "const", key.Const) ∷
    (codes "uniform", key.Uniform) ∷
    (codes "buffer", key.Buffer) ∷
    (codes "in", key.In) ∷
    (codes "out", key.Out) ∷
    (codes "inout", key.Inout) ∷
    (codes "layout", key.Layout) ∷
    (codes "flat", key.Flat) ∷
    (codes "coherent", key.Coherent) ∷
    (codes "volatile", key.Volatile) ∷
    (codes "restrict", key.Restrict) ∷
    (codes "readonly", key.Readonly) ∷
    (codes "writeonly", key.Writeonly) ∷
    (codes "struct", key.Struct) ∷
    (codes "void", key.Void) ∷
    (codes "bool", key.Bool) ∷
    (codes "int", key.Int) ∷
    (codes "uint", key.Uint) ∷
    (codes "bvec2", key.Bvec2) ∷
    (codes "bvec3", key.Bvec3) ∷
    (codes "bvec4", key.Bvec4) ∷
    (codes "ivec2", key.Ivec2) ∷
    (codes "ivec3", key.Ivec3) ∷
    (codes "ivec4", key.Ivec4) ∷
    (codes "uvec2", key.Uvec2) ∷
    (codes "uvec3", key.Uvec3) ∷
    (codes "uvec4", key.Uvec4) ∷
    (codes "if", key.If) ∷
    (codes "else", key.Else) ∷
    (codes "switch", key.Switch) ∷
    (codes "case", key.Case) ∷
    (codes "default", key.Default) ∷
    (codes "while", key.While) ∷
    (codes "do", key.Do) ∷
    (codes "for", key.For) ∷
    (codes "break", key.Break) ∷
    (codes "continue", key.Continue) ∷
    (codes "discard", key.Discard) ∷
    (codes "return", key.Return) ∷
    (codes "true", key.True) ∷
    (codes "false", key.False) ∷
    []
