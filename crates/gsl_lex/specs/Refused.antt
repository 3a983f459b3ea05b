-- The words that the profile refuses, as data (GLSL 4.50, 3.6, 7.1, 8.11, 8.16 and 8.17).
use Rattle.std.specs.Prelude.{ℕ, ◌==◌, if◌then◌else◌, List, [], ◌∷◌, ◌++◌, map, codes}
use Rattle.gsl_lex.specs.Ascii.{space}

-- a byte in front of the first word
abbrev pub onto : ℕ → List (List ℕ) → List (List ℕ)
onto a [] = (a ∷ []) ∷ []
onto a (word ∷ words) = (a ∷ word) ∷ words

-- the words of a text that has one space between two of them
abbrev pub split : List ℕ → List (List ℕ)
split [] = [] ∷ []
split (a ∷ text) = if a == space then [] ∷ split text else onto a (split text)

-- each of the first texts with each of the second behind it
abbrev pub joined : List (List ℕ) → List (List ℕ) → List (List ℕ)
joined [] tails = []
joined (head ∷ heads) tails = map (λ tail. head ++ tail) tails ++ joined heads tails

-- types with names of their own (3.6; Vulkan GLSL has some more)
unfoldable pub other_types : List (List ℕ)
other_types =
    split (codes "float double vec2 vec3 vec4 dvec2 dvec3 dvec4 atomic_uint subpassInput isubpassInput usubpassInput") ++
    split (codes "subpassInputMS isubpassInputMS usubpassInputMS sampler samplerShadow")

-- other keywords in use (3.6)
unfoldable pub other_keywords : List (List ℕ)
other_keywords =
    split (codes "attribute varying shared centroid smooth noperspective patch sample subroutine invariant precise lowp mediump") ++
    split (codes "highp precision")

-- keywords that are reserved for later use (3.6)
unfoldable pub reserved : List (List ℕ)
reserved =
    split (codes "common partition active asm class union enum typedef template this resource goto inline noinline public static") ++
    split (codes "extern external interface long short half fixed unsigned superp input output hvec2 hvec3 hvec4 fvec2 fvec3") ++
    split (codes "fvec4 sampler3DRect filter sizeof cast namespace using")

-- built-in functions that the profile lacks (8.11, 8.16 and 8.17)
unfoldable pub functions : List (List ℕ)
functions =
    split (codes "barrier memoryBarrier memoryBarrierBuffer memoryBarrierShared memoryBarrierImage memoryBarrierAtomicCounter") ++
    split (codes "groupMemoryBarrier atomicAdd atomicMin atomicMax atomicAnd atomicOr atomicXor atomicExchange atomicCompSwap")

-- built-in variables that the profile lacks (7.1)
unfoldable pub variables : List (List ℕ)
variables =
    split (codes "gl_Position gl_PointSize gl_ClipDistance gl_CullDistance gl_FragCoord gl_FrontFacing gl_PointCoord") ++
    split (codes "gl_FragDepth gl_SampleID gl_SamplePosition gl_SampleMask gl_SampleMaskIn gl_PrimitiveID gl_Layer") ++
    split (codes "gl_ViewportIndex gl_HelperInvocation gl_VertexID gl_InstanceID")

-- how the names of matrix types begin (3.6)
unfoldable pub matrices : List (List ℕ)
matrices = split (codes "mat dmat")

-- and how they go on
unfoldable pub matrix_sizes : List (List ℕ)
matrix_sizes = split (codes "2 3 4 2x2 2x3 2x4 3x2 3x3 3x4 4x2 4x3 4x4")

-- how the names of sampler, texture and image types begin (3.6)
unfoldable pub opaques : List (List ℕ)
opaques = split (codes "sampler isampler usampler texture itexture utexture image iimage uimage")

-- and how they go on
unfoldable pub opaque_kinds : List (List ℕ)
opaque_kinds = split (codes "1D 2D 3D Cube 2DRect 1DArray 2DArray CubeArray Buffer 2DMS 2DMSArray")

-- how the names of types of shadow samplers begin (3.6)
unfoldable pub shadow_samplers : List (List ℕ)
shadow_samplers = split (codes "sampler")

-- and how they go on
unfoldable pub shadow_kinds : List (List ℕ)
shadow_kinds = split (codes "1DShadow 2DShadow CubeShadow 2DRectShadow 1DArrayShadow 2DArrayShadow CubeArrayShadow")

-- the words that stand alone
abbrev pub alone : List (List ℕ)
alone = other_types ++ (other_keywords ++ (reserved ++ (functions ++ variables)))

-- all refused words
unfoldable pub refused : List (List ℕ)
refused = alone ++ (joined matrices matrix_sizes ++ (joined opaques opaque_kinds ++ joined shadow_samplers shadow_kinds))
