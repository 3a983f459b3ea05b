-- Declarations that are against earlier ones, found by tables: only declarations of one name, and push constant blocks, can be. Functions of
-- one name are overloads, so their heads stand in a table of their own.
use Rattle.std.specs.Prelude.{ℕ, Bool, true, false, not, ◌&&◌, ◌||◌, nat_eq, bytes_eq, List, [], ◌∷◌, ◌++◌, is_some, if◌then◌else◌}
use Rattle.std.specs.List.{list_any}
use Rattle.indexmap.specs.IndexSet.{insert_key}
use Rattle.gsl_base.specs.declared.fault.Place.{Place}
use Rattle.gsl_types.specs.declared.ty.StructType.{StructType}
use Rattle.gsl_tree.specs.declared.unit.Block.{Block}
use Rattle.gsl_tree.specs.declared.unit.GlobalVar.{GlobalVar}
use Rattle.gsl_tree.specs.declared.unit.Interface.{Interface}
use Rattle.gsl_tree.specs.declared.unit.Prototype.{Prototype}
use Rattle.gsl_tree.specs.WellTyped.{is_push}
use Rattle.gsl_link_units.specs.Declarations.{Side}
use Rattle.gsl_link_units.specs.Agreement.{both_or_neither, agree_variables, agree_interfaces, agree_functions, same_kind, agree_members, offsets_of}
use Rattle.gsl_link_structs.specs.Keys.{head_words}
use Rattle.gsl_link_names.specs.declared.lent.Named.{Named}
use Rattle.gsl_link_names.specs.declared.lent.Named.TheVariants as named
use Rattle.gsl_link_names.specs.Rows.{row_of, with_one}

-- ---- tables

abbrev pub NamedRows : Type 0
NamedRows = List (List ℕ × List Named)

abbrev pub HeadRows : Type 0
HeadRows = List (List ℕ × List Prototype)

-- a block with the offsets of its members
abbrev pub laid : List StructType → Block → Named
laid structs block = named.Block block (offsets_of structs block)

abbrev pub with_variable : NamedRows → GlobalVar → NamedRows
with_variable rows g = if g.constant then rows else with_one rows g.name (named.Variable g)

abbrev pub with_variables : NamedRows → List GlobalVar → NamedRows
with_variables rows [] = rows
with_variables rows (g ∷ globals) = with_variables (with_variable rows g) globals

abbrev pub with_interfaces : NamedRows → List Interface → NamedRows
with_interfaces rows [] = rows
with_interfaces rows (i ∷ interfaces) = with_interfaces (with_one rows i.name (named.Interface i)) interfaces

abbrev pub with_blocks : List StructType → NamedRows → List Block → NamedRows
with_blocks structs rows [] = rows
with_blocks structs rows (block ∷ blocks) = with_blocks structs (with_one rows block.name (laid structs block)) blocks

-- the names of push constant blocks
abbrev pub with_push : List (List ℕ) → Block → List (List ℕ)
with_push pushes block = if is_push block.kind then pushes ++ block.name ∷ [] else pushes

abbrev pub with_pushes : List (List ℕ) → List Block → List (List ℕ)
with_pushes pushes [] = pushes
with_pushes pushes (block ∷ blocks) = with_pushes (with_push pushes block) blocks

abbrev pub with_heads : HeadRows → List Prototype → HeadRows
with_heads rows [] = rows
with_heads rows (p ∷ heads) = with_heads (with_one rows (head_words p) p) heads

-- the names of functions
abbrev pub with_functions : List (List ℕ) → List Prototype → List (List ℕ)
with_functions names [] = names
with_functions names (p ∷ heads) = with_functions (insert_key bytes_eq names p.name) heads

-- the declarations of a unit but those of functions
abbrev pub with_unit : List StructType → NamedRows → Side → NamedRows
with_unit structs rows side = with_blocks structs (with_interfaces (with_variables rows side.unit.globals) side.unit.interfaces) side.unit.blocks

-- ---- agreement

abbrev pub same_form : Block → Block → Bool
same_form a b =
    same_kind a.kind b.kind && nat_eq a.set b.set && nat_eq a.binding b.binding && both_or_neither a.std140 b.std140
    && both_or_neither (is_some a.instance) (is_some b.instance)

-- blocks agree, where their offsets are known
abbrev pub agree_laid : Block → List ℕ → Block → List ℕ → Bool
agree_laid a offsets b others = same_form a b && agree_members a.members b.members && bytes_eq offsets others

abbrev pub agree_named : Named → Named → Bool
agree_named (named.Variable a) (named.Variable b) = agree_variables a b
agree_named (named.Interface a) (named.Interface b) = agree_interfaces a b
agree_named (named.Block a offsets) (named.Block b others) = agree_laid a offsets b others
agree_named _ _ = false

abbrev pub is_other : Named → List Named → Bool
is_other x row = list_any (λ other. not (agree_named x other)) row

abbrev pub is_other_head : Prototype → List Prototype → Bool
is_other_head p row = list_any (λ other. not (agree_functions p other)) row

abbrev pub has_other : List (List ℕ) → List ℕ → Bool
has_other pushes name = list_any (λ other. not (bytes_eq name other)) pushes

abbrev pub is_there : {A : Type 0} → List A → Bool
is_there [] = false
is_there (x ∷ row) = true

-- ---- declarations that are against those in tables

-- one that is no function is against another of its name, or a function of its name
abbrev pub against_named : NamedRows → List (List ℕ) → List ℕ → Named → Bool
against_named rows functions name x = is_other x (row_of rows name) || list_any (bytes_eq name) functions

abbrev pub against_variable : NamedRows → List (List ℕ) → GlobalVar → Bool
against_variable rows functions g = not g.constant && against_named rows functions g.name (named.Variable g)

-- and a push constant block against one of another name
abbrev pub against_block : List StructType → NamedRows → List (List ℕ) → List (List ℕ) → Block → Bool
against_block structs rows functions pushes block =
    against_named rows functions block.name (laid structs block) || (is_push block.kind && has_other pushes block.name)

-- a head is against another of its function, or what is no function and has its name
abbrev pub against_heads : NamedRows → HeadRows → Prototype → Bool
against_heads rows heads p = is_other_head p (row_of heads (head_words p)) || is_there (row_of rows p.name)

-- ---- their places, behind others

abbrev pub with_place : Bool → List Place → Place → List Place
with_place b places place = if b then places ++ place ∷ [] else places

abbrev pub variables_against : NamedRows → List (List ℕ) → List Place → List GlobalVar → List Place
variables_against rows functions places [] = places
variables_against rows functions places (g ∷ globals) =
    variables_against rows functions (with_place (against_variable rows functions g) places g.place) globals

abbrev pub interfaces_against : NamedRows → List (List ℕ) → List Place → List Interface → List Place
interfaces_against rows functions places [] = places
interfaces_against rows functions places (i ∷ interfaces) =
    interfaces_against rows functions (with_place (against_named rows functions i.name (named.Interface i)) places i.place) interfaces

abbrev pub blocks_against : List StructType → NamedRows → List (List ℕ) → List (List ℕ) → List Place → List Block → List Place
blocks_against structs rows functions pushes places [] = places
blocks_against structs rows functions pushes places (block ∷ blocks) =
    blocks_against structs rows functions pushes (with_place (against_block structs rows functions pushes block) places block.place) blocks

abbrev pub heads_against : NamedRows → HeadRows → List Place → List Prototype → List Place
heads_against rows heads places [] = places
heads_against rows heads places (p ∷ prototypes) = heads_against rows heads (with_place (against_heads rows heads p) places p.place) prototypes

-- the places of a unit's declarations that are against those in tables, kind by kind
abbrev pub unit_against : List StructType → NamedRows → HeadRows → List (List ℕ) → List (List ℕ) → List Place → Side → List Place
unit_against structs rows heads functions pushes places side =
    heads_against rows heads
    (blocks_against structs rows functions pushes
    (interfaces_against rows functions (variables_against rows functions places side.unit.globals) side.unit.interfaces) side.unit.blocks)
    side.unit.prototypes

-- the places of the declarations that are against one of an earlier unit
abbrev pub all_against : List StructType → NamedRows → HeadRows → List (List ℕ) → List (List ℕ) → List Place → List Side → List Place
all_against structs rows heads functions pushes places [] = places
all_against structs rows heads functions pushes places (side ∷ sides) =
    all_against structs (with_unit structs rows side) (with_heads heads side.unit.prototypes) (with_functions functions side.unit.prototypes)
    (with_pushes pushes side.unit.blocks) (unit_against structs rows heads functions pushes places side) sides
