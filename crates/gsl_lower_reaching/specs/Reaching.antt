-- What it is for what an expression is lowered to, to lead where the expression does: in a variable, in a value that is in none, or in a block.
use Rattle.std.specs.Prelude.{◌≡◌, ℕ, ◌≤◌, ◌<◌, ◌^◌, Bool, true, false, List, [], ◌∷◌, ◌++◌, length, slice_get, Option, Some, None}
use Rattle.std.specs.List.{AllByRecursion}
use Rattle.gsl_base.specs.declared.input.Input.{Input}
use Rattle.gsl_instr.specs.declared.enumerant.storage_class.TheConstants as storage_class
use Rattle.gsl_layout.specs.Layout.{Layout}
use Rattle.gsl_types.specs.Known.{IsSound}
use Rattle.gsl_types.specs.declared.ty.Ty.{Ty}
use Rattle.gsl_words.specs.declared.module.Module.{Module}
use Rattle.gsl_values.specs.declared.value.Value.{Value}
use Rattle.gsl_values.specs.declared.value.Value.TheVariants.{Word}
use Rattle.gsl_tree.specs.Around.{Around}
use Rattle.gsl_tree.specs.Laying.{layout_of}
use Rattle.gsl_tree.specs.Operations.{value_at}
use Rattle.gsl_tree.specs.Values.{is_value_of}
use Rattle.gsl_tree.specs.declared.program.Program.{Program}
use Rattle.gsl_tree.specs.declared.unit.Block.{Block}
use Rattle.gsl_tree.specs.declared.unit.BlockMember.{BlockMember}
use Rattle.gsl_views.specs.Paths.{Leads}
use Rattle.gsl_views.specs.Viewed.{IsArray, elements}
use Rattle.gsl_meaning.specs.Accesses as access
use Rattle.gsl_meaning.specs.Accesses.{Access, Root}
use Rattle.gsl_meaning.specs.Running.{Run}
use Rattle.gsl_meaning.specs.State as shader
use Rattle.gsl_machine.specs.State.{InBlock, InVariable, Points, State}
use Rattle.gsl_owed.specs.Types.{lies}
use Rattle.gsl_spv.specs.Sections.{Sections}
use Rattle.gsl_lower_places.specs.Reached.{is_block_class}
use Rattle.gsl_lower_places.specs.declared.reached.Base.{Base}
use Rattle.gsl_lower_places.specs.declared.reached.Base.TheVariants.{Variable, Value as Loose}
use Rattle.gsl_lower_places.specs.declared.reached.Part.{Part}
use Rattle.gsl_lower_places.specs.declared.reached.Part.TheVariants.{Fixed, By}
use Rattle.gsl_lower_places.specs.declared.reached.Picked.{Picked}
use Rattle.gsl_lower_places.specs.declared.reached.Reached.{Reached}
use Rattle.gsl_lower_law_members.specs.Parts.{laid_as}
use Rattle.gsl_lower_law_members.specs.Sizes.{size_of}
use Rattle.gsl_lower_law_picks.specs.Outside.{HasPart}
use Rattle.gsl_lower_holders.specs.Flow.{Emit, Flow}
use Rattle.gsl_lower_follows.specs.Frames.{Frame, Global, Good, HeldAs, Holder, Interface as Passed, Local, Name, Param, Stage, Waits, type_named}
use Rattle.gsl_lower_follows.specs.Giving.{Adds, After, Does}
use Rattle.gsl_lower_reaching.specs.Trails.{Chosen, IsInside, IsOutside, Trail}

-- What an expression leads to is a variable or a part of one, a value that is in no variable or a part of one, or a part of a block.
pub data Start : Type 0 where
  OfVariable : Start
  OfValue : Start
  OfBlock : Start

-- whether it is loose: in no variable
abbrev pub is_of_value : Start → Bool
is_of_value OfVariable = false
is_of_value OfValue = true
is_of_value OfBlock = false

-- the root of an access to a variable
abbrev pub root_of : Name → Option Root
root_of (Global number) = Some (access.Global number)
root_of (Passed number) = Some (access.Interface number)
root_of (Stage number) = None
root_of (Param number) = Some (access.Param number)
root_of (Local number) = Some (access.Local number)
root_of (Holder number) = None

-- ---- what ids are of numbers

-- what it is for an id to be of a value: to stand for it, or to be that of a holder in which it waits
abbrev pub At : Type 1
At = ℕ → Value → Type 0

-- The number of a part is this word.
abbrev pub NumberBy : At → Part → ℕ → Type 0
NumberBy at (Fixed number) word = number ≡ word
NumberBy at (By s id) word = at id (Word word)

-- The numbers of parts are these words, in their order.
abbrev pub NumberEachBy : At → List Part → List ℕ → Type 0
NumberEachBy at [] [] = Unit {0}
NumberEachBy at [] (word ∷ words) = ⊥
NumberEachBy at (part ∷ parts) [] = ⊥
NumberEachBy at (part ∷ parts) (word ∷ words) = NumberBy at part word × NumberEachBy at parts words

-- What a component is picked by is this word, where it is picked by one.
abbrev pub ChoosesBy : At → Option Part → Option ℕ → Type 0
ChoosesBy at None None = Unit {0}
ChoosesBy at None (Some word) = ⊥
ChoosesBy at (Some part) None = ⊥
ChoosesBy at (Some part) (Some word) = NumberBy at part word

-- What is picked is this.
abbrev pub PicksBy : At → Option Picked → Option Chosen → Type 0
PicksBy at None None = Unit {0}
PicksBy at None (Some c) = ⊥
PicksBy at (Some p) None = ⊥
PicksBy at (Some p) (Some c) = (p.shape ≡ c.shape) × (p.positions ≡ c.positions) × ChoosesBy at p.by c.word

abbrev pub IsFixed : Part → Type 0
IsFixed (Fixed number) = Unit {0}
IsFixed (By s id) = ⊥

-- An index into an array that lies by a layout at an offset, in so many bytes, is out of bounds, where there is one.
abbrev pub GoesBeyond : ℕ → Layout → ℕ → List ℕ → Type 0
GoesBeyond size l offset [] = Unit {0}
GoesBeyond size l offset (number ∷ more) = IsArray l × (elements l offset size ≤ number)

-- ---- where trails begin

module _ (m : Module) (input : Input) (whole : Sections) (f : Frame m input whole) (p : Program) (around : Around) where
  -- at the variable of a name, which is in no block
  pub record AtVariable (loose : Start) (base : Base) (l : Trail) : Type 0 where
    pub name : Name
    pub id : ℕ
    pub class : ℕ
    pub number : ℕ
    pub is : base ≡ Variable id class
    pub marked : loose ≡ OfVariable
    pub outside : is_block_class class ≡ false
    pub begins : root_of name ≡ Some l.root
    pub none : l.front ≡ []
    pub seat : f.seat name ≡ Some number
    pub points : f.own id ≡ Some (Points (InVariable number []))
    pub typed : type_named around name ≡ Some l.ty

  -- at a value that is in no variable, whose parts have known numbers and are there
  pub record AtValue (at : At) (loose : Start) (base : Base) (parts : List Part) (l : Trail) : Type 0 where
    pub id : ℕ
    pub type_id : ℕ
    pub value : Value
    pub is : base ≡ Loose id type_id
    pub marked : loose ≡ OfValue
    pub fixed : AllByRecursion IsFixed parts
    pub begins : l.root ≡ access.Loose value
    pub none : l.front ≡ []
    pub stands : at id value
    pub typed : is_value_of p.structs l.ty value ≡ true
    pub has : HasPart value l.words

  -- at a holder, where a part of such a value waits
  pub record AtHolder (count : ℕ) (state : State) (base : Base) (l : Trail) : Type 0 where
    pub id : ℕ
    pub value : Value
    pub is : base ≡ Variable id storage_class.FUNCTION
    pub begins : l.root ≡ access.Loose value
    pub waits : Waits m input whole f count id (value_at value l.front) state
    pub typed : is_value_of p.structs l.ty (value_at value l.front) ≡ true

  pub data Begins (at : At) (count : ℕ) (state : State) (loose : Start) (base : Base) (parts : List Part) (l : Trail) : Type 0 where
    variable : AtVariable loose base l → Begins at count state loose base parts l
    value : AtValue at loose base parts l → Begins at count state loose base parts l
    holder : AtHolder count state base l → Begins at count state loose base parts l

  -- Ids are of a trail outside blocks, or wait to be so. What is of a value begins at it, or at a holder with a part of it, and what is of a variable at that.
  pub record IsOwnTrail (waits : Bool) (loose : Start) (b : Flow) (state : State) (r : Reached) (l : Trail) : Type 0 where
    pub begins : Begins (λ id v. HeldAs m input whole f waits id v b state) b.place.used state loose r.base r.path l
    pub numbers : NumberEachBy (λ id v. HeldAs m input whole f waits id v b state) r.path l.words
    pub picks : PicksBy (λ id v. HeldAs m input whole f waits id v b state) r.picked l.picks

  -- ---- in blocks

  -- What a module and a function know of a block: its variable, whose type lies by the block's layout.
  pub record KnowsBlock (number id : ℕ) (block : Block) : Type 0 where
    pub known : slice_get p.blocks number ≡ Some block
    pub seat : slice_get f.place.blocks number ≡ Some id
    pub type : ℕ
    pub points : f.own id ≡ Some (Points (InBlock id 0 type))
    pub lie : lies m (layout_of p.structs block) type ≡ true

  -- What they know of a member of a block, of a type: its variable is in a class of blocks, and the count of its elements is a word.
  pub record KnowsMember (number member : ℕ) (t : Ty) : Type 0 where
    pub block : Block
    pub one : BlockMember
    pub found : slice_get block.members member ≡ Some one
    pub same : one.ty ≡ t
    pub sound : IsSound (length p.structs) t
    pub knows : (id : ℕ) → slice_get f.place.blocks number ≡ Some id → KnowsBlock number id block
    pub class : (class : ℕ) → slice_get f.place.classes number ≡ Some class → is_block_class class ≡ true
    pub short : (id offset : ℕ) → elements (laid_as block.std140 p.structs t) offset (size_of m input id) < 2 ^ 32

  -- At a member of a block, or at a part of one, to which the numbers in front lead. The words are those of an index that is out of bounds there, and what stands
  -- behind it.
  pub record AtBlock (loose : Start) (base : Base) (l : Trail) : Type 0 where
    pub number : ℕ
    pub id : ℕ
    pub class : ℕ
    pub block : Block
    pub offset : ℕ
    pub is : base ≡ Variable id class
    pub marked : loose ≡ OfBlock
    pub inside : is_block_class class ≡ true
    pub begins : l.root ≡ access.Block number
    pub knows : KnowsBlock number id block
    pub leads : Leads (size_of m input id) (layout_of p.structs block) 0 l.front (laid_as block.std140 p.structs l.ty) offset
    pub sound : IsSound (length p.structs) l.ty
    pub beyond : GoesBeyond (size_of m input id) (laid_as block.std140 p.structs l.ty) offset l.words

  -- Ids are of a trail in a block, or wait to be so.
  pub record IsBlockTrail (waits : Bool) (loose : Start) (b : Flow) (state : State) (r : Reached) (l : Trail) : Type 0 where
    pub begins : AtBlock loose r.base l
    pub numbers : NumberEachBy (λ id v. HeldAs m input whole f waits id v b state) r.path (l.front ++ l.words)
    pub picks : PicksBy (λ id v. HeldAs m input whole f waits id v b state) r.picked l.picks

  -- Ids are of a trail, or wait to be so.
  pub data IsTrail (waits : Bool) (loose : Start) (b : Flow) (state : State) (r : Reached) (l : Trail) : Type 0 where
    own : IsOwnTrail waits loose b state r l → IsTrail waits loose b state r l
    in_block : IsBlockTrail waits loose b state r l → IsTrail waits loose b state r l

  -- ---- what is lowered

  -- It leads where an access does.
  pub record HasReached (splits : Bool) (loose : Start) (writes : Bool) (t : Ty) (b : Flow) (state : State) (r : Reached) (later : Flow) (a : Access) (s : shader.State) (last : State) : Type 0 where
    pub trail : Trail
    pub is : IsTrail false loose later last r trail
    pub inside : IsInside p.structs p.blocks writes t a trail
    pub after : After m input whole f p around splits b state later s last

  -- It leads out of bounds, so that it strays as soon as something is read or stored there.
  pub record HasStrayed (splits : Bool) (loose : Start) (writes : Bool) (t : Ty) (b : Flow) (state : State) (r : Reached) (later : Flow) (s : shader.State) (last : State) : Type 0 where
    pub trail : Trail
    pub is : IsTrail false loose later last r trail
    pub outside : IsOutside p.structs p.blocks writes t trail
    pub after : After m input whole f p around splits b state later s last

  -- What is lowered leads where the shader's access does, wherever it stands.
  pub record GivesPlace (splits : Bool) (loose : Start) (writes : Bool) (t : Ty) (emit : Emit Reached) (run : Run Access) : Type 0 where
    pub adds : Adds emit
    pub does : (b : Flow) (s : shader.State) (units : ℕ) (state : State) → Good m input whole f p around b s state
        → Does m input whole f p 0 units state (HasReached splits loose writes t b state) (HasStrayed splits loose writes t b state) (run s units) (emit b)
