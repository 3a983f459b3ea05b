-- What is declared so far in a unit has names of its own.
use Rattle.std.proofs.Common.{◌≡◌, refl, sym, ap, ◌∙◌, ℕ, ◌+◌, Bool, true, false, not, ◌&&◌, List, [], ◌∷◌, ◌++◌, length, Option, Some, None, is_some}
use Rattle.std.specs.List.{AllByRecursion}
use Rattle.std.specs.Str.{bytes_eq}
use Rattle.std.proofs.lemmas.Bool.{and_parts, true≢false}
use Rattle.gsl_base.specs.declared.stage.Stage.{Stage}
use Rattle.gsl_types.specs.declared.ty.Direction.{Direction}
use Rattle.gsl_types.specs.declared.ty.Member.{Member}
use Rattle.gsl_types.specs.declared.ty.StructType.{StructType}
use Rattle.gsl_types.specs.declared.ty.Ty.{Ty}
use Rattle.gsl_names.specs.declared.entry.Entry.{Entry}
use Rattle.gsl_names.specs.declared.entry.Entry.TheVariants as entry
use Rattle.gsl_names.specs.Scopes.{Declared, Scope, Scopes, declare, find_here}
use Rattle.gsl_tree.specs.declared.folded.Folded.{Folded}
use Rattle.gsl_tree.specs.declared.unit.Block.{Block}
use Rattle.gsl_tree.specs.declared.unit.BlockMember.{BlockMember}
use Rattle.gsl_tree.specs.declared.unit.GlobalVar.{GlobalVar}
use Rattle.gsl_tree.specs.declared.unit.Interface.{Interface}
use Rattle.gsl_tree.specs.declared.unit.Prototype.{Prototype}
use Rattle.gsl_check_expr.specs.declared.env.Env.{Env}
use Rattle.gsl_check_decl.specs.Declaring.{is_declared}
use Rattle.gsl_check_decl.specs.Structs.{struct_of, with_struct}
use Rattle.gsl_check_decl.specs.Globals.{inner_names, members_named, with_block, with_global, with_head, with_interface}
use Rattle.gsl_check_heads.specs.Builtins.{built_in}
use Rattle.gsl_check_heads.specs.Heads.{is_of}
use Rattle.gsl_check_law.proofs.Declarators.{found_last}
use Rattle.gsl_check_law.proofs.Found.{all_append, all_map}
use Rattle.gsl_check_law.proofs.Longer.{Front, front_append}
use Rattle.gsl_link_whole.specs.Numbers.{same_block, same_interface, same_shared}
use Rattle.gsl_link_law.proofs.Agreed.{names_same}
use Rattle.gsl_link_law.proofs.Members.{In, all_in}
use Rattle.gsl_link_alone.proofs.Unlike.{Unlike, falls}
use Rattle.gsl_link_checked.proofs.Unlikes.{unlike_more}
use Rattle.gsl_link_checked.proofs.Standing.{AreRows, IsPlain, has, has_more, has_new, rows_grow, rows_more, rows_struct, stands, stands_more}
use Rattle.gsl_link_checked.proofs.Over.{IsOver, over_more}

-- ---- the lists of a unit and its outermost scope

-- two heads of one function
abbrev pub same_head : Prototype → Prototype → Bool
same_head a b = is_of a.name a.params b

-- the structs in the types of parameters stand in a scope
abbrev pub AreParams : Scope → List (Direction × Ty) → Type 0
AreParams scope params = AllByRecursion (λ (param : Direction × Ty). IsOver (stands scope) param.1) params

-- The names of variables, blocks, inputs and outputs are those of a scope, each once. Each function has one head, whose types name structs
-- of the scope.
pub record Names (structs : List StructType) (scope : Scope) (globals : List GlobalVar) (blocks : List Block) (interfaces : List Interface) (heads : List Prototype) : Type 0 where
  pub rows : AreRows structs scope
  pub globals_there : AllByRecursion (λ (g : GlobalVar). has scope g.name ≡ true) globals
  pub blocks_there : AllByRecursion (λ (b : Block). has scope b.name ≡ true) blocks
  pub interfaces_there : AllByRecursion (λ (i : Interface). has scope i.name ≡ true) interfaces
  pub heads_there : AllByRecursion (λ (p : Prototype). AreParams scope p.params) heads
  pub globals_apart : Unlike same_shared globals
  pub blocks_apart : Unlike same_block blocks
  pub interfaces_apart : Unlike same_interface interfaces
  pub heads_apart : Unlike same_head heads

-- names in the outermost scope, around which there are built-in names alone
abbrev pub IsNamed : Stage → List StructType → Env → Type 0
IsNamed stage structs env = (scope : Scope) × (env.names ≡ scope ∷ built_in stage ∷ [])
    × Names structs scope env.scene.globals env.scene.blocks env.scene.interfaces env.scene.prototypes

-- ---- scopes that grow

-- a scope has what another has
pub record Keeps (scope more : Scope) : Type 0 where
  pub names : (name : List ℕ) → has scope name ≡ true → has more name ≡ true
  pub structs : (n : ℕ) → stands scope n ≡ true → stands more n ≡ true

pub keeps_row : (scope : Scope) (row : Declared) → Keeps scope (row ∷ scope)
keeps_row scope row = record { names = has_more scope row; structs = stands_more scope row }

params_kept : (scope more : Scope) → Keeps scope more → (params : List (Direction × Ty)) → AreParams scope params → AreParams more params
params_kept scope more keeps params all =
    all_map (λ (p : Direction × Ty). IsOver (stands scope) p.1) (λ (p : Direction × Ty). IsOver (stands more) p.1) params (λ p is. over_more (stands scope) (stands more) keeps.structs p.1 is) all

module _ (structs : List StructType) (scope : Scope) (globals : List GlobalVar) (blocks : List Block) (interfaces : List Interface) (heads : List Prototype) (is : Names structs scope globals blocks interfaces heads) where
  -- names stay where more is in the scope
  pub names_kept : (others : List StructType) (more : Scope) → Keeps scope more → AreRows others more → Names others more globals blocks interfaces heads
  names_kept others more keeps rows = record {
    rows = rows;
    globals_there = all_map (λ (g : GlobalVar). has scope g.name ≡ true) (λ (g : GlobalVar). has more g.name ≡ true) globals (λ g at. keeps.names g.name at) is.globals_there;
    blocks_there = all_map (λ (b : Block). has scope b.name ≡ true) (λ (b : Block). has more b.name ≡ true) blocks (λ b at. keeps.names b.name at) is.blocks_there;
    interfaces_there = all_map (λ (i : Interface). has scope i.name ≡ true) (λ (i : Interface). has more i.name ≡ true) interfaces (λ i at. keeps.names i.name at) is.interfaces_there;
    heads_there = all_map (λ (p : Prototype). AreParams scope p.params) (λ (p : Prototype). AreParams more p.params) heads (λ p at. params_kept scope more keeps p.params at) is.heads_there;
    globals_apart = is.globals_apart;
    blocks_apart = is.blocks_apart;
    interfaces_apart = is.interfaces_apart;
    heads_apart = is.heads_apart;
  }

  pub names_row : (name : List ℕ) (e : Entry) → IsPlain e → Names structs ((name, e) ∷ scope) globals blocks interfaces heads
  names_row name e plain = names_kept structs ((name, e) ∷ scope) (keeps_row scope (name, e)) (rows_more structs scope is.rows name e plain)

  pub names_grow : (more : List StructType) → Front structs more → Names more scope globals blocks interfaces heads
  names_grow more front = names_kept more scope (record { names = λ name at. at; structs = λ n at. at }) (rows_grow structs scope is.rows more front)

  -- two names of which the scope has one alone
  differ : (a b : List ℕ) → has scope a ≡ false → has scope b ≡ true → bytes_eq a b ≡ false
  differ a b new there = falls (bytes_eq a b) (λ same. true≢false (sym there ∙ ap (has scope) (sym (names_same a b same)) ∙ new))

  -- ---- one more

  pub names_struct : (name : List ℕ) (members : List Member) → has scope name ≡ false
      → Names (structs ++ struct_of structs name members ∷ []) ((name, entry.Struct (length structs)) ∷ scope) globals blocks interfaces heads
  names_struct name members new =
      let s = struct_of structs name members in
      let more = structs ++ s ∷ [] in
      let row : Declared = (name, entry.Struct (length structs)) in
      names_kept more (row ∷ scope) (keeps_row scope row)
      (rows_struct more scope (rows_grow structs scope is.rows more (front_append structs (s ∷ []))) s (length structs) (found_last structs s) new)

  pub names_global : (g : GlobalVar) (n : ℕ) → has scope g.name ≡ false → Names structs ((g.name, entry.Global n) ∷ scope) (globals ++ g ∷ []) blocks interfaces heads
  names_global g n new =
      let row : Declared = (g.name, entry.Global n) in
      let rest = names_row g.name (entry.Global n) (λ m. refl) in
      record {
        rows = rest.rows;
        globals_there = all_append (λ (x : GlobalVar). has (row ∷ scope) x.name ≡ true) globals (g ∷ []) rest.globals_there (has_new scope g.name (entry.Global n), tt);
        blocks_there = rest.blocks_there;
        interfaces_there = rest.interfaces_there;
        heads_there = rest.heads_there;
        globals_apart = unlike_more same_shared globals g is.globals_apart (λ y at. apart y (differ g.name y.name new (all_in (λ (x : GlobalVar). has scope x.name ≡ true) globals is.globals_there y at)));
        blocks_apart = is.blocks_apart;
        interfaces_apart = is.interfaces_apart;
        heads_apart = is.heads_apart;
      }
    where
      apart : (y : GlobalVar) → bytes_eq g.name y.name ≡ false → same_shared g y ≡ false
      apart y names = falls (same_shared g y) (λ same. true≢false (sym (and_parts (not g.constant && not y.constant) (bytes_eq g.name y.name) same).1 ∙ names))

  pub names_interface : (i : Interface) (n : ℕ) → has scope i.name ≡ false → Names structs ((i.name, entry.Interface n) ∷ scope) globals blocks (interfaces ++ i ∷ []) heads
  names_interface i n new =
      let row : Declared = (i.name, entry.Interface n) in
      let rest = names_row i.name (entry.Interface n) (λ m. refl) in
      record {
        rows = rest.rows;
        globals_there = rest.globals_there;
        blocks_there = rest.blocks_there;
        interfaces_there = all_append (λ (x : Interface). has (row ∷ scope) x.name ≡ true) interfaces (i ∷ []) rest.interfaces_there (has_new scope i.name (entry.Interface n), tt);
        heads_there = rest.heads_there;
        globals_apart = is.globals_apart;
        blocks_apart = is.blocks_apart;
        interfaces_apart = unlike_more same_interface interfaces i is.interfaces_apart (λ y at. differ i.name y.name new (all_in (λ (x : Interface). has scope x.name ≡ true) interfaces is.interfaces_there y at));
        heads_apart = is.heads_apart;
      }

  pub names_block : (b : Block) (n : ℕ) → has scope b.name ≡ false → Names structs ((b.name, entry.Block n) ∷ scope) globals (blocks ++ b ∷ []) interfaces heads
  names_block b n new =
      let row : Declared = (b.name, entry.Block n) in
      let rest = names_row b.name (entry.Block n) (λ m. refl) in
      record {
        rows = rest.rows;
        globals_there = rest.globals_there;
        blocks_there = all_append (λ (x : Block). has (row ∷ scope) x.name ≡ true) blocks (b ∷ []) rest.blocks_there (has_new scope b.name (entry.Block n), tt);
        interfaces_there = rest.interfaces_there;
        heads_there = rest.heads_there;
        globals_apart = is.globals_apart;
        blocks_apart = unlike_more same_block blocks b is.blocks_apart (λ y at. differ b.name y.name new (all_in (λ (x : Block). has scope x.name ≡ true) blocks is.blocks_there y at));
        interfaces_apart = is.interfaces_apart;
        heads_apart = is.heads_apart;
      }

  pub names_head : (p : Prototype) (n : ℕ) → AreParams scope p.params → ((y : Prototype) → In y heads → same_head p y ≡ false)
      → Names structs ((p.name, entry.Function n) ∷ scope) globals blocks interfaces (heads ++ p ∷ [])
  names_head p n types apart =
      let row : Declared = (p.name, entry.Function n) in
      let rest = names_row p.name (entry.Function n) (λ m. refl) in
      record {
        rows = rest.rows;
        globals_there = rest.globals_there;
        blocks_there = rest.blocks_there;
        interfaces_there = rest.interfaces_there;
        heads_there = all_append (λ (x : Prototype). AreParams (row ∷ scope) x.params) heads (p ∷ []) rest.heads_there (params_kept scope (row ∷ scope) (keeps_row scope row) p.params types, tt);
        globals_apart = is.globals_apart;
        blocks_apart = is.blocks_apart;
        interfaces_apart = is.interfaces_apart;
        heads_apart = unlike_more same_head heads p is.heads_apart apart;
      }

-- ---- what is declared behind one more

module _ (stage : Stage) (structs : List StructType) (env : Env) (is : IsNamed stage structs env) where
  abbrev scope : Scope
  scope = is.0

  names_are : Names structs scope env.scene.globals env.scene.blocks env.scene.interfaces env.scene.prototypes
  names_are = is.2

  here : (name : List ℕ) → is_some (find_here env.names name) ≡ false → has scope name ≡ false
  here name new = ap (λ (names : Scopes). is_some (find_here names name)) (sym is.1) ∙ new

  pub not_there : (name : List ℕ) → is_declared env name ≡ false → has scope name ≡ false
  unfolding is_declared
  not_there name new = here name new

  declared_in : (name : List ℕ) (e : Entry) → declare name e env.names ≡ ((name, e) ∷ scope) ∷ built_in stage ∷ []
  declared_in name e = ap (declare name e) is.1

  pub named_global : (g : GlobalVar) (folded : Folded) → is_declared env g.name ≡ false → IsNamed stage structs (with_global g folded env)
  unfolding with_global
  named_global g folded new =
      let e = entry.Global (length env.scene.globals) in
      ((g.name, e) ∷ scope, declared_in g.name e, names_global structs scope env.scene.globals env.scene.blocks env.scene.interfaces env.scene.prototypes names_are g (length env.scene.globals) (not_there g.name new))

  pub named_interface : (i : Interface) → is_declared env i.name ≡ false → IsNamed stage structs (with_interface i env)
  unfolding with_interface
  named_interface i new =
      let e = entry.Interface (length env.scene.interfaces) in
      ((i.name, e) ∷ scope, declared_in i.name e, names_interface structs scope env.scene.globals env.scene.blocks env.scene.interfaces env.scene.prototypes names_are i (length env.scene.interfaces) (not_there i.name new))

  pub named_head : (p : Prototype) → AreParams scope p.params → ((y : Prototype) → In y env.scene.prototypes → same_head p y ≡ false) → IsNamed stage structs (with_head p env)
  unfolding with_head
  named_head p types apart =
      let e = entry.Function (length env.scene.prototypes) in
      ((p.name, e) ∷ scope, declared_in p.name e, names_head structs scope env.scene.globals env.scene.blocks env.scene.interfaces env.scene.prototypes names_are p (length env.scene.prototypes) types apart)

-- a struct and its name
pub named_struct : (stage : Stage) (env : Env) → IsNamed stage env.scene.structs env → (name : List ℕ) (members : List Member) → is_declared env name ≡ false
    → IsNamed stage (with_struct name members env).scene.structs (with_struct name members env)
unfolding with_struct
named_struct stage env is name members new =
    let e = entry.Struct (length env.scene.structs) in (
      (name, e) ∷ is.0,
      declared_in stage env.scene.structs env is name e,
      names_struct env.scene.structs is.0 env.scene.globals env.scene.blocks env.scene.interfaces env.scene.prototypes is.2 name members (not_there stage env.scene.structs env is name new),
    )

-- ---- blocks

module _ (stage : Stage) (structs : List StructType) (globals : List GlobalVar) (blocks : List Block) (interfaces : List Interface) (heads : List Prototype) where
  -- scopes that have names so
  abbrev Within : Scopes → Type 0
  Within names = (scope : Scope) × (names ≡ scope ∷ built_in stage ∷ []) × Names structs scope globals blocks interfaces heads

  with_row : (names : Scopes) (name : List ℕ) (e : Entry) → IsPlain e → Within names → Within (declare name e names)
  with_row names name e plain is = ((name, e) ∷ is.0, ap (declare name e) is.1, names_row structs is.0 globals blocks interfaces heads is.2 name e plain)

  with_members : (block number : ℕ) (members : List BlockMember) (names : Scopes) → Within names → Within (members_named block number members names)
  with_members block number [] names is = is
  with_members block number (m ∷ members) names is =
      with_members block (number + 1) members (declare m.name (entry.Member block number) names) (with_row names m.name (entry.Member block number) (λ n. refl) is)

  pub with_inner : (number : ℕ) (block : Block) (instance : Option (List ℕ)) (names : Scopes) → Within names → Within (inner_names number block instance names)
  with_inner number block None names is = with_members number 0 block.members names is
  with_inner number block (Some instance) names is = with_row names instance (entry.Instance number) (λ n. refl) is

pub named_block : (stage : Stage) (structs : List StructType) (env : Env) → IsNamed stage structs env → (b : Block) → is_declared env b.name ≡ false → IsNamed stage structs (with_block b env)
unfolding with_block
named_block stage structs env is b new =
    let n = length env.scene.blocks in
    let e = entry.Block n in
    with_inner stage structs env.scene.globals (env.scene.blocks ++ b ∷ []) env.scene.interfaces env.scene.prototypes n b b.instance (declare b.name e env.names) (
      (b.name, e) ∷ is.0,
      declared_in stage structs env is b.name e,
      names_block structs is.0 env.scene.globals env.scene.blocks env.scene.interfaces env.scene.prototypes is.2 b n (not_there stage structs env is b.name new),
    )
