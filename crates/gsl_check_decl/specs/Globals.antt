-- What is declared at the top of a unit: global variables, inputs and outputs, functions, and blocks (GLSL 4.50, 4.3 and 6.1).
use Rattle.std.specs.Prelude.{ℕ, ◌+◌, List, [], ◌∷◌, ◌++◌, length, Option, Some, None}
use Rattle.gsl_names.specs.declared.entry.Entry.TheVariants as entry
use Rattle.gsl_names.specs.Scopes.{Scopes, declare}
use Rattle.gsl_tree.specs.declared.folded.Folded.{Folded}
use Rattle.gsl_tree.specs.declared.unit.Block.{Block}
use Rattle.gsl_tree.specs.declared.unit.BlockMember.{BlockMember}
use Rattle.gsl_tree.specs.declared.unit.GlobalVar.{GlobalVar}
use Rattle.gsl_tree.specs.declared.unit.Interface.{Interface}
use Rattle.gsl_tree.specs.declared.unit.Prototype.{Prototype}
use Rattle.gsl_check_expr.specs.declared.env.Env.{Env}

-- what is declared behind one more global variable, of which this is known
unfoldable pub with_global : GlobalVar → Folded → Env → Env
with_global g folded env = record env {
  names = declare g.name (entry.Global (length env.scene.globals)) env.names;
  scene = record env.scene {
    globals = env.scene.globals ++ g ∷ [];
    consts = record env.scene.consts { globals = env.scene.consts.globals ++ folded ∷ [] };
  };
}

-- what is declared behind one more input or output
unfoldable pub with_interface : Interface → Env → Env
with_interface i env = record env {
  names = declare i.name (entry.Interface (length env.scene.interfaces)) env.names;
  scene = record env.scene { interfaces = env.scene.interfaces ++ i ∷ [] };
}

-- what is declared behind a head that is the first of its function
unfoldable pub with_head : Prototype → Env → Env
with_head p env = record env {
  names = declare p.name (entry.Function (length env.scene.prototypes)) env.names;
  scene = record env.scene { prototypes = env.scene.prototypes ++ p ∷ [] };
}

-- the names of members, numbered from one on
abbrev pub members_named : ℕ → ℕ → List BlockMember → Scopes → Scopes
members_named block number [] names = names
members_named block number (member ∷ members) names = members_named block (number + 1) members (declare member.name (entry.Member block number) names)

-- the names that a block declares besides its own
abbrev pub inner_names : ℕ → Block → Option (List ℕ) → Scopes → Scopes
inner_names number block None names = members_named number 0 block.members names
inner_names number block (Some instance) names = declare instance (entry.Instance number) names

-- what is declared behind one more block
unfoldable pub with_block : Block → Env → Env
with_block block env = record env {
  names = inner_names (length env.scene.blocks) block block.instance (declare block.name (entry.Block (length env.scene.blocks)) env.names);
  scene = record env.scene { blocks = env.scene.blocks ++ block ∷ [] };
}
