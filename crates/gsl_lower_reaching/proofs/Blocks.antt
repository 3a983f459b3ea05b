-- Trails in blocks, and with one part more.
use Rattle.std.proofs.Common.{◌≡◌, refl, sym, ap, ◌∙◌, subst, ℕ, Bool, false, List, [], ◌∷◌, ◌++◌, length, Option, Some, None, append-nil, append_assoc}
use Rattle.gsl_base.specs.declared.input.Input.{Input}
use Rattle.gsl_layout.specs.Layout.{Layout}
use Rattle.gsl_types.specs.Known.{AreStructs, IsSound}
use Rattle.gsl_types.specs.declared.ty.StructType.{StructType}
use Rattle.gsl_types.specs.declared.ty.Ty.{Ty}
use Rattle.gsl_words.specs.declared.module.Module.{Module}
use Rattle.gsl_tree.specs.Around.{Around}
use Rattle.gsl_tree.specs.Expressions.{HasPartType}
use Rattle.gsl_tree.specs.Laying.{layout_of}
use Rattle.gsl_tree.specs.Shapes.{Shape, shape_of}
use Rattle.gsl_tree.specs.declared.program.Program.{Program}
use Rattle.gsl_tree.specs.declared.unit.Block.{Block as Declared}
use Rattle.gsl_typed_law.specs.Parts.{LeadsTo}
use Rattle.gsl_views.specs.Paths.{Leads}
use Rattle.gsl_meaning.specs.Accesses.{Access, member_of}
use Rattle.gsl_machine.specs.State.{State}
use Rattle.gsl_spv.specs.Sections.{Sections}
use Rattle.gsl_lower_places.specs.Reached.{part_of, swizzled}
use Rattle.gsl_lower_places.specs.declared.reached.Base.{Base}
use Rattle.gsl_lower_places.specs.declared.reached.Part.{Part}
use Rattle.gsl_lower_places.specs.declared.reached.Reached.{Reached}
use Rattle.gsl_lower_law_members.specs.Parts.{laid_as}
use Rattle.gsl_lower_law_members.specs.Sizes.{size_of}
use Rattle.gsl_lower_law_members.proofs.Laid.{leads_further, not_beyond, struct_member_laid}
use Rattle.gsl_lower_holders.specs.Flow.{Flow}
use Rattle.gsl_lower_follows.specs.Frames.{Frame, HeldAs}
use Rattle.gsl_lower_reaching.specs.Reaching.{AtBlock, GoesBeyond, IsBlockTrail, NumberBy, NumberEachBy, PicksBy, Start}
use Rattle.gsl_lower_reaching.specs.Trails.{Chosen, IsInside, IsOut, LeadsOut, Trail}
use Rattle.gsl_lower_reaching.proofs.Moving.{numbers_longer}
use Rattle.gsl_lower_reaching.proofs.Parts.{longer, out_whole, picks_swizzled, swizzled_chosen, swizzled_trail, whole_picked}

-- a trail in a block with one number more, which is in bounds and leads to what is of a type
abbrev pub further : Trail → ℕ → Ty → Trail
further l k t = record { root = l.root; front = l.front ++ k ∷ []; ty = t; words = []; picks = None }

-- what is out of bounds has words
pub out_some : (structs : List StructType) (ty base : Ty) (words : List ℕ) (picks : Option Chosen) → ((shape : Shape) → shape_of base ≡ Some shape → ⊥) → IsOut structs ty base words picks → LeadsOut structs ty words
out_some structs ty base words picks none out = (out_whole structs ty base words picks none out).1

-- what stands behind an index that is out of bounds
pub behind_beyond : (size : ℕ) (l : Layout) (offset : ℕ) (words : List ℕ) (k : ℕ) (structs : List StructType) (ty : Ty) → LeadsOut structs ty words → GoesBeyond size l offset words → GoesBeyond size l offset (words ++ k ∷ [])
behind_beyond size l offset [] k structs ty out beyond = absurd out
behind_beyond size l offset (number ∷ more) k structs ty out beyond = beyond

pub inside_further : (structs : List StructType) (blocks : List Declared) (writes : Bool) (base t : Ty) (k : ℕ) (a : Access) (l : Trail) → l.words ≡ [] → a.path ≡ l.front ++ l.words → a.picked ≡ None → IsSound (length structs) t → IsInside structs blocks writes base a l
    → IsInside structs blocks writes t (member_of a k) (further l k t)
inside_further structs blocks writes base t k a l none path unpicked sound is = record {
  begins = is.begins;
  whole = t;
  sound = sound;
  leads = refl;
  picks = (refl, ap (λ path. path ++ k ∷ []) (path ∙ ap (λ words. l.front ++ words) none ∙ append-nil l.front) ∙ sym (append-nil (l.front ++ k ∷ [])), unpicked);
  may = tt;
  named = is.named;
}

module _ (m : Module) (input : Input) (sections : Sections) (f : Frame m input sections) (p : Program) (around : Around) where
  -- where it begins is no matter of what is picked and of the words
  pub block_begins : (lies : Start) (base : Base) (l : Trail) (words : List ℕ) (picks : Option Chosen) (x : AtBlock m input sections f p around lies base l) → GoesBeyond (size_of m input x.id) (laid_as x.block.std140 p.structs l.ty) x.offset words
      → AtBlock m input sections f p around lies base (record l { words = words; picks = picks })
  block_begins lies base l words picks x beyond = record {
    number = x.number;
    id = x.id;
    class = x.class;
    block = x.block;
    offset = x.offset;
    is = x.is;
    marked = x.marked;
    inside = x.inside;
    begins = x.begins;
    knows = x.knows;
    leads = x.leads;
    sound = x.sound;
    beyond = beyond;
  }

  module _ (are : AreStructs p.structs) (lies : Start) (writes : Bool) (base : Ty) (b : Flow) (state : State) (r : Reached) (a : Access) (l : Trail) where
    -- what is inside has no words behind the numbers in front
    pub no_words_to : (whole : Ty) → LeadsTo p.structs l.ty l.words whole → IsBlockTrail m input sections f p around false lies b state r l → l.words ≡ []
    no_words_to whole leads x = by l.words refl leads x.begins.beyond
      where
        by : (words : List ℕ) → l.words ≡ words → LeadsTo p.structs l.ty words whole → GoesBeyond (size_of m input x.begins.id) (laid_as x.begins.block.std140 p.structs l.ty) x.begins.offset words → l.words ≡ []
        by [] e leads beyond = e
        by (number ∷ more) e leads beyond = absurd (not_beyond p.structs (size_of m input x.begins.id) x.begins.block.std140 l.ty leads.0 x.begins.offset number are leads.1 beyond.0 beyond.1)

    pub no_words : IsInside p.structs p.blocks writes base a l → IsBlockTrail m input sections f p around false lies b state r l → l.words ≡ []
    no_words inside x = no_words_to inside.whole inside.leads x

    -- It leads to what is of the type, by the numbers in front.
    pub record IsHere : Type 0 where
      pub none : l.words ≡ []
      pub ty : l.ty ≡ base
      pub path_is : a.path ≡ l.front ++ l.words
      pub unpicked : a.picked ≡ None
      pub no_picks : l.picks ≡ None

    pub block_here : ((shape : Shape) → shape_of base ≡ Some shape → ⊥) → IsInside p.structs p.blocks writes base a l → IsBlockTrail m input sections f p around false lies b state r l → IsHere
    block_here shapeless inside x =
        let w = whole_picked inside.whole base (l.front ++ l.words) l.picks a.path a.picked shapeless inside.picks in
        let none = no_words inside x in
        record { none = none; ty = subst (λ words. LeadsTo p.structs l.ty words inside.whole) none inside.leads ∙ w.same; path_is = w.path_is; unpicked = w.unpicked; no_picks = w.none }

    -- a member of a struct
    pub block_member : IsHere → (x : IsBlockTrail m input sections f p around false lies b state r l) (k : ℕ) (t : Ty) → HasPartType p.structs base k t
        → (offset : ℕ) × Leads (size_of m input x.begins.id) (laid_as x.begins.block.std140 p.structs l.ty) x.begins.offset (k ∷ []) (laid_as x.begins.block.std140 p.structs t) offset
    block_member here x k t part = struct_member_laid p.structs (size_of m input x.begins.id) x.begins.block.std140 x.begins.offset k l.ty t are (subst (λ u. HasPartType p.structs u k t) (sym here.ty) part)

  module _ (lies : Start) (b : Flow) (state : State) (r : Reached) (l : Trail) (x : IsBlockTrail m input sections f p around false lies b state r l) where
    -- a part in bounds
    pub block_further : (part : Part) (k : ℕ) (t : Ty) → NumberBy (λ id v. HeldAs m input sections f false id v b state) part k → l.words ≡ [] → l.picks ≡ None
        → (offset : ℕ) × Leads (size_of m input x.begins.id) (laid_as x.begins.block.std140 p.structs l.ty) x.begins.offset (k ∷ []) (laid_as x.begins.block.std140 p.structs t) offset
        → IsSound (length p.structs) t → IsBlockTrail m input sections f p around false lies b state (part_of r part) (further l k t)
    block_further part k t number none unpicked step sound = record {
      begins = record {
        number = x.begins.number;
        id = x.begins.id;
        class = x.begins.class;
        block = x.begins.block;
        offset = step.0;
        is = x.begins.is;
        marked = x.begins.marked;
        inside = x.begins.inside;
        begins = x.begins.begins;
        knows = x.begins.knows;
        leads = leads_further (size_of m input x.begins.id) (layout_of p.structs x.begins.block) (laid_as x.begins.block.std140 p.structs l.ty) (laid_as x.begins.block.std140 p.structs t) 0 x.begins.offset step.0 l.front (k ∷ []) x.begins.leads step.1;
        sound = sound;
        beyond = tt;
      };
      numbers = subst (NumberEachBy (λ id v. HeldAs m input sections f false id v b state) (r.path ++ part ∷ []))
          (ap (λ words. (l.front ++ words) ++ k ∷ []) none ∙ ap (λ front. front ++ k ∷ []) (append-nil l.front) ∙ sym (append-nil (l.front ++ k ∷ [])))
          (numbers_longer (λ id v. HeldAs m input sections f false id v b state) r.path (l.front ++ l.words) part k x.numbers number);
      picks = subst (PicksBy (λ id v. HeldAs m input sections f false id v b state) r.picked) unpicked x.picks;
    }

    -- one that is not there, or behind one that is not
    pub block_longer : (part : Part) (k : ℕ) → NumberBy (λ id v. HeldAs m input sections f false id v b state) part k
        → GoesBeyond (size_of m input x.begins.id) (laid_as x.begins.block.std140 p.structs l.ty) x.begins.offset (l.words ++ k ∷ [])
        → IsBlockTrail m input sections f p around false lies b state (part_of r part) (longer l k)
    block_longer part k number beyond = record {
      begins = block_begins lies r.base l (l.words ++ k ∷ []) l.picks x.begins beyond;
      numbers = subst (NumberEachBy (λ id v. HeldAs m input sections f false id v b state) (r.path ++ part ∷ [])) (append_assoc l.front l.words (k ∷ []))
          (numbers_longer (λ id v. HeldAs m input sections f false id v b state) r.path (l.front ++ l.words) part k x.numbers number);
      picks = x.picks;
    }

    pub block_swizzled : (shape : Shape) (positions : List ℕ) → IsBlockTrail m input sections f p around false lies b state (swizzled shape positions r) (swizzled_trail shape positions l)
    unfolding swizzled
    block_swizzled shape positions = record {
      begins = block_begins lies r.base l l.words (Some (swizzled_chosen shape positions l.picks)) x.begins x.begins.beyond;
      numbers = x.numbers;
      picks = picks_swizzled (λ id v. HeldAs m input sections f false id v b state) shape positions r.picked l.picks x.picks;
    }
