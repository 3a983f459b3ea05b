-- Layouts as lists of numbers, which give them back.
use Rattle.std.specs.Prelude.{◌≡◌, ℕ, zero, suc, List, [], ◌∷◌, ◌⊎◌, refl}
use Rattle.std.proofs.Common.{inl, inr, ap, ◌∙◌}
use Rattle.std.specs.Coded.{Coded, code_by, coded×, coded_ℕ, coded_list}
use Rattle.gsl_layout.specs.Layout.{Layout, Leaf, Array, Runtime, Group, Parts, End, Part}

-- the kind of a node, and its numbers
abbrev Token : Type 0
Token = ℕ × (ℕ × ℕ)

-- a layout or members behind their parts, and then what follows
abbrev mutual
  written : Layout → List Token → List Token
  written (Leaf components) after = (0, (components, 0)) ∷ after
  written (Array stride count element) after = written element ((1, (stride, count)) ∷ after)
  written (Runtime stride element) after = written element ((2, (stride, 0)) ∷ after)
  written (Group members all) after = written_parts members ((3, (all, 0)) ∷ after)

  written_parts : Parts → List Token → List Token
  written_parts End after = (4, (0, 0)) ∷ after
  written_parts (Part offset layout rest) after = written layout (written_parts rest ((5, (offset, 0)) ∷ after))

-- what was read so far, the last first
abbrev Held : Type 0
Held = List (Layout ⊎ Parts)

-- one node more
abbrev with_token : ℕ → ℕ → ℕ → Held → Held
with_token zero a b held = inl (Leaf a) ∷ held
with_token (suc zero) a b (inl element ∷ held) = inl (Array a b element) ∷ held
with_token (suc (suc zero)) a b (inl element ∷ held) = inl (Runtime a element) ∷ held
with_token (suc (suc (suc zero))) a b (inr members ∷ held) = inl (Group members a) ∷ held
with_token (suc (suc (suc (suc zero)))) a b held = inr End ∷ held
with_token (suc (suc (suc (suc (suc k))))) a b (inr rest ∷ inl layout ∷ held) = inr (Part a layout rest) ∷ held
with_token k a b held = held

abbrev read : List Token → Held → Held
read [] held = held
read (token ∷ tokens) held = read tokens (with_token token.0 token.1.0 token.1.1 held)

abbrev top : Held → Layout
top (inl layout ∷ held) = layout
top _ = Leaf 0

abbrev mutual
  written_read : (layout : Layout) (after : List Token) (held : Held) → read (written layout after) held ≡ read after (inl layout ∷ held)
  written_read (Leaf components) after held = refl
  written_read (Array stride count element) after held = written_read element ((1, (stride, count)) ∷ after) held
  written_read (Runtime stride element) after held = written_read element ((2, (stride, 0)) ∷ after) held
  written_read (Group members all) after held = parts_read members ((3, (all, 0)) ∷ after) held

  parts_read : (members : Parts) (after : List Token) (held : Held) → read (written_parts members after) held ≡ read after (inr members ∷ held)
  parts_read End after held = refl
  parts_read (Part offset layout rest) after held = written_read layout (written_parts rest ((5, (offset, 0)) ∷ after)) held ∙ parts_read rest ((5, (offset, 0)) ∷ after) (inl layout ∷ held)

abbrev pub layout_code : Coded Layout
layout_code = code_by (List Token) (coded_list (coded× coded_ℕ (coded× coded_ℕ coded_ℕ))) (λ layout. written layout []) (λ tokens. top (read tokens []))
    (λ layout. ap top (written_read layout [] []))
