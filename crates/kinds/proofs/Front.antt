-- A body means what its own bytes mean, whatever follows them. Assumes nothing.
use Prim.Native.Nat.{ℕ}
use mathlib.Core.Path.{◌≡◌, refl, sym, ap, ◌∙◌}
use mathlib.Core.List.{List, [], ◌∷◌, map}
use lib.ListN.{get_or, get_or-map, take}
use Rattle.std.specs.Prelude.{Option, None}
use Rattle.kinds.specs.declared.Instruction.{Instruction}
use Rattle.kinds.specs.Bytes.{word_in}
use Rattle.kinds.specs.Table.{Kind, unknown, switch_means, instructions, instruction_kind}

-- what a row's body means, cut to its length; and as it is
abbrev cut : List ℕ → Kind (Option Instruction) → Option Instruction
cut l r = r.means (take r.size l)

abbrev whole : List ℕ → Kind (Option Instruction) → Option Instruction
whole l r = r.means l

-- no row reads more than eight bytes
fronts : (l : List ℕ) → map (cut l) instructions ≡ map (whole l) instructions
unfolding instructions switch_means word_in
fronts [] = refl
fronts (a ∷ []) = refl
fronts (a ∷ b ∷ []) = refl
fronts (a ∷ b ∷ c ∷ []) = refl
fronts (a ∷ b ∷ c ∷ d ∷ []) = refl
fronts (a ∷ b ∷ c ∷ d ∷ e ∷ []) = refl
fronts (a ∷ b ∷ c ∷ d ∷ e ∷ f ∷ []) = refl
fronts (a ∷ b ∷ c ∷ d ∷ e ∷ f ∷ g ∷ []) = refl
fronts (a ∷ b ∷ c ∷ d ∷ e ∷ f ∷ g ∷ h ∷ l) = refl

pub means-front : (k : ℕ) (l : List ℕ) → (instruction_kind k).means (take (instruction_kind k).size l) ≡ (instruction_kind k).means l
unfolding instruction_kind
means-front k l = sym (get_or-map (cut l) instructions k unknown) ∙ ap (λ ms. get_or ms k None) (fronts l) ∙ get_or-map (whole l) instructions k unknown
