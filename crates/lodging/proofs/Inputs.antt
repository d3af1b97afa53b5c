-- Filling a frame with an image's inputs, one at a time: from here it comes to what it comes to from the start. Assumes nothing.
use Prim.Native.Nat.{ℕ, zero, suc, ◌+◌, ◌-◌, ◌<◌, ◌≤◌}
use native.Mathlib.Omega.{arith}
use mathlib.Core.Path.{◌≡◌, refl, sym, ◌∙◌}
use mathlib.Core.Bool.{Bool, true, false}
use mathlib.Core.List.{List, []}
use lib.ListN.{set}
use Rattle.laws.proofs.Absurd.{clash}
use Rattle.value.specs.declared.Value.{Value}
use Rattle.value.specs.declared.coding.Coded.{Coded}
use Rattle.value.specs.Coding.{encoded}
use Rattle.std.specs.Prelude.{Result, Ok, Err}
use Rattle.image.specs.declared.records.Stop.{Stop}
use Rattle.kinds.specs.declared.Record.{Record}
use Rattle.kinds.specs.declared.Record.TheVariants.{Slots, Input, Code}
use Rattle.image.specs.Records.{head_at, inputs_from, inputs}
use Rattle.image.proofs.Steps.{values-next}
use Rattle.lodging.specs.Lodged.{Cells, cells, filled_with}

-- i inputs are filled in, and the next record is at `at`
abbrev pub Filling : ℕ → List ℕ → Cells → ℕ → ℕ → Cells → Type 0
Filling n image start at i now = filled_with 1 (inputs n image) start ≡ filled_with (i + 1) (inputs_from (n - i) image at) now

abbrev pub is_input : Result (Record × ℕ) Stop → Bool
is_input (Err r) = false
is_input (Ok (Slots r, m)) = false
is_input (Ok (Input v, m)) = true
is_input (Ok (Code, m)) = false

-- inputs end at the first record that is none
none_from : (k : ℕ) (image : List ℕ) (at : ℕ) (h : Result (Record × ℕ) Stop) → head_at image at ≡ h → is_input h ≡ false → inputs_from k image at ≡ []
unfolding inputs_from
none_from zero image at h e f = refl
none_from (suc k) image at (Err r) e f = rw (e, inputs_from)
none_from (suc k) image at (Ok (Slots r, m)) e f = rw (e, inputs_from)
none_from (suc k) image at (Ok (Input v, m)) e f = clash (cc)
none_from (suc k) image at (Ok (Code, m)) e f = rw (e, inputs_from)

module _ (n : ℕ) (image : List ℕ) (start : Cells) where
  pub filling-starts : Filling n image start 2 0 start
  unfolding inputs
  filling-starts = let z : n - 0 ≡ n = omega arith in rw z

  module _ (at i : ℕ) (tags words : List ℕ) (f : Filling n image start at i (cells tags words)) where
    pub filling-goes-on : {h : Result (Record × ℕ) Stop} {v : Value} {m : ℕ} {c : Coded} {tags' words' : List ℕ} → h ≡ head_at image at → h ≡ Ok (Input v, m) → i < n → c ≡ encoded v
        → tags' ≡ set tags (i + 1) c.tag → words' ≡ set words (i + 1) c.word → Filling n image start m (i + 1) (cells tags' words')
    unfolding filled_with encoded
    filling-goes-on p q l e t w =
        let s : n - i ≡ suc (n - (i + 1)) = omega arith in
        f ∙ rw (s, values-next image at (sym p ∙ q) (n - (i + 1)), t, w, e)

    pub filling-stops : {h : Result (Record × ℕ) Stop} → h ≡ head_at image at → is_input h ≡ false → filled_with 1 (inputs n image) start ≡ cells tags words
    unfolding filled_with
    filling-stops {h} p g = f ∙ rw (none_from (n - i) image at h (sym p) g)

    pub filling-ends : n ≤ i → filled_with 1 (inputs n image) start ≡ cells tags words
    unfolding filled_with inputs_from
    filling-ends l = let z : n - i ≡ 0 = omega arith in f ∙ rw z
