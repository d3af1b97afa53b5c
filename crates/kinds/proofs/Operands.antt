-- What the tables accept is sane: its floats are finite, its integers in range, its frames have slots; and no body is longer than eight bytes. Assumes nothing.
use Prim.Native.Nat.{ℕ, zero, suc, ◌-◌, ◌^◌, ◌<◌, ◌≤◌}
use native.Mathlib.Omega.{arith}
use mathlib.Core.Path.{◌≡◌, refl, subst}
use mathlib.Core.Bool.{Bool, true, false, ◌&&◌}
use mathlib.Core.List.{List, [], ◌∷◌}
use lib.ListN.{get_or}
use lib.Dec.{leb, eqb, eqb_refl}
use lib.Ieee.{binary64, of_bits, fits}
use lib.Ieee.Scale.{finite}
use lib.Ieee.Bits.{of_bits-fits, is_true}
use mir.Syntax.{w64}
use mir.Val.{to_z}
use borrow.Author.Tests.{leb-true, eqb-true}
use Rattle.std.specs.Prelude.{if◌then◌else◌}
use Rattle.std.specs.Option.{option_map}
use Rattle.laws.proofs.Choice.{both, first, second}
use Rattle.value.specs.declared.Value.{Value}
use Rattle.value.specs.declared.Value.TheVariants.{Integer}
use Rattle.value.specs.Coding.{decoded, float_in}
use Rattle.value.specs.Range.{well_formed}
use Rattle.value.proofs.RoundTrip.{encode-decode}
use Rattle.kinds.specs.declared.Instruction.{Instruction}
use Rattle.kinds.specs.declared.Instruction.TheVariants as I
use Rattle.std.specs.Prelude.{Option, Some, None}
use Rattle.kinds.specs.declared.Record.{Record}
use Rattle.kinds.specs.declared.Record.TheVariants.{Slots, Input, Code}
use Rattle.kinds.specs.Bytes.{Bytes, byte_in, word_in}
use Rattle.kinds.specs.Operands.{sane}
use Rattle.kinds.specs.Table.{Kind, instructions, instruction_kind, unknown, records, record_kind, strange, float_means, truth_means, frame_means, switch_means, slots_means, input_means}
use Rattle.kinds.proofs.Numbers.{word_below}

-- a test that holds of each row and of the default holds of the row of any kind
abbrev all : {A : Type 0} → (A → Bool) → List A → Bool
all p [] = true
all p (x ∷ xs) = p x && all p xs

every : {A : Type 0} (p : A → Bool) (l : List A) (d : A) → p d ≡ true → all p l ≡ true → (k : ℕ) → p (get_or l k d) ≡ true
every p [] d h e k = h
every p (x ∷ xs) d h e zero = first (p x) (all p xs) e
every p (x ∷ xs) d h e (suc k) = every p xs d h (second (p x) (all p xs) e) k

every-instruction : (p : Kind (Option Instruction) → Bool) → p unknown ≡ true → all p instructions ≡ true → (k : ℕ) → p (instruction_kind k) ≡ true
unfolding instruction_kind
every-instruction p h e k = every p instructions unknown h e k

every-record : (p : Kind (Option Record) → Bool) → p strange ≡ true → all p records ≡ true → (k : ℕ) → p (record_kind k) ≡ true
unfolding record_kind
every-record p h e k = go (leb 128 k)
  where
    go : (t : Bool) → p (if t then get_or records (k - 128) strange else strange) ≡ true
    go true = every p records strange h e (k - 128)
    go false = h

-- a choice passes a test if its first part does where it is taken, and its second part in any case
either : {A : Type 0} (p : A → Bool) (t : Bool) (a b : A) → (t ≡ true → p a ≡ true) → p b ≡ true → p (if t then a else b) ≡ true
either p true a b f h = f refl
either p false a b f h = h

-- lengths
pub instruction-size : (k : ℕ) → (instruction_kind k).size ≤ 8
unfolding instructions
instruction-size k = leb-true _ 8 (every-instruction (λ r. leb r.size 8) refl refl k)

pub record-size : (k : ℕ) → (record_kind k).size ≤ 8
unfolding records
record-size k = leb-true _ 8 (every-record (λ r. leb r.size 8) refl refl k)

-- instructions
abbrev sane_is : Option Instruction → Bool
sane_is (Some i) = sane i
sane_is None = true

int-sane : (w : ℕ) → w < 2 ^ 64 → well_formed (Integer (to_z w64 w)) ≡ true
unfolding decoded
int-sane w h = (encode-decode 1 w (Integer (to_z w64 w)) h refl).good

float-sane : (w : ℕ) → sane_is (float_means w) ≡ true
unfolding float_means float_in sane well_formed
float-sane w = by (finite (of_bits binary64 w)) refl
  where
    by : (t : Bool) → finite (of_bits binary64 w) ≡ t → sane_is (option_map I.Float (if t then Some (of_bits binary64 w) else None)) ≡ true
    by true q = both (is_true (fits binary64 (of_bits binary64 w)) (of_bits-fits binary64 w)) q
    by false q = refl

truth-sane : (b : ℕ) → sane_is (truth_means b) ≡ true
unfolding truth_means sane
truth-sane b = either sane_is (leb b 1) (Some (I.Bool (eqb b 1))) None (λ _. refl) refl

frame-sane : (n : ℕ) → sane_is (frame_means n) ≡ true
unfolding frame_means sane
frame-sane n = either sane_is (leb 1 n) (Some (I.Frame n)) None (λ t. t) refl

module _ (k : ℕ) (body : List ℕ) where
  pub instruction-sane : (i : Instruction) → Bytes body → (instruction_kind k).means body ≡ Some i → sane i ≡ true
  unfolding instructions sane switch_means
  instruction-sane i h e =
      subst (λ (m : Option Instruction). sane_is m ≡ true) e
      (every-instruction (λ r. sane_is (r.means body)) refl
      (rw (int-sane (word_in body) (word_below body h), float-sane, truth-sane, frame-sane))
      k)

-- records before the code
abbrev good_input : Option Record → Bool
good_input (Some (Slots r)) = true
good_input (Some (Input v)) = well_formed v
good_input (Some Code) = true
good_input None = true

good-means : (d : Option Value) → ((v : Value) → d ≡ Some v → well_formed v ≡ true) → good_input (input_means d) ≡ true
good-means (Some v) f = f v refl
good-means None f = refl

good-input : (t w : ℕ) → w < 2 ^ 64 → good_input (input_means (decoded t w)) ≡ true
good-input t w h = good-means (decoded t w) (λ v e. (encode-decode t w v h e).good)

slots-good : (r : ℕ) → good_input (slots_means r) ≡ true
unfolding slots_means
slots-good r = either good_input (leb 1 r) (Some (Slots r)) None (λ _. refl) refl

-- the slots are the body's one byte, and there is one
abbrev some_slots : List ℕ → ℕ → Option Record → Bool
some_slots body n (Some (Slots r)) = leb 1 r && (eqb r (byte_in body 0) && eqb n 1)
some_slots body n (Some (Input v)) = true
some_slots body n (Some Code) = true
some_slots body n None = true

slots-some : (body : List ℕ) → some_slots body 1 (slots_means (byte_in body 0)) ≡ true
unfolding slots_means
slots-some body =
    either (some_slots body 1) (leb 1 (byte_in body 0)) (Some (Slots (byte_in body 0))) None
    (λ t. both t (both (is_true (eqb (byte_in body 0) (byte_in body 0)) (eqb_refl (byte_in body 0))) refl))
    refl

input-some : (body : List ℕ) (n : ℕ) (d : Option Value) → some_slots body n (input_means d) ≡ true
input-some body n (Some v) = refl
input-some body n None = refl

module _ (k : ℕ) (body : List ℕ) where
  pub input-good : (v : Value) → Bytes body → (record_kind k).means body ≡ Some (Input v) → well_formed v ≡ true
  unfolding records
  input-good v h e =
      subst (λ (m : Option Record). good_input m ≡ true) e
      (every-record (λ r. good_input (r.means body)) refl
      (rw (slots-good, good-input 1 (word_in body) (word_below body h), good-input 2 (word_in body) (word_below body h), good-input 3 (byte_in body 0) (omega (arith, h 0)), good-input 4 0 (omega arith)))
      k)

  module _ (r : ℕ) (e : (record_kind k).means body ≡ Some (Slots r)) where
    slots-are : (leb 1 r && (eqb r (byte_in body 0) && eqb (record_kind k).size 1)) ≡ true
    unfolding records
    slots-are =
        subst (λ (m : Option Record). some_slots body (record_kind k).size m ≡ true) e
        (every-record (λ r. some_slots body r.size (r.means body)) refl (simp (slots-some, input-some)) k)

    byte-and-size : (eqb r (byte_in body 0) && eqb (record_kind k).size 1) ≡ true
    byte-and-size = second (leb 1 r) (eqb r (byte_in body 0) && eqb (record_kind k).size 1) slots-are

    pub slots-range : 1 ≤ r
    slots-range = leb-true 1 r (first (leb 1 r) (eqb r (byte_in body 0) && eqb (record_kind k).size 1) slots-are)

    pub slots-most : Bytes body → r ≤ 255
    slots-most h = omega (arith, h 0, eqb-true r (byte_in body 0) (first (eqb r (byte_in body 0)) (eqb (record_kind k).size 1) byte-and-size))

    pub slots-size : (record_kind k).size ≡ 1
    slots-size = eqb-true (record_kind k).size 1 (second (eqb r (byte_in body 0)) (eqb (record_kind k).size 1) byte-and-size)
