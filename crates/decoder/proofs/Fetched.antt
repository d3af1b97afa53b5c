-- What is fetched at a position is the instruction there and the position behind its bytes, or nothing, and the instruction is END. Assumes nothing.
use Prim.Native.Nat.{ℕ, ◌+◌, ◌-◌, ◌<◌, ◌≤◌, zero-le}
use native.Mathlib.Omega.{arith}
use mathlib.Core.Path.{◌≡◌, refl, sym, ap, subst}
use mathlib.Core.Bool.{Bool, true, false}
use mathlib.Core.Logic.{⊎_elim}
use mathlib.Core.List.{List}
use lib.Dec.{T, leb, eqb, eqb→eq}
use lib.Ieee.{Float}
use Rattle.std.specs.Prelude.{if◌then◌else◌, Option, Some, None, Result, Ok, Err}
use Rattle.std.specs.Option.{option_map}
use Rattle.value.specs.Coding.{float_in}
use Rattle.laws.proofs.Arms.{between, below_or_not}
use Rattle.kinds.specs.declared.Instruction.{Instruction}
use Rattle.kinds.specs.declared.Instruction.TheVariants as I
use Rattle.kinds.specs.Bytes.{byte_in, word_in}
use Rattle.kinds.specs.Table.{instructions, instruction_kind, float_means, truth_means, frame_means, switch_means}
use Rattle.kinds.proofs.Rows.{after-instructions}
use Rattle.image.specs.declared.records.Stop.{Stop}
use Rattle.image.specs.Records.{step_at, fetched_by, fetched_at}
use Rattle.image.proofs.Places.{stands-there}
use Rattle.decoder.specs.Decoded.{instruction_in, instruction_at, size_of}

-- ---- an instruction has one byte more than the body of its row

abbrev sized : ℕ → Option Instruction → Bool
sized n (Some i) = eqb (size_of i) (1 + n)
sized n None = true

ruled : (n : ℕ) (t : Bool) (i : Instruction) → eqb (size_of i) (1 + n) ≡ true → sized n (if t then Some i else None) ≡ true
ruled n true i e = e
ruled n false i e = refl

float-sized : (o : Option Float) → sized 8 (option_map I.Float o) ≡ true
unfolding size_of
float-sized (Some x) = refl
float-sized None = refl

truth-sized : (byte : ℕ) → sized 1 (truth_means byte) ≡ true
unfolding truth_means size_of
truth-sized byte = ruled 1 (leb byte 1) (I.Bool (eqb byte 1)) refl

frame-sized : (n : ℕ) → sized 1 (frame_means n) ≡ true
unfolding frame_means size_of
frame-sized n = ruled 1 (leb 1 n) (I.Frame n) refl

module _ (k : ℕ) (body : List ℕ) where
  row_sized : T (sized (instruction_kind k).size ((instruction_kind k).means body))
  unfolding instruction_kind instructions float_means size_of switch_means
  row_sized =
      ⊎_elim
      (λ (h : k < 28). between (λ k. sized (instruction_kind k).size ((instruction_kind k).means body)) 0 28
      (rw (float-sized (float_in (word_in body)), truth-sized (byte_in body 0), frame-sized (byte_in body 0)) tt)
      k zero-le h)
      (λ (h : 28 ≤ k). rw (sym (after-instructions k h)) tt)
      (below_or_not k 28)

  size_is : (i : Instruction) → (instruction_kind k).means body ≡ Some i → size_of i ≡ 1 + (instruction_kind k).size
  size_is i e = eqb→eq _ _ (subst (λ (m : Option Instruction). T (sized (instruction_kind k).size m)) e row_sized)

-- ---- at a position p of the code

pub data Read (l : List ℕ) (code p : ℕ) : Type 0 where
  is : fetched_at l code p ≡ Some (instruction_at l (code + p), p + size_of (instruction_at l (code + p))) → Read l code p
  nothing : fetched_at l code p ≡ None → instruction_at l (code + p) ≡ I.End → Read l code p

by-step : (l : List ℕ) (code p : ℕ) (s : Result (Instruction × ℕ) Stop) → step_at l (code + p) ≡ s → Read l code p
unfolding fetched_at fetched_by instruction_at instruction_in
by-step l code p (Err r) e = nothing (ap (fetched_by code) e) (ap instruction_in e)
by-step l code p (Ok (i, m)) e =
    let s = stands-there e in
    let z : m - code ≡ p + size_of i = omega (arith, s.ends, size_is _ _ i s.means) in
    is (rw e (ap (λ (n : ℕ). Some (i, n)) z))

pub read : (l : List ℕ) (code p : ℕ) → Read l code p
read l code p = by-step l code p (step_at l (code + p)) refl
