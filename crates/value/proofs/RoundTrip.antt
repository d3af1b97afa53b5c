-- A well-formed value's tag and word decode to it; a tag and a word that decode to a value are that value's, and it is well formed. Assumes nothing.
use Prim.Native.Nat.{ℕ, ◌<◌, ◌^◌}
use native.Mathlib.Omega.{arith}
use mathlib.Core.Path.{◌≡◌, refl, sym, ap, subst}
use mathlib.Core.Bool.{Bool, true, false}
use lib.Dec.{T, eqb, leb}
use lib.Ieee.{binary64, of_bits, fits}
use lib.Ieee.Scale.{finite}
use lib.Ieee.Bits.{of_bits-to_bits, to_bits-of_bits, of_bits-fits, is_true}
use mir.Syntax.{w64}
use mir.Val.{to_z}
use mir.ValLaws.{to_z-of_z, of_z-to_z, to_z-Fits}
use borrow.Author.Tests.{eqb-true, eqb-false, leb-true}
use Rattle.laws.proofs.Absurd.{clash}
use Rattle.laws.proofs.Choice.{chosen, both, first, second}
use Rattle.laws.proofs.Floats.{finite-no-nan}
use Rattle.value.specs.declared.Value.{Value}
use Rattle.value.specs.declared.Value.TheVariants.{Integer, Float, Boolean, Nil, Location}
use Rattle.std.specs.Prelude.{Some, None}
use Rattle.value.specs.Range.{well_formed}
use Rattle.value.specs.Coding.{decoded, tag_of, word_of, only}
use Rattle.value.proofs.Range.{range-fits, fits-range}

pub decode-encode : (v : Value) → well_formed v ≡ true → decoded (tag_of v) (word_of v) ≡ Some v
unfolding decoded only tag_of word_of well_formed
decode-encode (Integer z) h = ap (λ y. Some (Integer y)) (to_z-of_z w64 z (range-fits z h))
decode-encode (Float x) h =
    rw (of_bits-to_bits binary64 x (subst T (sym (first (fits binary64 x) (finite x) h)) tt), second (fits binary64 x) (finite x) h)
decode-encode (Boolean true) h = refl
decode-encode (Boolean false) h = refl
decode-encode Nil h = refl
decode-encode (Location l) h = rw h

-- v is well formed, and t and w are its tag and word
pub record Stands (t w : ℕ) (v : Value) : Type 0 where
  pub tag : tag_of v ≡ t
  pub word : word_of v ≡ w
  pub good : well_formed v ≡ true

module _ (t w : ℕ) (v : Value) (h : w < 2 ^ 64) where
  -- one kind: its tag and its test hold, and u is the value
  kind : (k : ℕ) (test : Bool) (u : Value) → eqb t k ≡ true → only test u ≡ Some v → (test ≡ true → Stands k w u) → Stands t w v
  unfolding only
  kind k test u p e f =
      chosen test (Some u) None e
      (λ q r. subst (λ (n : ℕ). Stands n w v) (sym (eqb-true t k p)) (subst (Stands k w) (cc) (f q)))
      (λ q r. clash (cc))

  bit : (b : Bool) → leb w 1 ≡ true → eqb w 1 ≡ b → word_of (Boolean b) ≡ w
  unfolding word_of
  bit true p e = sym (eqb-true w 1 e)
  bit false p e = let n = eqb-false w 1 e in omega (arith, leb-true w 1 p)

  pub encode-decode : decoded t w ≡ Some v → Stands t w v
  unfolding decoded only tag_of word_of well_formed
  encode-decode e =
      chosen (eqb t 1) _ _ e
      (λ p e. kind 1 true (Integer (to_z w64 w)) p e
      (λ _. record { tag = refl; word = of_z-to_z w64 w (record { fits = h }); good = fits-range _ (to_z-Fits w64 w (record { fits = h })) }))
      (λ _ e. chosen (eqb t 2) _ _ e
      (λ p e. kind 2 (finite (of_bits binary64 w)) (Float (of_bits binary64 w)) p e
      (λ q. record { tag = refl; word = to_bits-of_bits binary64 w h (finite-no-nan (of_bits binary64 w) q); good = both (is_true (fits binary64 (of_bits binary64 w)) (of_bits-fits binary64 w)) q }))
      (λ _ e. chosen (eqb t 3) _ _ e
      (λ p e. kind 3 (leb w 1) (Boolean (eqb w 1)) p e
      (λ q. record { tag = refl; word = bit (eqb w 1) q refl; good = refl }))
      (λ _ e. chosen (eqb t 4) _ _ e
      (λ p e. kind 4 (eqb w 0) Nil p e (λ q. record { tag = refl; word = sym (eqb-true w 0 q); good = refl }))
      (λ _ e. chosen (eqb t 5) _ _ e
      (λ p e. kind 5 (leb w 65535) (Location w) p e (λ q. record { tag = refl; word = refl; good = q }))
      (λ _ e. clash (cc))))))
