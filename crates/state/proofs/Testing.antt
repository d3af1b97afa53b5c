-- The loop over the seats: what is left to test is what was to be tested. Assumes nothing.
use Prim.Native.Nat.{ℕ, suc, ◌+◌, ◌*◌, ◌-◌, ◌≤◌, ◌<◌}
use native.Mathlib.Omega.{arith}
use mathlib.Core.Path.{◌≡◌, sym, ap, ◌∙◌}
use mathlib.Core.Bool.{Bool}
use lib.Seq.{drop-drop}
use Rattle.std.proofs.lemmas.Bool.Decides.{nat_tests}
use Rattle.std.proofs.lemmas.Grind.{common_steps}
use Rattle.laying.specs.Laid.{Parts}
use Rattle.std.specs.declared.ops.ControlFlow.{ControlFlow}
use Rattle.std.specs.declared.ops.ControlFlow.TheVariants.{Continue, Break}
use Rattle.state.specs.State.{share, behind, ahead, bare, fair_at, Long, first_in, stand_from}
use Rattle.state.proofs.Reading.{alike}

-- ---- one seat

abbrev Found : Type 0
Found = ControlFlow Bool ℕ

module _ (n l : ℕ) (p : Parts) where
  first_ends : (r : Bool) → first_in l p ≡ Break r → stand_from (suc n) l p ≡ r
  unfolding first_in stand_from
  first_ends r e = grind (arith, common_steps)

  -- a sound seat of m cells
  record Passed (m : ℕ) : Type 0 where
    share : share p ≡ m
    inside : l + m ≤ 2048
    rest : stand_from (suc n) l p ≡ stand_from n (l + m) (behind p)

  first-seat : (m : ℕ) → first_in l p ≡ Continue m → Passed m
  unfolding first_in fair_at stand_from
  first-seat m e =
      record {
        share = grind (arith, common_steps);
        inside = grind (arith, common_steps, nat_tests);
        rest = grind (arith, common_steps);
      }

-- ---- the seats from k on, their cells from a on

pub record Left (p : Parts) (k a : ℕ) : Type 0 where
  pub few : k ≤ 8
  pub inside : a ≤ 2048
  pub lengths : Long 8 2048 p
  pub same : stand_from 8 0 p ≡ stand_from (8 - k) a (ahead k a p)

module _ {p : Parts} {k a : ℕ} (v : Left p k a) where
  here : k < 8 → stand_from 8 0 p ≡ stand_from (suc (8 - (k + 1))) a (ahead k a p)
  here h = let z : 8 - k ≡ suc (8 - (k + 1)) = omega arith in v.same ∙ ap (λ (n : ℕ). stand_from n a (ahead k a p)) z

  pub left-ends : k < 8 → {q : Parts} → q ≡ ahead k a p → {f : Found} → f ≡ first_in a q → {r : Bool} → f ≡ Break r → r ≡ stand_from 8 0 p
  left-ends h g e {r = r} i = sym (here h ∙ first_ends (8 - (k + 1)) a (ahead k a p) r (sym (e ∙ ap (first_in a) g) ∙ i))

  moved : (n : ℕ) → share (ahead k a p) ≡ n → behind (ahead k a p) ≡ ahead (k + 1) (a + n) p
  moved n e =
      let x : (k + 1) * 9 ≡ k * 9 + 9 = omega arith in
      let y : (k + 1) * 32 ≡ k * 32 + 32 = omega arith in
      let z : (k + 1) * 4096 ≡ k * 4096 + 4096 = omega arith in
      rw (e, x, y, z) (alike (drop-drop 9 (k * 9) p.book) (drop-drop n a p.tags) (drop-drop n a p.words) (drop-drop 32 (k * 32) p.heads)
      (drop-drop 32 (k * 32) p.accs) (drop-drop 4096 (k * 4096) p.image))

  pub left-on : k < 8 → {q : Parts} → q ≡ ahead k a p → {f : Found} → f ≡ first_in a q → {n : ℕ} → f ≡ Continue n → Left p (k + 1) (a + n)
  left-on h g e {n = n} i =
      let s = first-seat (8 - (k + 1)) a (ahead k a p) n (sym (e ∙ ap (first_in a) g) ∙ i) in
      record {
        few = omega arith;
        inside = s.inside;
        lengths = v.lengths;
        same = here h ∙ s.rest ∙ ap (stand_from (8 - (k + 1)) (a + n)) (moved n s.share);
      }

  -- behind the eighth
  pub left-end : 8 ≤ k → {q : Parts} → q ≡ ahead 8 a p → {r : Bool} → r ≡ bare q → r ≡ stand_from 8 0 p
  unfolding stand_from
  left-end h g e =
      let l = v.few in
      let z : k ≡ 8 = omega arith in
      e ∙ ap bare g ∙ sym (v.same ∙ ap (λ (n : ℕ). stand_from (8 - n) a (ahead n a p)) z)
