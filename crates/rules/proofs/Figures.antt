-- A full I-cell is never changed or emptied while its claim is loaded. Assumes nothing.
use Prim.Native.Nat.{ℕ}
use mathlib.Core.Bool.{false}
use mathlib.Core.Path.{◌≡◌, refl, sym, ap, ◌∙◌}
use mathlib.Core.Logic.{◌≢◌}
use mathlib.Core.List.{List}
use Rattle.laws.specs.Lists.{is_none}
use Rattle.laws.proofs.Absurd.{clash}
use Rattle.value.specs.declared.Value.{Value}
use Rattle.rules.specs.declared.Kind.TheVariants.{Icell}
use Rattle.rules.specs.declared.Slot.{Slot}
use Rattle.rules.specs.declared.Effect.{Effect}
use Rattle.rules.specs.Claim.{Claim, Cell, Live, look, put, stepped, perform}
use Rattle.rules.specs.Turn.{Turned, ran}
use Rattle.rules.specs.Calls.{Loading, Event, picks, loads, asks, clears, hear}
use Rattle.rules.specs.Events.{unloads}
use Rattle.rules.proofs.Lawful.{Lawful, goes, ends, waits, fills, empties, makes-some, spawns, refuses, effect-lawful}
use Rattle.rules.proofs.Looks.{look-same, look-put, look-more}
use Rattle.rules.proofs.Outcomes as Outcomes
use Rattle.rules.proofs.Outcomes.{Turns, idles, runs, Loads, rejects, accepts}

module _ (c : Claim) (l : ℕ) (v : Value) (is : look c l ≡ Slot.Full Icell v) where
  -- a cell that is filled or emptied is another one
  elsewhere : (m : ℕ) (x : Cell) (row : List Live) (s : Slot) → look c m ≡ s → s ≢ Slot.Missing → s ≢ Slot.Full Icell v → look (stepped c (put c m x) row) l ≡ Slot.Full Icell v
  elsewhere m x row s e a b =
      look-put c l m x row (λ q. a (sym e ∙ q)) (λ q. b (sym e ∙ ap (look c) (sym q) ∙ is)) ∙ is

  same : (d : Claim) → d.seat.start ≡ c.seat.start → d.cells ≡ c.cells → look d l ≡ Slot.Full Icell v
  same d p q = look-same c d l p q ∙ is

  performed : {e : Effect} (i : ℕ) → Lawful c e → look (perform e i c) l ≡ Slot.Full Icell v
  unfolding perform
  performed i goes = same _ refl refl
  performed i ends = same _ refl refl
  performed i (waits e) = same _ refl refl
  performed i (fills {l = m} e) = elsewhere m _ _ _ e (λ q. clash (cc)) (λ q. clash (cc))
  performed i (empties {l = m} e) = elsewhere m _ _ _ e (λ q. clash (cc)) (λ q. clash (cc))
  performed i makes-some = look-more c l _ _ (λ q. clash (cc)) ∙ is
  performed i spawns = same _ refl refl
  performed i (refuses e) = same _ refl refl

  turned : {p : ℕ} {t : Turned} → Turns c p t → look t.claim l ≡ Slot.Full Icell v
  unfolding ran
  turned (idles n) = is
  turned (runs r s k) = performed _ (effect-lawful c _)

  loaded : {image : List ℕ} {t : Loading} → is_none c.image ≡ false → Loads c image t → look t.claim l ≡ Slot.Full Icell v
  loaded h (rejects n) = is
  loaded h (accepts e r w) = clash (cc)

-- whatever is said to the claim, short of a clearing
pub figure-stays : (c : Claim) (e : Event) (l : ℕ) (v : Value) → is_none c.image ≡ false → unloads e ≡ false → look c l ≡ Slot.Full Icell v → look (hear c e).claim l ≡ Slot.Full Icell v
unfolding hear unloads
figure-stays c (picks p) l v h u is = turned c l v is (Outcomes.turns c p)
figure-stays c (loads image) l v h u is = loaded c l v is h (Outcomes.loads c image)
figure-stays c asks l v h u is = is
figure-stays c clears l v h u is = clash (cc)
