-- What a turn, a load, a clearing and any event do to the step count, and which answers say that nothing changed. Assumes nothing.
use Prim.Native.Nat.{ℕ, suc}
use mathlib.Core.Bool.{true, false}
use mathlib.Core.Path.{◌≡◌, refl, ◌∙◌}
use mathlib.Core.List.{List}
use lib.Dec.{leb, eqb}
use Rattle.std.specs.Prelude.{if◌then◌else◌}
use Rattle.laws.proofs.Absurd.{clash}
use Rattle.rules.specs.declared.Effect.{Effect}
use Rattle.rules.specs.declared.Effect.TheVariants.{Goes, Ends, Waits, Fills, Empties, Makes, Spawns, Refuses}
use Rattle.rules.specs.Claim.{Claim}
use Rattle.rules.specs.Turn.{Turned, turn, ran, answer_of}
use Rattle.rules.specs.Calls.{Loading, load, loaded, clear, bare, Event, picks, loads, asks, clears, hear, number_in}
use Rattle.rules.specs.Events.{changes, counts}
use Rattle.rules.proofs.Outcomes as Outcomes
use Rattle.rules.proofs.Outcomes.{Turns, idles, runs, Loads, rejects, accepts, Clears, leaves, empties}

-- ---- a turn: "0, 1, 2, 3" are one step, "5, 6, 7: nothing changed"

answers-ran : (e : Effect) → leb (answer_of e) 3 ≡ true
unfolding answer_of
answers-ran (Goes t) = refl
answers-ran Ends = refl
answers-ran (Waits t l) = refl
answers-ran (Fills t k l v) = refl
answers-ran (Empties t l) = refl
answers-ran (Makes t k n) = refl
answers-ran (Spawns t new) = refl
answers-ran (Refuses n) = refl

module _ (c : Claim) where
  turns-steps : {p : ℕ} {t : Turned} → Turns c p t → t.claim.steps ≡ (if leb t.answer 3 then suc c.steps else c.steps)
  unfolding ran
  turns-steps (idles n) = rw n
  turns-steps (runs r s l) = rw (answers-ran _) (Outcomes.performed _ _ c).steps

  turns-still : {p : ℕ} {t : Turned} → Turns c p t → leb t.answer 3 ≡ false → t.claim ≡ c
  unfolding ran
  turns-still (idles n) f = refl
  turns-still (runs r s l) f = clash (cc (answers-ran _))

  pub turn-steps : (p : ℕ) → (turn c p).claim.steps ≡ (if leb (turn c p).answer 3 then suc c.steps else c.steps)
  turn-steps p = turns-steps (Outcomes.turns c p)

  pub turn-still : (p : ℕ) → leb (turn c p).answer 3 ≡ false → (turn c p).claim ≡ c
  turn-still p = turns-still (Outcomes.turns c p)

  -- ---- a load and a clearing: 0 counts anew, any other number changes nothing

  loads-steps : {image : List ℕ} {t : Loading} → Loads c image t → t.claim.steps ≡ (if eqb t.number 0 then 0 else c.steps)
  unfolding loaded
  loads-steps (rejects n) = rw n
  loads-steps (accepts e v w) = refl

  loads-still : {image : List ℕ} {t : Loading} → Loads c image t → eqb t.number 0 ≡ false → t.claim ≡ c
  loads-still (rejects n) f = refl
  loads-still (accepts e v w) f = clash (cc)

  pub load-steps : (image : List ℕ) → (load c image).claim.steps ≡ (if eqb (load c image).number 0 then 0 else c.steps)
  load-steps image = loads-steps (Outcomes.loads c image)

  pub load_still : (image : List ℕ) → eqb (load c image).number 0 ≡ false → (load c image).claim ≡ c
  load_still image = loads-still (Outcomes.loads c image)

  clears-claim : {t : Turned} → Clears c t → t.claim ≡ (if eqb t.answer 0 then bare c.seat else c)
  clears-claim leaves = refl
  clears-claim empties = refl

  clears-steps : {t : Turned} → Clears c t → t.claim.steps ≡ (if eqb t.answer 0 then 0 else c.steps)
  clears-steps leaves = refl
  clears-steps empties = refl

  pub clear-claim : (clear c).claim ≡ (if eqb (clear c).answer 0 then bare c.seat else c)
  clear-claim = clears-claim (Outcomes.clears c)

  pub clear-steps : (clear c).claim.steps ≡ (if eqb (clear c).answer 0 then 0 else c.steps)
  clear-steps = clears-steps (Outcomes.clears c)

  -- ---- any event: its answer says whether anything changed, and then what became of the steps

  pub hear-still : (e : Event) → changes e (number_in (hear c e).reply) ≡ false → (hear c e).claim ≡ c
  unfolding changes number_in hear
  hear-still (picks p) f = turn-still p f
  hear-still (loads image) f = load_still image f
  hear-still asks f = refl
  hear-still clears f = clear-claim ∙ rw f

  pub hear-steps : (e : Event) → (hear c e).claim.steps ≡ (if changes e (number_in (hear c e).reply) then counts e c.steps else c.steps)
  unfolding changes counts number_in hear
  hear-steps (picks p) = turn-steps p
  hear-steps (loads image) = load-steps image
  hear-steps asks = refl
  hear-steps clears = clear-steps
