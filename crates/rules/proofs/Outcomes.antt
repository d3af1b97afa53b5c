-- What a turn, a load and a clearing come to, one constructor an outcome; and what every step keeps. Assumes nothing.
use Prim.Native.Nat.{ℕ, suc, ◌<◌, ◌≤◌}
use mathlib.Core.Path.{◌≡◌, refl}
use mathlib.Core.Bool.{true, false, not}
use mathlib.Core.List.{List}
use lib.Dec.{leb, ltb, eqb}
use borrow.Author.Tests.{leb-true, ltb-true, not-false}
use Rattle.laws.specs.Lists.{is_none}
use Rattle.laws.proofs.Absurd.{clash}
use Rattle.laws.proofs.Choice.{either_way}
use Rattle.std.specs.Prelude.{Ok, Err}
use Rattle.image.specs.declared.reader.Layout.{Layout}
use Rattle.image.specs.declared.reader.Fault.TheVariants.{TooLong, BadAt}
use Rattle.image.specs.Reading.{Verdict, number_of, read_image}
use Rattle.rules.specs.declared.Effect.{Effect}
use Rattle.rules.specs.declared.Effect.TheVariants.{Goes, Ends, Waits, Fills, Empties, Makes, Spawns, Refuses}
use Rattle.rules.specs.declared.Status.{Status}
use Rattle.rules.specs.Claim.{Claim, status_of, ready_count, seek, perform}
use Rattle.rules.specs.Turn.{Turned, turned, turn, ran, is_running}
use Rattle.rules.specs.Calls.{Loading, loading, loaded, load_by, load, bare, clear}

-- an effect is one step, and changes neither the seat nor the image
pub record Next (c d : Claim) : Type 0 where
  pub seat : d.seat ≡ c.seat
  pub image : d.image ≡ c.image
  pub steps : d.steps ≡ suc c.steps

pub performed : (e : Effect) (i : ℕ) (c : Claim) → Next c (perform e i c)
unfolding perform
performed (Goes t) i c = record { seat = refl; image = refl; steps = refl }
performed Ends i c = record { seat = refl; image = refl; steps = refl }
performed (Waits t l) i c = record { seat = refl; image = refl; steps = refl }
performed (Fills t k l v) i c = record { seat = refl; image = refl; steps = refl }
performed (Empties t l) i c = record { seat = refl; image = refl; steps = refl }
performed (Makes t k n) i c = record { seat = refl; image = refl; steps = refl }
performed (Spawns t new) i c = record { seat = refl; image = refl; steps = refl }
performed (Refuses n) i c = record { seat = refl; image = refl; steps = refl }

module _ (c : Claim) where
  -- a running claim has an image and no refusal
  pub running : is_running (status_of c) ≡ true → (is_none c.image ≡ false) × (eqb c.refusal 0 ≡ true)
  unfolding status_of is_running
  running =
      either_way Calm (is_none c.image) (λ _ r. clash (cc)) λ loaded.
      either_way Calm (not (eqb c.refusal 0)) (λ _ r. clash (cc)) λ calm _. (loaded, not-false _ calm)
    where
      Calm : Status → Type 0
      Calm s = is_running s ≡ true → (is_none c.image ≡ false) × (eqb c.refusal 0 ≡ true)

  -- nothing changed, or the thread picked ran
  pub data Turns (p : ℕ) : Turned → Type 0 where
    idles : {n : ℕ} → leb n 3 ≡ false → Turns p (turned c n)
    runs : is_running (status_of c) ≡ true → eqb c.steps 4294967295 ≡ false → p < ready_count c → Turns p (ran c (seek c.row p))

  pub turns : (p : ℕ) → Turns p (turn c p)
  unfolding turn
  turns p =
      either_way (Turns p) (not (is_running (status_of c))) (λ _. idles refl) λ r.
      either_way (Turns p) (eqb c.steps 4294967295) (λ _. idles refl) λ s.
      either_way (Turns p) (not (ltb p (ready_count c))) (λ _. idles refl) λ l. runs (not-false _ r) s (ltb-true p (ready_count c) (not-false _ l))

  -- refused, or loaded into a vacant seat
  pub data Loads (image : List ℕ) : Loading → Type 0 where
    rejects : {n p : ℕ} → eqb n 0 ≡ false → Loads image (loading c n p)
    accepts : {g : Layout} → is_none c.image ≡ true → read_image image ≡ Ok g → g.slots ≤ c.seat.cells → Loads image (loading (loaded c.seat image g.slots g.inputs) 0 0)

  loads-by : (image : List ℕ) (v : Verdict) → is_none c.image ≡ true → read_image image ≡ v → Loads image (load_by c image v)
  unfolding load_by number_of
  loads-by image (Err TooLong) e f = rejects refl
  loads-by image (Err (BadAt p)) e f = rejects refl
  loads-by image (Ok g) e f = either_way (Loads image) (leb g.slots c.seat.cells) (λ h. accepts e f (leb-true g.slots c.seat.cells h)) (λ _. rejects refl)

  pub loads : (image : List ℕ) → Loads image (load c image)
  unfolding load
  loads image = either_way (Loads image) (is_none c.image) (λ e. loads-by image (read_image image) e refl) (λ _. rejects refl)

  -- nothing to clear, or cleared
  pub data Clears : Turned → Type 0 where
    leaves : Clears (turned c 35)
    empties : Clears (turned (bare c.seat) 0)

  pub clears : Clears (clear c)
  unfolding clear
  clears = either_way Clears (is_none c.image) (λ _. leaves) (λ _. empties)
