-- The claims that a sound state holds, and those that each call leaves in it: what the rules say. Assumes nothing.
use Prim.Native.Nat.{ℕ}
use mathlib.Core.Path.{◌≡◌}
use mathlib.Core.Bool.{true}
use mathlib.Core.List.{List, [], ◌∷◌}
use lib.Dec.{ltb, eqb}
use Rattle.std.specs.Prelude.{if◌then◌else◌}
use Rattle.laws.specs.Lists.{all}
use Rattle.laws.proofs.Absurd.{clash}
use Rattle.laws.proofs.Every.{All, all_nil, all_cons}
use Rattle.rules.specs.Calls.{Machine, loads, clears, Message, message, tell, after, entries, opened, number_in}
use Rattle.rules.specs.Sound.{sound}
use Rattle.soundness.specs.Events.{ByteEvent}
use Rattle.soundness.proofs.Machines.{sound-opened, sound-kept, sound-run}
use Rattle.state.specs.State.{State, long, laid, machine_of, state_sound}
use Rattle.state.proofs.Stands.{machine-laid, stands-laid, sound-stands, stands-sound}
use Rattle.calls.specs.Calls.{shares_in, Moved, Ran, ran_on, said_to, clear_call, loaded_in, load_call}
use Rattle.histories.proofs.Ends.{Opens, Runs, load-ends, clear-ends}

-- s is sound, and these are the claims in it
pub record Holds (s : State) (m : Machine) : Type 0 where
  pub sound : state_sound s ≡ true
  pub claims : machine_of s ≡ m

laid-holds : (m : Machine) (s : State) → sound m ≡ true → long s ≡ true → Holds (laid m s) m
laid-holds m s e l = record { sound = stands-sound _ (stands-laid m s e l); claims = machine-laid m s e l }

pub opens-holds : {s : State} {ns : List ℕ} {r : Moved} → Opens s ns r → eqb r.answer 0 ≡ true → Holds r.state (opened 0 (shares_in ns))
opens-holds {s} {ns} (Opens.opens l m) _ = laid-holds (opened 0 (shares_in ns)) s (sound-opened (shares_in ns) m) l
opens-holds (Opens.refuses f) e = clash (cc)

-- an entry is no image
entry-bytes : (schedule : List ℕ) → All (λ e. ByteEvent e.says) (entries schedule)
unfolding entries
entry-bytes [] = all_nil
entry-bytes (k ∷ []) = all_nil
entry-bytes (k ∷ p ∷ schedule) = all_cons tt (entry-bytes schedule)

module _ {s : State} {m : Machine} (l : Holds s m) where
  is-long : long s ≡ true
  is-long = (sound-stands s l.sound).long

  is-sound : sound m ≡ true
  is-sound = rw l.claims at (sound-stands s l.sound).sound

  told-holds : (e : Message) → ByteEvent e.says → Holds (laid (tell m e).machine s) (tell m e).machine
  told-holds e b = laid-holds (tell m e).machine s (sound-kept m e is-sound b) is-long

  pub load-holds : (k : ℕ) (image : List ℕ) → all (λ b. ltb b 256) image ≡ true → Holds (load_call s k image).state (tell m (message k (loads image))).machine
  unfolding loaded_in
  load-holds k image b = rw (load-ends s l.sound k image, l.claims) (told-holds (message k (loads image)) b)

  pub clear-holds : (k : ℕ) → Holds (clear_call s k).state (tell m (message k clears)).machine
  unfolding said_to
  clear-holds k = rw (clear-ends s l.sound k, l.claims) (told-holds (message k clears) tt)

  pub runs-holds : {schedule answers : List ℕ} {r : Ran} → Runs s schedule answers r → Holds r.state (if eqb r.answer 0 then after m (entries schedule) else m)
  unfolding ran_on
  runs-holds {schedule} Runs.runs = rw l.claims (laid-holds (after m (entries schedule)) s (sound-run m (entries schedule) is-sound (entry-bytes schedule)) is-long)
  runs-holds (Runs.refuses f _) = rw f l

  -- and what each answers
  pub load_said : (k : ℕ) (image : List ℕ) → (load_call s k image).answer ≡ number_in (tell m (message k (loads image))).reply
  unfolding loaded_in
  load_said k image = rw (load-ends s l.sound k image, l.claims)

  pub clear-said : (k : ℕ) → (clear_call s k).answer ≡ number_in (tell m (message k clears)).reply
  unfolding said_to
  clear-said k = rw (clear-ends s l.sound k, l.claims)
