-- A history of calls on lent bytes, told as a history of the rules: once an opening answered 0, the state holds the claims that the rules say. Assumes nothing.
use Prim.Native.Nat.{ℕ}
use mathlib.Core.Path.{◌≡◌, refl, ap, ◌∙◌}
use mathlib.Core.Bool.{Bool, true, false}
use mathlib.Core.List.{List, [], ◌∷◌}
use lib.Dec.{eqb}
use Rattle.std.specs.Prelude.{if◌then◌else◌}
use Rattle.laws.specs.Lists.{is_none}
use Rattle.laws.proofs.Absurd.{clash}
use Rattle.laws.proofs.Every.{All, all_nil, all_cons}
use Rattle.rules.specs.Calls.{loads, clears, Message, message, entries, Share}
use Rattle.rules.specs.Calls as Rules
use Rattle.rules.specs.History.{Happening, opens, says, machine_after, shares_after}
use Rattle.state.specs.State.{State}
use Rattle.calls.specs.Calls.{shares_in, Moved, open_call, run_call}
use Rattle.histories.specs.History.{Call, opening, running, loading, reporting, clearing, after, shares_of, Bytes}
use Rattle.histories.proofs.Ends.{Opens, open-ends, run_ends}
use Rattle.histories.proofs.Claims.{Holds, opens-holds, load-holds, clear-holds, runs-holds}

-- messages one after the other, newest first
unfoldable pub said : List Message → List Happening → List Happening
said [] g = g
said (e ∷ es) g = said es (says e ∷ g)

-- openings and runs that answered 0, loads and clearings; reports change nothing
unfoldable pub retold : State → List Call → List Happening
retold s [] = []
retold s (opening ns ∷ h) = if eqb (open_call (after s h) ns).answer 0 then opens (shares_in ns) ∷ retold s h else retold s h
retold s (running schedule answers ∷ h) =
    if eqb (run_call (after s h) schedule answers).answer 0 then said (entries schedule) (retold s h) else retold s h
retold s (loading k image ∷ h) = says (message k (loads image)) ∷ retold s h
retold s (reporting k ∷ h) = retold s h
retold s (clearing k ∷ h) = says (message k clears) ∷ retold s h

-- ---- the shares

said-shares : (es : List Message) (g : List Happening) → shares_after (said es g) ≡ shares_after g
unfolding said shares_after
said-shares [] g = refl
said-shares (e ∷ es) g = said-shares es (says e ∷ g)

module _ (g : List Happening) where
  open-shares : {s : State} {ns : List ℕ} {r : Moved} → Opens s ns r
      → shares_after (if eqb r.answer 0 then opens (shares_in ns) ∷ g else g) ≡ (if eqb r.answer 0 then shares_in ns else shares_after g)
  unfolding shares_after
  open-shares (Opens.opens l m) = rw m
  open-shares (Opens.refuses f) = rw f

  said_or : (es : List Message) (t : Bool) → shares_after (if t then said es g else g) ≡ shares_after g
  said_or es true = said-shares es g
  said_or es false = refl

pub retold-shares : (s : State) (h : List Call) → shares_after (retold s h) ≡ shares_of s h
unfolding retold shares_of shares_after
retold-shares s [] = refl
retold-shares s (opening ns ∷ h) =
    open-shares (retold s h) (open-ends (after s h) ns)
    ∙ ap (λ (ss : List Share). if eqb (open_call (after s h) ns).answer 0 then shares_in ns else ss) (retold-shares s h)
retold-shares s (running schedule answers ∷ h) = said_or (retold s h) (entries schedule) (eqb (run_call (after s h) schedule answers).answer 0) ∙ retold-shares s h
retold-shares s (loading k image ∷ h) = retold-shares s h
retold-shares s (reporting k ∷ h) = retold-shares s h
retold-shares s (clearing k ∷ h) = retold-shares s h

-- ---- the claims

said-machine : (es : List Message) (g : List Happening) → machine_after (said es g) ≡ Rules.after (machine_after g) es
unfolding said machine_after Rules.after
said-machine [] g = refl
said-machine (e ∷ es) g = said-machine es (says e ∷ g)

module _ (g : List Happening) where
  open-retold : {s : State} {ns : List ℕ} {r : Moved} (ss : List Share) → Opens s ns r → is_none (if eqb r.answer 0 then shares_in ns else ss) ≡ false
      → (is_none ss ≡ false → Holds s (machine_after g)) → Holds r.state (machine_after (if eqb r.answer 0 then opens (shares_in ns) ∷ g else g))
  unfolding machine_after Rules.opening
  open-retold ss (Opens.opens l m) n before = rw m (opens-holds (Opens.opens l m) refl)
  open-retold ss (Opens.refuses f) n before = rw f (before (rw f at n))

  run-retold : (es : List Message) (t : Bool) {s : State} → Holds s (if t then Rules.after (machine_after g) es else machine_after g) → Holds s (machine_after (if t then said es g else g))
  run-retold es true l = rw (said-machine es g) l
  run-retold es false l = l

-- once an opening answered 0, the state is sound, and the claims in it are those of the rules
pub retold-holds : (s : State) (h : List Call) → is_none (shares_of s h) ≡ false → All Bytes h → Holds (after s h) (machine_after (retold s h))
unfolding after shares_of retold machine_after
retold-holds s [] n all_nil = clash (cc)
retold-holds s (opening ns ∷ h) n (all_cons b bs) = open-retold (retold s h) (shares_of s h) (open-ends (after s h) ns) n (λ n. retold-holds s h n bs)
retold-holds s (running schedule answers ∷ h) n (all_cons b bs) =
    let l = retold-holds s h n bs in
    run-retold (retold s h) (entries schedule) (eqb (run_call (after s h) schedule answers).answer 0) (runs-holds l (run_ends (after s h) l.sound schedule answers))
retold-holds s (loading k image ∷ h) n (all_cons b bs) = load-holds (retold-holds s h n bs) k image b
retold-holds s (reporting k ∷ h) n (all_cons b bs) = retold-holds s h n bs
retold-holds s (clearing k ∷ h) n (all_cons b bs) = clear-holds (retold-holds s h n bs) k
