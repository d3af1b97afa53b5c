-- What a seat answered in a history of calls is what it answers alone, told what the rules count for it. Assumes nothing.
use Prim.Native.Nat.{ℕ, ◌<◌}
use mathlib.Core.Path.{◌≡◌, refl, ap}
use mathlib.Core.Bool.{Bool, true, false, ◌&&◌, not}
use mathlib.Core.List.{List, [], ◌∷◌, ◌++◌, map}
use lib.ListN.{length}
use lib.Dec.{ltb, eqb}
use borrow.Author.Tests.{eqb-true}
use Rattle.std.specs.Prelude.{if◌then◌else◌}
use Rattle.laws.specs.Lists.{is_none}
use Rattle.laws.proofs.Choice.{only-first, either_way}
use Rattle.laws.proofs.Absurd.{below-zero}
use Rattle.laws.proofs.Every.{All, all_nil, all_cons}
use Rattle.rules.specs.Calls.{Event, picks, loads, clears, hear, absent, Reply, message, Told, tell, replies, entries, Share, number_in}
use Rattle.rules.specs.History.{Happening, opens, says, machine_after, shares_after, counted, trace, fresh}
use Rattle.rules.proofs.Isolation.{isolated-reply}
use Rattle.state.specs.State.{State, machine_of}
use Rattle.calls.specs.Calls.{shares_in, Moved, Ran, over, ran_on, clear_call, load_call}
use Rattle.histories.specs.History.{Call, opening, running, loading, reporting, clearing, after, shares_of, Word, word, entries_of, log_of, spoken, Bytes}
use Rattle.histories.proofs.Ends.{Opens, open-ends, Runs, run_ends, tell-not-32}
use Rattle.histories.proofs.Claims.{load_said, clear-said}
use Rattle.histories.proofs.Retold.{said, retold, retold-shares, retold-holds}

-- what seat k says alone, told what counts for it in the rules' history g
abbrev lone : ℕ → List Happening → List Word
lone k g = spoken (fresh (shares_after g) k) (trace k g)

-- ---- one message

module _ (k : ℕ) (g : List Happening) (l : k < length (shares_after g)) {log : List Word} (was : log ≡ lone k g) where
  -- an entry and a load count, each with its answer
  word_on : (j : ℕ) (e : Event) → ((r : Reply) (es : List Event) → counted e r es ≡ e ∷ es) → (t : Bool) → eqb j k ≡ t
      → (if t then word e (number_in (tell (machine_after g) (message j e)).reply) ∷ log else log)
      ≡ spoken (fresh (shares_after g) k) (if t then counted e (tell (machine_after g) (message j e)).reply (trace k g) else trace k g)
  unfolding spoken
  word_on j e c true p = rw (eqb-true j k p, c, isolated-reply k g e l, was)
  word_on j e c false p = was

  entry-on : (j p : ℕ)
      → (if eqb j k then word (picks p) (number_in (tell (machine_after g) (message j (picks p))).reply) ∷ log else log) ≡ lone k (says (message j (picks p)) ∷ g)
  unfolding trace shares_after counted
  entry-on j p = word_on j (picks p) (λ r es. refl) (eqb j k) refl

  load-on : (j : ℕ) (image : List ℕ) (n : ℕ) → n ≡ number_in (tell (machine_after g) (message j (loads image))).reply
      → (if eqb j k && not (eqb n 32) then word (loads image) n ∷ log else log) ≡ lone k (says (message j (loads image)) ∷ g)
  unfolding trace shares_after counted
  load-on j image n e =
      rw (e, only-first (eqb j k) _ (ap not (tell-not-32 (machine_after g) (message j (loads image))))) (word_on j (loads image) (λ r es. refl) (eqb j k) refl)

  -- a clearing that answered 0 ends what came before it
  clears-counted : (j : ℕ) (es : List Event)
      → counted clears (tell (machine_after g) (message j clears)).reply es ≡ (if eqb (number_in (tell (machine_after g) (message j clears)).reply) 0 then [] else es)
  unfolding tell hear absent counted number_in
  clears-counted j es =
      either_way (λ (t : Told). counted clears t.reply es ≡ (if eqb (number_in t.reply) 0 then [] else es)) (ltb j (length (machine_after g))) (λ _. refl) (λ _. refl)

  cleared : (t u : Bool) → (if t && u then [] else log) ≡ spoken (fresh (shares_after g) k) (if t then (if u then [] else trace k g) else trace k g)
  unfolding spoken
  cleared true true = refl
  cleared true false = was
  cleared false u = was

  clear-on : (j n : ℕ) → n ≡ number_in (tell (machine_after g) (message j clears)).reply
      → (if eqb j k && eqb n 0 then [] else log) ≡ lone k (says (message j clears) ∷ g)
  unfolding trace shares_after
  clear-on j n e = rw (e, clears-counted j (trace k g)) (cleared (eqb j k) (eqb (number_in (tell (machine_after g) (message j clears)).reply) 0))

-- ---- a run, an opening

entries-on : (k : ℕ) (schedule rest : List ℕ) (g : List Happening) → k < length (shares_after g) → (log : List Word) → log ≡ lone k g
    → entries_of k schedule (map number_in (replies (machine_after g) (entries schedule)) ++ rest) log ≡ lone k (said (entries schedule) g)
unfolding entries_of entries replies said machine_after shares_after
entries-on k [] rest g l log was = was
entries-on k (j ∷ []) rest g l log was = was
entries-on k (j ∷ p ∷ schedule) rest g l log was = entries-on k schedule rest (says (message j (picks p)) ∷ g) l _ (entry-on k g l was j p)

run_on : {s : State} {schedule answers : List ℕ} {r : Ran} → Runs s schedule answers r → (k : ℕ) (g : List Happening) → machine_of s ≡ machine_after g → k < length (shares_after g)
    → (log : List Word) → log ≡ lone k g
    → (if eqb r.answer 0 then entries_of k schedule r.answers log else log) ≡ lone k (if eqb r.answer 0 then said (entries schedule) g else g)
unfolding ran_on over
run_on {schedule = schedule} Runs.runs k g m l log was = rw m (entries-on k schedule _ g l log was)
run_on (Runs.refuses f _) k g m l log was = rw f was

open-on : {s : State} {ns : List ℕ} {r : Moved} → Opens s ns r → (k : ℕ) (g : List Happening) (ss : List Share) → k < length (if eqb r.answer 0 then shares_in ns else ss)
    → (log : List Word) → (k < length ss → log ≡ lone k g) → (if eqb r.answer 0 then [] else log) ≡ lone k (if eqb r.answer 0 then opens (shares_in ns) ∷ g else g)
unfolding trace spoken
open-on (Opens.opens _ m) k g ss l log was = rw m
open-on (Opens.refuses f) k g ss l log was = rw f (was (rw f at l))

-- ---- a history

pub seated : {A : Type 0} (k : ℕ) (xs : List A) → k < length xs → is_none xs ≡ false
seated k [] l = below-zero k l
seated k (x ∷ xs) l = refl

pub retold-log : (k : ℕ) (s : State) (h : List Call) → k < length (shares_of s h) → All Bytes h → log_of k s h ≡ lone k (retold s h)
unfolding log_of retold shares_of
retold-log k s [] l all_nil = below-zero k l
retold-log k s (opening ns ∷ h) l (all_cons b bs) = open-on (open-ends (after s h) ns) k (retold s h) (shares_of s h) l (log_of k s h) (λ l. retold-log k s h l bs)
retold-log k s (running schedule answers ∷ h) l (all_cons b bs) =
    let v = retold-holds s h (seated k (shares_of s h) l) bs in
    run_on (run_ends (after s h) v.sound schedule answers) k (retold s h) v.claims (rw (retold-shares s h) l) (log_of k s h) (retold-log k s h l bs)
retold-log k s (loading j image ∷ h) l (all_cons b bs) =
    let v = retold-holds s h (seated k (shares_of s h) l) bs in
    load-on k (retold s h) (rw (retold-shares s h) l) (retold-log k s h l bs) j image (load_call (after s h) j image).answer (load_said v j image)
retold-log k s (reporting j ∷ h) l (all_cons b bs) = retold-log k s h l bs
retold-log k s (clearing j ∷ h) l (all_cons b bs) =
    let v = retold-holds s h (seated k (shares_of s h) l) bs in
    clear-on k (retold s h) (rw (retold-shares s h) l) (retold-log k s h l bs) j (clear_call (after s h) j).answer (clear-said v j)
