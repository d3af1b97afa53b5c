-- Demand 3 over calls on lent bytes, from any bytes at the start: a seat's claim and its answers are those of the seat alone, told its own loads and entries. Assumes nothing.
use Prim.Native.Nat.{ℕ, suc, ◌<◌}
use native.Mathlib.Omega.{arith}
use mathlib.Core.Path.{◌≡◌, refl, sym, ap, ◌∙◌}
use mathlib.Core.List.{List, [], ◌∷◌}
use lib.ListN.{length}
use borrow.Author.Tests.{le-leb}
use Rattle.laws.proofs.Every.{All}
use Rattle.rules.specs.Claim.{Claim}
use Rattle.rules.specs.Turn.{turn}
use Rattle.rules.specs.Calls.{Machine, claim_at, Event, picks, loads, asks, clears, load, clear, report, hear, message, tell, replies, entries, number_in}
use Rattle.rules.specs.History.{machine_after, trace, fresh, replay}
use Rattle.rules.proofs.Telling.{tell-reply}
use Rattle.rules.proofs.Isolation as Rules
use Rattle.laying.specs.Laid.{laid_claim}
use Rattle.state.specs.State.{State, machine_of, claims_of}
use Rattle.state.specs.Seats.{base_of}
use Rattle.state.proofs.Stands.{sound-stands}
use Rattle.state.proofs.Pieces.{seat-at}
use Rattle.calls.specs.Calls.{place_in, report_in, over, shown, ran_on, run_with, run_call, loaded_in, load_call, clear_call, said_to, shown_in, report_call}
use Rattle.histories.specs.History.{Call, after, shares_of, log_of, trace_of, spoken, Bytes}
use Rattle.histories.specs.Agree.{bytes_of, Agree}
use Rattle.histories.proofs.Ends.{run_number, run-number, load-ends, clear-ends, report-ends}
use Rattle.histories.proofs.Claims.{Holds}
use Rattle.histories.proofs.Retold.{retold, retold-shares, retold-holds}
use Rattle.histories.proofs.Logs.{seated, retold-log}

trace-spoken : (c : Claim) (es : List Event) → trace_of (spoken c es) ≡ es
unfolding trace_of spoken
trace-spoken c [] = refl
trace-spoken c (e ∷ es) = ap (λ (l : List Event). e ∷ l) (trace-spoken c es)

-- seat k alone, told its own loads and entries
abbrev pub alone : ℕ → State → List Call → Claim
alone k s h = replay (fresh (shares_of s h) k) (trace_of (log_of k s h))

module _ (k : ℕ) (s : State) (h : List Call) (l : k < length (shares_of s h)) (bytes : All Bytes h) where
  held : Holds (after s h) (machine_after (retold s h))
  held = retold-holds s h (seated k (shares_of s h) l) bytes

  there : k < length (machine_of (after s h))
  there = rw (held.claims, Rules.machine-length (retold s h), retold-shares s h) l

  -- what the rules count is what was logged
  pub traced : trace k (retold s h) ≡ trace_of (log_of k s h)
  traced = sym (ap trace_of (retold-log k s h l bytes) ∙ trace-spoken _ (trace k (retold s h)))

  -- "A claim depends on its own loads and entries alone"
  pub isolation : claim_at (machine_of (after s h)) k ≡ replay (fresh (shares_of s h) k) (trace_of (log_of k s h))
  isolation =
      ap (λ (m : Machine). claim_at m k) held.claims ∙ Rules.isolation k (retold s h) (rw (retold-shares s h) l) ∙ rw (retold-shares s h, traced)

  -- and so does each answer that they had
  pub isolated-log : log_of k s h ≡ spoken (fresh (shares_of s h) k) (trace_of (log_of k s h))
  isolated-log = retold-log k s h l bytes ∙ rw (retold-shares s h, traced)

  -- ---- what the seat shows, and what it would answer next

  next-reply : (e : Event) → (tell (machine_of (after s h)) (message k e)).reply ≡ (hear (alone k s h) e).reply
  next-reply e = tell-reply (machine_of (after s h)) k e there ∙ ap (λ (c : Claim). (hear c e).reply) isolation

  pub bytes-alone : bytes_of (after s h) k ≡ laid_claim (alone k s h)
  unfolding base_of
  bytes-alone =
      let a = seat-at (sound-stands (after s h) held.sound) k there in
      rw (a.base, a.cells) a.parts ∙ ap laid_claim isolation

  pub report-alone : report_call (after s h) k ≡ shown 0 (report (alone k s h))
  unfolding shown_in hear number_in report_in
  report-alone = report-ends (after s h) held.sound k ∙ rw (next-reply asks)

  pub load-alone : (image : List ℕ) → (load_call (after s h) k image).answer ≡ (load (alone k s h) image).number
  unfolding loaded_in hear number_in
  load-alone image = rw (load-ends (after s h) held.sound k image, next-reply (loads image))

  pub place-alone : (image : List ℕ) → (load_call (after s h) k image).place ≡ (load (alone k s h) image).place
  unfolding loaded_in hear place_in
  place-alone image = rw (load-ends (after s h) held.sound k image, next-reply (loads image))

  pub clear-alone : (clear_call (after s h) k).answer ≡ (clear (alone k s h)).answer
  unfolding said_to hear number_in
  clear-alone = rw (clear-ends (after s h) held.sound k, next-reply clears)

  pub runs-alone : (schedule answers : List ℕ) → (run_call (after s h) schedule answers).answer ≡ run_number schedule answers
  runs-alone = run-number (after s h) held.sound

  -- a run of one entry, on a buffer with room for its answer and on one without
  pub entry-alone : (p a : ℕ) (answers : List ℕ) → (run_call (after s h) (k ∷ p ∷ []) (a ∷ answers)).answers ≡ (turn (alone k s h) p).answer ∷ answers
  unfolding run_call run_with claims_of ran_on entries replies over hear number_in
  entry-alone p a answers = rw (held.sound, le-leb 1 (suc (length answers)) (omega arith), next-reply (picks p))

  pub entry-short : (p : ℕ) → (run_call (after s h) (k ∷ p ∷ []) []).answers ≡ []
  unfolding run_call run_with claims_of
  entry-short p = rw held.sound

-- ---- two histories

-- "two runs opened with the same shares that agree on these agree on all of that claim, whatever the neighbours do"
pub indistinguishable : (k : ℕ) (s₁ : State) (h₁ : List Call) (s₂ : State) (h₂ : List Call) → All Bytes h₁ → All Bytes h₂ → k < length (shares_of s₁ h₁)
    → shares_of s₁ h₁ ≡ shares_of s₂ h₂ → trace_of (log_of k s₁ h₁) ≡ trace_of (log_of k s₂ h₂) → Agree k s₁ h₁ s₂ h₂
indistinguishable k s₁ h₁ s₂ h₂ b₁ b₂ l₁ shares traces =
    let l₂ : k < length (shares_of s₂ h₂) = rw shares at l₁ in
    let same : alone k s₁ h₁ ≡ alone k s₂ h₂ = rw (shares, traces) in
    record {
      claim = isolation k s₁ h₁ l₁ b₁ ∙ same ∙ sym (isolation k s₂ h₂ l₂ b₂);
      bytes = bytes-alone k s₁ h₁ l₁ b₁ ∙ ap laid_claim same ∙ sym (bytes-alone k s₂ h₂ l₂ b₂);
      report = report-alone k s₁ h₁ l₁ b₁ ∙ ap (λ (c : Claim). shown 0 (report c)) same ∙ sym (report-alone k s₂ h₂ l₂ b₂);
      log = isolated-log k s₁ h₁ l₁ b₁ ∙ rw (shares, traces) (sym (isolated-log k s₂ h₂ l₂ b₂));
      entry = λ p answers. entries-agree p answers same l₂;
      run = λ schedule answers. runs-alone k s₁ h₁ l₁ b₁ schedule answers ∙ sym (runs-alone k s₂ h₂ l₂ b₂ schedule answers);
      load = λ image. load-alone k s₁ h₁ l₁ b₁ image ∙ ap (λ (c : Claim). (load c image).number) same ∙ sym (load-alone k s₂ h₂ l₂ b₂ image);
      place = λ image. place-alone k s₁ h₁ l₁ b₁ image ∙ ap (λ (c : Claim). (load c image).place) same ∙ sym (place-alone k s₂ h₂ l₂ b₂ image);
      clear = clear-alone k s₁ h₁ l₁ b₁ ∙ ap (λ (c : Claim). (clear c).answer) same ∙ sym (clear-alone k s₂ h₂ l₂ b₂);
    }
  where
    entries-agree : (p : ℕ) (answers : List ℕ) → alone k s₁ h₁ ≡ alone k s₂ h₂ → k < length (shares_of s₂ h₂)
        → (run_call (after s₁ h₁) (k ∷ p ∷ []) answers).answers ≡ (run_call (after s₂ h₂) (k ∷ p ∷ []) answers).answers
    entries-agree p [] same l₂ = entry-short k s₁ h₁ l₁ b₁ p ∙ sym (entry-short k s₂ h₂ l₂ b₂ p)
    entries-agree p (a ∷ answers) same l₂ =
        entry-alone k s₁ h₁ l₁ b₁ p a answers ∙ ap (λ (c : Claim). (turn c p).answer ∷ answers) same ∙ sym (entry-alone k s₂ h₂ l₂ b₂ p a answers)
