-- The theorems speak of something: from any bytes that are long enough, W1 on seat 0 finishes with 12, the same beside a busy neighbour, and that neighbour is seen to differ. Assumes nothing.
use Prim.Native.Nat.{ℕ, ◌≤◌, ◌<◌}
use native.Mathlib.Omega.{arith}
use mathlib.Core.Path.{◌≡◌, refl, sym, ap, ◌∙◌}
use mathlib.Core.Logic.{◌≢◌}
use mathlib.Core.Bool.{true}
use mathlib.Core.List.{List, [], ◌∷◌, ◌++◌}
use lib.IntN.{pos}
use lib.ListN.{length, replicate, length-replicate}
use Rattle.laws.proofs.Absurd.{clash}
use Rattle.laws.proofs.Every.{All, all_nil, all_cons}
use Rattle.value.specs.declared.Value.TheVariants.{Integer}
use Rattle.std.specs.Prelude.{Some, None}
use Rattle.rules.specs.declared.Status.TheVariants.{Vacant, Running, Finished}
use Rattle.rules.specs.Claim.{Claim}
use Rattle.rules.specs.Calls.{picks, loads, message, entries, Share, report}
use Rattle.rules.specs.History.{Happening, opens, says, shares_after, trace, fresh, replay, counted}
use Rattle.rules.specs.Sheets.{share, int}
use Rattle.rules.proofs.Worked.{compute}
use Rattle.state.specs.State.{State, state, long}
use Rattle.state.proofs.Stands.{enough-long}
use Rattle.calls.specs.Calls.{shares_in, Shown, shown, open_call, report_call}
use Rattle.histories.specs.History.{Call, opening, running, loading, after, shares_of, Bytes}
use Rattle.histories.specs.Agree.{Agree}
use Rattle.histories.proofs.Ends.{run-number}
use Rattle.histories.proofs.Lasting.{history-sound}
use Rattle.histories.proofs.Retold.{said, retold, retold-shares}
use Rattle.histories.proofs.Isolation.{traced, report-alone, indistinguishable}

-- two seats of 8 cells and 4 threads
abbrev two_seats : Call
two_seats = opening (8 ∷ 4 ∷ 8 ∷ 4 ∷ [])

-- W1's image, with any inputs below 256
abbrev adds : ℕ → ℕ → List ℕ
adds a b = 0x80 ∷ 3 ∷ 0x81 ∷ int a ++ 0x81 ∷ int b ++ 0x85 ∷ 0x10 ∷ 1 ∷ 2 ∷ 0x07 ∷ 0 ∷ 0x00 ∷ []

-- newest call first: seat 0 is loaded and runs, and seat 1 stays vacant
abbrev loaded_one : List Call
loaded_one = loading 0 (adds 5 7) ∷ two_seats ∷ []

abbrev quiet : List Call
quiet = running (0 ∷ 0 ∷ 0 ∷ 0 ∷ 0 ∷ 0 ∷ []) (9 ∷ 9 ∷ 9 ∷ []) ∷ loaded_one

-- or seat 1 is loaded too, and has entries in between
abbrev loaded_both : List Call
loaded_both = loading 1 (adds 1 1) ∷ loaded_one

abbrev busy : List Call
busy = running (1 ∷ 0 ∷ 0 ∷ 0 ∷ 0 ∷ 0 ∷ 1 ∷ 7 ∷ 0 ∷ 0 ∷ []) (9 ∷ 9 ∷ 9 ∷ 9 ∷ 9 ∷ 9 ∷ []) ∷ loaded_both

-- the same in the rules' words
abbrev two : List Share
two = share 8 4 ∷ share 8 4 ∷ []

abbrev opened_two : List Happening
opened_two = opens two ∷ []

abbrev quiet_told : List Happening
quiet_told = says (message 0 (picks 0)) ∷ says (message 0 (picks 0)) ∷ says (message 0 (picks 0)) ∷ says (message 0 (loads (adds 5 7))) ∷ opened_two

abbrev busy_told : List Happening
busy_told =
    says (message 0 (picks 0)) ∷ says (message 1 (picks 7)) ∷ says (message 0 (picks 0)) ∷ says (message 0 (picks 0)) ∷ says (message 1 (picks 0))
    ∷ says (message 1 (loads (adds 1 1))) ∷ says (message 0 (loads (adds 5 7))) ∷ opened_two

one-bytes : All Bytes loaded_one
unfolding compute
one-bytes = all_cons refl (all_cons tt all_nil)

both_bytes : All Bytes loaded_both
unfolding compute
both_bytes = all_cons refl one-bytes

-- there are such bytes
enough : (n : ℕ) → n ≤ length {A = ℕ} (replicate n 0)
enough n = rw (length-replicate {A = ℕ} n 0) (omega arith)

pub some-long : long (state (replicate 72 0) (replicate 2048 0) (replicate 2048 0) (replicate 256 0) (replicate 256 0) (replicate 32768 0)) ≡ true
some-long = enough-long _ (record { book = enough 72; tags = enough 2048; words = enough 2048; heads = enough 256; accs = enough 256; image = enough 32768 })

module _ (s : State) (l : long s ≡ true) where
  goes : (open_call (after s []) (8 ∷ 4 ∷ 8 ∷ 4 ∷ [])).answer ≡ 0
  unfolding after open_call shares_in compute
  goes = rw l

  one_told : retold s loaded_one ≡ says (message 0 (loads (adds 5 7))) ∷ opened_two
  unfolding retold shares_in
  one_told = rw goes

  two-seats : shares_of s loaded_one ≡ two
  unfolding shares_of shares_in
  two-seats = rw goes

  seat : (k : ℕ) → k < 2 → k < length (shares_of s loaded_one)
  seat k h = rw two-seats h

  quiet_told_lem : retold s quiet ≡ quiet_told
  unfolding retold said entries
  quiet_told_lem = rw (run-number (after s loaded_one) (history-sound s loaded_one (rw two-seats) one-bytes) _ _, one_told)

  busy-told : retold s busy ≡ busy_told
  unfolding retold said entries shares_of
  busy-told = rw (run-number (after s loaded_both) (history-sound s loaded_both (rw two-seats) both_bytes) _ _, one_told)

  -- seat k's report, by the rules
  shows : (k : ℕ) (h : List Call) (g : List Happening) → k < length (shares_of s h) → All Bytes h → retold s h ≡ g
      → report_call (after s h) k ≡ shown 0 (report (replay (fresh (shares_after g) k) (trace k g)))
  shows k h g i b e =
      report-alone k s h i b ∙ ap (λ (c : Claim). shown 0 (report c)) (rw (← retold-shares s h, ← traced k s h i b, e))

  -- seat 0 finishes with 12 after 3 steps
  pub quiet-0 : report_call (after s quiet) 0 ≡ shown 0 (record { status = Finished; refusal = 0; position = 0; used = 3; live = 0; steps = 3; result = Some (Integer (pos 12)) })
  unfolding compute shares_of shares_after trace counted fresh replay
  quiet-0 = shows 0 quiet quiet_told (seat 0 (omega arith)) (all_cons tt one-bytes) quiet_told_lem

  -- whatever its neighbour does
  pub busy-agrees : Agree 0 s quiet s busy
  unfolding compute shares_of trace counted
  busy-agrees =
      let a : All Bytes quiet = all_cons tt one-bytes in
      let b : All Bytes busy = all_cons tt both_bytes in
      let l = seat 0 (omega arith) in
      indistinguishable 0 s quiet s busy a b l refl (sym (traced 0 s quiet l a) ∙ ap (trace 0) quiet_told_lem ∙ sym (ap (trace 0) busy-told) ∙ traced 0 s busy l b)

  -- which is not the same in both
  quiet-1 : report_call (after s quiet) 1 ≡ shown 0 (record { status = Vacant; refusal = 0; position = 0; used = 0; live = 0; steps = 0; result = None })
  unfolding compute shares_of shares_after trace counted fresh replay
  quiet-1 = shows 1 quiet quiet_told (seat 1 (omega arith)) (all_cons tt one-bytes) quiet_told_lem

  busy-1 : report_call (after s busy) 1 ≡ shown 0 (record { status = Running; refusal = 0; position = 0; used = 3; live = 1; steps = 1; result = None })
  unfolding compute shares_of shares_after trace counted fresh replay
  busy-1 = shows 1 busy busy_told (seat 1 (omega arith)) (all_cons tt both_bytes) busy-told

  pub neighbours_differ : report_call (after s quiet) 1 ≢ report_call (after s busy) 1
  neighbours_differ e = clash (ap (λ (r : Shown). r.report.steps) (sym quiet-1 ∙ e ∙ busy-1))
