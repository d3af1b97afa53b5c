-- What the calls of a turn answered, put together: what the instruction asks for, and the turn. Assumes nothing.
use Prim.Native.Nat.{ℕ, ◌%◌}
use mathlib.Core.Path.{◌≡◌, sym, ◌∙◌, ap}
use mathlib.Core.List.{List}
use lib.ListN.{get_or, take}
use Rattle.kinds.specs.declared.Instruction.{Instruction}
use Rattle.std.specs.Prelude.{Option, Some, None, Result, Ok, Err}
use Rattle.image.specs.Records.{fetched_at}
use Rattle.rules.specs.declared.Answer.{Answer}
use Rattle.rules.specs.Turn.{answer_number}
use Rattle.rules.specs.declared.Thread.{Thread}
use Rattle.rules.specs.declared.Effect.{Effect}
use Rattle.rules.specs.declared.Effect.TheVariants.{Ends}
use Rattle.rules.specs.Decide.{decide}
use Rattle.cells.specs.Lent.{view_on}
use Rattle.threads.specs.Heads.{thread_in}
use Rattle.threads.specs.Row.{found_from}
use Rattle.book.specs.declared.Tally.{Tally}
use Rattle.book.specs.Book.{tally_in}
use Rattle.effects.specs.Enacted.{Parts, Turned, turned, enacted}
use Rattle.turn.specs.Turn.{gate_of, decided_on, asked_in, effect_in, effect_on, passed, turn_on}

module _ (image : List ℕ) (start : ℕ) (n : Tally) (tags words : List ℕ) (th : Thread) where
  -- an instruction stands there
  pub asks : {f : Option (Instruction × ℕ)} {i : Instruction} {after x : ℕ} {r : Effect} → f ≡ fetched_at image n.code th.position → f ≡ Some (i, after) → x ≡ after % 65536
      → r ≡ decide x (view_on tags words n.used start) th i → r ≡ asked_in image start n tags words th
  unfolding asked_in decided_on
  asks p q s d = rw (sym p ∙ q, ← s) d

  pub asks-end : {f : Option (Instruction × ℕ)} → f ≡ fetched_at image n.code th.position → f ≡ None → Ends ≡ asked_in image start n tags words th
  unfolding asked_in decided_on
  asks-end p q = rw (sym p ∙ q)

module _ (image : List ℕ) (start pick : ℕ) (p : Parts) where
  gated : {n : Tally} {g : Result ℕ Answer} → n ≡ tally_in p.book → g ≡ gate_of n (found_from pick 0 0 (take n.live p.heads)) → turn_on image start pick p ≡ passed g image start p
  unfolding turn_on
  gated pn pg = ap (λ (x : Result ℕ Answer). passed x image start p) (sym (pg ∙ ap (λ (x : Tally). gate_of x (found_from pick 0 0 (take x.live p.heads))) pn))

  pub stopped : {n : Tally} {g : Result ℕ Answer} {a : Answer} → n ≡ tally_in p.book → g ≡ gate_of n (found_from pick 0 0 (take n.live p.heads)) → g ≡ Err a → turn_on image start pick p ≡ turned (answer_number a) p
  unfolding passed
  stopped pn pg e = gated pn pg ∙ rw e

  pub gone : {n : Tally} {g : Result ℕ Answer} {i h w : ℕ} {th : Thread} {e : Effect} {q : Turned} → n ≡ tally_in p.book → g ≡ gate_of n (found_from pick 0 0 (take n.live p.heads)) → g ≡ Ok i
      → h ≡ get_or p.heads i 0 → w ≡ get_or p.accs i 0 → th ≡ thread_in h w → e ≡ asked_in image start n p.tags p.words th
      → enacted e start i p ≡ q → turn_on image start pick p ≡ q
  unfolding passed effect_on effect_in enacted
  gone {n} {i = i} {h} {w} {th} {e} pn pg pi ph pw pt pe pq =
      let t : th ≡ thread_in (get_or p.heads i 0) (get_or p.accs i 0) = pt ∙ rw (ph, pw) in
      let x : asked_in image start (tally_in p.book) p.tags p.words (thread_in (get_or p.heads i 0) (get_or p.accs i 0)) ≡ e =
      sym (pe ∙ ap (asked_in image start n p.tags p.words) t ∙ ap (λ (y : Tally). asked_in image start y p.tags p.words (thread_in (get_or p.heads i 0) (get_or p.accs i 0))) pn) in
      gated pn pg ∙ rw (pi, x) pq
