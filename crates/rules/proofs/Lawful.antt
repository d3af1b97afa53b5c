-- What an instruction may do: fill an empty cell of its own kind, wait on an empty cell, empty a full M-cell, be refused by a number 1 to 9, or leave the cells alone. Assumes nothing.
use Prim.Native.Nat.{ℕ, ◌+◌}
use native.Mathlib.Nat.{add-zero}
use mathlib.Core.Bool.{true}
use mathlib.Core.Path.{◌≡◌, refl, sym, ap, ◌∙◌}
use lib.ListN.{length}
use lib.Dec.{leb, eqb}
use Rattle.laws.proofs.Choice.{either_way}
use Rattle.value.specs.declared.Value.{Value}
use Rattle.kinds.specs.declared.Instruction.{Instruction}
use Rattle.kinds.specs.declared.Instruction.TheVariants as I
use Rattle.std.specs.Prelude.{Option, Some, None, Result, Ok, Err}
use Rattle.value.specs.declared.refusals.Refusal.{Refusal}
use Rattle.numbers.specs.Integers.{moved}
use Rattle.rules.specs.declared.Kind.{Kind}
use Rattle.rules.specs.declared.Kind.TheVariants.{Icell, Mcell}
use Rattle.rules.specs.declared.Slot.{Slot}
use Rattle.rules.specs.declared.Thread.{Thread}
use Rattle.rules.specs.declared.Effect.{Effect}
use Rattle.rules.specs.declared.Effect.TheVariants.{Goes, Ends, Waits, Fills, Empties, Makes, Spawns, Refuses}
use Rattle.rules.specs.Tests.{value_in, location_of, integer_of, truth_of, size_of, ◌>>=◌}
use Rattle.rules.specs.Decide.{with_first, if_full, if_empty, gives, fetches, stores, makes, allocates, decide}
use Rattle.rules.specs.Claim.{Claim, look, view, room}
use Rattle.rules.specs.Turn.{decided, effect_at}
use Rattle.rules.proofs.Numbered.{nine, numbered, Finds, holds, lacks, neither, finds}

module _ (c : Claim) where
  pub data Lawful : Effect → Type 0 where
    goes : {t : Thread} → Lawful (Goes t)
    ends : Lawful Ends
    waits : {k : Kind} {l : ℕ} {t : Thread} → look c l ≡ Slot.Empty k → Lawful (Waits t l)
    fills : {k : Kind} {l : ℕ} {v : Value} {t : Thread} → look c l ≡ Slot.Empty k → Lawful (Fills t k l v)
    empties : {l : ℕ} {v : Value} {t : Thread} → look c l ≡ Slot.Full Mcell v → Lawful (Empties t l)
    makes-some : {k : Kind} {n : ℕ} {t : Thread} → Lawful (Makes t k n)
    spawns : {new t : Thread} → Lawful (Spawns t new)
    refuses : {n : ℕ} → nine n ≡ true → Lawful (Refuses n)

  bind : {A : Type 0} (t : Result A Refusal) {f : A → Effect} → ((a : A) → Lawful (f a)) → Lawful (t >>= f)
  bind (Ok a) k = k a
  bind (Err r) k = refuses (numbered r)

  full-lawful : {k : Kind} {s : Slot} {h : Result (Option Value) Refusal} {f : Value → Effect} {e : Effect} → Finds k s h → ((v : Value) → s ≡ Slot.Full k v → Lawful (f v)) → (s ≡ Slot.Empty k → Lawful e) → Lawful (if_full f e h)
  unfolding if_full
  full-lawful (holds {v = v}) g w = g v refl
  full-lawful lacks g w = w refl
  full-lawful (neither e) g w = refuses e

  empty-lawful : {k : Kind} {s : Slot} {h : Result (Option Value) Refusal} {e : Effect} → Finds k s h → (s ≡ Slot.Empty k → Lawful e) → Lawful (if_empty e h)
  unfolding if_empty
  empty-lawful holds g = refuses refl
  empty-lawful lacks g = g refl
  empty-lawful (neither e) g = refuses e

  module _ (after : ℕ) (th : Thread) where
    abbrev slot : ℕ → Result Value Refusal
    slot s = value_in (look c (th.frame + s))

    abbrev location : ℕ → Result ℕ Refusal
    location s = location_of (slot s)

    gives-lawful : (k : Kind) (l : ℕ) (v : Value) → look c l ≡ Slot.Full k v → Lawful (gives after (view c) th k l v)
    unfolding gives
    gives-lawful Icell l v e = goes
    gives-lawful Mcell l v e = empties e

    fetches-lawful : (k : Kind) (s d : ℕ) → Lawful (fetches after (view c) th k s d)
    unfolding fetches
    fetches-lawful k s d = bind (location s) λ l. full-lawful (finds k (look c (l + d))) (λ v e. gives-lawful k (l + d) v e) waits

    stores-lawful : (k : Kind) (s t : ℕ) → Lawful (stores after (view c) th k s t)
    unfolding stores
    stores-lawful k s t = bind (location s) λ l. bind (slot t) λ v. empty-lawful (finds k (look c (l + 0))) λ e. fills (ap (look c) (sym (add-zero l)) ∙ e)

    allocates-lawful : (k : Kind) (s : ℕ) → Lawful (allocates after (view c) th k s)
    unfolding allocates makes
    allocates-lawful k s = bind (size_of (integer_of (slot s))) λ n. makes-some

    pub decide-lawful : (i : Instruction) → Lawful (decide after (view c) th i)
    unfolding decide makes
    decide-lawful I.End = ends
    decide-lawful (I.Int z) = goes
    decide-lawful (I.Float x) = goes
    decide-lawful (I.Bool b) = goes
    decide-lawful I.Nil = goes
    decide-lawful I.Own = goes
    decide-lawful (I.Load s) = bind (slot s) λ v. goes
    decide-lawful (I.Touch s) = full-lawful (finds Icell _) (λ v e. goes) waits
    decide-lawful (I.Ifetch s) = fetches-lawful Icell s 0
    decide-lawful (I.Get s k) = fetches-lawful Icell s k
    decide-lawful (I.Mfetch s) = fetches-lawful Mcell s 0
    decide-lawful (I.Store s) = empty-lawful (finds Icell _) λ e. fills e
    decide-lawful (I.Put s k) = bind (location s) λ l. empty-lawful (finds Icell _) λ e. fills e
    decide-lawful (I.Istore s t) = stores-lawful Icell s t
    decide-lawful (I.Mstore s t) = stores-lawful Mcell s t
    decide-lawful (I.Ialloc s) = allocates-lawful Icell s
    decide-lawful (I.Malloc s) = allocates-lawful Mcell s
    decide-lawful (I.Frame n) = makes-some
    decide-lawful (I.Spawn a) = spawns
    decide-lawful (I.Apply a s) = bind (location s) λ l. spawns
    decide-lawful (I.Binary o s t) = bind (with_first o (slot s) (slot t)) λ v. goes
    decide-lawful (I.Offset s t) = bind (location s) λ l. bind (integer_of (slot t)) λ z. bind (moved l z) λ m. goes
    decide-lawful (I.Switch s a b) = bind (truth_of (slot s)) λ b. goes

  room-lawful : {e : Effect} → Lawful e → Lawful (room c e)
  unfolding room
  room-lawful goes = goes
  room-lawful ends = ends
  room-lawful (waits e) = waits e
  room-lawful (fills e) = fills e
  room-lawful (empties e) = empties e
  room-lawful (makes-some {n = n}) = either_way Lawful (leb (length c.cells + n) c.seat.cells) (λ _. makes-some) (λ _. refuses refl)
  room-lawful spawns = either_way Lawful (eqb (length c.row) c.seat.threads) (λ _. refuses refl) (λ _. spawns)
  room-lawful (refuses e) = refuses e

  decided-lawful : (f : Option (Instruction × ℕ)) (th : Thread) → Lawful (decided f (view c) th)
  unfolding decided
  decided-lawful (Some (i, after)) th = decide-lawful after th i
  decided-lawful None th = ends

  pub effect-lawful : (i : ℕ) → Lawful (effect_at c i)
  unfolding effect_at
  effect-lawful i = room-lawful (decided-lawful _ _)
