-- An instruction that a reader accepted leaves threads that stand at instructions, fills a cell with what is well formed, and has room. Assumes nothing.
use Prim.Native.Nat.{ℕ, ◌+◌, ◌≤◌, ◌<◌}
use native.Mathlib.Omega.{arith}
use mathlib.Core.Path.{◌≡◌, refl}
use mathlib.Core.Bool.{Bool, true, false}
use lib.ListN.{length}
use lib.Dec.{leb, eqb}
use borrow.Author.Tests.{leb-true, le-leb, eqb-false}
use Rattle.std.specs.Prelude.{if◌then◌else◌, Option, Some, None, Result, Ok, Err}
use Rattle.laws.proofs.Choice.{either_way, first, second}
use Rattle.laws.proofs.Every.{all-get}
use Rattle.value.specs.declared.Value.{Value}
use Rattle.value.specs.declared.Value.TheVariants.{Nil, Location}
use Rattle.value.specs.declared.refusals.Refusal.{Refusal}
use Rattle.value.specs.declared.refusals.Refusal.TheVariants.{NoCellsLeft, NoThreadsLeft}
use Rattle.value.specs.Refusals.{refusal_number}
use Rattle.value.specs.Range.{well_formed}
use Rattle.numbers.specs.Integers.{moved}
use Rattle.numbers.proofs.WellFormed.{moved-well-formed}
use Rattle.kinds.specs.declared.Instruction.{Instruction}
use Rattle.kinds.specs.declared.Instruction.TheVariants as I
use Rattle.kinds.specs.Flows.{flow_of, closes, targets}
use Rattle.kinds.specs.Operands.{sane}
use Rattle.image.specs.declared.reader.Layout.{Layout}
use Rattle.image.specs.Reading.{read_image, start, all_start}
use Rattle.image.specs.Promise.{Whole}
use Rattle.rules.specs.declared.Kind.{Kind}
use Rattle.rules.specs.declared.Kind.TheVariants.{Icell, Mcell}
use Rattle.rules.specs.declared.Slot.{Slot}
use Rattle.rules.specs.declared.Thread.{Thread}
use Rattle.rules.specs.declared.Effect.{Effect}
use Rattle.rules.specs.declared.Effect.TheVariants.{Goes, Ends, Waits, Fills, Empties, Makes, Spawns, Refuses}
use Rattle.rules.specs.Tests.{value_in, location_of, integer_of, truth_of, size_of, ◌>>=◌}
use Rattle.rules.specs.Decide.{thread, with_first, if_full, if_empty, gives, fetches, stores, makes, allocates, decide}
use Rattle.rules.specs.Claim.{Claim, look, view, room, nobody, thread_at}
use Rattle.rules.specs.Turn.{code_of, decided, effect_at}
use Rattle.rules.proofs.Numbered.{Finds, holds, lacks, neither, finds}
use Rattle.soundness.proofs.Tests.{Formed, Near, Yields, Seen, value_in_lem, location-of, with_first_lem}
use Rattle.soundness.proofs.Cells.{look-seen}
use Rattle.soundness.proofs.Claims.{Runs, Roomy, promise, Sound}

module _ (c : Claim) (g : Layout) where
  abbrev On : Thread → Type 0
  On t = Runs c.image g.code t

  -- the threads that an effect leaves, the value that it fills a cell with, and the room that it takes
  abbrev pub Keeps : Effect → Type 0
  Keeps (Goes t) = On t
  Keeps Ends = Unit {0}
  Keeps (Waits t l) = On t
  Keeps (Fills t k l v) = Formed v × On t
  Keeps (Empties t l) = On t
  Keeps (Makes t k n) = (length c.cells + n ≤ c.seat.cells) × On t
  Keeps (Spawns t new) = (length c.row < c.seat.threads) × (On new × On t)
  Keeps (Refuses n) = Unit {0}

  -- once room is tested: for lack of it an effect is a refusal
  data Does : Effect → Type 0 where
    does : {e : Effect} → Keeps (room c e) → Does e

  done : {e : Effect} → Does e → Keeps (room c e)
  done (does k) = k

  bind : {A : Type 0} (t : Result A Refusal) {f : A → Effect} → ((a : A) → t ≡ Ok a → Does (f a)) → Does (t >>= f)
  unfolding room
  bind (Ok a) k = k a refl
  bind (Err n) k = does tt

  if-full : {k : Kind} {s : Slot} {h : Result (Option Value) Refusal} {f : Value → Effect} {e : Effect} → Finds k s h → Seen s → ((v : Value) → Formed v → Does (f v)) → Does e → Does (if_full f e h)
  unfolding if_full room
  if-full (holds {v = v}) p k w = k v p
  if-full lacks p k w = w
  if-full (neither e) p k w = does tt

  if-empty : {e : Effect} (h : Result (Option Value) Refusal) → Does e → Does (if_empty e h)
  unfolding if_empty room
  if-empty (Ok (Some v)) w = does tt
  if-empty (Ok None) w = w
  if-empty (Err n) w = does tt

  module _ (s : Sound c g) (roomy : Roomy c.seat) where
    module _ (after : ℕ) (th : Thread) (runs : On th) where
      abbrev slot : ℕ → Result Value Refusal
      slot k = value_in (look c (th.frame + k))

      abbrev location : ℕ → Result ℕ Refusal
      location k = location_of (slot k)

      whole : (k : ℕ) → Yields Formed (slot k)
      whole k = value_in_lem (look c (th.frame + k)) (look-seen c s.cells (th.frame + k))

      near : (k : ℕ) → Yields Near (location k)
      near k = location-of (slot k) (whole k)

      again : On (thread th.position th.frame Nil)
      unfolding well_formed
      again = record { frame = runs.frame; acc = refl; at = runs.at }

      module _ (on : start c.image g.code after ≡ true) where
        next : {v : Value} → Formed v → On (thread after th.frame v)
        next h = record { frame = runs.frame; acc = h; at = on }

        given : (k : Kind) (l : ℕ) (v : Value) → Formed v → Does (gives after (view c) th k l v)
        unfolding gives room
        given Icell l v h = does (next h)
        given Mcell l v h = does (next h)

        fetched : (kind : Kind) (s k : ℕ) → Does (fetches after (view c) th kind s k)
        unfolding fetches room
        fetched kind t k = bind (location t) λ l _. if-full (finds kind (look c (l + k))) (look-seen c s.cells (l + k)) (given kind (l + k)) (does again)

        stored : (kind : Kind) (s t : ℕ) → Does (stores after (view c) th kind s t)
        unfolding stores room
        stored kind t u = bind (location t) λ l _. bind (slot u) λ v e. if-empty _ (does (whole u v e, next runs.acc))

        made : (kind : Kind) (n : ℕ) → Does (makes after (view c) th kind n)
        unfolding makes room well_formed
        made kind n =
            does (either_way Keeps (leb (length c.cells + n) c.seat.cells) {a = Makes (thread after th.frame (Location (view c).fresh)) kind n} {b = Refuses (refusal_number NoCellsLeft)}
            (λ p. (leb-true _ _ p, next (le-leb (c.seat.start + length c.cells) 65535 (omega (arith, s.used, roomy.region))))) (λ _. tt))

        allocated : (kind : Kind) (s : ℕ) → Does (allocates after (view c) th kind s)
        unfolding allocates
        allocated kind t = bind (size_of (integer_of (slot t))) λ n _. made kind n

        spawned : (new : Thread) → On new → Does (Spawns (thread after th.frame th.acc) new)
        unfolding room
        spawned new o =
            does (either_way Keeps (eqb (length c.row) c.seat.threads) {a = Refuses (refusal_number NoThreadsLeft)} {b = Spawns (thread after th.frame th.acc) new} (λ _. tt)
            (λ p. let d = eqb-false (length c.row) c.seat.threads p in (omega (arith, s.live), (o, next runs.acc))))

      abbrev Aims : Instruction → Type 0
      Aims i = all_start c.image g.code (targets (flow_of i)) ≡ true

      abbrev Onward : Instruction → Type 0
      Onward i = closes (flow_of i) ≡ false → start c.image g.code after ≡ true

      decide-keeps : (i : Instruction) → sane i ≡ true → Aims i → Onward i → Does (decide after (view c) th i)
      unfolding decide room sane flow_of closes targets all_start well_formed
      decide-keeps I.End h a n = does tt
      decide-keeps (I.Int z) h a n = does (next (n refl) h)
      decide-keeps (I.Float x) h a n = does (next (n refl) h)
      decide-keeps (I.Bool b) h a n = does (next (n refl) refl)
      decide-keeps I.Nil h a n = does (next (n refl) refl)
      decide-keeps I.Own h a n = does (next (n refl) runs.frame)
      decide-keeps (I.Load t) h a n = bind (slot t) λ v e. does (next (n refl) (whole t v e))
      decide-keeps (I.Touch t) h a n = if-full (finds Icell _) (look-seen c s.cells (th.frame + t)) (λ v p. does (next (n refl) refl)) (does (next (n refl) refl))
      decide-keeps (I.Ifetch t) h a n = fetched (n refl) Icell t 0
      decide-keeps (I.Get t k) h a n = fetched (n refl) Icell t k
      decide-keeps (I.Mfetch t) h a n = fetched (n refl) Mcell t 0
      decide-keeps (I.Store t) h a n = if-empty _ (does (runs.acc, next (n refl) runs.acc))
      decide-keeps (I.Put t k) h a n = bind (location t) λ l _. if-empty _ (does (runs.acc, next (n refl) runs.acc))
      decide-keeps (I.Istore t u) h a n = stored (n refl) Icell t u
      decide-keeps (I.Mstore t u) h a n = stored (n refl) Mcell t u
      decide-keeps (I.Ialloc t) h a n = allocated (n refl) Icell t
      decide-keeps (I.Malloc t) h a n = allocated (n refl) Mcell t
      decide-keeps (I.Frame m) h a n = made (n refl) Icell m
      decide-keeps (I.Spawn p) h a n = spawned (n refl) _ (record { frame = runs.frame; acc = refl; at = first _ _ a })
      decide-keeps (I.Apply p t) h a n = bind (location t) λ l e. spawned (n refl) _ (record { frame = near t l e; acc = refl; at = first _ _ a })
      decide-keeps (I.Binary o t u) h a n = bind (with_first o (slot t) (slot u)) λ v e. does (next (n refl) (with_first_lem o _ _ v e))
      decide-keeps (I.Offset t u) h a n = bind (location t) λ l _. bind (integer_of (slot u)) λ z _. bind (moved l z) λ m e. does (next (n refl) (moved-well-formed l z m e))
      decide-keeps (I.Switch t p q) h a n = bind (truth_of (slot t)) λ b _. does (record { frame = runs.frame; acc = runs.acc; at = to b })
        where
          to : (b : Bool) → start c.image g.code (if b then p else q) ≡ true
          to true = first _ _ a
          to false = first _ _ (second _ _ a)

    pub effect-keeps : read_image c.image ≡ Ok g → (i : ℕ) → i < length c.row → Keeps (effect_at c i)
    unfolding effect_at decided code_of
    effect-keeps e i h = rw (e, w.fetched) (done (decide-keeps w.after (thread_at c i) t w.instruction w.operands w.aims w.goes_on))
      where
        t : On (thread_at c i)
        t = (all-get i nobody s.row h).runs

        w : Whole c.image g.code (thread_at c i).position
        w = (promise c.image s.bytes e).whole (thread_at c i).position t.at
