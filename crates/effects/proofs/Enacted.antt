-- What the calls of `perform` wrote, effect by effect, is the effect enacted. Assumes nothing.
use Prim.Native.Nat.{ℕ, ◌+◌, ◌-◌}
use mathlib.Core.Path.{◌≡◌, refl, sym, ◌∙◌, ap}
use mathlib.Core.Bool.{true, false}
use mathlib.Core.List.{List}
use lib.ListN.{get_or, set}
use lib.Dec.{leb, ltb}
use Rattle.value.specs.declared.Value.{Value}
use Rattle.value.specs.Coding.{word_of}
use Rattle.value.specs.declared.refusals.Refusal.TheVariants.{NoCellsLeft, NoThreadsLeft}
use Rattle.value.specs.Refusals.{refusal_number}
use Rattle.lent.specs.Runs.{filled_from}
use Rattle.lent.proofs.Kept.{set_same, set-beside}
use Rattle.rules.specs.declared.Kind.{Kind}
use Rattle.rules.specs.declared.Kind.TheVariants.{Mcell}
use Rattle.rules.specs.declared.Thread.{Thread}
use Rattle.rules.specs.declared.Effect.{Effect}
use Rattle.rules.specs.declared.Effect.TheVariants.{Goes, Ends, Waits, Fills, Empties, Makes, Spawns, Refuses}
use Rattle.rules.specs.Turn.{answer_of}
use Rattle.cells.specs.Lent.{kind_bit, tag_for}
use Rattle.cells.specs.Written.{set_below, tags_after, words_after}
use Rattle.threads.specs.Heads.{ready_place, wait_place}
use Rattle.threads.specs.Row.{Row, row, put_at, taken_at, woken_at, row_after}
use Rattle.book.specs.Book.{tally_in, book_with, sum_or, narrow, tally_with, tally_after, room_in}
use Rattle.effects.specs.Enacted.{Parts, parts, turned, performed, enacted}

-- the book after a step, by what changed in it
module _ (b : List ℕ) where
  pub book-kept : set b 8 (sum_or (get_or b 8 0) 1) ≡ book_with (tally_with (tally_in b) (get_or b 4 0) (get_or b 5 0) (get_or b 6 0) (get_or b 7 0)) b
  unfolding book_with tally_in
  book-kept = rw (set_same b 4 0, set_same b 5 0, set_same b 6 0, set_same b 7 0)

  pub book-live : (x : ℕ) → set (set b 5 x) 8 (sum_or (get_or b 8 0) 1) ≡ book_with (tally_with (tally_in b) (get_or b 4 0) x (get_or b 6 0) (get_or b 7 0)) b
  unfolding book_with tally_in
  book-live x = rw (set_same b 4 0, set-beside b 5 6 x refl, set-beside b 5 7 x refl)

  pub book-used : (x : ℕ) → set (set b 4 x) 8 (sum_or (get_or b 8 0) 1) ≡ book_with (tally_with (tally_in b) x (get_or b 5 0) (get_or b 6 0) (get_or b 7 0)) b
  unfolding book_with tally_in
  book-used x = rw (set-beside b 4 5 x refl, set-beside b 4 6 x refl, set-beside b 4 7 x refl)

  pub book-refused : (m h : ℕ) → set (set (set b 6 m) 7 h) 8 (sum_or (get_or b 8 0) 1) ≡ book_with (tally_with (tally_in b) (get_or b 4 0) (get_or b 5 0) m h) b
  unfolding book_with tally_in
  book-refused m h = rw (set_same b 4 0, set_same b 5 0)

module _ (e : Effect) (start i : ℕ) (p : Parts) where
  -- an effect that has room, part by part
  enacts : (f : Effect) {b t w : List ℕ} {h a : List ℕ} {r : ℕ} → room_in (tally_in p.book) e ≡ f → answer_of f ≡ r → book_with (tally_after f i (tally_in p.book)) p.book ≡ b
      → tags_after f (tally_in p.book).used start p.tags ≡ t → words_after f (tally_in p.book).used start p.words ≡ w
      → row_after f i (tally_in p.book).live (row p.heads p.accs) ≡ row h a → enacted e start i p ≡ turned r (parts b t w h a)
  unfolding enacted performed
  enacts f {b} {t} {w} {r = r} room q eb et ew er = rw (room, q, eb, et, ew) (ap (λ (x : Row). turned r (parts b t w x.heads x.accs)) er)

  pub goes : {t : Thread} {b h a : List ℕ} → e ≡ Goes t → put_at i ready_place t (row p.heads p.accs) ≡ row h a → b ≡ set p.book 8 (sum_or (get_or p.book 8 0) 1)
      → enacted e start i p ≡ turned 0 (parts b p.tags p.words h a)
  unfolding room_in answer_of tally_after tags_after words_after row_after tally_in
  goes {t} ie q u = enacts (Goes t) (rw ie) refl (sym (u ∙ book-kept p.book)) refl refl q

  pub ends : {b h a : List ℕ} {live n : ℕ} → e ≡ Ends → live ≡ get_or p.book 5 0 → n ≡ live - 1 → taken_at i (row p.heads p.accs) ≡ row h a
      → b ≡ set (set p.book 5 n) 8 (sum_or (get_or p.book 8 0) 1) → enacted e start i p ≡ turned 1 (parts b p.tags p.words h a)
  unfolding room_in answer_of tally_after tags_after words_after row_after tally_in
  ends ie l n q u = enacts Ends (rw ie) refl (sym (u ∙ rw (n, l) (book-live p.book _))) refl refl q

  pub waits : {t : Thread} {b h a : List ℕ} {l live : ℕ} → e ≡ Waits t l → live ≡ get_or p.book 5 0 → put_at (live - 1) (wait_place l) t (taken_at i (row p.heads p.accs)) ≡ row h a
      → b ≡ set p.book 8 (sum_or (get_or p.book 8 0) 1) → enacted e start i p ≡ turned 2 (parts b p.tags p.words h a)
  unfolding room_in answer_of tally_after tags_after words_after row_after tally_in
  waits {t} {l = l} ie n q u = enacts (Waits t l) (rw ie) refl (sym (u ∙ book-kept p.book)) refl refl (rw n at q)

  pub fills : {k : Kind} {v : Value} {t : Thread} {b tags words h a : List ℕ} {l used live : ℕ} → e ≡ Fills t k l v → used ≡ get_or p.book 4 0 → live ≡ get_or p.book 5 0
      → tags ≡ set_below used (l - start) (tag_for k v) p.tags → words ≡ set_below used (l - start) (word_of v) p.words
      → woken_at live (wait_place l) (put_at i ready_place t (row p.heads p.accs)) ≡ row h a → b ≡ set p.book 8 (sum_or (get_or p.book 8 0) 1)
      → enacted e start i p ≡ turned 0 (parts b tags words h a)
  unfolding room_in answer_of tally_after tags_after words_after row_after tally_in
  fills {k} {v} {t} {l = l} ie m n x y q u = enacts (Fills t k l v) (rw ie) refl (sym (u ∙ book-kept p.book)) (sym (rw m at x)) (sym (rw m at y)) (rw n at q)

  pub empties : {t : Thread} {b tags words h a : List ℕ} {l used : ℕ} → e ≡ Empties t l → used ≡ get_or p.book 4 0
      → tags ≡ set_below used (l - start) (kind_bit Mcell) p.tags → words ≡ set_below used (l - start) 0 p.words
      → put_at i ready_place t (row p.heads p.accs) ≡ row h a → b ≡ set p.book 8 (sum_or (get_or p.book 8 0) 1)
      → enacted e start i p ≡ turned 0 (parts b tags words h a)
  unfolding room_in answer_of tally_after tags_after words_after row_after tally_in
  empties {t} {l = l} ie m x y q u = enacts (Empties t l) (rw ie) refl (sym (u ∙ book-kept p.book)) (sym (rw m at x)) (sym (rw m at y)) q

  pub makes : {k : Kind} {m : ℕ} {t : Thread} {b tags h a : List ℕ} {used cells n : ℕ} → e ≡ Makes t k m → used ≡ get_or p.book 4 0 → cells ≡ get_or p.book 0 0 → leb (used + m) cells ≡ true → n ≡ sum_or used m
      → tags ≡ filled_from used m (kind_bit k) p.tags → put_at i ready_place t (row p.heads p.accs) ≡ row h a
      → b ≡ set (set p.book 4 n) 8 (sum_or (get_or p.book 8 0) 1) → enacted e start i p ≡ turned 0 (parts b tags p.words h a)
  unfolding room_in answer_of tally_after tags_after words_after row_after tally_in
  makes {k} {m} {t} ie l f room n x q u = enacts (Makes t k m) (rw (ie, ← l, ← f, room)) refl (sym (u ∙ rw (n, l) (book-used p.book _))) (sym (rw l at x)) refl q

  pub spawns : {new t : Thread} {b h a : List ℕ} {live share n : ℕ} → e ≡ Spawns t new → live ≡ get_or p.book 5 0 → share ≡ get_or p.book 1 0 → ltb live share ≡ true → n ≡ sum_or live 1
      → put_at live ready_place new (put_at i ready_place t (row p.heads p.accs)) ≡ row h a
      → b ≡ set (set p.book 5 n) 8 (sum_or (get_or p.book 8 0) 1) → enacted e start i p ≡ turned 0 (parts b p.tags p.words h a)
  unfolding room_in answer_of tally_after tags_after words_after row_after tally_in
  spawns {new} {t} ie l f room n q u = enacts (Spawns t new) (rw (ie, ← l, ← f, room)) refl (sym (u ∙ rw (n, l) (book-live p.book _))) refl refl (rw l at q)

  pub refuses : {m : ℕ} {b : List ℕ} → e ≡ Refuses m → b ≡ set (set (set p.book 6 m) 7 (narrow i)) 8 (sum_or (get_or p.book 8 0) 1)
      → enacted e start i p ≡ turned 3 (parts b p.tags p.words p.heads p.accs)
  unfolding room_in answer_of tally_after tags_after words_after row_after tally_in
  refuses {m} ie u = enacts (Refuses m) (rw ie) refl (sym (u ∙ book-refused p.book m (narrow i))) refl refl refl

  pub no_cells : {k : Kind} {m used cells : ℕ} {t : Thread} → e ≡ Makes t k m → used ≡ get_or p.book 4 0 → cells ≡ get_or p.book 0 0 → leb (used + m) cells ≡ false
      → enacted e start i p ≡ enacted (Refuses (refusal_number NoCellsLeft)) start i p
  unfolding enacted room_in tally_in
  no_cells ie l f room = rw (ie, ← l, ← f, room)

  pub no_threads : {live share : ℕ} {new t : Thread} → e ≡ Spawns t new → live ≡ get_or p.book 5 0 → share ≡ get_or p.book 1 0 → ltb live share ≡ false
      → enacted e start i p ≡ enacted (Refuses (refusal_number NoThreadsLeft)) start i p
  unfolding enacted room_in tally_in
  no_threads ie l f room = rw (ie, ← l, ← f, room)
