-- What an opening tests and writes is what the rules say of it. Assumes nothing.
use Prim.Native.Nat.{ℕ, zero, suc, ◌+◌, ◌*◌, ◌-◌, ◌/◌, ◌%◌, ◌≤◌, ◌<◌}
use native.Mathlib.Omega.{arith}
use native.Mathlib.Numerals.{add-one}
use mathlib.Core.Path.{◌≡◌, refl, sym, ap, ◌∙◌}
use mathlib.Core.Bool.{Bool, true, false, ◌&&◌}
use mathlib.Core.List.{List, [], ◌∷◌, ◌++◌}
use lib.ListN.{length, get_or, set, take, drop, replicate, drop_of_length-le, length-set, length-replicate, replicate-append-replicate}
use lib.Seq.{drop-cons, length-take-le}
use lib.Dec.{leb, eqb}
use borrow.Table.Elements.{same_len}
use Rattle.laws.specs.Lists.{all}
use Rattle.laws.proofs.Absurd.{clash, below-zero}
use Rattle.image.specs.Records.{whole_at}
use Rattle.image.specs.Reading.{read_image, read_first}
use Rattle.rules.specs.Claim.{Seat, Claim}
use Rattle.rules.specs.Turn.{code_of}
use Rattle.rules.specs.Calls.{bare, Share, fair_share, total, may_open, opened}
use Rattle.lent.specs.Runs.{wiped}
use Rattle.laying.specs.Laid.{cell_tag, cell_word, head_number, acc_number, laid_book, laid_claim}
use Rattle.laying.proofs.Spread.{spread-nil}
use Rattle.state.specs.State.{State, state, filled, laid, long, Enough}
use Rattle.state.proofs.Stands.{long-enough}
use Rattle.calls.specs.Calls.{shares_in, moved, open_call}
use Rattle.std.proofs.lemmas.Bool.Decides.{nat_tests}
use Rattle.opening.specs.Opening.{shares_over}

-- ---- shares read from a lent row

abbrev share_of : ℕ → ℕ → Share
share_of cells threads = record { cells = cells; threads = threads }

-- seat k's two numbers, and those behind them
next-share : (ns : List ℕ) (k : ℕ) → k + k + 1 < length ns
    → shares_in (drop (k + k) ns) ≡ share_of (get_or ns (k + k) 0) (get_or ns (k + k + 1) 0) ∷ shares_in (drop (k + 1 + (k + 1)) ns)
unfolding shares_in
next-share ns k h =
    let z : k + 1 + (k + 1) ≡ suc (k + k + 1) = omega arith in
    rw (drop-cons ns (k + k) 0 (omega arith), ← add-one (k + k), drop-cons ns (k + k + 1) 0 h, z)

no-share : (ns : List ℕ) (k : ℕ) → length ns ≤ k + k → shares_in (drop (k + k) ns) ≡ []
unfolding shares_in
no-share ns k h = rw (drop_of_length-le ns h)

-- ---- the test of the shares

-- every share is fair, and with `sum` cells given away the rest has room
unfoldable pub fair_with : ℕ → List Share → Bool
fair_with sum ss = all fair_share ss && leb (sum + total ss) 2048

pub record FairLeft (ns : List ℕ) (seats sum k : ℕ) : Type 0 where
  pub two : length ns ≡ seats + seats
  pub within : k ≤ seats
  pub room : sum ≤ 2048
  pub same : (all fair_share (shares_in ns) && leb (total (shares_in ns)) 2048) ≡ fair_with sum (shares_in (drop (k + k) ns))

pub fair-start : (ns : List ℕ) (seats : ℕ) → length ns ≡ seats + seats → FairLeft ns seats 0 0
unfolding fair_with
fair-start ns seats e =
    let z : 0 + total (shares_in ns) ≡ total (shares_in ns) = omega arith in
    record { two = e; within = omega arith; room = omega arith; same = rw z }

module _ {ns : List ℕ} {seats sum k : ℕ} (v : FairLeft ns seats sum k) (l : k < seats)
    {fair : Bool} (f : fair ≡ fair_share (share_of (get_or ns (k + k) 0) (get_or ns (k + k + 1) 0))) where
  abbrev cells : ℕ
  cells = get_or ns (k + k) 0

  abbrev threads : ℕ
  threads = get_or ns (k + k + 1) 0

  here : (all fair_share (shares_in ns) && leb (total (shares_in ns)) 2048) ≡ fair_with sum (share_of cells threads ∷ shares_in (drop (k + 1 + (k + 1)) ns))
  here = let e = v.two in v.same ∙ rw (next-share ns k (omega arith))

  pub not-fair : fair ≡ false → false ≡ (all fair_share (shares_in ns) && leb (total (shares_in ns)) 2048)
  unfolding fair_with all
  not-fair e = let z = here in grind (arith, nat_tests)

  pub no_room : 2048 - sum < cells → false ≡ (all fair_share (shares_in ns) && leb (total (shares_in ns)) 2048)
  unfolding fair_with total
  no_room h = let r = v.room in let z = here in grind (arith, nat_tests)

  pub fair-on : fair ≡ true → cells ≤ 2048 - sum → FairLeft ns seats (sum + cells) (k + 1)
  unfolding fair_with all total
  fair-on e h =
      let r = v.room in
      let z = here in
      record { two = v.two; within = omega arith; room = omega arith; same = grind (arith, nat_tests) }

pub fair-end : {ns : List ℕ} {seats sum k : ℕ} → FairLeft ns seats sum k → seats ≤ k → true ≡ (all fair_share (shares_in ns) && leb (total (shares_in ns)) 2048)
unfolding fair_with all total
fair-end v h =
    let e = v.two in
    let r = v.room in
    let s = v.same in
    grind (arith, nat_tests, no-share)

-- two numbers a share
count : (k : ℕ) (ns : List ℕ) → length ns ≡ k + k → length (shares_in ns) ≡ k
unfolding shares_in
count zero [] e = refl
count zero (c ∷ ns) e = clash (omega arith)
count (suc k) [] e = clash (omega arith)
count (suc k) (c ∷ []) e = clash (omega arith)
count (suc k) (c ∷ t ∷ ns) e = ap suc (count k ns (omega arith))

abbrev May : List ℕ → Bool
May ns = eqb (length ns % 2) 0 && may_open (shares_in ns)

pub seats_are : (ns : List ℕ) → length ns % 2 ≡ 0 → length (shares_in ns) ≡ length ns / 2
seats_are ns e = count (length ns / 2) ns (omega arith)

-- ---- the shares written

pub record Shared (ns b₀ b : List ℕ) (seats k : ℕ) : Type 0 where
  pub two : length ns ≡ seats + seats
  pub within : k ≤ seats
  pub most : seats ≤ 8
  pub length-kept : length b ≡ length b₀
  pub same : shares_over 0 (shares_in ns) b₀ ≡ shares_over k (shares_in (drop (k + k) ns)) b

pub shares-start : (ns b : List ℕ) (seats : ℕ) → (length ns ≡ seats + seats) × (seats ≤ 8) → Shared ns b b seats 0
shares-start ns b seats h = record { two = h.0; within = omega arith; most = h.1; length-kept = refl; same = refl }

pub shares-on : {ns b₀ b : List ℕ} {seats k : ℕ} → Shared ns b₀ b seats k → k < seats
    → Shared ns b₀ (set (set b (k * 9) (get_or ns (k + k) 0)) (k * 9 + 1) (get_or ns (k + k + 1) 0)) seats (k + 1)
unfolding shares_over
shares-on {ns} {b₀} {b} {seats} {k} v l =
    let e = v.two in
    record {
      two = e;
      within = omega arith;
      most = v.most;
      length-kept = rw (length-set, length-set) v.length-kept;
      same = v.same ∙ rw (next-share ns k (omega arith));
    }

pub shares-end : {ns b₀ b : List ℕ} {seats k : ℕ} → Shared ns b₀ b seats k → seats ≤ k → b ≡ shares_over 0 (shares_in ns) b₀
unfolding shares_over
shares-end {ns} {b₀} {b} {seats} {k} v h = let e = v.two in sym (v.same ∙ rw (no-share ns k (omega arith)))

shares-long : (k : ℕ) (ss : List Share) (b : List ℕ) → length (shares_over k ss b) ≡ length b
unfolding shares_over
shares-long k [] b = refl
shares-long k (s ∷ ss) b = shares-long (k + 1) ss (set (set b (k * 9) s.cells) (k * 9 + 1) s.threads) ∙ rw (length-set, length-set)

-- the book is as long as it was
pub book-long : (ss : List Share) {front exit : List ℕ} (b : List ℕ) → front ≡ wiped 0 (take 72 b) → exit ≡ shares_over 0 ss (front ++ drop 72 b) → length exit ≡ length b
unfolding wiped
book-long ss b f e = rw (e, f) (shares-long 0 ss (replicate (length (take 72 b)) 0 ++ drop 72 b) ∙ same_len 72 b (replicate (length (take 72 b)) 0) (length-replicate (length (take 72 b)) 0))

-- ---- what is written is the opened machine, laid out

-- a seat's row of nine numbers passed over
module _ (x0 x1 x2 x3 x4 x5 x6 x7 x8 : ℕ) where
  abbrev nine : List ℕ → List ℕ
  nine b = x0 ∷ x1 ∷ x2 ∷ x3 ∷ x4 ∷ x5 ∷ x6 ∷ x7 ∷ x8 ∷ b

  abbrev past : ℕ → ℕ
  past i = suc (suc (suc (suc (suc (suc (suc (suc (suc i))))))))

  past_row : (k : ℕ) (ss : List Share) (b : List ℕ) → shares_over (k + 1) ss (nine b) ≡ nine (shares_over k ss b)
  unfolding shares_over
  past_row k [] b = refl
  past_row k (s ∷ ss) b =
      let y : (k + 1) * 9 ≡ past (k * 9) = omega arith in
      let z : (k + 1) * 9 + 1 ≡ past (k * 9 + 1) = omega arith in
      rw (z, y) (past_row (k + 1) ss (set (set b (k * 9) s.cells) (k * 9 + 1) s.threads))

-- what opening gives a seat, laid out
bare-book : (s : Seat) → (laid_claim (bare s)).book ≡ s.cells ∷ s.threads ∷ 0 ∷ 0 ∷ 0 ∷ 0 ∷ 0 ∷ 0 ∷ 0 ∷ []
unfolding laid_claim laid_book code_of read_image read_first whole_at
bare-book s = refl

book-opened : (n l : ℕ) (ss : List Share) (rest : List ℕ) → length ss ≤ n
    → shares_over 0 ss (replicate (n * 9) 0 ++ rest) ≡ filled (λ c. (laid_claim c).book) (n * 9) (opened l ss) ++ rest
unfolding shares_over filled opened
book-opened n l [] rest h = refl
book-opened zero l (s ∷ ss) rest h = below-zero (length ss) (omega arith)
book-opened (suc n) l (s ∷ ss) rest h =
    let y : suc n * 9 ≡ suc (suc (suc (suc (suc (suc (suc (suc (suc (n * 9))))))))) = omega arith in
    let z : suc (suc (suc (suc (suc (suc (suc (suc (suc (n * 9))))))))) - 9 ≡ n * 9 = omega arith in
    rw (bare-book (record { cells = s.cells; threads = s.threads; start = l }), y, z)
    (past_row s.cells s.threads 0 0 0 0 0 0 0 0 ss (replicate (n * 9) 0 ++ rest)
    ∙ rw (book-opened n (l + s.cells) ss rest (omega arith)))

-- the numbers of all seats together, where a seat has as many as g says
abbrev taken : (Seat → ℕ) → ℕ → List Share → ℕ
taken g l [] = 0
taken g l (s ∷ ss) = g (record { cells = s.cells; threads = s.threads; start = l }) + taken g (l + s.cells) ss

taken-cells : (l : ℕ) (ss : List Share) → taken (λ s. s.cells) l ss ≡ total ss
unfolding total
taken-cells l [] = refl
taken-cells l (s ∷ ss) = rw (taken-cells (l + s.cells) ss)

taken-each : (n l : ℕ) (ss : List Share) → taken (λ _. n) l ss ≡ length ss * n
taken-each n l [] = let z : 0 * n ≡ 0 = omega arith in rw z
taken-each n l (s ∷ ss) = let z : suc (length ss) * n ≡ n + length ss * n = omega arith in rw (z, taken-each n (l + s.cells) ss)

-- zeros where a vacant seat has nothing
bare-opened : (f : Claim → List ℕ) (g : Seat → ℕ) → ((s : Seat) → f (bare s) ≡ replicate (g s) 0)
    → (n l : ℕ) (ss : List Share) → taken g l ss ≤ n → filled f n (opened l ss) ≡ replicate n 0
unfolding filled opened
bare-opened f g e n l [] h = refl
bare-opened f g e n l (s ∷ ss) h =
    let seat : Seat = record { cells = s.cells; threads = s.threads; start = l } in
    let z : g seat + (n - g seat) ≡ n = omega arith in
    rw (e seat, length-replicate, bare-opened f g e (n - g seat) (l + s.cells) ss (omega arith), replicate-append-replicate {A = ℕ} (g seat) (n - g seat) 0, z)

wiped-front : (n : ℕ) (l : List ℕ) → n ≤ length l → wiped 0 (take n l) ≡ replicate n 0
unfolding wiped
wiped-front n l h = rw (length-take-le n l h)

-- ---- the call

pub halves : (ns : List ℕ) → length ns % 2 ≡ 0 → length ns ≡ length ns / 2 + length ns / 2
halves ns e = omega arith

pub pairs : (ns : List ℕ) → May ns ≡ true → (length ns ≡ length ns / 2 + length ns / 2) × (length ns / 2 ≤ 8)
unfolding may_open
pairs ns o = grind (arith, nat_tests, seats_are)

module _ (s : State) (ns : List ℕ) (e : long s ≡ true) (o : (eqb (length ns % 2) 0 && may_open (shares_in ns)) ≡ true) where
  abbrev ss : List Share
  ss = shares_in ns

  pub enough : Enough s
  enough = long-enough s e

  seats : length ss ≤ 8
  unfolding may_open
  seats = grind (arith, nat_tests)

  most : total ss ≤ 2048
  unfolding may_open
  most = grind (arith, nat_tests)

  -- a buffer of zeros, each seat having as many as g says
  zeros : (f : Claim → List ℕ) (g : Seat → ℕ) → ((s : Seat) → f (bare s) ≡ replicate (g s) 0) → (n : ℕ) (l : List ℕ) → n ≤ length l → taken g 0 ss ≤ n
      → filled f n (opened 0 ss) ++ drop n l ≡ wiped 0 (take n l) ++ drop n l
  zeros f g z n l h t = rw (wiped-front n l h, bare-opened f g z n 0 ss t)

  pub opens : open_call s ns ≡ moved 0 (state (shares_over 0 ss (wiped 0 (take 72 s.book) ++ drop 72 s.book)) (wiped 0 (take 2048 s.tags) ++ drop 2048 s.tags)
      (wiped 0 (take 2048 s.words) ++ drop 2048 s.words) (wiped 0 (take 256 s.heads) ++ drop 256 s.heads)
      (wiped 0 (take 256 s.accs) ++ drop 256 s.accs) (wiped 0 (take 32768 s.image) ++ drop 32768 s.image))
  unfolding open_call laid
  opens =
      let n = enough in
      let a = seats in
      let b = most in
      rw (
        e,
        o,
        ← book-opened 8 0 ss (drop 72 s.book) a,
        wiped-front 72 s.book n.book,
        zeros (λ c. (laid_claim c).tags) (λ t. t.cells) (λ t. unfold laid_claim in spread-nil cell_tag t.cells) 2048 s.tags n.tags (rw (taken-cells 0 ss) b),
        zeros (λ c. (laid_claim c).words) (λ t. t.cells) (λ t. unfold laid_claim in spread-nil cell_word t.cells) 2048 s.words n.words (rw (taken-cells 0 ss) b),
        zeros (λ c. (laid_claim c).heads) (λ _. 32) (λ _. unfold laid_claim in spread-nil head_number 32) 256 s.heads n.heads (rw (taken-each 32 0 ss) (omega arith)),
        zeros (λ c. (laid_claim c).accs) (λ _. 32) (λ _. unfold laid_claim in spread-nil acc_number 32) 256 s.accs n.accs (rw (taken-each 32 0 ss) (omega arith)),
        zeros (λ c. (laid_claim c).image) (λ _. 4096) (λ _. unfold laid_claim in spread-nil (λ b. b) 4096) 32768 s.image n.image (rw (taken-each 4096 0 ss) (omega arith)),
      )

  -- each buffer's front wiped, and the shares written
  pub goes : {front book tags words heads accs images : List ℕ} → front ≡ wiped 0 (take 72 s.book) ++ drop 72 s.book → book ≡ shares_over 0 ss front
      → tags ≡ wiped 0 (take 2048 s.tags) ++ drop 2048 s.tags → words ≡ wiped 0 (take 2048 s.words) ++ drop 2048 s.words
      → heads ≡ wiped 0 (take 256 s.heads) ++ drop 256 s.heads → accs ≡ wiped 0 (take 256 s.accs) ++ drop 256 s.accs
      → images ≡ wiped 0 (take 32768 s.image) ++ drop 32768 s.image
      → open_call s ns ≡ moved 0 (state book tags words heads accs images)
  goes f b t w h a i = opens ∙ rw (b, f, t, w, h, a, i)
