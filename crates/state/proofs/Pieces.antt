-- Where a seat's parts lie in a sound state: they hold its claim, and another claim put in their place is the machine with that claim. Assumes nothing.
use Prim.Native.Nat.{ℕ, zero, suc, ◌+◌, ◌*◌, ◌-◌, ◌≤◌, ◌<◌}
use native.Mathlib.Omega.{arith}
use native.Mathlib.Nat.{zero-mul, suc-mul}
use mathlib.Core.Path.{◌≡◌, refl, ap, sym, ◌∙◌}
use mathlib.Core.Logic.{◌≢◌}
use mathlib.Core.Bool.{true}
use mathlib.Core.List.{List, [], ◌∷◌, ◌++◌, append_assoc}
use lib.ListN.{length, get_or, take, drop, set, replicate}
use lib.Seq.{drop-append_seam, take-append-add, drop-append-add, get_or-append-add, get_or-take, get_or-drop, take-take}
use Rattle.std.proofs.lemmas.Grind.{common_steps}
use Rattle.laws.proofs.Absurd.{below-zero}
use Rattle.laws.proofs.Every.{All, all_nil, all_cons, all-get, all-also}
use Rattle.rules.specs.Claim.{Seat, Claim}
use Rattle.rules.specs.Calls.{Machine, claim_at}
use Rattle.rules.specs.Sound.{seat_sound}
use Rattle.laying.specs.Laid.{laid_book, laid_claim}
use Rattle.laying.proofs.Pairs.{plain-take}
use Rattle.laying.proofs.Fitting.{Fit}
use Rattle.laying.proofs.Fits.{Seated, seated, all_fit}
use Rattle.state.specs.State.{State, filled, laid, Long, machine_of, Enough, Stands}
use Rattle.state.specs.Seats.{base_of, cut, splice, parts_at, put_parts}
use Rattle.state.proofs.Machines.{Right, right-some, right-fits, Seats, none, more, seats-of}
use Rattle.state.proofs.Reading.{alike, long-claim}
use Rattle.state.proofs.Stands.{long-enough}

-- ---- pieces one after the other, and zeros

zero-at : (n i : ℕ) (rest : List ℕ) → i < n → get_or (replicate n 0 ++ rest) i 0 ≡ 0
zero-at n i rest h = grind (arith, common_steps)

module _ (f : Claim → List ℕ) where
  -- where the k-th piece starts
  unfoldable pub before : Machine → ℕ → ℕ
  before m zero = 0
  before [] (suc k) = 0
  before (c ∷ m) (suc k) = length (f c) + before m k

  next : (m : Machine) (k : ℕ) → k < length m → before m (suc k) ≡ before m k + length (f (claim_at m k))
  unfolding before
  next [] k h = below-zero k h
  next (c ∷ m) zero h = omega arith
  next (c ∷ m) (suc k) h = grind (arith, next m k)

  piece : (n : ℕ) (m : Machine) (k : ℕ) (rest : List ℕ) → k < length m → take (length (f (claim_at m k))) (drop (before m k) (filled f n m ++ rest)) ≡ f (claim_at m k)
  unfolding filled before
  piece n [] k rest h = below-zero k h
  piece n (c ∷ m) zero rest h = grind (arith, common_steps)
  piece n (c ∷ m) (suc k) rest h = rw append_assoc (rw drop-append-add (piece (n - length (f c)) m k rest (omega arith)))

  replaced : (n : ℕ) (m : Machine) (k : ℕ) (rest : List ℕ) → k < length m → (d : Claim) → length (f d) ≡ length (f (claim_at m k))
      → take (before m k) (filled f n m ++ rest) ++ (f d ++ drop (length (f (claim_at m k))) (drop (before m k) (filled f n m ++ rest))) ≡ filled f n (set m k d) ++ rest
  unfolding filled before
  replaced n [] k rest h d e = below-zero k h
  replaced n (c ∷ m) zero rest h d e = rw (append_assoc (f c)) (rw (drop-append_seam (f c), append_assoc (f d), e))
  replaced n (c ∷ m) (suc k) rest h d e =
      rw append_assoc
      (rw (take-append-add, drop-append-add)
      (rw append_assoc (rw (replaced (n - length (f c)) m k rest (omega arith) d e) (sym (append_assoc (f c) _ rest)))))

  -- past the last piece there are zeros
  past : (n : ℕ) (m : Machine) (i : ℕ) (rest : List ℕ) → before m (length m) ≤ i → i < n → get_or (filled f n m ++ rest) i 0 ≡ 0
  unfolding filled before
  past n [] i rest l h = zero-at n i rest h
  past n (c ∷ m) i rest l h =
      let e : i ≡ length (f c) + (i - length (f c)) = omega arith in
      rw (append_assoc, e) (get_or-append-add (f c) _ _ 0 ∙ past (n - length (f c)) m (i - length (f c)) rest (omega arith) (omega arith))

  -- pieces that are all as long
  even : (w : ℕ) {m : Machine} (k : ℕ) → All (λ c. length (f c) ≡ w) m → k ≤ length m → before m k ≡ k * w
  unfolding before
  even w zero a h = sym (zero-mul w)
  even w (suc k) all_nil h = below-zero k h
  even w (suc k) (all_cons p a) h = grind (arith, suc-mul k w, even w k a)

  -- pieces as long as their seats' regions
  in-regions : {n l : ℕ} {m : Machine} (k : ℕ) → Seats n l m → All (λ c. length (f c) ≡ c.seat.cells) m → k < length m → l + before m k ≡ (claim_at m k).seat.start
  unfolding before
  in-regions k none a h = below-zero k h
  in-regions zero (more w r) (all_cons p a) h = let e = w.at in omega arith
  in-regions (suc k) (more w r) (all_cons p a) h = grind (arith, in-regions k r a)

-- one buffer b: the k-th claim's piece lies from a to e, and another claim's can be put there
record Held (f : Claim → List ℕ) (n : ℕ) (m : Machine) (b : List ℕ) (k a e : ℕ) : Type 0 where
  there : cut a e b ≡ f (claim_at m k)
  put : (d : Claim) → length (f d) ≡ length (f (claim_at m k)) → splice a e (f d) b ≡ filled f n (set m k d) ++ drop n b

module _ (f : Claim → List ℕ) (n : ℕ) (m : Machine) (b : List ℕ) (lies : filled f n m ++ drop n b ≡ b) where
  held : (k : ℕ) → k < length m → (a e : ℕ) → a ≡ before f m k → e - a ≡ length (f (claim_at m k)) → Held f n m b k a e
  held k h a e at wide =
      record {
        there = ap (cut a e) (sym lies) ∙ rw (wide, at) (piece f n m k (drop n b) h);
        put = λ d w. ap (splice a e (f d)) (sym lies) ∙ rw (wide, at) (replaced f n m k (drop n b) h d w);
      }

  past-pieces : (i : ℕ) → before f m (length m) ≤ i → i < n → get_or b i 0 ≡ 0
  past-pieces i l h = grind (arith, past f n m i (drop n b) l h)

-- ---- the seats of a machine, by their numbers

few-seats : {n l : ℕ} {m : Machine} → Seats n l m → length m ≤ n
few-seats none = omega arith
few-seats (more w r) = let a = few-seats r in omega arith

right-at : {n l : ℕ} {m : Machine} (k : ℕ) → Seats n l m → k < length m → Right (claim_at m k).seat.start (claim_at m k)
right-at k none h = below-zero k h
right-at zero (more w r) h = let a = w.at in let b = w.inside in record { at = refl; fair = w.fair; inside = omega arith; sound = w.sound }
right-at (suc k) (more w r) h = right-at k r (omega arith)

-- ---- a seat of a sound state

-- how long the parts of a claim are
abbrev Sized : Claim → Type 0
Sized c = Long 1 c.seat.cells (laid_claim c)

-- the claim in the k-th seat
abbrev pub claim_of : State → ℕ → Claim
claim_of s k = claim_at (machine_of s) k

-- where its cells start and end
abbrev pub from : State → ℕ → ℕ
from s k = (claim_of s k).seat.start

abbrev pub to : State → ℕ → ℕ
to s k = (claim_of s k).seat.start + (claim_of s k).seat.cells

-- what each call leans on: where the k-th seat lies, that its claim stands there, and that another claim can be put there
pub record SeatAt (s : State) (k : ℕ) : Type 0 where
  pub few : k < 8
  pub lengths : Enough s
  pub some : 0 < (claim_of s k).seat.cells
  pub inside : to s k ≤ 2048
  pub sound : seat_sound (claim_of s k) ≡ true
  pub seated : Seated (claim_of s k)
  pub fit : Fit (claim_of s k)
  pub cells : get_or s.book (k * 9) 0 ≡ (claim_of s k).seat.cells
  pub image : get_or s.book (k * 9 + 2) 0 ≡ length (claim_of s k).image
  pub base : base_of s.book k ≡ from s k
  pub bytes : cut (k * 4096) (k * 4096 + length (claim_of s k).image) s.image ≡ (claim_of s k).image
  pub parts : parts_at s k (from s k) (to s k) ≡ laid_claim (claim_of s k)
  pub put : (d : Claim) → d.seat ≡ (claim_of s k).seat → Fit d
      → put_parts s k (from s k) (to s k) (laid_claim d) ≡ laid (set (machine_of s) k d) s

module _ {s : State} (t : Stands s) where
  seats : Seats 8 0 (machine_of s)
  seats = seats-of (machine_of s) t.sound

  all-sized : All Sized (machine_of s)
  all-sized = all-also (λ (c : Claim) (f : Fit c). long-claim c f) (all_fit (machine_of s) t.sound)

  module _ (k : ℕ) (h : k < length (machine_of s)) where
    right : Right (from s k) (claim_of s k)
    right = right-at k seats h

    size : Sized (claim_of s k)
    size = long-claim (claim_of s k) (right-fits right)

    at-even : (f : Claim → List ℕ) (w : ℕ) → ((c : Claim) → Sized c → length (f c) ≡ w) → k * w ≡ before f (machine_of s) k
    at-even f w l = sym (even f w k (all-also l all-sized) (omega arith))

    at-start : (f : Claim → List ℕ) → ((c : Claim) → Sized c → length (f c) ≡ c.seat.cells) → from s k ≡ before f (machine_of s) k
    at-start f l = let z = in-regions f k seats (all-also l all-sized) h in omega arith

    held-even : (f : Claim → List ℕ) (n w : ℕ) (b : List ℕ) → filled f n (machine_of s) ++ drop n b ≡ b → ((c : Claim) → Sized c → length (f c) ≡ w)
        → Held f n (machine_of s) b k (k * w) (k * w + w)
    held-even f n w b lies l = held f n (machine_of s) b lies k h _ _ (at-even f w l) (let z = l (claim_of s k) size in omega arith)

    held-region : (f : Claim → List ℕ) (n : ℕ) (b : List ℕ) → filled f n (machine_of s) ++ drop n b ≡ b → ((c : Claim) → Sized c → length (f c) ≡ c.seat.cells)
        → Held f n (machine_of s) b k (from s k) (to s k)
    held-region f n b lies l = held f n (machine_of s) b lies k h _ _ (at-start f l) (let z = l (claim_of s k) size in omega arith)

    book : Held (λ c. (laid_claim c).book) 72 (machine_of s) s.book k (k * 9) (k * 9 + 9)
    unfolding laid
    book = held-even _ 72 9 s.book (ap (λ (x : State). x.book) t.same) (λ c z. z.book)

    tags : Held (λ c. (laid_claim c).tags) 2048 (machine_of s) s.tags k (from s k) (to s k)
    unfolding laid
    tags = held-region _ 2048 s.tags (ap (λ (x : State). x.tags) t.same) (λ c z. z.tags)

    words : Held (λ c. (laid_claim c).words) 2048 (machine_of s) s.words k (from s k) (to s k)
    unfolding laid
    words = held-region _ 2048 s.words (ap (λ (x : State). x.words) t.same) (λ c z. z.words)

    heads : Held (λ c. (laid_claim c).heads) 256 (machine_of s) s.heads k (k * 32) (k * 32 + 32)
    unfolding laid
    heads = held-even _ 256 32 s.heads (ap (λ (x : State). x.heads) t.same) (λ c z. z.heads)

    accs : Held (λ c. (laid_claim c).accs) 256 (machine_of s) s.accs k (k * 32) (k * 32 + 32)
    unfolding laid
    accs = held-even _ 256 32 s.accs (ap (λ (x : State). x.accs) t.same) (λ c z. z.accs)

    image : Held (λ c. (laid_claim c).image) 32768 (machine_of s) s.image k (k * 4096) (k * 4096 + 4096)
    unfolding laid
    image = held-even _ 32768 4096 s.image (ap (λ (x : State). x.image) t.same) (λ c z. z.image)

    parts-there : parts_at s k (from s k) (to s k) ≡ laid_claim (claim_of s k)
    parts-there = alike book.there tags.there words.there heads.there accs.there image.there

    parts-put : (d : Claim) → d.seat ≡ (claim_of s k).seat → Fit d
        → put_parts s k (from s k) (to s k) (laid_claim d) ≡ laid (set (machine_of s) k d) s
    unfolding laid
    parts-put d e f =
        let z = long-claim d f in
        let cells = ap (λ (x : Seat). x.cells) e in
        alike (book.put d (z.book ∙ sym size.book)) (tags.put d (z.tags ∙ cells ∙ sym size.tags)) (words.put d (z.words ∙ cells ∙ sym size.words))
        (heads.put d (z.heads ∙ sym size.heads)) (accs.put d (z.accs ∙ sym size.accs)) (image.put d (z.image ∙ sym size.image))

    -- a number of the seat's book
    noted : (j : ℕ) → j < 9 → get_or s.book (k * 9 + j) 0 ≡ get_or (laid_book (claim_of s k)) j 0
    unfolding laid_claim
    noted j l =
        let w : k * 9 + 9 - k * 9 ≡ 9 = omega arith in
        sym (get_or-take 9 (drop (k * 9) s.book) j 0 l ∙ get_or-drop (k * 9) s.book j 0) ∙ rw w at (ap (λ (x : List ℕ). get_or x j 0) book.there)

    cells-noted : get_or s.book (k * 9) 0 ≡ (claim_of s k).seat.cells
    unfolding laid_book
    cells-noted = let z : k * 9 + 0 ≡ k * 9 = omega arith in rw z at (noted 0 (omega arith))

    image-noted : get_or s.book (k * 9 + 2) 0 ≡ length (claim_of s k).image
    unfolding laid_book
    image-noted = noted 2 (omega arith)

    image-bytes : cut (k * 4096) (k * 4096 + length (claim_of s k).image) s.image ≡ (claim_of s k).image
    unfolding laid_claim
    image-bytes =
        let n = length (claim_of s k).image in
        let w : k * 4096 + 4096 - k * 4096 ≡ 4096 = omega arith in
        let v : k * 4096 + n - k * 4096 ≡ n = omega arith in
        let z = rw w at (ap (take n) image.there) in
        rw v (sym (take-take n 4096 (drop (k * 4096) s.image) (right-fits right).image) ∙ z ∙ plain-take 4096 (claim_of s k).image)

  base-at : (k : ℕ) → k < length (machine_of s) → base_of s.book k ≡ from s k
  unfolding base_of before
  base-at zero h = sym (at-start zero h (λ c. (laid_claim c).tags) (λ c z. z.tags))
  base-at (suc k) h =
      let l : k < length (machine_of s) = omega arith in
      let a = base-at k l in
      let b = cells-noted k l in
      let d = at-start k l (λ c. (laid_claim c).tags) (λ c z. z.tags) in
      let e = at-start (suc k) h (λ c. (laid_claim c).tags) (λ c z. z.tags) in
      let g = next (λ c. (laid_claim c).tags) (machine_of s) k l in
      let i = (size k l).tags in
      omega arith

  pub seat-at : (k : ℕ) → k < length (machine_of s) → SeatAt s k
  seat-at k h =
      let w = right k h in
      record {
        few = let f = few-seats seats in omega arith;
        lengths = long-enough s t.long;
        some = right-some w;
        inside = w.inside;
        sound = w.sound;
        seated = all-get k _ (seated (machine_of s) t.sound) h;
        fit = right-fits w;
        cells = cells-noted k h;
        image = image-noted k h;
        base = base-at k h;
        bytes = image-bytes k h;
        parts = parts-there k h;
        put = parts-put k h;
      }

  -- there is no such seat
  pub no-seat-far : (k : ℕ) → 8 ≤ k → length (machine_of s) ≤ k
  no-seat-far k h = let f = few-seats seats in omega arith

  pub no-seat : (k : ℕ) → get_or s.book (k * 9) 0 ≡ 0 → length (machine_of s) ≤ k
  no-seat k z =
      let a : k < length (machine_of s) → ⊥ = λ l. let a = seat-at k l in let b = a.cells in let d = a.some in omega arith in
      omega arith

  -- there is one
  none-noted : (k : ℕ) → k < 8 → length (machine_of s) ≤ k → get_or s.book (k * 9) 0 ≡ 0
  unfolding laid
  none-noted k h l =
      let e = even (λ c. (laid_claim c).book) 9 (length (machine_of s)) (all-also (λ (c : Claim) (z : Sized c). z.book) all-sized) (omega arith) in
      past-pieces _ 72 (machine_of s) s.book (ap (λ (x : State). x.book) t.same) (k * 9) (omega arith) (omega arith)

  pub is-seat : (k : ℕ) → k < 8 → get_or s.book (k * 9) 0 ≢ 0 → k < length (machine_of s)
  is-seat k h n = grind (arith, none-noted k h)
