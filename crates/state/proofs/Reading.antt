-- Claims laid out seat by seat pass the test and are read back; parts that pass are the claims in them, laid out. Assumes nothing.
use Prim.Native.Nat.{ℕ, zero, suc, ◌+◌, ◌*◌, ◌-◌, ◌≤◌}
use native.Mathlib.Omega.{arith}
use mathlib.Core.Path.{◌≡◌, refl, sym, ap, ◌∙◌, subst}
use mathlib.Core.Bool.{true, false, ◌&&◌}
use mathlib.Core.List.{[], ◌∷◌}
use lib.Dec.{eqb}
use lib.ListN.{get_or, take, drop, length-drop, get_or-replicate}
use lib.Seq.{get_or-take}
use borrow.Author.Tests.{eq-eqb, ne_eqb}
use Rattle.std.proofs.lemmas.Bool.Decides.{nat_tests}
use Rattle.std.proofs.lemmas.Grind.{common_steps}
use Rattle.laws.proofs.Choice.{both, first, parted, tested}
use Rattle.rules.specs.Claim.{Claim}
use Rattle.rules.specs.Calls.{Machine, Share, fair_share}
use Rattle.rules.specs.Sound.{seat_sound}
use Rattle.laying.specs.Laid.{Parts, cell_tag, cell_word, head_number, acc_number, laid_book, laid_claim}
use Rattle.laying.specs.Back.{claim_in, well_laid}
use Rattle.laying.proofs.Spread.{length-spread}
use Rattle.laying.proofs.Fitting.{Fit, live-32}
use Rattle.laying.proofs.Pairs.{zeros-are, zeros-pass}
use Rattle.laying.proofs.Back.{laid-back, laid-well, back-laid}
use Rattle.inspection.specs.Sound.{sound_on}
use Rattle.inspection.specs.Tests.{parts_bare}
use Rattle.state.specs.State.{state, filled, Long, share, front, behind, claims_from, bare, fair_at, stand_from}
use Rattle.state.proofs.Filled.{filled-front, filled-behind, filled-long, filled-back}
use Rattle.state.proofs.Machines.{share_of, Right, Seats, none, more, right-some, right-fits}

pub alike : {p q : Parts} → p.book ≡ q.book → p.tags ≡ q.tags → p.words ≡ q.words → p.heads ≡ q.heads → p.accs ≡ q.accs → p.image ≡ q.image → p ≡ q
alike b t w h a i = rw (b, t, w, h, a, i)

unfoldable pub laid_in : ℕ → ℕ → Machine → Parts
laid_in k r m =
    state (filled (λ c. (laid_claim c).book) (k * 9) m) (filled (λ c. (laid_claim c).tags) r m) (filled (λ c. (laid_claim c).words) r m)
    (filled (λ c. (laid_claim c).heads) (k * 32) m) (filled (λ c. (laid_claim c).accs) (k * 32) m) (filled (λ c. (laid_claim c).image) (k * 4096) m)

-- ---- one seat of parts

module _ (k l : ℕ) (p : Parts) where
  pub claims-vacant : eqb (share p) 0 ≡ true → claims_from (suc k) l p ≡ []
  unfolding claims_from
  claims-vacant e = rw e

  pub claims-taken : eqb (share p) 0 ≡ false → claims_from (suc k) l p ≡ claim_in l (front p) ∷ claims_from k (l + share p) (behind p)
  unfolding claims_from
  claims-taken e = rw e

  pub stand-vacant : eqb (share p) 0 ≡ true → stand_from (suc k) l p ≡ bare p
  unfolding stand_from
  stand-vacant e = rw e

  pub stand-taken : eqb (share p) 0 ≡ false → stand_from (suc k) l p ≡ (fair_at l p && (sound_on l (front p) && stand_from k (l + share p) (behind p)))
  unfolding stand_from
  stand-taken e = grind (arith, common_steps)

-- ---- no seats

module _ (k r : ℕ) where
  long-none : Long k r (laid_in k r [])
  unfolding laid_in filled
  long-none = grind (arith, common_steps)

  bare-none : bare (laid_in k r []) ≡ true
  unfolding bare parts_bare laid_in filled
  bare-none =
      grind (arith, common_steps, zeros-pass (k * 9), zeros-pass r, zeros-pass (k * 32), zeros-pass (k * 4096))

share-none : (k r : ℕ) → eqb (share (laid_in (suc k) r [])) 0 ≡ true
unfolding laid_in filled
share-none k r = eq-eqb _ 0 (get_or-replicate {A = ℕ} (suc k * 9) 0 0 0 (omega arith))

claims-none : (k l r : ℕ) → claims_from k l (laid_in k r []) ≡ []
claims-none zero l r = unfold claims_from in refl
claims-none (suc k) l r = claims-vacant k l (laid_in (suc k) r []) (share-none k r)

stand-none : (k l r : ℕ) → stand_from k l (laid_in k r []) ≡ true
stand-none zero l r = unfold stand_from in bare-none zero r
stand-none (suc k) l r = stand-vacant k l (laid_in (suc k) r []) (share-none k r) ∙ bare-none (suc k) r

-- ---- a seat laid before others

pub long-claim : (c : Claim) → Fit c → Long 1 c.seat.cells (laid_claim c)
unfolding laid_claim laid_book
long-claim c f = record {
  book = refl;
  tags = length-spread cell_tag c.seat.cells c.cells f.used;
  words = length-spread cell_word c.seat.cells c.cells f.used;
  heads = length-spread head_number 32 c.row (live-32 c f);
  accs = length-spread acc_number 32 c.row (live-32 c f);
  image = length-spread (λ b. b) 4096 c.image f.image;
}

module _ (k n : ℕ) (c : Claim) (m : Machine) where
  share-laid : share (laid_in (suc k) n (c ∷ m)) ≡ c.seat.cells
  unfolding laid_in filled laid_claim laid_book
  share-laid = refl

  fair-laid : (l : ℕ) → Right l c → fair_at l (laid_in (suc k) n (c ∷ m)) ≡ true
  unfolding fair_at laid_in filled laid_claim laid_book
  fair-laid l w = grind (arith, common_steps, nat_tests)

  module _ (r : ℕ) (h : n ≡ c.seat.cells + r) (z : Long 1 c.seat.cells (laid_claim c)) where
    long-more : Long k r (laid_in k r m) → Long (suc k) n (laid_in (suc k) n (c ∷ m))
    unfolding laid_in
    long-more l = record {
      book = filled-long (λ c. (laid_claim c).book) c m 9 (k * 9) (omega arith) z.book l.book;
      tags = filled-long (λ c. (laid_claim c).tags) c m c.seat.cells r h z.tags l.tags;
      words = filled-long (λ c. (laid_claim c).words) c m c.seat.cells r h z.words l.words;
      heads = filled-long (λ c. (laid_claim c).heads) c m 32 (k * 32) (omega arith) z.heads l.heads;
      accs = filled-long (λ c. (laid_claim c).accs) c m 32 (k * 32) (omega arith) z.accs l.accs;
      image = filled-long (λ c. (laid_claim c).image) c m 4096 (k * 4096) (omega arith) z.image l.image;
    }

    front-laid : front (laid_in (suc k) n (c ∷ m)) ≡ laid_claim c
    unfolding laid_in
    front-laid =
        alike
        (filled-front (λ c. (laid_claim c).book) c m 9 (suc k * 9) z.book)
        (ap (λ (w : ℕ). take w (filled (λ c. (laid_claim c).tags) n (c ∷ m))) share-laid ∙ filled-front (λ c. (laid_claim c).tags) c m c.seat.cells n z.tags)
        (ap (λ (w : ℕ). take w (filled (λ c. (laid_claim c).words) n (c ∷ m))) share-laid ∙ filled-front (λ c. (laid_claim c).words) c m c.seat.cells n z.words)
        (filled-front (λ c. (laid_claim c).heads) c m 32 (suc k * 32) z.heads)
        (filled-front (λ c. (laid_claim c).accs) c m 32 (suc k * 32) z.accs)
        (filled-front (λ c. (laid_claim c).image) c m 4096 (suc k * 4096) z.image)

    behind-laid : behind (laid_in (suc k) n (c ∷ m)) ≡ laid_in k r m
    unfolding laid_in
    behind-laid =
        alike
        (filled-behind (λ c. (laid_claim c).book) c m 9 (k * 9) (omega arith) z.book)
        (ap (λ (w : ℕ). drop w (filled (λ c. (laid_claim c).tags) n (c ∷ m))) share-laid ∙ filled-behind (λ c. (laid_claim c).tags) c m c.seat.cells r h z.tags)
        (ap (λ (w : ℕ). drop w (filled (λ c. (laid_claim c).words) n (c ∷ m))) share-laid ∙ filled-behind (λ c. (laid_claim c).words) c m c.seat.cells r h z.words)
        (filled-behind (λ c. (laid_claim c).heads) c m 32 (k * 32) (omega arith) z.heads)
        (filled-behind (λ c. (laid_claim c).accs) c m 32 (k * 32) (omega arith) z.accs)
        (filled-behind (λ c. (laid_claim c).image) c m 4096 (k * 4096) (omega arith) z.image)

-- ---- the seats of a machine

-- laid out in k seats, the first region starting at l, with r cells left, it is read back and passes the test
pub record Lies (k l r : ℕ) (m : Machine) : Type 0 where
  pub long : Long k r (laid_in k r m)
  pub claims : claims_from k l (laid_in k r m) ≡ m
  pub stand : stand_from k l (laid_in k r m) ≡ true

claim-again : {l : ℕ} {c : Claim} → Right l c → claim_in l (laid_claim c) ≡ c
claim-again {l} {c} w = ap (λ (x : ℕ). claim_in x (laid_claim c)) (sym w.at) ∙ laid-back c (right-fits w)

claim-sound : {l : ℕ} {c : Claim} → Right l c → sound_on l (laid_claim c) ≡ true
unfolding sound_on
claim-sound {l} {c} w = both (laid-well c (right-fits w)) (ap seat_sound (claim-again w) ∙ w.sound)

module _ {k l r n : ℕ} {c : Claim} {m : Machine} (h : n ≡ c.seat.cells + r) (w : Right l c) (i : Lies k (l + c.seat.cells) r m) where
  abbrev all-parts : Parts
  all-parts = laid_in (suc k) n (c ∷ m)

  sized : Long 1 c.seat.cells (laid_claim c)
  sized = long-claim c (right-fits w)

  taken : eqb (share all-parts) 0 ≡ false
  taken = ne_eqb (share all-parts) 0 (λ z. let s = right-some w in let e = share-laid k n c m in omega arith)

  rest_at : {A : Type 0} (f : ℕ → Parts → A) → f (l + share all-parts) (behind all-parts) ≡ f (l + c.seat.cells) (laid_in k r m)
  rest_at f = ap (λ (x : ℕ). f (l + x) (behind all-parts)) (share-laid k n c m) ∙ ap (f (l + c.seat.cells)) (behind-laid k n c m r h sized)

  lies_more : Lies (suc k) l n (c ∷ m)
  lies_more = record {
    long = long-more k n c m r h sized i.long;
    claims =
        claims-taken k l all-parts taken
        ∙ ap (λ (x : Claim). x ∷ claims_from k (l + share all-parts) (behind all-parts)) (ap (claim_in l) (front-laid k n c m r h sized) ∙ claim-again w)
        ∙ ap (λ (x : Machine). c ∷ x) (rest_at (claims_from k) ∙ i.claims);
    stand =
        stand-taken k l all-parts taken
        ∙ both (fair-laid k n c m l w) (both (ap (sound_on l) (front-laid k n c m r h sized) ∙ claim-sound w) (rest_at (stand_from k) ∙ i.stand));
  }

pub lies : {k l : ℕ} {m : Machine} (r : ℕ) → l + r ≡ 2048 → Seats k l m → Lies k l r m
lies {k} {l} r h none = record { long = long-none k r; claims = claims-none k l r; stand = stand-none k l r }
lies r h (more {c = c} w s) =
    let i = w.inside in
    lies_more {r = r - c.seat.cells} (omega arith) w (lies (r - c.seat.cells) (omega arith) s)

-- ---- parts that stand

-- the claims in k seats' parts, the first region starting at l, with r cells left: sound, and the parts are these claims laid out
pub record Stood (k l r : ℕ) (p : Parts) : Type 0 where
  pub seats : Seats k l (claims_from k l p)
  pub same : laid_in k r (claims_from k l p) ≡ p

-- no seats
module _ (k l r : ℕ) (p : Parts) (z : Long k r p) (e : bare p ≡ true) where
  laid_none : laid_in k r [] ≡ p
  unfolding bare parts_bare laid_in filled
  laid_none =
      alike
      (grind (arith, common_steps, zeros-are p.book))
      (grind (arith, common_steps, zeros-are p.tags))
      (grind (arith, common_steps, zeros-are p.words))
      (grind (arith, common_steps, zeros-are p.heads))
      (grind (arith, common_steps, zeros-are p.accs))
      (grind (arith, common_steps, zeros-are p.image))

  stood-none : claims_from k l p ≡ [] → Stood k l r p
  stood-none q = record { seats = rw q none; same = rw q laid_none }

-- a seat before others
module _ (k l r : ℕ) (p : Parts) (z : Long (suc k) r p) where
  behind-long : share p ≤ r → Long k (r - share p) (behind p)
  behind-long h = record {
    book = length-drop 9 p.book ∙ omega (arith, z.book);
    tags = length-drop (share p) p.tags ∙ omega (arith, z.tags);
    words = length-drop (share p) p.words ∙ omega (arith, z.words);
    heads = length-drop 32 p.heads ∙ omega (arith, z.heads);
    accs = length-drop 32 p.accs ∙ omega (arith, z.accs);
    image = length-drop 4096 p.image ∙ omega (arith, z.image);
  }

  shares-are : share_of (claim_in l (front p)) ≡ record { cells = share p; threads = get_or p.book 1 0 }
  unfolding claim_in
  shares-are = rw (get_or-take 9 p.book 0 0 (omega arith), get_or-take 9 p.book 1 0 (omega arith))

  cells_are : (claim_in l (front p)).seat.cells ≡ share p
  cells_are = ap (λ (x : Share). x.cells) shares-are

  start_is : (claim_in l (front p)).seat.start ≡ l
  unfolding claim_in
  start_is = refl

  laid_more : (m : Machine) → share p ≤ r → laid_claim (claim_in l (front p)) ≡ front p → laid_in k (r - share p) m ≡ behind p
      → laid_in (suc k) r (claim_in l (front p) ∷ m) ≡ p
  unfolding laid_in
  laid_more m h e q =
      let c = claim_in l (front p) in
      alike
      (filled-back (λ c. (laid_claim c).book) c m 9 (k * 9) (omega arith) p.book z.book (ap (λ (x : Parts). x.book) e) (ap (λ (x : Parts). x.book) q))
      (filled-back (λ c. (laid_claim c).tags) c m (share p) (r - share p) (omega arith) p.tags z.tags (ap (λ (x : Parts). x.tags) e) (ap (λ (x : Parts). x.tags) q))
      (filled-back (λ c. (laid_claim c).words) c m (share p) (r - share p) (omega arith) p.words z.words (ap (λ (x : Parts). x.words) e) (ap (λ (x : Parts). x.words) q))
      (filled-back (λ c. (laid_claim c).heads) c m 32 (k * 32) (omega arith) p.heads z.heads (ap (λ (x : Parts). x.heads) e) (ap (λ (x : Parts). x.heads) q))
      (filled-back (λ c. (laid_claim c).accs) c m 32 (k * 32) (omega arith) p.accs z.accs (ap (λ (x : Parts). x.accs) e) (ap (λ (x : Parts). x.accs) q))
      (filled-back (λ c. (laid_claim c).image) c m 4096 (k * 4096) (omega arith) p.image z.image (ap (λ (x : Parts). x.image) e) (ap (λ (x : Parts). x.image) q))

  right_is : fair_at l p ≡ true → sound_on l (front p) ≡ true → Right l (claim_in l (front p))
  unfolding fair_at sound_on
  right_is f s =
      record {
        at = start_is;
        fair = ap fair_share shares-are ∙ grind (arith, common_steps);
        inside = grind (arith, common_steps, nat_tests, cells_are);
        sound = grind (arith, common_steps);
      }

  module _ (h : l + r ≡ 2048) (t : eqb (share p) 0 ≡ false) (f : fair_at l p ≡ true) (s : sound_on l (front p) ≡ true) where
    fits_in : share p ≤ r
    fits_in = let a = (right_is f s).inside in let b = cells_are in omega arith

    stood-more : Stood k (l + share p) (r - share p) (behind p) → Stood (suc k) l r p
    unfolding sound_on
    stood-more o = record {
      seats =
          rw (claims-taken k l p t)
          (more (right_is f s) (subst (λ (x : ℕ). Seats k (l + x) (claims_from k (l + share p) (behind p))) (sym cells_are) o.seats));
      same =
          rw (claims-taken k l p t)
          (laid_more (claims_from k (l + share p) (behind p)) fits_in (back-laid l (front p) (first (well_laid (front p)) _ s)) o.same);
    }

pub stood : (k l r : ℕ) (p : Parts) → l + r ≡ 2048 → Long k r p → stand_from k l p ≡ true → Stood k l r p
stood zero l r p h z e = stood-none zero l r p z (unfold stand_from in e) (unfold claims_from in refl)
stood (suc k) l r p h z e =
    tested (eqb (share p) 0)
    (λ v. stood-none (suc k) l r p z (sym (stand-vacant k l p v) ∙ e) (claims-vacant k l p v))
    (λ t.
    parted (fair_at l p) _ (sym (stand-taken k l p t) ∙ e) λ fair e.
    parted (sound_on l (front p)) _ e λ sound rest.
    let i = fits_in k l r p z h t fair sound in
    stood-more k l r p z h t fair sound (stood k (l + share p) (r - share p) (behind p) (omega arith) (behind-long k l r p z i) rest))
