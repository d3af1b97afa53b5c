-- The lent state: how the claims of a machine lie in it, and how they are read back. Assumes nothing.
use Rattle.std.specs.Prelude.{ℕ, zero, suc, ◌+◌, ◌*◌, ◌-◌, ◌≤◌, ◌≡◌, Bool, true, false, ◌&&◌, not, List, [], ◌∷◌, ◌++◌, length, get_or, take, drop, replicate, leb, eqb}
use Rattle.std.proofs.Math.Option.{Option, none, some}
use Rattle.std.specs.Prelude.{if◌then◌else◌}
use Rattle.laws.specs.Lists.{all}
use Rattle.rules.specs.Claim.{Claim}
use Rattle.rules.specs.Calls.{Machine, fair_share}
use Rattle.rules.specs.Sound.{sound}
use Rattle.lent.specs.Runs.{is_zero}
use Rattle.laying.specs.Laid.{Parts, parts, laid_claim}
use Rattle.laying.specs.Back.{claim_in}
use Rattle.inspection.specs.Sound.{sound_on}
use Rattle.inspection.specs.Tests.{parts_bare}
use Rattle.std.specs.declared.ops.ControlFlow.{ControlFlow}
use Rattle.std.specs.declared.ops.ControlFlow.TheVariants.{Continue, Break}
use Rattle.state.specs.declared.whole.Lent.{Lent}

-- the six lent buffers, each as a list: all seats' parts, one after the other
abbrev pub State : Type 0
State = Parts

abbrev pub state : List ℕ → List ℕ → List ℕ → List ℕ → List ℕ → List ℕ → State
state book tags words heads accs images = parts book tags words heads accs images

abbrev pub state_of : Lent → State
state_of l = state l.book.now l.tags.now l.words.now l.heads.now l.accs.now l.images.now

-- ---- claims written

-- the pieces of claims one after the other, then zeros: n numbers in all
unfoldable pub filled : (Claim → List ℕ) → ℕ → Machine → List ℕ
filled f n [] = replicate n 0
filled f n (c ∷ m) = f c ++ filled f (n - length (f c)) m

-- "Each lent buffer has one minimum length, the same for every opening": the claims lie there, and what is beyond stays
unfoldable pub laid : Machine → State → State
laid m s =
    state (filled (λ c. (laid_claim c).book) 72 m ++ drop 72 s.book) (filled (λ c. (laid_claim c).tags) 2048 m ++ drop 2048 s.tags)
    (filled (λ c. (laid_claim c).words) 2048 m ++ drop 2048 s.words) (filled (λ c. (laid_claim c).heads) 256 m ++ drop 256 s.heads)
    (filled (λ c. (laid_claim c).accs) 256 m ++ drop 256 s.accs) (filled (λ c. (laid_claim c).image) 32768 m ++ drop 32768 s.image)

-- the minimum length of each buffer
unfoldable pub is_long : ℕ → ℕ → ℕ → ℕ → ℕ → ℕ → Bool
is_long book tags words heads accs images =
    leb 72 book && (leb 2048 tags && (leb 2048 words && (leb 256 heads && (leb 256 accs && leb 32768 images))))

-- "its buffers have their minimum lengths"
unfoldable pub long : State → Bool
long s = is_long (length s.book) (length s.tags) (length s.words) (length s.heads) (length s.accs) (length s.image)

-- the same, each of its own
pub record Enough (s : State) : Type 0 where
  pub book : 72 ≤ length s.book
  pub tags : 2048 ≤ length s.tags
  pub words : 2048 ≤ length s.words
  pub heads : 256 ≤ length s.heads
  pub accs : 256 ≤ length s.accs
  pub image : 32768 ≤ length s.image

-- ---- claims read back

-- the cell share of the first seat; 0 where there is none
abbrev pub share : Parts → ℕ
share p = get_or p.book 0 0

-- the first seat's parts, and those of the seats behind it
abbrev pub front : Parts → Parts
front p =
    state (take 9 p.book) (take (share p) p.tags) (take (share p) p.words) (take 32 p.heads) (take 32 p.accs) (take 4096 p.image)

abbrev pub behind : Parts → Parts
behind p =
    state (drop 9 p.book) (drop (share p) p.tags) (drop (share p) p.words) (drop 32 p.heads) (drop 32 p.accs) (drop 4096 p.image)

-- the seats from k on, their cells from a on
abbrev pub ahead : ℕ → ℕ → Parts → Parts
ahead k a p =
    state (drop (k * 9) p.book) (drop a p.tags) (drop a p.words) (drop (k * 32) p.heads) (drop (k * 32) p.accs) (drop (k * 4096) p.image)

-- what of the buffers is the machine's
abbrev pub within : State → Parts
within s =
    state (take 72 s.book) (take 2048 s.tags) (take 2048 s.words) (take 256 s.heads) (take 256 s.accs) (take 32768 s.image)

-- n seats at most, the first one's region starting at l
unfoldable pub claims_from : ℕ → ℕ → Parts → Machine
claims_from zero l p = []
claims_from (suc n) l p = if eqb (share p) 0 then [] else claim_in l (front p) ∷ claims_from n (l + share p) (behind p)

unfoldable pub machine_of : State → Machine
machine_of s = claims_from 8 0 (within s)

-- parts of k seats, with r cells in all
pub record Long (k r : ℕ) (p : Parts) : Type 0 where
  pub book : length p.book ≡ k * 9
  pub tags : length p.tags ≡ r
  pub words : length p.words ≡ r
  pub heads : length p.heads ≡ k * 32
  pub accs : length p.accs ≡ k * 32
  pub image : length p.image ≡ k * 4096

-- room for a seat whose region starts at l
pub record Ahead (l : ℕ) (p : Parts) : Type 0 where
  pub book : 9 ≤ length p.book
  pub tags : length p.tags ≡ 2048 - l
  pub words : length p.words ≡ 2048 - l
  pub heads : 32 ≤ length p.heads
  pub accs : 32 ≤ length p.accs
  pub image : 4096 ≤ length p.image
  pub start : l ≤ 2048

-- ---- soundness

unfoldable pub bare : Parts → Bool
bare p = all is_zero p.book && parts_bare p.tags p.words p.heads p.accs p.image

-- "shares obey the limits": 2,048 cells in all, of which l are taken
unfoldable pub fair_at : ℕ → Parts → Bool
fair_at l p = fair_share (record { cells = share p; threads = get_or p.book 1 0 }) && leb (l + share p) 2048

-- what is found of the first seat: there is none, and whether all is zero; it is not sound; or it is, with so many cells
unfoldable pub first_in : ℕ → Parts → ControlFlow Bool ℕ
first_in l p = if eqb (share p) 0 then Break (bare p) else (if fair_at l p && sound_on l (front p) then Continue (share p) else Break false)

-- each seat's parts are those of a sound claim, and behind the last seat all is zero
unfoldable pub stand_from : ℕ → ℕ → Parts → Bool
stand_from zero l p = bare p
stand_from (suc n) l p =
    if eqb (share p) 0 then bare p else fair_at l p && (sound_on l (front p) && stand_from n (l + share p) (behind p))

-- "A state is sound exactly if: .."; there is a first seat
unfoldable pub state_sound : State → Bool
state_sound s = long s && (not (eqb (share s) 0) && stand_from 8 0 (within s))

-- the same in other words: a sound machine lies in it, and nothing else (proofs/Stands.antt)
pub record Stands (s : State) : Type 0 where
  pub long : long s ≡ true
  pub sound : sound (machine_of s) ≡ true
  pub same : laid (machine_of s) s ≡ s

-- the claims that lie in a state, or none where it is unsound
unfoldable pub claims_of : State → Option Machine
claims_of s = if state_sound s then some (machine_of s) else none
