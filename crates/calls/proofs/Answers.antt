-- A load, a clearing and a report by a seat's code, on its parts of a sound state, are what the rules say of them. Assumes nothing.
use Prim.Native.Nat.{ℕ, ◌+◌, ◌*◌, ◌≤◌}
use mathlib.Core.Path.{◌≡◌, ap, sym, ◌∙◌}
use mathlib.Core.Bool.{true}
use mathlib.Core.List.{List}
use lib.Dec.{ltb}
use lib.ListN.{length}
use Rattle.laws.specs.Lists.{all}
use Rattle.rules.specs.declared.Report.{Report}
use Rattle.rules.specs.Calls.{Event, loads, asks, clears, message, hear, absent, tell, blank, load, number_in}
use Rattle.soundness.specs.Events.{ByteEvent}
use Rattle.laying.specs.Laid.{Parts, laid_claim}
use Rattle.lodging.specs.Lodged as Lodged
use Rattle.lodging.specs.Lodged.{load_on, clear_on}
use Rattle.reports.specs.Report.{report_on}
use Rattle.tying.proofs.Lodgings.{load_told, load_same, clear-same}
use Rattle.tying.proofs.Reports.{report-same}
use Rattle.state.specs.State.{State, machine_of, Stands}
use Rattle.state.specs.Seats.{cut, parts_at, put_parts}
use Rattle.state.proofs.Pieces.{claim_of, SeatAt, seat-at}
use Rattle.state.proofs.Regions.{RegionAt}
use Rattle.calls.specs.Calls.{place_in, report_in, Moved, moved, said_to, Loaded, loaded, loaded_in, shown, shown_in}
use Rattle.calls.proofs.Said.{said-nowhere, said_here, reply-nowhere, reply-here}

-- what a call leaves in the parts of seat k, its cells from a to e, put back; with its answer
abbrev pub clear_back : State → ℕ → ℕ → ℕ → Lodged.Cleared → Moved
clear_back s k a e x = moved x.number (put_parts s k a e x.after)

abbrev pub load_back : State → ℕ → ℕ → ℕ → Lodged.Loaded → Loaded
load_back s k a e x = loaded x.number x.place (put_parts s k a e x.after)

-- ---- there is no such seat: "20: load, report or clear"

module _ {s : State} (t : Stands s) {k : ℕ} (h : length (machine_of s) ≤ k) where
  pub clears-nothing : said_to (machine_of s) s k clears ≡ moved 20 s
  unfolding number_in absent
  clears-nothing = said-nowhere t k clears h

  pub loads-nothing : (image : List ℕ) → loaded_in (machine_of s) s k image ≡ loaded 20 0 s
  unfolding loaded_in said_to number_in place_in absent
  loads-nothing image =
      ap (λ (x : Moved). loaded x.answer (place_in (tell (machine_of s) (message k (loads image))).reply) x.state) (said-nowhere t k (loads image) h)
      ∙ rw (reply-nowhere t k (loads image) h)

  pub shows_nothing : {x : Report} → x ≡ blank → shown_in (machine_of s) k ≡ shown 20 x
  unfolding shown_in number_in report_in absent
  shows_nothing r = rw (reply-nowhere t k asks h) (ap (shown 20) (sym r))

-- ---- there is one, whose cells lie from a to e

module _ {s : State} (t : Stands s) {k a e : ℕ} (g : RegionAt s k a e) where
  z : SeatAt s k
  z = seat-at t k g.seat

  parts-there : parts_at s k a e ≡ laid_claim (claim_of s k)
  parts-there = rw (g.starts, g.ends) z.parts

  said-there : (v : Event) → ByteEvent v
      → said_to (machine_of s) s k v ≡ moved (number_in (hear (claim_of s k) v).reply) (put_parts s k a e (laid_claim (hear (claim_of s k) v).claim))
  said-there v b = rw (g.starts, g.ends) (said_here t k g.seat v b)

  pub clears-there : {x : Lodged.Cleared} → clear_on (parts_at s k a e) ≡ x → said_to (machine_of s) s k clears ≡ clear_back s k a e x
  unfolding hear number_in
  clears-there r =
      said-there clears tt ∙ ap (clear_back s k a e) (sym (ap clear_on parts-there ∙ clear-same (claim_of s k) z.seated z.sound) ∙ r)

  module _ (image : List ℕ) (b : all (λ b. ltb b 256) image ≡ true) where
    loaded-there : loaded_in (machine_of s) s k image
        ≡ loaded (load (claim_of s k) image).number (load (claim_of s k) image).place (put_parts s k a e (laid_claim (load (claim_of s k) image).claim))
    unfolding loaded_in said_to hear number_in place_in
    loaded-there =
        ap (λ (x : Moved). loaded x.answer (place_in (tell (machine_of s) (message k (loads image))).reply) x.state) (said-there (loads image) b)
        ∙ rw (reply-here t k (loads image) g.seat)

    pub loads-there : {x : Lodged.Loaded} → load_on a image (parts_at s k a e) ≡ x → loaded_in (machine_of s) s k image ≡ load_back s k a e x
    loads-there r =
        let w : load_on a image (laid_claim (claim_of s k)) ≡ load_told (load (claim_of s k) image) = rw g.starts (load_same (claim_of s k) z.seated z.sound image b) in
        loaded-there ∙ ap (load_back s k a e) (sym (ap (load_on a image) parts-there ∙ w) ∙ r)

  pub shows-there : {x : Report}
      → x ≡ report_on (cut (k * 9) (k * 9 + 9) s.book) (cut a e s.tags) (cut a e s.words) (cut (k * 32) (k * 32 + 32) s.heads)
      → shown_in (machine_of s) k ≡ shown 0 x
  unfolding shown_in hear number_in report_in laid_claim
  shows-there r =
      rw (reply-here t k asks g.seat)
      (ap (shown 0)
      (sym
      (r ∙ ap (λ (p : Parts). report_on p.book p.tags p.words p.heads) parts-there ∙ report-same (claim_of s k) z.seated z.sound)))
