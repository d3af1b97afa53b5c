-- `clearing::clear_in` meets its contract: there is no such seat, or its parts lie where a sound state says, and what is left in them is the machine's clearing. Assumes nothing.
use native.Mathlib.Omega.{arith}
use mathlib.Core.Path.{sym, ◌∙◌}
use Rattle.state.proofs.Regions.{region_at, region-nowhere}
use Rattle.calls.proofs.Answers.{clears-nothing, clears-there}
use Rattle.clearing.proofs.clear_in.Goals as goal

pub slice_bounds-clear_seat-end : goal.slice_bounds-clear_seat-end
slice_bounds-clear_seat-end c = let z = region_at c.requires (sym c.region_of.ensures ∙ c.in-Some.is) in omega arith

pub offset_bounds-tags-a : goal.offset_bounds-tags-a
offset_bounds-tags-a c = let z = region_at c.requires (sym c.region_of.ensures ∙ c.in-Some.is) in omega arith

pub slice_bounds-clear_seat-count-2 : goal.slice_bounds-clear_seat-count-2
slice_bounds-clear_seat-count-2 c = let z = region_at c.requires (sym c.region_of.ensures ∙ c.in-Some.is) in omega arith

pub slice_bounds-clear_seat-start-2 : goal.slice_bounds-clear_seat-start-2
slice_bounds-clear_seat-start-2 c = let z = region_at c.requires (sym c.region_of.ensures ∙ c.in-Some.is) in omega arith

pub slice_bounds-clear_seat-end-2 : goal.slice_bounds-clear_seat-end-2
slice_bounds-clear_seat-end-2 c = let z = region_at c.requires (sym c.region_of.ensures ∙ c.in-Some.is) in omega arith

pub offset_bounds-words-a : goal.offset_bounds-words-a
offset_bounds-words-a c = let z = region_at c.requires (sym c.region_of.ensures ∙ c.in-Some.is) in omega arith

pub slice_bounds-clear_seat-count-3 : goal.slice_bounds-clear_seat-count-3
slice_bounds-clear_seat-count-3 c = let z = region_at c.requires (sym c.region_of.ensures ∙ c.in-Some.is) in omega arith

pub slice_bounds-clear_seat-start-3 : goal.slice_bounds-clear_seat-start-3
slice_bounds-clear_seat-start-3 c = let z = region_at c.requires (sym c.region_of.ensures ∙ c.in-Some.is) in omega arith

pub slice_bounds-clear_seat-end-3 : goal.slice_bounds-clear_seat-end-3
slice_bounds-clear_seat-end-3 c = let z = region_at c.requires (sym c.region_of.ensures ∙ c.in-Some.is) in omega arith

pub slice_bounds-clear_seat-end-4 : goal.slice_bounds-clear_seat-end-4
slice_bounds-clear_seat-end-4 c = let z = region_at c.requires (sym c.region_of.ensures ∙ c.in-Some.is) in omega arith

pub slice_bounds-clear_seat-end-5 : goal.slice_bounds-clear_seat-end-5
slice_bounds-clear_seat-end-5 c = let z = region_at c.requires (sym c.region_of.ensures ∙ c.in-Some.is) in omega arith

pub slice_bounds-clear_seat-end-6 : goal.slice_bounds-clear_seat-end-6
slice_bounds-clear_seat-end-6 c = let z = region_at c.requires (sym c.region_of.ensures ∙ c.in-Some.is) in omega arith

pub returns-in_default-clause-outcome : goal.returns-in_default-clause-outcome
returns-in_default-clause-outcome c = clears-nothing c.requires (region-nowhere c.requires (sym c.region_of.ensures ∙ c.in_default.is))

pub returns-clause-outcome : goal.returns-clause-outcome
returns-clause-outcome c = clears-there c.requires (region_at c.requires (sym c.region_of.ensures ∙ c.in-Some.is)) c.clear_seat.ensures.outcome
