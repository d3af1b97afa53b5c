-- `reporting::report_in` meets its contract: there is no such seat, or its parts lie where a sound state says, and what they say is the machine's report. Assumes nothing.
use native.Mathlib.Omega.{arith}
use mathlib.Core.Path.{refl, sym, ◌∙◌}
use Rattle.state.proofs.Regions.{region_at, region-nowhere}
use Rattle.calls.proofs.Answers.{shows_nothing, shows-there}
use Rattle.reporting.proofs.report_in.Goals as goal

pub slice_bounds-report_seat-end : goal.slice_bounds-report_seat-end
slice_bounds-report_seat-end c = let z = region_at c.requires (sym c.region_of.ensures ∙ c.in-Some.is) in omega arith

pub offset_bounds-lent-a : goal.offset_bounds-lent-a
offset_bounds-lent-a c = let z = region_at c.requires (sym c.region_of.ensures ∙ c.in-Some.is) in omega arith

pub slice_bounds-report_seat-count-2 : goal.slice_bounds-report_seat-count-2
slice_bounds-report_seat-count-2 c = let z = region_at c.requires (sym c.region_of.ensures ∙ c.in-Some.is) in omega arith

pub slice_bounds-report_seat-start-2 : goal.slice_bounds-report_seat-start-2
slice_bounds-report_seat-start-2 c = let z = region_at c.requires (sym c.region_of.ensures ∙ c.in-Some.is) in omega arith

pub slice_bounds-report_seat-end-2 : goal.slice_bounds-report_seat-end-2
slice_bounds-report_seat-end-2 c = let z = region_at c.requires (sym c.region_of.ensures ∙ c.in-Some.is) in omega arith

pub offset_bounds-lent-a-2 : goal.offset_bounds-lent-a-2
offset_bounds-lent-a-2 c = let z = region_at c.requires (sym c.region_of.ensures ∙ c.in-Some.is) in omega arith

pub slice_bounds-report_seat-count-3 : goal.slice_bounds-report_seat-count-3
slice_bounds-report_seat-count-3 c = let z = region_at c.requires (sym c.region_of.ensures ∙ c.in-Some.is) in omega arith

pub slice_bounds-report_seat-start-3 : goal.slice_bounds-report_seat-start-3
slice_bounds-report_seat-start-3 c = let z = region_at c.requires (sym c.region_of.ensures ∙ c.in-Some.is) in omega arith

pub slice_bounds-report_seat-end-3 : goal.slice_bounds-report_seat-end-3
slice_bounds-report_seat-end-3 c = let z = region_at c.requires (sym c.region_of.ensures ∙ c.in-Some.is) in omega arith

pub slice_bounds-report_seat-end-4 : goal.slice_bounds-report_seat-end-4
slice_bounds-report_seat-end-4 c = let z = region_at c.requires (sym c.region_of.ensures ∙ c.in-Some.is) in omega arith

pub returns-in_default-clause-outcome : goal.returns-in_default-clause-outcome
returns-in_default-clause-outcome c = shows_nothing c.requires (region-nowhere c.requires (sym c.region_of.ensures ∙ c.in_default.is)) refl

pub returns-clause-outcome : goal.returns-clause-outcome
returns-clause-outcome c = shows-there c.requires (region_at c.requires (sym c.region_of.ensures ∙ c.in-Some.is)) c.report_seat.ensures
