-- `running::step` meets its contract: there is no such seat, or what the turn leaves in its parts is the machine's turn. Assumes nothing.
use native.Mathlib.Omega.{arith}
use mathlib.Core.Path.{sym, ◌∙◌}
use Rattle.state.specs.State.{state}
use Rattle.state.proofs.Regions.{region_at, region-nowhere}
use Rattle.running.proofs.Picks.{no-turn, picked, Within, within}
use Rattle.running.proofs.step.Goals as goal
use Rattle.running.proofs.step.Goals.{In-Some}

bounds : (c : In-Some) → Within (state c.args.book.now c.args.tags.now c.args.words.now c.args.heads.now c.args.accs.now c.args.images.now) c.args.seat c.in-Some.region
bounds c = within c.requires (sym c.region_of.ensures ∙ c.in-Some.is)

pub slice_bounds-turn-end : goal.slice_bounds-turn-end
slice_bounds-turn-end c = let b = bounds (goal.at.slice_bounds-turn-end c).In-Some in omega arith

pub offset_bounds-tags-a : goal.offset_bounds-tags-a
offset_bounds-tags-a c = let b = bounds (goal.at.offset_bounds-tags-a c).In-Some in omega arith

pub slice_bounds-turn-count-2 : goal.slice_bounds-turn-count-2
slice_bounds-turn-count-2 c = let b = bounds (goal.at.slice_bounds-turn-count-2 c).In-Some in omega arith

pub slice_bounds-turn-start-2 : goal.slice_bounds-turn-start-2
slice_bounds-turn-start-2 c = let b = bounds (goal.at.slice_bounds-turn-start-2 c).In-Some in omega arith

pub slice_bounds-turn-end-2 : goal.slice_bounds-turn-end-2
slice_bounds-turn-end-2 c = let b = bounds (goal.at.slice_bounds-turn-end-2 c).In-Some in omega arith

pub offset_bounds-words-a : goal.offset_bounds-words-a
offset_bounds-words-a c = let b = bounds (goal.at.offset_bounds-words-a c).In-Some in omega arith

pub slice_bounds-turn-count-3 : goal.slice_bounds-turn-count-3
slice_bounds-turn-count-3 c = let b = bounds (goal.at.slice_bounds-turn-count-3 c).In-Some in omega arith

pub slice_bounds-turn-start-3 : goal.slice_bounds-turn-start-3
slice_bounds-turn-start-3 c = let b = bounds (goal.at.slice_bounds-turn-start-3 c).In-Some in omega arith

pub slice_bounds-turn-end-3 : goal.slice_bounds-turn-end-3
slice_bounds-turn-end-3 c = let b = bounds (goal.at.slice_bounds-turn-end-3 c).In-Some in omega arith

pub slice_bounds-turn-end-4 : goal.slice_bounds-turn-end-4
slice_bounds-turn-end-4 c = let b = bounds (goal.at.slice_bounds-turn-end-4 c).In-Some in omega arith

pub slice_bounds-turn-end-5 : goal.slice_bounds-turn-end-5
slice_bounds-turn-end-5 c = let b = bounds (goal.at.slice_bounds-turn-end-5 c).In-Some in omega arith

pub slice_bounds-turn-end-6 : goal.slice_bounds-turn-end-6
slice_bounds-turn-end-6 c = let b = bounds (goal.at.slice_bounds-turn-end-6 c).In-Some in omega arith

pub overflow_cast-a : goal.overflow_cast-a
overflow_cast-a c = let b = bounds (goal.at.overflow_cast-a c).In-Some in omega arith

pub returns-in_default : goal.returns-in_default
returns-in_default c = no-turn c.requires _ _ (region-nowhere c.requires (sym c.region_of.ensures ∙ c.in_default.is))

pub returns : goal.returns
returns c = picked c.requires _ (region_at c.requires (sym c.region_of.ensures ∙ c.in-Some.is)) c.get.ensures c.turn.ensures
