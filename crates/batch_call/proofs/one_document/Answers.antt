use mir.Syntax.{w64}
use mir.Val.{Fits}
use mathlib.Core.Path.{refl}
use native.Mathlib.Omega.{arith}
use lib.ListN.{get_or}
use Rattle.batch_call.proofs.Parts.{bytes_there, spans_there, ends, takes, tried}
use borrow.Author.Rules.{rules}
use Rattle.batch_call.proofs.one_document.Goals as goal

pub overflow_add-to : goal.overflow_add-to
overflow_add-to c = record { fits = omega (arith, ends c.requires.0 c.requires.1) }

pub slice_bounds-render_for-end : goal.slice_bounds-render_for-end
slice_bounds-render_for-end c = ends c.requires.0 c.requires.1

pub slice_bounds-render_for-count-2 : goal.slice_bounds-render_for-count-2
slice_bounds-render_for-count-2 c = bytes_there c.requires.0

pub slice_bounds-render_for-count-3 : goal.slice_bounds-render_for-count-3
slice_bounds-render_for-count-3 c = spans_there c.requires.0

pub go_on-requires : goal.go_on-requires
go_on-requires c = takes c.requires.0 c.requires.1 c.charged.ensures c.free.ensures refl refl c.render_for-r.ensures.0 c.render_for-r.auto.output c.render_for-r.auto.spans

pub returns : goal.returns
returns c = let low : Fits w64 (get_or c.answer_words.result 5 0) = search rules in tried c.requires.0 c.requires.1 c.charged.ensures c.free.ensures refl refl c.render_for-r.ensures.0 c.render_for-r.auto.output c.render_for-r.auto.spans c.answer_words.ensures low.fits c.go_on.ensures
