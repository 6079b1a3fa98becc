use Rattle.std.proofs.Common.{rules, subst, le_refl, length, ◌-◌}
use Rattle.std.proofs.KnownBytes.{Consumes-trans}
use Rattle.std.proofs.lemmas.Slice.{take-put_mid_below}
use Rattle.std.specs.Io.KnownBytes.{Consumes}
use Rattle.streams.proofs.Filled.{filled}
use Rattle.streams.proofs.read_full.Goals as goal

pub loop-done-preserved : goal.loop-done-preserved
loop-done-preserved g c =
    let within = c.loop-done.invariant.1 in
    let whole = filled c.loop-done.done (length c.loop-done.buf - c.loop-done.done) c.in-Ok.n c.loop-done.buf c.read.new.buf within c.in-Ok.ensures.bound.0 (take-put_mid_below _ _ _ _ _ (le_refl _) within) in
    (search rules, search rules, subst (Consumes _ _) whole (Consumes-trans _ _ _ _ _ c.loop-done.invariant.2 c.in-Ok.ensures.bytes.0))
